-- What a run does with the connector that is handed in.
use Rattle.std.specs.Prelude.{◌≡◌, ◌⊎◌, [], Some, None, IsSomeAnd, List, ℕ, Result}
use Rattle.qe_base.specs.Causes.{HasCause}
use Rattle.qe_base.specs.Schemas.{Schema}
use Rattle.qe_view.specs.Attached.{Attaches, Connected, HasText, KeepsOther}
use Rattle.qe_view.specs.LayoutText.{layout_text}
use Rattle.qe_view.specs.Layouts.{layout_of}
use Rattle.qe_view.specs.declared.changes.AttachFault.{AttachFault}

-- attaching it at the place without a name, with the layout of a schema, left it so with this result
abbrev pub AttachesFor : Schema → Connected → Connected → Result (Unit {0}) AttachFault → Type 0
AttachesFor schema given back result = Attaches [] (layout_of schema) given back result

-- it is attached at the place without a name, with the layout of a schema
abbrev pub IsAttached : Schema → Connected → Type 0
IsAttached schema connected = connected.attached ≡ Some (record { place = []; layout = layout_of schema })

-- nothing was done with it, or it was only attached, if that was answered
abbrev pub IsIdle : Schema → Connected → Connected → Type 0
IsIdle schema given back = (back ≡ given) ⊎ ((result : Result (Unit {0}) AttachFault) × AttachesFor schema given back result)

-- It isn't attached: it keeps what it kept, and got no call that is counted.
pub record IsUnopened (given back : Connected) : Type 0 where
  pub attached : back.attached ≡ None
  pub keeps : back.keeps ≡ given.keeps
  pub misfits : back.misfits ≡ given.misfits
  pub calls : back.calls ≡ given.calls

-- the connector failed when it was to be attached, which one that can't fail never does
abbrev pub FailsToOpen : Connected → Connected → Type 0
FailsToOpen given back = HasCause given.faults back.faults (Unit {0})

-- the layout of a schema, as text
abbrev pub laid_out : Schema → List ℕ
laid_out schema = layout_text (layout_of schema)

-- what the connector keeps, where it is told, is laid out in another way; and it didn't fail
abbrev pub IsLaidOtherwise : Schema → Connected → Connected → Type 0
IsLaidOtherwise schema given back = (kept : List ℕ) × KeepsOther given.keeps kept (laid_out schema) × HasCause given.faults back.faults ⊥

-- the connector keeps nothing or what is laid out so, and tells that
abbrev pub IsLaidOut : Schema → Connected → Type 0
IsLaidOut schema given = IsSomeAnd given.keeps (λ kept. HasText kept (laid_out schema))
