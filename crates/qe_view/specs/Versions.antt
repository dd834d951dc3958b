-- What is seen of a view, and what its calls do to its tables.
use Rattle.std.specs.Prelude.{◌≡◌, ℕ, List, [], ◌∷◌, ◌++◌, take, slice_get, Option, Some, option_map, Result, OnOk, OnErr, IfErr, IfSome}
use Rattle.qe_base.specs.Schemas.{Schema}
use Rattle.qe_schema.specs.Fits.{FitsSchema}
use Rattle.qe_schema.specs.Tables.{Tables}
use Rattle.qe_view.specs.Answers.{HasCauses, NamesColumn}
use Rattle.qe_view.specs.Attached.{Connected}
use Rattle.qe_view.specs.Calls.{CallCounts, AtMost}
use Rattle.qe_view.specs.declared.changes.ConnFault.{ConnFault}

-- All that is seen of a view: the schema of its tables; the tables now, and before each change that can be taken
-- back, the oldest first, where it tells; and what is below, in which its changes aren't made yet.
pub record Viewed : Type 0 where
  pub schema : Schema
  pub now : Option Tables
  pub past : List (Option Tables)
  pub below : Connected

-- what is below, of which counts alone may differ
abbrev pub recounted : Connected → Connected → Connected
recounted before after = record before { faults = after.faults; misfits = after.misfits; calls = after.calls }

-- Nothing changed but counts below, after no call there or one of this kind.
pub record OnlyViewed {T : Type 0} (one : CallCounts → CallCounts) (before after : Viewed) (result : Result T ConnFault) : Type 0 where
  pub causes : HasCauses before.below after.below result
  pub column : IfErr result (NamesColumn before.schema)
  pub calls : AtMost one before.below.calls after.below.calls
  pub others : after ≡ record before { below = recounted before.below after.below }

-- a change was made, which can be taken back
abbrev pub changed : (Tables → Tables) → Viewed → Viewed
changed change seen = record seen { now = option_map change seen.now; past = seen.past ++ seen.now ∷ [] }

-- The change was made, or after a refusal nothing was. No call was made below.
pub record Changes (change : Tables → Tables) (before after : Viewed) (result : Result (Unit {0}) ConnFault) : Type 0 where
  pub causes : HasCauses before.below after.below result
  pub column : IfErr result (NamesColumn before.schema)
  pub calls : after.below.calls ≡ before.below.calls
  pub ok : OnOk result (after ≡ record (changed change before) { below = recounted before.below after.below })
  pub err : OnErr result (after ≡ record before { below = recounted before.below after.below })

-- all changes from this number on were taken back
pub record GoesBack (mark : ℕ) (before after : Viewed) : Type 0 where
  pub now : slice_get (before.past ++ before.now ∷ []) mark ≡ Some after.now
  pub past : after.past ≡ take mark before.past
  pub others : after ≡ record before { now = after.now; past = after.past }

-- the change leads to tables that fit, where they are told
abbrev pub LeadsToFit : Viewed → (Tables → Tables) → Type 0
LeadsToFit seen change = IfSome seen.now (λ tables. FitsSchema seen.schema (change tables))
