-- What calls leave of a view: its counts, the cause of a refusal, and what can be got back.
use Rattle.std.specs.Prelude.{◌≡◌, ◌≤◌, true, [], ◌∷◌, ◌++◌, length, take, slice_get, is_some, Option, Some, None, option_map, Result, Ok, Err, OnOk, OnErr, IfSome, IsSomeAnd}
use Rattle.qe_base.specs.Causes.{CountsFaults, HasCause}
use Rattle.qe_schema.specs.Tables.{Tables}
use Rattle.qe_view.specs.Answers.{NamesColumn, is_misfit}
use Rattle.qe_view.specs.Calls.{CallCounts, MakesAtMost}
use Rattle.qe_view.specs.Versions.{Viewed, recounted}
use Rattle.qe_view.specs.declared.changes.ConnFault.{ConnFault}
use Rattle.qe_view.specs.declared.changes.ConnFault.TheVariants.{Failed}

-- ---- counts and causes

abbrev pub IsFailed : Option ConnFault → Type 0
IsFailed fault = IsSomeAnd fault (λ one. one ≡ Failed)

abbrev pub IsMisfitFault : Option ConnFault → Type 0
IsMisfitFault fault = IsSomeAnd fault (λ one. is_misfit one ≡ true)

-- Calls of a view ended with this fault or with none, and made no more calls below than these. There only counts
-- changed, and nothing was applied. A fault has its cause: a count that rose.
pub record Leaves (most : CallCounts) (before after : Viewed) (fault : Option ConnFault) : Type 0 where
  pub schema : after.schema ≡ before.schema
  pub below : after.below ≡ recounted before.below after.below
  pub failed : HasCause before.below.faults after.below.faults (IsFailed fault)
  pub misfit : CountsFaults before.below.misfits after.below.misfits (IsMisfitFault fault)
  pub tells : is_some before.below.told ≡ true → IsMisfitFault fault → ⊥
  pub column : IfSome fault (NamesColumn before.schema)
  pub calls : MakesAtMost most before.below.calls after.below.calls
  pub applies : after.below.calls.applies ≡ before.below.calls.applies

-- the fault of a refused call
abbrev pub fault_in : {T : Type 0} → Result T ConnFault → Option ConnFault
fault_in (Ok found) = None
fault_in (Err fault) = Some fault

-- ---- tables

-- the tables are as they were, and so is what can be taken back
abbrev pub Same : Viewed → Viewed → Type 0
Same before after = (after.now ≡ before.now) × (after.past ≡ before.past)

-- what could be taken back still can, and so can all that came since
pub record CanGoBack (before after : Viewed) : Type 0 where
  pub made : length before.past ≤ length after.past
  pub past : take (length before.past) after.past ≡ before.past
  pub now : slice_get (after.past ++ after.now ∷ []) (length before.past) ≡ Some before.now

-- the tables were changed so, by changes that can be taken back
pub record ChangesTo (change : Tables → Tables) (before after : Viewed) : Type 0 where
  pub now : after.now ≡ option_map change before.now
  pub back : CanGoBack before after

-- the tables were changed so, or after a refusal nothing was
pub record ChangesOrLeaves {T E : Type 0} (change : Tables → Tables) (before after : Viewed) (result : Result T E) : Type 0 where
  pub ok : OnOk result (ChangesTo change before after)
  pub err : OnErr result (Same before after)
