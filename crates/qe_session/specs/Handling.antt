-- What handling an event does.
use Rattle.std.specs.Prelude.{◌≡◌, ◌⊎◌, ℕ, ◌≤◌, ◌<◌, ◌&&◌, Bool, true, List, [], ◌∷◌, ◌++◌, length, is_some, Option}
use Rattle.std.specs.List.{list_all}
use Rattle.qe_base.specs.Causes.{HasCause, Rose}
use Rattle.qe_base.specs.Schemas.{Schema}
use Rattle.qe_base.specs.declared.answer.OpFault.TheVariants as fault
use Rattle.qe_base.specs.declared.answer.Outside.{Outside}
use Rattle.qe_base.specs.declared.event.Entry.{Entry}
use Rattle.qe_base.specs.declared.event.Event.{Event}
use Rattle.qe_base.specs.declared.event.Reply.{Reply}
use Rattle.qe_base.specs.declared.event.Reply.TheVariants as replies
use Rattle.qe_base.specs.declared.event.What.{What}
use Rattle.qe_base.specs.declared.event.What.TheVariants as what
use Rattle.qe_base.specs.declared.write.Op.{Op}
use Rattle.qe_history.specs.History.{IsGreeting, MayCall}
use Rattle.qe_history.specs.State.{FailsAt, RefusesUnseen, State, Step}
use Rattle.qe_reading.specs.CarriedOut.{is_carried_out}
use Rattle.qe_writing.specs.WriteFits.{op_fits}
use Rattle.qe_view.specs.Attached.{Connected}
use Rattle.qe_view.specs.Calls.{CallCounts, MakesAtMost, more}
use Rattle.qe_ops.specs.Bounds.{both_calls}
use Rattle.qe_session.specs.Performing.{Calm, Outcomes, Unchanged, calls_for, only_reads}
use Rattle.qe_session.specs.Standing.{StandsFor, StandsForState}

-- ---- which events are handled so far

-- an operation that fits the schema and is carried out
abbrev pub is_handled : Schema → Op → Bool
is_handled schema op = op_fits schema op && is_carried_out schema op

-- a greeting, an operation, or a batch of 1 to 64 of them
abbrev pub Fits : Schema → What → Type 0
Fits schema what.Hello = Unit {0}
Fits schema (what.Single op) = is_handled schema op ≡ true
Fits schema (what.Batch ops) = (list_all (is_handled schema) ops ≡ true) × (0 < length ops) × (length ops ≤ 64)
Fits schema _ = ⊥

-- ---- histories

-- the caller is told that it hasn't seen so far, unless memory is short for that
abbrev pub TellsUnseen : ℕ → Option ℕ → Reply → Type 0
TellsUnseen place seen reply = RefusesUnseen place seen reply ⊎ (reply ≡ replies.Memory)

-- the reply to a greeting is a greeting
abbrev pub GreetsBack : What → Reply → Type 0
GreetsBack asked reply = IsGreeting asked → reply ≡ replies.Hello

-- from each state that was stood for this is a step to one that now is
abbrev pub Moves : Schema → ℕ → Event → Reply → Connected → Connected → Type 0
Moves schema place event reply before after = (state : State) → StandsForState schema before state → (next : State) × StandsForState schema after next × Step state place event reply next

-- Each legal history that was stood for goes on with the entry of this event, for each caller who may call.
abbrev pub GoesOn : Schema → ℕ → Event → Reply → Connected → Connected → Type 0
GoesOn schema place event reply before after =
    (opening : State) (history : List Entry) (caller : ℕ) → StandsFor schema before opening history → place ≡ length history → MayCall history caller event.what
    → StandsFor schema after opening (history ++ record { caller = caller; event = event; reply = reply } ∷ [])

-- ---- causes and calls

abbrev pub IsFault : Reply → Type 0
IsFault (replies.Refused index (fault.Connector first last)) = Unit {0}
IsFault _ = ⊥

abbrev pub TellsCounts : Reply → ℕ → ℕ → Type 0
TellsCounts (replies.Refused index (fault.Connector first last)) before after = (first ≡ before) × (last ≡ after)
TellsCounts _ before after = Unit {0}

abbrev pub IsMisfit : Reply → Type 0
IsMisfit (replies.Refused index (fault.Misfit table column)) = Unit {0}
IsMisfit _ = ⊥

-- A fault is replied just where the connector's count of them rose, and tells it before and after; a misfit only
-- where that count rose, and not of a connector that tells.
pub record HasCauses (reply : Reply) (before after : Connected) : Type 0 where
  pub failed : HasCause before.faults after.faults (IsFault reply)
  pub counts : TellsCounts reply before.faults.count after.faults.count
  pub misfit : IsMisfit reply → Rose before.misfits after.misfits
  pub tells : is_some before.told ≡ true → IsMisfit reply → ⊥

-- one call to apply changes, if any
abbrev pub one_apply : CallCounts
one_apply = record { loads = 0; scans = 0; pages = 0; lasts = 0; applies = 1 }

-- Of the connector no more calls were made than the operations need and one to apply changes; none of that kind where
-- the tables are told as before unless it failed, and none for reads; no call at all for a greeting.
pub record Calls (schema : Schema) (asked : What) (before after : Connected) : Type 0 where
  pub most : MakesAtMost (both_calls (calls_for schema asked) one_apply) before.calls after.calls
  pub applied : ((after.calls.applies ≡ before.calls.applies) × (after.told ≡ before.told)) ⊎ (after.calls.applies ≡ more before.calls.applies)
  pub reads : only_reads asked ≡ true → after.calls.applies ≡ before.calls.applies
  pub greeting : IsGreeting asked → after.calls ≡ before.calls

-- ---- what an event with operations does, once what its caller had seen was tested

-- the connector failed at the operations, and tells its counts before and after
pub record DoesFail (schema : Schema) (asked : What) (reply : Reply) (before after : Connected) : Type 0 where
  pub index : Option ℕ
  pub replied : reply ≡ replies.Refused index (fault.Connector before.faults.count after.faults.count)
  pub fails : (outside : Outside) → FailsAt schema before.told outside asked index
  pub told : after.told ≡ before.told
  pub cause : HasCause before.faults after.faults (Unit {0})

-- the reply and the tables after it are an outcome of the operations, or memory was short, or the connector failed
abbrev pub DoesAs : Schema → What → Reply → Connected → Connected → Type 0
DoesAs schema asked reply before after =
    (Outcomes schema asked before.told reply after.told × Calm before.faults after.faults) ⊎ (((reply ≡ replies.Memory) × Unchanged before after) ⊎ DoesFail schema asked reply before after)

pub record Does (schema : Schema) (asked : What) (reply : Reply) (before after : Connected) : Type 0 where
  pub done : DoesAs schema asked reply before after
  pub causes : HasCauses reply before after
  pub calls : Calls schema asked before after
  pub attached : after.attached ≡ before.attached
