-- What running the operations of an event over a view comes to, and what is told of that in the end.
use Rattle.std.specs.Prelude.{◌≡◌, ◌⊎◌, Bool, true, false, List, [], ◌∷◌, Option, Some, None, Result, Ok, Err}
use Rattle.std.specs.List.{list_all}
use Rattle.qe_base.specs.Causes.{Faults, HasCause}
use Rattle.qe_base.specs.Schemas.{Schema}
use Rattle.qe_base.specs.declared.answer.Answer.{Answer}
use Rattle.qe_base.specs.declared.answer.OpFault.{OpFault}
use Rattle.qe_base.specs.declared.answer.OpFault.TheVariants as fault
use Rattle.qe_base.specs.declared.answer.Outside.{Outside}
use Rattle.qe_base.specs.declared.event.Reply.{Reply}
use Rattle.qe_base.specs.declared.event.Reply.TheVariants as replies
use Rattle.qe_base.specs.declared.event.What.{What}
use Rattle.qe_base.specs.declared.event.What.TheVariants as what
use Rattle.qe_base.specs.declared.write.Op.{Op}
use Rattle.qe_history.specs.State.{ComesOf, FailsAt}
use Rattle.qe_ops.specs.Bounds.{both_calls, calls_of, reads_alone}
use Rattle.qe_ops.specs.Leaves.{Leaves}
use Rattle.qe_schema.specs.Tables.{Tables}
use Rattle.qe_view.specs.Attached.{Connected}
use Rattle.qe_view.specs.Calls.{CallCounts, no_calls, with_apply}
use Rattle.qe_view.specs.Versions.{Viewed}
use Rattle.qe_view.specs.declared.changes.ConnFault.{ConnFault}
use Rattle.qe_view.specs.declared.changes.ConnFault.TheVariants as conn
use Rattle.qe_session.specs.declared.run.Ran.{Ran}
use Rattle.qe_session.specs.declared.run.Ran.TheVariants.{Answered, Refused, Failed, Memory}

-- ---- running

abbrev pub misfit_in : Reply → Option ConnFault
misfit_in (replies.Refused index (fault.Misfit table column)) = Some (conn.Misfit table column)
misfit_in _ = None

-- the fault of a connector by which a run ended
abbrev pub fault_of : Ran → Option ConnFault
fault_of (Answered reply) = None
fault_of (Refused reply) = misfit_in reply
fault_of (Failed index first last) = Some conn.Failed
fault_of Memory = None

-- what an operation by itself came to
abbrev pub ran_of : Result Answer OpFault → Ran
ran_of (Ok answer) = Answered (replies.Answer answer)
ran_of (Err (fault.Rule broken)) = Refused (replies.Refused None (fault.Rule broken))
ran_of (Err (fault.Connector first last)) = Failed None first last
ran_of (Err (fault.Misfit table column)) = Refused (replies.Refused None (fault.Misfit table column))
ran_of (Err fault.Memory) = Memory

-- the outcome of the operations, whatever moment and seed they are given
abbrev pub Outcomes : Schema → What → Option Tables → Reply → Option Tables → Type 0
Outcomes schema asked told reply live = (outside : Outside) → ComesOf schema told outside asked (record { reply = reply; live = live })

abbrev pub IsAnswer : Reply → Type 0
IsAnswer (replies.Answer answer) = Unit {0}
IsAnswer (replies.Answers answers) = Unit {0}
IsAnswer _ = ⊥

-- a broken rule, or a kept row that doesn't fit
abbrev pub IsRefusal : Reply → Type 0
IsRefusal (replies.Refused index (fault.Rule broken)) = Unit {0}
IsRefusal (replies.Refused index (fault.Misfit table column)) = Unit {0}
IsRefusal _ = ⊥

-- answers are answers, and refusals refusals
abbrev pub IsOrderly : Ran → Type 0
IsOrderly (Answered reply) = IsAnswer reply
IsOrderly (Refused reply) = IsRefusal reply
IsOrderly (Failed index first last) = Unit {0}
IsOrderly Memory = Unit {0}

-- where no change can be taken back none was made
abbrev pub Keeps : Viewed → Viewed → Type 0
Keeps before after = after.past ≡ [] → (before.past ≡ []) × (after.now ≡ before.now)

-- Answers are those of the operations, whose changes are in the view; a refusal leaves the live tables; a fault has the
-- connector's counts.
abbrev pub RunsTo : Schema → What → Viewed → Viewed → Ran → Type 0
RunsTo schema asked before after (Answered reply) = Outcomes schema asked before.now reply after.now × Keeps before after
RunsTo schema asked before after (Refused reply) = Outcomes schema asked before.now reply before.now
RunsTo schema asked before after (Failed index first last) =
    ((outside : Outside) → FailsAt schema before.now outside asked index) × (first ≡ before.below.faults.count) × (last ≡ after.below.faults.count)
RunsTo schema asked before after Memory = Unit {0}

abbrev pub all_calls : Schema → List Op → CallCounts
all_calls schema [] = no_calls
all_calls schema (op ∷ ops) = both_calls (calls_of schema op) (all_calls schema ops)

-- how many calls are made at most to run the operations of an event
abbrev pub calls_for : Schema → What → CallCounts
calls_for schema (what.Single op) = calls_of schema op
calls_for schema (what.Batch ops) = all_calls schema ops
calls_for schema _ = no_calls

-- whether no operation of an event writes
abbrev pub only_reads : What → Bool
only_reads (what.Single op) = reads_alone op
only_reads (what.Batch ops) = list_all reads_alone ops
only_reads _ = true

-- The operations of an event were run over a view of this schema.
pub record Runs (schema : Schema) (asked : What) (before after : Viewed) (ran : Ran) : Type 0 where
  pub orderly : IsOrderly ran
  pub comes : RunsTo schema asked before after ran
  pub leaves : Leaves (calls_for schema asked) before after (fault_of ran)
  pub reads : only_reads asked ≡ true → after.past ≡ before.past

-- ---- telling

-- no fault came, and what can't fail goes on not to
abbrev pub Calm : Faults → Faults → Type 0
Calm before after = (after.count ≡ before.count) × (before.may_fail ≡ false → after.may_fail ≡ false)

-- nothing was applied below, and no fault came
abbrev pub Unchanged : Connected → Connected → Type 0
Unchanged before after = (after.told ≡ before.told) × Calm before.faults after.faults

-- the changes are below
abbrev pub IsMade : Viewed → Connected → Type 0
IsMade before after = (after.told ≡ before.now) × Calm before.below.faults after.faults

-- memory was short for a text or for changes
abbrev pub IsShort : Reply → Viewed → Connected → Type 0
IsShort told before after = (told ≡ replies.Memory) × Unchanged before.below after

-- the connector failed to take the changes of an answer
abbrev pub IsFault : Reply → Viewed → Connected → Type 0
IsFault told before after =
    (told ≡ replies.Refused None (fault.Connector before.below.faults.count after.faults.count)) × (after.told ≡ before.below.told) × HasCause before.below.faults after.faults (Unit {0})

-- what is told in place of an answer
abbrev pub IsUnsettled : Reply → Viewed → Connected → Type 0
IsUnsettled told before after = IsShort told before after ⊎ IsFault told before after

-- without changes it shows the tables below
abbrev pub IsStill : Viewed → Type 0
IsStill seen = seen.past ≡ [] → seen.now ≡ seen.below.told

-- what can be told of a view: an answer whose changes are all that it shows, or a refusal
abbrev pub IsTellable : Ran → Viewed → Type 0
IsTellable (Answered reply) seen = IsAnswer reply × IsStill seen
IsTellable _ seen = Unit {0}

-- An answer is told once its changes are below, a refusal and a fault without any.
abbrev pub TellsOf : Ran → Reply → Viewed → Connected → Type 0
TellsOf (Answered reply) told before after = ((told ≡ reply) × IsMade before after) ⊎ IsUnsettled told before after
TellsOf (Refused reply) told before after = ((told ≡ reply) × Unchanged before.below after) ⊎ IsShort told before after
TellsOf (Failed index first last) told before after = (told ≡ replies.Refused index (fault.Connector first last)) × Unchanged before.below after
TellsOf Memory told before after = IsShort told before after

-- What is below got one call at most to apply changes, none where nothing was changed.
pub record AppliesOnce (before : Viewed) (after : Connected) : Type 0 where
  pub applied : ((after.calls ≡ before.below.calls) × (after.told ≡ before.below.told)) ⊎ (after.calls ≡ with_apply before.below.calls)
  pub idle : before.past ≡ [] → after.calls ≡ before.below.calls
  pub misfits : after.misfits ≡ before.below.misfits
  pub attached : after.attached ≡ before.below.attached
