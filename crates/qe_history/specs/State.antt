-- The state of the engine, and one step of it.
use Rattle.std.specs.Prelude.{◌≡◌, ◌⊎◌, ℕ, ◌<◌, Bool, true, false, List, length, take, Option, Some, None, Result, Ok, Err, IsOk, IfSome, nat_lt}
use Rattle.qe_base.specs.Causes.{Rose}
use Rattle.qe_base.specs.Schemas.{Schema}
use Rattle.qe_base.specs.declared.answer.Answer.{Answer}
use Rattle.qe_base.specs.declared.answer.Rule.{Rule}
use Rattle.qe_base.specs.declared.answer.OpFault.{OpFault}
use Rattle.qe_base.specs.declared.answer.OpFault.TheVariants as fault
use Rattle.qe_base.specs.declared.answer.Outside.{Outside}
use Rattle.qe_base.specs.declared.write.Op.{Op}
use Rattle.qe_schema.specs.Tables.{Tables}
use Rattle.qe_writing.specs.Batch.{Refusal, AllDone, plain_all}
use Rattle.qe_writing.specs.Plain.{Done, plain}
use Rattle.qe_base.specs.declared.event.What.{What}
use Rattle.qe_base.specs.declared.event.What.TheVariants as what
use Rattle.qe_base.specs.declared.event.Event.{Event}
use Rattle.qe_base.specs.declared.event.Reply.{Reply}
use Rattle.qe_base.specs.declared.event.Reply.TheVariants as replies

-- The schema; the tables as they are for all, where the connector tells them; how many faults of the connector
-- were counted at the opening, or when it last failed; and whether it never fails.
pub record State : Type 0 where
  pub schema : Schema
  pub live : Option Tables
  pub faults : ℕ
  pub steady : Bool

abbrev pub opening : Schema → Option Tables → ℕ → Bool → State
opening schema live faults steady = record { schema = schema; live = live; faults = faults; steady = steady }

-- ---- what comes of operations

-- what is replied, and the tables after it
pub record Outcome : Type 0 where
  pub reply : Reply
  pub live : Option Tables

abbrev pub single_reply : Result Answer Rule → Reply
single_reply (Ok answer) = replies.Answer answer
single_reply (Err broken) = replies.Refused None (fault.Rule broken)

abbrev pub batch_reply : Result (List Answer) Refusal → Reply
batch_reply (Ok answers) = replies.Answers answers
batch_reply (Err refusal) = replies.Refused (Some refusal.index) (fault.Rule refusal.broken)

abbrev pub single_outcome : Done → Outcome
single_outcome done = record { reply = single_reply done.answer; live = Some done.tables }

abbrev pub batch_outcome : AllDone → Outcome
batch_outcome done = record { reply = batch_reply done.answers; live = Some done.tables }

-- an answer, a broken rule, or a kept row that doesn't fit
abbrev pub MayRefuse : OpFault → Type 0
MayRefuse (fault.Rule broken) = Unit {0}
MayRefuse (fault.Connector first last) = ⊥
MayRefuse (fault.Misfit table column) = Unit {0}
MayRefuse fault.Memory = ⊥

-- what an operation may be replied over tables that aren't told
abbrev pub MayReply : Reply → Type 0
MayReply (replies.Answer answer) = Unit {0}
MayReply (replies.Refused None refused) = MayRefuse refused
MayReply _ = ⊥

-- the same of so many operations in a batch
abbrev pub MayReplyAll : ℕ → Reply → Type 0
MayReplyAll count (replies.Answers answers) = length answers ≡ count
MayReplyAll count (replies.Refused (Some index) refused) = (index < count) × MayRefuse refused
MayReplyAll count _ = ⊥

-- The outcome of an operation is the documented one over the tables; where these aren't told, it is one that may be.
abbrev pub ComesOfOne : Schema → Outside → Op → Option Tables → Outcome → Type 0
ComesOfOne schema outside op (Some live) outcome = outcome ≡ single_outcome (plain schema op outside live)
ComesOfOne schema outside op None outcome = MayReply outcome.reply × (outcome.live ≡ None)

-- the outcome of a batch likewise
abbrev pub ComesOfAll : Schema → Outside → List Op → Option Tables → Outcome → Type 0
ComesOfAll schema outside ops (Some live) outcome = outcome ≡ batch_outcome (plain_all schema ops outside live)
ComesOfAll schema outside ops None outcome = MayReplyAll (length ops) outcome.reply × (outcome.live ≡ None)

-- What comes of an event that has operations. The other events aren't carried out yet.
abbrev pub ComesOf : Schema → Option Tables → Outside → What → Outcome → Type 0
ComesOf schema live outside what.Hello outcome = ⊥
ComesOf schema live outside (what.Single op) outcome = ComesOfOne schema outside op live outcome
ComesOf schema live outside (what.Batch ops) outcome = ComesOfAll schema outside ops live outcome
ComesOf schema live outside (what.Start timeout) outcome = ⊥
ComesOf schema live outside (what.Step number op) outcome = ⊥
ComesOf schema live outside (what.Commit number) outcome = ⊥
ComesOf schema live outside (what.Rollback number) outcome = ⊥

-- ---- the four cases of a step

-- whether the caller has seen no entry of this place or a later one
abbrev pub has_seen : Option ℕ → ℕ → Bool
has_seen None place = true
has_seen (Some seen) place = nat_lt seen place

-- a greeting is greeted, and changes nothing
abbrev pub Greets : State → What → Reply → State → Type 0
Greets before what.Hello reply after = (reply ≡ replies.Hello) × (after ≡ before)
Greets before _ reply after = ⊥

abbrev pub RefusesUnseen : ℕ → Option ℕ → Reply → Type 0
RefusesUnseen place None reply = ⊥
RefusesUnseen place (Some seen) reply = reply ≡ replies.Unseen seen place

-- what is seen is tested first; then what comes of the operations is replied, and their tables are the live ones
abbrev pub Clears : Bool → State → ℕ → Event → Reply → State → Type 0
Clears false before place event reply after = RefusesUnseen place event.seen reply × (after ≡ before)
Clears true before place event reply after =
    (outcome : Outcome) × ComesOf before.schema before.live event.outside event.what outcome × (reply ≡ outcome.reply) × (after ≡ record before { live = outcome.live })

-- at every event but a greeting
abbrev pub Clear : State → ℕ → Event → What → Reply → State → Type 0
Clear before place event what.Hello reply after = ⊥
Clear before place event _ reply after = Clears (has_seen event.seen place) before place event reply after

-- want of memory leaves the state, and comes at every event but a greeting
abbrev pub WantsMemory : State → What → Reply → State → Type 0
WantsMemory before what.Hello reply after = ⊥
WantsMemory before _ reply after = (reply ≡ replies.Memory) × (after ≡ before)

-- The operations before this index of a batch are accepted over the told tables.
abbrev pub AreAccepted : Schema → Option Tables → Outside → List Op → ℕ → Type 0
AreAccepted schema told outside ops index = IfSome told (λ live. IsOk (plain_all schema (take index ops) outside live).answers)

-- the fault of a connector has no index in a single operation; in a batch it has that of the operation at which it
-- came, or none where it came when all were accepted
abbrev pub FailsAt : Schema → Option Tables → Outside → What → Option ℕ → Type 0
FailsAt schema told outside (what.Single op) None = Unit {0}
FailsAt schema told outside (what.Batch ops) (Some index) = (index < length ops) × AreAccepted schema told outside ops index
FailsAt schema told outside (what.Batch ops) None = AreAccepted schema told outside ops (length ops)
FailsAt schema told outside _ _ = ⊥

-- The connector failed, which a steady one never does: what its caller had seen was tested, its count before the
-- event, which is that of the last fault, and at the fault are told, and the live tables stay.
abbrev pub Fails : State → ℕ → Event → Reply → State → Type 0
Fails before place event (replies.Refused index (fault.Connector first last)) after =
    (before.steady ≡ false) × (has_seen event.seen place ≡ true) × FailsAt before.schema before.live event.outside event.what index × (first ≡ before.faults) × Rose first last × (after ≡ record before { faults = last })
Fails before place event _ after = ⊥

-- An event at a place may be replied to so, and leads from one state to the other.
abbrev pub Step : State → ℕ → Event → Reply → State → Type 0
Step before place event reply after =
    Greets before event.what reply after ⊎ (Clear before place event event.what reply after ⊎ (WantsMemory before event.what reply after ⊎ Fails before place event reply after))
