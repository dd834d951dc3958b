-- Why a part of an operation was refused, and what is answered for it.
use Rattle.std.specs.Prelude.{◌≡◌, ℕ, Option, Some, None, Result, Ok, Err}
use Rattle.qe_base.specs.declared.answer.OpFault.{OpFault}
use Rattle.qe_base.specs.declared.answer.OpFault.TheVariants as answered
use Rattle.qe_view.specs.declared.changes.ConnFault.{ConnFault}
use Rattle.qe_view.specs.declared.changes.ConnFault.TheVariants as fault
use Rattle.qe_ops.specs.declared.refusal.Refusal.{Refusal}
use Rattle.qe_ops.specs.declared.refusal.Refusal.TheVariants as refusal

-- the fault of a refused part, none where it broke a rule
abbrev pub fault_of : {T : Type 0} → Result T Refusal → Option ConnFault
fault_of (Ok done) = None
fault_of (Err (refusal.Rule broken)) = None
fault_of (Err (refusal.Fault fault)) = Some fault

-- what is answered for a fault, by the counts of faults before the operation and after it
abbrev pub answered_fault : ℕ → ℕ → ConnFault → OpFault
answered_fault before after fault.Failed = answered.Connector before after
answered_fault before after (fault.Misfit table column) = answered.Misfit table column
answered_fault before after fault.Memory = answered.Memory

abbrev pub answered_refusal : ℕ → ℕ → Refusal → OpFault
answered_refusal before after (refusal.Rule broken) = answered.Rule broken
answered_refusal before after (refusal.Fault fault) = answered_fault before after fault

-- the fault that an answered refusal tells of
abbrev pub fault_told : {T : Type 0} → Result T OpFault → Option ConnFault
fault_told (Ok done) = None
fault_told (Err (answered.Rule broken)) = None
fault_told (Err (answered.Connector before after)) = Some fault.Failed
fault_told (Err (answered.Misfit table column)) = Some (fault.Misfit table column)
fault_told (Err answered.Memory) = Some fault.Memory

-- a failed connector's counts are those before the operation and after it
abbrev pub TellsCounts : {T : Type 0} → ℕ → ℕ → Result T OpFault → Type 0
TellsCounts before after (Ok done) = Unit {0}
TellsCounts before after (Err (answered.Rule broken)) = Unit {0}
TellsCounts before after (Err (answered.Connector first last)) = (first ≡ before) × (last ≡ after)
TellsCounts before after (Err (answered.Misfit table column)) = Unit {0}
TellsCounts before after (Err answered.Memory) = Unit {0}
