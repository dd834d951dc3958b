-- Running the operations of a batch, one after another.
use Rattle.std.specs.Prelude.{◌≡◌, ℕ, true, List, length, Some, None, Result, Ok, IfSome}
use Rattle.std.specs.List.{list_all}
use Rattle.qe_base.specs.Schemas.{Schema}
use Rattle.qe_base.specs.declared.answer.Answer.{Answer}
use Rattle.qe_base.specs.declared.answer.OpFault.{OpFault}
use Rattle.qe_base.specs.declared.answer.OpFault.TheVariants as fault
use Rattle.qe_base.specs.declared.answer.Outside.{Outside}
use Rattle.qe_base.specs.declared.event.Reply.TheVariants as replies
use Rattle.qe_base.specs.declared.write.Op.{Op}
use Rattle.qe_ops.specs.Bounds.{calls_of, reads_alone}
use Rattle.qe_ops.specs.Leaves.{Leaves}
use Rattle.qe_ops.specs.Performs as ops
use Rattle.qe_ops.specs.Refusals.{TellsCounts, fault_told}
use Rattle.qe_schema.specs.Tables.{Tables}
use Rattle.qe_view.specs.Versions.{Viewed}
use Rattle.qe_writing.specs.Batch.{all_from}
use Rattle.qe_writing.specs.Plain.{plain}
use Rattle.qe_session.specs.Performing.{Keeps, all_calls}
use Rattle.qe_session.specs.declared.run.Ran.{Ran}
use Rattle.qe_session.specs.declared.run.Ran.TheVariants.{Refused, Failed, Memory}

-- one operation came to this over a view
pub record Ends (schema : Schema) (op : Op) (before after : Viewed) (result : Result Answer OpFault) : Type 0 where
  pub performs : (outside : Outside) → ops.Performs (plain schema op outside) before after result
  pub leaves : Leaves (calls_of schema op) before after (fault_told result)
  pub counts : TellsCounts before.below.faults.count after.below.faults.count result
  pub reads : reads_alone op ≡ true → after.past ≡ before.past

-- The front of a batch was accepted with these answers, which with the tables after them are the documented ones.
pub record Accepts (schema : Schema) (front : List Op) (answers : List Answer) (before now : Viewed) : Type 0 where
  pub told : (outside : Outside) → IfSome before.now (λ tables. (after : Tables) × (all_from schema front outside 0 tables ≡ Ok (record { answers = answers; tables = after })) × (now.now ≡ Some after))
  pub untold : before.now ≡ None → now.now ≡ None
  pub count : length answers ≡ length front
  pub kept : Keeps before now
  pub leaves : Leaves (all_calls schema front) before now None
  pub reads : list_all reads_alone front ≡ true → now.past ≡ before.past

-- what the operation of this index came to, where it was refused
abbrev pub refused_at : ℕ → OpFault → Ran
refused_at index (fault.Rule broken) = Refused (replies.Refused (Some index) (fault.Rule broken))
refused_at index (fault.Connector first last) = Failed (Some index) first last
refused_at index (fault.Misfit table column) = Refused (replies.Refused (Some index) (fault.Misfit table column))
refused_at index fault.Memory = Memory
