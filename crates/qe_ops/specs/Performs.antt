-- What an operation over a view does.
use Rattle.std.specs.Prelude.{◌≡◌, Option, Result, Ok, Err, OnOk, OnErr, IfSome}
use Rattle.qe_base.specs.declared.answer.Answer.{Answer}
use Rattle.qe_base.specs.declared.answer.OpFault.{OpFault}
use Rattle.qe_base.specs.declared.answer.OpFault.TheVariants as answered
use Rattle.qe_writing.specs.Plain.{Done}
use Rattle.qe_schema.specs.Tables.{Tables}
use Rattle.qe_view.specs.Versions.{Viewed}
use Rattle.qe_ops.specs.Leaves.{ChangesTo, Same}
use Rattle.qe_ops.specs.declared.refusal.Refusal.{Refusal}
use Rattle.qe_ops.specs.declared.refusal.Refusal.TheVariants as refusal

-- what is to be done answers so, where tables are told
abbrev pub AnswersAs : (Tables → Done) → Option Tables → Result Answer OpFault → Type 0
AnswersAs done told (Ok answer) = IfSome told (λ tables. (done tables).answer ≡ Ok answer)
AnswersAs done told (Err (answered.Rule broken)) = IfSome told (λ tables. done tables ≡ record { answer = Err broken; tables = tables })
AnswersAs done told (Err (answered.Connector before after)) = Unit {0}
AnswersAs done told (Err (answered.Misfit table column)) = Unit {0}
AnswersAs done told (Err answered.Memory) = Unit {0}

-- The answer or the broken rule is the documented one, and so are the tables after it, which can be taken back.
-- After a refusal the tables are as before.
pub record Performs (done : Tables → Done) (before after : Viewed) (result : Result Answer OpFault) : Type 0 where
  pub answer : AnswersAs done before.now result
  pub ok : OnOk result (ChangesTo (λ tables. (done tables).tables) before after)
  pub err : OnErr result (Same before after)

-- a part of an operation answers so, where tables are told
abbrev pub PartAnswers : (Tables → Done) → Option Tables → Result Answer Refusal → Type 0
PartAnswers done told (Ok answer) = IfSome told (λ tables. (done tables).answer ≡ Ok answer)
PartAnswers done told (Err (refusal.Rule broken)) = IfSome told (λ tables. done tables ≡ record { answer = Err broken; tables = tables })
PartAnswers done told (Err (refusal.Fault fault)) = Unit {0}

-- the same of an operation whose refusal isn't told yet
pub record Carries (done : Tables → Done) (before after : Viewed) (result : Result Answer Refusal) : Type 0 where
  pub answer : PartAnswers done before.now result
  pub ok : OnOk result (ChangesTo (λ tables. (done tables).tables) before after)
  pub err : OnErr result (Same before after)
