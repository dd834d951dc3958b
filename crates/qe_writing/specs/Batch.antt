-- The plain batch: operations one after another, all of them or none.
use Rattle.std.specs.Prelude.{ℕ, ◌+◌, ◌*◌, ◌^◌, ◌%◌, List, [], ◌∷◌, Result, Ok, Err}
use Rattle.qe_base.specs.declared.write.Op.{Op}
use Rattle.qe_base.specs.declared.answer.Answer.{Answer}
use Rattle.qe_base.specs.declared.answer.Outside.{Outside}
use Rattle.qe_base.specs.declared.answer.Rule.{Rule}
use Rattle.qe_base.specs.Schemas.{Schema}
use Rattle.qe_schema.specs.Tables.{Tables}
use Rattle.qe_writing.specs.Plain.{plain}

-- the operation of this number has the seed plus so many times 2^32, modulo 2^128
abbrev pub outside_of : Outside → ℕ → Outside
outside_of outside number = record { moment = outside.moment; seed = (outside.seed + number * 2 ^ 32) % 2 ^ 128 }

-- the rule that is broken, and by the operation of which number
pub record Refusal : Type 0 where
  pub index : ℕ
  pub broken : Rule

-- the answers, and the tables after the last of them
pub record AllAnswered : Type 0 where
  pub answers : List Answer
  pub tables : Tables

abbrev pub with_answer : Answer → Result AllAnswered Refusal → Result AllAnswered Refusal
with_answer answer (Ok rest) = Ok (record { answers = answer ∷ rest.answers; tables = rest.tables })
with_answer answer (Err refusal) = Err refusal

abbrev pub or_refusal : ℕ → Result Answer Rule → (Answer → Result AllAnswered Refusal) → Result AllAnswered Refusal
or_refusal number (Ok answer) next = next answer
or_refusal number (Err broken) next = Err (record { index = number; broken = broken })

abbrev pub all_from : Schema → List Op → Outside → ℕ → Tables → Result AllAnswered Refusal
all_from schema [] outside number tables = Ok (record { answers = []; tables = tables })
all_from schema (op ∷ ops) outside number tables =
    or_refusal number (plain schema op (outside_of outside number) tables).answer (λ answer. with_answer answer (all_from schema ops outside (number + 1) (plain schema op (outside_of outside number) tables).tables))

-- what a batch answers, and the tables after it
pub record AllDone : Type 0 where
  pub answers : Result (List Answer) Refusal
  pub tables : Tables

-- a refusal leaves the tables as they were before the first operation
abbrev pub all_done : Tables → Result AllAnswered Refusal → AllDone
all_done before (Ok all) = record { answers = Ok all.answers; tables = all.tables }
all_done before (Err refusal) = record { answers = Err refusal; tables = before }

abbrev pub plain_all : Schema → List Op → Outside → Tables → AllDone
plain_all schema ops outside tables = all_done tables (all_from schema ops outside 0 tables)
