-- Refused operations, and those that only read, leave the tables as they were.
use Rattle.std.proofs.Common.{◌≡◌, ℕ, ◌+◌, true, List, [], ◌∷◌, Result, Ok, Err, IfOk, is_ok, refl, sym, ap, ◌∙◌, true≢false}
use Rattle.std.specs.List.{list_all}
use Rattle.std.proofs.lemmas.Bool.{and_parts}
use Rattle.qe_base.specs.declared.answer.Answer.{Answer}
use Rattle.qe_base.specs.declared.answer.Outside.{Outside}
use Rattle.qe_base.specs.declared.answer.Rule.{Rule}
use Rattle.qe_base.specs.declared.write.Op.{Op}
use Rattle.qe_base.specs.declared.write.Op.TheVariants as op
use Rattle.qe_base.specs.Schemas.{Schema}
use Rattle.qe_schema.specs.Tables.{Tables}
use Rattle.qe_writing.specs.Batch.{AllAnswered, Refusal, with_answer, or_refusal, outside_of, all_from, all_done, plain_all}
use Rattle.qe_writing.specs.Plain.{Changed, Done, create_one, create_many, update_one, update_many, update_or_create, delete_one, delete_many, done, plain}
use Rattle.qe_writing.specs.WriteState.{◌>>=◌, or_absent}
use Rattle.qe_reading.specs.Read.{found_at}
use Rattle.qe_write_laws.specs.OnlyReads.{only_reads}

-- ---- refusals

done_leaves : (tables : Tables) (result : Result Changed Rule) (broken : Rule) → (done tables result).answer ≡ Err broken → (done tables result).tables ≡ tables
done_leaves tables (Ok after) broken refused = absurd (true≢false (ap is_ok refused))
done_leaves tables (Err other) broken refused = refl

pub refused_leaves : (schema : Schema) (op : Op) (outside : Outside) (tables : Tables) (broken : Rule) → (plain schema op outside tables).answer ≡ Err broken → (plain schema op outside tables).tables ≡ tables
refused_leaves schema (op.FindUnique table at strict pick) outside tables broken refused = refl
refused_leaves schema (op.FindFirst table look strict pick) outside tables broken refused = refl
refused_leaves schema (op.FindMany table look pick) outside tables broken refused = refl
refused_leaves schema (op.Count table look) outside tables broken refused = refl
refused_leaves schema (op.Create table tree pick) outside tables broken refused = done_leaves tables (create_one schema outside table.0 tree pick tables) broken refused
refused_leaves schema (op.CreateMany table trees pick) outside tables broken refused = done_leaves tables (create_many schema outside table.0 trees pick tables) broken refused
refused_leaves schema (op.Update table at tree pick) outside tables broken refused = done_leaves tables (or_absent table.0 (found_at schema tables table.0 at) >>= λ row. update_one schema outside table.0 tree pick row tables) broken refused
refused_leaves schema (op.UpdateMany table matching tree) outside tables broken refused = done_leaves tables (update_many schema outside table.0 matching tree tables) broken refused
refused_leaves schema (op.Upsert table at create update pick) outside tables broken refused = done_leaves tables (update_or_create schema outside table.0 create update pick (found_at schema tables table.0 at) tables) broken refused
refused_leaves schema (op.Delete table at pick) outside tables broken refused = done_leaves tables (or_absent table.0 (found_at schema tables table.0 at) >>= λ row. delete_one schema table.0 pick row tables) broken refused
refused_leaves schema (op.DeleteMany table matching) outside tables broken refused = done_leaves tables (delete_many schema table.0 matching tables) broken refused

all_left : (tables : Tables) (result : Result AllAnswered Refusal) (refusal : Refusal) → (all_done tables result).answers ≡ Err refusal → (all_done tables result).tables ≡ tables
all_left tables (Ok all) refusal refused = absurd (true≢false (ap is_ok refused))
all_left tables (Err other) refusal refused = refl

pub batch_refused_leaves : (schema : Schema) (ops : List Op) (outside : Outside) (tables : Tables) (refusal : Refusal) → (plain_all schema ops outside tables).answers ≡ Err refusal → (plain_all schema ops outside tables).tables ≡ tables
batch_refused_leaves schema ops outside tables refusal = all_left tables (all_from schema ops outside 0 tables) refusal

-- ---- reads

pub read_leaves : (schema : Schema) (op : Op) (outside : Outside) (tables : Tables) → only_reads op ≡ true → (plain schema op outside tables).tables ≡ tables
read_leaves schema (op.FindUnique table at strict pick) outside tables reads = refl
read_leaves schema (op.FindFirst table look strict pick) outside tables reads = refl
read_leaves schema (op.FindMany table look pick) outside tables reads = refl
read_leaves schema (op.Count table look) outside tables reads = refl
read_leaves schema (op.Create table tree pick) outside tables reads = absurd (true≢false (sym reads))
read_leaves schema (op.CreateMany table trees pick) outside tables reads = absurd (true≢false (sym reads))
read_leaves schema (op.Update table at tree pick) outside tables reads = absurd (true≢false (sym reads))
read_leaves schema (op.UpdateMany table asked tree) outside tables reads = absurd (true≢false (sym reads))
read_leaves schema (op.Upsert table at create update pick) outside tables reads = absurd (true≢false (sym reads))
read_leaves schema (op.Delete table at pick) outside tables reads = absurd (true≢false (sym reads))
read_leaves schema (op.DeleteMany table asked) outside tables reads = absurd (true≢false (sym reads))

-- the tables at the end are these
abbrev EndAt : Tables → Result AllAnswered Refusal → Type 0
EndAt tables result = IfOk result (λ all. all.tables ≡ tables)

with_answer_ends : (tables : Tables) (answer : Answer) (result : Result AllAnswered Refusal) → EndAt tables result → EndAt tables (with_answer answer result)
with_answer_ends tables answer (Ok rest) ends = ends
with_answer_ends tables answer (Err refusal) ends = tt

or_refusal_ends : (tables : Tables) (number : ℕ) (answer : Result Answer Rule) (next : Answer → Result AllAnswered Refusal) → ((answer : Answer) → EndAt tables (next answer)) → EndAt tables (or_refusal number answer next)
or_refusal_ends tables number (Ok answer) next ends = ends answer
or_refusal_ends tables number (Err broken) next ends = tt

moved_end : (tables before : Tables) → before ≡ tables → (result : Result AllAnswered Refusal) → EndAt before result → EndAt tables result
moved_end tables before same (Ok all) ends = ends ∙ same
moved_end tables before same (Err refusal) ends = tt

all_from_ends : (schema : Schema) (ops : List Op) (outside : Outside) (number : ℕ) (tables : Tables) → list_all only_reads ops ≡ true → EndAt tables (all_from schema ops outside number tables)
all_from_ends schema [] outside number tables reads = refl
all_from_ends schema (op ∷ ops) outside number tables reads =
    let parts = and_parts (only_reads op) (list_all only_reads ops) reads in
    let first : Done = plain schema op (outside_of outside number) tables in
    or_refusal_ends tables number first.answer _ (λ answer. with_answer_ends tables answer (all_from schema ops outside (number + 1) first.tables)
    (moved_end tables first.tables (read_leaves schema op (outside_of outside number) tables parts.0) (all_from schema ops outside (number + 1) first.tables) (all_from_ends schema ops outside (number + 1) first.tables parts.1)))

all_done_ends : (tables : Tables) (result : Result AllAnswered Refusal) → EndAt tables result → (all_done tables result).tables ≡ tables
all_done_ends tables (Ok all) ends = ends
all_done_ends tables (Err refusal) ends = refl

pub batch_read_leaves : (schema : Schema) (ops : List Op) (outside : Outside) (tables : Tables) → list_all only_reads ops ≡ true → (plain_all schema ops outside tables).tables ≡ tables
batch_read_leaves schema ops outside tables reads = all_done_ends tables (all_from schema ops outside 0 tables) (all_from_ends schema ops outside 0 tables reads)
