-- What is answered is what the definition says.
use Rattle.std.proofs.Common.{◌≡◌, ℕ, Bool, true, List, map, Option, Some, None, Result, Ok, Err, refl, sym, ap, subst, ◌∙◌, rules}
use Rattle.std.specs.Prelude.{option_map, IfSome, IsErrAnd}
use Rattle.std.specs.List.{enumerate_from}
use Rattle.qe_base.specs.declared.answer.Answer.{Answer}
use Rattle.qe_base.specs.declared.answer.OpFault.{OpFault}
use Rattle.qe_base.specs.declared.answer.Outside.{Outside}
use Rattle.qe_base.specs.declared.answer.Rule.{Rule}
use Rattle.qe_base.specs.declared.query.Pick.{Pick}
use Rattle.qe_base.specs.declared.query.Unique.{Unique}
use Rattle.qe_base.specs.declared.schema.Column.{Column}
use Rattle.qe_base.specs.declared.schema.Table.{Table}
use Rattle.qe_base.specs.declared.value.Row.{Row}
use Rattle.qe_base.specs.declared.value.TableId.{TableId}
use Rattle.qe_base.specs.declared.value.Value.{Value}
use Rattle.qe_base.specs.declared.write.Create.{Create, out-Create}
use Rattle.qe_base.specs.declared.write.Op.TheVariants as op
use Rattle.qe_view.specs.declared.changes.ConnFault.TheVariants as fault
use Rattle.qe_reading.specs.CarriedOut.{is_carried_out}
use Rattle.qe_writing.specs.Plain.{Done, plain}
use Rattle.qe_writing.specs.Write.{row_of_values}
use Rattle.qe_base.specs.Schemas.{Schema}
use Rattle.qe_schema.specs.Put.{put_of}
use Rattle.qe_schema.specs.Tables.{Tables, table_at}
use Rattle.qe_view.specs.Versions.{Viewed}
use Rattle.qe_ops.specs.Leaves.{Same}
use Rattle.qe_ops.specs.Performs.{AnswersAs, Carries, PartAnswers, Performs}
use Rattle.qe_ops.specs.Puts.{LeadsTo, PutsInto}
use Rattle.qe_ops.specs.Refusals.{answered_refusal}
use Rattle.qe_ops.proofs.CreateLaws.{value_for, values_for, row_for, put_done, create_is}
use Rattle.qe_ops.proofs.FindLaws.{columns_of_row, row_with, answered_for, found_in, find_is}
use Rattle.qe_ops.specs.declared.refusal.Refusal.{Refusal}
use Rattle.qe_ops.specs.declared.refusal.Refusal.TheVariants as refusal
use Rattle.qe_ops.proofs.Versions.{back_to_itself, changes_to_same}

-- what a `?` hands on
pub handed_on : {T E : Type 0} (P : Result T E → Type 0) (result : Result T E) (why : E) → IsErrAnd result (λ e. e ≡ why) → P (Err why) → P result
handed_on P (Ok done) why is holds = absurd is
handed_on P (Err e) why is holds = subst (λ x. P (Err x)) (sym is) holds

-- ---- reading

stayed : (told : Option Tables) → told ≡ option_map (λ tables. tables) told
stayed None = refl
stayed (Some tables) = refl

-- what is read leaves the tables
read_only : (said : Tables → Result Answer Rule) (before after : Viewed) (result : Result Answer Refusal) → Same before after → PartAnswers (λ tables. record { answer = said tables; tables = tables }) before.now result
    → Carries (λ tables. record { answer = said tables; tables = tables }) before after result
read_only said before after (Ok found) same answers = record { answer = answers; ok = changes_to_same (λ tables. tables) before before after (record { now = stayed before.now; back = back_to_itself before }) same; err = search rules }
read_only said before after (Err e) same answers = record { answer = answers; ok = search rules; err = same }

answered_row : (told : Option Tables) (model : Table) (table : ℕ) (at : Unique) (strict : Bool) (pick : Pick) (row : Option Row) (said : Result Answer Rule) → IfSome told (λ tables. row ≡ row_with model at (tables.rows table)) → answered_for model table strict pick row ≡ said
    → IfSome told (λ tables. answered_for model table strict pick (row_with model at (tables.rows table)) ≡ said)
answered_row None model table at strict pick row said is said_is = tt
answered_row (Some tables) model table at strict pick row said is said_is = ap (answered_for model table strict pick) (sym is) ∙ said_is

broken_row : (told : Option Tables) (said : Tables → Result Answer Rule) (broken : Rule) → IfSome told (λ tables. said tables ≡ Err broken) → PartAnswers (λ tables. record { answer = said tables; tables = tables }) told (Err (refusal.Rule broken))
broken_row None said broken is = tt
broken_row (Some tables) said broken is = ap (λ (a : Result Answer Rule). let d : Done = record { answer = a; tables = tables } in d) is

-- what is done is the documented operation
documented : (done said : Tables → Done) (before after : Viewed) (result : Result Answer Refusal) → ((tables : Tables) → done tables ≡ said tables) → Carries said before after result → Carries done before after result
documented done said before after result same carries = subst (λ (d : Tables → Done). Carries d before after result) (λ i tables. sym (same tables) i) carries

abbrev pub Asked : Option Tables → Schema → TableId → Unique → Option Row → Type 0
Asked told schema table at row = IfSome told (λ tables. row ≡ row_with (table_at schema table.0) at (tables.rows table.0))

abbrev pub IsFind : Schema → TableId → Unique → Bool → Pick → Type 0
IsFind schema table at strict pick = is_carried_out schema (op.FindUnique table at strict pick) ≡ true

abbrev said_for : Schema → TableId → Unique → Bool → Pick → Tables → Result Answer Rule
said_for schema table at strict pick tables = answered_for (table_at schema table.0) table.0 strict pick (row_with (table_at schema table.0) at (tables.rows table.0))

-- a row that is found, and one that isn't
pub found_carries : (before after : Viewed) (schema : Schema) (table : TableId) (at : Unique) (strict : Bool) (pick : Pick) (outside : Outside) (row : Option Row) (said : Answer) → IsFind schema table at strict pick → Same before after → Asked before.now schema table at row
    → answered_for (table_at schema table.0) table.0 strict pick row ≡ Ok said → Carries (plain schema (op.FindUnique table at strict pick) outside) before after (Ok said)
found_carries before after schema table at strict pick outside row said carried same is said_is =
    documented (plain schema (op.FindUnique table at strict pick) outside) (found_in schema table at strict pick) before after (Ok said) (λ tables. find_is schema table at strict pick outside tables carried)
    (read_only (said_for schema table at strict pick) before after (Ok said) same (answered_row before.now (table_at schema table.0) table.0 at strict pick row (Ok said) is said_is))

pub absent_carries : (before after : Viewed) (schema : Schema) (table : TableId) (at : Unique) (strict : Bool) (pick : Pick) (outside : Outside) (row : Option Row) (broken : Rule) → IsFind schema table at strict pick → Same before after → Asked before.now schema table at row
    → answered_for (table_at schema table.0) table.0 strict pick row ≡ Err broken → Carries (plain schema (op.FindUnique table at strict pick) outside) before after (Err (refusal.Rule broken))
absent_carries before after schema table at strict pick outside row broken carried same is said_is =
    documented (plain schema (op.FindUnique table at strict pick) outside) (found_in schema table at strict pick) before after (Err (refusal.Rule broken)) (λ tables. find_is schema table at strict pick outside tables carried)
    (read_only (said_for schema table at strict pick) before after (Err (refusal.Rule broken)) same
    (broken_row before.now (said_for schema table at strict pick) broken (answered_row before.now (table_at schema table.0) table.0 at strict pick row (Err broken) is said_is)))

-- ---- writing

abbrev pub Puts : {T : Type 0} → Schema → TableId → Row → Viewed → Viewed → Result T Refusal → Type 0
Puts schema table row before after result = PutsInto (put_of schema table.0 row) before after result

put_answers : (told new : Option Tables) (write : Tables → Result Tables Rule) (said : Answer) → LeadsTo write told new → IfSome told (λ tables. (put_done said tables (write tables)).answer ≡ Ok said) × (new ≡ option_map (λ tables. (put_done said tables (write tables)).tables) told)
put_answers None new write said leads = (tt, leads)
put_answers (Some tables) new write said leads =
    (ap (λ (r : Result Tables Rule). (put_done said tables r).answer) leads.1, leads.2 ∙ ap (λ (r : Result Tables Rule). Some (put_done said tables r).tables) (sym leads.1))

put_breaks : (told : Option Tables) (write : Tables → Result Tables Rule) (said : Answer) (e : Refusal) (before after : Viewed) → told ≡ before.now → PutsInto {T = Unit {0}} write before after (Err e) → PartAnswers (λ tables. put_done said tables (write tables)) told (Err e) × Same before after
put_breaks None write said (refusal.Rule broken) before after is puts = (tt, puts.1)
put_breaks (Some tables) write said (refusal.Rule broken) before after is puts =
    let breaks = subst (λ o. IfSome o (λ t. write t ≡ Err broken)) (sym is) puts.0 in
    (ap (put_done said tables) breaks, puts.1)
put_breaks told write said (refusal.Fault one) before after is puts = (tt, puts)

-- the row that is put, and what is said of it
abbrev pub IsNew : Schema → TableId → Create → Pick → Row → Answer → Type 0
IsNew schema table tree pick row said = (row ≡ row_for schema table.0 tree) × (said ≡ columns_of_row (table_at schema table.0) pick row)

pub is_new : (schema : Schema) (table : TableId) (tree : Create) (pick : Pick) (model : Table) (columns : List Column) (given : List (ℕ × Value)) (row : Row) (said : Answer) → model ≡ table_at schema table.0 → columns ≡ model.columns → given ≡ (out-Create tree).values → row.values ≡ map (value_for given) (enumerate_from 0 columns)
    → said ≡ columns_of_row model pick row → IsNew schema table tree pick row said
is_new schema table tree pick model columns given row said model_is columns_are given_is values_are said_is = (
  ap row_of_values (values_are ∙ ap (λ all. map (value_for given) (enumerate_from 0 all)) (columns_are ∙ ap (λ (m : Table). m.columns) model_is) ∙ ap (values_for (table_at schema table.0).columns) given_is),
  said_is ∙ ap (λ (m : Table). columns_of_row m pick row) model_is,
)

abbrev done_of : Schema → TableId → Row → Answer → Tables → Done
done_of schema table row said tables = put_done said tables (put_of schema table.0 row tables)

new_done : (schema : Schema) (table : TableId) (tree : Create) (pick : Pick) (row : Row) (said : Answer) (outside : Outside) (tables : Tables) → is_carried_out schema (op.Create table tree pick) ≡ true → IsNew schema table tree pick row said → plain schema (op.Create table tree pick) outside tables ≡ done_of schema table row said tables
new_done schema table tree pick row said outside tables carried new =
    create_is schema table tree pick outside tables carried ∙ ap (λ (one : Row). done_of schema table one (columns_of_row (table_at schema table.0) pick one) tables) (sym new.0) ∙ ap (λ (a : Answer). done_of schema table row a tables) (sym new.1)

pub created_carries : (before after : Viewed) (schema : Schema) (table : TableId) (tree : Create) (pick : Pick) (outside : Outside) (row : Row) (said : Answer) → is_carried_out schema (op.Create table tree pick) ≡ true → IsNew schema table tree pick row said → Puts {T = Unit {0}} schema table row before after (Ok tt)
    → Carries (plain schema (op.Create table tree pick) outside) before after (Ok said)
created_carries before after schema table tree pick outside row said carried new puts =
    let both = put_answers before.now after.now (put_of schema table.0 row) said puts.0 in
    documented (plain schema (op.Create table tree pick) outside) (done_of schema table row said) before after (Ok said) (λ tables. new_done schema table tree pick row said outside tables carried new)
    (record { answer = both.0; ok = record { now = both.1; back = puts.1 }; err = search rules })

pub refused_carries : (before after : Viewed) (schema : Schema) (table : TableId) (tree : Create) (pick : Pick) (outside : Outside) (row : Row) (said : Answer) (e : Refusal) → is_carried_out schema (op.Create table tree pick) ≡ true → IsNew schema table tree pick row said → Puts {T = Unit {0}} schema table row before after (Err e)
    → Carries (plain schema (op.Create table tree pick) outside) before after (Err e)
refused_carries before after schema table tree pick outside row said e carried new puts =
    let both = put_breaks before.now (put_of schema table.0 row) said e before after refl puts in
    documented (plain schema (op.Create table tree pick) outside) (done_of schema table row said) before after (Err e) (λ tables. new_done schema table tree pick row said outside tables carried new)
    (record { answer = both.0; ok = search rules; err = both.1 })

-- ---- what is answered

told_refusal : (done : Tables → Done) (told : Option Tables) (first last : ℕ) (e : Refusal) → PartAnswers done told (Err e) → AnswersAs done told (Err (answered_refusal first last e))
told_refusal done told first last (refusal.Rule broken) answers = answers
told_refusal done told first last (refusal.Fault fault.Failed) answers = tt
told_refusal done told first last (refusal.Fault (fault.Misfit table column)) answers = tt
told_refusal done told first last (refusal.Fault fault.Memory) answers = tt

pub performs_ok : (done : Tables → Done) (before after : Viewed) (said : Answer) → Carries done before after (Ok said) → Performs done before after (Ok said)
performs_ok done before after said carries = record { answer = carries.answer; ok = carries.ok; err = search rules }

pub performs_err : (done : Tables → Done) (before after : Viewed) (first last : ℕ) (e : Refusal) (answered : OpFault) → answered ≡ answered_refusal first last e → Carries done before after (Err e) → Performs done before after (Err answered)
performs_err done before after first last e answered is carries =
    subst (λ (a : OpFault). Performs done before after (Err a)) (sym is) (record { answer = told_refusal done before.now first last e carries.answer; ok = search rules; err = carries.err })
