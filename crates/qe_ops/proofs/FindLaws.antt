-- What a find that is carried out so far answers by the documented definitions.
use Rattle.std.proofs.Common.{◌≡◌, ℕ, Bool, true, false, ◌&&◌, List, [], ◌∷◌, ◌++◌, map, Option, Result, Ok, refl, sym, ap, ◌∙◌, true≢false}
use Rattle.std.specs.Prelude.{find}
use Rattle.std.proofs.lemmas.Bool.{and_parts}
use Rattle.std.proofs.lemmas.List.{append-nil}
use Rattle.qe_base.specs.declared.answer.Answer.{Answer}
use Rattle.qe_base.specs.declared.answer.Answer as answer
use Rattle.qe_base.specs.declared.answer.Outside.{Outside}
use Rattle.qe_base.specs.declared.answer.Rule.{Rule}
use Rattle.qe_base.specs.declared.query.Filter.{Filter, out-Filter}
use Rattle.qe_base.specs.declared.query.Filter.TheOpen.{Filter-F}
use Rattle.qe_base.specs.declared.query.Filter.TheOpen as layer
use Rattle.qe_base.specs.declared.query.Filter.TheFolds.{map-Filter, fold_out-Filter}
use Rattle.qe_base.specs.declared.query.Unique.{Unique}
use Rattle.qe_base.specs.declared.query.Pick.{Pick, out-Pick}
use Rattle.qe_base.specs.declared.query.Child.{Child}
use Rattle.qe_base.specs.declared.query.Child.TheFolds.{fold_out-Pick}
use Rattle.qe_base.specs.declared.schema.Table.{Table}
use Rattle.qe_base.specs.declared.value.Row.{Row}
use Rattle.qe_base.specs.declared.value.TableId.{TableId}
use Rattle.qe_base.specs.declared.write.Op.TheVariants as op
use Rattle.qe_base.specs.Schemas.{Schema}
use Rattle.qe_schema.specs.Tables.{Tables, table_at}
use Rattle.qe_reading.specs.CarriedOut.{is_carried_out, is_simple, picks_columns}
use Rattle.qe_reading.specs.Fits.{is_empty, asks_nothing}
use Rattle.qe_reading.specs.Page.{is_at}
use Rattle.qe_reading.specs.Read.{row_or_missing}
use Rattle.qe_reading.specs.Shape.{NamedAnswer, Shows, ShowsChild, columns_shown, child_step, pick_step, shape_of, child_of}
use Rattle.qe_reading.specs.Truth.{Says, truth_of, truth_step}
use Rattle.qe_schema.specs.Tests.{is_yes}
use Rattle.qe_writing.specs.Plain.{Done, plain}

-- ---- a filter that asks for nothing

layer_yes : (schema : Schema) (tables : Tables) (o : Filter-F Filter) → asks_nothing o ≡ true → (table : ℕ) (row : Row) → is_yes (truth_step schema tables (map-Filter Filter Says (truth_of schema tables) o) table row) ≡ true
layer_yes schema tables (layer.All []) nothing table row = refl
layer_yes schema tables (layer.All (part ∷ parts)) nothing table row = absurd (true≢false (sym nothing))
layer_yes schema tables (layer.Any parts) nothing table row = absurd (true≢false (sym nothing))
layer_yes schema tables (layer.Not part) nothing table row = absurd (true≢false (sym nothing))
layer_yes schema tables (layer.Test column asked) nothing table row = absurd (true≢false (sym nothing))
layer_yes schema tables (layer.Many field how inner) nothing table row = absurd (true≢false (sym nothing))
layer_yes schema tables (layer.One field inner) nothing table row = absurd (true≢false (sym nothing))

yes_of_each : (schema : Schema) (tables : Tables) (asked : Filter) → asks_nothing (out-Filter asked) ≡ true → (table : ℕ) (row : Row) → is_yes (truth_of schema tables asked table row) ≡ true
yes_of_each schema tables asked nothing table row = ap (λ (says : Says). is_yes (says table row)) (fold_out-Filter Says (truth_step schema tables) asked) ∙ layer_yes schema tables (out-Filter asked) nothing table row

and_true : (b c : Bool) → c ≡ true → (b && c) ≡ b
and_true true c is = is
and_true false c is = refl

-- ---- a pick of columns alone

-- what is shown of a row
abbrev pub columns_of_row : Table → Pick → Row → Answer
columns_of_row model pick row = answer.Object (columns_shown model (out-Pick pick).columns row)

columns_alone : (schema : Schema) (tables : Tables) (columns counts : List ℕ) (children : List Child) (table : ℕ) (row : Row) → (is_empty counts && is_empty children) ≡ true
    → pick_step schema tables (record { columns = columns; counts = counts; children = map (child_of schema tables) children }) table row ≡ Ok (answer.Object (columns_shown (table_at schema table) columns row))
columns_alone schema tables columns [] [] table row alone =
    let shown : List NamedAnswer = columns_shown (table_at schema table) columns row in
    ap (λ (parts : List NamedAnswer). let said : Result Answer Rule = Ok (answer.Object parts) in said) (append-nil (shown ++ []) ∙ append-nil shown)
columns_alone schema tables columns [] (child ∷ children) table row alone = absurd (true≢false (sym alone))
columns_alone schema tables columns (count ∷ counts) children table row alone = absurd (true≢false (sym alone))

pub shape_alone : (schema : Schema) (tables : Tables) (pick : Pick) (table : ℕ) (row : Row) → picks_columns pick ≡ true → shape_of schema tables pick table row ≡ Ok (columns_of_row (table_at schema table) pick row)
shape_alone schema tables pick table row alone =
    ap (λ (shows : Shows). shows table row) (fold_out-Pick ShowsChild Shows (child_step schema tables) (pick_step schema tables) pick) ∙ columns_alone schema tables (out-Pick pick).columns (out-Pick pick).counts (out-Pick pick).children table row alone

-- ---- the find

-- the row that has the values of the key
abbrev pub row_with : Table → Unique → List Row → Option Row
row_with model at rows = find (λ row. is_at model at row) rows

abbrev pub shown : Table → Pick → Row → Result Answer Rule
shown model pick row = Ok (columns_of_row model pick row)

abbrev pub answered_for : Table → ℕ → Bool → Pick → Option Row → Result Answer Rule
answered_for model table strict pick row = row_or_missing table strict (shown model pick) row

abbrev pub found_in : Schema → TableId → Unique → Bool → Pick → Tables → Done
found_in schema table at strict pick tables = record { answer = answered_for (table_at schema table.0) table.0 strict pick (row_with (table_at schema table.0) at (tables.rows table.0)); tables = tables }

pub find_is : (schema : Schema) (table : TableId) (at : Unique) (strict : Bool) (pick : Pick) (outside : Outside) (tables : Tables) → is_carried_out schema (op.FindUnique table at strict pick) ≡ true → plain schema (op.FindUnique table at strict pick) outside tables ≡ found_in schema table at strict pick tables
find_is schema table at strict pick outside tables carried =
    let parts = and_parts (is_simple (table_at schema table.0) && asks_nothing (out-Filter at.extra)) (picks_columns pick) carried in
    let nothing = (and_parts (is_simple (table_at schema table.0)) (asks_nothing (out-Filter at.extra)) parts.0).1 in
    λ i.
    let done : Done = record {
      answer = row_or_missing table.0 strict (λ row. shape_alone schema tables pick table.0 row parts.1 i)
          (find (λ row. and_true (is_at (table_at schema table.0) at row) (is_yes (truth_of schema tables at.extra table.0 row)) (yes_of_each schema tables at.extra nothing table.0 row) i) (tables.rows table.0));
      tables = tables;
    } in
    done
