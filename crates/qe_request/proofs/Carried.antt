-- Of what is read, that is carried out so far which is on a simple model.
use Rattle.std.proofs.Common.{◌≡◌, ℕ, List, [], ◌∷◌, Bool, true, false, ◌&&◌, codes, bytes_eq, Option, Some, None, option_and_then, slice_get, refl, sym, ap, ◌∙◌, subst}
use Rattle.std.specs.Prelude.{if◌then◌else◌}
use Rattle.serde_json.specs.Data.{Data}
use Rattle.qe_base.specs.declared.value.TableId.{TableId}
use Rattle.qe_base.specs.declared.value.Value.{Value}
use Rattle.qe_base.specs.declared.schema.Table.{Table}
use Rattle.qe_base.specs.Schemas.{Schema}
use Rattle.qe_base.specs.declared.query.Filter as filter
use Rattle.qe_base.specs.declared.query.Filter.TheVariants.{outs-All}
use Rattle.qe_base.specs.declared.query.Unique.{Unique}
use Rattle.qe_base.specs.declared.query.Pick.{out-roll-Pick}
use Rattle.qe_base.specs.declared.query.Child.{Child}
use Rattle.qe_base.specs.declared.query.Child.TheOpen.{Pick-F}
use Rattle.qe_base.specs.declared.query.Pick.{Pick}
use Rattle.qe_base.specs.declared.write.Create.{Create, roll-Create, out-roll-Create}
use Rattle.qe_base.specs.declared.write.Step.{Step}
use Rattle.qe_base.specs.declared.write.Nested.{Nested}
use Rattle.qe_base.specs.declared.write.Update.{Update}
use Rattle.qe_base.specs.declared.write.Step.TheOpen.{Create-F}
use Rattle.qe_base.specs.declared.write.Op.{Op}
use Rattle.qe_base.specs.declared.write.Op.TheVariants as op
use Rattle.qe_schema.specs.Tables.{table_at, id_columns}
use Rattle.qe_reading.specs.CarriedOut.{is_carried_out, is_simple, picks_columns}
use Rattle.qe_reading.specs.Fits.{is_empty, asks_nothing}
use Rattle.qe_forms.specs.Request.{alone, values_of, whole_pick, create_of, value_at_column, find_by, find_of, if_carried_out, op_by, op_of}
use Rattle.qe_request.proofs.Given.{then_some, map_some}
use Rattle.qe_request.proofs.Rows.{numbers_of}

-- the unique of a value of the id
abbrev pub unique_of : Value → Unique
unique_of found = record { key = 0; values = record { values = found ∷ [] }; extra = filter.All [] }

abbrev counts_nothing : Pick-F Child Pick → Bool
counts_nothing pick = is_empty pick.counts && is_empty pick.children

whole_picks : (table : Table) → picks_columns (whole_pick table) ≡ true
whole_picks table = ap counts_nothing (out-roll-Pick (record { columns = numbers_of 0 table.columns; counts = []; children = [] }))

abbrev has_no_steps : Create-F Step Create Nested Update → Bool
has_no_steps tree = is_empty tree.nested

all_but : (simple a b : Bool) → a ≡ true → b ≡ true → (simple && a && b) ≡ simple
all_but true true b first second = second
all_but true false b first second = first
all_but false a b first second = refl

abbrev IsAsSimple : Schema → TableId → Op → Type 0
IsAsSimple schema id found = is_carried_out schema found ≡ is_simple (table_at schema id.0)

create_is : (schema : Schema) (id : TableId) (table : Table) (json : Data) (found : Op) → create_of id table json ≡ Some found → IsAsSimple schema id found
create_is schema id table json found e =
    let tree : List (ℕ × Value) → Create = λ values. roll-Create (record { values = values; nested = [] }) in
    let given = map_some (λ (values : List (ℕ × Value)). op.Create id (tree values) (whole_pick table)) (values_of table.columns json) found e in
    subst (IsAsSimple schema id) given.2 (all_but (is_simple (table_at schema id.0)) _ (picks_columns (whole_pick table)) (ap has_no_steps (out-roll-Create (record { values = given.0; nested = [] }))) (whole_picks table))

find_by_is : (schema : Schema) (id : TableId) (table : Table) (columns : List ℕ) (json : Data) (found : Op) → find_by id table columns json ≡ Some found → IsAsSimple schema id found
find_by_is schema id table [] json found e = absurd cc
find_by_is schema id table (number ∷ []) json found e =
    let got = map_some (λ (one : Value). op.FindUnique id (unique_of one) false (whole_pick table)) (value_at_column (slice_get table.columns number) json) found e in
    subst (IsAsSimple schema id) got.2 (all_but (is_simple (table_at schema id.0)) _ (picks_columns (whole_pick table)) (ap asks_nothing (outs-All [])) (whole_picks table))
find_by_is schema id table (number ∷ other ∷ others) json found e = absurd cc

either_is : (schema : Schema) (id : TableId) (b c : Bool) (first second : Option Op) (found : Op) → (first ≡ Some found → IsAsSimple schema id found) → (second ≡ Some found → IsAsSimple schema id found)
    → (if b then first else (if c then second else None)) ≡ Some found → IsAsSimple schema id found
either_is schema id true c first second found h k e = h e
either_is schema id false true first second found h k e = k e
either_is schema id false false first second found h k e = absurd cc

as_simple : (schema : Schema) (id : TableId) (table : Table) (action : List ℕ) (arguments : Data) (found : Op) → op_by id table action arguments ≡ Some found → IsAsSimple schema id found
as_simple schema id table action arguments found =
    either_is schema id (bytes_eq action (codes "create")) (bytes_eq action (codes "findUnique")) (option_and_then (create_of id table) (alone (codes "data") arguments)) (option_and_then (find_of id table) (alone (codes "where") arguments)) found
    (λ e. let got = then_some (create_of id table) (alone (codes "data") arguments) found e in create_is schema id table got.0 found got.2)
    (λ e. let got = then_some (find_of id table) (alone (codes "where") arguments) found e in find_by_is schema id table (id_columns table) got.0 found got.2)

-- it is on a simple model
pub simple_of : (schema : Schema) (id : TableId) (action : List ℕ) (arguments : Data) (found : Op) → op_by id (table_at schema id.0) action arguments ≡ Some found → is_carried_out schema found ≡ true → is_simple (table_at schema id.0) ≡ true
simple_of schema id action arguments found e carried = sym (as_simple schema id (table_at schema id.0) action arguments found e) ∙ carried

pub if_carried : (schema : Schema) (before found : Op) → if_carried_out schema before ≡ Some found → (is_carried_out schema found ≡ true) × (before ≡ found)
if_carried schema before found e = by_test (is_carried_out schema before) refl e
  where
    by_test : (b : Bool) → is_carried_out schema before ≡ b → (if b then Some before else None) ≡ Some found → (is_carried_out schema found ≡ true) × (before ≡ found)
    by_test true is e = let same : before ≡ found = cc in (subst (λ (one : Op). is_carried_out schema one ≡ true) same is, same)
    by_test false is e = absurd cc

-- on a model that is simple what is read, and on others nothing
guarded : (schema : Schema) (simple : Bool) (read : Option Op) → ((found : Op) → read ≡ Some found → is_carried_out schema found ≡ simple) → option_and_then (if_carried_out schema) read ≡ (if simple then read else None)
guarded schema true None same = refl
guarded schema false None same = refl
guarded schema simple (Some found) same = ap (λ b. if b then Some found else None) (same found refl)

pub op_of_is : (schema : Schema) (id : TableId) (action : List ℕ) (arguments : Data) → op_of schema id action arguments ≡ (if is_simple (table_at schema id.0) then op_by id (table_at schema id.0) action arguments else None)
op_of_is schema id action arguments = guarded schema (is_simple (table_at schema id.0)) (op_by id (table_at schema id.0) action arguments) (λ found e. as_simple schema id (table_at schema id.0) action arguments found e)
