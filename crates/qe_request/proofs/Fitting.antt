-- The operation of a request is carried out so far, and fits the schema.
use Rattle.std.proofs.Common.{◌≡◌, ℕ, ◌+◌, ◌<◌, ◌≤◌, List, [], ◌∷◌, ◌++◌, map, length, Bool, true, false, ◌&&◌, ◌||◌, not, codes, bytes_eq, Option, Some, None, option_and_then, slice_get, get_or, unwrap_or, refl, sym, ap, ◌∙◌, subst, arith, inl, true≢false}
use Rattle.std.specs.Prelude.{if◌then◌else◌, position, ◌==◌}
use Rattle.std.specs.List.{list_all, enumerate_from}
use Rattle.std.proofs.lemmas.Bool.{and_from, and_parts}
use Rattle.std.proofs.lemmas.List.{append-nil}
use Rattle.std.proofs.lemmas.List.Quantifiers.{position-Some}
use Rattle.std.proofs.lemmas.Option.{slice_get-get_or}
use Rattle.serde_json.specs.Data.{Data}
use Rattle.serde_json.specs.Find.{get}
use Rattle.qe_text.specs.Lists.{In}
use Rattle.qe_base.specs.declared.value.TableId.{TableId}
use Rattle.qe_base.specs.declared.value.Value.{Value}
use Rattle.qe_base.specs.declared.schema.Column.{Column}
use Rattle.qe_base.specs.declared.schema.Key.{Key}
use Rattle.qe_base.specs.declared.schema.Table.{Table}
use Rattle.qe_base.specs.Schemas.{Schema, table_named}
use Rattle.qe_base.specs.declared.query.Filter as filter
use Rattle.qe_base.specs.declared.write.Create.{Create, roll-Create}
use Rattle.qe_base.specs.declared.write.Step.TheFolds.{fold-roll-Create}
use Rattle.qe_base.specs.declared.write.Op.{Op}
use Rattle.qe_base.specs.declared.write.Op.TheVariants as op
use Rattle.qe_schema.specs.Keys.{HasKeys, HaveKeys, KeyStands}
use Rattle.qe_schema.specs.Tables.{table_at, id_columns, first_columns, no_table, is_model, is_model_table}
use Rattle.qe_schema.specs.Fits.{is_of_kind}
use Rattle.qe_reading.specs.CarriedOut.{is_carried_out, is_simple, is_simple_column}
use Rattle.qe_schema.proofs.Members.{in_place}
use Rattle.qe_reading.specs.Fits.{Fitting as FittingPart, is_empty, is_column, is_ascending, are_key_values, key_fits, filter_fits, unique_fits, pick_step, pick_fits, read_fits}
use Rattle.qe_reading.specs.Related.{is_some_such}
use Rattle.qe_reading.proofs.Layers.{fits_all, fits_pick}
use Rattle.qe_writing.specs.Numbers.{are_distinct}
use Rattle.qe_writing.specs.Parts.{step_parts, new_parts, nested_parts, old_parts, create_parts, is_few}
use Rattle.qe_writing.specs.WriteFits.{FittingCreate, value_fits, are_enough, columns_fit, create_fits, write_fits, op_fits}
use Rattle.qe_writing.proofs.FitLayers.{create_fits_roll}
use Rattle.qe_forms.specs.Request.{alone, value_of, all_of, given_in, values_of, whole_pick, create_of, value_at_column, find_by, find_of, if_carried_out, op_by, op_of, text_at, request_of, asks, asked_by, asked_in, asked_of, json_of, is_object_of}
use Rattle.qe_request.proofs.Carried.{unique_of, if_carried, simple_of}
use Rattle.qe_request.proofs.Given.{then_some, map_some, if_some}
use Rattle.qe_request.proofs.Rows.{fitting, given_right, numbers_of, given_numbers, numbers_distinct, numbers_ascend, all_covered, numbers_within}

-- ---- the model

-- a model that is simple, of the schema, has columns
record Stands (schema : Schema) (id : TableId) : Type 0 where
  simple : is_simple (table_at schema id.0) ≡ true
  model : is_model schema id.0 ≡ true
  some : 1 ≤ length (table_at schema id.0).columns

model_at : (schema : Schema) (table : ℕ) (found : Table) → slice_get schema.tables table ≡ Some found → not (table_at schema table).link ≡ true → is_model schema table ≡ true
model_at schema table found is own = ap is_model_table is ∙ ap (λ (o : Option Table). not (unwrap_or o no_table).link) (sym is) ∙ own

first_in : {A : Type 0} (item : A) (items : List A) → In item (item ∷ items)
unfolding In
first_in item items = inl refl

some_below : (columns : List ℕ) (count : ℕ) → 1 ≤ length columns → ((column : ℕ) → In column columns → column < count) → 1 ≤ count
some_below [] count some there = absurd (omega (arith, some))
some_below (column ∷ columns) count some there = let less = there column (first_in column columns) in omega (arith, less)

-- an id of one column is of a model with columns
columns_behind : (model : Table) (keys : List Key) → ((key : Key) → In key keys → KeyStands model key) → (length (first_columns keys) == 1) ≡ true → 1 ≤ length model.columns
columns_behind model [] stand one = absurd (true≢false (sym one))
columns_behind model (key ∷ keys) stand one = let own = stand key (first_in key keys) in some_below key.columns (length model.columns) own.some own.there

stands : (schema : Schema) (id : TableId) → HaveKeys schema → id.0 < length schema.tables → is_simple (table_at schema id.0) ≡ true → Stands schema id
stands schema id keys within simple =
    let model : Table = table_at schema id.0 in
    let found : slice_get schema.tables id.0 ≡ Some (get_or schema.tables id.0 no_table) = slice_get-get_or schema.tables id.0 no_table within in
    let same : model ≡ get_or schema.tables id.0 no_table = ap (λ (o : Option Table). unwrap_or o no_table) found in
    let parts = and_parts (not model.link && list_all is_simple_column model.columns) (length (id_columns model) == 1) simple in
    let own = subst HasKeys (sym same) (keys (get_or schema.tables id.0 no_table) (in_place schema.tables id.0 (get_or schema.tables id.0 no_table) found)) in
    record { simple = simple; model = model_at schema id.0 (get_or schema.tables id.0 no_table) found (and_parts (not model.link) (list_all is_simple_column model.columns) parts.0).0; some = columns_behind model model.keys own.stand parts.1 }

-- ---- all columns

some_numbers : (columns : List Column) → 1 ≤ length columns → is_empty (numbers_of 0 columns) ≡ false
some_numbers [] some = absurd (omega (arith, some))
some_numbers (column ∷ columns) some = refl

-- the columns alone of a pick fit
columns_alone : (schema : Schema) (table : ℕ) (numbers : List ℕ) → is_empty numbers ≡ false → list_all (is_column schema table) numbers ≡ true → is_ascending numbers ≡ true → pick_step schema (record { columns = numbers; counts = []; children = [] }) table ≡ true
columns_alone schema table [] some there ascend = absurd cc
columns_alone schema table (number ∷ numbers) some there ascend = and_from _ true (and_from _ true (and_from _ true (and_from (list_all (is_column schema table) (number ∷ numbers)) (is_ascending (number ∷ numbers)) there ascend) refl) refl) refl

pick_right : (schema : Schema) (id : TableId) → Stands schema id → pick_fits schema (whole_pick (table_at schema id.0)) id.0 ≡ true
pick_right schema id right =
    let model : Table = table_at schema id.0 in
    let numbers : List ℕ = numbers_of 0 model.columns in
    ap (λ (fits : FittingPart). fits id.0) (fits_pick schema (record { columns = numbers; counts = []; children = [] }))
    ∙ columns_alone schema id.0 numbers (some_numbers model.columns right.some) (numbers_within (length model.columns) 0 model.columns (omega arith)) (numbers_ascend 0 model.columns)

-- the operation fits the schema
abbrev FitsIt : Schema → Op → Type 0
FitsIt schema found = op_fits schema found ≡ true

-- ---- a create

abbrev tree_of : List (ℕ × Value) → Create
tree_of given = roll-Create (record { values = given; nested = [] })

few_parts : (given : List (ℕ × Value)) → is_few (create_parts (tree_of given)) ≡ true
few_parts given = ap is_few (fold-roll-Create ℕ ℕ ℕ ℕ step_parts new_parts nested_parts old_parts (record { values = given; nested = [] }))

tree_right : (schema : Schema) (id : TableId) (json : Data) (given : List (ℕ × Value)) → Stands schema id → values_of (table_at schema id.0).columns json ≡ Some given → (create_fits schema (tree_of given)).fits id.0 [] ≡ true
tree_right schema id json given right e =
    let columns : List Column = (table_at schema id.0).columns in
    let all = (if_some (is_object_of (map (λ (column : Column). column.name) columns) json) (all_of (map (given_in json) (enumerate_from 0 columns))) given e).1 in
    let values = given_right schema id.0 json 0 columns given (λ k. ap (slice_get columns) (let same : 0 + k ≡ k = omega arith in same)) all in
    let numbers : List ℕ = map (λ (one : ℕ × Value). one.0) given in
    let are : numbers ++ [] ++ [] ≡ numbers_of 0 columns = append-nil (numbers ++ []) ∙ append-nil numbers ∙ given_numbers schema.choices json 0 columns given all in
    let fit : columns_fit schema id.0 (numbers ++ [] ++ []) ≡ true = ap (columns_fit schema id.0) are ∙ and_from (are_distinct (numbers_of 0 columns)) (are_enough schema id.0 (numbers_of 0 columns)) (numbers_distinct 0 columns) (all_covered 0 columns) in
    ap (λ (made : FittingCreate). made.fits id.0 []) (create_fits_roll schema (record { values = given; nested = [] }))
    ∙ and_from _ (columns_fit schema id.0 (numbers ++ [] ++ [])) (and_from (is_model schema id.0 && list_all (value_fits schema id.0) given) true (and_from (is_model schema id.0) (list_all (value_fits schema id.0) given) right.model values) refl) fit

create_fits_it : (schema : Schema) (id : TableId) (json : Data) (found : Op) → Stands schema id → create_of id (table_at schema id.0) json ≡ Some found → FitsIt schema found
create_fits_it schema id json found right e =
    let made : List (ℕ × Value) → Op = λ values. op.Create id (tree_of values) (whole_pick (table_at schema id.0)) in
    let given = map_some made (values_of (table_at schema id.0).columns json) found e in
    subst (FitsIt schema) given.2
    (and_from (write_fits schema (made given.0)) (is_few (create_parts (tree_of given.0)))
    (and_from ((create_fits schema (tree_of given.0)).fits id.0 []) (pick_fits schema (whole_pick (table_at schema id.0)) id.0) (tree_right schema id json given.0 right given.1) (pick_right schema id right)) (few_parts given.0))

-- ---- a find

-- the value is one of the column's kind
value_taken : (schema : Schema) (column : Option Column) (json : Data) (found : Value) → value_at_column column json ≡ Some found → is_some_such (λ one. is_of_kind schema.choices one.kind found) column ≡ true
value_taken schema None json found e = absurd cc
value_taken schema (Some column) json found e =
    let got = then_some (value_of column.kind) (alone column.name json) found e in
    (fitting schema.choices column got.0 found got.2).own

-- the value of an id that is one column
key_right : (schema : Schema) (table : ℕ) (key : Key) (number : ℕ) (json : Data) (found : Value) → slice_get (table_at schema table).keys 0 ≡ Some key → key.columns ≡ number ∷ [] → value_at_column (slice_get (table_at schema table).columns number) json ≡ Some found → key_fits schema (unique_of found) table ≡ true
key_right schema table key number json found first columns e =
    ap (is_some_such (λ (one : Key). are_key_values schema table one.columns (found ∷ []))) first
    ∙ (ap (λ (all : List ℕ). are_key_values schema table all (found ∷ [])) columns ∙ and_from (is_some_such (λ (one : Column). is_of_kind schema.choices one.kind found) (slice_get (table_at schema table).columns number)) true (value_taken schema (slice_get (table_at schema table).columns number) json found e) refl)

unique_right : (schema : Schema) (table : ℕ) (found : Value) → key_fits schema (unique_of found) table ≡ true → unique_fits schema (unique_of found) table ≡ true
unique_right schema table found right = and_from (key_fits schema (unique_of found) table) (filter_fits schema (filter.All []) table) right (ap (λ (fits : FittingPart). fits table) (fits_all schema []))

-- the id that is asked for is one column, and its key the first
first_key : (keys : List Key) (number : ℕ) (others : List ℕ) → first_columns keys ≡ number ∷ others → (key : Key) × (slice_get keys 0 ≡ Some key) × (key.columns ≡ number ∷ others)
first_key [] number others is = absurd cc
first_key (key ∷ keys) number others is = (key, refl, is)

find_by_fits : (schema : Schema) (id : TableId) (columns : List ℕ) (json : Data) (found : Op) → Stands schema id → id_columns (table_at schema id.0) ≡ columns → find_by id (table_at schema id.0) columns json ≡ Some found → FitsIt schema found
find_by_fits schema id [] json found right is e = absurd cc
find_by_fits schema id (number ∷ []) json found right is e =
    let table = table_at schema id.0 in
    let key = first_key table.keys number [] is in
    let made : Value → Op = λ one. op.FindUnique id (unique_of one) false (whole_pick table) in
    let got = map_some made (value_at_column (slice_get table.columns number) json) found e in
    let reads : read_fits schema (made got.0) ≡ true =
    and_from (is_model schema id.0 && unique_fits schema (unique_of got.0) id.0) (pick_fits schema (whole_pick table) id.0)
    (and_from (is_model schema id.0) (unique_fits schema (unique_of got.0) id.0) right.model (unique_right schema id.0 got.0 (key_right schema id.0 key.0 number json got.0 key.1 key.2 got.1))) (pick_right schema id right) in
    subst (FitsIt schema) got.2 (ap (λ b. (b || false) && true) reads)
find_by_fits schema id (number ∷ other ∷ others) json found right is e = absurd cc

find_fits_it : (schema : Schema) (id : TableId) (json : Data) (found : Op) → Stands schema id → find_of id (table_at schema id.0) json ≡ Some found → FitsIt schema found
find_fits_it schema id json found right e = find_by_fits schema id (id_columns (table_at schema id.0)) json found right refl e

-- ---- a request

either_fits : (schema : Schema) (b c : Bool) (first second : Option Op) (found : Op) → (first ≡ Some found → FitsIt schema found) → (second ≡ Some found → FitsIt schema found)
    → (if b then first else (if c then second else None)) ≡ Some found → FitsIt schema found
either_fits schema true c first second found h k e = h e
either_fits schema false true first second found h k e = k e
either_fits schema false false first second found h k e = absurd cc

actions_fit : (schema : Schema) (id : TableId) (action : List ℕ) (arguments : Data) (found : Op) → Stands schema id → op_by id (table_at schema id.0) action arguments ≡ Some found → FitsIt schema found
actions_fit schema id action arguments found right =
    either_fits schema (bytes_eq action (codes "create")) (bytes_eq action (codes "findUnique")) (option_and_then (create_of id (table_at schema id.0)) (alone (codes "data") arguments))
    (option_and_then (find_of id (table_at schema id.0)) (alone (codes "where") arguments)) found
    (λ e. let got = then_some (create_of id (table_at schema id.0)) (alone (codes "data") arguments) found e in create_fits_it schema id got.0 found right got.2)
    (λ e. let got = then_some (find_of id (table_at schema id.0)) (alone (codes "where") arguments) found e in find_fits_it schema id got.0 found right got.2)

-- it is carried out so far, and fits
abbrev pub IsRight : Schema → Op → Type 0
IsRight schema found = (is_carried_out schema found ≡ true) × (op_fits schema found ≡ true)

op_right : (schema : Schema) (id : TableId) (action : List ℕ) (arguments : Data) (found : Op) → HaveKeys schema → id.0 < length schema.tables → op_of schema id action arguments ≡ Some found → IsRight schema found
op_right schema id action arguments found keys within e =
    let got = then_some (if_carried_out schema) (op_by id (table_at schema id.0) action arguments) found e in
    let own = if_carried schema got.0 found got.2 in
    let made : op_by id (table_at schema id.0) action arguments ≡ Some found = got.1 ∙ ap Some own.1 in
    let simple = simple_of schema id action arguments found made own.0 in
    (own.0, actions_fit schema id action arguments found (stands schema id keys within simple) made)

named_within : (name : List ℕ) (tables : List Table) (id : TableId) → table_named name tables ≡ Some id → id.0 < length tables
named_within name tables id e =
    let test : Table → Bool = λ table. bytes_eq table.name name in
    let at = map_some (λ (number : ℕ). let made : TableId = record { 0 = number } in made) (position test tables) id e in
    subst (λ (one : TableId). one.0 < length tables) at.2 (position-Some test tables at.0 no_table at.1).0

-- the parts of a request, one inside the other
abbrev by_action : Schema → Data → TableId → List ℕ → Option Op
by_action schema json id action = option_and_then (op_of schema id action) (option_and_then (alone (codes "arguments")) (get (codes "query") json))

abbrev by_id : Schema → Data → TableId → Option Op
by_id schema json id = option_and_then (by_action schema json id) (text_at (codes "action") json)

abbrev by_name : Schema → Data → List ℕ → Option Op
by_name schema json name = option_and_then (by_id schema json) (table_named name schema.tables)

request_right : (schema : Schema) (json : Data) (found : Op) → HaveKeys schema → request_of schema json ≡ Some found → IsRight schema found
request_right schema json found keys e =
    let whole = if_some (is_object_of (codes "action" ∷ codes "modelName" ∷ codes "query" ∷ []) json) (option_and_then (by_name schema json) (text_at (codes "modelName") json)) found e in
    let name = then_some (by_name schema json) (text_at (codes "modelName") json) found whole.1 in
    let id = then_some (by_id schema json) (table_named name.0 schema.tables) found name.2 in
    let action = then_some (by_action schema json id.0) (text_at (codes "action") json) found id.2 in
    let arguments = then_some (op_of schema id.0 action.0) (option_and_then (alone (codes "arguments")) (get (codes "query") json)) found action.2 in
    op_right schema id.0 action.0 arguments.0 found keys (named_within name.0 schema.tables id.0 id.1) arguments.2

by_some : (before : Option Op) (found : Op) → asked_by before ≡ asks found → before ≡ Some found
by_some None found e = absurd cc
by_some (Some one) found e = cc

in_right : (schema : Schema) (json : Option Data) (found : Op) → HaveKeys schema → asked_in schema json ≡ asks found → IsRight schema found
in_right schema None found keys e = absurd cc
in_right schema (Some json) found keys e = request_right schema json found keys (by_some (request_of schema json) found e)

-- what a line asks for is carried out so far, and fits the schema
pub asked_right : (schema : Schema) (text : List ℕ) (found : Op) → HaveKeys schema → asked_of schema text ≡ asks found → IsRight schema found
asked_right schema text found keys e = in_right schema (json_of text) found keys e
