-- Rows that fit: their values, and values put into their columns.
use Rattle.std.proofs.Common.{◌≡◌, inl, ℕ, zero, suc, Bool, true, false, not, List, [], ◌∷◌, map, length, zip, Option, Some, None, IfSome, option_map, unwrap_or, slice_get, slice_set, refl, sym, ap, subst, ◌∙◌, true≢false}
use Rattle.std.specs.Prelude.{is_some, if◌then◌else◌}
use Rattle.std.specs.List.{list_all}
use Rattle.std.proofs.lemmas.Bool.{and_parts, and_from}
use Rattle.std.proofs.lemmas.List.{length-map}
use Rattle.qe_text.specs.Lists.{In}
use Rattle.qe_base.specs.declared.value.Row.{Row}
use Rattle.qe_base.specs.declared.value.Value.{Value}
use Rattle.qe_base.specs.declared.value.Value.TheVariants.{Null}
use Rattle.qe_base.specs.declared.schema.Choice.{Choice}
use Rattle.qe_base.specs.declared.schema.Column.{Column}
use Rattle.qe_base.specs.declared.schema.Relation.{Relation}
use Rattle.qe_base.specs.Schemas.{Schema}
use Rattle.qe_schema.specs.Columns.{Values, is_null, value_at, at_columns}
use Rattle.qe_schema.specs.Fits.{fits_column, fit_columns, is_of_kind}
use Rattle.qe_base.specs.declared.value.RelId.{RelId}
use Rattle.qe_base.specs.declared.schema.Field.TheVariants.{Holder, Target}
use Rattle.qe_schema.specs.Tables.{table_at, column_at, field_at}
use Rattle.qe_reading.specs.Related.{is_some_such}
use Rattle.qe_schema.specs.References.{kinds_at, optional_at}
use Rattle.qe_writing.specs.Given.{with_values, with_columns}
use Rattle.qe_writing.specs.Delete.{nulls}
use Rattle.qe_writing.specs.Change.{first_or}
use Rattle.qe_writing.specs.Ways.{relation_at, no_relation}
use Rattle.qe_writing.specs.WriteFits.{value_fits}
use Rattle.qe_write_laws.specs.Keeps.{row_fits}
use Rattle.qe_schema.specs.Sound.{IsSound}
use Rattle.qe_schema.proofs.Members.{some_same, not_some, in_place, head_or, rest_of}

-- ---- one value

-- the value in a column of a row that fits
pub value_in : (choices : List Choice) (columns : List Column) (values : List Value) (number : ℕ) (column : Column) → fit_columns choices columns values ≡ true → slice_get columns number ≡ Some column → fits_column choices column (unwrap_or (slice_get values number) Null) ≡ true
value_in choices [] values number column fit at = absurd (true≢false (sym (ap is_some at)))
value_in choices (one ∷ columns) [] number column fit at = absurd (true≢false (sym fit))
value_in choices (one ∷ columns) (value ∷ values) zero column fit at =
    subst (λ (o : Option Column). is_some_such (λ found. fits_column choices found value) o ≡ true) at (and_parts (fits_column choices one value) (fit_columns choices columns values) fit).0
value_in choices (one ∷ columns) (value ∷ values) (suc number) column fit at = value_in choices columns values number column (and_parts (fits_column choices one value) (fit_columns choices columns values) fit).1 at

-- a value that fits, put into its column
pub set_fits : (choices : List Choice) (columns : List Column) (values : List Value) (number : ℕ) (value : Value) → fit_columns choices columns values ≡ true → is_some_such (λ column. fits_column choices column value) (slice_get columns number) ≡ true
    → fit_columns choices columns (slice_set values number value) ≡ true
set_fits choices [] values number value fit fits = absurd (true≢false (sym fits))
set_fits choices (one ∷ columns) [] number value fit fits = absurd (true≢false (sym fit))
set_fits choices (one ∷ columns) (old ∷ values) zero value fit fits = and_from (fits_column choices one value) (fit_columns choices columns values) fits (and_parts (fits_column choices one old) (fit_columns choices columns values) fit).1
set_fits choices (one ∷ columns) (old ∷ values) (suc number) value fit fits =
    let parts = and_parts (fits_column choices one old) (fit_columns choices columns values) fit in
    and_from (fits_column choices one old) (fit_columns choices columns (slice_set values number value)) parts.0 (set_fits choices columns values number value parts.1 fits)

with_values_fit : (schema : Schema) (table : ℕ) (numbers : List ℕ) (given values : List Value) → fit_columns schema.choices (table_at schema table).columns values ≡ true → list_all (value_fits schema table) (zip numbers given) ≡ true
    → fit_columns schema.choices (table_at schema table).columns (with_values numbers given values) ≡ true
with_values_fit schema table [] given values fit fits = fit
with_values_fit schema table (number ∷ numbers) [] values fit fits = fit
with_values_fit schema table (number ∷ numbers) (value ∷ given) values fit fits =
    let parts = and_parts (value_fits schema table (number, value)) (list_all (value_fits schema table) (zip numbers given)) fits in
    with_values_fit schema table numbers given (slice_set values number value) (set_fits schema.choices (table_at schema table).columns values number value fit parts.0) parts.1

-- values that fit, put into the columns of a row that fits
pub with_columns_fit : (schema : Schema) (table : ℕ) (numbers : List ℕ) (given : Values) (row : Row) → row_fits schema table row ≡ true → list_all (value_fits schema table) (zip numbers given) ≡ true → row_fits schema table (with_columns numbers given row) ≡ true
with_columns_fit schema table numbers given row = with_values_fit schema table numbers given row.values

-- ---- references

-- what stands in a required column is a value of its kind, and fits each column of that kind
handed_to : (choices : List Choice) (value : Value) (own other : Column) → own.kind ≡ other.kind → other.optional ≡ false → fits_column choices other value ≡ true → fits_column choices own value ≡ true
handed_to choices value own other same required fits = by_null (is_null value) refl
  where
    by_null : (b : Bool) → is_null value ≡ b → fits_column choices own value ≡ true
    by_null true is = absurd (true≢false (sym fits ∙ ap (λ c. if c then other.optional else is_of_kind choices other.kind value) is ∙ required))
    by_null false is =
        ap (λ c. if c then own.optional else is_of_kind choices own.kind value) is ∙ ap (λ k. is_of_kind choices k value) same ∙ sym (ap (λ c. if c then other.optional else is_of_kind choices other.kind value) is) ∙ fits

handed_one : (choices : List Choice) (value : Value) (own other : Option Column) → option_map (λ (found : Column). found.kind) own ≡ option_map (λ (found : Column). found.kind) other → option_map (λ (found : Column). found.optional) other ≡ Some false
    → is_some_such (λ column. fits_column choices column value) other ≡ true → is_some_such (λ column. fits_column choices column value) own ≡ true
handed_one choices value None None kinds required fits = fits
handed_one choices value None (Some other) kinds required fits = absurd (true≢false (sym (ap is_some kinds)))
handed_one choices value (Some own) None kinds required fits = absurd (true≢false (sym fits))
handed_one choices value (Some own) (Some other) kinds required fits = handed_to choices value own other (some_same own.kind other.kind kinds) (some_same other.optional false required) fits

-- a column that is there has a value that fits
there_fits : (choices : List Choice) (columns : List Column) (values : List Value) (number : ℕ) (o : Option Column) → fit_columns choices columns values ≡ true → slice_get columns number ≡ o → option_map (λ (found : Column). found.optional) o ≡ Some false
    → is_some_such (λ column. fits_column choices column (unwrap_or (slice_get values number) Null)) o ≡ true
there_fits choices columns values number None fit at required = absurd (true≢false (sym (ap is_some required)))
there_fits choices columns values number (Some column) fit at required = value_in choices columns values number column fit at

pub handed : (schema : Schema) (child parent : ℕ) (own others : List ℕ) (row : Row) → row_fits schema parent row ≡ true → kinds_at schema child own ≡ kinds_at schema parent others → optional_at schema parent others ≡ map (λ column. Some false) others
    → list_all (value_fits schema child) (zip own (at_columns others row)) ≡ true
handed schema child parent [] others row fit kinds required = refl
handed schema child parent (number ∷ own) [] row fit kinds required = refl
handed schema child parent (number ∷ own) (other ∷ others) row fit kinds required =
    and_from (value_fits schema child (number, value_at row other)) (list_all (value_fits schema child) (zip own (at_columns others row)))
    (handed_one schema.choices (value_at row other) (column_at schema child number) (column_at schema parent other) (ap (head_or None) kinds) first_required
    (there_fits schema.choices (table_at schema parent).columns row.values other (column_at schema parent other) fit refl first_required))
    (handed schema child parent own others row fit (ap rest_of kinds) (ap rest_of required))
  where
    first_required : option_map (λ (found : Column). found.optional) (column_at schema parent other) ≡ Some false
    first_required = ap (head_or None) required

null_fits : (choices : List Choice) (optional : Bool) (o : Option Column) → optional ≡ true → option_map (λ (found : Column). found.optional) o ≡ Some optional → is_some_such (λ column. fits_column choices column Null) o ≡ true
null_fits choices optional None is at = absurd (true≢false (sym (ap is_some at)))
null_fits choices optional (Some column) is at = some_same column.optional optional at ∙ is

pub nulls_fit : (schema : Schema) (child : ℕ) (own : List ℕ) (optional : Bool) → optional ≡ true → optional_at schema child own ≡ map (λ column. Some optional) own → list_all (value_fits schema child) (zip own (nulls own)) ≡ true
nulls_fit schema child [] optional is at = refl
nulls_fit schema child (number ∷ own) optional is at =
    and_from (value_fits schema child (number, Null)) (list_all (value_fits schema child) (zip own (nulls own)))
    (null_fits schema.choices optional (column_at schema child number) is (ap (head_or None) at))
    (nulls_fit schema child own optional is (ap rest_of at))

-- the first of some columns that are required where they are there, of which there is one of this column's kind
pub first_fits : (schema : Schema) (table : ℕ) (row : Row) (column : Column) (own : Option Column) → own ≡ Some column → row_fits schema table row ≡ true → (otherwise : Value) (numbers : List ℕ)
    → ((number : ℕ) → In number numbers → IfSome (column_at schema table number) (λ (found : Column). found.optional ≡ false)) → option_map (λ (found : Column). found.kind) own ∷ [] ≡ kinds_at schema table numbers
    → fits_column schema.choices column (first_or otherwise (at_columns numbers row)) ≡ true
unfolding In
first_fits schema table row column own at right otherwise [] required kinds = absurd cc
first_fits schema table row column own at right otherwise (number ∷ numbers) required kinds = by_column (column_at schema table number) refl (required number (inl refl)) (ap (head_or None) kinds)
  where
    by_column : (o : Option Column) → column_at schema table number ≡ o → IfSome o (λ (found : Column). found.optional ≡ false) → option_map (λ (found : Column). found.kind) own ≡ option_map (λ (found : Column). found.kind) o
        → fits_column schema.choices column (value_at row number) ≡ true
    by_column None is needed same = absurd (not_some column.kind (sym same ∙ ap (option_map (λ (found : Column). found.kind)) at))
    by_column (Some other) is needed same =
        handed_to schema.choices (value_at row number) column other (some_same column.kind other.kind (sym (ap (option_map (λ (found : Column). found.kind)) at) ∙ same)) needed
        (value_in schema.choices (table_at schema table).columns row.values number other right is)

-- ---- relations by their numbers

-- what holds of no relation and of each one of the schema
of_relation : (schema : Schema) (P : Relation → Type 0) → P no_relation → ((relation : Relation) → In relation schema.relations → P relation) → (number : ℕ) → P (relation_at schema number)
of_relation schema P none each number = by_found (slice_get schema.relations number) refl
  where
    by_found : (o : Option Relation) → slice_get schema.relations number ≡ o → P (unwrap_or o no_relation)
    by_found None at = none
    by_found (Some relation) at = each relation (in_place schema.relations number relation at)

abbrev HandsOn : Schema → Relation → Type 0
HandsOn schema relation = (row : Row) → row_fits schema relation.parent.0 row ≡ true → list_all (value_fits schema relation.child.0) (zip relation.child_columns (at_columns relation.parent_columns row)) ≡ true

-- the values of a parent that fits are values of the columns that refer to them
pub hands_on : (schema : Schema) → IsSound schema → (number : ℕ) → HandsOn schema (relation_at schema number)
hands_on schema sound = of_relation schema (HandsOn schema) (λ row fit. refl) (λ relation is_in row fit.
    handed schema relation.child.0 relation.parent.0 relation.child_columns relation.parent_columns row fit (sound.agree relation is_in).kinds (sound.required relation is_in))

abbrev CountsRight : Relation → Type 0
CountsRight relation = (row : Row) → length relation.child_columns ≡ length (at_columns relation.parent_columns row)

pub counts_right : (schema : Schema) → IsSound schema → (number : ℕ) → CountsRight (relation_at schema number)
counts_right schema sound = of_relation schema CountsRight (λ row. refl) (λ relation is_in row. (sound.refer relation is_in).same ∙ sym (length-map relation.parent_columns (value_at row)))

abbrev LetsGo : Schema → Relation → Type 0
LetsGo schema relation = relation.optional ≡ true → list_all (value_fits schema relation.child.0) (zip relation.child_columns (nulls relation.child_columns)) ≡ true

-- null stands in the columns of an optional reference
pub lets_go : (schema : Schema) → IsSound schema → (number : ℕ) → LetsGo schema (relation_at schema number)
lets_go schema sound = of_relation schema (LetsGo schema) (λ optional. refl) (λ relation is_in optional. nulls_fit schema relation.child.0 relation.child_columns relation.optional optional (sound.agree relation is_in).optional)

-- a reference that isn't needed can be let go
pub lets_go_unneeded : (schema : Schema) → IsSound schema → (number : ℕ) → is_some_such (λ relation. not relation.optional) (slice_get schema.relations number) ≡ false
    → list_all (value_fits schema (relation_at schema number).child.0) (zip (relation_at schema number).child_columns (nulls (relation_at schema number).child_columns)) ≡ true
lets_go_unneeded schema sound number unneeded = by_found (slice_get schema.relations number) refl unneeded
  where
    not_false : (b : Bool) → not b ≡ false → b ≡ true
    not_false true is = refl
    not_false false is = absurd (true≢false is)

    by_found : (o : Option Relation) → slice_get schema.relations number ≡ o → is_some_such (λ relation. not relation.optional) o ≡ false
        → list_all (value_fits schema (unwrap_or o no_relation).child.0) (zip (unwrap_or o no_relation).child_columns (nulls (unwrap_or o no_relation).child_columns)) ≡ true
    by_found None at is = refl
    by_found (Some relation) at is = nulls_fit schema relation.child.0 relation.child_columns relation.optional (not_false relation.optional is) (sound.agree relation (in_place schema.relations number relation at)).optional

-- ---- the fields of relations

-- the field that holds a relation is one of its child
pub is_of_child : (schema : Schema) → IsSound schema → (table field : ℕ) (relation : RelId) → field_at schema table field ≡ Some (Holder relation) → (relation_at schema relation.0).child.0 ≡ table
is_of_child schema sound table field relation at = let leads = sound.fields table field (Holder relation) at in ap (λ o. (unwrap_or o no_relation).child.0) leads.1 ∙ leads.2

-- the one on its other side is one of its parent
pub is_of_parent : (schema : Schema) → IsSound schema → (table field : ℕ) (relation : RelId) → field_at schema table field ≡ Some (Target relation) → (relation_at schema relation.0).parent.0 ≡ table
is_of_parent schema sound table field relation at = let leads = sound.fields table field (Target relation) at in ap (λ o. (unwrap_or o no_relation).parent.0) leads.1 ∙ leads.2
