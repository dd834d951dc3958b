-- Values that fit a column, rows that fit a table, and tables that fit a schema.
use Rattle.std.specs.Prelude as Prelude
use Rattle.std.specs.Prelude.{◌≡◌, ℕ, ℤ, pos, List, [], ◌∷◌, true, false, ◌&&◌, not, nat_lt, length, slice_get, int_lt, Option, Some, None, if◌then◌else◌}
use Rattle.std.specs.List.{list_all, AllByRecursion}
use Rattle.std.specs.declared.cmp.Ordering.TheVariants.{Less}
use Rattle.qe_base.specs.declared.value.Kind.{Kind}
use Rattle.qe_base.specs.declared.value.Kind.TheVariants as kind
use Rattle.qe_base.specs.declared.value.Row.{Row}
use Rattle.qe_base.specs.declared.value.Value.{Value}
use Rattle.qe_base.specs.declared.value.Value.TheVariants.{Null, Text, Bool, Int, Moment, Blob, Member}
use Rattle.qe_base.specs.declared.schema.Choice.{Choice}
use Rattle.qe_base.specs.declared.schema.Column.{Column}
use Rattle.qe_base.specs.declared.schema.Key.{Key}
use Rattle.qe_base.specs.declared.schema.Table.{Table}
use Rattle.qe_base.specs.Schemas.{Schema}
use Rattle.qe_scalars.specs.Numbers.{is_small, is_big}
use Rattle.qe_scalars.specs.Moments.{is_moment}
use Rattle.qe_schema.specs.Columns.{Values, is_null, at_columns, holds, values_cmp}
use Rattle.qe_schema.specs.Pairs.{PairsAscend, both_values}
use Rattle.qe_schema.specs.Tables.{Tables, table_at, is_model, is_link, id_columns, id_of}

abbrev pub is_text : Kind → Prelude.Bool
is_text kind.Text = true
is_text kind.Bool = false
is_text kind.Int = false
is_text kind.Big = false
is_text kind.Moment = false
is_text kind.Blob = false
is_text (kind.Member enum) = false

abbrev pub is_truth : Kind → Prelude.Bool
is_truth kind.Text = false
is_truth kind.Bool = true
is_truth kind.Int = false
is_truth kind.Big = false
is_truth kind.Moment = false
is_truth kind.Blob = false
is_truth (kind.Member enum) = false

-- within 32 or 64 bits, signed
abbrev pub has_number : Kind → ℤ → Prelude.Bool
has_number kind.Text number = false
has_number kind.Bool number = false
has_number kind.Int number = is_small number
has_number kind.Big number = is_big number
has_number kind.Moment number = false
has_number kind.Blob number = false
has_number (kind.Member enum) number = false

-- in the years 0000 to 9999
abbrev pub has_moment : Kind → ℤ → Prelude.Bool
has_moment kind.Text moment = false
has_moment kind.Bool moment = false
has_moment kind.Int moment = false
has_moment kind.Big moment = false
has_moment kind.Moment moment = is_moment moment
has_moment kind.Blob moment = false
has_moment (kind.Member enum) moment = false

abbrev pub is_blob : Kind → Prelude.Bool
is_blob kind.Text = false
is_blob kind.Bool = false
is_blob kind.Int = false
is_blob kind.Big = false
is_blob kind.Moment = false
is_blob kind.Blob = true
is_blob (kind.Member enum) = false

abbrev pub members_of : Option Choice → List (List ℕ)
members_of None = []
members_of (Some choice) = choice.members

-- one of the enum's members
abbrev pub has_member : List Choice → Kind → ℕ → Prelude.Bool
has_member choices kind.Text member = false
has_member choices kind.Bool member = false
has_member choices kind.Int member = false
has_member choices kind.Big member = false
has_member choices kind.Moment member = false
has_member choices kind.Blob member = false
has_member choices (kind.Member enum) member = nat_lt member (length (members_of (slice_get choices enum.0)))

-- the value is one of the kind
abbrev pub is_of_kind : List Choice → Kind → Value → Prelude.Bool
is_of_kind choices kind Null = false
is_of_kind choices kind (Text text) = is_text kind
is_of_kind choices kind (Bool truth) = is_truth kind
is_of_kind choices kind (Int number) = has_number kind number
is_of_kind choices kind (Moment moment) = has_moment kind moment
is_of_kind choices kind (Blob bytes) = is_blob kind
is_of_kind choices kind (Member member) = has_member choices kind member

-- null stands in optional columns alone
abbrev pub fits_column : List Choice → Column → Value → Prelude.Bool
fits_column choices column value = if is_null value then column.optional else is_of_kind choices column.kind value

-- one value for each column
abbrev pub fit_columns : List Choice → List Column → Values → Prelude.Bool
fit_columns choices [] [] = true
fit_columns choices [] (value ∷ values) = false
fit_columns choices (column ∷ columns) [] = false
fit_columns choices (column ∷ columns) (value ∷ values) = fits_column choices column value && fit_columns choices columns values

abbrev pub is_whole_number : Kind → Prelude.Bool
is_whole_number kind.Text = false
is_whole_number kind.Bool = false
is_whole_number kind.Int = true
is_whole_number kind.Big = true
is_whole_number kind.Moment = false
is_whole_number kind.Blob = false
is_whole_number (kind.Member enum) = false

abbrev pub is_counting_column : Option Column → Prelude.Bool
is_counting_column None = false
is_counting_column (Some column) = is_whole_number column.kind

abbrev pub only_if : Prelude.Bool → ℕ → Option ℕ
only_if false number = None
only_if true number = Some number

-- the column that numbers the rows: an id that is one column of whole numbers
abbrev pub counting : List Column → List ℕ → Option ℕ
counting columns [] = None
counting columns (number ∷ []) = only_if (is_counting_column (slice_get columns number)) number
counting columns (number ∷ other ∷ others) = None

-- each row comes before those that stand after it
abbrev pub Ascending : Table → List Row → Type 0
Ascending table [] = Unit {0}
Ascending table (row ∷ rows) = AllByRecursion (λ later. values_cmp (id_of table row) (id_of table later) ≡ Less) rows × Ascending table rows

-- no two rows agree on a key, unless a null is in it
abbrev pub KeyApart : List ℕ → List Row → Type 0
KeyApart columns [] = Unit {0}
KeyApart columns (row ∷ rows) = AllByRecursion (λ later. holds columns (at_columns columns row) later ≡ false) rows × KeyApart columns rows

abbrev pub at_number : Option ℕ → Row → List Value
at_number None row = []
at_number (Some number) row = at_columns (number ∷ []) row

abbrev pub is_within : ℤ → Value → Prelude.Bool
is_within last Null = true
is_within last (Text text) = true
is_within last (Bool truth) = true
is_within last (Int number) = not (int_lt last number)
is_within last (Moment moment) = true
is_within last (Blob bytes) = true
is_within last (Member member) = true

-- no id is above the counter, which is at least 0, and 0 where the id doesn't count
abbrev pub Counts : Table → ℤ → List Row → Type 0
Counts table last rows = (list_all (λ row. list_all (is_within last) (at_number (counting table.columns (id_columns table)) row)) rows ≡ true) × (int_lt last (pos 0) ≡ false) × (counting table.columns (id_columns table) ≡ None → last ≡ pos 0)

-- The tables are such as the schema says: models have rows and counters, and link tables pairs.
pub record FitsSchema (schema : Schema) (tables : Tables) : Type 0 where
  pub models : (table : ℕ) → is_model schema table ≡ false → tables.rows table ≡ []
  pub kinds : (table : ℕ) → list_all (λ row. fit_columns schema.choices (table_at schema table).columns row.values) (tables.rows table) ≡ true
  pub order : (table : ℕ) → Ascending (table_at schema table) (tables.rows table)
  pub keys : (table number : ℕ) (key : Key) → slice_get (table_at schema table).keys number ≡ Some key → KeyApart key.columns (tables.rows table)
  pub counters : (table : ℕ) → Counts (table_at schema table) (tables.last table) (tables.rows table)
  pub links : (table : ℕ) → is_link schema table ≡ false → tables.pairs table ≡ []
  pub pair_kinds : (table : ℕ) → list_all (λ pair. fit_columns schema.choices (table_at schema table).columns (both_values pair)) (tables.pairs table) ≡ true
  pub pair_order : (table : ℕ) → PairsAscend (tables.pairs table)
