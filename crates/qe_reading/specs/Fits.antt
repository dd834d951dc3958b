-- What it takes that the parts of a reading operation fit a table of the schema.
use Rattle.std.specs.Prelude as Prelude
use Rattle.std.specs.Prelude.{ℕ, ℤ, List, [], ◌∷◌, true, false, ◌&&◌, ◌||◌, not, map, length, nat_lt, slice_get, Option, Some, None}
use Rattle.std.specs.List.{list_all}
use Rattle.qe_base.specs.declared.value.Value.{Value}
use Rattle.qe_base.specs.declared.query.Filter.{Filter, out-Filter}
use Rattle.qe_base.specs.declared.query.Filter.TheOpen.{Filter-F}
use Rattle.qe_base.specs.declared.query.Filter.TheOpen as filter
use Rattle.qe_base.specs.declared.query.Filter.TheFolds.{fold-Filter}
use Rattle.qe_base.specs.declared.query.OrderBy.{OrderBy}
use Rattle.qe_base.specs.declared.query.OrderEnd.{OrderEnd}
use Rattle.qe_base.specs.declared.query.OrderEnd.TheVariants as end
use Rattle.qe_base.specs.declared.query.Page.{Page}
use Rattle.qe_base.specs.declared.query.Unique.{Unique}
use Rattle.qe_base.specs.declared.query.Look.{Look}
use Rattle.qe_base.specs.declared.query.Pick.{Pick}
use Rattle.qe_base.specs.declared.query.Child.{Child}
use Rattle.qe_base.specs.declared.query.Child.TheOpen.{Child-F, Pick-F}
use Rattle.qe_base.specs.declared.query.Child.TheFolds.{fold-Pick, fold-Child}
use Rattle.qe_base.specs.declared.write.Op.{Op}
use Rattle.qe_base.specs.declared.write.Op.TheVariants as op
use Rattle.qe_base.specs.Schemas.{Schema}
use Rattle.qe_scalars.specs.Numbers.{is_small}
use Rattle.qe_schema.specs.Tables.{table_at, is_model, column_at}
use Rattle.qe_schema.specs.Fits.{is_of_kind}
use Rattle.qe_schema.specs.Tests.{test_fits}
use Rattle.qe_reading.specs.Related.{other_table, is_to_many, is_to_one, is_some_such}

-- a part that fits the table of a number
abbrev pub Fitting : Type 0
Fitting = ℕ → Prelude.Bool

-- nothing in a list
abbrev pub is_empty : {A : Type 0} → List A → Prelude.Bool
is_empty [] = true
is_empty (item ∷ items) = false

abbrev pub is_column : Schema → ℕ → ℕ → Prelude.Bool
is_column schema table number = nat_lt number (length (table_at schema table).columns)

-- ---- filters

abbrev pub filter_step : Schema → Filter-F Fitting → Fitting
filter_step schema (filter.All parts) table = list_all (λ part. part table) parts
filter_step schema (filter.Any parts) table = list_all (λ part. part table) parts
filter_step schema (filter.Not part) table = part table
filter_step schema (filter.Test column asked) table = is_some_such (test_fits schema.choices asked) (column_at schema table column)
filter_step schema (filter.Many field how inner) table = is_to_many schema table field && inner (other_table schema table field)
filter_step schema (filter.One field None) table = is_to_one schema table field
filter_step schema (filter.One field (Some inner)) table = is_to_one schema table field && inner (other_table schema table field)

-- the filter is one on the table
abbrev pub filter_fits : Schema → Filter → Fitting
filter_fits schema = fold-Filter Fitting (filter_step schema)

-- all of nothing: no filter
abbrev pub asks_nothing : Filter-F Filter → Prelude.Bool
asks_nothing (filter.All parts) = is_empty parts
asks_nothing (filter.Any parts) = false
asks_nothing (filter.Not part) = false
asks_nothing (filter.Test column asked) = false
asks_nothing (filter.Many field how inner) = false
asks_nothing (filter.One field inner) = false

-- ---- keys

-- one value for each column, of its kind
abbrev pub are_key_values : Schema → ℕ → List ℕ → List Value → Prelude.Bool
are_key_values schema table [] [] = true
are_key_values schema table [] (value ∷ values) = false
are_key_values schema table (column ∷ columns) [] = false
are_key_values schema table (column ∷ columns) (value ∷ values) = is_some_such (λ found. is_of_kind schema.choices found.kind value) (column_at schema table column) && are_key_values schema table columns values

-- the values of one of the table's keys, none of them null
abbrev pub key_fits : Schema → Unique → Fitting
key_fits schema at table = is_some_such (λ key. are_key_values schema table key.columns at.values.values) (slice_get (table_at schema table).keys at.key)

abbrev pub unique_fits : Schema → Unique → Fitting
unique_fits schema at table = key_fits schema at table && filter_fits schema at.extra table

-- a cursor is a key alone
abbrev pub cursor_fits : Schema → Unique → Fitting
cursor_fits schema cursor table = key_fits schema cursor table && asks_nothing (out-Filter cursor.extra)

-- ---- orders and pages

abbrev pub says_nothing : Option Prelude.Bool → Prelude.Bool
says_nothing None = true
says_nothing (Some nulls_first) = false

-- a column, optional where the place of nulls is asked for, or a number of related rows
abbrev pub end_fits : Schema → OrderEnd → Option Prelude.Bool → Fitting
end_fits schema (end.Column column) nulls_first table = is_some_such (λ found. says_nothing nulls_first || found.optional) (column_at schema table column)
end_fits schema (end.Count field) nulls_first table = says_nothing nulls_first && is_to_many schema table field

-- each field of the path leads to one row
abbrev pub path_fits : Schema → List ℕ → OrderEnd → Option Prelude.Bool → Fitting
path_fits schema [] end nulls_first table = end_fits schema end nulls_first table
path_fits schema (field ∷ path) end nulls_first table = is_to_one schema table field && path_fits schema path end nulls_first (other_table schema table field)

abbrev pub order_fits : Schema → OrderBy → Fitting
order_fits schema order table = path_fits schema order.path order.end order.nulls_first table

abbrev pub is_none_or : {A : Type 0} → (A → Prelude.Bool) → Option A → Prelude.Bool
is_none_or test None = true
is_none_or test (Some found) = test found

-- how many are skipped and taken is within 32 bits
abbrev pub page_fits : Schema → Page → Fitting
page_fits schema page table = list_all (is_column schema table) page.distinct && is_none_or (λ cursor. cursor_fits schema cursor table) page.cursor && nat_lt page.skip 4294967296 && is_none_or is_small page.take

abbrev pub look_fits : Schema → Look → Fitting
look_fits schema look table = filter_fits schema look.filter table && list_all (λ order. order_fits schema order table) look.order && page_fits schema look.page table

-- ---- picks

-- each number is smaller than the next
abbrev pub is_ascending : List ℕ → Prelude.Bool
is_ascending [] = true
is_ascending (number ∷ []) = true
is_ascending (number ∷ next ∷ numbers) = nat_lt number next && is_ascending (next ∷ numbers)

abbrev pub is_blank_page : Page → Prelude.Bool
is_blank_page page = is_empty page.distinct && is_none_or (λ cursor. false) page.cursor && not (nat_lt 0 page.skip) && is_none_or (λ count. false) page.take

-- all rows, as they stand
abbrev pub is_blank : Look → Prelude.Bool
is_blank look = asks_nothing (out-Filter look.filter) && is_empty look.order && is_blank_page look.page

-- A child of a pick: its field, and whether it fits the table that the field is of.
pub record FittingChild : Type 0 where
  pub field : ℕ
  pub fits : Fitting

-- only a list of rows is looked up in
abbrev pub child_fits_in : Schema → Look → ℕ → ℕ → Prelude.Bool
child_fits_in schema look table field = (is_to_many schema table field && look_fits schema look (other_table schema table field)) || (is_to_one schema table field && is_blank look)

abbrev pub child_step : Schema → Child-F FittingChild Fitting → FittingChild
child_step schema child = record { field = child.field; fits = λ table. child_fits_in schema child.look table child.field && child.pick (other_table schema table child.field) }

abbrev pub fits_children : List FittingChild → Fitting
fits_children children table = list_all (λ child. child.fits table) children && is_ascending (map (λ child. child.field) children)

-- the pick has something, and nothing twice
abbrev pub pick_step : Schema → Pick-F FittingChild Fitting → Fitting
pick_step schema pick table =
    not (is_empty pick.columns && is_empty pick.counts && is_empty pick.children)
    && list_all (is_column schema table) pick.columns && is_ascending pick.columns
    && list_all (is_to_many schema table) pick.counts && is_ascending pick.counts
    && fits_children pick.children table

abbrev pub pick_fits : Schema → Pick → Fitting
pick_fits schema = fold-Pick FittingChild Fitting (child_step schema) (pick_step schema)

-- the same of a child
abbrev pub child_fits : Schema → Child → FittingChild
child_fits schema = fold-Child FittingChild Fitting (child_step schema) (pick_step schema)

-- ---- operations

-- an operation that only reads, and fits the schema; what is counted is never distinct
abbrev pub read_fits : Schema → Op → Prelude.Bool
read_fits schema (op.FindUnique table at strict pick) = is_model schema table.0 && unique_fits schema at table.0 && pick_fits schema pick table.0
read_fits schema (op.FindFirst table look strict pick) = is_model schema table.0 && look_fits schema look table.0 && pick_fits schema pick table.0
read_fits schema (op.FindMany table look pick) = is_model schema table.0 && look_fits schema look table.0 && pick_fits schema pick table.0
read_fits schema (op.Count table look) = is_model schema table.0 && look_fits schema look table.0 && is_empty look.page.distinct
read_fits schema (op.Create table tree pick) = false
read_fits schema (op.CreateMany table trees pick) = false
read_fits schema (op.Update table at tree pick) = false
read_fits schema (op.UpdateMany table asked tree) = false
read_fits schema (op.Upsert table at create update pick) = false
read_fits schema (op.Delete table at pick) = false
read_fits schema (op.DeleteMany table asked) = false
