-- The tables of a schema in plain lists.
use Rattle.std.specs.Prelude.{◌≡◌, ℕ, pos, List, [], true, get_or}
use Rattle.std.specs.List.{list_all}
use Rattle.std.specs.Int.{int_max}
use Rattle.qe_base.specs.Schemas.{Schema}
use Rattle.qe_base.specs.declared.schema.Table.{Table}
use Rattle.qe_schema.specs.Fits.{fit_columns}
use Rattle.qe_schema.specs.Pairs.{with_pair, without_pair, both_values}
use Rattle.qe_schema.specs.Put.{put_among}
use Rattle.qe_schema.specs.Tables.{Tables, table_at}
use Rattle.qe_view.specs.After.{without_id}
use Rattle.qe_view.specs.declared.changes.Change.{Change}
use Rattle.qe_view.specs.declared.changes.Change.TheVariants.{Remove, Put, Unlink, Link, Counter}
use Rattle.qe_plain.specs.declared.tables.PlainTable.{PlainTable}

abbrev pub nothing_kept : PlainTable
nothing_kept = record { rows = []; pairs = []; last = pos 0 }

-- what is kept of the table of a number, and nothing where there is none
abbrev pub kept_at : List PlainTable → ℕ → PlainTable
kept_at kept table = get_or kept table nothing_kept

-- the tables that are kept
abbrev pub tables_of : List PlainTable → Tables
tables_of kept = record { rows = λ table. (kept_at kept table).rows; last = λ table. (kept_at kept table).last; pairs = λ table. (kept_at kept table).pairs }

-- the number of the table that a change is made in
abbrev pub table_of : Change → ℕ
table_of (Remove table id) = table.0
table_of (Put table row) = table.0
table_of (Unlink table a b) = table.0
table_of (Link table a b) = table.0
table_of (Counter table last) = table.0

-- a table of this shape after a change of it
abbrev pub changed : Table → Change → PlainTable → PlainTable
changed shape (Remove table id) kept = record kept { rows = without_id shape id.values kept.rows }
changed shape (Put table row) kept = record kept { rows = put_among shape row kept.rows }
changed shape (Unlink table a b) kept = record kept { pairs = without_pair (a, b) kept.pairs }
changed shape (Link table a b) kept = record kept { pairs = with_pair (a, b) kept.pairs }
changed shape (Counter table last) kept = record kept { last = int_max last kept.last }

-- each row and each pair has one value for each column of its table
pub record FitColumns (schema : Schema) (tables : Tables) : Type 0 where
  pub kinds : (table : ℕ) → list_all (λ row. fit_columns schema.choices (table_at schema table).columns row.values) (tables.rows table) ≡ true
  pub pair_kinds : (table : ℕ) → list_all (λ pair. fit_columns schema.choices (table_at schema table).columns (both_values pair)) (tables.pairs table) ≡ true
