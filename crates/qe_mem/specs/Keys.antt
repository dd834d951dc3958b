-- Rows by their values in some columns.
use Rattle.std.specs.Prelude.{[], Bool, Option}
use Rattle.std.specs.Ordering.{on, then_cmp, as_partial_cmp, eq_by_cmp, is_eq}
use Rattle.std.specs.declared.cmp.Ordering.{Ordering}
use Rattle.qe_base.specs.declared.value.Row.{Row}
use Rattle.qe_schema.specs.Columns.{Values, at_columns, values_cmp}
use Rattle.qe_mem.specs.declared.keyed.Columns.{Columns}
use Rattle.qe_mem.specs.declared.keyed.Columns.TheVariants.{Whole, Listed}
use Rattle.qe_mem.specs.declared.keyed.Keyed.{Keyed}

-- the values of a row's key
abbrev pub key_part : Columns → Row → Values
key_part Whole row = row.values
key_part (Listed key id) row = at_columns key row

-- the values of its id
abbrev pub id_part : Columns → Row → Values
id_part Whole row = []
id_part (Listed key id) row = at_columns id row

-- by the keys, and then by the ids
abbrev pub keyed_cmp : Keyed → Keyed → Ordering
keyed_cmp = then_cmp (on (λ k. key_part k.columns k.row) values_cmp) (on (λ k. id_part k.columns k.row) values_cmp)

abbrev pub keyed_partial_cmp : Keyed → Keyed → Option Ordering
keyed_partial_cmp = as_partial_cmp keyed_cmp

abbrev pub keyed_eq : Keyed → Keyed → Bool
keyed_eq = eq_by_cmp keyed_cmp

-- a row under columns
abbrev pub under : Columns → Row → Keyed
under columns row = record { columns = columns; row = row }

-- the order of rows by columns
abbrev pub row_order : Columns → Row → Row → Ordering
row_order columns row other = keyed_cmp (under columns row) (under columns other)

-- a row under columns stands at a place
abbrev pub stands_at : Columns → Keyed → Row → Bool
stands_at columns place row = is_eq (keyed_cmp place (under columns row))
