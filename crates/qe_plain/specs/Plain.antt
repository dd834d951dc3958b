-- What is seen of a connector over plain lists.
use Rattle.std.specs.Prelude.{◌≡◌, ℕ, pos, int_lt, Bool, false, List, length, Option, None, IfSome}
use Rattle.qe_base.specs.declared.value.Row.{Row}
use Rattle.qe_schema.specs.Tables.{Tables}
use Rattle.qe_view.specs.After.{page_in}
use Rattle.qe_view.specs.Attached.{Attached, Connected, OfShapes, shapes_of}
use Rattle.qe_mem.specs.Counts.{calls_of, faults_of}
use Rattle.qe_mem.specs.declared.counts.Counts.{Counts}
use Rattle.qe_plain.specs.Kept.{tables_of, FitColumns}
use Rattle.qe_plain.specs.declared.tables.PlainTable.{PlainTable}

-- what it is attached to, the tables, and the calls
pub record Plain : Type 0 where
  pub attached : Option Attached
  pub kept : List PlainTable
  pub counts : Counts

-- the tables are those of the attached layout, each value fits its column, and no counter is below 0
pub record AreHeld (attached : Option Attached) (kept : List PlainTable) : Type 0 where
  pub count : IfSome attached (λ opened. length kept ≡ length opened.layout.tables)
  pub fits : IfSome attached (λ opened. FitColumns (shapes_of opened.layout) (tables_of kept))
  pub counters : (table : ℕ) → int_lt ((tables_of kept).last table) (pos 0) ≡ false

-- the tables that it keeps, of which it tells nothing
abbrev pub plain_tables : Plain → Tables
plain_tables connector = tables_of connector.kept

-- It tells neither what it keeps nor what it kept before. Each row fits, and only listed calls fail.
abbrev pub plain_seen : Plain → Connected
plain_seen connector = record {
  keeps = None;
  attached = connector.attached;
  told = None;
  faults = faults_of connector.counts;
  misfits = 0;
  calls = calls_of connector.counts;
}

-- the rows are this page of the attached layout's model in the tables that it keeps
abbrev pub IsPage : Plain → Option Row → Bool → ℕ → ℕ → List Row → Type 0
IsPage connector from backward count table rows =
    OfShapes (plain_seen connector) (λ shapes. rows ≡ page_in shapes from backward count table (plain_tables connector))
