-- What is seen of a connector in memory.
use Rattle.std.specs.Prelude.{ℕ, Bool, List, Option, Some, None, IfSome, Result}
use Rattle.qe_base.specs.declared.value.Row.{Row}
use Rattle.qe_base.specs.declared.value.Rows.{Rows}
use Rattle.qe_schema.specs.Fits.{FitsSchema}
use Rattle.qe_view.specs.After.{page_in}
use Rattle.qe_view.specs.Answers.{GivesRows}
use Rattle.qe_view.specs.Attached.{Attached, Connected, OfShapes, shapes_of}
use Rattle.qe_view.specs.declared.changes.ConnFault.{ConnFault}
use Rattle.qe_mem.specs.Counts.{calls_of, faults_of}
use Rattle.qe_mem.specs.Kept.{tables_of, IsKeptFor, HasOrdersFor, ArePairs, AreExact}
use Rattle.qe_mem.specs.declared.counts.Counts.{Counts}
use Rattle.qe_mem.specs.declared.table.MemTable.{MemTable}

-- what it is attached to, the tables with their orders, and the calls
pub record Mem : Type 0 where
  pub attached : Option Attached
  pub kept : List MemTable
  pub counts : Counts

-- The tables are those of the attached layout, and fit it. Nothing is held but their rows, and these in each order.
pub record AreHeld (attached : Option Attached) (kept : List MemTable) : Type 0 where
  pub columns : IfSome attached (λ opened. IsKeptFor opened.layout.tables kept)
  pub orders : IfSome attached (λ opened. HasOrdersFor opened.layout kept)
  pub fits : IfSome attached (λ opened. FitsSchema (shapes_of opened.layout) (tables_of kept))
  pub pairs : ArePairs kept
  pub exact : AreExact kept

-- all that is held
abbrev pub mem_kept : Mem → List MemTable
mem_kept connector = connector.kept

-- the calls so far, and those that are to fail
abbrev pub mem_counts : Mem → Counts
mem_counts connector = connector.counts

-- It keeps nothing before it is attached. Its tables are always told, each row fits, and only listed calls fail.
abbrev pub mem_seen : Mem → Connected
mem_seen connector = record {
  keeps = Some None;
  attached = connector.attached;
  told = Some (tables_of connector.kept);
  faults = faults_of connector.counts;
  misfits = 0;
  calls = calls_of connector.counts;
}

-- the rows are a page of the told tables
abbrev pub GivesPage : Connected → Option Row → Bool → ℕ → ℕ → Result Rows ConnFault → Type 0
GivesPage seen from backward count table result = OfShapes seen (λ shapes. GivesRows seen.told (page_in shapes from backward count table) result)
