-- What is seen of a connector, and what attaching it does.
use Rattle.std.specs.Prelude.{◌≡◌, ℕ, List, Option, Some, None, option_map, Result, OnOk, OnErr, IfErr, IsErrOf, IfSome, IsSomeAnd, [], true}
use Rattle.qe_base.specs.Causes.{Faults, HasCause}
use Rattle.qe_base.specs.Schemas.{Schema}
use Rattle.qe_base.specs.declared.query.ColumnTest.{ColumnTest}
use Rattle.qe_base.specs.declared.value.Row.{Row}
use Rattle.qe_schema.specs.Fits.{FitsSchema}
use Rattle.qe_schema.specs.Tables.{Tables, no_rows}
use Rattle.qe_view.specs.declared.changes.Change.{Change}
use Rattle.qe_view.specs.declared.changes.AttachFault.{AttachFault}
use Rattle.qe_view.specs.declared.changes.AttachFault.TheVariants as fault
use Rattle.qe_view.specs.Calls.{CallCounts}
use Rattle.qe_view.specs.Right.{has_table, can_load, can_scan, can_page, are_right, ChangesLead}
use Rattle.qe_view.specs.Layouts.{Layout}
use Rattle.qe_view.specs.LayoutText.{layout_text}

-- the text of a layout, and tables
pub record Kept : Type 0 where
  pub layout : List ℕ
  pub tables : Tables

-- the place that was opened, and the layout that its tables have
pub record Attached : Type 0 where
  pub place : List ℕ
  pub layout : Layout

-- All that is seen of a connector: what it keeps before it is attached, what it is attached to, the tables that it
-- keeps from then on, both where it tells; its faults, how often a kept row didn't fit, and the calls made of it.
pub record Connected : Type 0 where
  pub keeps : Option (Option Kept)
  pub attached : Option Attached
  pub told : Option Tables
  pub faults : Faults
  pub misfits : ℕ
  pub calls : CallCounts

-- the schema of a layout's tables and enums, as far as tables fit it
abbrev pub shapes_of : Layout → Schema
shapes_of layout = record { tables = layout.tables; relations = []; links = []; choices = layout.choices }

-- what holds of the shapes of the attached layout
abbrev pub OfShapes : Connected → (Schema → Type 0) → Type 0
OfShapes seen P = IfSome seen.attached (λ attached. P (shapes_of attached.layout))

-- a layout is attached, of whose shapes this holds
abbrev pub HasShapes : Connected → (Schema → Type 0) → Type 0
HasShapes seen P = IsSomeAnd seen.attached (λ attached. P (shapes_of attached.layout))

-- the told tables fit the layout
abbrev pub FitLayout : Connected → Type 0
FitLayout seen = OfShapes seen (λ shapes. IfSome seen.told (FitsSchema shapes))

-- the tables that are kept, none where nothing is
abbrev pub kept_tables : Option Kept → Tables
kept_tables None = no_rows
kept_tables (Some kept) = kept.tables

-- nothing is kept, or a text that is this one
abbrev pub HasText : Option Kept → List ℕ → Type 0
HasText None text = Unit {0}
HasText (Some kept) text = kept.layout ≡ text

-- the text that is kept, where it is told, is this one and not the wanted one
abbrev pub KeepsOther : Option (Option Kept) → List ℕ → List ℕ → Type 0
KeepsOther keeps kept wanted = (kept ≡ wanted → ⊥) × IfSome keeps (λ all. IsSomeAnd all (λ found. found.layout ≡ kept))

-- the layouts that differ are the kept one and the wanted one
abbrev pub Differs : Option (Option Kept) → Layout → AttachFault → Type 0
Differs keeps layout fault.Failed = Unit {0}
Differs keeps layout (fault.Layout kept wanted) = (wanted ≡ layout_text layout) × KeepsOther keeps kept wanted
Differs keeps layout fault.Memory = Unit {0}

-- It is attached at the place with the layout, and tells the tables that were kept where it told them. After a
-- refusal it isn't attached, and keeps what it kept.
pub record Attaches (place : List ℕ) (layout : Layout) (before after : Connected) (result : Result (Unit {0}) AttachFault) : Type 0 where
  pub opened : OnOk result (after.attached ≡ Some (record { place = place; layout = layout }))
  pub tables : OnOk result (after.told ≡ option_map kept_tables before.keeps)
  pub same : OnOk result (IfSome before.keeps (λ kept. HasText kept (layout_text layout)))
  pub fits : FitLayout after
  pub other : IfErr result (Differs before.keeps layout)
  pub refused : OnErr result ((after.attached ≡ None) × (after.keeps ≡ before.keeps))
  pub cause : HasCause before.faults after.faults (IsErrOf result fault.Failed)
  pub misfits : after.misfits ≡ before.misfits
  pub calls : after.calls ≡ before.calls

-- attached with a layout that has this table
abbrev pub HasTable : Connected → ℕ → Type 0
HasTable seen table = HasShapes seen (λ shapes. has_table shapes table ≡ true)

abbrev pub CanLoad : Connected → ℕ → List ℕ → List Row → Type 0
CanLoad seen table columns keys = HasShapes seen (λ shapes. can_load shapes table columns keys ≡ true)

abbrev pub CanScan : Connected → ℕ → List ColumnTest → Type 0
CanScan seen table tests = HasShapes seen (λ shapes. can_scan shapes table tests ≡ true)

abbrev pub CanPage : Connected → ℕ → Option Row → Type 0
CanPage seen table from = HasShapes seen (λ shapes. can_page shapes table from ≡ true)

-- changes of the layout, which lead from the told tables to others that fit it
abbrev pub CanApply : Connected → List Change → Type 0
CanApply seen changes = HasShapes seen (λ shapes. (are_right shapes changes ≡ true) × IfSome seen.told (ChangesLead shapes changes))
