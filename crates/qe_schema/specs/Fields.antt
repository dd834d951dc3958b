-- What columns are filled with, and where fields lead.
use Rattle.std.specs.Prelude.{◌≡◌, ℕ, true, List, slice_get, Some}
use Rattle.qe_base.specs.declared.value.Kind.TheVariants as kind
use Rattle.qe_base.specs.declared.schema.Choice.{Choice}
use Rattle.qe_base.specs.declared.schema.Column.{Column}
use Rattle.qe_base.specs.declared.schema.Field.{Field}
use Rattle.qe_base.specs.declared.schema.Field.TheVariants.{Scalar, Holder, Target, SideA, SideB}
use Rattle.qe_base.specs.declared.schema.Fill.{Fill}
use Rattle.qe_base.specs.declared.schema.Fill.TheVariants.{Absent, Literal, Counter, Now, Uuid}
use Rattle.qe_base.specs.declared.schema.Relation.{Relation}
use Rattle.qe_base.specs.Schemas.{Schema}
use Rattle.qe_schema.specs.Fits.{fits_column}
use Rattle.qe_schema.specs.Tables.{column_at, field_at}

-- ---- columns

-- a default is a value of the column, the moment stands in moments and an identifier in texts
abbrev pub FillSuits : List Choice → Column → Fill → Type 0
FillSuits choices column Absent = Unit {0}
FillSuits choices column (Literal value) = fits_column choices column value ≡ true
FillSuits choices column Counter = Unit {0}
FillSuits choices column Now = column.kind ≡ kind.Moment
FillSuits choices column Uuid = column.kind ≡ kind.Text

pub record ColumnSuits (choices : List Choice) (column : Column) : Type 0 where
  pub fill : FillSuits choices column column.fill
  pub updated : column.updated ≡ true → column.kind ≡ kind.Moment

abbrev pub ColumnsSuit : Schema → Type 0
ColumnsSuit schema = (table number : ℕ) (column : Column) → column_at schema table number ≡ Some column → ColumnSuits schema.choices column

-- ---- fields

-- A field that holds a relation stands in the relation's child, the one on its other side in its parent.
abbrev pub LeadsRightly : Schema → ℕ → Field → Type 0
LeadsRightly schema table (Scalar column) = Unit {0}
LeadsRightly schema table (Holder held) = (relation : Relation) × (slice_get schema.relations held.0 ≡ Some relation) × (relation.child.0 ≡ table)
LeadsRightly schema table (Target held) = (relation : Relation) × (slice_get schema.relations held.0 ≡ Some relation) × (relation.parent.0 ≡ table)
LeadsRightly schema table (SideA link) = Unit {0}
LeadsRightly schema table (SideB link) = Unit {0}

abbrev pub FieldsLeadRightly : Schema → Type 0
FieldsLeadRightly schema = (table number : ℕ) (field : Field) → field_at schema table number ≡ Some field → LeadsRightly schema table field
