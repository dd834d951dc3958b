-- Names that differ.
use Rattle.std.specs.Prelude.{◌≡◌, ℕ, false, [], map, slice_get, Some, bytes_eq}
use Rattle.std.specs.Str.{str_to_ascii_lowercase}
use Rattle.qe_text.specs.Lists.{repeats, In}
use Rattle.qe_base.specs.declared.schema.Column.{Column}
use Rattle.qe_base.specs.declared.schema.Table.{Table}
use Rattle.qe_base.specs.Schemas.{Schema}

-- no stored name of a table repeats an earlier one, without regard to case
abbrev pub NamesDiffer : Schema → Type 0
NamesDiffer schema = repeats bytes_eq (map (λ (table : Table). str_to_ascii_lowercase table.stored) schema.tables) ≡ []

-- a model of the schema, at its number
abbrev pub IsModelAt : Schema → ℕ → Table → Type 0
IsModelAt schema number table = (slice_get schema.tables number ≡ Some table) × (table.link ≡ false)

-- a model's name is that of no other model
abbrev pub ModelNamesDiffer : Schema → Type 0
ModelNamesDiffer schema = (one other : ℕ) (first second : Table) → IsModelAt schema one first → IsModelAt schema other second → first.name ≡ second.name → one ≡ other

-- No field's name repeats an earlier one, nor does the stored name of a column, without regard to case.
pub record HasDistinctNames (table : Table) : Type 0 where
  pub fields : repeats bytes_eq (map (λ field. field.0) table.fields) ≡ []
  pub stored : repeats bytes_eq (map (λ (column : Column). str_to_ascii_lowercase column.stored) table.columns) ≡ []

abbrev pub HaveDistinctNames : Schema → Type 0
HaveDistinctNames schema = (table : Table) → In table schema.tables → HasDistinctNames table
