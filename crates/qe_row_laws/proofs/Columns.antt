-- The columns of references and of ids, in sound schemas.
use Rattle.std.proofs.Common.{◌≡◌, ◌⊎◌, inl, inr, ℕ, zero, suc, ◌<◌, false, List, [], ◌∷◌, length, Some, option_map, unwrap_or, refl, ap, subst, ◌∙◌, arith}
use Rattle.std.specs.Prelude.{slice_get, IfSome}
use Rattle.qe_text.specs.Lists.{In}
use Rattle.qe_base.specs.declared.schema.Action.TheVariants.{SetNull}
use Rattle.qe_base.specs.declared.schema.Column.{Column}
use Rattle.qe_base.specs.declared.schema.Key.{Key}
use Rattle.qe_base.specs.declared.schema.Relation.{Relation}
use Rattle.qe_base.specs.declared.schema.Table.{Table}
use Rattle.qe_base.specs.Schemas.{Schema}
use Rattle.qe_schema.specs.Sound.{IsSound}
use Rattle.qe_schema.specs.Tables.{column_at, no_table, table_at, first_columns, id_columns}
use Rattle.qe_row_laws.proofs.Filters.{agree_at}
use Rattle.qe_row_laws.proofs.Nulls.{OptionalAt, RequiredAt}

-- ---- columns that refer

-- what becomes null is optional
pub nulls_are_optional : (schema : Schema) → IsSound schema → (relation : Relation) → In relation schema.relations → relation.on_delete ≡ SetNull → (column : ℕ) → In column relation.child_columns → OptionalAt (table_at schema relation.child.0).columns column
nulls_are_optional schema is relation is_in null column among =
    agree_at (λ c. option_map (λ (found : Column). found.optional) (column_at schema relation.child.0 c)) (λ c. Some relation.optional) relation.child_columns (is.agree relation is_in).optional column among
    ∙ ap Some ((is.refer relation is_in).on_delete null)

-- ---- columns that are referred to

-- they are required
pub parents_are_required : (schema : Schema) → IsSound schema → (relation : Relation) → In relation schema.relations → (column : ℕ) → In column relation.parent_columns → RequiredAt (table_at schema relation.parent.0).columns column
parents_are_required schema is relation is_in column among =
    agree_at (λ c. option_map (λ (found : Column). found.optional) (column_at schema relation.parent.0 c)) (λ c. Some false) relation.parent_columns (is.required relation is_in) column among

-- ---- ids

table_known : (tables : List Table) (number : ℕ) → In (unwrap_or (slice_get tables number) no_table) tables ⊎ (unwrap_or (slice_get tables number) no_table ≡ no_table)
unfolding In
table_known [] number = inr refl
table_known (table ∷ tables) zero = inl (inl refl)
table_known (table ∷ tables) (suc number) = by (table_known tables number)
  where
    by : In (unwrap_or (slice_get tables number) no_table) tables ⊎ (unwrap_or (slice_get tables number) no_table ≡ no_table) → In (unwrap_or (slice_get tables number) no_table) (table ∷ tables) ⊎ (unwrap_or (slice_get tables number) no_table ≡ no_table)
    by (inl is_in) = inl (inr is_in)
    by (inr none) = inr none

pub record OfFirst (keys : List Key) (column : ℕ) : Type 0 where
  pub key : Key
  pub member : In key keys
  pub has : In column key.columns

of_first : (keys : List Key) (column : ℕ) → In column (first_columns keys) → OfFirst keys column
unfolding In
of_first [] column is_in = absurd is_in
of_first (key ∷ keys) column is_in = record { key = key; member = inl refl; has = is_in }

required_at : (columns : List Column) (column : ℕ) → column < length columns → IfSome (slice_get columns column) (λ (found : Column). found.optional ≡ false) → RequiredAt columns column
required_at [] column within required = absurd (omega arith)
required_at (one ∷ columns) zero within required = ap Some required
required_at (one ∷ columns) (suc column) within required = required_at columns column (omega arith) required

pub ids_are_required_at : (schema : Schema) → IsSound schema → (table column : ℕ) → In column (id_columns (table_at schema table)) → RequiredAt (table_at schema table).columns column
unfolding In
ids_are_required_at schema is table column is_in = by (table_known schema.tables table)
  where
    by : In (table_at schema table) schema.tables ⊎ (table_at schema table ≡ no_table) → RequiredAt (table_at schema table).columns column
    by (inl known) =
        let first = of_first (table_at schema table).keys column is_in in
        required_at (table_at schema table).columns column (((is.keys (table_at schema table) known).stand first.key first.member).there column first.has) (is.ids (table_at schema table) known column is_in)
    by (inr none) = absurd (subst (λ (t : Table). In column (id_columns t)) none is_in)
