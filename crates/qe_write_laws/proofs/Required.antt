-- What relations refer to is required, so a reference that becomes null is referred to by none.
use Rattle.std.proofs.Common.{◌≡◌, ℕ, Bool, true, false, map, Option, Some, unwrap_or, option_map, sym, ap, ◌∙◌, true≢false}
use Rattle.std.specs.Prelude.{◌==◌}
use Rattle.std.specs.List.{list_any}
use Rattle.std.proofs.lemmas.Bool.{and_parts, eqb-true, false_from_ne_true}
use Rattle.qe_text.specs.Lists.{In}
use Rattle.qe_base.specs.declared.schema.Action.TheVariants.{SetNull}
use Rattle.qe_base.specs.declared.schema.Column.{Column}
use Rattle.qe_base.specs.declared.schema.Relation.{Relation}
use Rattle.qe_base.specs.Schemas.{Schema}
use Rattle.qe_schema.specs.Sound.{IsSound}
use Rattle.qe_schema.specs.Cycles.{meet, goes_on_by}
use Rattle.qe_schema.specs.References.{optional_at}
use Rattle.qe_schema.specs.Tables.{column_at}
use Rattle.qe_row_laws.proofs.Filters.{Passing, any_in, agree_at}

pub nulls_end : (schema : Schema) → IsSound schema → (relation : Relation) → In relation schema.relations → relation.on_update ≡ SetNull → list_any (goes_on_by relation) schema.relations ≡ false
nulls_end schema is relation is_in null = false_from_ne_true (list_any (goes_on_by relation) schema.relations) (λ some. clash (any_in (goes_on_by relation) schema.relations some))
  where
    agrees : optional_at schema relation.child.0 relation.child_columns ≡ map (λ column. Some relation.optional) relation.child_columns
    agrees = (is.agree relation is_in).optional

    optional : relation.optional ≡ true
    optional = (is.refer relation is_in).on_update null

    at : (table column : ℕ) → Option Bool
    at table column = option_map (λ (found : Column). found.optional) (column_at schema table column)

    clash : Passing (goes_on_by relation) schema.relations → ⊥
    clash next =
        let parts = and_parts (next.item.parent.0 == relation.child.0) (meet relation.child_columns next.item.parent_columns) next.passes in
        let table : next.item.parent.0 ≡ relation.child.0 = eqb-true next.item.parent.0 relation.child.0 parts.0 in
        let column = any_in (λ column. list_any (λ other. column == other) next.item.parent_columns) relation.child_columns parts.1 in
        let other = any_in (λ other. column.item == other) next.item.parent_columns column.passes in
        let same : column.item ≡ other.item = eqb-true column.item other.item other.passes in
        let own : at relation.child.0 column.item ≡ Some relation.optional = agree_at (at relation.child.0) (λ column. Some relation.optional) relation.child_columns agrees column.item column.member in
        let their : at next.item.parent.0 other.item ≡ Some false = agree_at (at next.item.parent.0) (λ column. Some false) next.item.parent_columns (is.required next.item next.member) other.item other.member in
        let whole : Some true ≡ Some false = sym (own ∙ ap Some optional) ∙ ap (at relation.child.0) same ∙ ap (λ t. at t other.item) (sym table) ∙ their in
        true≢false (ap (λ o. unwrap_or o true) whole)
