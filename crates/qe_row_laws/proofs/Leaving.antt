-- A delete leaves what isn't doomed.
use Rattle.std.proofs.Common.{◌≡◌, ◌⊎◌, inl, inr, ◌↔◌, ℕ, Bool, true, not, ◌&&◌, ◌==◌, filter, List, [], ◌∷◌, Option, Some, None, unwrap_or, refl, sym, ap, subst, ◌∙◌}
use Rattle.std.proofs.lemmas.Bool.{true≢false, and_parts, and_from, eqb-true, eq-eqb, not_from_false, false_from_ne_true}
use Rattle.qe_text.specs.Lists.{In}
use Rattle.qe_base.specs.declared.value.Row.{Row}
use Rattle.qe_base.specs.declared.value.Value.{Value}
use Rattle.qe_base.specs.declared.schema.Link.{Link}
use Rattle.qe_base.specs.declared.schema.Relation.{Relation}
use Rattle.qe_base.specs.Schemas.{Schema, link_of}
use Rattle.qe_schema.specs.Sound.{IsSound}
use Rattle.qe_schema.proofs.Members.{from_map, from_filter, in_filter, any_of, in_map}
use Rattle.qe_schema.specs.Columns.{Values, are_same}
use Rattle.qe_schema.specs.Tables.{Tables, table_at, id_of}
use Rattle.qe_writing.specs.Doomed.{Place, place_of, refers, Doomed, AreDoomed, doomed_by}
use Rattle.qe_writing.specs.Delete.{is_set_null, is_among, refers_to_one, released, is_doomed_id, kept_pairs, without}
use Rattle.qe_row_laws.specs.Left.{BecomesNull, IsLeft, HasId, LinksOneThatGoes, IsTheRest, LeavesTheRest}
use Rattle.qe_row_laws.proofs.Doomed.{computes_doomed}
use Rattle.qe_schema.proofs.Equal.{same_values, values_same}
use Rattle.qe_row_laws.proofs.Fitting.{accepted, null_is}
use Rattle.qe_row_laws.proofs.Filters.{any_in}
use Rattle.qe_row_laws.proofs.Nulls.{lets_go, released_there, released_other, released_width}
use Rattle.qe_row_laws.proofs.Refusals.{in_among, not_among}

module _ (schema : Schema) (tables : Tables) (given doomed : List Place) (are : AreDoomed schema tables given doomed) where
  abbrev stays : ℕ → Row → Bool
  stays table row = not (is_among doomed (place_of table row))

  -- ---- rows

  is_left : (place : Place) → IsLeft schema tables given place (released schema.relations doomed place.table place.row)
  is_left place = record {
    width = released_width schema.relations doomed place.table place.row;
    nulls = λ column becomes. released_there schema.relations doomed place.table place.row becomes.relation becomes.is_one (lets becomes) column becomes.among;
    others = λ column other. released_other schema.relations doomed place.table place.row column (λ relation is_in goes among. other (becomes column relation is_in goes among));
  }
    where
      lets : {column : ℕ} (becomes : BecomesNull schema tables given place column) → lets_go doomed place.table place.row becomes.relation ≡ true
      lets becomes =
          and_from (is_set_null becomes.relation.on_delete) (refers_to_one doomed place becomes.relation) (ap is_set_null becomes.sets_null) (any_of (refers becomes.relation place) doomed becomes.parent (are.all becomes.parent becomes.goes) becomes.refers_to)

      becomes : (column : ℕ) (relation : Relation) → In relation schema.relations → lets_go doomed place.table place.row relation ≡ true → In column relation.child_columns → BecomesNull schema tables given place column
      becomes column relation is_in goes among =
          let parts = and_parts (is_set_null relation.on_delete) (refers_to_one doomed place relation) goes in
          let parent = any_in (refers relation place) doomed parts.1 in
          record { relation = relation; is_one = is_in; sets_null = null_is relation.on_delete parts.0; among = among; parent = parent.item; refers_to = parent.passes; goes = are.only parent.item parent.member }

  row_stays : (place : Place) → In place.row (tables.rows place.table) → (Doomed schema tables given place → ⊥) → (row : Row) × In row ((without schema doomed tables).rows place.table) × IsLeft schema tables given place row
  row_stays place is_in kept = (
    released schema.relations doomed place.table place.row,
    in_map (released schema.relations doomed place.table) (filter (stays place.table) (tables.rows place.table)) place.row
        (in_filter (stays place.table) (tables.rows place.table) place.row is_in (ap not (not_among schema tables given doomed are place kept))),
    is_left place,
  )

  row_was : (table : ℕ) (row : Row) → In row ((without schema doomed tables).rows table) → (old : Row) × In old (tables.rows table) × (Doomed schema tables given (place_of table old) → ⊥) × IsLeft schema tables given (place_of table old) row
  row_was table row is_in =
      let old = from_map (released schema.relations doomed table) (filter (stays table) (tables.rows table)) row is_in in
      let both = from_filter (stays table) (tables.rows table) old.item old.member in
      (old.item, both.0, (λ goes. true≢false (sym both.1 ∙ ap not (in_among doomed (place_of table old.item) (are.all (place_of table old.item) goes)))), subst (IsLeft schema tables given (place_of table old.item)) (sym old.gives) (is_left (place_of table old.item)))

  -- ---- pairs

  -- one of the doomed has the id
  abbrev with_id : ℕ → Values → Place → Bool
  with_id table id place = place.table == table && are_same (id_of (table_at schema table) place.row) id

  doomed_id : (table : ℕ) (id : Value) → is_doomed_id schema doomed table (id ∷ []) ≡ true → (place : Place) × Doomed schema tables given place × HasId schema place table id
  doomed_id table id is =
      let found = any_in (with_id table (id ∷ [])) doomed is in
      let parts = and_parts (found.item.table == table) (are_same (id_of (table_at schema table) found.item.row) (id ∷ [])) found.passes in
      (found.item, are.only found.item found.member, (eqb-true found.item.table table parts.0, same_values (id_of (table_at schema table) found.item.row) (id ∷ []) parts.1))

  id_doomed : (table : ℕ) (id : Value) (place : Place) → Doomed schema tables given place → HasId schema place table id → is_doomed_id schema doomed table (id ∷ []) ≡ true
  id_doomed table id place goes has =
      any_of (with_id table (id ∷ [])) doomed place (are.all place goes)
      (and_from (place.table == table) (are_same (id_of (table_at schema table) place.row) (id ∷ [])) (eq-eqb place.table table has.0) (values_same (id_of (table_at schema table) place.row) (id ∷ []) has.1))

  abbrev both_stay : Link → Value × Value → Bool
  both_stay link pair = not (is_doomed_id schema doomed link.a.0 (pair.0 ∷ [])) && not (is_doomed_id schema doomed link.b.0 (pair.1 ∷ []))

  none_goes : (link : Link) (pair : Value × Value) → both_stay link pair ≡ true → LinksOneThatGoes schema tables given link pair → ⊥
  none_goes link pair stay (place, goes, side) = by (and_parts (not (is_doomed_id schema doomed link.a.0 (pair.0 ∷ []))) (not (is_doomed_id schema doomed link.b.0 (pair.1 ∷ []))) stay) side
    where
      by : (not (is_doomed_id schema doomed link.a.0 (pair.0 ∷ [])) ≡ true) × (not (is_doomed_id schema doomed link.b.0 (pair.1 ∷ [])) ≡ true) → HasId schema place link.a.0 pair.0 ⊎ HasId schema place link.b.0 pair.1 → ⊥
      by parts (inl has) = true≢false (sym parts.0 ∙ ap not (id_doomed link.a.0 pair.0 place goes has))
      by parts (inr has) = true≢false (sym parts.1 ∙ ap not (id_doomed link.b.0 pair.1 place goes has))

  neither_goes : (link : Link) (pair : Value × Value) → (LinksOneThatGoes schema tables given link pair → ⊥) → both_stay link pair ≡ true
  neither_goes link pair none =
      and_from (not (is_doomed_id schema doomed link.a.0 (pair.0 ∷ []))) (not (is_doomed_id schema doomed link.b.0 (pair.1 ∷ [])))
      (not_from_false (is_doomed_id schema doomed link.a.0 (pair.0 ∷ [])) (false_from_ne_true (is_doomed_id schema doomed link.a.0 (pair.0 ∷ [])) (λ is. let (place, goes, has) = doomed_id link.a.0 pair.0 is in none (place, goes, inl has))))
      (not_from_false (is_doomed_id schema doomed link.b.0 (pair.1 ∷ [])) (false_from_ne_true (is_doomed_id schema doomed link.b.0 (pair.1 ∷ [])) (λ is. let (place, goes, has) = doomed_id link.b.0 pair.1 is in none (place, goes, inr has))))

  pairs_by : (link : Option Link) (pair : Value × Value) (pairs : List (Value × Value)) → In pair (kept_pairs schema doomed link pairs) ↔ (In pair pairs × ((one : Link) → link ≡ Some one → LinksOneThatGoes schema tables given one pair → ⊥))
  pairs_by None pair pairs = (λ is_in. (is_in, λ one none. absurd cc), λ both. both.0)
  pairs_by (Some link) pair pairs = (
    λ is_in. let both = from_filter (both_stay link) pairs pair is_in in (both.0, λ one is. none_goes one pair (subst (λ l. both_stay l pair ≡ true) (ap (λ o. unwrap_or o link) is) both.1)),
    λ both. in_filter (both_stay link) pairs pair both.0 (neither_goes link pair (both.1 link refl)),
  )

  pub the_rest : IsTheRest schema given tables (without schema doomed tables)
  the_rest = record { stay = row_stays; only = row_was; counters = λ table. refl; pairs = λ table pair. pairs_by (link_of table schema.links) pair (tables.pairs table) }

pub leaves_the_rest : (schema : Schema) → IsSound schema → LeavesTheRest schema
leaves_the_rest schema is given state after there ok =
    subst (IsTheRest schema given state.tables) (sym (accepted schema given state after ok).1) (the_rest schema state.tables given (doomed_by schema state.tables given) (computes_doomed schema is state.tables given there))
