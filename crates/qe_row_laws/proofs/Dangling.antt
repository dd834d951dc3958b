-- No reference dangles by a delete.
use Rattle.std.proofs.Common.{◌≡◌, ℕ, Bool, true, false, not, ◌&&◌, ◌==◌, filter, List, map, Ok, refl, sym, ap, subst, ◌∙◌}
use Rattle.std.proofs.lemmas.Bool.{not-true, false_from_ne_true, true≢false, and_parts, and_from, eq-eqb}
use Rattle.qe_text.specs.Lists.{In}
use Rattle.qe_base.specs.declared.value.Row.{Row}
use Rattle.qe_base.specs.declared.schema.Action.{Action}
use Rattle.qe_base.specs.declared.schema.Action.TheVariants.{Cascade, Restrict, SetNull}
use Rattle.qe_base.specs.declared.schema.Relation.{Relation}
use Rattle.qe_base.specs.Schemas.{Schema}
use Rattle.qe_schema.specs.Sound.{IsSound}
use Rattle.qe_schema.proofs.Members.{From, from_map, from_filter, passes, in_filter, any_of, in_map}
use Rattle.qe_schema.specs.Columns.{Values, has_null, at_columns, are_same, holds}
use Rattle.qe_schema.specs.Fits.{FitsSchema, fit_columns}
use Rattle.qe_schema.specs.Tables.{Tables, table_at}
use Rattle.qe_writing.specs.WriteState.{WriteState}
use Rattle.qe_writing.specs.Doomed.{Place, place_of, refers, AreDoomed, doomed_by}
use Rattle.qe_writing.specs.Delete.{is_set_null, is_among, refers_to_one, released, delete_of}
use Rattle.qe_row_laws.specs.Deletes.{AreThere, NoneDangles, DeletesLeaveNoneDangling}
use Rattle.qe_row_laws.proofs.Columns.{parents_are_required}
use Rattle.qe_row_laws.proofs.Doomed.{refers_between, computes_doomed}
use Rattle.qe_schema.proofs.Equal.{same_values, values_same}
use Rattle.qe_row_laws.proofs.Fitting.{accepted, released_fit}
use Rattle.qe_row_laws.proofs.Filters.{first_in}
use Rattle.qe_row_laws.proofs.Nulls.{Nulled, released_nulled, released_there, all_stay, held_values, not_null}
use Rattle.qe_row_laws.proofs.Refusals.{among_in, in_among, parents_stay}

refers_from : (relation : Relation) (child parent : Place) → child.table ≡ relation.child.0 → parent.table ≡ relation.parent.0 → holds relation.child_columns (at_columns relation.parent_columns parent.row) child.row ≡ true → refers relation child parent ≡ true
refers_from relation child parent own other held =
    and_from (child.table == relation.child.0 && parent.table == relation.parent.0) (holds relation.child_columns (at_columns relation.parent_columns parent.row) child.row)
    (and_from (child.table == relation.child.0) (parent.table == relation.parent.0) (eq-eqb child.table relation.child.0 own) (eq-eqb parent.table relation.parent.0 other)) held

-- a row that holds values has no null in the columns
held_parts : (columns : List ℕ) (values : Values) (row : Row) → holds columns values row ≡ true → (has_null values ≡ false) × (at_columns columns row ≡ values) × (has_null (at_columns columns row) ≡ false)
held_parts columns values row is =
    let parts = and_parts (not (has_null values)) (are_same (at_columns columns row) values) is in
    let some = not-true (has_null values) parts.0 in
    let same = same_values (at_columns columns row) values parts.1 in
    (some, same, ap has_null same ∙ some)

-- a row that holds values after some became null held them before
held_before : (columns : List ℕ) (values : Values) (old new : Row) → Nulled old.values new.values → holds columns values new ≡ true → holds columns values old ≡ true
held_before columns values old new nulled is =
    let (some, same, own) = held_parts columns values new is in
    and_from (not (has_null values)) (are_same (at_columns columns old) values) (ap not some) (values_same (at_columns columns old) values (sym (held_values old new nulled columns own) ∙ same))

module _ (schema : Schema) (is : IsSound schema) (given : List Place) (state after : WriteState) (fits : FitsSchema schema state.tables) (there : AreThere schema state.tables given) (ok : delete_of schema given state ≡ Ok after) where
  abbrev doomed : List Place
  doomed = doomed_by schema state.tables given

  abbrev change : ℕ → Row → Row
  change = released schema.relations doomed

  abbrev stays : ℕ → Row → Bool
  stays table row = not (is_among doomed (place_of table row))

  are : AreDoomed schema state.tables given doomed
  are = computes_doomed schema is state.tables given there

  left : (table : ℕ) → after.tables.rows table ≡ map (change table) (filter (stays table) (state.tables.rows table))
  left table = ap (λ (tables : Tables). tables.rows table) (accepted schema given state after ok).1

  -- a parent of a row that stays isn't doomed, unless the reference has become null
  parent_stays : (relation : Relation) → In relation schema.relations → (table : ℕ) (row : Row) (parent : Place) → In row (state.tables.rows table) → is_among doomed (place_of table row) ≡ false → refers relation (place_of table row) parent ≡ true
      → has_null (at_columns relation.child_columns (change table row)) ≡ false → is_among doomed parent ≡ true → ⊥
  parent_stays relation is_in table row parent among kept refers_to some goes = by relation.on_delete refl
    where
      both_stay : (relation.on_delete ≡ SetNull → ⊥) → ⊥
      both_stay other =
          let also = parents_stay schema is given state after there ok relation is_in other (place_of table row) parent among refers_to (are.only parent (among_in doomed parent goes)) in
          true≢false (sym (in_among doomed (place_of table row) (are.all (place_of table row) also)) ∙ kept)

      nulled : relation.on_delete ≡ SetNull → ⊥
      nulled null =
          let (column, has) = first_in relation.child_columns (is.refer relation is_in).some in
          let lets = and_from (is_set_null relation.on_delete) (refers_to_one doomed (place_of table row) relation) (ap is_set_null null) (any_of (refers relation (place_of table row)) doomed parent (among_in doomed parent goes) refers_to) in
          not_null relation.child_columns (change table row) column has some (released_there schema.relations doomed table row relation is_in lets column has)

      by : (action : Action) → relation.on_delete ≡ action → ⊥
      by Cascade action = both_stay (λ null. absurd (true≢false (sym (ap is_set_null null) ∙ ap is_set_null action)))
      by Restrict action = both_stay (λ null. absurd (true≢false (sym (ap is_set_null null) ∙ ap is_set_null action)))
      by SetNull action = nulled action

  -- the parent's values that are referred to are as before
  parent_same : (relation : Relation) → In relation schema.relations → (row : Row) → In row (state.tables.rows relation.parent.0) → at_columns relation.parent_columns (change relation.parent.0 row) ≡ at_columns relation.parent_columns row
  parent_same relation is_in row among =
      all_stay schema.choices (table_at schema relation.parent.0).columns row (change relation.parent.0 row) relation.parent_columns (parents_are_required schema is relation is_in)
      (released_fit schema is doomed relation.parent.0 row (passes (λ (r : Row). fit_columns schema.choices (table_at schema relation.parent.0).columns r.values) (state.tables.rows relation.parent.0) row (fits.kinds relation.parent.0) among))
      (released_nulled schema.relations doomed relation.parent.0 row)

  pub finds : NoneDangles schema state.tables after.tables
  finds relation is_in child child_left (row, among, refers_to) =
      let of_child : From (change child.table) (filter (stays child.table) (state.tables.rows child.table)) child.row =
      from_map (change child.table) (filter (stays child.table) (state.tables.rows child.table)) child.row (subst (In child.row) (left child.table) child_left) in
      let before = from_filter (stays child.table) (state.tables.rows child.table) of_child.item of_child.member in
      let (own, other, held) = refers_between relation child (place_of relation.parent.0 row) refers_to in
      let parts = held_parts relation.child_columns (at_columns relation.parent_columns row) child.row held in
      let some = sym (ap (λ r. has_null (at_columns relation.child_columns r)) of_child.gives) ∙ parts.2 in
      let held_old = held_before relation.child_columns (at_columns relation.parent_columns row) of_child.item (change child.table of_child.item) (released_nulled schema.relations doomed child.table of_child.item)
      (subst (λ r. holds relation.child_columns (at_columns relation.parent_columns row) r ≡ true) of_child.gives held) in
      let referred = refers_from relation (place_of child.table of_child.item) (place_of relation.parent.0 row) own refl held_old in
      let kept = not-true (is_among doomed (place_of child.table of_child.item)) before.1 in
      let stays_there : is_among doomed (place_of relation.parent.0 row) ≡ false = false_from_ne_true (is_among doomed (place_of relation.parent.0 row)) (parent_stays relation is_in child.table of_child.item (place_of relation.parent.0 row) before.0 kept referred some) in
      let parent_left = subst (In (change relation.parent.0 row)) (sym (left relation.parent.0))
      (in_map (change relation.parent.0) (filter (stays relation.parent.0) (state.tables.rows relation.parent.0)) row (in_filter (stays relation.parent.0) (state.tables.rows relation.parent.0) row among (ap not stays_there))) in
      (change relation.parent.0 row, parent_left, refers_from relation child (place_of relation.parent.0 (change relation.parent.0 row)) own refl (ap (λ values. holds relation.child_columns values child.row) (parent_same relation is_in row among) ∙ held))

pub leave_none_dangling : (schema : Schema) → IsSound schema → DeletesLeaveNoneDangling schema
leave_none_dangling schema is given state after fits there ok = finds schema is given state after fits there ok
