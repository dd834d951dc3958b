-- What each replacement of a row keeps, a whole change keeps.
use Rattle.std.proofs.Common.{◌≡◌, inl, inr, ℕ, zero, suc, ◌+◌, Bool, true, false, not, List, [], ◌∷◌, zip, length, Option, Some, None, Result, Ok, refl, sym, subst}
use Rattle.std.specs.Prelude.{◌==◌, slice_get, option_and_then}
use Rattle.std.specs.List.{list_all}
use Rattle.std.proofs.lemmas.Bool.{and_parts, eqb-true}
use Rattle.qe_text.specs.Lists.{In}
use Rattle.qe_base.specs.declared.answer.Rule.{Rule}
use Rattle.qe_base.specs.declared.schema.Action.{Action}
use Rattle.qe_base.specs.declared.schema.Action.TheVariants.{Cascade, Restrict, SetNull}
use Rattle.qe_base.specs.declared.schema.Relation.{Relation}
use Rattle.qe_base.specs.declared.value.Row.{Row}
use Rattle.qe_base.specs.Schemas.{Schema}
use Rattle.qe_schema.specs.Sound.{IsSound}
use Rattle.qe_schema.proofs.Members.{passes, found_in}
use Rattle.qe_schema.specs.Columns.{Values, are_same, at_columns}
use Rattle.qe_schema.specs.Fits.{fit_columns, FitsSchema}
use Rattle.qe_schema.specs.Tables.{Tables, table_at, id_of}
use Rattle.qe_row_laws.specs.Puts.{FitsTable}
use Rattle.qe_writing.specs.Change.{Changer, replace, give_row, give_from, give_all, treat, children, at_turn, is_touched, turns, change_row, change_within, change_of}
use Rattle.qe_writing.specs.Delete.{nulls}
use Rattle.qe_writing.specs.Given.{with_columns}
use Rattle.qe_writing.specs.WriteFits.{value_fits}
use Rattle.qe_writing.specs.WriteState.{WriteState, Followed, ◌>>=◌, row_with_id, row_of, row_followed, follow_all, unfollow}
use Rattle.qe_write_laws.specs.Keeps.{StillHolds}
use Rattle.qe_write_laws.proofs.Results.{bind_ok}
use Rattle.qe_write_laws.proofs.Columns.{with_columns_fit, handed, nulls_fit}

-- a fact of tables that fit, which a replacement of a row by one that fits keeps
module _ (schema : Schema) (is : IsSound schema) (Fact : Tables → Type 0) (fits : (tables : Tables) → Fact tables → FitsSchema schema tables) where
  abbrev pub Holds : WriteState → Type 0
  Holds state = Fact state.tables

  abbrev pub ChangerKeeps : Changer → Type 0
  ChangerKeeps change = (table : ℕ) (id : Values) (new : Row) (state : WriteState) → Holds state → FitsTable schema table new → StillHolds Fact (change table id new state)

  -- of a row that is there
  abbrev pub ReplaceKeeps : Type 0
  ReplaceKeeps = (table : ℕ) (id : Values) (new old : Row) (state : WriteState) → row_with_id schema table id state ≡ Some old → Holds state → FitsTable schema table new → StillHolds Fact (replace schema table id new state)

  then_keeps : (r : Result WriteState Rule) (f : WriteState → Result WriteState Rule) → StillHolds Fact r → ((state : WriteState) → Holds state → StillHolds Fact (f state)) → StillHolds Fact (r >>= f)
  then_keeps r f = bind_ok r f Holds Holds

  -- a row that is found fits its table
  found_fits : (table : ℕ) (id : Values) (row : Row) (state : WriteState) → Holds state → row_with_id schema table id state ≡ Some row → FitsTable schema table row
  found_fits table id row state holds found =
      passes (λ (one : Row). fit_columns schema.choices (table_at schema table).columns one.values) (state.tables.rows table) row ((fits state.tables holds).kinds table)
      (found_in (λ one. are_same (id_of (table_at schema table) one) id) (state.tables.rows table) row found)

  module _ (change : Changer) (keeps : ChangerKeeps change) where
    module _ (relation : Relation) (values : Values) (right : list_all (value_fits schema relation.child.0) (zip relation.child_columns values) ≡ true) where
      give_row_keeps : (place : ℕ) (state : WriteState) → Holds state → StillHolds Fact (give_row schema change relation values (row_followed schema relation.child.0 place state) state)
      give_row_keeps place state holds = by_place (slice_get state.followed place)
        where
          by_row : (id : Values) (o : Option Row) → row_with_id schema relation.child.0 id state ≡ o → StillHolds Fact (give_row schema change relation values o state)
          by_row id None found = holds
          by_row id (Some row) found = keeps relation.child.0 (id_of (table_at schema relation.child.0) row) (with_columns relation.child_columns values row) state holds
              (with_columns_fit schema relation.child.0 relation.child_columns values row (found_fits relation.child.0 id row state holds found) right)

          by_id : (o : Option Values) → StillHolds Fact (give_row schema change relation values (option_and_then (λ id. row_with_id schema relation.child.0 id state) o) state)
          by_id None = holds
          by_id (Some id) = by_row id (row_with_id schema relation.child.0 id state) refl

          by_place : (o : Option Followed) → StillHolds Fact (give_row schema change relation values (row_of schema relation.child.0 state o) state)
          by_place None = holds
          by_place (Some one) = by_id one.id

      give_from_keeps : (rows : List Row) (place : ℕ) (state : WriteState) → Holds state → StillHolds Fact (give_from schema change relation values rows place state)
      give_from_keeps [] place state holds = holds
      give_from_keeps (row ∷ rows) place state holds = then_keeps (give_row schema change relation values (row_followed schema relation.child.0 place state) state) (give_from schema change relation values rows (place + 1)) (give_row_keeps place state holds) (give_from_keeps rows (place + 1))

      give_all_keeps : (rows : List Row) (state : WriteState) → Holds state → StillHolds Fact (give_all schema change relation values rows state)
      give_all_keeps rows state holds =
          then_keeps (give_from schema change relation values rows (length state.followed) (follow_all schema relation.child.0 rows state)) (λ after. Ok (unfollow (length state.followed) after)) (give_from_keeps rows (length state.followed) (follow_all schema relation.child.0 rows state) holds) (λ after kept. kept)

    -- what a relation gives its child rows fits them
    treat_keeps : (relation : Relation) → In relation schema.relations → (new : Row) → FitsTable schema relation.parent.0 new → (action : Action) → relation.on_update ≡ action → (number : ℕ) (rows : List Row) (state : WriteState) → Holds state
        → StillHolds Fact (treat schema change action relation number (at_columns relation.parent_columns new) rows state)
    treat_keeps relation is_in new right Cascade same number rows state holds =
        let agrees = is.agree relation is_in in
        give_all_keeps relation (at_columns relation.parent_columns new)
        (handed schema relation.child.0 relation.parent.0 relation.child_columns relation.parent_columns new right agrees.kinds (is.required relation is_in)) rows state holds
    treat_keeps relation is_in new right SetNull same number rows state holds =
        let optional = (is.agree relation is_in).optional in
        let null : relation.optional ≡ true = (is.refer relation is_in).on_update same in
        give_all_keeps relation (nulls relation.child_columns) (nulls_fit schema relation.child.0 relation.child_columns relation.optional null optional) rows state holds
    treat_keeps relation is_in new right Restrict same number [] state holds = holds
    treat_keeps relation is_in new right Restrict same number (row ∷ rows) state holds = tt

    at_turn_keeps : (relation : Relation) → In relation schema.relations → (table : ℕ) (old new : Row) → FitsTable schema table new → (number : ℕ) (b : Bool) → is_touched relation table old new ≡ b → (state : WriteState) → Holds state
        → StillHolds Fact (at_turn schema change relation number (at_columns relation.parent_columns old) (at_columns relation.parent_columns new) b state)
    at_turn_keeps relation is_in table old new right number false touched state holds = holds
    at_turn_keeps relation is_in table old new right number true touched state holds =
        let parent : relation.parent.0 ≡ table = eqb-true relation.parent.0 table (and_parts (relation.parent.0 == table) (not (are_same (at_columns relation.parent_columns old) (at_columns relation.parent_columns new))) touched).0 in
        treat_keeps relation is_in new (subst (λ t. FitsTable schema t new) (sym parent) right) relation.on_update refl number (children relation (at_columns relation.parent_columns old) state) state holds

    turns_keeps : (table : ℕ) (old new : Row) → FitsTable schema table new → (relations : List Relation) → ((relation : Relation) → In relation relations → In relation schema.relations) → (number : ℕ) (state : WriteState) → Holds state
        → StillHolds Fact (turns schema change table old new relations number state)
    unfolding In
    turns_keeps table old new right [] within number state holds = holds
    turns_keeps table old new right (relation ∷ relations) within number state holds =
        then_keeps (at_turn schema change relation number (at_columns relation.parent_columns old) (at_columns relation.parent_columns new) (is_touched relation table old new) state) (turns schema change table old new relations (number + 1))
        (at_turn_keeps relation (within relation (inl refl)) table old new right number (is_touched relation table old new) refl state holds) (turns_keeps table old new right relations (λ one is_in. within one (inr is_in)) (number + 1))

  module _ (replaces : ReplaceKeeps) where
    change_row_keeps : (change : Changer) → ChangerKeeps change → (table : ℕ) (id : Values) (new : Row) → FitsTable schema table new → (o : Option Row) (state : WriteState) → row_with_id schema table id state ≡ o → Holds state → StillHolds Fact (change_row schema change table id new o state)
    change_row_keeps change keeps table id new right None state found holds = holds
    change_row_keeps change keeps table id new right (Some old) state found holds =
        then_keeps (replace schema table id new state) (turns schema change table old new schema.relations 0) (replaces table id new old state found holds right) (turns_keeps change keeps table old new right schema.relations (λ one is_in. is_in) 0)

    change_within_keeps : (depth : ℕ) → ChangerKeeps (change_within schema depth)
    change_within_keeps zero table id new state holds right = holds
    change_within_keeps (suc depth) table id new state holds right = change_row_keeps (change_within schema depth) (change_within_keeps depth) table id new right (row_with_id schema table id state) state refl holds

    pub change_keeps : ChangerKeeps (change_of schema)
    change_keeps = change_within_keeps (suc (length schema.tables))
