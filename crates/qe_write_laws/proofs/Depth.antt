-- A change goes no deeper than the schema's arrows, so it is its own step.
use Rattle.std.proofs.Common.{◌≡◌, ◌≢◌, ◌⊎◌, inl, inr, ℕ, zero, suc, ◌+◌, ◌<◌, ◌≤◌, Bool, true, false, not, List, [], ◌∷◌, length, Option, Some, None, Ok, refl, sym, ap, subst, ◌∙◌, arith, true≢false}
use Rattle.std.specs.Prelude.{◌==◌, slice_get, option_and_then}
use Rattle.std.specs.List.{list_any}
use Rattle.std.proofs.lemmas.Bool.{eqb-true, and_parts, and_cases, cases_lt}
use Rattle.qe_text.specs.Lists.{In}
use Rattle.qe_base.specs.declared.schema.Action.{Action}
use Rattle.qe_base.specs.declared.schema.Action.TheVariants.{Cascade, Restrict, SetNull}
use Rattle.qe_base.specs.declared.schema.Relation.{Relation}
use Rattle.qe_base.specs.declared.value.Row.{Row}
use Rattle.qe_base.specs.Schemas.{Schema}
use Rattle.qe_schema.specs.Sound.{IsSound}
use Rattle.qe_schema.specs.Cycles.{is_cascade, meet, goes_on_by, is_arrow}
use Rattle.qe_schema.specs.Columns.{Values, are_same, at_columns}
use Rattle.qe_schema.specs.Tables.{table_at, id_of}
use Rattle.qe_row_laws.proofs.Lists.{none_in}
use Rattle.qe_schema.proofs.Equal.{same_values, values_same}
use Rattle.qe_writing.specs.Change.{Changer, replace, give_row, give_from, give_all, treat, children, at_turn, is_touched, turns, change_row, change_step, change_within, change_of}
use Rattle.qe_writing.specs.Delete.{nulls}
use Rattle.qe_writing.specs.Given.{with_columns}
use Rattle.qe_writing.specs.WriteState.{WriteState, Followed, ◌>>=◌, row_with_id, row_of, row_followed, follow_all, unfollow}
use Rattle.qe_write_laws.specs.ChangeLaws.{ChangesAreSteps}
use Rattle.qe_write_laws.proofs.Results.{bind_same}
use Rattle.qe_write_laws.proofs.Arrows.{Ends, arrows_end}
use Rattle.qe_write_laws.proofs.OtherColumns.{columns_kept}
use Rattle.qe_schema.proofs.Members.{some_same, found_passes}
use Rattle.qe_write_laws.proofs.Required.{nulls_end}

not_cascade : Cascade ≡ Restrict → ⊥
not_cascade same = cc

not_null : SetNull ≡ Restrict → ⊥
not_null same = cc

-- ---- changers that agree on the child rows of the relations that are touched make the same step

module _ (schema : Schema) (f g : Changer) (relation : Relation) where
  -- they agree on what the relation gives to a row that is there
  abbrev pub AgreeAt : Type 0
  AgreeAt = (relation.on_update ≢ Restrict) → (row : Row) (values : Values) (state : WriteState) → row_with_id schema relation.child.0 (id_of (table_at schema relation.child.0) row) state ≡ Some row
      → f relation.child.0 (id_of (table_at schema relation.child.0) row) (with_columns relation.child_columns values row) state
      ≡ g relation.child.0 (id_of (table_at schema relation.child.0) row) (with_columns relation.child_columns values row) state

  module _ (agrees : AgreeAt) where
    -- a row that is found under an id is found under its own
    again : (state : WriteState) (table : ℕ) (id : Values) (row : Row) → row_with_id schema table id state ≡ Some row → row_with_id schema table (id_of (table_at schema table) row) state ≡ Some row
    again state table id row is =
        let same = same_values (id_of (table_at schema table) row) id (found_passes (λ one. are_same (id_of (table_at schema table) one) id) (state.tables.rows table) row is) in
        subst (λ own. row_with_id schema table own state ≡ Some row) (sym same) is

    give_row_same : (gives : relation.on_update ≢ Restrict) (values : Values) (place : ℕ) (state : WriteState)
        → give_row schema f relation values (row_followed schema relation.child.0 place state) state ≡ give_row schema g relation values (row_followed schema relation.child.0 place state) state
    give_row_same gives values place state = by_place (slice_get state.followed place)
      where
        at : (id : Values) (o : Option Row) → row_with_id schema relation.child.0 id state ≡ o → give_row schema f relation values o state ≡ give_row schema g relation values o state
        at id None is = refl
        at id (Some row) is = agrees gives row values state (again state relation.child.0 id row is)

        by_id : (o : Option Values) → give_row schema f relation values (option_and_then (λ id. row_with_id schema relation.child.0 id state) o) state ≡ give_row schema g relation values (option_and_then (λ id. row_with_id schema relation.child.0 id state) o) state
        by_id None = refl
        by_id (Some id) = at id (row_with_id schema relation.child.0 id state) refl

        by_place : (o : Option Followed) → give_row schema f relation values (row_of schema relation.child.0 state o) state ≡ give_row schema g relation values (row_of schema relation.child.0 state o) state
        by_place None = refl
        by_place (Some one) = by_id one.id

    give_from_same : (gives : relation.on_update ≢ Restrict) (values : Values) (rows : List Row) (place : ℕ) (state : WriteState) → give_from schema f relation values rows place state ≡ give_from schema g relation values rows place state
    give_from_same gives values [] place state = refl
    give_from_same gives values (row ∷ rows) place state =
        ap (λ r. r >>= give_from schema f relation values rows (place + 1)) (give_row_same gives values place state)
        ∙ bind_same (give_row schema g relation values (row_followed schema relation.child.0 place state) state) _ _ (give_from_same gives values rows (place + 1))

    give_all_same : (gives : relation.on_update ≢ Restrict) (values : Values) (rows : List Row) (state : WriteState) → give_all schema f relation values rows state ≡ give_all schema g relation values rows state
    give_all_same gives values rows state = ap (λ r. r >>= λ after. Ok (unfollow (length state.followed) after)) (give_from_same gives values rows (length state.followed) (follow_all schema relation.child.0 rows state))

    treat_same : (action : Action) → relation.on_update ≡ action → (number : ℕ) (new : Values) (rows : List Row) (state : WriteState) → treat schema f action relation number new rows state ≡ treat schema g action relation number new rows state
    treat_same Cascade is number new rows state = give_all_same (λ restrict. not_cascade (sym is ∙ restrict)) new rows state
    treat_same SetNull is number new rows state = give_all_same (λ restrict. not_null (sym is ∙ restrict)) (nulls relation.child_columns) rows state
    treat_same Restrict is number new [] state = refl
    treat_same Restrict is number new (row ∷ rows) state = refl

    pub turn_same : (number : ℕ) (old new : Values) (b : Bool) (state : WriteState) → at_turn schema f relation number old new b state ≡ at_turn schema g relation number old new b state
    turn_same number old new false state = refl
    turn_same number old new true state = treat_same relation.on_update refl number new (children relation old state) state

module _ (schema : Schema) (f g : Changer) (table : ℕ) (old new : Row) where
  turns_same : (relations : List Relation) → ((relation : Relation) → In relation relations → is_touched relation table old new ≡ true → AgreeAt schema f g relation)
      → (number : ℕ) (state : WriteState) → turns schema f table old new relations number state ≡ turns schema g table old new relations number state
  unfolding In
  turns_same [] agree number state = refl
  turns_same (relation ∷ relations) agree number state =
      ap (λ r. r >>= turns schema f table old new relations (number + 1)) (by_test (is_touched relation table old new) refl)
      ∙ bind_same (at_turn schema g relation number (at_columns relation.parent_columns old) (at_columns relation.parent_columns new) (is_touched relation table old new) state) _ _ (turns_same relations (λ one is_in. agree one (inr is_in)) (number + 1))
    where
      by_test : (b : Bool) → is_touched relation table old new ≡ b
          → at_turn schema f relation number (at_columns relation.parent_columns old) (at_columns relation.parent_columns new) b state ≡ at_turn schema g relation number (at_columns relation.parent_columns old) (at_columns relation.parent_columns new) b state
      by_test false untouched = refl
      by_test true touched = turn_same schema f g relation (agree relation (inl refl) touched) number (at_columns relation.parent_columns old) (at_columns relation.parent_columns new) true state

step_same : (schema : Schema) (f g : Changer) (table : ℕ) (id : Values) (new : Row) (state : WriteState)
    → ((old : Row) → row_with_id schema table id state ≡ Some old → (relation : Relation) → In relation schema.relations → is_touched relation table old new ≡ true → AgreeAt schema f g relation)
    → change_step schema f table id new state ≡ change_step schema g table id new state
step_same schema f g table id new state agree = by_row (row_with_id schema table id state) refl
  where
    by_row : (o : Option Row) → row_with_id schema table id state ≡ o → change_row schema f table id new o state ≡ change_row schema g table id new o state
    by_row None is = refl
    by_row (Some old) is = bind_same (replace schema table id new state) _ _ (turns_same schema f g table old new schema.relations (agree old is) 0)

-- ---- arrows

-- what a relation gives touches no other where it doesn't go on
untouched : (schema : Schema) (relation : Relation) → list_any (goes_on_by relation) schema.relations ≡ false → (values : Values) (row : Row) (next : Relation) → In next schema.relations → is_touched next relation.child.0 row (with_columns relation.child_columns values row) ≡ true → ⊥
untouched schema relation ends values row next is_in touched =
    let parts = and_parts (next.parent.0 == relation.child.0) (not (are_same (at_columns next.parent_columns row) (at_columns next.parent_columns (with_columns relation.child_columns values row)))) touched in
    by_case (and_cases (next.parent.0 == relation.child.0) (meet relation.child_columns next.parent_columns) (none_in (goes_on_by relation) schema.relations next ends is_in)) parts.0 parts.1
  where
    by_case : ((next.parent.0 == relation.child.0 ≡ false) ⊎ (meet relation.child_columns next.parent_columns ≡ false)) → next.parent.0 == relation.child.0 ≡ true
        → not (are_same (at_columns next.parent_columns row) (at_columns next.parent_columns (with_columns relation.child_columns values row))) ≡ true → ⊥
    by_case (inl elsewhere) here differs = true≢false (sym here ∙ elsewhere)
    by_case (inr apart) here differs = true≢false (sym differs ∙ ap not (values_same (at_columns next.parent_columns row) (at_columns next.parent_columns (with_columns relation.child_columns values row)) (sym (columns_kept relation.child_columns values row next.parent_columns apart))))

module _ (schema : Schema) (is : IsSound schema) where
  -- what is no arrow gives nothing on
  goes_nowhere : (relation : Relation) → In relation schema.relations → (relation.on_update ≢ Restrict) → is_arrow schema relation ≡ false → list_any (goes_on_by relation) schema.relations ≡ false
  goes_nowhere relation is_in gives plain = by_action relation.on_update refl (and_cases (is_cascade relation.on_update) (list_any (goes_on_by relation) schema.relations) plain)
    where
      by_action : (action : Action) → relation.on_update ≡ action → ((is_cascade relation.on_update ≡ false) ⊎ (list_any (goes_on_by relation) schema.relations ≡ false)) → list_any (goes_on_by relation) schema.relations ≡ false
      by_action action same (inr ends) = ends
      by_action Cascade same (inl other) = absurd (true≢false (sym (ap is_cascade same) ∙ other))
      by_action Restrict same (inl other) = absurd (gives same)
      by_action SetNull same (inl other) = nulls_end schema is relation is_in same

  -- one level more changes nothing
  deeper : (depth : ℕ) (table : ℕ) → Ends schema depth table → (id : Values) (new : Row) (state : WriteState) → change_within schema (suc depth) table id new state ≡ change_within schema (suc (suc depth)) table id new state
  deeper zero table ends id new state = absurd ends
  deeper (suc depth) table ends id new state = step_same schema (change_within schema (suc depth)) (change_within schema (suc (suc depth))) table id new state
      (λ old found relation is_in touched.
      let from = eqb-true relation.parent.0 table (and_parts (relation.parent.0 == table) (not (are_same (at_columns relation.parent_columns old) (at_columns relation.parent_columns new))) touched).0 in
      at relation is_in (λ arrow. deeper depth relation.child.0 (ends relation is_in from arrow)) (is_arrow schema relation) refl)
    where
      at : (relation : Relation) → In relation schema.relations
          → (is_arrow schema relation ≡ true → (id : Values) (new : Row) (state : WriteState) → change_within schema (suc depth) relation.child.0 id new state ≡ change_within schema (suc (suc depth)) relation.child.0 id new state)
          → (b : Bool) → is_arrow schema relation ≡ b → AgreeAt schema (change_within schema (suc depth)) (change_within schema (suc (suc depth))) relation
      at relation is_in next true arrow gives row values state there = next arrow (id_of (table_at schema relation.child.0) row) (with_columns relation.child_columns values row) state
      at relation is_in next false plain gives row values state there =
          step_same schema (change_within schema depth) (change_within schema (suc depth)) relation.child.0 (id_of (table_at schema relation.child.0) row) (with_columns relation.child_columns values row) state
          (λ old found next among touched. absurd (untouched schema relation (goes_nowhere relation is_in gives plain) values row next among (subst (λ one. is_touched next relation.child.0 one (with_columns relation.child_columns values row) ≡ true) (some_same _ _ (sym found ∙ there)) touched)))

  -- a table beyond those of the schema is the parent of no relation
  beyond : (depth : ℕ) (table : ℕ) → length schema.tables ≤ table → (id : Values) (new : Row) (state : WriteState) → change_within schema (suc depth) table id new state ≡ change_within schema (suc (suc depth)) table id new state
  beyond depth table outside id new state = step_same schema (change_within schema depth) (change_within schema (suc depth)) table id new state
      (λ old found relation is_in touched.
      let from : relation.parent.0 ≡ table = eqb-true relation.parent.0 table (and_parts (relation.parent.0 == table) (not (are_same (at_columns relation.parent_columns old) (at_columns relation.parent_columns new))) touched).0 in
      let parent : relation.parent.0 < length schema.tables = (is.refer relation is_in).parent in
      absurd (omega arith))

  changes_are_steps : ChangesAreSteps schema
  changes_are_steps table id row state = by_place (cases_lt table (length schema.tables))
    where
      by_place : (table < length schema.tables) ⊎ (length schema.tables ≤ table) → change_of schema table id row state ≡ change_step schema (change_of schema) table id row state
      by_place (inr outside) = beyond (length schema.tables) table outside id row state
      by_place (inl inside) = deeper (length schema.tables) table (arrows_end schema is.cycles (λ relation is_in. (is.refer relation is_in).child) table inside) id row state

pub steps_of_changes : (schema : Schema) → IsSound schema → ChangesAreSteps schema
steps_of_changes schema is = changes_are_steps schema is
