-- What each change keeps, whole trees keep that fit.
use Rattle.std.proofs.Common.{◌≡◌, ℕ, Bool, true, false, not, ◌&&◌, ◌||◌, ◌==◌, List, [], ◌∷◌, ◌++◌, map, length, zip, Option, Some, None, IfOk, refl, sym, ap, subst, ◌∙◌, true≢false}
use Rattle.std.specs.Prelude.{if◌then◌else◌}
use Rattle.std.specs.List.{list_all, enumerate_from, AllByRecursion}
use Rattle.std.proofs.lemmas.Bool.{and_parts, and_from, eqb-true}
use Rattle.std.proofs.lemmas.List.Folds.{list_all-map}
use Rattle.qe_text.specs.Lists.{In}
use Rattle.qe_base.specs.declared.value.RelId.{RelId}
use Rattle.qe_base.specs.declared.value.Row.{Row}
use Rattle.qe_base.specs.declared.value.Value.{Value}
use Rattle.qe_base.specs.declared.schema.Column.{Column}
use Rattle.qe_base.specs.declared.schema.Field.{Field}
use Rattle.qe_base.specs.declared.schema.Field.TheVariants.{Scalar, Holder, Target, SideA, SideB}
use Rattle.qe_base.specs.declared.answer.Outside.{Outside}
use Rattle.qe_base.specs.declared.write.Edit.{Edit}
use Rattle.qe_base.specs.Schemas.{Schema}
use Rattle.qe_schema.specs.Columns.{at_columns}
use Rattle.qe_schema.specs.Put.{put_of}
use Rattle.qe_schema.specs.Fits.{fit_columns}
use Rattle.qe_schema.specs.Tables.{Tables, table_at, id_of, is_model, field_at}
use Rattle.qe_writing.specs.WriteState.{WriteState, follow, unfollow, present}
use Rattle.qe_writing.specs.Change.{change_of}
use Rattle.qe_writing.specs.Fill.{Filled, filled}
use Rattle.qe_writing.specs.Edits.{edited}
use Rattle.qe_writing.specs.Numbers.{is_one_of, are_distinct}
use Rattle.qe_writing.specs.Held.{held_columns}
use Rattle.qe_writing.specs.Ways.{relation_at}
use Rattle.qe_writing.specs.Write.{Attached, made_of, parent_table, references, row_of_values, put_new, set_edit, fields_of, run_holders, run_others, create_step, given_columns, update_step}
use Rattle.qe_writing.specs.WriteFits as fitting
use Rattle.qe_writing.specs.WriteFits.{FittingSteps, value_fits, edit_fits, must_be_given, are_enough, taken_columns, nested_fit, columns_fit}
use Rattle.qe_write_laws.specs.Keeps.{Keeps, row_fits, StillHolds}
use Rattle.qe_schema.specs.Sound.{IsSound}
use Rattle.qe_write_laws.proofs.Results.{bind_ok, any_ok}
use Rattle.qe_write_laws.proofs.Lists.{all_append, map_append, firsts, same_numbers}
use Rattle.qe_schema.proofs.Tests.{or_parts, or_left, or_right, by_either, any_append_left, any_append_right, any_append_parts}
use Rattle.qe_write_laws.proofs.Columns.{hands_on, counts_right}
use Rattle.qe_write_laws.proofs.Rows.{filled_fits, edited_fits}
use Rattle.qe_write_laws.proofs.Ways.{Holds, then_keeps, fits_there, present_there}
use Rattle.qe_write_laws.proofs.Steps.{has, Ready, CreatesKeep, UpdatesKeep, KeptSteps}
use Rattle.qe_write_laws.proofs.Passes.{runs_of, fits_of, gives_at, AllAttached, holders_new, holders_old, others_keep}

-- ---- columns that are given

enough_weaker : (schema : Schema) (table : ℕ) (columns others : List ℕ) → ((column : ℕ) → is_one_of columns column ≡ true → is_one_of others column ≡ true) → are_enough schema table columns ≡ true → are_enough schema table others ≡ true
enough_weaker schema table columns others weaker = all_weaker (enumerate_from 0 (table_at schema table).columns)
  where
    one_weaker : (must in_first in_second : Bool) → (in_first ≡ true → in_second ≡ true) → (not must || in_first) ≡ true → (not must || in_second) ≡ true
    one_weaker true in_first in_second step is = step is
    one_weaker false in_first in_second step is = refl

    all_weaker : (numbered : List (ℕ × Column)) → list_all (λ one. not (must_be_given one.1) || is_one_of columns one.0) numbered ≡ true → list_all (λ one. not (must_be_given one.1) || is_one_of others one.0) numbered ≡ true
    all_weaker [] all = refl
    all_weaker (one ∷ rest) all =
        let parts = and_parts (not (must_be_given one.1) || is_one_of columns one.0) (list_all (λ other. not (must_be_given other.1) || is_one_of columns other.0) rest) all in
        and_from (not (must_be_given one.1) || is_one_of others one.0) (list_all (λ other. not (must_be_given other.1) || is_one_of others other.0) rest) (one_weaker (must_be_given one.1) (is_one_of columns one.0) (is_one_of others one.0) (weaker one.0) parts.0) (all_weaker rest parts.1)

abbrev numbers_of : List (ℕ × Value) → List ℕ
numbers_of given = map (λ one. one.0) given

module _ (schema : Schema) (Fact : Tables → Type 0) (sound : IsSound schema) (keeps : Keeps schema Fact) where
  -- ---- what attached rows give

  -- values that fit, for all columns of the references
  pub record TakenRight (table : ℕ) (attached : List Attached) (taken : List (ℕ × Value)) : Type 0 where
    pub fit : list_all (value_fits schema table) taken ≡ true
    pub enough : (number : ℕ) → has number attached ≡ true → (column : ℕ) → is_one_of (relation_at schema number).child_columns column ≡ true → is_one_of (numbers_of taken) column ≡ true

  taken_more : (table : ℕ) (one : Attached) (others : List Attached) (parent : Row) (rest : List (ℕ × Value)) → (relation_at schema one.relation).child.0 ≡ table → row_fits schema (relation_at schema one.relation).parent.0 parent ≡ true → TakenRight table others rest
      → TakenRight table (one ∷ others) (zip (relation_at schema one.relation).child_columns (at_columns (relation_at schema one.relation).parent_columns parent) ++ rest)
  taken_more table one others parent rest own fits right = record {
    fit = all_append (value_fits schema table) first rest (subst (λ t. list_all (value_fits schema t) first ≡ true) own (hands_on schema sound one.relation parent fits)) right.fit;
    enough = λ number there column is. ap (λ numbers. is_one_of numbers column) (map_append (λ (pair : ℕ × Value). pair.0) first rest)
        ∙ by_either (or_parts (one.relation == number) (has number others) there)
        (λ here. any_append_left (λ other. other == column) (numbers_of first) (numbers_of rest)
        (ap (λ numbers. is_one_of numbers column) (firsts (relation_at schema one.relation).child_columns (at_columns (relation_at schema one.relation).parent_columns parent) (counts_right schema sound one.relation parent))
        ∙ ap (λ n. is_one_of (relation_at schema n).child_columns column) (eqb-true one.relation number here) ∙ is))
        (λ behind. any_append_right (λ other. other == column) (numbers_of first) (numbers_of rest) (right.enough number behind column is));
  }
    where
      first : List (ℕ × Value)
      first = zip (relation_at schema one.relation).child_columns (at_columns (relation_at schema one.relation).parent_columns parent)

  references_right : (table : ℕ) (attached : List Attached) (state : WriteState) → Holds schema Fact state → AllByRecursion (λ (one : Attached). (relation_at schema one.relation).child.0 ≡ table) attached → IfOk (references schema attached state) (TakenRight table attached)
  references_right table [] state holds own = record { fit = refl; enough = λ number there. absurd (true≢false (sym there)) }
  references_right table (one ∷ others) state holds own =
      let other : ℕ = parent_table schema one.relation in
      bind_ok (present schema other one.place state) _ (λ parent. In parent (state.tables.rows other)) (TakenRight table (one ∷ others)) (present_there schema other one.place state) (λ parent there.
      bind_ok (references schema others state) _ (TakenRight table others) (TakenRight table (one ∷ others)) (references_right table others state holds own.1) (λ rest right.
      taken_more table one others parent rest own.0 (fits_there schema Fact sound keeps other state parent holds there) right))

  -- the columns that steps give are among those of the attached rows
  module _ (table : ℕ) (attached : List Attached) (taken : List (ℕ × Value)) (right : TakenRight table attached taken) where
    held_taken : (field : Option Field) → ((relation : RelId) → field ≡ Some (Holder relation) → has relation.0 attached ≡ true) → (column : ℕ) → is_one_of (held_columns schema field) column ≡ true → is_one_of (numbers_of taken) column ≡ true
    held_taken None there column is = absurd (true≢false (sym is))
    held_taken (Some (Scalar own)) there column is = absurd (true≢false (sym is))
    held_taken (Some (Holder relation)) there column is = right.enough relation.0 (there relation refl) column is
    held_taken (Some (Target relation)) there column is = absurd (true≢false (sym is))
    held_taken (Some (SideA link)) there column is = absurd (true≢false (sym is))
    held_taken (Some (SideB link)) there column is = absurd (true≢false (sym is))

    taken_enough : (whole fits : List FittingSteps) → ((field : ℕ) → gives_at field fits ≡ true → gives_at field whole ≡ true) → ((field : ℕ) (relation : RelId) → field_at schema table field ≡ Some (Holder relation) → gives_at field whole ≡ true → has relation.0 attached ≡ true)
        → (column : ℕ) → is_one_of (taken_columns schema table fits) column ≡ true → is_one_of (numbers_of taken) column ≡ true
    taken_enough whole [] among there column is = absurd (true≢false (sym is))
    taken_enough whole (one ∷ rest) among there column is =
        by_either (any_append_parts (λ other. other == column) (if one.gives then held_columns schema (field_at schema table one.field) else []) (taken_columns schema table rest) is)
        (by_gives one.gives refl)
        (taken_enough whole rest (λ field gives. among field (or_right ((one.field == field) && one.gives) (gives_at field rest) gives)) there column)
      where
        by_gives : (b : Bool) → one.gives ≡ b → is_one_of (if b then held_columns schema (field_at schema table one.field) else []) column ≡ true → is_one_of (numbers_of taken) column ≡ true
        by_gives true gives held =
            held_taken (field_at schema table one.field) (λ relation at. there one.field relation at (among one.field (or_left ((one.field == one.field) && one.gives) (gives_at one.field rest) (and_from (one.field == one.field) one.gives (same_numbers one.field) gives)))) column held
        by_gives false gives held = absurd (true≢false (sym held))

  all_given : (table : ℕ) (values given taken : List (ℕ × Value)) (handed held : List ℕ) → ((column : ℕ) → is_one_of handed column ≡ true → is_one_of (numbers_of given) column ≡ true) → ((column : ℕ) → is_one_of held column ≡ true → is_one_of (numbers_of taken) column ≡ true)
      → are_enough schema table (numbers_of values ++ handed ++ held) ≡ true → are_enough schema table (numbers_of (values ++ given ++ taken)) ≡ true
  all_given table values given taken handed held by_parent by_steps enough = enough_weaker schema table (numbers_of values ++ handed ++ held) (numbers_of (values ++ given ++ taken)) (λ column is.
      ap (λ numbers. is_one_of numbers column) (map_append (λ (pair : ℕ × Value). pair.0) (values ++ given) taken ∙ ap (λ front. front ++ numbers_of taken) (map_append (λ (pair : ℕ × Value). pair.0) values given))
      ∙ by_either (any_append_parts (λ other. other == column) (numbers_of values ++ handed) held is)
      (λ front. any_append_left (λ other. other == column) (numbers_of values ++ numbers_of given) (numbers_of taken)
      (by_either (any_append_parts (λ other. other == column) (numbers_of values) handed front)
      (λ own. any_append_left (λ other. other == column) (numbers_of values) (numbers_of given) own)
      (λ parent. any_append_right (λ other. other == column) (numbers_of values) (numbers_of given) (by_parent column parent))))
      (λ steps. any_append_right (λ other. other == column) (numbers_of values ++ numbers_of given) (numbers_of taken) (by_steps column steps))) enough

  -- ---- a new row

  put_new_keeps : (table : ℕ) (new : Filled) (state : WriteState) → is_model schema table ≡ true → fit_columns schema.choices (table_at schema table).columns new.values ≡ true → Holds schema Fact state → StillHolds Fact (put_new schema table new state)
  put_new_keeps table new state model fits holds = bind_ok (put_of schema table (row_of_values new.values) state.tables) _ Fact (Holds schema Fact) (keeps.put table (row_of_values new.values) state.tables model fits holds) (λ tables fact. fact)

  pub create_keeps : (outside : Outside) (values : List (ℕ × Value)) (all : List (KeptSteps schema Fact))
      → CreatesKeep schema Fact (create_step schema outside (record { values = values; nested = runs_of schema Fact all })) (fitting.create_step schema (record { values = values; nested = fits_of schema Fact all }))
  create_keeps outside values all table columns fits given given_fit state holds =
      let outer = and_parts (is_model schema table && list_all (value_fits schema table) values && nested_fit true table (fits_of schema Fact all)) (columns_fit schema table (numbers_of values ++ columns ++ taken_columns schema table (fits_of schema Fact all))) fits in
      let inner = and_parts (is_model schema table && list_all (value_fits schema table) values) (nested_fit true table (fits_of schema Fact all)) outer.0 in
      let front = and_parts (is_model schema table) (list_all (value_fits schema table) values) inner.0 in
      let steps = (and_parts (are_distinct (map (λ (one : FittingSteps). one.field) (fits_of schema Fact all))) (list_all (λ (one : FittingSteps). one.fits true table) (fits_of schema Fact all)) inner.1).1 in
      let enough = (and_parts (are_distinct (numbers_of values ++ columns ++ taken_columns schema table (fits_of schema Fact all))) (are_enough schema table (numbers_of values ++ columns ++ taken_columns schema table (fits_of schema Fact all))) outer.1).1 in
      let own : ℕ = length state.followed in
      bind_ok (run_holders table None (runs_of schema Fact all) (fields_of schema table) 0 (made_of state [])) _ (AllAttached schema Fact table all steps) (Holds schema Fact) (holders_new schema Fact table all steps (made_of state []) (record { holds = holds; own = tt })) (λ made done.
      bind_ok (references schema made.attached made.state) _ (TakenRight table made.attached) (Holds schema Fact) (references_right table made.attached made.state done.ready.holds done.ready.own) (λ taken right.
      bind_ok (filled schema table (values ++ given ++ taken) outside made.state.drawn made.state.tables) _ (λ new. fit_columns schema.choices (table_at schema table).columns new.values ≡ true) (Holds schema Fact)
      (filled_fits schema sound table (values ++ given ++ taken) outside made.state.drawn made.state.tables
      (all_append (value_fits schema table) (values ++ given) taken (all_append (value_fits schema table) values given front.1 given_fit.fit) right.fit)
      (all_given table values given taken columns (taken_columns schema table (fits_of schema Fact all)) given_fit.enough (taken_enough table made.attached taken right (fits_of schema Fact all) (fits_of schema Fact all) (λ field gives. gives) done.attached) enough)) (λ new new_fits.
      then_keeps schema Fact (put_new schema table new (unfollow own made.state)) _ (put_new_keeps table new (unfollow own made.state) front.0 new_fits done.ready.holds) (λ put holds.
      bind_ok (run_others schema table own (runs_of schema Fact all) (fields_of schema table) 0 (made_of (follow schema table (row_of_values new.values) put) [])) _ (λ last. Fact last.state.tables) (Holds schema Fact)
      (others_keep schema Fact sound keeps table own true all steps (made_of (follow schema table (row_of_values new.values) put) []) holds) (λ last holds.
      any_ok (present schema table own last.state) _ (Holds schema Fact) (λ row. holds))))))

  -- ---- a row that is there

  set_edits_fit : (table : ℕ) (taken : List (ℕ × Value)) → list_all (value_fits schema table) taken ≡ true → list_all (edit_fits schema table) (map set_edit taken) ≡ true
  set_edits_fit table taken fit = list_all-map (edit_fits schema table) set_edit taken ∙ fit

  pub update_keeps : (outside : Outside) (edits : List (ℕ × Edit)) (all : List (KeptSteps schema Fact))
      → UpdatesKeep schema Fact (update_step schema outside (record { edits = edits; nested = runs_of schema Fact all })) (fitting.update_step schema (record { edits = edits; nested = fits_of schema Fact all }))
  update_keeps outside edits all table own fits state holds =
      let outer = and_parts (is_model schema table && list_all (edit_fits schema table) edits && nested_fit false table (fits_of schema Fact all)) (are_distinct (map (λ (one : ℕ × Edit). one.0) edits ++ taken_columns schema table (fits_of schema Fact all))) fits in
      let inner = and_parts (is_model schema table && list_all (edit_fits schema table) edits) (nested_fit false table (fits_of schema Fact all)) outer.0 in
      let front = and_parts (is_model schema table) (list_all (edit_fits schema table) edits) inner.0 in
      let steps = (and_parts (are_distinct (map (λ (one : FittingSteps). one.field) (fits_of schema Fact all))) (list_all (λ (one : FittingSteps). one.fits false table) (fits_of schema Fact all)) inner.1).1 in
      let place : ℕ = length state.followed in
      bind_ok (run_holders table (Some own) (runs_of schema Fact all) (fields_of schema table) 0 (made_of state [])) _ (Ready schema Fact table) (Holds schema Fact) (holders_old schema Fact table own all steps (made_of state []) (record { holds = holds; own = tt })) (λ made ready.
      bind_ok (present schema table own made.state) _ (λ row. In row (made.state.tables.rows table)) (Holds schema Fact) (present_there schema table own made.state) (λ row there.
      bind_ok (references schema made.attached made.state) _ (TakenRight table made.attached) (Holds schema Fact) (references_right table made.attached made.state ready.holds ready.own) (λ taken right.
      bind_ok (edited schema table (edits ++ map set_edit taken) (given_columns schema table (runs_of schema Fact all)) outside row) _ (λ new. row_fits schema table new ≡ true) (Holds schema Fact)
      (edited_fits schema sound table (edits ++ map set_edit taken) (given_columns schema table (runs_of schema Fact all)) outside row (all_append (edit_fits schema table) edits (map set_edit taken) front.1 (set_edits_fit table taken right.fit)) (fits_there schema Fact sound keeps table made.state row ready.holds there)) (λ new new_fits.
      then_keeps schema Fact (change_of schema table (id_of (table_at schema table) row) new made.state) _ (keeps.change table (id_of (table_at schema table) row) new made.state new_fits ready.holds) (λ changed holds.
      bind_ok (run_others schema table own (runs_of schema Fact all) (fields_of schema table) 0 (made_of (unfollow place changed) [])) _ (λ last. Fact last.state.tables) (Holds schema Fact)
      (others_keep schema Fact sound keeps table own false all steps (made_of (unfollow place changed) []) holds) (λ last holds.
      any_ok (present schema table own last.state) _ (Holds schema Fact) (λ row. holds)))))))
