-- What each change keeps, steps on a field that holds a reference keep.
use Rattle.std.proofs.Common.{◌≡◌, ℕ, Bool, true, false, not, ◌==◌, List, [], ◌∷◌, length, zip, Option, Some, None, slice_get, Result, IfOk, refl, sym, ap, subst, ◌∙◌, true≢false}
use Rattle.std.specs.List.{list_all, list_any}
use Rattle.std.proofs.lemmas.Bool.{and_parts}
use Rattle.qe_text.specs.Lists.{In}
use Rattle.qe_base.specs.declared.value.RelId.{RelId}
use Rattle.qe_base.specs.declared.value.Row.{Row}
use Rattle.qe_base.specs.declared.schema.Field.TheVariants.{Holder}
use Rattle.qe_base.specs.declared.schema.Relation.{Relation}
use Rattle.qe_base.specs.declared.answer.Rule.{Rule}
use Rattle.qe_base.specs.declared.write.Step.TheOpen as step
use Rattle.qe_base.specs.Schemas.{Schema}
use Rattle.qe_schema.specs.Tables.{Tables, table_at, id_of, field_at}
use Rattle.qe_reading.specs.Related.{one_related, is_some_such, is_many, is_to_many}
use Rattle.qe_reading.specs.Shape.{is_required}
use Rattle.qe_writing.specs.WriteState.{WriteState, follow, or_absent, present}
use Rattle.qe_writing.specs.Doomed.{place_of}
use Rattle.qe_writing.specs.Delete.{nulls, delete_of}
use Rattle.qe_writing.specs.Finding.{found}
use Rattle.qe_writing.specs.Given.{with_columns}
use Rattle.qe_writing.specs.Ways.{relation_at}
use Rattle.qe_writing.specs.Write.{Attached, Made, Holding, parent_table, attaching, make_parent, attach_or_make, keeping, update_row, update_or_make, null_own, null_own_if, delete_parent, on_held, on_new, kind_of, kinds, run_step, step_step}
use Rattle.qe_writing.specs.WriteFits as fitting
use Rattle.qe_writing.specs.WriteFits.{value_fits, handed_columns, is_needed}
use Rattle.qe_write_laws.specs.Keeps.{Keeps, StillHolds}
use Rattle.qe_schema.specs.Sound.{IsSound}
use Rattle.qe_write_laws.proofs.Results.{bind_ok, any_ok, ok_weaker}
use Rattle.qe_write_laws.proofs.Lists.{all_push, same_numbers}
use Rattle.qe_schema.proofs.Tests.{any_append_left, any_append_right, or_left}
use Rattle.qe_write_laws.proofs.Columns.{with_columns_fit, lets_go_unneeded, is_of_child}
use Rattle.qe_write_laws.proofs.Ways.{Holds, then_keeps, fits_there, present_there, nothing_given}
use Rattle.qe_write_laws.proofs.Steps.{one_there, Ready, Attaches, StepKeeps, KeptCreate, KeptUpdate, KeptParts, runs_in, fits_in, update_row_keeps, reaching_keeps}

not_true : (b : Bool) → not b ≡ true → b ≡ false
not_true true is = absurd (true≢false (sym is))
not_true false is = refl

module _ (schema : Schema) (Fact : Tables → Type 0) (sound : IsSound schema) (keeps : Keeps schema Fact) where
  module _ (table field : ℕ) (relation : RelId) (at : field_at schema table field ≡ Some (Holder relation)) where
    own_is : (relation_at schema relation.0).child.0 ≡ table
    own_is = is_of_child schema sound table field relation at

    attaches : (made : Made) (state : WriteState) → Holds schema Fact state → Ready schema Fact table made → Attaches schema Fact table relation.0 made (attaching relation.0 made state)
    attaches made state holds ready =
        let new : Attached = record { relation = relation.0; place = length made.state.followed } in
        record {
          ready = record { holds = holds; own = all_push (λ (one : Attached). (relation_at schema one.relation).child.0 ≡ table) made.attached new ready.own own_is };
          grows = λ number is. any_append_left (λ (one : Attached). one.relation == number) made.attached (new ∷ []) is;
          attached = any_append_right (λ (one : Attached). one.relation == relation.0) made.attached (new ∷ []) (or_left (relation.0 == relation.0) false (same_numbers relation.0));
        }

    make_parent_ok : (create : KeptCreate schema Fact) → create.fit.fits (parent_table schema relation.0) (handed_columns schema (field_at schema table field)) ≡ true → (made : Made) → Ready schema Fact table made
        → IfOk (make_parent schema relation.0 made create.make) (Attaches schema Fact table relation.0 made)
    make_parent_ok create fits made ready =
        bind_ok (create.make (parent_table schema relation.0) [] made.state) _ (Holds schema Fact) (Attaches schema Fact table relation.0 made)
        (create.keeps (parent_table schema relation.0) (handed_columns schema (field_at schema table field)) fits [] (nothing_given schema (parent_table schema relation.0) (handed_columns schema (field_at schema table field)) (ap (handed_columns schema) at)) made.state ready.holds)
        (λ state holds. attaches made state holds ready)

    attach_parent_ok : (parent : Row) (made : Made) → Ready schema Fact table made → Attaches schema Fact table relation.0 made (attaching relation.0 made (follow schema (parent_table schema relation.0) parent made.state))
    attach_parent_ok parent made ready = attaches made (follow schema (parent_table schema relation.0) parent made.state) ready.holds ready

    attach_or_make_ok : (create : KeptCreate schema Fact) → create.fit.fits (parent_table schema relation.0) (handed_columns schema (field_at schema table field)) ≡ true → (parent : Option Row) (made : Made) → Ready schema Fact table made
        → IfOk (attach_or_make schema relation.0 made create.make parent) (Attaches schema Fact table relation.0 made)
    attach_or_make_ok create fits None made ready = make_parent_ok create fits made ready
    attach_or_make_ok create fits (Some parent) made ready = attach_parent_ok parent made ready

    keeping_ok : (made : Made) → Ready schema Fact table made → (result : Result WriteState Rule) → StillHolds Fact result → IfOk (keeping made result) (Ready schema Fact table)
    keeping_ok made ready result kept = bind_ok result _ (Holds schema Fact) (Ready schema Fact table) kept (λ state holds. record { holds = holds; own = ready.own })

    update_or_make_ok : (create : KeptCreate schema Fact) (update : KeptUpdate schema Fact) → create.fit.fits (parent_table schema relation.0) (handed_columns schema (field_at schema table field)) ≡ true → update.fit.fits (parent_table schema relation.0) ≡ true
        → (parent : Option Row) (made : Made) → Ready schema Fact table made → IfOk (update_or_make schema relation.0 made create.make update.make parent) (Ready schema Fact table)
    update_or_make_ok create update fits also None made ready = ok_weaker (make_parent schema relation.0 made create.make) (Attaches schema Fact table relation.0 made) (Ready schema Fact table) (make_parent_ok create fits made ready) (λ after attaches. attaches.ready)
    update_or_make_ok create update fits also (Some parent) made ready =
        keeping_ok made ready (update_row schema (parent_table schema relation.0) update.make parent made.state) (update_row_keeps schema Fact (parent_table schema relation.0) update also parent made.state ready.holds)

    -- ---- letting go

    unneeded : not (is_needed schema table field) ≡ true → is_some_such (λ (found : Relation). not found.optional) (slice_get schema.relations relation.0) ≡ false
    unneeded is = sym (ap (is_some_such (is_required schema)) at) ∙ not_true (is_needed schema table field) is

    null_own_keeps : not (is_needed schema table field) ≡ true → (row : Row) (state : WriteState) → Holds schema Fact state → In row (state.tables.rows table) → StillHolds Fact (null_own schema table relation.0 row state)
    null_own_keeps free row state holds there =
        let columns : List ℕ = (relation_at schema relation.0).child_columns in
        keeps.change table (id_of (table_at schema table) row) (with_columns columns (nulls columns) row) state
        (with_columns_fit schema table columns (nulls columns) row (fits_there schema Fact sound keeps table state row holds there)
        (subst (λ t. list_all (value_fits schema t) (zip columns (nulls columns)) ≡ true) own_is (lets_go_unneeded schema sound relation.0 (unneeded free))))
        holds

    null_own_if_keeps : not (is_needed schema table field) ≡ true → (row : Row) (parent : Option Row) (state : WriteState) → Holds schema Fact state → In row (state.tables.rows table) → StillHolds Fact (null_own_if schema table relation.0 row parent state)
    null_own_if_keeps free row None state holds there = holds
    null_own_if_keeps free row (Some parent) state holds there = null_own_keeps free row state holds there

    delete_parent_keeps : not (is_needed schema table field) ≡ true → (row parent : Row) (state : WriteState) → Holds schema Fact state → In row (state.tables.rows table) → StillHolds Fact (delete_parent schema table relation.0 row parent state)
    delete_parent_keeps free row parent state holds there =
        let other : ℕ = parent_table schema relation.0 in
        then_keeps schema Fact (null_own schema table relation.0 row (follow schema other parent state)) _ (null_own_keeps free row (follow schema other parent state) holds there) (λ after holds.
        bind_ok (present schema other (length state.followed) after) _ (λ found. In found (after.tables.rows other)) (Holds schema Fact) (present_there schema other (length state.followed) after) (λ found its.
        then_keeps schema Fact (delete_of schema (place_of other found ∷ []) after) _ (keeps.delete (place_of other found ∷ []) after (one_there after.tables other found its) holds) (λ last holds. holds)))

    -- ---- the steps

    not_many : is_to_many schema table field ≡ true → ⊥
    not_many is = true≢false (sym is ∙ ap (is_some_such (is_many schema)) at)

    on_new_ok : (parts : KeptParts schema Fact) → fitting.step_fits schema (fits_in schema Fact parts) true table field (parent_table schema relation.0) ≡ true → (made : Made) → Ready schema Fact table made
        → IfOk (on_new schema relation.0 (runs_in schema Fact parts) made) (Attaches schema Fact table relation.0 made)
    on_new_ok (step.Set uniques) fits made ready = absurd (true≢false (sym fits))
    on_new_ok (step.Disconnect at) fits made ready = absurd (true≢false (sym fits))
    on_new_ok (step.Delete at) fits made ready = absurd (true≢false (sym fits))
    on_new_ok (step.DeleteMany asked) fits made ready = absurd (true≢false (sym fits))
    on_new_ok (step.Update at update) fits made ready = absurd (true≢false (sym fits))
    on_new_ok (step.UpdateMany asked update) fits made ready = absurd (true≢false (sym fits))
    on_new_ok (step.Upsert at create update) fits made ready = absurd (true≢false (sym fits))
    on_new_ok (step.Connect at) fits made ready =
        any_ok (or_absent (parent_table schema relation.0) (found schema (parent_table schema relation.0) at made.state)) _ (Attaches schema Fact table relation.0 made) (λ parent. attach_parent_ok parent made ready)
    on_new_ok (step.ConnectOrCreate at create) fits made ready =
        attach_or_make_ok create (and_parts _ (create.fit.fits (parent_table schema relation.0) (handed_columns schema (field_at schema table field))) fits).1 (found schema (parent_table schema relation.0) at made.state) made ready
    on_new_ok (step.Create create) fits made ready = make_parent_ok create fits made ready
    on_new_ok (step.CreateMany creates) fits made ready = absurd (not_many (and_parts (is_to_many schema table field) _ (and_parts (fitting.has_children schema table field) _ fits).0).0)

    on_held_ok : (parts : KeptParts schema Fact) → fitting.step_fits schema (fits_in schema Fact parts) false table field (parent_table schema relation.0) ≡ true → (row : Row) (made : Made) → In row (made.state.tables.rows table) → Ready schema Fact table made
        → IfOk (on_held schema table field relation.0 row (runs_in schema Fact parts) made) (Ready schema Fact table)
    on_held_ok (step.Set uniques) fits row made there ready = ready
    on_held_ok (step.Disconnect at) fits row made there ready =
        keeping_ok made ready (null_own_if schema table relation.0 row (one_related schema made.state.tables table field row) made.state)
        (null_own_if_keeps (and_parts (not (is_needed schema table field)) _ fits).0 row (one_related schema made.state.tables table field row) made.state ready.holds there)
    on_held_ok (step.Delete at) fits row made there ready =
        any_ok (or_absent (parent_table schema relation.0) (one_related schema made.state.tables table field row)) _ (Ready schema Fact table) (λ parent.
        keeping_ok made ready (delete_parent schema table relation.0 row parent made.state) (delete_parent_keeps (and_parts (not (is_needed schema table field)) _ fits).0 row parent made.state ready.holds there))
    on_held_ok (step.DeleteMany asked) fits row made there ready = ready
    on_held_ok (step.Update at update) fits row made there ready =
        any_ok (or_absent (parent_table schema relation.0) (one_related schema made.state.tables table field row)) _ (Ready schema Fact table) (λ parent.
        keeping_ok made ready (update_row schema (parent_table schema relation.0) update.make parent made.state) (update_row_keeps schema Fact (parent_table schema relation.0) update (and_parts _ (update.fit.fits (parent_table schema relation.0)) fits).1 parent made.state ready.holds))
    on_held_ok (step.UpdateMany asked update) fits row made there ready = ready
    on_held_ok (step.Upsert at create update) fits row made there ready =
        let outer = and_parts _ (update.fit.fits (parent_table schema relation.0)) fits in
        update_or_make_ok create update (and_parts _ (create.fit.fits (parent_table schema relation.0) (handed_columns schema (field_at schema table field))) outer.0).1 outer.1 (one_related schema made.state.tables table field row) made ready
    on_held_ok (step.Connect at) fits row made there ready =
        any_ok (or_absent (parent_table schema relation.0) (found schema (parent_table schema relation.0) at made.state)) _ (Ready schema Fact table) (λ parent. (attach_parent_ok parent made ready).ready)
    on_held_ok (step.ConnectOrCreate at create) fits row made there ready =
        ok_weaker (attach_or_make schema relation.0 made create.make (found schema (parent_table schema relation.0) at made.state)) (Attaches schema Fact table relation.0 made) (Ready schema Fact table)
        (attach_or_make_ok create (and_parts _ (create.fit.fits (parent_table schema relation.0) (handed_columns schema (field_at schema table field))) fits).1 (found schema (parent_table schema relation.0) at made.state) made ready) (λ after attaches. attaches.ready)
    on_held_ok (step.Create create) fits row made there ready = ok_weaker (make_parent schema relation.0 made create.make) (Attaches schema Fact table relation.0 made) (Ready schema Fact table) (make_parent_ok create fits made ready) (λ after attaches. attaches.ready)
    on_held_ok (step.CreateMany creates) fits row made there ready = ready

    held_ok : (parts : KeptParts schema Fact) → fitting.step_fits schema (fits_in schema Fact parts) false table field (parent_table schema relation.0) ≡ true → (own : ℕ) (made : Made) → Ready schema Fact table made
        → IfOk (run_step schema (runs_in schema Fact parts) (Holding table field relation.0 (Some own)) made) (Ready schema Fact table)
    held_ok parts fits own made ready = bind_ok (present schema table own made.state) _ (λ row. In row (made.state.tables.rows table)) (Ready schema Fact table) (present_there schema table own made.state) (λ row there. on_held_ok parts fits row made there ready)

  is_kind : (parts : KeptParts schema Fact) → list_any (λ kind. kind_of (runs_in schema Fact parts) == kind) kinds ≡ true
  is_kind (step.Set uniques) = refl
  is_kind (step.Disconnect at) = refl
  is_kind (step.Delete at) = refl
  is_kind (step.DeleteMany asked) = refl
  is_kind (step.Update at update) = refl
  is_kind (step.UpdateMany asked update) = refl
  is_kind (step.Upsert at create update) = refl
  is_kind (step.Connect at) = refl
  is_kind (step.ConnectOrCreate at create) = refl
  is_kind (step.Create create) = refl
  is_kind (step.CreateMany creates) = refl

  pub step_keeps : (parts : KeptParts schema Fact) → StepKeeps schema Fact (step_step schema (runs_in schema Fact parts)) (fitting.step_step schema (fits_in schema Fact parts))
  step_keeps parts = record {
    kinded = is_kind parts;
    reaching = λ way table field own new kept. reaching_keeps schema Fact sound keeps way table field kept parts own new;
    holding_new = λ table field relation at. on_new_ok table field relation at parts;
    holding_old = λ table field own relation at fits. held_ok table field relation at parts fits own;
  }
