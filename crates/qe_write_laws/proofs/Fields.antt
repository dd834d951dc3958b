-- What each step keeps, all steps of all fields keep.
use Rattle.std.proofs.Common.{◌≡◌, ℕ, Bool, true, false, ◌||◌, ◌==◌, List, [], ◌∷◌, map, Option, Some, None, slice_get, is_some, option_map, unwrap_or, Result, Ok, Err, IfOk, refl, sym, ap, subst, ◌∙◌, true≢false}
use Rattle.std.specs.List.{list_all, list_any, AllByRecursion}
use Rattle.std.proofs.lemmas.Bool.{and_parts, eqb-true}
use Rattle.qe_base.specs.declared.value.RelId.{RelId}
use Rattle.qe_base.specs.declared.schema.Field.TheVariants.{Holder}
use Rattle.qe_base.specs.declared.schema.Relation.{Relation}
use Rattle.qe_base.specs.declared.answer.Rule.{Rule}
use Rattle.qe_base.specs.Schemas.{Schema}
use Rattle.qe_schema.specs.Tables.{Tables, field_at}
use Rattle.qe_reading.specs.Related.{led_to_by, is_some_such}
use Rattle.qe_writing.specs.WriteState.{◌>>=◌}
use Rattle.qe_writing.specs.Ways.{Way, no_relation}
use Rattle.qe_writing.specs.Write.{Made, Spot, Holding, Reaching, Run, Makes, FieldRuns, parent_table, kinds, chosen, run_kind, run_kinds, run_field, nested_step}
use Rattle.qe_writing.specs.WriteFits as fitting
use Rattle.qe_writing.specs.WriteFits.{FittingStep, FittingSteps}
use Rattle.qe_schema.proofs.Tests.{or_parts, or_left, by_either, any_weaker}
use Rattle.qe_write_laws.proofs.Results.{bind_ok, ok_weaker}
use Rattle.qe_write_laws.proofs.Ways.{WayKeeps}
use Rattle.qe_write_laws.proofs.Steps.{has, Ready, Grows, Attaches, HeldSteps, FieldKeeps, KeptStep}

chosen_ok : (b : Bool) (run : Makes) (made : Made) (Q : Made → Type 0) → (b ≡ true → IfOk (run made) Q) → (b ≡ false → Q made) → IfOk (chosen b run made) Q
chosen_ok true run made Q chose left = chose refl
chosen_ok false run made Q chose left = left refl

-- ---- what each run keeps, all of them keep

module _ (side : Spot) (P : Made → Type 0) where
  abbrev pub RunKeeps : Run → Type 0
  RunKeeps one = (made : Made) → P made → IfOk (one.run side made) P

  run_kind_keeps : (kind : ℕ) (runs : List Run) → AllByRecursion RunKeeps runs → (made : Made) → P made → IfOk (run_kind side kind runs made) P
  run_kind_keeps kind [] all made is = is
  run_kind_keeps kind (one ∷ rest) all made is =
      bind_ok (chosen (one.kind == kind) (one.run side) made) _ P P (chosen_ok (one.kind == kind) (one.run side) made P (λ is_it. all.0 made is) (λ other. is)) (run_kind_keeps kind rest all.1)

  run_kinds_keeps : (all_kinds : List ℕ) (runs : List Run) → AllByRecursion RunKeeps runs → (made : Made) → P made → IfOk (run_kinds side all_kinds runs made) P
  run_kinds_keeps [] runs all made is = is
  run_kinds_keeps (kind ∷ more) runs all made is = bind_ok (run_kind side kind runs made) _ P P (run_kind_keeps kind runs all made is) (run_kinds_keeps more runs all)

  abbrev pub FieldRunsKeep : ℕ → FieldRuns → Type 0
  FieldRunsKeep number one = one.field ≡ number → (made : Made) → P made → IfOk (run_kinds side kinds one.steps made) P

  pub run_field_keeps : (number : ℕ) (runs : List FieldRuns) → AllByRecursion (FieldRunsKeep number) runs → (made : Made) → P made → IfOk (run_field side number runs made) P
  run_field_keeps number [] all made is = is
  run_field_keeps number (one ∷ rest) all made is =
      bind_ok (chosen (one.field == number) (run_kinds side kinds one.steps) made) _ P P
      (chosen_ok (one.field == number) (run_kinds side kinds one.steps) made P (λ is_it. all.0 (eqb-true one.field number is_it) made is) (λ other. is)) (run_field_keeps number rest all.1)

-- ---- runs of which each attaches a row

module _ (schema : Schema) (Fact : Tables → Type 0) (side : Spot) (table number : ℕ) where
  pub record Attached (made : Made) : Type 0 where
    pub ready : Ready schema Fact table made
    pub attached : has number made.attached ≡ true

  abbrev RunAttaches : Run → Type 0
  RunAttaches one = (made : Made) → Ready schema Fact table made → IfOk (one.run side made) (Attaches schema Fact table number made)

  stay_ready : (runs : List Run) → AllByRecursion RunAttaches runs → AllByRecursion (RunKeeps side (Ready schema Fact table)) runs
  stay_ready [] all = tt
  stay_ready (one ∷ rest) all = (λ made ready. ok_weaker (one.run side made) (Attaches schema Fact table number made) (Ready schema Fact table) (all.0 made ready) (λ after attaches. attaches.ready), stay_ready rest all.1)

  stay_attached : (runs : List Run) → AllByRecursion RunAttaches runs → AllByRecursion (RunKeeps side Attached) runs
  stay_attached [] all = tt
  stay_attached (one ∷ rest) all =
      (λ made is. ok_weaker (one.run side made) (Attaches schema Fact table number made) Attached (all.0 made is.ready) (λ after attaches. record { ready = attaches.ready; attached = attaches.attached }), stay_attached rest all.1)

  abbrev ReadyAfter : Made → Made → Type 0
  ReadyAfter start made = Ready schema Fact table made × Grows schema Fact start made

  stay_grown : (start : Made) (runs : List Run) → AllByRecursion RunAttaches runs → AllByRecursion (RunKeeps side (ReadyAfter start)) runs
  stay_grown start [] all = tt
  stay_grown start (one ∷ rest) all =
      (λ made is. ok_weaker (one.run side made) (Attaches schema Fact table number made) (ReadyAfter start) (all.0 made is.0) (λ after attaches. (attaches.ready, λ n there. attaches.grows n (is.1 n there))), stay_grown start rest all.1)

  run_kind_attaches : (kind : ℕ) (runs : List Run) → AllByRecursion RunAttaches runs → list_any (λ one. one.kind == kind) runs ≡ true → (made : Made) → Ready schema Fact table made → IfOk (run_kind side kind runs made) Attached
  run_kind_attaches kind [] all some made ready = absurd (true≢false (sym some))
  run_kind_attaches kind (one ∷ rest) all some made ready = by_test (one.kind == kind) refl (run_kind_attaches kind rest all.1)
    where
      by_test : (b : Bool) → (one.kind == kind) ≡ b → (list_any (λ other. other.kind == kind) rest ≡ true → (made : Made) → Ready schema Fact table made → IfOk (run_kind side kind rest made) Attached) → IfOk (chosen b (one.run side) made >>= run_kind side kind rest) Attached
      by_test true is behind =
          bind_ok (one.run side made) (run_kind side kind rest) (Attaches schema Fact table number made) Attached (all.0 made ready) (λ after attaches. run_kind_keeps side Attached kind rest (stay_attached rest all.1) after (record { ready = attaches.ready; attached = attaches.attached }))
      by_test false is behind = behind (ap (λ b. b || list_any (λ other. other.kind == kind) rest) (sym is) ∙ some) made ready

  run_kinds_attaches : (all_kinds : List ℕ) (runs : List Run) → AllByRecursion RunAttaches runs → list_any (λ kind. list_any (λ one. one.kind == kind) runs) all_kinds ≡ true → (made : Made) → Ready schema Fact table made → IfOk (run_kinds side all_kinds runs made) Attached
  run_kinds_attaches [] runs all some made ready = absurd (true≢false (sym some))
  run_kinds_attaches (kind ∷ more) runs all some made ready = by_either (or_parts (list_any (λ one. one.kind == kind) runs) (list_any (λ other. list_any (λ one. one.kind == other) runs) more) some)
      (λ here. bind_ok (run_kind side kind runs made) _ Attached Attached (run_kind_attaches kind runs all here made ready) (run_kinds_keeps side Attached more runs (stay_attached runs all)))
      (λ there. bind_ok (run_kind side kind runs made) _ (Ready schema Fact table) Attached (run_kind_keeps side (Ready schema Fact table) kind runs (stay_ready runs all) made ready) (run_kinds_attaches more runs all there))

-- ---- the steps of a field

module _ (schema : Schema) (Fact : Tables → Type 0) where
  all_reach : (way : Way) (table field own : ℕ) (new : Bool) → WayKeeps schema Fact way table field → (steps : List (KeptStep schema Fact)) → list_all (λ (one : FittingStep). one.fits new table field way.other) (map (λ (k : KeptStep schema Fact). k.fit) steps) ≡ true
      → AllByRecursion (RunKeeps (Reaching way table field own) (λ made. Fact made.state.tables)) (map (λ (k : KeptStep schema Fact). k.run) steps)
  all_reach way table field own new kept [] fit = tt
  all_reach way table field own new kept (one ∷ rest) fit =
      let parts = and_parts (one.fit.fits new table field way.other) (list_all (λ (other : FittingStep). other.fits new table field way.other) (map (λ (k : KeptStep schema Fact). k.fit) rest)) fit in
      (one.keeps.reaching way table field own new kept parts.0, all_reach way table field own new kept rest parts.1)

  all_attach : (table field : ℕ) (relation : RelId) → field_at schema table field ≡ Some (Holder relation) → (steps : List (KeptStep schema Fact)) → list_all (λ (one : FittingStep). one.fits true table field (parent_table schema relation.0)) (map (λ (k : KeptStep schema Fact). k.fit) steps) ≡ true
      → AllByRecursion (RunAttaches schema Fact (Holding table field relation.0 None) table relation.0) (map (λ (k : KeptStep schema Fact). k.run) steps)
  all_attach table field relation at [] fit = tt
  all_attach table field relation at (one ∷ rest) fit =
      let parts = and_parts (one.fit.fits true table field (parent_table schema relation.0)) (list_all (λ (other : FittingStep). other.fits true table field (parent_table schema relation.0)) (map (λ (k : KeptStep schema Fact). k.fit) rest)) fit in
      (one.keeps.holding_new table field relation at parts.0, all_attach table field relation at rest parts.1)

  all_held : (table field own : ℕ) (relation : RelId) → field_at schema table field ≡ Some (Holder relation) → (steps : List (KeptStep schema Fact)) → list_all (λ (one : FittingStep). one.fits false table field (parent_table schema relation.0)) (map (λ (k : KeptStep schema Fact). k.fit) steps) ≡ true
      → AllByRecursion (RunKeeps (Holding table field relation.0 (Some own)) (Ready schema Fact table)) (map (λ (k : KeptStep schema Fact). k.run) steps)
  all_held table field own relation at [] fit = tt
  all_held table field own relation at (one ∷ rest) fit =
      let parts = and_parts (one.fit.fits false table field (parent_table schema relation.0)) (list_all (λ (other : FittingStep). other.fits false table field (parent_table schema relation.0)) (map (λ (k : KeptStep schema Fact). k.fit) rest)) fit in
      (one.keeps.holding_old table field own relation at parts.0, all_held table field own relation at rest parts.1)

  -- where there is a step, it runs
  some_run : (steps : List (KeptStep schema Fact)) → list_any (λ (one : FittingStep). one.gives) (map (λ (k : KeptStep schema Fact). k.fit) steps) ≡ true
      → list_any (λ kind. list_any (λ (one : Run). one.kind == kind) (map (λ (k : KeptStep schema Fact). k.run) steps)) kinds ≡ true
  some_run [] gives = absurd (true≢false (sym gives))
  some_run (one ∷ rest) gives =
      any_weaker (λ kind. one.run.kind == kind) (λ kind. (one.run.kind == kind) || list_any (λ (other : Run). other.kind == kind) (map (λ (k : KeptStep schema Fact). k.run) rest)) (λ kind is. or_left (one.run.kind == kind) _ is) kinds one.keeps.kinded

  -- the other table of a field that holds a reference
  parent_of : (table field : ℕ) (relation : RelId) → field_at schema table field ≡ Some (Holder relation) → (test : ℕ → Bool) → is_some_such test (led_to_by schema (field_at schema table field)) ≡ true → test (parent_table schema relation.0) ≡ true
  parent_of table field relation at test is = by_found (slice_get schema.relations relation.0) (ap (λ o. is_some_such test (led_to_by schema o)) (sym at) ∙ is)
    where
      by_found : (o : Option Relation) → is_some_such test (option_map (λ (found : Relation). found.parent.0) o) ≡ true → test (unwrap_or o no_relation).parent.0 ≡ true
      by_found None is = absurd (true≢false (sym is))
      by_found (Some found) is = is

  such_is_some : (test : ℕ → Bool) (o : Option ℕ) → is_some_such test o ≡ true → is_some o ≡ true
  such_is_some test None is = absurd (true≢false (sym is))
  such_is_some test (Some n) is = refl

  -- the steps fit this field, which is theirs
  abbrev FitOn : (new : Bool) (table field : ℕ) → List (KeptStep schema Fact) → Type 0
  FitOn new table field steps = is_some_such (λ other. list_all (λ (one : FittingStep). one.fits new table field other) (map (λ (k : KeptStep schema Fact). k.fit) steps)) (led_to_by schema (field_at schema table field)) ≡ true

  fit_on : (own : ℕ) (steps : List (KeptStep schema Fact)) (new : Bool) (table field : ℕ) → own ≡ field → (fitting.nested_step schema (record { field = own; steps = map (λ (k : KeptStep schema Fact). k.fit) steps })).fits new table ≡ true → FitOn new table field steps
  fit_on own steps new table field same fits = subst (λ f. FitOn new table f steps) same (and_parts _ _ fits).0

  pub steps_keep : (own : ℕ) (steps : List (KeptStep schema Fact)) → FieldKeeps schema Fact (nested_step (record { field = own; steps = map (λ (k : KeptStep schema Fact). k.run) steps })) (fitting.nested_step schema (record { field = own; steps = map (λ (k : KeptStep schema Fact). k.fit) steps }))
  steps_keep own steps = record {
    same = refl;
    led = λ new table field same fits. such_is_some _ (led_to_by schema (field_at schema table field)) (fit_on own steps new table field same fits);
    reaching = λ way table field row new same kept fits made holds.
        run_kinds_keeps (Reaching way table field row) (λ made. Fact made.state.tables) kinds (map (λ (k : KeptStep schema Fact). k.run) steps)
        (all_reach way table field row new kept steps (subst (λ o. is_some_such (λ other. list_all (λ (one : FittingStep). one.fits new table field other) (map (λ (k : KeptStep schema Fact). k.fit) steps)) o ≡ true) kept.leads (fit_on own steps new table field same fits))) made holds;
    holding_new = λ table field relation same at fits made ready.
        let side : Spot = Holding table field relation.0 None in
        let runs : List Run = map (λ (k : KeptStep schema Fact). k.run) steps in
        let all = all_attach table field relation at steps (parent_of table field relation at (λ other. list_all (λ (one : FittingStep). one.fits true table field other) (map (λ (k : KeptStep schema Fact). k.fit) steps)) (fit_on own steps true table field same fits)) in
        held side table relation.0 (list_any (λ (one : FittingStep). one.gives) (map (λ (k : KeptStep schema Fact). k.fit) steps)) made (run_kinds side kinds runs made)
        (run_kinds_keeps side (ReadyAfter schema Fact side table relation.0 made) kinds runs (stay_grown schema Fact side table relation.0 made runs all) made (ready, λ n there. there))
        (λ gives. run_kinds_attaches schema Fact side table relation.0 kinds runs all (some_run steps gives) made ready);
    holding_old = λ table field row relation same at fits.
        run_kinds_keeps (Holding table field relation.0 (Some row)) (Ready schema Fact table) kinds (map (λ (k : KeptStep schema Fact). k.run) steps)
        (all_held table field row relation at steps (parent_of table field relation at (λ other. list_all (λ (one : FittingStep). one.fits false table field other) (map (λ (k : KeptStep schema Fact). k.fit) steps)) (fit_on own steps false table field same fits)));
  }
    where
      held : (side : Spot) (table number : ℕ) (gives : Bool) (made : Made) (result : Result Made Rule) → IfOk result (ReadyAfter schema Fact side table number made) → (gives ≡ true → IfOk result (Attached schema Fact side table number)) → IfOk result (HeldSteps schema Fact table number gives made)
      held side table number gives made (Ok after) kept attached = record { ready = kept.0; grows = kept.1; attached = λ is. (attached is).attached }
      held side table number gives made (Err broken) kept attached = tt
