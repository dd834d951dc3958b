-- What each step keeps, the steps of all fields of a row keep; and a new row has attached a row by each field that
-- holds a reference and has a step.
use Rattle.std.proofs.Common.{◌≡◌, ℕ, zero, suc, ◌+◌, Bool, true, false, ◌&&◌, ◌==◌, List, [], ◌∷◌, map, Option, Some, None, slice_get, is_some, Result, Ok, Err, IfOk, refl, sym, ap, ◌∙◌, true≢false, arith}
use Rattle.std.specs.List.{list_all, list_any, AllByRecursion}
use Rattle.std.proofs.lemmas.Bool.{and_parts, eqb-true}
use Rattle.std.proofs.lemmas.Option.{slice_get-map}
use Rattle.qe_base.specs.declared.value.RelId.{RelId}
use Rattle.qe_base.specs.declared.schema.Field.{Field}
use Rattle.qe_base.specs.declared.schema.Field.TheVariants.{Scalar, Holder, Target, SideA, SideB}
use Rattle.qe_base.specs.declared.answer.Rule.{Rule}
use Rattle.qe_base.specs.Schemas.{Schema}
use Rattle.qe_schema.specs.Tables.{Tables, table_at, field_at}
use Rattle.qe_reading.specs.Related.{led_to_by}
use Rattle.qe_writing.specs.WriteState.{◌>>=◌}
use Rattle.qe_writing.specs.Ways.{Way, to_children, to_linked}
use Rattle.qe_writing.specs.Write.{Made, Spot, Holding, Reaching, FieldRuns, kinds, chosen, run_kinds, run_field, run_holders, run_others, fields_of}
use Rattle.qe_writing.specs.WriteFits.{FittingSteps}
use Rattle.qe_write_laws.specs.Keeps.{Keeps}
use Rattle.qe_schema.specs.Sound.{IsSound}
use Rattle.qe_schema.proofs.Tests.{or_parts, by_either}
use Rattle.qe_write_laws.proofs.Results.{bind_ok, ok_weaker}
use Rattle.qe_write_laws.proofs.Ways.{WayKeeps, children_way, linked_way_a, linked_way_b}
use Rattle.qe_write_laws.proofs.Steps.{has, Ready, HeldSteps, KeptSteps}
use Rattle.qe_write_laws.proofs.Fields.{FieldRunsKeep, run_field_keeps}

-- the fields from a number on
abbrev pub Suffix : Schema → ℕ → List Field → ℕ → Type 0
Suffix schema table fields number = (i : ℕ) → field_at schema table (number + i) ≡ slice_get fields i

plus_zero : (n : ℕ) → n ≡ n + 0
plus_zero n = omega arith

one_further : (n i : ℕ) → n + 1 + i ≡ n + suc i
one_further n i = omega arith

first_field : (schema : Schema) (table : ℕ) (field : Field) (fields : List Field) (number : ℕ) → Suffix schema table (field ∷ fields) number → field_at schema table number ≡ Some field
first_field schema table field fields number at = ap (field_at schema table) (plus_zero number) ∙ at zero

rest_fields : (schema : Schema) (table : ℕ) (field : Field) (fields : List Field) (number : ℕ) → Suffix schema table (field ∷ fields) number → Suffix schema table fields (number + 1)
rest_fields schema table field fields number at i = ap (field_at schema table) (one_further number i) ∙ at (suc i)

pub all_fields : (schema : Schema) (table : ℕ) → Suffix schema table (fields_of schema table) 0
all_fields schema table i = ap (field_at schema table) (from_zero i) ∙ sym (slice_get-map (λ (field : List ℕ × Field). field.1) (table_at schema table).fields i)
  where
    from_zero : (n : ℕ) → 0 + n ≡ n
    from_zero n = omega arith

-- a field of this number has a step that gives its reference
abbrev pub gives_at : ℕ → List FittingSteps → Bool
gives_at number fits = list_any (λ (one : FittingSteps). (one.field == number) && one.gives) fits

is_holder : Option Field → Bool
is_holder None = false
is_holder (Some (Scalar column)) = false
is_holder (Some (Holder relation)) = true
is_holder (Some (Target relation)) = false
is_holder (Some (SideA table)) = false
is_holder (Some (SideB table)) = false

held_number : Option Field → ℕ
held_number None = 0
held_number (Some (Scalar column)) = 0
held_number (Some (Holder relation)) = relation.0
held_number (Some (Target relation)) = 0
held_number (Some (SideA table)) = 0
held_number (Some (SideB table)) = 0

no_holder : (field : Option Field) (relation : RelId) → is_holder field ≡ false → field ≡ Some (Holder relation) → ⊥
unfolding is_holder
no_holder field relation other same = true≢false (sym (ap is_holder same) ∙ other)

same_number : (one other : RelId) → Some (Holder one) ≡ Some (Holder other) → one.0 ≡ other.0
unfolding held_number
same_number one other same = ap held_number same

module _ (schema : Schema) (Fact : Tables → Type 0) where
  abbrev pub runs_of : List (KeptSteps schema Fact) → List FieldRuns
  runs_of all = map (λ (k : KeptSteps schema Fact). k.runs) all

  abbrev pub fits_of : List (KeptSteps schema Fact) → List FittingSteps
  fits_of all = map (λ (k : KeptSteps schema Fact). k.fit) all

  -- ---- one field

  field_reaches : (way : Way) (table field own : ℕ) (new : Bool) → (is_some (led_to_by schema (field_at schema table field)) ≡ true → WayKeeps schema Fact way table field) → (all : List (KeptSteps schema Fact)) → list_all (λ (one : FittingSteps). one.fits new table) (fits_of all) ≡ true
      → AllByRecursion (FieldRunsKeep (Reaching way table field own) (λ made. Fact made.state.tables) field) (runs_of all)
  field_reaches way table field own new kept [] fit = tt
  field_reaches way table field own new kept (one ∷ rest) fit =
      let parts = and_parts (one.fit.fits new table) (list_all (λ (other : FittingSteps). other.fits new table) (fits_of rest)) fit in
      (λ same. one.keeps.reaching way table field own new same (kept (one.keeps.led new table field same parts.0)) parts.0, field_reaches way table field own new kept rest parts.1)

  field_held_old : (table field own : ℕ) (relation : RelId) → field_at schema table field ≡ Some (Holder relation) → (all : List (KeptSteps schema Fact)) → list_all (λ (one : FittingSteps). one.fits false table) (fits_of all) ≡ true
      → AllByRecursion (FieldRunsKeep (Holding table field relation.0 (Some own)) (Ready schema Fact table) field) (runs_of all)
  field_held_old table field own relation at [] fit = tt
  field_held_old table field own relation at (one ∷ rest) fit =
      let parts = and_parts (one.fit.fits false table) (list_all (λ (other : FittingSteps). other.fits false table) (fits_of rest)) fit in
      (λ same. one.keeps.holding_old table field own relation same at parts.0, field_held_old table field own relation at rest parts.1)

  field_held_new : (table field : ℕ) (relation : RelId) → field_at schema table field ≡ Some (Holder relation) → (all : List (KeptSteps schema Fact)) → list_all (λ (one : FittingSteps). one.fits true table) (fits_of all) ≡ true
      → AllByRecursion (FieldRunsKeep (Holding table field relation.0 None) (Ready schema Fact table) field) (runs_of all)
  field_held_new table field relation at [] fit = tt
  field_held_new table field relation at (one ∷ rest) fit =
      let parts = and_parts (one.fit.fits true table) (list_all (λ (other : FittingSteps). other.fits true table) (fits_of rest)) fit in
      (λ same made ready. ok_weaker (run_kinds (Holding table field relation.0 None) kinds one.runs.steps made) (HeldSteps schema Fact table relation.0 one.fit.gives made) (Ready schema Fact table) (one.keeps.holding_new table field relation same at parts.0 made ready) (λ after held. held.ready), field_held_new table field relation at rest parts.1)

  -- the rows that are attached stay
  abbrev ReadyWith : ℕ → ℕ → Made → Type 0
  ReadyWith table number made = Ready schema Fact table made × (has number made.attached ≡ true)

  field_held_with : (table field number : ℕ) (relation : RelId) → field_at schema table field ≡ Some (Holder relation) → (all : List (KeptSteps schema Fact)) → list_all (λ (one : FittingSteps). one.fits true table) (fits_of all) ≡ true
      → AllByRecursion (FieldRunsKeep (Holding table field relation.0 None) (ReadyWith table number) field) (runs_of all)
  field_held_with table field number relation at [] fit = tt
  field_held_with table field number relation at (one ∷ rest) fit =
      let parts = and_parts (one.fit.fits true table) (list_all (λ (other : FittingSteps). other.fits true table) (fits_of rest)) fit in
      (λ same made is. ok_weaker (run_kinds (Holding table field relation.0 None) kinds one.runs.steps made) (HeldSteps schema Fact table relation.0 one.fit.gives made) (ReadyWith table number) (one.keeps.holding_new table field relation same at parts.0 made is.0) (λ after held. (held.ready, held.grows number is.1)), field_held_with table field number relation at rest parts.1)

  field_attaches : (table field : ℕ) (relation : RelId) → field_at schema table field ≡ Some (Holder relation) → (all : List (KeptSteps schema Fact)) → list_all (λ (one : FittingSteps). one.fits true table) (fits_of all) ≡ true → gives_at field (fits_of all) ≡ true
      → (made : Made) → Ready schema Fact table made → IfOk (run_field (Holding table field relation.0 None) field (runs_of all) made) (ReadyWith table relation.0)
  field_attaches table field relation at [] fit gives made ready = absurd (true≢false (sym gives))
  field_attaches table field relation at (one ∷ rest) fit gives made ready = by_test (one.runs.field == field) refl (field_attaches table field relation at rest parts.1)
    where
      side : Spot
      side = Holding table field relation.0 None

      parts : (one.fit.fits true table ≡ true) × (list_all (λ (other : FittingSteps). other.fits true table) (fits_of rest) ≡ true)
      parts = and_parts (one.fit.fits true table) (list_all (λ (other : FittingSteps). other.fits true table) (fits_of rest)) fit

      by_test : (b : Bool) → (one.runs.field == field) ≡ b → (gives_at field (fits_of rest) ≡ true → (made : Made) → Ready schema Fact table made → IfOk (run_field (Holding table field relation.0 None) field (runs_of rest) made) (ReadyWith table relation.0))
          → IfOk (chosen b (run_kinds (Holding table field relation.0 None) kinds one.runs.steps) made >>= run_field (Holding table field relation.0 None) field (runs_of rest)) (ReadyWith table relation.0)
      by_test true is behind =
          bind_ok (run_kinds (Holding table field relation.0 None) kinds one.runs.steps made) (run_field (Holding table field relation.0 None) field (runs_of rest)) (HeldSteps schema Fact table relation.0 one.fit.gives made) (ReadyWith table relation.0)
          (one.keeps.holding_new table field relation (eqb-true one.runs.field field is) at parts.0 made ready) (λ after held.
          by_either (or_parts ((one.fit.field == field) && one.fit.gives) (gives_at field (fits_of rest)) gives)
          (λ here. run_field_keeps (Holding table field relation.0 None) (ReadyWith table relation.0) field (runs_of rest) (field_held_with table field relation.0 relation at rest parts.1) after (held.ready, held.attached (and_parts (one.fit.field == field) one.fit.gives here).1))
          (λ there. behind there after held.ready))
      by_test false is behind =
          by_either (or_parts ((one.fit.field == field) && one.fit.gives) (gives_at field (fits_of rest)) gives)
          (λ here. absurd (true≢false (sym (and_parts (one.fit.field == field) one.fit.gives here).0 ∙ ap (λ n. n == field) one.keeps.same ∙ is)))
          (λ there. behind there made ready)

  -- ---- all fields that hold references

  run_holders_keeps : (table : ℕ) (own : Option ℕ) (all : List FieldRuns) (P : Made → Type 0) → ((field : ℕ) (relation : RelId) → field_at schema table field ≡ Some (Holder relation) → (made : Made) → P made → IfOk (run_field (Holding table field relation.0 own) field all made) P)
      → (fields : List Field) (number : ℕ) → Suffix schema table fields number → (made : Made) → P made → IfOk (run_holders table own all fields number made) P
  run_holders_keeps table own all P each [] number at made is = is
  run_holders_keeps table own all P each (Scalar column ∷ fields) number at made is = run_holders_keeps table own all P each fields (number + 1) (rest_fields schema table (Scalar column) fields number at) made is
  run_holders_keeps table own all P each (Holder relation ∷ fields) number at made is =
      bind_ok (run_field (Holding table number relation.0 own) number all made) _ P P (each number relation (first_field schema table (Holder relation) fields number at) made is) (run_holders_keeps table own all P each fields (number + 1) (rest_fields schema table (Holder relation) fields number at))
  run_holders_keeps table own all P each (Target relation ∷ fields) number at made is = run_holders_keeps table own all P each fields (number + 1) (rest_fields schema table (Target relation) fields number at) made is
  run_holders_keeps table own all P each (SideA link ∷ fields) number at made is = run_holders_keeps table own all P each fields (number + 1) (rest_fields schema table (SideA link) fields number at) made is
  run_holders_keeps table own all P each (SideB link ∷ fields) number at made is = run_holders_keeps table own all P each fields (number + 1) (rest_fields schema table (SideB link) fields number at) made is

  pub holders_old : (table own : ℕ) (all : List (KeptSteps schema Fact)) → list_all (λ (one : FittingSteps). one.fits false table) (fits_of all) ≡ true → (made : Made) → Ready schema Fact table made → IfOk (run_holders table (Some own) (runs_of all) (fields_of schema table) 0 made) (Ready schema Fact table)
  holders_old table own all fit =
      run_holders_keeps table (Some own) (runs_of all) (Ready schema Fact table) (λ field relation at. run_field_keeps (Holding table field relation.0 (Some own)) (Ready schema Fact table) field (runs_of all) (field_held_old table field own relation at all fit)) (fields_of schema table) 0 (all_fields schema table)

  module _ (table : ℕ) (all : List (KeptSteps schema Fact)) (fit : list_all (λ (one : FittingSteps). one.fits true table) (fits_of all) ≡ true) where
    each_ready : (field : ℕ) (relation : RelId) → field_at schema table field ≡ Some (Holder relation) → (made : Made) → Ready schema Fact table made → IfOk (run_field (Holding table field relation.0 None) field (runs_of all) made) (Ready schema Fact table)
    each_ready field relation at = run_field_keeps (Holding table field relation.0 None) (Ready schema Fact table) field (runs_of all) (field_held_new table field relation at all fit)

    each_with : (number field : ℕ) (relation : RelId) → field_at schema table field ≡ Some (Holder relation) → (made : Made) → ReadyWith table number made → IfOk (run_field (Holding table field relation.0 None) field (runs_of all) made) (ReadyWith table number)
    each_with number field relation at = run_field_keeps (Holding table field relation.0 None) (ReadyWith table number) field (runs_of all) (field_held_with table field number relation at all fit)

    further : (number i : ℕ) → gives_at (number + suc i) (fits_of all) ≡ true → gives_at (number + 1 + i) (fits_of all) ≡ true
    further number i gives = ap (λ n. gives_at n (fits_of all)) (one_further number i) ∙ gives

    run_holders_attaches : (relation : RelId) (fields : List Field) (number i : ℕ) → Suffix schema table fields number → slice_get fields i ≡ Some (Holder relation) → gives_at (number + i) (fits_of all) ≡ true → (made : Made) → Ready schema Fact table made
        → IfOk (run_holders table None (runs_of all) fields number made) (ReadyWith table relation.0)
    unfolding is_holder
    run_holders_attaches relation [] number i at is gives made ready = absurd (true≢false (sym (ap is_some is)))
    run_holders_attaches relation (Scalar column ∷ fields) number zero at is gives made ready = absurd (no_holder (Some (Scalar column)) relation refl is)
    run_holders_attaches relation (Scalar column ∷ fields) number (suc i) at is gives made ready = run_holders_attaches relation fields (number + 1) i (rest_fields schema table (Scalar column) fields number at) is (further number i gives) made ready
    run_holders_attaches relation (Holder own ∷ fields) number zero at is gives made ready =
        let first = first_field schema table (Holder own) fields number at in
        let first_gives : gives_at number (fits_of all) ≡ true = ap (λ n. gives_at n (fits_of all)) (plus_zero number) ∙ gives in
        bind_ok (run_field (Holding table number own.0 None) number (runs_of all) made) (run_holders table None (runs_of all) fields (number + 1)) (ReadyWith table relation.0) (ReadyWith table relation.0)
        (ok_weaker (run_field (Holding table number own.0 None) number (runs_of all) made) (ReadyWith table own.0) (ReadyWith table relation.0) (field_attaches table number own first all fit first_gives made ready) (λ after is_with. (is_with.0, ap (λ n. has n after.attached) (sym (same_number own relation is)) ∙ is_with.1)))
        (run_holders_keeps table None (runs_of all) (ReadyWith table relation.0) (each_with relation.0) fields (number + 1) (rest_fields schema table (Holder own) fields number at))
    run_holders_attaches relation (Holder own ∷ fields) number (suc i) at is gives made ready =
        bind_ok (run_field (Holding table number own.0 None) number (runs_of all) made) (run_holders table None (runs_of all) fields (number + 1)) (Ready schema Fact table) (ReadyWith table relation.0) (each_ready number own (first_field schema table (Holder own) fields number at) made ready)
        (run_holders_attaches relation fields (number + 1) i (rest_fields schema table (Holder own) fields number at) is (further number i gives))
    run_holders_attaches relation (Target own ∷ fields) number zero at is gives made ready = absurd (no_holder (Some (Target own)) relation refl is)
    run_holders_attaches relation (Target own ∷ fields) number (suc i) at is gives made ready = run_holders_attaches relation fields (number + 1) i (rest_fields schema table (Target own) fields number at) is (further number i gives) made ready
    run_holders_attaches relation (SideA link ∷ fields) number zero at is gives made ready = absurd (no_holder (Some (SideA link)) relation refl is)
    run_holders_attaches relation (SideA link ∷ fields) number (suc i) at is gives made ready = run_holders_attaches relation fields (number + 1) i (rest_fields schema table (SideA link) fields number at) is (further number i gives) made ready
    run_holders_attaches relation (SideB link ∷ fields) number zero at is gives made ready = absurd (no_holder (Some (SideB link)) relation refl is)
    run_holders_attaches relation (SideB link ∷ fields) number (suc i) at is gives made ready = run_holders_attaches relation fields (number + 1) i (rest_fields schema table (SideB link) fields number at) is (further number i gives) made ready

    -- each field that holds a reference and has a step has attached a row
    pub record AllAttached (made : Made) : Type 0 where
      pub ready : Ready schema Fact table made
      pub attached : (field : ℕ) (relation : RelId) → field_at schema table field ≡ Some (Holder relation) → gives_at field (fits_of all) ≡ true → has relation.0 made.attached ≡ true

    each_attached : (result : Result Made Rule) → IfOk result (Ready schema Fact table)
        → ((field : ℕ) (relation : RelId) → field_at schema table field ≡ Some (Holder relation) → gives_at field (fits_of all) ≡ true → IfOk result (ReadyWith table relation.0)) → IfOk result AllAttached
    each_attached (Ok made) ready each = record { ready = ready; attached = λ field relation at gives. (each field relation at gives).1 }
    each_attached (Err broken) ready each = tt

    pub holders_new : (made : Made) → Ready schema Fact table made → IfOk (run_holders table None (runs_of all) (fields_of schema table) 0 made) AllAttached
    holders_new made ready =
        each_attached (run_holders table None (runs_of all) (fields_of schema table) 0 made) (run_holders_keeps table None (runs_of all) (Ready schema Fact table) each_ready (fields_of schema table) 0 (all_fields schema table) made ready) (λ field relation at gives.
        run_holders_attaches relation (fields_of schema table) 0 field (all_fields schema table) (sym (all_fields schema table field) ∙ ap (field_at schema table) (from_zero field) ∙ at) (ap (λ n. gives_at n (fits_of all)) (from_zero field) ∙ gives) made ready)
      where
        from_zero : (n : ℕ) → 0 + n ≡ n
        from_zero n = omega arith

  -- ---- all other fields

  module _ (sound : IsSound schema) (keeps : Keeps schema Fact) (table own : ℕ) (new : Bool) (all : List (KeptSteps schema Fact)) (fit : list_all (λ (one : FittingSteps). one.fits new table) (fits_of all) ≡ true) where
    run_others_keeps : (fields : List Field) (number : ℕ) → Suffix schema table fields number → (made : Made) → Fact made.state.tables → IfOk (run_others schema table own (runs_of all) fields number made) (λ after. Fact after.state.tables)
    run_others_keeps [] number at made holds = holds
    run_others_keeps (Scalar column ∷ fields) number at made holds = run_others_keeps fields (number + 1) (rest_fields schema table (Scalar column) fields number at) made holds
    run_others_keeps (Holder relation ∷ fields) number at made holds = run_others_keeps fields (number + 1) (rest_fields schema table (Holder relation) fields number at) made holds
    run_others_keeps (Target relation ∷ fields) number at made holds =
        bind_ok (run_field (Reaching (to_children schema relation.0) table number own) number (runs_of all) made) _ (λ after. Fact after.state.tables) (λ after. Fact after.state.tables)
        (run_field_keeps (Reaching (to_children schema relation.0) table number own) (λ after. Fact after.state.tables) number (runs_of all)
        (field_reaches (to_children schema relation.0) table number own new (children_way schema Fact sound keeps relation table number (first_field schema table (Target relation) fields number at)) all fit) made holds)
        (run_others_keeps fields (number + 1) (rest_fields schema table (Target relation) fields number at))
    run_others_keeps (SideA link ∷ fields) number at made holds =
        bind_ok (run_field (Reaching (to_linked schema link.0 true) table number own) number (runs_of all) made) _ (λ after. Fact after.state.tables) (λ after. Fact after.state.tables)
        (run_field_keeps (Reaching (to_linked schema link.0 true) table number own) (λ after. Fact after.state.tables) number (runs_of all)
        (field_reaches (to_linked schema link.0 true) table number own new (linked_way_a schema Fact sound keeps link table number (first_field schema table (SideA link) fields number at)) all fit) made holds)
        (run_others_keeps fields (number + 1) (rest_fields schema table (SideA link) fields number at))
    run_others_keeps (SideB link ∷ fields) number at made holds =
        bind_ok (run_field (Reaching (to_linked schema link.0 false) table number own) number (runs_of all) made) _ (λ after. Fact after.state.tables) (λ after. Fact after.state.tables)
        (run_field_keeps (Reaching (to_linked schema link.0 false) table number own) (λ after. Fact after.state.tables) number (runs_of all)
        (field_reaches (to_linked schema link.0 false) table number own new (linked_way_b schema Fact sound keeps link table number (first_field schema table (SideB link) fields number at)) all fit) made holds)
        (run_others_keeps fields (number + 1) (rest_fields schema table (SideB link) fields number at))

    pub others_keep : (made : Made) → Fact made.state.tables → IfOk (run_others schema table own (runs_of all) (fields_of schema table) 0 made) (λ after. Fact after.state.tables)
    others_keep = run_others_keeps (fields_of schema table) 0 (all_fields schema table)
