-- What each change keeps, each step of a tree keeps.
use Rattle.std.proofs.Common.{◌≡◌, inl, inr, ℕ, ◌+◌, Bool, true, false, not, ◌&&◌, ◌==◌, List, [], ◌∷◌, map, filter, length, Option, Some, None, unwrap_or, is_some, IfSome, IfOk, refl, sym, ap, subst}
use Rattle.std.specs.Prelude.{if◌then◌else◌}
use Rattle.std.specs.List.{list_all, list_any, AllByRecursion}
use Rattle.std.proofs.lemmas.Bool.{and_parts}
use Rattle.qe_text.specs.Lists.{In}
use Rattle.qe_base.specs.declared.query.Filter.{Filter}
use Rattle.qe_base.specs.declared.query.Unique.{Unique}
use Rattle.qe_base.specs.declared.value.RelId.{RelId}
use Rattle.qe_base.specs.declared.value.Row.{Row}
use Rattle.qe_base.specs.declared.value.Value.{Value}
use Rattle.qe_base.specs.declared.schema.Field.TheVariants.{Holder}
use Rattle.qe_base.specs.declared.write.Step.TheOpen as step
use Rattle.qe_base.specs.declared.write.Step.TheOpen.{Step-F}
use Rattle.qe_base.specs.declared.write.Step.TheFolds.{map-Step}
use Rattle.qe_base.specs.Schemas.{Schema}
use Rattle.qe_schema.proofs.Members.{from_map, from_filter}
use Rattle.qe_schema.specs.Tables.{Tables, field_at}
use Rattle.qe_reading.specs.Related.{led_to_by, other_table, related, one_related, first_row}
use Rattle.qe_writing.specs.WriteState.{WriteState, follow, follow_all, or_absent, present}
use Rattle.qe_writing.specs.Doomed.{Place, place_of}
use Rattle.qe_writing.specs.Finding.{found, all_found, passing}
use Rattle.qe_writing.specs.Ways.{Way, relation_at, each_row, is_row}
use Rattle.qe_writing.specs.Write.{Attached, Made, Holding, Reaching, Creates, Updates, Run, FieldRuns, StepParts, parent_table, update_row, related_at, only_such, find_related, detach_if, attach_from, attach_row, set_rows, make_row, make_rows, attach_or_make_row, update_or_make_row, update_rows, on_related, kinds, run_step, run_kinds}
use Rattle.qe_writing.specs.WriteFits as fitting
use Rattle.qe_writing.specs.WriteFits.{FittingCreate, FittingUpdate, FittingStep, FittingSteps, FittingParts, handed_columns, is_needed, is_link_side, where_fits}
use Rattle.qe_write_laws.specs.Keeps.{Keeps, AreInTables, StillHolds}
use Rattle.qe_schema.specs.Sound.{IsSound}
use Rattle.qe_write_laws.proofs.Results.{bind_ok, any_ok, if_ok}
use Rattle.qe_write_laws.proofs.Lists.{in_find}
use Rattle.qe_write_laws.proofs.Ways.{GivenFit, Holds, then_keeps, WayKeeps, each_row_keeps, fits_there, or_absent_ok, present_there}

-- ---- rows that are found

first_there : (rows : List Row) (P : Row → Type 0) → ((row : Row) → In row rows → P row) → IfSome (first_row rows) P
unfolding In
first_there [] P each = tt
first_there (row ∷ rows) P each = each row (inl refl)

pub found_there : (schema : Schema) (table : ℕ) (at : Unique) (state : WriteState) → IfSome (found schema table at state) (λ row. In row (state.tables.rows table))
found_there schema table at state = in_find _ (state.tables.rows table)

only_such_there : (P : Row → Type 0) (test : Row → Bool) (row : Option Row) → IfSome row P → IfSome (only_such test row) P
only_such_there P test None is = tt
only_such_there P test (Some row) is = by_test (test row)
  where
    by_test : (b : Bool) → IfSome (if b then Some row else None) P
    by_test true = is
    by_test false = tt

pub one_there : (tables : Tables) (table : ℕ) (row : Row) → In row (tables.rows table) → AreInTables tables (place_of table row ∷ [])
unfolding In
one_there tables table row there place (inl same) = subst (λ (p : Place). In p.row (tables.rows p.table)) (sym same) there
one_there tables table row there place (inr none) = absurd none

pub all_there : (tables : Tables) (table : ℕ) (rows : List Row) → ((row : Row) → In row rows → In row (tables.rows table)) → AreInTables tables (map (place_of table) rows)
all_there tables table rows each place is_in = let from = from_map (place_of table) rows place is_in in subst (λ (p : Place). In p.row (tables.rows p.table)) (sym from.gives) (each from.item from.member)

abbrev pub has : ℕ → List Attached → Bool
has number attached = list_any (λ one. one.relation == number) attached

module _ (schema : Schema) (Fact : Tables → Type 0) where
  -- ---- what parts of a tree keep, where they fit

  abbrev pub CreatesKeep : Creates → FittingCreate → Type 0
  CreatesKeep make fit = (table : ℕ) (columns : List ℕ) → fit.fits table columns ≡ true → (given : List (ℕ × Value)) → GivenFit schema table columns given → (state : WriteState) → Holds schema Fact state → StillHolds Fact (make table given state)

  abbrev pub UpdatesKeep : Updates → FittingUpdate → Type 0
  UpdatesKeep make fit = (table own : ℕ) → fit.fits table ≡ true → (state : WriteState) → Holds schema Fact state → StillHolds Fact (make table own state)

  -- the fact holds, and what is attached are references of the table
  pub record Ready (table : ℕ) (made : Made) : Type 0 where
    pub holds : Fact made.state.tables
    pub own : AllByRecursion (λ (one : Attached). (relation_at schema one.relation).child.0 ≡ table) made.attached

  abbrev pub Grows : Made → Made → Type 0
  Grows before after = (number : ℕ) → has number before.attached ≡ true → has number after.attached ≡ true

  -- and a row was attached by the relation
  pub record Attaches (table number : ℕ) (before after : Made) : Type 0 where
    pub ready : Ready table after
    pub grows : Grows before after
    pub attached : has number after.attached ≡ true

  pub record StepKeeps (run : Run) (fit : FittingStep) : Type 0 where
    pub kinded : list_any (λ kind. run.kind == kind) kinds ≡ true
    pub reaching : (way : Way) (table field own : ℕ) (new : Bool) → WayKeeps schema Fact way table field → fit.fits new table field way.other ≡ true → (made : Made) → Holds schema Fact made.state → IfOk (run.run (Reaching way table field own) made) (λ after. Fact after.state.tables)
    pub holding_new : (table field : ℕ) (relation : RelId) → field_at schema table field ≡ Some (Holder relation) → fit.fits true table field (parent_table schema relation.0) ≡ true → (made : Made) → Ready table made
        → IfOk (run.run (Holding table field relation.0 None) made) (Attaches table relation.0 made)
    pub holding_old : (table field own : ℕ) (relation : RelId) → field_at schema table field ≡ Some (Holder relation) → fit.fits false table field (parent_table schema relation.0) ≡ true → (made : Made) → Ready table made
        → IfOk (run.run (Holding table field relation.0 (Some own)) made) (Ready table)

  pub record HeldSteps (table number : ℕ) (gives : Bool) (before after : Made) : Type 0 where
    pub ready : Ready table after
    pub grows : Grows before after
    pub attached : gives ≡ true → has number after.attached ≡ true

  pub record FieldKeeps (runs : FieldRuns) (fit : FittingSteps) : Type 0 where
    pub same : fit.field ≡ runs.field
    pub led : (new : Bool) (table field : ℕ) → runs.field ≡ field → fit.fits new table ≡ true → is_some (led_to_by schema (field_at schema table field)) ≡ true
    pub reaching : (way : Way) (table field own : ℕ) (new : Bool) → runs.field ≡ field → WayKeeps schema Fact way table field → fit.fits new table ≡ true → (made : Made) → Holds schema Fact made.state
        → IfOk (run_kinds (Reaching way table field own) kinds runs.steps made) (λ after. Fact after.state.tables)
    pub holding_new : (table field : ℕ) (relation : RelId) → runs.field ≡ field → field_at schema table field ≡ Some (Holder relation) → fit.fits true table ≡ true → (made : Made) → Ready table made
        → IfOk (run_kinds (Holding table field relation.0 None) kinds runs.steps made) (HeldSteps table relation.0 fit.gives made)
    pub holding_old : (table field own : ℕ) (relation : RelId) → runs.field ≡ field → field_at schema table field ≡ Some (Holder relation) → fit.fits false table ≡ true → (made : Made) → Ready table made
        → IfOk (run_kinds (Holding table field relation.0 (Some own)) kinds runs.steps made) (Ready table)

  -- parts of a tree, with what they mean, whether they fit and what they keep
  pub record KeptCreate : Type 0 where
    pub make : Creates
    pub fit : FittingCreate
    pub keeps : CreatesKeep make fit

  pub record KeptUpdate : Type 0 where
    pub make : Updates
    pub fit : FittingUpdate
    pub keeps : UpdatesKeep make fit

  pub record KeptStep : Type 0 where
    pub run : Run
    pub fit : FittingStep
    pub keeps : StepKeeps run fit

  pub record KeptSteps : Type 0 where
    pub runs : FieldRuns
    pub fit : FittingSteps
    pub keeps : FieldKeeps runs fit

  abbrev pub KeptParts : Type 0
  KeptParts = Step-F KeptStep KeptCreate KeptSteps KeptUpdate

  abbrev pub runs_in : KeptParts → StepParts
  runs_in = map-Step KeptStep KeptCreate KeptSteps KeptUpdate Run Creates FieldRuns Updates (λ k. k.run) (λ k. k.make) (λ k. k.runs) (λ k. k.make)

  abbrev pub fits_in : KeptParts → FittingParts
  fits_in = map-Step KeptStep KeptCreate KeptSteps KeptUpdate FittingStep FittingCreate FittingSteps FittingUpdate (λ k. k.fit) (λ k. k.fit) (λ k. k.fit) (λ k. k.fit)

  pub update_row_keeps : (table : ℕ) (update : KeptUpdate) → update.fit.fits table ≡ true → (row : Row) (state : WriteState) → Holds schema Fact state → StillHolds Fact (update_row schema table update.make row state)
  update_row_keeps table update fits row state holds = then_keeps schema Fact (update.make table (length state.followed) (follow schema table row state)) _ (update.keeps table (length state.followed) fits (follow schema table row state) holds) (λ after holds. holds)

  pub update_rows_keeps : (table : ℕ) (update : KeptUpdate) → update.fit.fits table ≡ true → (rows : List Row) (state : WriteState) → Holds schema Fact state → StillHolds Fact (update_rows schema table update.make rows state)
  update_rows_keeps table update fits = each_row_keeps schema Fact table (λ row state. update_row schema table update.make row state) (λ row state holds there. update_row_keeps table update fits row state holds)

  module _ (sound : IsSound schema) (keeps : Keeps schema Fact) where
    -- ---- steps on the other fields

    module _ (way : Way) (table field : ℕ) (kept : WayKeeps schema Fact way table field) where
      other_is : other_table schema table field ≡ way.other
      other_is = ap (λ o. unwrap_or o 0) kept.leads

      related_there : (state : WriteState) (parent row : Row) → In row (related schema state.tables table field parent) → In row (state.tables.rows way.other)
      related_there state parent row is_in = subst (λ t. In row (state.tables.rows t)) other_is (from_filter _ (state.tables.rows (other_table schema table field)) row is_in).0

      one_related_there : (state : WriteState) (parent : Row) → IfSome (one_related schema state.tables table field parent) (λ row. In row (state.tables.rows way.other))
      one_related_there state parent = first_there (related schema state.tables table field parent) (λ row. In row (state.tables.rows way.other)) (related_there state parent)

      passing_there : (asked : Filter) (state : WriteState) (parent row : Row) → In row (passing schema way.other asked (related schema state.tables table field parent) state) → In row (state.tables.rows way.other)
      passing_there asked state parent row is_in = related_there state parent row (from_filter _ (related schema state.tables table field parent) row is_in).0

      related_at_there : (own : Row) (at : Option Unique) (state : WriteState) → IfOk (related_at schema way table field own at state) (λ row. In row (state.tables.rows way.other))
      related_at_there own None state = or_absent_ok (λ row. In row (state.tables.rows way.other)) way.other (one_related schema state.tables table field own) (one_related_there state own)
      related_at_there own (Some at) state =
          bind_ok (or_absent way.other (found schema way.other at state)) _ (λ row. In row (state.tables.rows way.other)) (λ row. In row (state.tables.rows way.other))
          (or_absent_ok (λ row. In row (state.tables.rows way.other)) way.other (found schema way.other at state) (found_there schema way.other at state))
          (λ row there. if_ok (list_any (is_row schema way.other row) (related schema state.tables table field own)) row _ (λ found. In found (state.tables.rows way.other)) (λ is. there))

      find_related_there : (own : Row) (at : Option Unique) (state : WriteState) → IfSome (find_related schema way table field own at state) (λ row. In row (state.tables.rows way.other))
      find_related_there own None state = one_related_there state own
      find_related_there own (Some at) state =
          only_such_there (λ row. In row (state.tables.rows way.other)) (λ row. list_any (is_row schema way.other row) (related schema state.tables table field own)) (found schema way.other at state) (found_there schema way.other at state)

      detach_if_keeps : (own : ℕ) (row : Option Row) (state : WriteState) → Holds schema Fact state → IfSome row (λ row. In row (state.tables.rows way.other)) → StillHolds Fact (detach_if schema way own row state)
      detach_if_keeps own None state holds there = holds
      detach_if_keeps own (Some row) state holds there = kept.detach own row state holds there

      attach_from_keeps : (own : ℕ) (rows : List Row) (place : ℕ) (state : WriteState) → Holds schema Fact state → StillHolds Fact (attach_from way own rows place state)
      attach_from_keeps own [] place state holds = holds
      attach_from_keeps own (row ∷ rows) place state holds = then_keeps schema Fact (way.attach own place state) _ (kept.attach own place state holds) (attach_from_keeps own rows (place + 1))

      attach_row_keeps : (own : ℕ) (row : Row) (state : WriteState) → Holds schema Fact state → StillHolds Fact (attach_row schema way own row state)
      attach_row_keeps own row state holds = then_keeps schema Fact (way.attach own (length state.followed) (follow schema way.other row state)) _ (kept.attach own (length state.followed) (follow schema way.other row state) holds) (λ after holds. holds)

      set_rows_keeps : (own : ℕ) (parent : Row) (rows : List Row) (state : WriteState) → Holds schema Fact state → StillHolds Fact (set_rows schema way table field own parent rows state)
      set_rows_keeps own parent rows state holds =
          let let_go : List Row = filter (λ row. not (list_any (is_row schema way.other row) rows)) (related schema state.tables table field parent) in
          then_keeps schema Fact (each_row schema way.other (way.detach own) let_go (follow_all schema way.other rows state)) _ (each_row_keeps schema Fact way.other (way.detach own) (kept.detach own) let_go (follow_all schema way.other rows state) holds) (λ after holds.
          then_keeps schema Fact (attach_from way own rows (length state.followed) after) _ (attach_from_keeps own rows (length state.followed) after holds) (λ last holds. holds))

      make_row_keeps : (own : ℕ) (create : KeptCreate) → create.fit.fits way.other (handed_columns schema (field_at schema table field)) ≡ true → (state : WriteState) → Holds schema Fact state → StillHolds Fact (make_row schema table way own create.make state)
      make_row_keeps own create fits state holds =
          then_keeps schema Fact (way.make_room (λ row. false) own state) _ (kept.make_room (λ row. false) own state holds) (λ roomy holds.
          bind_ok (present schema table own roomy) _ (λ parent. In parent (roomy.tables.rows table)) (Holds schema Fact) (present_there schema table own roomy) (λ parent there.
          then_keeps schema Fact (create.make way.other (way.given parent) roomy) _
          (create.keeps way.other (handed_columns schema (field_at schema table field)) fits (way.given parent) (kept.given parent (fits_there schema Fact sound keeps table roomy parent holds there)) roomy holds) (λ made holds.
          then_keeps schema Fact (way.settle own (length state.followed) made) _ (kept.settle own (length state.followed) made holds) (λ last holds. holds))))

      make_rows_keeps : (own : ℕ) (creates : List KeptCreate) → list_all (λ (create : FittingCreate). create.flat && create.fits way.other (handed_columns schema (field_at schema table field))) (map (λ (k : KeptCreate). k.fit) creates) ≡ true → (state : WriteState) → Holds schema Fact state
          → StillHolds Fact (make_rows schema table way own (map (λ (k : KeptCreate). k.make) creates) state)
      make_rows_keeps own [] fits state holds = holds
      make_rows_keeps own (create ∷ creates) fits state holds =
          let parts = and_parts (create.fit.flat && create.fit.fits way.other (handed_columns schema (field_at schema table field))) (list_all (λ (one : FittingCreate). one.flat && one.fits way.other (handed_columns schema (field_at schema table field))) (map (λ (k : KeptCreate). k.fit) creates)) fits in
          then_keeps schema Fact (make_row schema table way own create.make state) _ (make_row_keeps own create (and_parts create.fit.flat (create.fit.fits way.other (handed_columns schema (field_at schema table field))) parts.0).1 state holds) (make_rows_keeps own creates parts.1)

      attach_or_make_row_keeps : (own : ℕ) (create : KeptCreate) → create.fit.fits way.other (handed_columns schema (field_at schema table field)) ≡ true → (row : Option Row) (state : WriteState) → Holds schema Fact state → StillHolds Fact (attach_or_make_row schema table way own create.make row state)
      attach_or_make_row_keeps own create fits None state holds = make_row_keeps own create fits state holds
      attach_or_make_row_keeps own create fits (Some row) state holds = attach_row_keeps own row state holds

      update_or_make_row_keeps : (own : ℕ) (create : KeptCreate) (update : KeptUpdate) → create.fit.fits way.other (handed_columns schema (field_at schema table field)) ≡ true → update.fit.fits way.other ≡ true → (row : Option Row) (state : WriteState) → Holds schema Fact state
          → StillHolds Fact (update_or_make_row schema table way own create.make update.make row state)
      update_or_make_row_keeps own create update fits also None state holds = make_row_keeps own create fits state holds
      update_or_make_row_keeps own create update fits also (Some row) state holds = update_row_keeps way.other update also row state holds

      on_related_keeps : (parts : KeptParts) (new : Bool) (own : ℕ) (parent : Row) → fitting.step_fits schema (fits_in parts) new table field way.other ≡ true → (state : WriteState) → Holds schema Fact state → StillHolds Fact (on_related schema way table field own parent (runs_in parts) state)
      on_related_keeps (step.Set uniques) new own parent fits state holds = any_ok (all_found schema way.other uniques state) _ (Holds schema Fact) (λ rows. set_rows_keeps own parent rows state holds)
      on_related_keeps (step.Disconnect at) new own parent fits state holds = detach_if_keeps own (find_related schema way table field parent at state) state holds (find_related_there parent at state)
      on_related_keeps (step.Delete at) new own parent fits state holds =
          bind_ok (related_at schema way table field parent at state) _ (λ row. In row (state.tables.rows way.other)) (Holds schema Fact) (related_at_there parent at state) (λ row there. keeps.delete (place_of way.other row ∷ []) state (one_there state.tables way.other row there) holds)
      on_related_keeps (step.DeleteMany asked) new own parent fits state holds =
          keeps.delete (map (place_of way.other) (passing schema way.other asked (related schema state.tables table field parent) state)) state (all_there state.tables way.other (passing schema way.other asked (related schema state.tables table field parent) state) (passing_there asked state parent)) holds
      on_related_keeps (step.Update at update) new own parent fits state holds = any_ok (related_at schema way table field parent at state) _ (Holds schema Fact) (λ row. update_row_keeps way.other update (and_parts _ (update.fit.fits way.other) fits).1 row state holds)
      on_related_keeps (step.UpdateMany asked update) new own parent fits state holds = update_rows_keeps way.other update (and_parts _ (update.fit.fits way.other) fits).1 (passing schema way.other asked (related schema state.tables table field parent) state) state holds
      on_related_keeps (step.Upsert at create update) new own parent fits state holds =
          let outer = and_parts _ (update.fit.fits way.other) fits in
          update_or_make_row_keeps own create update (and_parts _ (create.fit.fits way.other (handed_columns schema (field_at schema table field))) outer.0).1 outer.1 (find_related schema way table field parent at state) state holds
      on_related_keeps (step.Connect at) new own parent fits state holds = any_ok (or_absent way.other (found schema way.other at state)) _ (Holds schema Fact) (λ row. attach_row_keeps own row state holds)
      on_related_keeps (step.ConnectOrCreate at create) new own parent fits state holds =
          attach_or_make_row_keeps own create (and_parts _ (create.fit.fits way.other (handed_columns schema (field_at schema table field))) fits).1 (found schema way.other at state) state holds
      on_related_keeps (step.Create create) new own parent fits state holds = make_row_keeps own create fits state holds
      on_related_keeps (step.CreateMany creates) new own parent fits state holds = make_rows_keeps own creates (and_parts _ (list_all (λ (create : FittingCreate). create.flat && create.fits way.other (handed_columns schema (field_at schema table field))) (map (λ (k : KeptCreate). k.fit) creates)) fits).1 state holds

      pub reaching_keeps : (parts : KeptParts) (own : ℕ) (new : Bool) → fitting.step_fits schema (fits_in parts) new table field way.other ≡ true → (made : Made) → Holds schema Fact made.state
          → IfOk (run_step schema (runs_in parts) (Reaching way table field own) made) (λ after. Fact after.state.tables)
      reaching_keeps parts own new fits made holds =
          any_ok (present schema table own made.state) _ (λ (after : Made). Fact after.state.tables) (λ row.
          bind_ok (on_related schema way table field own row (runs_in parts) made.state) _ (Holds schema Fact) (λ (after : Made). Fact after.state.tables) (on_related_keeps parts new own row fits made.state holds) (λ after holds. holds))
