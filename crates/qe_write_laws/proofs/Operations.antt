-- What each change keeps, operations and batches keep that fit.
use Rattle.std.proofs.Common.{◌≡◌, ℕ, ◌+◌, true, ◌&&◌, List, [], ◌∷◌, map, Option, Some, None, Result, Ok, Err, IfOk, refl}
use Rattle.std.specs.List.{list_all}
use Rattle.std.proofs.lemmas.Bool.{and_parts}
use Rattle.qe_text.specs.Lists.{In}
use Rattle.qe_base.specs.declared.query.Filter.{Filter}
use Rattle.qe_base.specs.declared.query.Pick.{Pick}
use Rattle.qe_base.specs.declared.query.Unique.{Unique}
use Rattle.qe_base.specs.declared.value.Row.{Row}
use Rattle.qe_base.specs.declared.write.Create.{Create}
use Rattle.qe_base.specs.declared.write.Update.{Update}
use Rattle.qe_base.specs.declared.write.Op.{Op}
use Rattle.qe_base.specs.declared.write.Op.TheVariants as op
use Rattle.qe_base.specs.declared.answer.Answer.{Answer}
use Rattle.qe_base.specs.declared.answer.Outside.{Outside}
use Rattle.qe_base.specs.declared.answer.Rule.{Rule}
use Rattle.qe_base.specs.Schemas.{Schema}
use Rattle.qe_schema.proofs.Members.{from_filter}
use Rattle.qe_schema.specs.Columns.{Values}
use Rattle.qe_schema.specs.Tables.{Tables, table_at, id_of}
use Rattle.qe_reading.specs.Read.{found_at}
use Rattle.qe_reading.specs.Shape.{shape_of}
use Rattle.qe_writing.specs.WriteState.{WriteState, ◌>>=◌, or_absent}
use Rattle.qe_writing.specs.Doomed.{place_of}
use Rattle.qe_writing.specs.Delete.{delete_of}
use Rattle.qe_writing.specs.Finding.{passing}
use Rattle.qe_writing.specs.Write.{Written, written_id, first_id, written, state_of, create_of, update_of, update_rows, write_new, write_old}
use Rattle.qe_writing.specs.Plain.{Changed, shown, create_one, update_one, update_or_create, delete_one, Created, create_from, created_answer, create_many, update_many, delete_many, Done, done, plain}
use Rattle.qe_writing.specs.Batch.{AllAnswered, Refusal, outside_of, with_answer, or_refusal, all_from, all_done}
use Rattle.qe_writing.specs.WriteFits.{create_fits, update_fits, write_fits, op_fits}
use Rattle.qe_write_laws.specs.Keeps.{Keeps}
use Rattle.qe_schema.specs.Sound.{IsSound}
use Rattle.qe_write_laws.specs.WriteLaws as law
use Rattle.qe_write_laws.proofs.Results.{bind_ok, any_ok}
use Rattle.qe_write_laws.proofs.Lists.{in_find}
use Rattle.qe_write_laws.proofs.Ways.{or_absent_ok, nothing_given}
use Rattle.qe_write_laws.proofs.Steps.{one_there, all_there, update_rows_keeps}
use Rattle.qe_write_laws.proofs.Whole.{create_all, update_all}

module _ (schema : Schema) (Fact : Tables → Type 0) (sound : IsSound schema) (keeps : Keeps schema Fact) where
  abbrev After : Result Changed Rule → Type 0
  After result = IfOk result (λ after. Fact after.tables)

  -- ---- one write

  written_id_keeps : (table : ℕ) (state : WriteState) (id : Option Values) → Fact state.tables → IfOk (written_id table state id) (λ done. Fact done.tables)
  written_id_keeps table state None fact = tt
  written_id_keeps table state (Some id) fact = fact

  pub new_keeps : law.CreatesKeep schema Fact
  new_keeps outside table create drawn tables fits fact =
      bind_ok (create_of schema outside create table [] (state_of tables drawn)) (written table) (λ state. Fact state.tables) (λ done. Fact done.tables)
      (create_all schema Fact sound keeps outside create table [] fits [] (nothing_given schema table [] refl) (state_of tables drawn) fact) (λ state fact. written_id_keeps table state (first_id state.followed) fact)

  pub old_keeps : law.UpdatesKeep schema Fact
  old_keeps outside table id update drawn tables fits fact =
      let state : WriteState = record { tables = tables; followed = record { table = table; id = Some id } ∷ []; drawn = drawn } in
      bind_ok (update_of schema outside update table 0 state) (written table) (λ after. Fact after.tables) (λ done. Fact done.tables) (update_all schema Fact sound keeps outside update table 0 fits state fact) (λ after fact. written_id_keeps table after (first_id after.followed) fact)

  create_one_keeps : (outside : Outside) (table : ℕ) (tree : Create) (pick : Pick) (tables : Tables) → (create_fits schema tree).fits table [] ≡ true → Fact tables → After (create_one schema outside table tree pick tables)
  create_one_keeps outside table tree pick tables fits fact =
      bind_ok (write_new schema outside table tree 0 tables) _ (λ (done : Written). Fact done.tables) (λ (after : Changed). Fact after.tables) (new_keeps outside table tree 0 tables fits fact) (λ done fact. any_ok (shown schema table pick done.id done.tables) _ (λ (after : Changed). Fact after.tables) (λ answer. fact))

  update_one_keeps : (outside : Outside) (table : ℕ) (tree : Update) (pick : Pick) (row : Row) (tables : Tables) → (update_fits schema tree).fits table ≡ true → Fact tables → After (update_one schema outside table tree pick row tables)
  update_one_keeps outside table tree pick row tables fits fact =
      bind_ok (write_old schema outside table (id_of (table_at schema table) row) tree 0 tables) _ (λ (done : Written). Fact done.tables) (λ (after : Changed). Fact after.tables) (old_keeps outside table (id_of (table_at schema table) row) tree 0 tables fits fact)
      (λ done fact. any_ok (shown schema table pick done.id done.tables) _ (λ (after : Changed). Fact after.tables) (λ answer. fact))

  update_or_create_keeps : (outside : Outside) (table : ℕ) (create : Create) (update : Update) (pick : Pick) (row : Option Row) (tables : Tables) → (create_fits schema create).fits table [] ≡ true → (update_fits schema update).fits table ≡ true → Fact tables
      → After (update_or_create schema outside table create update pick row tables)
  update_or_create_keeps outside table create update pick None tables fits also fact = create_one_keeps outside table create pick tables fits fact
  update_or_create_keeps outside table create update pick (Some row) tables fits also fact = update_one_keeps outside table update pick row tables also fact

  found_there : (table : ℕ) (at : Unique) (tables : Tables) → IfOk (or_absent table (found_at schema tables table at)) (λ row. In row (tables.rows table))
  found_there table at tables = or_absent_ok (λ row. In row (tables.rows table)) table (found_at schema tables table at) (in_find _ (tables.rows table))

  delete_one_keeps : (table : ℕ) (pick : Pick) (row : Row) (tables : Tables) → In row (tables.rows table) → Fact tables → After (delete_one schema table pick row tables)
  delete_one_keeps table pick row tables there fact =
      any_ok (shape_of schema tables pick table row) _ (λ (after : Changed). Fact after.tables) (λ answer.
      bind_ok (delete_of schema (place_of table row ∷ []) (state_of tables 0)) _ (λ (state : WriteState). Fact state.tables) (λ (after : Changed). Fact after.tables) (keeps.delete (place_of table row ∷ []) (state_of tables 0) (one_there tables table row there) fact) (λ state fact. fact))

  -- ---- many writes

  create_from_keeps : (outside : Outside) (table : ℕ) (trees : List Create) (drawn : ℕ) (tables : Tables) → list_all (λ tree. (create_fits schema tree).flat && (create_fits schema tree).fits table []) trees ≡ true → Fact tables
      → IfOk (create_from schema outside table trees drawn tables) (λ done. Fact done.tables)
  create_from_keeps outside table [] drawn tables fits fact = fact
  create_from_keeps outside table (tree ∷ trees) drawn tables fits fact =
      let parts = and_parts ((create_fits schema tree).flat && (create_fits schema tree).fits table []) (list_all (λ other. (create_fits schema other).flat && (create_fits schema other).fits table []) trees) fits in
      bind_ok (write_new schema outside table tree drawn tables) _ (λ (done : Written). Fact done.tables) (λ (made : Created). Fact made.tables) (new_keeps outside table tree drawn tables (and_parts (create_fits schema tree).flat ((create_fits schema tree).fits table []) parts.0).1 fact) (λ one fact.
      bind_ok (create_from schema outside table trees one.drawn one.tables) _ (λ (made : Created). Fact made.tables) (λ (made : Created). Fact made.tables) (create_from_keeps outside table trees one.drawn one.tables parts.1 fact) (λ others fact. fact))

  create_many_keeps : (outside : Outside) (table : ℕ) (trees : List Create) (pick : Option Pick) (tables : Tables) → list_all (λ tree. (create_fits schema tree).flat && (create_fits schema tree).fits table []) trees ≡ true → Fact tables → After (create_many schema outside table trees pick tables)
  create_many_keeps outside table trees pick tables fits fact =
      bind_ok (create_from schema outside table trees 0 tables) _ (λ (made : Created). Fact made.tables) (λ (after : Changed). Fact after.tables) (create_from_keeps outside table trees 0 tables fits fact) (λ made fact. any_ok (created_answer schema table pick made) _ (λ (after : Changed). Fact after.tables) (λ answer. fact))

  update_many_keeps : (outside : Outside) (table : ℕ) (asked : Filter) (tree : Update) (tables : Tables) → (update_fits schema tree).fits table ≡ true → Fact tables → After (update_many schema outside table asked tree tables)
  update_many_keeps outside table asked tree tables fits fact =
      let rows : List Row = passing schema table asked (tables.rows table) (state_of tables 0) in
      bind_ok (update_rows schema table (update_of schema outside tree) rows (state_of tables 0)) _ (λ (state : WriteState). Fact state.tables) (λ (after : Changed). Fact after.tables)
      (update_rows_keeps schema Fact table (record { make = update_of schema outside tree; fit = update_fits schema tree; keeps = update_all schema Fact sound keeps outside tree }) fits rows (state_of tables 0) fact) (λ state fact. fact)

  delete_many_keeps : (table : ℕ) (asked : Filter) (tables : Tables) → Fact tables → After (delete_many schema table asked tables)
  delete_many_keeps table asked tables fact =
      let rows : List Row = passing schema table asked (tables.rows table) (state_of tables 0) in
      bind_ok (delete_of schema (map (place_of table) rows) (state_of tables 0)) _ (λ (state : WriteState). Fact state.tables) (λ (after : Changed). Fact after.tables)
      (keeps.delete (map (place_of table) rows) (state_of tables 0) (all_there tables table rows (λ row is_in. (from_filter _ (tables.rows table) row is_in).0)) fact) (λ state fact. fact)

  -- ---- operations

  done_keeps : (tables : Tables) (result : Result Changed Rule) → Fact tables → After result → Fact (done tables result).tables
  done_keeps tables (Ok after) fact kept = kept
  done_keeps tables (Err broken) fact kept = fact

  pub plain_keeps : law.OperationsKeep schema Fact
  plain_keeps (op.FindUnique table at strict pick) outside tables fits fact = fact
  plain_keeps (op.FindFirst table look strict pick) outside tables fits fact = fact
  plain_keeps (op.FindMany table look pick) outside tables fits fact = fact
  plain_keeps (op.Count table look) outside tables fits fact = fact
  plain_keeps (op.Create table tree pick) outside tables fits fact =
      done_keeps tables (create_one schema outside table.0 tree pick tables) fact (create_one_keeps outside table.0 tree pick tables (and_parts ((create_fits schema tree).fits table.0 []) _ (and_parts (write_fits schema (op.Create table tree pick)) _ fits).0).0 fact)
  plain_keeps (op.CreateMany table trees pick) outside tables fits fact =
      done_keeps tables (create_many schema outside table.0 trees pick tables) fact
      (create_many_keeps outside table.0 trees pick tables (and_parts _ (list_all (λ tree. (create_fits schema tree).flat && (create_fits schema tree).fits table.0 []) trees) (and_parts _ _ (and_parts (write_fits schema (op.CreateMany table trees pick)) _ fits).0).0).1 fact)
  plain_keeps (op.Update table at tree pick) outside tables fits fact =
      done_keeps tables (or_absent table.0 (found_at schema tables table.0 at) >>= λ row. update_one schema outside table.0 tree pick row tables) fact
      (any_ok (or_absent table.0 (found_at schema tables table.0 at)) _ (λ (after : Changed). Fact after.tables) (λ row. update_one_keeps outside table.0 tree pick row tables (and_parts _ ((update_fits schema tree).fits table.0) (and_parts _ _ (and_parts (write_fits schema (op.Update table at tree pick)) _ fits).0).0).1 fact))
  plain_keeps (op.UpdateMany table asked tree) outside tables fits fact =
      done_keeps tables (update_many schema outside table.0 asked tree tables) fact (update_many_keeps outside table.0 asked tree tables (and_parts _ ((update_fits schema tree).fits table.0) (and_parts (write_fits schema (op.UpdateMany table asked tree)) _ fits).0).1 fact)
  plain_keeps (op.Upsert table at create update pick) outside tables fits fact =
      let parts = and_parts _ ((update_fits schema update).fits table.0) (and_parts _ _ (and_parts (write_fits schema (op.Upsert table at create update pick)) _ fits).0).0 in
      done_keeps tables (update_or_create schema outside table.0 create update pick (found_at schema tables table.0 at) tables) fact
      (update_or_create_keeps outside table.0 create update pick (found_at schema tables table.0 at) tables (and_parts _ ((create_fits schema create).fits table.0 []) parts.0).1 parts.1 fact)
  plain_keeps (op.Delete table at pick) outside tables fits fact =
      done_keeps tables (or_absent table.0 (found_at schema tables table.0 at) >>= λ row. delete_one schema table.0 pick row tables) fact
      (bind_ok (or_absent table.0 (found_at schema tables table.0 at)) _ (λ row. In row (tables.rows table.0)) (λ (after : Changed). Fact after.tables) (found_there table.0 at tables) (λ row there. delete_one_keeps table.0 pick row tables there fact))
  plain_keeps (op.DeleteMany table asked) outside tables fits fact = done_keeps tables (delete_many schema table.0 asked tables) fact (delete_many_keeps table.0 asked tables fact)

  -- ---- batches

  abbrev AllAfter : Result AllAnswered Refusal → Type 0
  AllAfter result = IfOk result (λ all. Fact all.tables)

  with_answer_keeps : (answer : Answer) (result : Result AllAnswered Refusal) → AllAfter result → AllAfter (with_answer answer result)
  with_answer_keeps answer (Ok rest) kept = kept
  with_answer_keeps answer (Err refusal) kept = tt

  or_refusal_keeps : (number : ℕ) (answer : Result Answer Rule) (next : Answer → Result AllAnswered Refusal) → ((answer : Answer) → AllAfter (next answer)) → AllAfter (or_refusal number answer next)
  or_refusal_keeps number (Ok answer) next kept = kept answer
  or_refusal_keeps number (Err broken) next kept = tt

  all_from_keeps : (ops : List Op) (outside : Outside) (number : ℕ) (tables : Tables) → list_all (op_fits schema) ops ≡ true → Fact tables → AllAfter (all_from schema ops outside number tables)
  all_from_keeps [] outside number tables fits fact = fact
  all_from_keeps (op ∷ ops) outside number tables fits fact =
      let parts = and_parts (op_fits schema op) (list_all (op_fits schema) ops) fits in
      let first : Done = plain schema op (outside_of outside number) tables in
      or_refusal_keeps number first.answer _ (λ answer. with_answer_keeps answer (all_from schema ops outside (number + 1) first.tables) (all_from_keeps ops outside (number + 1) first.tables parts.1 (plain_keeps op (outside_of outside number) tables parts.0 fact)))

  all_done_keeps : (tables : Tables) (result : Result AllAnswered Refusal) → Fact tables → AllAfter result → Fact (all_done tables result).tables
  all_done_keeps tables (Ok all) fact kept = kept
  all_done_keeps tables (Err refusal) fact kept = fact

  pub batch_keeps : law.BatchesKeep schema Fact
  batch_keeps ops outside tables fits fact = all_done_keeps tables (all_from schema ops outside 0 tables) fact (all_from_keeps ops outside 0 tables fits fact)
