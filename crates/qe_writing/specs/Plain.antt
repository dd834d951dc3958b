-- The plain operation: what an operation by itself answers, and what it makes of the tables.
use Rattle.std.specs.Prelude.{ℕ, List, [], ◌∷◌, length, map, codes, Option, Some, None, Result, Ok, Err}
use Rattle.qe_base.specs.declared.query.Filter.{Filter}
use Rattle.qe_base.specs.declared.query.Pick.{Pick}
use Rattle.qe_base.specs.declared.value.Row.{Row}
use Rattle.qe_base.specs.declared.write.Create.{Create}
use Rattle.qe_base.specs.declared.write.Update.{Update}
use Rattle.qe_base.specs.declared.write.Op.{Op}
use Rattle.qe_base.specs.declared.write.Op.TheVariants as op
use Rattle.qe_base.specs.declared.answer.Answer.{Answer}
use Rattle.qe_base.specs.declared.answer.Answer as answer
use Rattle.qe_base.specs.declared.answer.Outside.{Outside}
use Rattle.qe_base.specs.declared.answer.Rule.{Rule}
use Rattle.qe_base.specs.Schemas.{Schema}
use Rattle.qe_schema.specs.Columns.{Values}
use Rattle.qe_schema.specs.Tables.{Tables, table_at, id_of, row_at}
use Rattle.qe_reading.specs.Read.{found_at, find_unique, find_first, find_many, count}
use Rattle.qe_reading.specs.Shape.{shape_of, all_shown}
use Rattle.qe_writing.specs.WriteState.{◌>>=◌, or_absent}
use Rattle.qe_writing.specs.Doomed.{place_of}
use Rattle.qe_writing.specs.Delete.{delete_of}
use Rattle.qe_writing.specs.Finding.{passing}
use Rattle.qe_writing.specs.Write.{state_of, update_of, update_rows, write_new, write_old}

-- an answer, and the tables after it
pub record Changed : Type 0 where
  pub answer : Answer
  pub tables : Tables

abbrev pub changed : Answer → Tables → Changed
changed answer tables = record { answer = answer; tables = tables }

abbrev pub count_answer : ℕ → Answer
count_answer number = answer.Object ((codes "count", answer.Number number) ∷ [])

-- the row of this id as an answer over the tables
abbrev pub shown : Schema → ℕ → Pick → Values → Tables → Result Answer Rule
shown schema table pick id tables = or_absent table (row_at (table_at schema table) id (tables.rows table)) >>= shape_of schema tables pick table

-- ---- one row

abbrev pub create_one : Schema → Outside → ℕ → Create → Pick → Tables → Result Changed Rule
create_one schema outside table tree pick tables = do
  done ← write_new schema outside table tree 0 tables
  answer ← shown schema table pick done.id done.tables
  Ok (changed answer done.tables)

abbrev pub update_one : Schema → Outside → ℕ → Update → Pick → Row → Tables → Result Changed Rule
update_one schema outside table tree pick row tables = do
  done ← write_old schema outside table (id_of (table_at schema table) row) tree 0 tables
  answer ← shown schema table pick done.id done.tables
  Ok (changed answer done.tables)

abbrev pub update_or_create : Schema → Outside → ℕ → Create → Update → Pick → Option Row → Tables → Result Changed Rule
update_or_create schema outside table create update pick None tables = create_one schema outside table create pick tables
update_or_create schema outside table create update pick (Some row) tables = update_one schema outside table update pick row tables

-- the row is answered as it was
abbrev pub delete_one : Schema → ℕ → Pick → Row → Tables → Result Changed Rule
delete_one schema table pick row tables = do
  answer ← shape_of schema tables pick table row
  state ← delete_of schema (place_of table row ∷ []) (state_of tables 0)
  Ok (changed answer state.tables)

-- ---- many rows

-- the ids of new rows, and the tables with them
pub record Created : Type 0 where
  pub ids : List Values
  pub tables : Tables

abbrev pub create_from : Schema → Outside → ℕ → List Create → ℕ → Tables → Result Created Rule
create_from schema outside table [] drawn tables = Ok (record { ids = []; tables = tables })
create_from schema outside table (tree ∷ trees) drawn tables = do
  one ← write_new schema outside table tree drawn tables
  others ← create_from schema outside table trees one.drawn one.tables
  Ok (record { ids = one.id ∷ others.ids; tables = others.tables })

abbrev pub rows_of_ids : Schema → ℕ → List Values → Tables → Result (List Row) Rule
rows_of_ids schema table [] tables = Ok []
rows_of_ids schema table (id ∷ ids) tables = do
  row ← or_absent table (row_at (table_at schema table) id (tables.rows table))
  rows ← rows_of_ids schema table ids tables
  Ok (row ∷ rows)

-- the rows in order after the last of them was made, or how many there are
abbrev pub created_answer : Schema → ℕ → Option Pick → Created → Result Answer Rule
created_answer schema table None done = Ok (count_answer (length done.ids))
created_answer schema table (Some pick) done = rows_of_ids schema table done.ids done.tables >>= all_shown (shape_of schema done.tables pick table)

abbrev pub create_many : Schema → Outside → ℕ → List Create → Option Pick → Tables → Result Changed Rule
create_many schema outside table trees pick tables = do
  done ← create_from schema outside table trees 0 tables
  answer ← created_answer schema table pick done
  Ok (changed answer done.tables)

-- the rows that match at the start, in the order of their ids then
abbrev pub update_many : Schema → Outside → ℕ → Filter → Update → Tables → Result Changed Rule
update_many schema outside table matching tree tables = do
  let rows = passing schema table matching (tables.rows table) (state_of tables 0)
  state ← update_rows schema table (update_of schema outside tree) rows (state_of tables 0)
  Ok (changed (count_answer (length rows)) state.tables)

-- the rows that match, all at once
abbrev pub delete_many : Schema → ℕ → Filter → Tables → Result Changed Rule
delete_many schema table matching tables = do
  let rows = passing schema table matching (tables.rows table) (state_of tables 0)
  state ← delete_of schema (map (place_of table) rows) (state_of tables 0)
  Ok (changed (count_answer (length rows)) state.tables)

-- ---- the operation

-- an answer or the rule that is broken, and the tables after it
pub record Done : Type 0 where
  pub answer : Result Answer Rule
  pub tables : Tables

-- a refusal leaves the tables as they were
abbrev pub done : Tables → Result Changed Rule → Done
done before (Ok after) = record { answer = Ok after.answer; tables = after.tables }
done before (Err broken) = record { answer = Err broken; tables = before }

-- reading leaves the tables as they are
abbrev pub only_read : Tables → Result Answer Rule → Done
only_read tables answer = record { answer = answer; tables = tables }

abbrev pub plain : Schema → Op → Outside → Tables → Done
plain schema (op.FindUnique table at strict pick) outside tables = only_read tables (find_unique schema tables table.0 at strict pick)
plain schema (op.FindFirst table look strict pick) outside tables = only_read tables (find_first schema tables table.0 look strict pick)
plain schema (op.FindMany table look pick) outside tables = only_read tables (find_many schema tables table.0 look pick)
plain schema (op.Count table look) outside tables = only_read tables (count schema tables table.0 look)
plain schema (op.Create table tree pick) outside tables = done tables (create_one schema outside table.0 tree pick tables)
plain schema (op.CreateMany table trees pick) outside tables = done tables (create_many schema outside table.0 trees pick tables)
plain schema (op.Update table at tree pick) outside tables = done tables (or_absent table.0 (found_at schema tables table.0 at) >>= λ row. update_one schema outside table.0 tree pick row tables)
plain schema (op.UpdateMany table matching tree) outside tables = done tables (update_many schema outside table.0 matching tree tables)
plain schema (op.Upsert table at create update pick) outside tables = done tables (update_or_create schema outside table.0 create update pick (found_at schema tables table.0 at) tables)
plain schema (op.Delete table at pick) outside tables = done tables (or_absent table.0 (found_at schema tables table.0 at) >>= λ row. delete_one schema table.0 pick row tables)
plain schema (op.DeleteMany table matching) outside tables = done tables (delete_many schema table.0 matching tables)
