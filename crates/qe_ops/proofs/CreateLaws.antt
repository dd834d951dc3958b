-- What a create that is carried out so far makes by the documented definitions.
use Rattle.std.proofs.Common.{◌≡◌, ℕ, ℤ, ◌+◌, Bool, true, false, not, cond, ◌&&◌, List, [], ◌∷◌, ◌++◌, map, filter, Option, Some, None, Result, Ok, Err, unwrap_or, refl, sym, ap, ◌∙◌, true≢false}
use Rattle.std.specs.Prelude.{find, if◌then◌else◌}
use Rattle.std.specs.List.{list_all, enumerate_from}
use Rattle.std.specs.Ordering.{is_lt, is_gt, ordering_reverse}
use Rattle.std.proofs.lemmas.Bool.{and_parts, eq-eqb}
use Rattle.std.proofs.lemmas.List.{append-nil}
use Rattle.qe_base.specs.declared.answer.Answer.{Answer}
use Rattle.qe_base.specs.declared.answer.Outside.{Outside}
use Rattle.qe_base.specs.declared.answer.Rule.{Rule}
use Rattle.qe_base.specs.declared.query.Pick.{Pick}
use Rattle.qe_base.specs.declared.schema.Column.{Column}
use Rattle.qe_base.specs.declared.schema.Field.{Field}
use Rattle.qe_base.specs.declared.schema.Field.TheVariants.{Scalar, Holder, Target, SideA, SideB}
use Rattle.qe_base.specs.declared.schema.Fill.{Fill}
use Rattle.qe_base.specs.declared.schema.Fill.TheVariants.{Absent, Literal, Counter, Now, Uuid}
use Rattle.qe_base.specs.declared.schema.Table.{Table}
use Rattle.qe_base.specs.declared.value.Row.{Row}
use Rattle.qe_base.specs.declared.value.TableId.{TableId}
use Rattle.qe_base.specs.declared.value.Value.{Value}
use Rattle.qe_base.specs.declared.value.Value.TheVariants.{Null}
use Rattle.qe_base.specs.declared.write.Create.{Create, out-Create}
use Rattle.qe_base.specs.declared.write.Nested.{Nested}
use Rattle.qe_base.specs.declared.write.Op.TheVariants as op
use Rattle.qe_base.specs.declared.write.Step.TheFolds.{fold_out-Create}
use Rattle.qe_base.specs.Schemas.{Schema}
use Rattle.qe_schema.specs.Columns.{Values, are_same, values_cmp}
use Rattle.qe_schema.specs.Put.{broken_key, put_among, put_of, put_unless}
use Rattle.qe_schema.specs.Tables.{Tables, table_at, id_of, row_at}
use Rattle.qe_reading.specs.CarriedOut.{is_carried_out, is_simple, is_simple_column, is_simple_kind, has_no_fill, picks_columns}
use Rattle.qe_reading.specs.Fits.{is_empty}
use Rattle.qe_reading.specs.Shape.{shape_of}
use Rattle.qe_schema.proofs.Equal.{same_values, values_same}
use Rattle.qe_row_laws.proofs.Orders.{values_cmp_total, less_is, not_both}
use Rattle.qe_writing.specs.Fill.{Found, Filled, at_moment, with_drawn, value_found, fill_value, value_in, given_for, fill_from, filled}
use Rattle.qe_writing.specs.Plain.{Done, Changed, changed, done, create_one, plain}
use Rattle.qe_writing.specs.Plain as plainly
use Rattle.qe_writing.specs.WriteState.{WriteState, ◌>>=◌, follow, unfollow, or_absent, present}
use Rattle.qe_writing.specs.Write.{Run, Creates, FieldRuns, Updates, Made, Written, made_of, run_holders, run_others, fields_of, row_of_values, step_step, create_step, nested_step, update_step, create_of, references, put_new, state_of, write_new, written}
use Rattle.qe_writing.proofs.Layers.{nested_of}
use Rattle.qe_ops.specs.Puts.{placed}
use Rattle.qe_ops.proofs.FindLaws.{columns_of_row, shape_alone}

-- ---- no nested steps

no_holders : (table : ℕ) (own : Option ℕ) (fields : List Field) (number : ℕ) (made : Made) → run_holders table own [] fields number made ≡ Ok made
no_holders table own [] number made = refl
no_holders table own (Scalar column ∷ fields) number made = no_holders table own fields (number + 1) made
no_holders table own (Holder relation ∷ fields) number made = no_holders table own fields (number + 1) made
no_holders table own (Target relation ∷ fields) number made = no_holders table own fields (number + 1) made
no_holders table own (SideA link ∷ fields) number made = no_holders table own fields (number + 1) made
no_holders table own (SideB link ∷ fields) number made = no_holders table own fields (number + 1) made

no_others : (schema : Schema) (table own : ℕ) (fields : List Field) (number : ℕ) (made : Made) → run_others schema table own [] fields number made ≡ Ok made
no_others schema table own [] number made = refl
no_others schema table own (Scalar column ∷ fields) number made = no_others schema table own fields (number + 1) made
no_others schema table own (Holder relation ∷ fields) number made = no_others schema table own fields (number + 1) made
no_others schema table own (Target relation ∷ fields) number made = no_others schema table own fields (number + 1) made
no_others schema table own (SideA link ∷ fields) number made = no_others schema table own fields (number + 1) made
no_others schema table own (SideB link ∷ fields) number made = no_others schema table own fields (number + 1) made

without_steps : (schema : Schema) (outside : Outside) (values : List (ℕ × Value)) (nested : List Nested) → is_empty nested ≡ true → create_step schema outside (record { values = values; nested = map (nested_of schema outside) nested }) ≡ create_step schema outside (record { values = values; nested = [] })
without_steps schema outside values [] empty = refl
without_steps schema outside values (one ∷ nested) empty = absurd (true≢false (sym empty))

create_alone : (schema : Schema) (outside : Outside) (tree : Create) → is_empty (out-Create tree).nested ≡ true → create_of schema outside tree ≡ create_step schema outside (record { values = (out-Create tree).values; nested = [] })
create_alone schema outside tree empty = fold_out-Create Run Creates FieldRuns Updates (step_step schema) (create_step schema outside) nested_step (update_step schema outside) tree ∙ without_steps schema outside (out-Create tree).values (out-Create tree).nested empty

-- ---- the row

-- what a new row has in a column: the given value, else null
abbrev pub value_for : List (ℕ × Value) → (ℕ × Column) → Value
value_for given numbered = unwrap_or (given_for numbered.0 given) Null

abbrev pub values_for : List Column → List (ℕ × Value) → Values
values_for columns given = map (value_for given) (enumerate_from 0 columns)

not_updated : (table number : ℕ) (column : Column) (outside : Outside) (last : ℤ) (drawn : ℕ) (updated : Bool) (fill : Fill) → has_no_fill fill ≡ true → not updated ≡ true
    → (if updated then with_drawn drawn (at_moment table number outside) else fill_value table number column.kind outside last drawn fill) ≡ Ok (value_found drawn Null)
not_updated table number column outside last drawn true fill none never = absurd (true≢false (sym never))
not_updated table number column outside last drawn false Absent none never = refl
not_updated table number column outside last drawn false (Literal value) none never = absurd (true≢false (sym none))
not_updated table number column outside last drawn false Counter none never = absurd (true≢false (sym none))
not_updated table number column outside last drawn false Now none never = absurd (true≢false (sym none))
not_updated table number column outside last drawn false Uuid none never = absurd (true≢false (sym none))

simple_value : (table number : ℕ) (column : Column) (outside : Outside) (last : ℤ) (drawn : ℕ) (given : Option Value) → is_simple_column column ≡ true → value_in table number column outside last drawn given ≡ Ok (value_found drawn (unwrap_or given Null))
simple_value table number column outside last drawn (Some value) simple = refl
simple_value table number column outside last drawn None simple =
    let parts = and_parts (is_simple_kind column.kind && not column.optional && has_no_fill column.fill) (not column.updated) simple in
    not_updated table number column outside last drawn column.updated column.fill (and_parts (is_simple_kind column.kind && not column.optional) (has_no_fill column.fill) parts.0).1 parts.1

abbrev filled_with : Values → ℕ → Filled
filled_with values drawn = record { values = values; drawn = drawn }

simple_values : (table : ℕ) (outside : Outside) (last : ℤ) (given : List (ℕ × Value)) (columns : List Column) (number drawn : ℕ) → list_all is_simple_column columns ≡ true
    → fill_from table outside last given (enumerate_from number columns) drawn ≡ Ok (filled_with (map (value_for given) (enumerate_from number columns)) drawn)
simple_values table outside last given [] number drawn simple = refl
simple_values table outside last given (column ∷ columns) number drawn simple =
    let parts = and_parts (is_simple_column column) (list_all is_simple_column columns) simple in
    ap (λ (one : Result Found Rule). one >>= λ found. fill_from table outside last given (enumerate_from (number + 1) columns) found.drawn >>= λ others. Ok (filled_with (found.value ∷ others.values) others.drawn))
    (simple_value table number column outside last drawn (given_for number given) parts.0)
    ∙ ap (λ (rest : Result Filled Rule). rest >>= λ others. Ok (filled_with (value_for given (number, column) ∷ others.values) others.drawn)) (simple_values table outside last given columns (number + 1) drawn parts.1)

-- ---- the row is there once it is put

found_behind : {A : Type 0} (p before : A → Bool) (x : A) (xs ys : List A) → p x ≡ true → ((y : A) → before y ≡ true → p y ≡ false) → find p (filter before xs ++ x ∷ ys) ≡ Some x
found_behind p before x [] ys here apart = ap (λ b. cond b (Some x) (find p ys)) here
found_behind p before x (y ∷ xs) ys here apart = by_test (before y) refl (found_behind p before x xs ys here apart)
  where
    by_test : (b : Bool) → before y ≡ b → find p (filter before xs ++ x ∷ ys) ≡ Some x → find p (cond b (y ∷ filter before xs) (filter before xs) ++ x ∷ ys) ≡ Some x
    by_test true is behind = ap (λ b. cond b (Some y) (find p (filter before xs ++ x ∷ ys))) (apart y is) ∙ behind
    by_test false is behind = behind

not_less : (values : Values) → is_lt (values_cmp values values) ≡ true → ⊥
not_less values less = not_both (values_cmp values values) less (ap is_gt (values_cmp_total.antisymm values values ∙ ap ordering_reverse (less_is (values_cmp values values) less)))

less_differs : (one other : Values) → is_lt (values_cmp one other) ≡ true → are_same one other ≡ false
less_differs one other less = by_test (are_same one other) refl
  where
    by_test : (b : Bool) → are_same one other ≡ b → b ≡ false
    by_test true is = absurd (not_less other (ap (λ (id : Values). is_lt (values_cmp id other)) (sym (same_values one other is)) ∙ less))
    by_test false is = refl

row_among : (model : Table) (row : Row) (rows : List Row) → row_at model (id_of model row) (put_among model row rows) ≡ Some row
row_among model row rows =
    found_behind (λ other. are_same (id_of model other) (id_of model row)) (λ other. is_lt (values_cmp (id_of model other) (id_of model row))) row rows (filter (λ other. is_gt (values_cmp (id_of model other) (id_of model row))) rows)
    (values_same (id_of model row) (id_of model row) refl) (λ other less. less_differs (id_of model other) (id_of model row) less)

row_put : (schema : Schema) (table : ℕ) (row : Row) (tables after : Tables) → put_of schema table row tables ≡ Ok after → row_at (table_at schema table) (id_of (table_at schema table) row) (after.rows table) ≡ Some row
row_put schema table row tables after is = by_key (broken_key (table_at schema table).keys 0 row (tables.rows table)) is
  where
    by_key : (o : Option ℕ) → put_unless schema table row (tables.rows table) tables o ≡ Ok after → row_at (table_at schema table) (id_of (table_at schema table) row) (after.rows table) ≡ Some row
    by_key None is =
        let same : placed schema table row tables ≡ after = cc in
        ap (λ (t : Tables). row_at (table_at schema table) (id_of (table_at schema table) row) (t.rows table)) (sym same)
        ∙ ap (λ b. row_at (table_at schema table) (id_of (table_at schema table) row) (cond b (put_among (table_at schema table) row (tables.rows table)) (tables.rows table))) (eq-eqb table table refl) ∙ row_among (table_at schema table) row (tables.rows table)
    by_key (Some key) is = absurd cc

-- ---- the create

abbrev written_row : Schema → ℕ → Row → Tables → Written
written_row schema table row tables = record { id = id_of (table_at schema table) row; tables = tables; drawn = 0 }

abbrev behind_put : Schema → ℕ → Row → WriteState → Result WriteState Rule
behind_put schema table row state = run_others schema table 0 [] (fields_of schema table) 0 (made_of (follow schema table row state) []) >>= λ made. present schema table 0 made.state >>= λ own. Ok (unfollow 1 made.state)

abbrev behind_fill : Schema → ℕ → WriteState → Filled → Result WriteState Rule
behind_fill schema table state new = put_new schema table new (unfollow 0 state) >>= λ after. behind_put schema table (row_of_values new.values) after

abbrev behind_holders : Schema → Outside → ℕ → List (ℕ × Value) → Made → Result WriteState Rule
behind_holders schema outside table values made = references schema made.attached made.state >>= λ taken. filled schema table (values ++ [] ++ taken) outside made.state.drawn made.state.tables >>= λ new. behind_fill schema table made.state new

abbrev put_state : Tables → WriteState
put_state tables = state_of tables 0

put_behind : (schema : Schema) (table : ℕ) (row : Row) (tables : Tables) (result : Result Tables Rule) → put_of schema table row tables ≡ result
    → (((result >>= λ after. Ok (put_state after)) >>= behind_put schema table row) >>= written table) ≡ (result >>= λ after. Ok (written_row schema table row after))
put_behind schema table row tables (Err broken) put = refl
put_behind schema table row tables (Ok after) put =
    ap (λ (r : Result Made Rule). (r >>= λ made. present schema table 0 made.state >>= λ own. Ok (unfollow 1 made.state)) >>= written table) (no_others schema table 0 (fields_of schema table) 0 (made_of (follow schema table row (put_state after)) []))
    ∙ ap (λ (o : Option Row). (or_absent table o >>= λ own. Ok (unfollow 1 (follow schema table row (put_state after)))) >>= written table) (row_put schema table row tables after put)

-- the row of a create
abbrev pub row_for : Schema → ℕ → Create → Row
row_for schema table tree = row_of_values (values_for (table_at schema table).columns (out-Create tree).values)

write_is : (schema : Schema) (outside : Outside) (table : ℕ) (tree : Create) (tables : Tables) (result : Result Tables Rule) → is_empty (out-Create tree).nested ≡ true → list_all is_simple_column (table_at schema table).columns ≡ true
    → put_of schema table (row_for schema table tree) tables ≡ result → write_new schema outside table tree 0 tables ≡ (result >>= λ after. Ok (written_row schema table (row_for schema table tree) after))
write_is schema outside table tree tables result empty simple put =
    let values : List (ℕ × Value) = (out-Create tree).values in
    let row : Row = row_for schema table tree in
    ap (λ (make : Creates). make table [] (state_of tables 0) >>= written table) (create_alone schema outside tree empty)
    ∙ ap (λ (r : Result Made Rule). (r >>= behind_holders schema outside table values) >>= written table) (no_holders table None (fields_of schema table) 0 (made_of (state_of tables 0) []))
    ∙ ap (λ (given : List (ℕ × Value)). (filled schema table given outside 0 tables >>= behind_fill schema table (state_of tables 0)) >>= written table) (append-nil (values ++ []) ∙ append-nil values)
    ∙ ap (λ (r : Result Filled Rule). (r >>= behind_fill schema table (state_of tables 0)) >>= written table) (simple_values table outside (tables.last table) values (table_at schema table).columns 0 0 simple)
    ∙ ap (λ (r : Result Tables Rule). ((r >>= λ after. Ok (put_state after)) >>= behind_put schema table row) >>= written table) put ∙ put_behind schema table row tables result put

-- the answer over the new tables, or the refusal over the old ones
abbrev pub put_done : Answer → Tables → Result Tables Rule → Done
put_done answer before (Ok after) = record { answer = Ok answer; tables = after }
put_done answer before (Err broken) = record { answer = Err broken; tables = before }

abbrev pub created_in : Schema → TableId → Create → Pick → Tables → Done
created_in schema table tree pick tables = put_done (columns_of_row (table_at schema table.0) pick (row_for schema table.0 tree)) tables (put_of schema table.0 (row_for schema table.0 tree) tables)

-- the written row is shown
abbrev then_shown : Schema → ℕ → Pick → Result Written Rule → Result Changed Rule
then_shown schema table pick result = result >>= λ made. plainly.shown schema table pick made.id made.tables >>= λ said. Ok (changed said made.tables)

shown_done : (schema : Schema) (table : ℕ) (pick : Pick) (row : Row) (tables : Tables) (result : Result Tables Rule) → picks_columns pick ≡ true → put_of schema table row tables ≡ result
    → done tables (then_shown schema table pick (result >>= λ after. Ok (written_row schema table row after))) ≡ put_done (columns_of_row (table_at schema table) pick row) tables result
shown_done schema table pick row tables (Err broken) alone put = refl
shown_done schema table pick row tables (Ok after) alone put =
    ap (λ (o : Option Row). done tables ((or_absent table o >>= shape_of schema after pick table) >>= λ said. Ok (changed said after))) (row_put schema table row tables after put)
    ∙ ap (λ (r : Result Answer Rule). done tables (r >>= λ said. Ok (changed said after))) (shape_alone schema after pick table row alone)

simple_columns : (model : Table) → is_simple model ≡ true → list_all is_simple_column model.columns ≡ true
simple_columns model simple = (and_parts (not model.link) (list_all is_simple_column model.columns) (and_parts (not model.link && list_all is_simple_column model.columns) _ simple).0).1

pub create_is : (schema : Schema) (table : TableId) (tree : Create) (pick : Pick) (outside : Outside) (tables : Tables) → is_carried_out schema (op.Create table tree pick) ≡ true → plain schema (op.Create table tree pick) outside tables ≡ created_in schema table tree pick tables
create_is schema table tree pick outside tables carried =
    let parts = and_parts (is_simple (table_at schema table.0) && is_empty (out-Create tree).nested) (picks_columns pick) carried in
    let own = and_parts (is_simple (table_at schema table.0)) (is_empty (out-Create tree).nested) parts.0 in
    let result : Result Tables Rule = put_of schema table.0 (row_for schema table.0 tree) tables in
    ap (λ (r : Result Written Rule). done tables (then_shown schema table.0 pick r)) (write_is schema outside table.0 tree tables result own.1 (simple_columns (table_at schema table.0) own.0) refl)
    ∙ shown_done schema table.0 pick (row_for schema table.0 tree) tables result parts.1 refl
