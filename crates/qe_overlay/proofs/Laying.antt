-- Laying rows together, one after another.
use Rattle.std.proofs.Common.{◌≡◌, List, [], ◌∷◌, ◌++◌, filter, Option, Some, None, Bool, true, false, cond, not, refl, sym, ap, ◌∙◌, is_some}
use Rattle.std.specs.BTreeMap.{insert_entry, is_at}
use Rattle.std.specs.Map.{values_of, lookup}
use Rattle.std.proofs.lemmas.List.{append_assoc}
use Rattle.qe_base.specs.Values.{row_cmp}
use Rattle.qe_base.specs.declared.schema.Table.{Table}
use Rattle.qe_base.specs.declared.value.Row.{Row}
use Rattle.qe_schema.specs.Tables.{id_of}
use Rattle.qe_overlay.proofs.Rows.{entered_is}
use Rattle.qe_overlay.specs.Laid.{id_row, put_in, untouched, row_if}
use Rattle.qe_overlay.specs.Layers.{Entry, rows_and, present, is_entered}

-- of what stands under ids now, the chosen rows
abbrev pub chosen_of : (Row → Bool) → List (Option Row) → List Row
chosen_of chosen [] = []
chosen_of chosen (now ∷ later) = row_if chosen now ++ chosen_of chosen later

pub chosen-present : (chosen : Row → Bool) (entries : List Entry) → chosen_of chosen (values_of entries) ≡ filter chosen (present entries)
chosen-present chosen [] = refl
chosen-present chosen (e ∷ entries) = by_now e.1 (chosen-present chosen entries)
  where
    by_now : (now : Option Row) → chosen_of chosen (values_of entries) ≡ filter chosen (present entries) → row_if chosen now ++ chosen_of chosen (values_of entries) ≡ filter chosen (rows_and (present entries) now)
    by_now None later = later
    by_now (Some row) later = elim (chosen row) as (λ b. cond b (row ∷ []) [] ++ chosen_of chosen (values_of entries) ≡ cond b (row ∷ filter chosen (present entries)) (filter chosen (present entries))) [ true ↦ ap (λ l. row ∷ l) later | false ↦ later ]

pub chosen_next : (chosen : Row → Bool) (rows : List Row) (now : Option Row) (later : List (Option Row)) → (rows ++ row_if chosen now) ++ chosen_of chosen later ≡ rows ++ chosen_of chosen (now ∷ later)
chosen_next chosen rows now later = append_assoc rows (row_if chosen now) (chosen_of chosen later)

pub put_in-push : (table : Table) (rows : List Row) (row : Row) (laid : List (Row × Row)) → put_in table (rows ++ row ∷ []) laid ≡ put_in table rows (insert_entry row_cmp laid (id_row table row) row)
put_in-push table [] row laid = refl
put_in-push table (first ∷ rows) row laid = ap (λ l. insert_entry row_cmp l (id_row table first) first) (put_in-push table rows row laid)

filter-push : (p : Row → Bool) (rows : List Row) (row : Row) → filter p (rows ++ row ∷ []) ≡ filter p rows ++ cond (p row) (row ∷ []) []
filter-push p [] row = refl
filter-push p (first ∷ rows) row = elim (p first) as (λ b. cond b (first ∷ filter p (rows ++ row ∷ [])) (filter p (rows ++ row ∷ [])) ≡ cond b (first ∷ filter p rows) (filter p rows) ++ cond (p row) (row ∷ []) []) [ true ↦ ap (λ l. first ∷ l) (filter-push p rows row) | false ↦ filter-push p rows row ]

append-none : (rows : List Row) → rows ++ [] ≡ rows
append-none [] = refl
append-none (row ∷ rows) = ap (λ l. row ∷ l) (append-none rows)

pub untouched-kept : (table : Table) (entries : List Entry) (rows : List Row) (row : Row) (laid : List (Row × Row)) → is_entered entries (id_of table row) ≡ false
    → put_in table (untouched table entries (rows ++ row ∷ [])) laid ≡ put_in table (untouched table entries rows) (insert_entry row_cmp laid (id_row table row) row)
untouched-kept table entries rows row laid is =
    ap (λ l. put_in table l laid) (filter-push (λ row. not (is_entered entries (id_of table row))) rows row ∙ ap (λ b. untouched table entries rows ++ cond (not b) (row ∷ []) []) is)
    ∙ put_in-push table (untouched table entries rows) row laid

pub untouched-left : (table : Table) (entries : List Entry) (rows : List Row) (row : Row) (laid : List (Row × Row)) → is_entered entries (id_of table row) ≡ true
    → put_in table (untouched table entries (rows ++ row ∷ [])) laid ≡ put_in table (untouched table entries rows) laid
untouched-left table entries rows row laid is =
    ap (λ l. put_in table l laid) (filter-push (λ row. not (is_entered entries (id_of table row))) rows row ∙ ap (λ b. untouched table entries rows ++ cond (not b) (row ∷ []) []) is ∙ append-none (untouched table entries rows))

laid_as : (table : Table) (row id : Row) (before after : List (Row × Row)) → id.values ≡ id_of table row → after ≡ insert_entry row_cmp before id row → after ≡ insert_entry row_cmp before (id_row table row) row
laid_as table row id before after id_is is = is ∙ (λ i. insert_entry row_cmp before (record { values = id_is i }) row)

-- the last of the rows that are left was laid
pub laid_next : (table : Table) (rows rest all : List Row) (row id : Row) (before after first : List (Row × Row)) → rows ≡ rest ++ row ∷ [] → id.values ≡ id_of table row → after ≡ insert_entry row_cmp before id row
    → put_in table rows before ≡ put_in table all first → put_in table rest after ≡ put_in table all first
laid_next table rows rest all row id before after first rows_are id_is is so_far =
    ap (put_in table rest) (laid_as table row id before after id_is is) ∙ sym (put_in-push table rest row before) ∙ ap (λ l. put_in table l before) (sym rows_are) ∙ so_far

found_entered : (table : Table) (entries : List Entry) (row id : Row) (b : Bool) → id.values ≡ id_of table row → is_some (lookup (is_at (row_cmp id)) entries) ≡ b → is_entered entries (id_of table row) ≡ b
found_entered table entries row id b id_is is = ap (is_entered entries) (sym id_is) ∙ entered_is entries id ∙ is

pub kept_next : (table : Table) (entries : List Entry) (rows rest all : List Row) (row id : Row) (before after first : List (Row × Row)) → rows ≡ rest ++ row ∷ [] → id.values ≡ id_of table row → after ≡ insert_entry row_cmp before id row
    → is_some (lookup (is_at (row_cmp id)) entries) ≡ false
    → put_in table (untouched table entries rows) before ≡ put_in table (untouched table entries all) first → put_in table (untouched table entries rest) after ≡ put_in table (untouched table entries all) first
kept_next table entries rows rest all row id before after first rows_are id_is is not_there so_far =
    ap (put_in table (untouched table entries rest)) (laid_as table row id before after id_is is)
    ∙ sym (untouched-kept table entries rest row before (found_entered table entries row id false id_is not_there))
    ∙ ap (λ l. put_in table (untouched table entries l) before) (sym rows_are) ∙ so_far

pub left_next : (table : Table) (entries : List Entry) (rows rest all : List Row) (row id : Row) (before first : List (Row × Row)) → rows ≡ rest ++ row ∷ [] → id.values ≡ id_of table row
    → is_some (lookup (is_at (row_cmp id)) entries) ≡ true
    → put_in table (untouched table entries rows) before ≡ put_in table (untouched table entries all) first → put_in table (untouched table entries rest) before ≡ put_in table (untouched table entries all) first
left_next table entries rows rest all row id before first rows_are id_is there so_far =
    sym (untouched-left table entries rest row before (found_entered table entries row id true id_is there))
    ∙ ap (λ l. put_in table (untouched table entries l) before) (sym rows_are) ∙ so_far

pub chosen_step : (chosen : Row → Bool) (rows more : List Row) (now : Option Row) (later : List (Option Row)) (all : List Row) → more ≡ rows ++ row_if chosen now → rows ++ chosen_of chosen (now ∷ later) ≡ all → more ++ chosen_of chosen later ≡ all
chosen_step chosen rows more now later all is so_far = ap (λ l. l ++ chosen_of chosen later) is ∙ chosen_next chosen rows now later ∙ so_far

pub chosen_end : (chosen : Row → Bool) (rows : List Row) (later : List (Option Row)) (all : List Row) → later ≡ [] → rows ++ chosen_of chosen later ≡ all → rows ≡ all
chosen_end chosen rows later all none so_far = sym (append-none rows) ∙ ap (λ l. rows ++ chosen_of chosen l) (sym none) ∙ so_far
