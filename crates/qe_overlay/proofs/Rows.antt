-- Rows in the order of their ids, seen through entries.
use Rattle.std.proofs.Common.{◌≡◌, List, [], ◌∷◌, ◌++◌, map, filter, Option, Some, None, Bool, true, false, cond, not, ◌||◌, ◌&&◌, refl, sym, ap, subst, ◌∙◌, Ordering, Less, Equal, Greater, is_eq, is_some}
use Rattle.std.specs.Prelude.{unwrap_or, IfSome}
use Rattle.std.specs.List.{AllByRecursion, list_all}
use Rattle.std.specs.List.Sorted.{IsStrictlySortedBy}
use Rattle.std.specs.Map.{keys_of, values_of, lookup}
use Rattle.std.specs.Ordering.{is_lt, is_gt, match_ordering}
use Rattle.std.specs.Cmp.{eq_by_cmp_equiv}
use Rattle.std.specs.BTreeMap.{insert_entry, is_at}
use Rattle.std.proofs.lemmas.Bool.{and_parts}
use Rattle.std.proofs.lemmas.Map.Entries.{lookup-filter-keys, lookup-filter-values, option_filter}
use Rattle.std.proofs.lemmas.Map.Keys.{IsDistinct-from_sorted}
use Rattle.std.proofs.lemmas.Map.Views.{tells_apart}
use Rattle.qe_base.specs.Values.{row_cmp}
use Rattle.qe_base.specs.ValueOrder.{row_cmp_total}
use Rattle.qe_base.specs.declared.schema.Table.{Table}
use Rattle.qe_base.specs.declared.value.Row.{Row}
use Rattle.qe_schema.specs.Columns.{are_same, values_cmp}
use Rattle.qe_schema.specs.Fits.{Ascending}
use Rattle.qe_schema.specs.Put.{put_among}
use Rattle.qe_schema.specs.Tables.{id_of}
use Rattle.qe_view.specs.After.{without_id}
use Rattle.qe_overlay.specs.Laid.{id_row, put_in, untouched, laid_over}
use Rattle.qe_overlay.specs.Layers.{Entry, rows_and, present, is_entered, put_all, over_rows}
use Rattle.qe_schema.proofs.Equal.{exact_row, same_as_rows}
use Rattle.qe_overlay.proofs.Maps.{same_back, lookup-insert_entry, sorted-insert_entry, found_behind, found_same, between, sorted-filter-keys, sorted-filter}

-- rows under their ids
abbrev pub keyed : Table → List Row → List (Row × Row)
keyed table rows = map (λ row. (id_row table row, row)) rows

abbrev pub Sorted : Table → List Row → Type 0
Sorted table rows = IsStrictlySortedBy row_cmp (keys_of (keyed table rows))

-- each row that is there stands under its own id
abbrev pub OwnId : Table → Entry → Type 0
OwnId table entry = IfSome entry.1 (λ row. id_of table row ≡ entry.0.values)

abbrev pub OwnIds : Table → List Entry → Type 0
OwnIds table entries = AllByRecursion (OwnId table) entries

abbrev pub SortedEntries : List Entry → Type 0
SortedEntries entries = IsStrictlySortedBy row_cmp (keys_of entries)

abbrev pub at : {X : Type 0} → Row → List (Row × X) → Option X
at q entries = lookup (is_at (row_cmp q)) entries

-- ---- rows under their ids

values-keyed : (table : Table) (rows : List Row) → values_of (keyed table rows) ≡ rows
values-keyed table [] = refl
values-keyed table (row ∷ rows) = ap (λ l. row ∷ l) (values-keyed table rows)

keyed-append : (table : Table) (xs ys : List Row) → keyed table (xs ++ ys) ≡ keyed table xs ++ keyed table ys
keyed-append table [] ys = refl
keyed-append table (x ∷ xs) ys = ap (λ l. (id_row table x, x) ∷ l) (keyed-append table xs ys)

keyed-filter : (table : Table) (p : Row → Bool) (rows : List Row) → keyed table (filter p rows) ≡ filter (λ e. p e.1) (keyed table rows)
keyed-filter table p [] = refl
keyed-filter table p (row ∷ rows) = elim (p row) as (λ b. keyed table (cond b (row ∷ filter p rows) (filter p rows)) ≡ cond b ((id_row table row, row) ∷ filter (λ e. p e.1) (keyed table rows)) (filter (λ e. p e.1) (keyed table rows)))
    [ true ↦ ap (λ l. (id_row table row, row) ∷ l) (keyed-filter table p rows) | false ↦ keyed-filter table p rows ]

pub keyed-filter-ids : (table : Table) (p : Row → Bool) (rows : List Row) → keyed table (filter (λ row. p (id_row table row)) rows) ≡ filter (λ e. p e.0) (keyed table rows)
keyed-filter-ids table p [] = refl
keyed-filter-ids table p (row ∷ rows) = elim (p (id_row table row)) as (λ b. keyed table (cond b (row ∷ filter (λ row. p (id_row table row)) rows) (filter (λ row. p (id_row table row)) rows)) ≡ cond b ((id_row table row, row) ∷ filter (λ e. p e.0) (keyed table rows)) (filter (λ e. p e.0) (keyed table rows)))
    [ true ↦ ap (λ l. (id_row table row, row) ∷ l) (keyed-filter-ids table p rows) | false ↦ keyed-filter-ids table p rows ]

all_later : (table : Table) (row : Row) (rows : List Row) → AllByRecursion (λ later. values_cmp (id_of table row) (id_of table later) ≡ Less) rows → AllByRecursion (λ k. row_cmp (id_row table row) k ≡ Less) (keys_of (keyed table rows))
all_later table row [] all = tt
all_later table row (next ∷ rows) all = (all.0, all_later table row rows all.1)

pub sorted_from : (table : Table) (rows : List Row) → Ascending table rows → Sorted table rows
unfolding IsStrictlySortedBy
sorted_from table [] ascending = tt
sorted_from table (row ∷ rows) ascending = (all_later table row rows ascending.0, sorted_from table rows ascending.1)

keyed-put_among : (table : Table) (row : Row) (rows : List Row) → Sorted table rows → keyed table (put_among table row rows) ≡ insert_entry row_cmp (keyed table rows) (id_row table row) row
keyed-put_among table row rows sorted =
    keyed-append table (filter (λ other. is_lt (row_cmp (id_row table other) (id_row table row))) rows) _
    ∙ (λ i. keyed-filter-ids table (λ k. is_lt (row_cmp k (id_row table row))) rows i ++ (id_row table row, row) ∷ keyed-filter-ids table (λ k. is_gt (row_cmp k (id_row table row))) rows i)
    ∙ sym (between row_cmp_total exact_row (id_row table row) row (keyed table rows) sorted)

pub sorted-put_among : (table : Table) (row : Row) (rows : List Row) → Sorted table rows → Sorted table (put_among table row rows)
sorted-put_among table row rows sorted =
    subst (λ es. IsStrictlySortedBy row_cmp (keys_of es)) (sym (keyed-put_among table row rows sorted)) (sorted-insert_entry row_cmp_total (id_row table row) row (keyed table rows) sorted)

pub sorted-put_all : (table : Table) (all rows : List Row) → Sorted table rows → Sorted table (put_all table all rows)
sorted-put_all table [] rows sorted = sorted
sorted-put_all table (row ∷ all) rows sorted = sorted-put_among table row (put_all table all rows) (sorted-put_all table all rows sorted)

pub found-put_among : (table : Table) (row : Row) (rows : List Row) (q : Row) → Sorted table rows → at q (keyed table (put_among table row rows)) ≡ cond (is_eq (row_cmp q (id_row table row))) (Some row) (at q (keyed table rows))
found-put_among table row rows q sorted = ap (at q) (keyed-put_among table row rows sorted) ∙ lookup-insert_entry row_cmp_total q (id_row table row) row (keyed table rows)

sorted-filter-ids : (table : Table) (p : Row → Bool) (rows : List Row) → Sorted table rows → Sorted table (filter (λ row. p (id_row table row)) rows)
sorted-filter-ids table p rows sorted = subst (λ es. IsStrictlySortedBy row_cmp (keys_of es)) (sym (keyed-filter-ids table p rows)) (sorted-filter-keys row_cmp_total p (keyed table rows) sorted)

pub sorted-filter-rows : (table : Table) (p : Row → Bool) (rows : List Row) → Sorted table rows → Sorted table (filter p rows)
sorted-filter-rows table p rows sorted = subst (λ es. IsStrictlySortedBy row_cmp (keys_of es)) (sym (keyed-filter table p rows)) (sorted-filter row_cmp_total (λ e. p e.1) (keyed table rows) sorted)

found-filter-ids : (table : Table) (p : Row → Bool) (rows : List Row) (q : Row) → at q (keyed table (filter (λ row. p (id_row table row)) rows)) ≡ cond (p q) (at q (keyed table rows)) None
found-filter-ids table p rows q =
    ap (at q) (keyed-filter-ids table p rows)
    ∙ lookup-filter-keys (is_at (row_cmp q)) p (p q) (λ k same. ap p (sym (tells_apart exact_row q k same))) (keyed table rows)

found-filter : (table : Table) (p : Row → Bool) (rows : List Row) (q : Row) → Sorted table rows → at q (keyed table (filter p rows)) ≡ option_filter p (at q (keyed table rows))
found-filter table p rows q sorted =
    ap (at q) (keyed-filter table p rows)
    ∙ lookup-filter-values (eq_by_cmp_equiv row_cmp_total) p q (keyed table rows) (IsDistinct-from_sorted row_cmp (keys_of (keyed table rows)) sorted)

-- rows in order are the same where the same is found under each id
pub rows_same : (table : Table) (xs ys : List Row) → Sorted table xs → Sorted table ys → ((q : Row) → at q (keyed table xs) ≡ at q (keyed table ys)) → xs ≡ ys
rows_same table xs ys s t same = sym (values-keyed table xs) ∙ ap values_of (found_same row_cmp_total exact_row (keyed table xs) (keyed table ys) s t same) ∙ values-keyed table ys

-- ---- seen through entries

entered_or : (b : Bool) (now : Option Row) (rest : Option (Option Row)) → b || is_some rest ≡ is_some (cond b (Some now) rest)
entered_or true now rest = refl
entered_or false now rest = refl

pub entered_is : (entries : List Entry) (q : Row) → is_entered entries q.values ≡ is_some (at q entries)
entered_is [] q = refl
entered_is (e ∷ entries) q =
    (λ i. (same_as_rows e.0 q ∙ same_back row_cmp_total e.0 q) i || entered_is entries q i) ∙ entered_or (is_eq (row_cmp q e.0)) e.1 (at q entries)

abbrev pub put_over : Option (Option Row) → Option Row → Option Row
put_over None below = below
put_over (Some None) below = below
put_over (Some (Some row)) below = Some row

pub over_none : (b : Bool) (o : Option (Option Row)) (below : Option Row) → (b ≡ true → o ≡ None) → put_over o below ≡ put_over (cond b (Some None) o) below
over_none true o below none = ap (λ x. put_over x below) (none refl)
over_none false o below none = refl

over_some : (b : Bool) (row : Row) (o : Option (Option Row)) (below : Option Row) → cond b (Some row) (put_over o below) ≡ put_over (cond b (Some (Some row)) o) below
over_some true row o below = refl
over_some false row o below = refl

-- behind an entry none of its id follows
pub behind : (e : Entry) (entries : List Entry) (q : Row) → SortedEntries (e ∷ entries) → is_eq (row_cmp q e.0) ≡ true → at q entries ≡ None
behind e entries q sorted same = found_behind row_cmp_total e entries q (row_cmp q e.0) refl sorted ∙ ap (λ b. cond b None (at q (e ∷ entries))) same

abbrev pub tail_sorted : (e : Entry) (entries : List Entry) → SortedEntries (e ∷ entries) → SortedEntries entries
unfolding IsStrictlySortedBy
tail_sorted e entries sorted = sorted.1

abbrev head_sorted : (e : Entry) (entries : List Entry) → SortedEntries (e ∷ entries) → AllByRecursion (λ y. row_cmp e.0 y ≡ Less) (keys_of entries)
unfolding IsStrictlySortedBy
head_sorted e entries sorted = sorted.0

pub own_key : (table : Table) (id row : Row) → id_of table row ≡ id.values → id_row table row ≡ id
own_key table id row own = λ i. record { values = own i }

pub found_over_present : (table : Table) (entries : List Entry) (rows : List Row) (q : Row) → SortedEntries entries → OwnIds table entries → Sorted table rows
    → at q (keyed table (put_all table (present entries) rows)) ≡ put_over (at q entries) (at q (keyed table rows))
found_over_present table [] rows q sorted own below = refl
found_over_present table (e ∷ entries) rows q sorted own below = by_now e.1 own.0 (λ s. behind e entries q sorted s) (found_over_present table entries rows q (tail_sorted e entries sorted) own.1 below)
  where
    by_now : (now : Option Row) → IfSome now (λ row. id_of table row ≡ e.0.values) → (is_eq (row_cmp q e.0) ≡ true → at q entries ≡ None)
        → at q (keyed table (put_all table (present entries) rows)) ≡ put_over (at q entries) (at q (keyed table rows))
        → at q (keyed table (put_all table (rows_and (present entries) now) rows)) ≡ put_over (cond (is_eq (row_cmp q e.0)) (Some now) (at q entries)) (at q (keyed table rows))
    by_now None own none later = later ∙ over_none (is_eq (row_cmp q e.0)) (at q entries) (at q (keyed table rows)) none
    by_now (Some row) own none later =
        found-put_among table row (put_all table (present entries) rows) q (sorted-put_all table (present entries) rows below)
        ∙ (λ i. cond (is_eq (row_cmp q (own_key table e.0 row own i))) (Some row) (later i))
        ∙ over_some (is_eq (row_cmp q e.0)) row (at q entries) (at q (keyed table rows))

over_whole : (o : Option (Option Row)) (below : Option Row) → put_over o (cond (not (is_some o)) below None) ≡ unwrap_or o below
over_whole None below = refl
over_whole (Some None) below = refl
over_whole (Some (Some row)) below = refl

pub sorted-untouched : (table : Table) (entries : List Entry) (rows : List Row) → Sorted table rows → Sorted table (untouched table entries rows)
sorted-untouched table entries rows sorted = sorted-filter-ids table (λ k. not (is_entered entries k.values)) rows sorted

pub found-untouched : (table : Table) (entries : List Entry) (rows : List Row) (q : Row) → at q (keyed table (untouched table entries rows)) ≡ cond (not (is_some (at q entries))) (at q (keyed table rows)) None
found-untouched table entries rows q = found-filter-ids table (λ k. not (is_entered entries k.values)) rows q ∙ ap (λ b. cond (not b) (at q (keyed table rows)) None) (entered_is entries q)

pub sorted_over : (table : Table) (entries : List Entry) (rows : List Row) → Sorted table rows → Sorted table (over_rows table entries rows)
sorted_over table entries rows sorted = sorted-put_all table (present entries) (untouched table entries rows) (sorted-untouched table entries rows sorted)

-- under an id is found what is entered there, and else the row below
pub found_over : (table : Table) (entries : List Entry) (rows : List Row) (q : Row) → SortedEntries entries → OwnIds table entries → Sorted table rows
    → at q (keyed table (over_rows table entries rows)) ≡ unwrap_or (at q entries) (at q (keyed table rows))
found_over table entries rows q sorted own below =
    found_over_present table entries (untouched table entries rows) q sorted own (sorted-untouched table entries rows below)
    ∙ ap (put_over (at q entries)) (found-untouched table entries rows q)
    ∙ over_whole (at q entries) (at q (keyed table rows))

-- ---- changes

pub all-insert_entry : {X : Type 0} (P : Row × X → Type 0) (id : Row) (now : X) (entries : List (Row × X)) → AllByRecursion P entries → P (id, now) → AllByRecursion P (insert_entry row_cmp entries id now)
all-insert_entry P id now [] all one = (one, tt)
all-insert_entry P id now (e ∷ entries) all one = by_order (row_cmp id e.0) refl (all-insert_entry P id now entries all.1 one)
  where
    by_order : (o : Ordering) → row_cmp id e.0 ≡ o → AllByRecursion P (insert_entry row_cmp entries id now) → AllByRecursion P (match_ordering o ((id, now) ∷ e ∷ entries) ((e.0, now) ∷ entries) (e ∷ insert_entry row_cmp entries id now))
    by_order Less is later = (one, all)
    by_order Equal is later = (subst (λ k. P (k, now)) (exact_row id e.0 is) one, all.1)
    by_order Greater is later = (all.0, later)

entered_put : (b : Bool) (now : Option Row) (o : Option (Option Row)) (below : Option Row) → unwrap_or (cond b (Some now) o) below ≡ cond b now (unwrap_or o below)
entered_put true now o below = refl
entered_put false now o below = refl

-- a row that is entered is put among those seen
pub put_seen : (table : Table) (entries : List Entry) (rows : List Row) (row id : Row) → SortedEntries entries → OwnIds table entries → Sorted table rows → id_of table row ≡ id.values
    → over_rows table (insert_entry row_cmp entries id (Some row)) rows ≡ put_among table row (over_rows table entries rows)
put_seen table entries rows row id sorted own below is =
    rows_same table (over_rows table (insert_entry row_cmp entries id (Some row)) rows) (put_among table row (over_rows table entries rows))
    (sorted_over table (insert_entry row_cmp entries id (Some row)) rows below)
    (sorted-put_among table row (over_rows table entries rows) (sorted_over table entries rows below))
    (λ q.
    found_over table (insert_entry row_cmp entries id (Some row)) rows q (sorted-insert_entry row_cmp_total id (Some row) entries sorted) (all-insert_entry (OwnId table) id (Some row) entries own is) below
    ∙ ap (λ o. unwrap_or o (at q (keyed table rows))) (lookup-insert_entry row_cmp_total q id (Some row) entries)
    ∙ entered_put (is_eq (row_cmp q id)) (Some row) (at q entries) (at q (keyed table rows))
    ∙ sym (found-put_among table row (over_rows table entries rows) q (sorted_over table entries rows below)
    ∙ (λ i. cond (is_eq (row_cmp q (own_key table id row is i))) (Some row) (found_over table entries rows q sorted own below i))))

other_found : (b : Bool) (o : Option Row) → cond b None o ≡ cond (not b) o None
other_found true o = refl
other_found false o = refl

-- an id that is entered with no row is gone from those seen
pub remove_seen : (table : Table) (entries : List Entry) (rows : List Row) (id : Row) → SortedEntries entries → OwnIds table entries → Sorted table rows
    → over_rows table (insert_entry row_cmp entries id None) rows ≡ without_id table id.values (over_rows table entries rows)
remove_seen table entries rows id sorted own below =
    rows_same table (over_rows table (insert_entry row_cmp entries id None) rows) (without_id table id.values (over_rows table entries rows))
    (sorted_over table (insert_entry row_cmp entries id None) rows below)
    (sorted-filter-ids table (λ k. not (are_same k.values id.values)) (over_rows table entries rows) (sorted_over table entries rows below))
    (λ q.
    found_over table (insert_entry row_cmp entries id None) rows q (sorted-insert_entry row_cmp_total id None entries sorted) (all-insert_entry (OwnId table) id None entries own tt) below
    ∙ ap (λ o. unwrap_or o (at q (keyed table rows))) (lookup-insert_entry row_cmp_total q id None entries)
    ∙ entered_put (is_eq (row_cmp q id)) None (at q entries) (at q (keyed table rows))
    ∙ other_found (is_eq (row_cmp q id)) (unwrap_or (at q entries) (at q (keyed table rows)))
    ∙ sym (λ i. cond (not (same_as_rows q id i)) (found_over table entries rows q sorted own below i) None)
    ∙ sym (found-filter-ids table (λ k. not (are_same k.values id.values)) (over_rows table entries rows) q))

-- ---- rows laid together

abbrev first_of : Option Row → Option Row → Option Row
first_of None other = other
first_of (Some row) other = Some row

first_alone : (o : Option Row) → first_of o None ≡ o
first_alone None = refl
first_alone (Some row) = refl

first_or : (b : Bool) (row : Row) (o other : Option Row) → cond b (Some row) (first_of o other) ≡ first_of (cond b (Some row) o) other
first_or true row o other = refl
first_or false row o other = refl

found-put_in : (table : Table) (rows : List Row) (laid : List (Row × Row)) (q : Row) → at q (put_in table rows laid) ≡ first_of (at q (keyed table rows)) (at q laid)
found-put_in table [] laid q = refl
found-put_in table (row ∷ rows) laid q =
    lookup-insert_entry row_cmp_total q (id_row table row) row (put_in table rows laid)
    ∙ ap (cond (is_eq (row_cmp q (id_row table row))) (Some row)) (found-put_in table rows laid q)
    ∙ first_or (is_eq (row_cmp q (id_row table row))) row (at q (keyed table rows)) (at q laid)

pub sorted-put_in : (table : Table) (rows : List Row) (laid : List (Row × Row)) → IsStrictlySortedBy row_cmp (keys_of laid) → IsStrictlySortedBy row_cmp (keys_of (put_in table rows laid))
sorted-put_in table [] laid sorted = sorted
sorted-put_in table (row ∷ rows) laid sorted = sorted-insert_entry row_cmp_total (id_row table row) row (put_in table rows laid) (sorted-put_in table rows laid sorted)

abbrev pub flat : Option (Option Row) → Option Row
flat None = None
flat (Some now) = now

flat_none : (b : Bool) (o : Option (Option Row)) → (b ≡ true → o ≡ None) → flat o ≡ flat (cond b (Some None) o)
flat_none true o none = ap flat (none refl)
flat_none false o none = refl

flat_some : (b : Bool) (row : Row) (o : Option (Option Row)) → cond b (Some row) (flat o) ≡ flat (cond b (Some (Some row)) o)
flat_some true row o = refl
flat_some false row o = refl

found_present : (table : Table) (entries : List Entry) (q : Row) → SortedEntries entries → OwnIds table entries → at q (keyed table (present entries)) ≡ flat (at q entries)
found_present table [] q sorted own = refl
found_present table (e ∷ entries) q sorted own = by_now e.1 own.0 (λ s. behind e entries q sorted s) (found_present table entries q (tail_sorted e entries sorted) own.1)
  where
    by_now : (now : Option Row) → IfSome now (λ row. id_of table row ≡ e.0.values) → (is_eq (row_cmp q e.0) ≡ true → at q entries ≡ None)
        → at q (keyed table (present entries)) ≡ flat (at q entries)
        → at q (keyed table (rows_and (present entries) now)) ≡ flat (cond (is_eq (row_cmp q e.0)) (Some now) (at q entries))
    by_now None own none later = later ∙ flat_none (is_eq (row_cmp q e.0)) (at q entries) none
    by_now (Some row) own none later =
        (λ i. cond (is_eq (row_cmp q (own_key table e.0 row own i))) (Some row) (later i)) ∙ flat_some (is_eq (row_cmp q e.0)) row (at q entries)

below_present : (table : Table) (y : Row) (entries : List Entry) → OwnIds table entries → AllByRecursion (λ z. row_cmp y z ≡ Less) (keys_of entries) → AllByRecursion (λ z. row_cmp y z ≡ Less) (keys_of (keyed table (present entries)))
below_present table y [] own below = tt
below_present table y (e ∷ entries) own below = by_now e.1 own.0 (below_present table y entries own.1 below.1)
  where
    by_now : (now : Option Row) → IfSome now (λ row. id_of table row ≡ e.0.values) → AllByRecursion (λ z. row_cmp y z ≡ Less) (keys_of (keyed table (present entries)))
        → AllByRecursion (λ z. row_cmp y z ≡ Less) (keys_of (keyed table (rows_and (present entries) now)))
    by_now None own later = later
    by_now (Some row) own later = (ap (row_cmp y) (own_key table e.0 row own) ∙ below.0, later)

pub sorted_present : (table : Table) (entries : List Entry) → SortedEntries entries → OwnIds table entries → Sorted table (present entries)
unfolding IsStrictlySortedBy
sorted_present table [] sorted own = tt
sorted_present table (e ∷ entries) sorted own = by_now e.1 own.0 (sorted_present table entries sorted.1 own.1)
  where
    by_now : (now : Option Row) → IfSome now (λ row. id_of table row ≡ e.0.values) → Sorted table (present entries) → Sorted table (rows_and (present entries) now)
    by_now None own_id later = later
    by_now (Some row) own_id later = (subst (λ k. AllByRecursion (λ z. row_cmp k z ≡ Less) (keys_of (keyed table (present entries)))) (sym (own_key table e.0 row own_id)) (below_present table e.0 entries own.1 sorted.0), later)

whole : (p : Row → Bool) (o : Option (Option Row)) (below : Option Row)
    → first_of (option_filter p (flat o)) (first_of (cond (not (is_some o)) (option_filter p below) None) None) ≡ option_filter p (unwrap_or o below)
whole p None below = first_alone (option_filter p below)
whole p (Some None) below = refl
whole p (Some (Some row)) below = first_alone (option_filter p (Some row))

-- what is chosen of the rows seen is what was chosen of the rows below and of those that are entered
pub laid_seen : (table : Table) (entries : List Entry) (chosen : Row → Bool) (rows : List Row) → SortedEntries entries → OwnIds table entries → Sorted table rows
    → laid_over table entries chosen (filter chosen rows) ≡ filter chosen (over_rows table entries rows)
unfolding IsStrictlySortedBy
laid_seen table entries chosen rows sorted own below =
    let laid : List (Row × Row) = put_in table (untouched table entries (filter chosen rows)) [] in
    let ordered : IsStrictlySortedBy row_cmp (keys_of laid) = sorted-put_in table (untouched table entries (filter chosen rows)) [] tt in
    ap values_of (found_same row_cmp_total exact_row (put_in table (filter chosen (present entries)) laid) (keyed table (filter chosen (over_rows table entries rows)))
    (sorted-put_in table (filter chosen (present entries)) laid ordered)
    (sorted-filter-rows table chosen (over_rows table entries rows) (sorted_over table entries rows below))
    (λ q.
    found-put_in table (filter chosen (present entries)) laid q
    ∙ (λ i. first_of (found-filter table chosen (present entries) q (sorted_present table entries sorted own) i) (found-put_in table (untouched table entries (filter chosen rows)) [] q i))
    ∙ (λ i. first_of (option_filter chosen (found_present table entries q sorted own i)) (first_of (found-untouched table entries (filter chosen rows) q i) None))
    ∙ (λ i. first_of (option_filter chosen (flat (at q entries))) (first_of (cond (not (is_some (at q entries))) (found-filter table chosen rows q below i) None) None))
    ∙ whole chosen (at q entries) (at q (keyed table rows))
    ∙ sym (found-filter table chosen (over_rows table entries rows) q (sorted_over table entries rows below) ∙ ap (option_filter chosen) (found_over table entries rows q sorted own below))))
    ∙ values-keyed table (filter chosen (over_rows table entries rows))

-- ---- what holds of each row holds of those laid together

both_hold : (a b : Bool) → a ≡ true → b ≡ true → a && b ≡ true
both_hold a b x y = rw (x, y) refl

all_values-insert : (p : Row → Bool) (id row : Row) (laid : List (Row × Row)) → list_all p (values_of laid) ≡ true → p row ≡ true → list_all p (values_of (insert_entry row_cmp laid id row)) ≡ true
all_values-insert p id row [] all one = both_hold (p row) true one refl
all_values-insert p id row (e ∷ laid) all one = by_order (row_cmp id e.0) (and_parts (p e.1) (list_all p (values_of laid)) all) (all_values-insert p id row laid (and_parts (p e.1) (list_all p (values_of laid)) all).1 one)
  where
    by_order : (o : Ordering) → (p e.1 ≡ true) × (list_all p (values_of laid) ≡ true) → list_all p (values_of (insert_entry row_cmp laid id row)) ≡ true
        → list_all p (values_of (match_ordering o ((id, row) ∷ e ∷ laid) ((e.0, row) ∷ laid) (e ∷ insert_entry row_cmp laid id row))) ≡ true
    by_order Less parts later = both_hold (p row) (p e.1 && list_all p (values_of laid)) one (both_hold (p e.1) (list_all p (values_of laid)) parts.0 parts.1)
    by_order Equal parts later = both_hold (p row) (list_all p (values_of laid)) one parts.1
    by_order Greater parts later = both_hold (p e.1) (list_all p (values_of (insert_entry row_cmp laid id row))) parts.0 later

all_put_in : (p : Row → Bool) (table : Table) (rows : List Row) (laid : List (Row × Row)) → list_all p rows ≡ true → list_all p (values_of laid) ≡ true → list_all p (values_of (put_in table rows laid)) ≡ true
all_put_in p table [] laid all others = others
all_put_in p table (row ∷ rows) laid all others =
    let parts = and_parts (p row) (list_all p rows) all in
    all_values-insert p (id_row table row) row (put_in table rows laid) (all_put_in p table rows laid parts.1 others) parts.0

all_filter : (p q : Row → Bool) (rows : List Row) → list_all p rows ≡ true → list_all p (filter q rows) ≡ true
all_filter p q [] all = refl
all_filter p q (row ∷ rows) all =
    let parts = and_parts (p row) (list_all p rows) all in
    elim (q row) as (λ b. list_all p (cond b (row ∷ filter q rows) (filter q rows)) ≡ true) [ true ↦ both_hold (p row) (list_all p (filter q rows)) parts.0 (all_filter p q rows parts.1) | false ↦ all_filter p q rows parts.1 ]

pub all_laid : (p : Row → Bool) (table : Table) (entries : List Entry) (chosen : Row → Bool) (rows : List Row) → list_all p rows ≡ true → list_all p (present entries) ≡ true → list_all p (laid_over table entries chosen rows) ≡ true
all_laid p table entries chosen rows all there =
    all_put_in p table (filter chosen (present entries)) (put_in table (untouched table entries rows) []) (all_filter p chosen (present entries) there)
    (all_put_in p table (untouched table entries rows) [] (all_filter p (λ row. not (is_entered entries (id_of table row))) rows all) refl)
