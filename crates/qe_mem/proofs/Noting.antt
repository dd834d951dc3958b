-- What changes say of the ids of one table, beside its rows after these changes.
use Rattle.std.proofs.Common.{◌≡◌, ℕ, zero, suc, ◌<◌, ◌==◌, List, [], ◌∷◌, ◌++◌, map, filter, find, length, get_or, slice_get, slice_set, Option, Some, None, IfSome, Bool, true, false, cond, not, refl, sym, ap, subst, ◌∙◌, arith, Ordering, Less, Equal, Greater, is_eq}
use Rattle.std.specs.List.{AllByRecursion}
use Rattle.std.specs.List.Sorted.{IsStrictlySortedBy}
use Rattle.std.specs.Map.{keys_of, lookup}
use Rattle.std.specs.Ordering.{is_lt, is_gt, match_ordering}
use Rattle.std.specs.BTreeMap.{is_at}
use Rattle.std.specs.BTreeSet.{replace_key}
use Rattle.std.specs.Set.{remove_key}
use Rattle.std.proofs.Math.Dec.{eqb-suc-suc}
use Rattle.std.proofs.lemmas.List.{length-set}
use Rattle.std.proofs.lemmas.Option.{slice_get_within, get_or_from_slice_get}
use Rattle.std.proofs.lemmas.Bool.{eqb-true}
use Rattle.qe_base.specs.declared.value.Row.{Row}
use Rattle.qe_base.specs.declared.value.TableId.{TableId}
use Rattle.qe_view.specs.After.{pair_row}
use Rattle.qe_view.specs.declared.changes.Change.{Change}
use Rattle.qe_view.specs.declared.changes.Change.TheVariants.{Remove, Put, Unlink, Link, Counter}
use Rattle.qe_mem.specs.Keys.{keyed_cmp, under, stands_at, row_order}
use Rattle.qe_mem.specs.KeyOrder.{keyed_cmp_total}
use Rattle.qe_mem.specs.Each.{AllOfBoth}
use Rattle.qe_mem.specs.Plans.{Pending, with_entry, gone_step, come_step, step_of, noted, noted_all}
use Rattle.qe_mem.specs.Kept.{kept_at, nothing_kept}
use Rattle.qe_mem.specs.declared.keyed.Columns.{Columns}
use Rattle.qe_mem.specs.declared.keyed.Keyed.{Keyed}
use Rattle.qe_mem.specs.declared.pending.Step.{Step}
use Rattle.qe_mem.specs.declared.table.MemTable.{MemTable}
use Rattle.qe_mem.proofs.Standing.{eq_of, keep, itself, turned, all_mapped, find-replace, find-remove, sorted-replace, sorted-remove, replace_between, remove_others}
use Rattle.qe_mem.proofs.Swapping.{stands_back}
use Rattle.qe_mem.proofs.Swapped.{HasId, AreEntries, said_at, by_entry}
use Rattle.qe_mem.proofs.Exactness.{IsPending, pending_at}

-- ---- entries with one more

module _ (place : Keyed) (row : Option Row) where
  below_entered : (k : Keyed) (es : Pending) → keyed_cmp k place ≡ Less → AllByRecursion (λ z. keyed_cmp k z ≡ Less) (keys_of es) → AllByRecursion (λ z. keyed_cmp k z ≡ Less) (keys_of (with_entry place row es))
  below_entered k [] less below = (less, tt)
  below_entered k (e ∷ es) less below = by_order (keyed_cmp place e.0) (below_entered k es less below.1)
    where
      by_order : (o : Ordering) → AllByRecursion (λ z. keyed_cmp k z ≡ Less) (keys_of (with_entry place row es)) → AllByRecursion (λ z. keyed_cmp k z ≡ Less) (keys_of (match_ordering o ((place, row) ∷ e ∷ es) ((e.0, row) ∷ es) (e ∷ with_entry place row es)))
      by_order Less later = (less, below)
      by_order Equal later = below
      by_order Greater later = (below.0, later)

  sorted_entered : (es : Pending) → IsStrictlySortedBy keyed_cmp (keys_of es) → IsStrictlySortedBy keyed_cmp (keys_of (with_entry place row es))
  unfolding IsStrictlySortedBy
  sorted_entered [] sorted = (tt, tt)
  sorted_entered (e ∷ es) sorted = by_order (keyed_cmp place e.0) refl (sorted_entered es sorted.1)
    where
      by_order : (o : Ordering) → keyed_cmp place e.0 ≡ o → IsStrictlySortedBy keyed_cmp (keys_of (with_entry place row es)) → IsStrictlySortedBy keyed_cmp (keys_of (match_ordering o ((place, row) ∷ e ∷ es) ((e.0, row) ∷ es) (e ∷ with_entry place row es)))
      by_order Less is later = ((is, all_mapped (λ z. keyed_cmp e.0 z ≡ Less) (λ z. keyed_cmp place z ≡ Less) (λ z less. keyed_cmp_total.trans place e.0 z is less) (keys_of es) sorted.0), sorted)
      by_order Equal is later = sorted
      by_order Greater is later = (below_entered e.0 es (turned keyed_cmp_total place e.0 Greater is) sorted.0, later)

  same_id : (ids : Columns) (other : Keyed) → keyed_cmp place other ≡ Equal → HasId ids (place, row) → HasId ids (other, row)
  same_id ids other same has = by_row row has
    where
      by_row : (found : Option Row) → IfSome found (λ r. stands_at ids place r ≡ true) → IfSome found (λ r. stands_at ids other r ≡ true)
      by_row None has = tt
      by_row (Some r) has = ap is_eq (sym (keyed_cmp_total.congr place other (under ids r) same)) ∙ has

  ids_entered : (ids : Columns) (es : Pending) → AllByRecursion (HasId ids) es → HasId ids (place, row) → AllByRecursion (HasId ids) (with_entry place row es)
  ids_entered ids [] have has = (has, tt)
  ids_entered ids (e ∷ es) have has = by_order (keyed_cmp place e.0) refl (ids_entered ids es have.1 has)
    where
      by_order : (o : Ordering) → keyed_cmp place e.0 ≡ o → AllByRecursion (HasId ids) (with_entry place row es) → AllByRecursion (HasId ids) (match_ordering o ((place, row) ∷ e ∷ es) ((e.0, row) ∷ es) (e ∷ with_entry place row es))
      by_order Less is later = (has, have)
      by_order Equal is later = (same_id ids e.0 is has, have.1)
      by_order Greater is later = (have.0, later)

  entries_entered : (ids : Columns) (es : Pending) → AreEntries ids es → HasId ids (place, row) → AreEntries ids (with_entry place row es)
  entries_entered ids es entries has = record { in_order = sorted_entered es entries.in_order; have_ids = ids_entered ids es entries.have_ids has }

  found_entered : (q : Keyed) (es : Pending) → lookup (is_at (keyed_cmp q)) (with_entry place row es) ≡ cond (is_eq (keyed_cmp q place)) (Some row) (lookup (is_at (keyed_cmp q)) es)
  found_entered q [] = refl
  found_entered q (e ∷ es) = by_order (keyed_cmp place e.0) (keyed_cmp q e.0) refl refl (found_entered q es)
    where
      same_back : (k y : Keyed) → is_eq (keyed_cmp k y) ≡ is_eq (keyed_cmp y k)
      same_back = stands_back

      by_order : (o p : Ordering) → keyed_cmp place e.0 ≡ o → keyed_cmp q e.0 ≡ p → lookup (is_at (keyed_cmp q)) (with_entry place row es) ≡ cond (is_eq (keyed_cmp q place)) (Some row) (lookup (is_at (keyed_cmp q)) es)
          → lookup (is_at (keyed_cmp q)) (match_ordering o ((place, row) ∷ e ∷ es) ((e.0, row) ∷ es) (e ∷ with_entry place row es)) ≡ cond (is_eq (keyed_cmp q place)) (Some row) (cond (is_eq p) (Some e.1) (lookup (is_at (keyed_cmp q)) es))
      by_order Less p is at later = rw at refl
      by_order Equal p is at later =
          let here : is_eq p ≡ is_eq (keyed_cmp q place) = ap is_eq (sym at) ∙ same_back q e.0 ∙ ap is_eq (sym (keyed_cmp_total.congr place e.0 q is)) ∙ same_back place q in
          rw (at, here) (elim (is_eq (keyed_cmp q place)) as (λ b. cond b (Some row) (lookup (is_at (keyed_cmp q)) es) ≡ cond b (Some row) (cond b (Some e.1) (lookup (is_at (keyed_cmp q)) es))) [ true ↦ refl | false ↦ refl ])
      by_order Greater Equal is at later =
          let apart : is_eq (keyed_cmp q place) ≡ false = ap is_eq (keyed_cmp_total.congr q e.0 place at) ∙ ap is_eq (turned keyed_cmp_total place e.0 Greater is) in
          rw (at, apart) refl
      by_order Greater Less is at later = rw at later
      by_order Greater Greater is at later = rw at later

-- ---- what a list has after one was set

pub at_set : {X : Type 0} (xs : List X) (at : ℕ) (now d : X) (n : ℕ) → at < length xs → get_or (slice_set xs at now) n d ≡ cond (n == at) now (get_or xs n d)
at_set [] at now d n lt = absurd (omega arith)
at_set (x ∷ xs) zero now d zero lt = refl
at_set (x ∷ xs) zero now d (suc n) lt = grind arith
at_set (x ∷ xs) (suc at) now d zero lt = grind arith
at_set {X} (x ∷ xs) (suc at) now d (suc n) lt = at_set xs at now d n (omega arith) ∙ ap (λ b. cond b now (get_or xs n d)) (sym (eqb-suc-suc n at))

-- ---- the steps of changes

-- a step is in a table that there is, and its row has the id where it comes
pub record IsStepOf (kept : List MemTable) (step : Step) : Type 0 where
  pub within : step.table.0 < length kept
  pub has_id : HasId (kept_at kept step.table.0).rows.columns (step.place, step.row)

gone_is : (kept : List MemTable) (table : TableId) (id : Row) → (found : Option MemTable) → slice_get kept table.0 ≡ found → IfSome (gone_step table id found) (IsStepOf kept)
gone_is kept table id None is = tt
gone_is kept table id (Some one) is = record { within = slice_get_within kept table.0 one is; has_id = tt }

come_is : (kept : List MemTable) (table : TableId) (row : Row) → (found : Option MemTable) → slice_get kept table.0 ≡ found → IfSome (come_step table row found) (IsStepOf kept)
come_is kept table row None is = tt
come_is kept table row (Some one) is = record {
  within = slice_get_within kept table.0 one is;
  has_id = subst (λ (t : MemTable). stands_at t.rows.columns (under one.rows.columns row) row ≡ true) (sym (get_or_from_slice_get kept table.0 one nothing_kept is)) (ap is_eq (itself keyed_cmp_total (under one.rows.columns row)));
}

pub step_is : (kept : List MemTable) (change : Change) → IfSome (step_of kept change) (IsStepOf kept)
step_is kept (Remove table id) = gone_is kept table id _ refl
step_is kept (Put table row) = come_is kept table row _ refl
step_is kept (Unlink table a b) = gone_is kept table (pair_row (a, b)) _ refl
step_is kept (Link table a b) = come_is kept table (pair_row (a, b)) _ refl
step_is kept (Counter table last) = tt

-- ---- what is pending after changes

set_pending : (pendings : List Pending) (kept : List MemTable) (at : ℕ) (now : Pending) → AllOfBoth IsPending pendings kept → IsPending now (kept_at kept at) → AllOfBoth IsPending (slice_set pendings at now) kept
set_pending [] kept at now all is = tt
set_pending (pending ∷ pendings) [] at now all is = absurd all
set_pending (pending ∷ pendings) (table ∷ kept) zero now all is = (is, all.1)
set_pending (pending ∷ pendings) (table ∷ kept) (suc at) now all is = (all.0, set_pending pendings kept at now all.1 is)

noted_pending : (kept : List MemTable) (step : Option Step) (pendings : List Pending) → IfSome step (IsStepOf kept) → AllOfBoth IsPending pendings kept → AllOfBoth IsPending (noted step pendings) kept
noted_pending kept None pendings is all = all
noted_pending kept (Some step) pendings is all = set_pending pendings kept step.table.0 (with_entry step.place step.row (get_or pendings step.table.0 [])) all (entries_entered step.place step.row (kept_at kept step.table.0).rows.columns (get_or pendings step.table.0 []) (pending_at pendings kept step.table.0 all) is.has_id)

pub all_pending : (kept : List MemTable) (changes : List Change) (pendings : List Pending) → AllOfBoth IsPending pendings kept → AllOfBoth IsPending (noted_all kept changes pendings) kept
all_pending kept [] pendings all = all
all_pending kept (change ∷ changes) pendings all = all_pending kept changes (noted (step_of kept change) pendings) (noted_pending kept (step_of kept change) pendings (step_is kept change) all)

noted_length : (step : Option Step) (pendings : List Pending) → length (noted step pendings) ≡ length pendings
noted_length None pendings = refl
noted_length (Some step) pendings = length-set pendings step.table.0 (with_entry step.place step.row (get_or pendings step.table.0 []))

pub all_length : (kept : List MemTable) (changes : List Change) (pendings : List Pending) → length (noted_all kept changes pendings) ≡ length pendings
all_length kept [] pendings = refl
all_length kept (change ∷ changes) pendings = all_length kept changes (noted (step_of kept change) pendings) ∙ noted_length (step_of kept change) pendings

-- nothing is pending at first
abbrev pub nothing_pending : List MemTable → List Pending
nothing_pending kept = map (λ table. []) kept

pub none_pending : (kept : List MemTable) → AllOfBoth IsPending (nothing_pending kept) kept
unfolding IsStrictlySortedBy
none_pending [] = tt
none_pending (table ∷ kept) = (record { in_order = tt; have_ids = tt }, none_pending kept)

pub none_at : (kept : List MemTable) (table : ℕ) → get_or (nothing_pending kept) table [] ≡ []
none_at [] table = refl
none_at (one ∷ kept) zero = refl
none_at (one ∷ kept) (suc table) = none_at kept table

-- ---- the rows of a table after steps

-- the rows with this one at its place, or none there
abbrev pub set_row : Columns → Keyed → Option Row → List Row → List Row
set_row ids place None rows = filter (λ other. not (stands_at ids place other)) rows
set_row ids place (Some row) rows = filter (λ other. is_gt (keyed_cmp place (under ids other))) rows ++ row ∷ filter (λ other. is_lt (keyed_cmp place (under ids other))) rows

abbrev pub stepped : Columns → ℕ → Option Step → List Row → List Row
stepped ids table None rows = rows
stepped ids table (Some step) rows = cond (table == step.table.0) (set_row ids step.place step.row rows) rows

abbrev pub stepped_all : Columns → ℕ → List MemTable → List Change → List Row → List Row
stepped_all ids table kept [] rows = rows
stepped_all ids table kept (change ∷ changes) rows = stepped_all ids table kept changes (stepped ids table (step_of kept change) rows)

module _ (ids : Columns) where
  set_is_replace : (place : Keyed) (row : Row) (rows : List Row) → stands_at ids place row ≡ true → IsStrictlySortedBy (row_order ids) rows → set_row ids place (Some row) rows ≡ replace_key (row_order ids) rows row
  set_is_replace place row rows at sorted =
      (λ i. filter (λ other. is_gt (same other i)) rows ++ row ∷ filter (λ other. is_lt (same other i)) rows)
      ∙ sym (replace_between keyed_cmp_total (under ids) row rows sorted)
    where
      same : (other : Row) → keyed_cmp place (under ids other) ≡ row_order ids row other
      same other = keyed_cmp_total.congr place (under ids row) (under ids other) (eq_of _ at)

  set_is_remove : (place : Keyed) (rows : List Row) → IsStrictlySortedBy (row_order ids) rows → set_row ids place None rows ≡ remove_key (stands_at ids place) rows
  set_is_remove place rows sorted = sym (remove_others keyed_cmp_total (under ids) place rows sorted)

  sorted_set : (place : Keyed) (row : Option Row) (rows : List Row) → HasId ids (place, row) → IsStrictlySortedBy (row_order ids) rows → IsStrictlySortedBy (row_order ids) (set_row ids place row rows)
  sorted_set place None rows has sorted = subst (IsStrictlySortedBy (row_order ids)) (sym (set_is_remove place rows sorted)) (sorted-remove keyed_cmp_total (under ids) (stands_at ids place) rows sorted)
  sorted_set place (Some row) rows has sorted = subst (IsStrictlySortedBy (row_order ids)) (sym (set_is_replace place row rows has sorted)) (sorted-replace keyed_cmp_total (under ids) row rows sorted)

  -- what stands at an id, when a row is set
  found_set : (place : Keyed) (row : Option Row) (rows : List Row) → HasId ids (place, row) → IsStrictlySortedBy (row_order ids) rows → (at : Row)
      → find (stands_at ids (under ids at)) (set_row ids place row rows) ≡ cond (is_eq (keyed_cmp (under ids at) place)) (keep (stands_at ids (under ids at)) row) (find (stands_at ids (under ids at)) rows)
  found_set place None rows has sorted at =
      ap (find (stands_at ids (under ids at))) (set_is_remove place rows sorted) ∙ find-remove keyed_cmp_total (under ids) (under ids at) place rows sorted
      ∙ ap (λ b. cond b None (find (stands_at ids (under ids at)) rows)) (stands_back place (under ids at))
  found_set place (Some row) rows has sorted at =
      ap (find (stands_at ids (under ids at))) (set_is_replace place row rows has sorted) ∙ find-replace keyed_cmp_total (under ids) (under ids at) row rows
      ∙ either (stands_at ids (under ids at) row) (is_eq (keyed_cmp (under ids at) place)) same_test
    where
      same_test : is_eq (keyed_cmp (under ids at) place) ≡ stands_at ids (under ids at) row
      same_test = stands_back (under ids at) place ∙ ap is_eq (keyed_cmp_total.congr place (under ids row) (under ids at) (eq_of _ has)) ∙ stands_back (under ids row) (under ids at)

      either : (b d : Bool) → d ≡ b → cond b (Some row) (find (stands_at ids (under ids at)) rows) ≡ cond d (cond b (Some row) None) (find (stands_at ids (under ids at)) rows)
      either true d same = rw same refl
      either false d same = rw same refl

  -- what is said of an id is what stands there
  step_agrees : (table : ℕ) (kept : List MemTable) (step : Option Step) (pendings : List Pending) (rows : List Row) (at : Row) (before : Option Row) → ids ≡ (kept_at kept table).rows.columns → length pendings ≡ length kept → IfSome step (IsStepOf kept)
      → IsStrictlySortedBy (row_order ids) rows → by_entry ids at (said_at ids at (get_or pendings table [])) before ≡ find (stands_at ids (under ids at)) rows
      → by_entry ids at (said_at ids at (get_or (noted step pendings) table [])) before ≡ find (stands_at ids (under ids at)) (stepped ids table step rows)
  step_agrees table kept None pendings rows at before columns count is sorted agrees = agrees
  step_agrees table kept (Some step) pendings rows at before columns count is sorted agrees =
      ap (λ es. by_entry ids at (said_at ids at es) before) (at_set pendings step.table.0 (with_entry step.place step.row (get_or pendings step.table.0 [])) [] table (subst (λ n. step.table.0 < n) (sym count) is.within))
      ∙ by_test (table == step.table.0) refl
    where
      here : (b : Bool) → by_entry ids at (cond b (Some step.row) (said_at ids at (get_or pendings table []))) before ≡ cond b (keep (stands_at ids (under ids at)) step.row) (find (stands_at ids (under ids at)) rows)
      here true = refl
      here false = agrees

      by_test : (b : Bool) → table == step.table.0 ≡ b
          → by_entry ids at (said_at ids at (cond b (with_entry step.place step.row (get_or pendings step.table.0 [])) (get_or pendings table []))) before ≡ find (stands_at ids (under ids at)) (cond b (set_row ids step.place step.row rows) rows)
      by_test false same = agrees
      by_test true same =
          let number : table ≡ step.table.0 = eqb-true table step.table.0 same in
          let has : HasId ids (step.place, step.row) = subst (λ c. HasId c (step.place, step.row)) (sym (columns ∙ ap (λ n. (kept_at kept n).rows.columns) number)) is.has_id in
          ap (λ n. by_entry ids at (said_at ids at (with_entry step.place step.row (get_or pendings n []))) before) (sym number)
          ∙ ap (λ said. by_entry ids at said before) (found_entered step.place step.row (under ids at) (get_or pendings table []))
          ∙ here (is_eq (keyed_cmp (under ids at) step.place))
          ∙ sym (found_set step.place step.row rows has sorted at)

  sorted_step : (table : ℕ) (kept : List MemTable) (step : Option Step) (rows : List Row) → ids ≡ (kept_at kept table).rows.columns → IfSome step (IsStepOf kept) → IsStrictlySortedBy (row_order ids) rows → IsStrictlySortedBy (row_order ids) (stepped ids table step rows)
  sorted_step table kept None rows columns is sorted = sorted
  sorted_step table kept (Some step) rows columns is sorted = by_test (table == step.table.0) refl
    where
      by_test : (b : Bool) → table == step.table.0 ≡ b → IsStrictlySortedBy (row_order ids) (cond b (set_row ids step.place step.row rows) rows)
      by_test false same = sorted
      by_test true same =
          sorted_set step.place step.row rows (subst (λ c. HasId c (step.place, step.row)) (sym (columns ∙ ap (λ n. (kept_at kept n).rows.columns) (eqb-true table step.table.0 same))) is.has_id) sorted

  pub all_agree : (table : ℕ) (kept : List MemTable) (changes : List Change) (pendings : List Pending) (rows : List Row) (at : Row) (before : Option Row) → ids ≡ (kept_at kept table).rows.columns → length pendings ≡ length kept
      → IsStrictlySortedBy (row_order ids) rows → by_entry ids at (said_at ids at (get_or pendings table [])) before ≡ find (stands_at ids (under ids at)) rows
      → by_entry ids at (said_at ids at (get_or (noted_all kept changes pendings) table [])) before ≡ find (stands_at ids (under ids at)) (stepped_all ids table kept changes rows)
  all_agree table kept [] pendings rows at before columns count sorted agrees = agrees
  all_agree table kept (change ∷ changes) pendings rows at before columns count sorted agrees =
      all_agree table kept changes (noted (step_of kept change) pendings) (stepped ids table (step_of kept change) rows) at before columns (noted_length (step_of kept change) pendings ∙ count)
      (sorted_step table kept (step_of kept change) rows columns (step_is kept change) sorted)
      (step_agrees table kept (step_of kept change) pendings rows at before columns count (step_is kept change) sorted agrees)

  pub all_sorted : (table : ℕ) (kept : List MemTable) (changes : List Change) (rows : List Row) → ids ≡ (kept_at kept table).rows.columns → IsStrictlySortedBy (row_order ids) rows → IsStrictlySortedBy (row_order ids) (stepped_all ids table kept changes rows)
  all_sorted table kept [] rows columns sorted = sorted
  all_sorted table kept (change ∷ changes) rows columns sorted = all_sorted table kept changes (stepped ids table (step_of kept change) rows) columns (sorted_step table kept (step_of kept change) rows columns (step_is kept change) sorted)
