-- What stands in one order when all rows are swapped by their ids.
use Rattle.std.proofs.Common.{◌≡◌, List, [], ◌∷◌, map, Option, Some, None, IfSome, Bool, true, false, cond, is_some, refl, sym, ap, subst, ◌∙◌, Less, is_eq}
use mathlib.Core.Bool.{true≢false}
use Rattle.std.specs.List.{AllByRecursion}
use Rattle.std.specs.List.Sorted.{IsStrictlySortedBy}
use Rattle.std.specs.Map.{keys_of, lookup}
use Rattle.std.specs.BTreeMap.{is_at}
use Rattle.qe_base.specs.declared.value.Row.{Row}
use Rattle.qe_mem.specs.Keys.{keyed_cmp, under, stands_at, row_order}
use Rattle.qe_mem.specs.KeyOrder.{keyed_cmp_total}
use Rattle.qe_mem.specs.Listings.{Listing, found_at, IsInOrder}
use Rattle.qe_mem.specs.Turns.{take_or_shift, turn_between, turn_of, entered, settled, entered_all, settled_all, IsUnder, IsFree, IsThere, AreFree, AreThere}
use Rattle.qe_mem.specs.Plans.{Pending, swap_at}
use Rattle.qe_mem.specs.declared.keyed.Columns.{Columns}
use Rattle.qe_mem.specs.declared.keyed.Keyed.{Keyed}
use Rattle.qe_mem.specs.declared.turns.Turn.{Turn}
use Rattle.qe_mem.proofs.Standing.{eq_of, keep, all_mapped, find_same, found_stands}
use Rattle.qe_mem.proofs.Turning.{all_entered_columns, all_settled_columns, entered_columns}
use Rattle.qe_mem.proofs.Swapping.{Refines, stands_back, when_entered, when_settled, found_entered, found_settled, entered_in_order, settled_in_order, other_entered, other_settled, its_own}

-- a row that is to stand at an id has it
abbrev pub HasId : Columns → (Keyed × Option Row) → Type 0
HasId ids entry = IfSome entry.1 (λ row. stands_at ids entry.0 row ≡ true)

pub record AreEntries (ids : Columns) (pending : Pending) : Type 0 where
  pub in_order : IsStrictlySortedBy keyed_cmp (keys_of pending)
  pub have_ids : AllByRecursion (HasId ids) pending

-- what is to stand at the id of a row, if anything is said of it
abbrev pub said_at : Columns → Row → Pending → Option (Option Row)
said_at ids row pending = lookup (is_at (keyed_cmp (under ids row))) pending

-- what stands then at a place
abbrev pub by_entry : Columns → Row → Option (Option Row) → Option Row → Option Row
by_entry order row None before = before
by_entry order row (Some new) before = keep (stands_at order (under order row)) new

lookup_none : (place : Keyed) (pending : Pending) → AllByRecursion (λ k. keyed_cmp place k ≡ Less) (keys_of pending) → lookup (is_at (keyed_cmp place)) pending ≡ None
lookup_none place [] above = refl
lookup_none place (entry ∷ pending) above = rw (above.0) (lookup_none place pending above.1)

pub turn_under : (order : Columns) (old new : Option Row) → IsUnder order (turn_between order old new)
turn_under order None None = tt
turn_under order None (Some new) = refl
turn_under order (Some old) None = tt
turn_under order (Some old) (Some new) = by_test (is_eq (row_order order new old))
  where
    by_test : (b : Bool) → IsUnder order (take_or_shift b (under order old) (under order new))
    by_test true = refl
    by_test false = refl

-- what is found at a new row's place says whether its turn can be made
free_turn : (order : Columns) (old new : Option Row) (listing : Listing) → IfSome new (λ row. found_at listing (under order row) ≡ keep (stands_at order (under order row)) old) → IsFree (turn_between order old new) listing
free_turn order None None listing found = tt
free_turn order None (Some new) listing found = found
free_turn order (Some old) None listing found = tt
free_turn order (Some old) (Some new) listing found = by_test (is_eq (row_order order new old)) found
  where
    by_test : (b : Bool) → found_at listing (under order new) ≡ cond b (Some old) None → IsFree (take_or_shift b (under order old) (under order new)) listing
    by_test true found = tt
    by_test false found = found

there_turn : (order : Columns) (old new : Option Row) (listing : Listing) → ((o x : Row) → old ≡ Some o → new ≡ Some x → is_eq (row_order order x o) ≡ true → found_at listing (under order x) ≡ Some o) → IsThere (turn_between order old new) listing
there_turn order None None listing found = tt
there_turn order None (Some new) listing found = tt
there_turn order (Some old) None listing found = tt
there_turn order (Some old) (Some new) listing found = by_test (is_eq (row_order order new old)) (found old new refl refl)
  where
    by_test : (b : Bool) → (b ≡ true → found_at listing (under order new) ≡ Some old) → IsThere (take_or_shift b (under order old) (under order new)) listing
    by_test true found = ap is_some (found refl)
    by_test false found = tt

taken_stays : (order : Columns) (old new : Row) → is_eq (row_order order new old) ≡ true → when_entered order (turn_between order (Some old) (Some new)) (under order new) (keep (stands_at order (under order new)) (Some old)) ≡ Some old
taken_stays order old new same = rw same refl

if_some : {X : Type 0} (P Q : X → Type 0) (o : Option X) → ((x : X) → P x → Q x) → IfSome o P → IfSome o Q
if_some P Q None leads is = tt
if_some P Q (Some x) leads is = leads x is

-- in an order that refines the ids, by what stands at ids
module _ (ids order : Columns) (refines : Refines ids order) (rows : List Row) (sorted : IsInOrder (record { columns = ids; rows = rows })) where
  abbrev table : Listing
  table = record { columns = ids; rows = rows }

  abbrev turns_of : Pending → List Turn
  turns_of pending = map (turn_of order) (map (swap_at table) pending)

  abbrev here : Row → Row → Bool
  here row = stands_at order (under order row)

  -- where something is said of an id, the order has what the table has
  abbrev pub Follows : Pending → Listing → Type 0
  Follows pending listing = (row : Row) → is_some (said_at ids row pending) ≡ true → found_at listing (under order row) ≡ keep (here row) (found_at table (under ids row))

  pub record Outcome (pending : Pending) (listing : Listing) : Type 0 where
    pub free : AreFree (turns_of pending) listing
    pub there : AreThere (turns_of pending) (entered_all (turns_of pending) listing)
    pub in_order : IsInOrder (settled_all (turns_of pending) (entered_all (turns_of pending) listing))
    pub found : (row : Row) → found_at (settled_all (turns_of pending) (entered_all (turns_of pending) listing)) (under order row) ≡ by_entry order row (said_at ids row pending) (found_at listing (under order row))

  module _ (place : Keyed) (new : Option Row) (has_id : HasId ids (place, new)) where
    abbrev old : Option Row
    old = found_at table place

    abbrev turn : Turn
    turn = turn_between order old new

    abbrev is_its : Row → Bool
    is_its row = is_eq (keyed_cmp (under ids row) place)

    its_old : (row : Row) → is_its row ≡ true → found_at table (under ids row) ≡ old
    its_old row its = find_same keyed_cmp_total (under ids) (under ids row) place rows (eq_of _ its)

    apart_from : (row x : Row) → is_its row ≡ false → stands_at ids place x ≡ true → here row x ≡ false
    apart_from row x apart at = by_test (here row x) refl
      where
        by_test : (b : Bool) → here row x ≡ b → here row x ≡ false
        by_test false is = is
        by_test true is =
            absurd (true≢false (sym (ap is_eq (keyed_cmp_total.congr (under ids row) (under ids x) place (eq_of _ (refines row x is))) ∙ stands_back (under ids x) place ∙ at) ∙ apart))

    old_has_id : IfSome old (λ x. stands_at ids place x ≡ true)
    old_has_id = by_found old refl
      where
        by_found : (o : Option Row) → old ≡ o → IfSome o (λ x. stands_at ids place x ≡ true)
        by_found None is = tt
        by_found (Some x) is = found_stands keyed_cmp_total (under ids) place x rows is

    old_apart : (row : Row) → is_its row ≡ false → IfSome old (λ x. here row x ≡ false)
    old_apart row apart = if_some (λ x. stands_at ids place x ≡ true) (λ x. here row x ≡ false) old (λ x. apart_from row x apart) old_has_id

    new_apart : (row : Row) → is_its row ≡ false → IfSome new (λ x. here row x ≡ false)
    new_apart row apart = if_some (λ x. stands_at ids place x ≡ true) (λ x. here row x ≡ false) new (λ x. apart_from row x apart) has_id

    -- the place of another id is left alone
    entered_apart : (listing : Listing) (row : Row) → listing.columns ≡ order → IsFree turn listing → is_its row ≡ false → found_at (entered turn listing) (under order row) ≡ found_at listing (under order row)
    entered_apart listing row columns free apart =
        found_entered turn listing (under order row) (subst (λ c. IsUnder c turn) (sym columns) (turn_under order old new)) free
        ∙ ap (λ c. when_entered c turn (under order row) (found_at listing (under order row))) columns
        ∙ other_entered order row old new (found_at listing (under order row)) (new_apart row apart)

    settled_apart : (listing : Listing) (row : Row) → listing.columns ≡ order → IsInOrder listing → is_its row ≡ false → found_at (settled turn listing) (under order row) ≡ found_at listing (under order row)
    settled_apart listing row columns in_order apart =
        found_settled turn listing (under order row) in_order
        ∙ ap (λ c. when_settled c turn (under order row) (found_at listing (under order row))) columns
        ∙ other_settled order row old new (found_at listing (under order row)) (old_apart row apart) (new_apart row apart)

    -- at its own place the new row comes to stand
    settled_own : (first last : Listing) (row : Row) → first.columns ≡ order → last.columns ≡ order → IsFree turn first → IsInOrder last → found_at first (under order row) ≡ keep (here row) old → found_at last (under order row) ≡ found_at (entered turn first) (under order row)
        → found_at (settled turn last) (under order row) ≡ keep (here row) new
    settled_own first last row columns also free in_order before between =
        found_settled turn last (under order row) in_order
        ∙ ap (λ c. when_settled c turn (under order row) (found_at last (under order row))) also
        ∙ ap (when_settled order turn (under order row))
        (between ∙ found_entered turn first (under order row) (subst (λ c. IsUnder c turn) (sym columns) (turn_under order old new)) free ∙ ap (λ c. when_entered c turn (under order row) (found_at first (under order row))) columns ∙ ap (when_entered order turn (under order row)) before)
        ∙ its_own order row old new

  none_behind : (place : Keyed) (pending : Pending) (row : Row) → AllByRecursion (λ k. keyed_cmp place k ≡ Less) (keys_of pending) → is_eq (keyed_cmp (under ids row) place) ≡ true → said_at ids row pending ≡ None
  none_behind place pending row above its =
      lookup_none (under ids row) pending (all_mapped (λ k. keyed_cmp place k ≡ Less) (λ k. keyed_cmp (under ids row) k ≡ Less) (λ k is. keyed_cmp_total.congr (under ids row) place k (eq_of _ its) ∙ is) (keys_of pending) above)

  some_not_none : {X : Type 0} (o : Option X) → o ≡ None → is_some o ≡ true → ⊥
  some_not_none o none some = true≢false (sym some ∙ ap is_some none)

  -- one swap, and then the others
  module _ (place : Keyed) (new : Option Row) (has_id : HasId ids (place, new)) (pending : Pending) (above : AllByRecursion (λ k. keyed_cmp place k ≡ Less) (keys_of pending)) (listing : Listing) (columns : listing.columns ≡ order) (in_order : IsInOrder listing)
      (follows : Follows ((place, new) ∷ pending) listing) where
    abbrev its : Row → Bool
    its row = is_eq (keyed_cmp (under ids row) place)

    abbrev one : Turn
    one = turn_between order (found_at table place) new

    abbrev next : Listing
    next = entered one listing

    abbrev last : Listing
    last = settled_all (turns_of pending) (entered_all (turns_of pending) next)

    own_found : (row : Row) → its row ≡ true → found_at listing (under order row) ≡ keep (here row) (found_at table place)
    own_found row is = follows row (ap (λ b. is_some (cond b (Some new) (said_at ids row pending))) is) ∙ ap (keep (here row)) (its_old place new has_id row is)

    free_one : IsFree one listing
    free_one =
        free_turn order (found_at table place) new listing
        (if_some (λ x. stands_at ids place x ≡ true) (λ x. found_at listing (under order x) ≡ keep (here x) (found_at table place)) new (λ x at. own_found x (stands_back (under ids x) place ∙ at)) has_id)

    next_columns : next.columns ≡ order
    next_columns = entered_columns one listing ∙ columns

    next_follows : Follows pending next
    next_follows row said = by_test (its row) refl
      where
        by_test : (b : Bool) → its row ≡ b → found_at next (under order row) ≡ keep (here row) (found_at table (under ids row))
        by_test true is = absurd (some_not_none (said_at ids row pending) (none_behind place pending row above is) said)
        by_test false is = entered_apart place new has_id listing row columns free_one is ∙ follows row (ap (λ b. is_some (cond b (Some new) (said_at ids row pending))) is ∙ said)

    module _ (later : Outcome pending next) where
      last_columns : last.columns ≡ order
      last_columns = all_settled_columns (turns_of pending) (entered_all (turns_of pending) next) ∙ all_entered_columns (turns_of pending) next ∙ next_columns

      between : (row : Row) → its row ≡ true → found_at last (under order row) ≡ found_at next (under order row)
      between row is = later.found row ∙ ap (λ said. by_entry order row said (found_at next (under order row))) (none_behind place pending row above is)

      entered_own : (row : Row) → its row ≡ true → found_at next (under order row) ≡ when_entered order one (under order row) (keep (here row) (found_at table place))
      entered_own row is =
          found_entered one listing (under order row) (subst (λ c. IsUnder c one) (sym columns) (turn_under order (found_at table place) new)) free_one
          ∙ ap (λ c. when_entered c one (under order row) (found_at listing (under order row))) columns ∙ ap (when_entered order one (under order row)) (own_found row is)

      there_one : IsThere one last
      there_one = there_turn order (found_at table place) new last taken
        where
          taken : (o x : Row) → found_at table place ≡ Some o → new ≡ Some x → is_eq (row_order order x o) ≡ true → found_at last (under order x) ≡ Some o
          taken o x is_o is_x same =
              let at : stands_at ids place x ≡ true = subst (λ (n : Option Row). IfSome n (λ row. stands_at ids place row ≡ true)) is_x has_id in
              let is : its x ≡ true = stands_back (under ids x) place ∙ at in
              between x is ∙ entered_own x is
              ∙ (λ i. when_entered order (turn_between order (is_o i) (is_x i)) (under order x) (keep (here x) (is_o i)))
              ∙ taken_stays order o x same

      found_last : (row : Row) (b : Bool) → its row ≡ b → found_at (settled one last) (under order row) ≡ by_entry order row (cond b (Some new) (said_at ids row pending)) (found_at listing (under order row))
      found_last row true is = settled_own place new has_id listing last row columns last_columns free_one later.in_order (own_found row is) (between row is)
      found_last row false is =
          settled_apart place new has_id last row last_columns later.in_order is ∙ later.found row
          ∙ ap (by_entry order row (said_at ids row pending)) (entered_apart place new has_id listing row columns free_one is)

      one_more : Outcome ((place, new) ∷ pending) listing
      one_more = record {
        free = (free_one, later.free);
        there = (there_one, later.there);
        in_order = settled_in_order one last later.in_order;
        found = λ row. found_last row (its row) refl;
      }

  pub swapped : (pending : Pending) → AreEntries ids pending → (listing : Listing) → listing.columns ≡ order → IsInOrder listing → Follows pending listing → Outcome pending listing
  unfolding IsStrictlySortedBy
  swapped [] entries listing columns in_order follows = record { free = tt; there = tt; in_order = in_order; found = λ row. refl }
  swapped ((place, new) ∷ pending) entries listing columns in_order follows =
      one_more place new entries.have_ids.0 pending entries.in_order.0 listing columns in_order follows
      (swapped pending (record { in_order = entries.in_order.1; have_ids = entries.have_ids.1 }) (entered (turn_between order (found_at table place) new) listing)
      (next_columns place new entries.have_ids.0 pending entries.in_order.0 listing columns in_order follows)
      (entered_in_order (turn_between order (found_at table place) new) listing in_order)
      (next_follows place new entries.have_ids.0 pending entries.in_order.0 listing columns in_order follows))
