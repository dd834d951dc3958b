-- What comes to stand in one order, when rows are swapped by their ids.
use Rattle.std.proofs.Common.{◌≡◌, find, Option, Some, None, IfSome, Bool, true, false, cond, refl, sym, ap, ◌∙◌, Ordering, Less, Equal, Greater, is_eq}
use mathlib.Core.Bool.{true≢false}
use Rattle.std.specs.Ordering.{ordering_then, ordering_reverse}
use Rattle.qe_base.specs.declared.value.Row.{Row}
use Rattle.qe_schema.specs.Columns.{at_columns, values_cmp}
use Rattle.qe_mem.specs.Keys.{keyed_cmp, under, stands_at, row_order}
use Rattle.qe_mem.specs.KeyOrder.{keyed_cmp_total}
use Rattle.qe_mem.specs.Listings.{Listing, found_at, IsInOrder}
use Rattle.qe_mem.specs.Turns.{take_or_shift, turn_between, entered, settled, IsUnder, IsFree}
use Rattle.qe_mem.specs.Kept.{ArePaired}
use Rattle.qe_mem.specs.declared.keyed.Columns.{Columns}
use Rattle.qe_mem.specs.declared.keyed.Columns.TheVariants.{Whole, Listed}
use Rattle.qe_mem.specs.declared.keyed.Keyed.{Keyed}
use Rattle.qe_mem.specs.declared.turns.Turn.{Turn}
use Rattle.qe_mem.specs.declared.turns.Turn.TheVariants.{Stay, Come, Go, Take, Shift}
use Rattle.qe_mem.proofs.Standing.{eq_of, keep, both_at, find-insert, find-replace, find-remove, sorted-insert, sorted-replace, sorted-remove}

-- ---- which rows have one id

-- rows that stand at one place of the order have one id
abbrev pub Refines : Columns → Columns → Type 0
Refines ids order = (x y : Row) → stands_at order (under order x) y ≡ true → stands_at ids (under ids x) y ≡ true

pub refines_itself : (ids : Columns) → Refines ids ids
refines_itself ids x y is = is

second_equal : (o p : Ordering) → is_eq (ordering_then o p) ≡ true → p ≡ Equal
second_equal Equal p is = eq_of p is
second_equal Less p is = cc
second_equal Greater p is = cc

then_none : (o : Ordering) → ordering_then o Equal ≡ o
then_none Less = refl
then_none Equal = refl
then_none Greater = refl

pub refines_paired : (ids order : Columns) → ArePaired ids order → Refines ids order
refines_paired Whole order paired x y is = absurd paired
refines_paired (Listed ids none) Whole paired x y is = absurd paired
refines_paired (Listed ids none) (Listed key again) paired x y is =
    let by_ids : values_cmp (at_columns again x) (at_columns again y) ≡ Equal = second_equal (values_cmp (at_columns key x) (at_columns key y)) (values_cmp (at_columns again x) (at_columns again y)) is in
    ap is_eq (ap (λ n. ordering_then (values_cmp (at_columns ids x) (at_columns ids y)) (values_cmp (at_columns n x) (at_columns n y))) paired.0 ∙ then_none (values_cmp (at_columns ids x) (at_columns ids y)) ∙ ap (λ n. values_cmp (at_columns n x) (at_columns n y)) (sym paired.1) ∙ by_ids)

-- the same test from the other side
pub stands_back : (k p : Keyed) → is_eq (keyed_cmp k p) ≡ is_eq (keyed_cmp p k)
stands_back k p = ap is_eq (keyed_cmp_total.antisymm k p) ∙ reversed (keyed_cmp p k)
  where
    reversed : (o : Ordering) → is_eq (ordering_reverse o) ≡ is_eq o
    reversed Less = refl
    reversed Equal = refl
    reversed Greater = refl

-- ---- what a turn leaves at a place

abbrev pub when_entered : Columns → Turn → Keyed → Option Row → Option Row
when_entered order Stay place before = before
when_entered order (Come to) place before = cond (stands_at order place to.row) (Some to.row) before
when_entered order (Go from) place before = before
when_entered order (Take to) place before = before
when_entered order (Shift from to) place before = cond (stands_at order place to.row) (Some to.row) before

abbrev pub when_settled : Columns → Turn → Keyed → Option Row → Option Row
when_settled order Stay place before = before
when_settled order (Come to) place before = before
when_settled order (Go from) place before = cond (is_eq (keyed_cmp from place)) None before
when_settled order (Take to) place before = cond (stands_at order place to.row) (Some to.row) before
when_settled order (Shift from to) place before = cond (is_eq (keyed_cmp from place)) None before

found_with : (listing : Listing) (to place : Keyed) → to.columns ≡ listing.columns → found_at listing to ≡ None → found_at (entered (Come to) listing) place ≡ cond (stands_at listing.columns place to.row) (Some to.row) (found_at listing place)
found_with listing to place columns free =
    find-insert keyed_cmp_total (under listing.columns) place to.row listing.rows (ap (λ (c : Columns). find (stands_at listing.columns (under c to.row)) listing.rows) (sym columns) ∙ free)

pub found_entered : (turn : Turn) (listing : Listing) (place : Keyed) → IsUnder listing.columns turn → IsFree turn listing → found_at (entered turn listing) place ≡ when_entered listing.columns turn place (found_at listing place)
found_entered Stay listing place columns free = refl
found_entered (Come to) listing place columns free = found_with listing to place columns free
found_entered (Go from) listing place columns free = refl
found_entered (Take to) listing place columns free = refl
found_entered (Shift from to) listing place columns free = found_with listing to place columns free

pub found_settled : (turn : Turn) (listing : Listing) (place : Keyed) → IsInOrder listing → found_at (settled turn listing) place ≡ when_settled listing.columns turn place (found_at listing place)
found_settled Stay listing place in_order = refl
found_settled (Come to) listing place in_order = refl
found_settled (Go from) listing place in_order = find-remove keyed_cmp_total (under listing.columns) place from listing.rows in_order
found_settled (Take to) listing place in_order = find-replace keyed_cmp_total (under listing.columns) place to.row listing.rows
found_settled (Shift from to) listing place in_order = find-remove keyed_cmp_total (under listing.columns) place from listing.rows in_order

pub entered_in_order : (turn : Turn) (listing : Listing) → IsInOrder listing → IsInOrder (entered turn listing)
entered_in_order Stay listing in_order = in_order
entered_in_order (Come to) listing in_order = sorted-insert keyed_cmp_total (under listing.columns) to.row listing.rows in_order
entered_in_order (Go from) listing in_order = in_order
entered_in_order (Take to) listing in_order = in_order
entered_in_order (Shift from to) listing in_order = sorted-insert keyed_cmp_total (under listing.columns) to.row listing.rows in_order

pub settled_in_order : (turn : Turn) (listing : Listing) → IsInOrder listing → IsInOrder (settled turn listing)
settled_in_order Stay listing in_order = in_order
settled_in_order (Come to) listing in_order = in_order
settled_in_order (Go from) listing in_order = sorted-remove keyed_cmp_total (under listing.columns) (stands_at listing.columns from) listing.rows in_order
settled_in_order (Take to) listing in_order = sorted-replace keyed_cmp_total (under listing.columns) to.row listing.rows in_order
settled_in_order (Shift from to) listing in_order = sorted-remove keyed_cmp_total (under listing.columns) (stands_at listing.columns from) listing.rows in_order

-- ---- at the place of another id nothing changes

module _ (order : Columns) (row : Row) where
  -- the place of a row
  abbrev place : Keyed
  place = under order row

  abbrev here : Row → Bool
  here = stands_at order place

  from_here : (old : Row) → is_eq (keyed_cmp (under order old) place) ≡ here old
  from_here old = stands_back (under order old) place

  pub other_entered : (old new : Option Row) (before : Option Row) → IfSome new (λ x. here x ≡ false) → when_entered order (turn_between order old new) place before ≡ before
  other_entered None None before apart = refl
  other_entered None (Some new) before apart = rw apart refl
  other_entered (Some old) None before apart = refl
  other_entered (Some old) (Some new) before apart = by_test (is_eq (row_order order new old))
    where
      by_test : (b : Bool) → when_entered order (take_or_shift b (under order old) (under order new)) place before ≡ before
      by_test true = refl
      by_test false = rw apart refl

  pub other_settled : (old new : Option Row) (before : Option Row) → IfSome old (λ x. here x ≡ false) → IfSome new (λ x. here x ≡ false) → when_settled order (turn_between order old new) place before ≡ before
  other_settled None None before gone come = refl
  other_settled None (Some new) before gone come = refl
  other_settled (Some old) None before gone come = rw (from_here old ∙ gone) refl
  other_settled (Some old) (Some new) before gone come = by_test (is_eq (row_order order new old))
    where
      by_test : (b : Bool) → when_settled order (take_or_shift b (under order old) (under order new)) place before ≡ before
      by_test true = rw come refl
      by_test false = rw (from_here old ∙ gone) refl

  -- ---- at the place of its id the new row comes to stand, if that is its place

  same_place : (old new : Row) → is_eq (row_order order new old) ≡ true → here new ≡ here old
  same_place old new same = ap is_eq (keyed_cmp_total.antisymm place (under order new) ∙ ap ordering_reverse (keyed_cmp_total.congr (under order new) (under order old) place (eq_of _ same)) ∙ sym (keyed_cmp_total.antisymm place (under order old)))

  not_both : (old new : Row) → is_eq (row_order order new old) ≡ false → here new ≡ true → here old ≡ false
  not_both old new apart at_new = by_test (here old) refl
    where
      by_test : (b : Bool) → here old ≡ b → here old ≡ false
      by_test false is = is
      by_test true is = absurd (true≢false (sym (ap is_eq (both_at keyed_cmp_total place (under order new) (under order old) (eq_of _ at_new) (eq_of _ is))) ∙ apart))

  pub its_own : (old new : Option Row) → when_settled order (turn_between order old new) place (when_entered order (turn_between order old new) place (keep here old)) ≡ keep here new
  its_own None None = refl
  its_own None (Some new) = refl
  its_own (Some old) None = ap (λ b. cond b None (cond (here old) (Some old) None)) (from_here old) ∙ either (here old)
    where
      either : (b : Bool) → cond b None (cond b (Some old) None) ≡ None
      either true = refl
      either false = refl
  its_own (Some old) (Some new) = by_test (is_eq (row_order order new old)) refl
    where
      taken : (b : Bool) → here new ≡ here old → cond b (Some new) (cond (here old) (Some old) None) ≡ cond b (Some new) None → cond (here new) (Some new) (cond (here old) (Some old) None) ≡ cond (here new) (Some new) None
      taken b same is = elim (here old) as (λ b. here new ≡ b → cond (here new) (Some new) (cond b (Some old) None) ≡ cond (here new) (Some new) None) [
        | true ↦ λ at. rw at refl
        | false ↦ λ at. rw at refl
      ] same

      shifted : (a b : Bool) → (b ≡ true → a ≡ false) → cond a None (cond b (Some new) (cond a (Some old) None)) ≡ cond b (Some new) None
      shifted true true apart = absurd (true≢false (apart refl))
      shifted true false apart = refl
      shifted false b apart = refl

      by_test : (b : Bool) → is_eq (row_order order new old) ≡ b
          → when_settled order (take_or_shift b (under order old) (under order new)) place (when_entered order (take_or_shift b (under order old) (under order new)) place (keep here (Some old))) ≡ keep here (Some new)
      by_test true is = elim (here old) as (λ b. here new ≡ b → cond (here new) (Some new) (cond b (Some old) None) ≡ cond (here new) (Some new) None) [
        | true ↦ λ at. rw at refl
        | false ↦ λ at. rw at refl
      ] (same_place old new is)
      by_test false is = ap (λ a. cond a None (cond (here new) (Some new) (cond (here old) (Some old) None))) (from_here old) ∙ shifted (here old) (here new) (not_both old new is)
