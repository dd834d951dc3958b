-- Turns one after another, and turns that are undone.
use Rattle.std.proofs.Common.{◌≡◌, ℕ, zero, suc, ◌+◌, ◌<◌, List, [], ◌∷◌, ◌++◌, length, take, get_or, None, refl, sym, ap, subst, ◌∙◌, find}
use Rattle.std.specs.List.{AllByRecursion}
use Rattle.std.proofs.lemmas.List.{take_more}
use Rattle.std.proofs.lemmas.List.Elements.{All-from_recursion}
use Rattle.std.specs.Set.{remove_key}
use Rattle.std.specs.BTreeSet.{insert_key}
use Rattle.qe_base.specs.declared.value.Row.{Row}
use Rattle.qe_mem.specs.Keys.{row_order, stands_at, under}
use Rattle.qe_mem.specs.KeyOrder.{keyed_cmp_total}
use Rattle.qe_mem.specs.Listings.{Listing, found_at}
use Rattle.qe_mem.specs.Turns.{with_row, without_row, entered, left, settled, entered_all, left_all, settled_all, IsUnder, IsFree, IsThere, AreFree, AreThere, CanEnter, CanSettle}
use Rattle.qe_mem.specs.declared.keyed.Columns.{Columns}
use Rattle.qe_mem.specs.declared.keyed.Keyed.{Keyed}
use Rattle.qe_mem.specs.declared.turns.Turn.{Turn}
use Rattle.qe_mem.specs.declared.turns.Turn.TheVariants.{Stay, Come, Go, Take, Shift}
use Rattle.qe_mem.proofs.Standing.{undo_insert}

-- ---- one more turn

entered_last : (turns : List Turn) (turn : Turn) (listing : Listing) → entered_all (turns ++ turn ∷ []) listing ≡ entered turn (entered_all turns listing)
entered_last [] turn listing = refl
entered_last (first ∷ turns) turn listing = entered_last turns turn (entered first listing)

left_last : (turns : List Turn) (turn : Turn) (listing : Listing) → left_all (turns ++ turn ∷ []) listing ≡ left_all turns (left turn listing)
left_last [] turn listing = refl
left_last (first ∷ turns) turn listing = ap (left first) (left_last turns turn listing)

settled_last : (turns : List Turn) (turn : Turn) (listing : Listing) → settled_all (turns ++ turn ∷ []) listing ≡ settled_all turns (settled turn listing)
settled_last [] turn listing = refl
settled_last (first ∷ turns) turn listing = ap (settled first) (settled_last turns turn listing)

one_more : (turns : List Turn) (at : ℕ) (turn : Turn) → at < length turns → turn ≡ get_or turns at turn → take (at + 1) turns ≡ take at turns ++ turn ∷ []
one_more turns at turn within is = take_more turns at turn within ∙ ap (λ t. take at turns ++ t ∷ []) (sym is)

pub enter_more : (turns : List Turn) (at : ℕ) (turn : Turn) (first before after : Listing) → at < length turns → turn ≡ get_or turns at turn → before ≡ entered_all (take at turns) first → after ≡ entered turn before → after ≡ entered_all (take (at + 1) turns) first
enter_more turns at turn first before after within is so_far one =
    one ∙ ap (entered turn) so_far ∙ sym (ap (λ l. entered_all l first) (one_more turns at turn within is) ∙ entered_last (take at turns) turn first)

pub leave_more : (turns : List Turn) (at : ℕ) (turn : Turn) (before after all : Listing) → at < length turns → turn ≡ get_or turns at turn → left_all (take (at + 1) turns) before ≡ all → after ≡ left turn before → left_all (take at turns) after ≡ all
leave_more turns at turn before after all within is so_far one =
    ap (left_all (take at turns)) one ∙ sym (left_last (take at turns) turn before) ∙ ap (λ l. left_all l before) (sym (one_more turns at turn within is)) ∙ so_far

-- ---- what turns need, one after another

settled_columns : (turn : Turn) (listing : Listing) → (settled turn listing).columns ≡ listing.columns
settled_columns Stay listing = refl
settled_columns (Come to) listing = refl
settled_columns (Go from) listing = refl
settled_columns (Take to) listing = refl
settled_columns (Shift from to) listing = refl

pub entered_columns : (turn : Turn) (listing : Listing) → (entered turn listing).columns ≡ listing.columns
entered_columns Stay listing = refl
entered_columns (Come to) listing = refl
entered_columns (Go from) listing = refl
entered_columns (Take to) listing = refl
entered_columns (Shift from to) listing = refl

pub all_entered_columns : (turns : List Turn) (listing : Listing) → (entered_all turns listing).columns ≡ listing.columns
all_entered_columns [] listing = refl
all_entered_columns (turn ∷ turns) listing = all_entered_columns turns (entered turn listing) ∙ entered_columns turn listing

pub all_settled_columns : (turns : List Turn) (listing : Listing) → (settled_all turns listing).columns ≡ listing.columns
all_settled_columns [] listing = refl
all_settled_columns (turn ∷ turns) listing = settled_columns turn (settled_all turns listing) ∙ all_settled_columns turns listing

pub under_at : (columns : Columns) (turns : List Turn) (at : ℕ) (turn : Turn) → AllByRecursion (IsUnder columns) turns → at < length turns → turn ≡ get_or turns at turn → IsUnder columns turn
under_at columns turns at turn all within is = subst (IsUnder columns) (sym is) (All-from_recursion (IsUnder columns) turns all at turn within)

pub enter_under : (turns : List Turn) (at : ℕ) (turn : Turn) (first before : Listing) → CanEnter turns first → at < length turns → turn ≡ get_or turns at turn → before ≡ entered_all (take at turns) first → IsUnder before.columns turn
enter_under turns at turn first before can within is so_far = subst (λ c. IsUnder c turn) (sym (ap (λ (l : Listing). l.columns) so_far ∙ all_entered_columns (take at turns) first)) (under_at first.columns turns at turn can.columns within is)

-- ---- turns undone

come_undone : (to : Keyed) (listing : Listing) → to.columns ≡ listing.columns → found_at listing to ≡ None → without_row to (with_row to.row listing) ≡ listing
come_undone to listing columns free = ap (λ (rows : List Row). let now : Listing = record { columns = listing.columns; rows = rows } in now) (same_rows (λ i. record { columns = columns i; row = to.row }))
  where
    same_rows : to ≡ under listing.columns to.row → remove_key (stands_at listing.columns to) (insert_key (row_order listing.columns) listing.rows to.row) ≡ listing.rows
    same_rows is =
        ap (λ (k : Keyed). remove_key (stands_at listing.columns k) (insert_key (row_order listing.columns) listing.rows to.row)) is
        ∙ undo_insert keyed_cmp_total (under listing.columns) to.row listing.rows (ap (λ (k : Keyed). find (stands_at listing.columns k) listing.rows) (sym is) ∙ free)

one_undone : (turn : Turn) (listing : Listing) → IsUnder listing.columns turn → IsFree turn listing → left turn (entered turn listing) ≡ listing
one_undone Stay listing columns free = refl
one_undone (Come to) listing columns free = come_undone to listing columns free
one_undone (Go from) listing columns free = refl
one_undone (Take to) listing columns free = refl
one_undone (Shift from to) listing columns free = come_undone to listing columns free

pub undone : (turns : List Turn) (count : ℕ) (listing : Listing) → AllByRecursion (IsUnder listing.columns) turns → AreFree turns listing → left_all (take count turns) (entered_all (take count turns) listing) ≡ listing
undone [] zero listing columns free = refl
undone [] (suc count) listing columns free = refl
undone (turn ∷ turns) zero listing columns free = refl
undone (turn ∷ turns) (suc count) listing columns free =
    ap (left turn) (undone turns count (entered turn listing) (subst (λ c. AllByRecursion (IsUnder c) turns) (sym (entered_columns turn listing)) columns.1) free.1)
    ∙ one_undone turn listing columns.0 free.0

pub all_undone : (turns : List Turn) (count : ℕ) (first before after : Listing) → CanEnter turns first → before ≡ entered_all (take count turns) first → after ≡ left_all (take count turns) before → after ≡ first
all_undone turns count first before after can so_far is = is ∙ ap (left_all (take count turns)) so_far ∙ undone turns count first can.columns can.free

-- ---- the last turn settled first

last_under : (columns : Columns) (turns : List Turn) (turn : Turn) → AllByRecursion (IsUnder columns) (turns ++ turn ∷ []) → AllByRecursion (IsUnder columns) turns × IsUnder columns turn
last_under columns [] turn all = (tt, all.0)
last_under columns (first ∷ turns) turn all = let later = last_under columns turns turn all.1 in ((all.0, later.0), later.1)

last_there : (turns : List Turn) (turn : Turn) (listing : Listing) → AreThere (turns ++ turn ∷ []) listing → AreThere turns (settled turn listing) × IsThere turn listing
last_there [] turn listing there = (tt, there.0)
last_there (first ∷ turns) turn listing there =
    let later = last_there turns turn listing there.1 in
    ((subst (IsThere first) (settled_last turns turn listing) there.0, later.0), later.1)

pub last_can : (all turns : List Turn) (turn : Turn) (listing : Listing) → all ≡ turns ++ turn ∷ [] → CanSettle all listing → CanSettle turns (settled turn listing) × IsUnder listing.columns turn × IsThere turn listing
last_can all turns turn listing split can =
    let columns = last_under listing.columns turns turn (subst (AllByRecursion (IsUnder listing.columns)) split can.columns) in
    let there = last_there turns turn listing (subst (λ l. AreThere l listing) split can.there) in
    (record { columns = subst (λ c. AllByRecursion (IsUnder c) turns) (sym (settled_columns turn listing)) columns.0; there = there.0 }, columns.1, there.1)

pub settle_more : (all turns : List Turn) (turn : Turn) (before after end : Listing) → all ≡ turns ++ turn ∷ [] → after ≡ settled turn before → settled_all all before ≡ end → settled_all turns after ≡ end
settle_more all turns turn before after end split one so_far = ap (settled_all turns) one ∙ sym (settled_last turns turn before) ∙ ap (λ l. settled_all l before) (sym split) ∙ so_far

-- ---- all turns of an order undone

pub turns_undone : (turns : List Turn) (listing : Listing) → CanEnter turns listing → left_all turns (entered_all turns listing) ≡ listing
turns_undone [] listing can = refl
turns_undone (turn ∷ turns) listing can =
    ap (left turn) (turns_undone turns (entered turn listing) (record { columns = subst (λ c. AllByRecursion (IsUnder c) turns) (sym (entered_columns turn listing)) can.columns.1; free = can.free.1 }))
    ∙ one_undone turn listing can.columns.0 can.free.0
