-- The fields of keys as sets: two sets are the same just where the keys have the same fields.
use Rattle.std.proofs.Common.{◌≡◌, ℕ, suc, ◌+◌, ◌<◌, ◌≤◌, Bool, true, false, cond, not, ◌&&◌, ◌||◌, List, [], ◌∷◌, ◌++◌, map, length, take, drop, get_or, Option, Some, None, refl, sym, ap, subst, ◌∙◌, Bor, Less, is_eq, BTreeSet, HashSet, arith}
use mathlib.Core.Bool.{true≢false}
use Rattle.std.proofs.Math.Bool.{not-not}
use Rattle.std.proofs.Math.Seq.{take-suc}
use Rattle.std.proofs.Math.ListN.{drop_of_length-le}
use Rattle.std.proofs.lemmas.List.{drop_more}
use Rattle.std.proofs.lemmas.List.Folds.{list_any-append}
use Rattle.std.proofs.lemmas.Slice.Eq.{bytes_eq-Decides}
use Rattle.std.proofs.lemmas.Map.Text.{is_eq-slice_cmp}
use Rattle.std.proofs.lemmas.Map.Lookups.{btree_set_from_contains, exact_bytes}
use Rattle.std.specs.Prelude.{bytes_eq, nat_eq}
use Rattle.std.specs.Ordering.{nat_cmp}
use Rattle.std.specs.Cmp.Lexicographic.{slice_cmp, pointwise, pointwise_decides, nat_list_eq_equiv, nat_list_cmp_total}
use Rattle.std.specs.List.{list_any, list_all, AllByRecursion}
use Rattle.std.specs.List.Sorted.{IsStrictlySortedBy}
use Rattle.std.specs.BTreeSet as sorted
use Rattle.std.specs.HashSet as bag
use Rattle.psl_rules.specs.declared.key.Key.{Key}
use Rattle.psl_rules.specs.Parts.{Spelling, earlier, noted, first}
use Rattle.qe_text.specs.Lists.{is_among, repeats_behind}
use Rattle.psl_rules.specs.Keys.{is_within, are_same_set, same_fields, key_place}
use Rattle.psl_parts.proofs.Firsts.{earlier_assoc, left_at}
use Rattle.psl_keys.specs.Gathered.{by_bytes, Gathers}

-- ---- truth

and_first : (a b : Bool) → (a && b) ≡ true → a ≡ true
and_first true b h = refl
and_first false b h = h

and_second : (a b : Bool) → (a && b) ≡ true → b ≡ true
and_second true b h = h
and_second false true h = refl
and_second false false h = h

and_both : (a b : Bool) → a ≡ true → b ≡ true → (a && b) ≡ true
and_both true b h k = k
and_both false b h k = h

pub and_turned : (a b : Bool) → (a && b) ≡ (b && a)
and_turned true true = refl
and_turned true false = refl
and_turned false true = refl
and_turned false false = refl

or_first : (a b : Bool) → a ≡ true → (a || b) ≡ true
or_first true b h = refl
or_first false true h = refl
or_first false false h = h

or_second : (a b : Bool) → b ≡ true → (a || b) ≡ true
or_second true b h = refl
or_second false b h = h

or_none : (b : Bool) → (b || false) ≡ b
or_none true = refl
or_none false = refl

both : (a b : Bool) → (a ≡ true → b ≡ true) → (b ≡ true → a ≡ true) → a ≡ b
both true b to from = sym (to refl)
both false true to from = from refl
both false false to from = refl

-- ---- names among names

subset : (a b : List Spelling) → is_within a b ≡ true → (name : Spelling) → is_among name a ≡ true → is_among name b ≡ true
subset [] b within name found = absurd (true≢false (sym found))
subset (one ∷ a) b within name found = by_case (bytes_eq name one) refl (subset a b (and_second (is_among one b) (is_within a b) within) name) found
  where
    by_case : (c : Bool) → bytes_eq name one ≡ c → (is_among name a ≡ true → is_among name b ≡ true) → (c || is_among name a) ≡ true → is_among name b ≡ true
    by_case true is later found = ap (λ n. is_among n b) ((bytes_eq-Decides name one).0 is) ∙ and_first (is_among one b) (is_within a b) within
    by_case false is later found = later found

within_of : (a b : List Spelling) → ((name : Spelling) → is_among name a ≡ true → is_among name b ≡ true) → is_within a b ≡ true
within_of [] b h = refl
within_of (one ∷ a) b h =
    and_both (is_among one b) (is_within a b) (h one (or_first (bytes_eq one one) (is_among one a) ((bytes_eq-Decides one one).1 refl))) (within_of a b (λ name found. h name (or_second (bytes_eq name one) (is_among name a) found)))

same_members : (a b : List Spelling) → are_same_set a b ≡ true → (name : Spelling) → is_among name a ≡ is_among name b
same_members a b same name =
    both (is_among name a) (is_among name b) (subset a b (and_first (is_within a b) (is_within b a) same) name) (subset b a (and_second (is_within a b) (is_within b a) same) name)

same_set_of : (a b : List Spelling) → ((name : Spelling) → is_among name a ≡ is_among name b) → are_same_set a b ≡ true
same_set_of a b alike = and_both (is_within a b) (is_within b a) (within_of a b (λ name found. sym (alike name) ∙ found)) (within_of b a (λ name found. alike name ∙ found))

-- ---- sets in order

abbrev now_of : List (Bor Spelling) → List Spelling
now_of = map (λ name. name.now)

abbrev bor : Spelling → Bor Spelling
bor name = record { ref_ptr = (0, 0); now = name }

abbrev texts : BTreeSet (Bor Spelling) → BTreeSet Spelling
texts set = record { keys = now_of set.keys }

abbrev has : Spelling → List Spelling → Bool
has name = list_any (λ text. is_eq (slice_cmp nat_cmp name text))

has_now : (keys : List (Bor Spelling)) (name : Spelling) → list_any (λ key. is_eq (slice_cmp nat_cmp name key.now)) keys ≡ has name (now_of keys)
has_now [] name = refl
has_now (key ∷ keys) name = ap (λ b. is_eq (slice_cmp nat_cmp name key.now) || b) (has_now keys name)

below_now : (one : Bor Spelling) (keys : List (Bor Spelling)) → AllByRecursion (λ key. by_bytes one key ≡ Less) keys → AllByRecursion (λ text. slice_cmp nat_cmp one.now text ≡ Less) (now_of keys)
below_now one [] below = tt
below_now one (key ∷ keys) below = (below.0, below_now one keys below.1)

sorted_now : (keys : List (Bor Spelling)) → IsStrictlySortedBy by_bytes keys → IsStrictlySortedBy (slice_cmp nat_cmp) (now_of keys)
unfolding IsStrictlySortedBy
sorted_now [] sorted = tt
sorted_now (key ∷ keys) sorted = (below_now key keys sorted.0, sorted_now keys sorted.1)

abbrev same_text : Bor Spelling → Bor Spelling → Bool
same_text one other = pointwise nat_eq one.now other.now

abbrev pub same_set : BTreeSet (Bor Spelling) → BTreeSet (Bor Spelling) → Bool
same_set one other = pointwise same_text one.keys other.keys

same_now : (one other : List (Bor Spelling)) → pointwise same_text one other ≡ pointwise (pointwise nat_eq) (now_of one) (now_of other)
same_now [] [] = refl
same_now [] (key ∷ other) = refl
same_now (key ∷ one) [] = refl
same_now (key ∷ one) (text ∷ other) = ap (λ b. same_text key text && b) (same_now one other)

-- sets of the same names are equal
pub alike : (one other : BTreeSet (Bor Spelling)) (a b : List Spelling) → Gathers one a → Gathers other b → same_set one other ≡ are_same_set a b
alike one other a b h k =
    let decided = pointwise_decides (λ x y. bytes_eq-Decides x y) (now_of one.keys) (now_of other.keys) in
    both (same_set one other) (are_same_set a b)
    (λ same. same_set_of a b (λ name. sym (h.1 (bor name)) ∙ has_now one.keys name ∙ ap (has name) (decided.0 (sym (same_now one.keys other.keys) ∙ same)) ∙ sym (has_now other.keys name) ∙ k.1 (bor name)))
    (λ same. same_now one.keys other.keys ∙ decided.1 (
    btree_set_from_contains nat_list_cmp_total (texts one) (texts other) (sorted_now one.keys h.0) (sorted_now other.keys k.0)
    (λ name. sym (has_now one.keys name) ∙ h.1 (bor name) ∙ same_members a b same name ∙ sym (k.1 (bor name)) ∙ has_now other.keys name) exact_bytes))

-- ---- one field more

shuffle : (h b r : Bool) → (cond b true h || r) ≡ (h || (b || r))
shuffle true true r = refl
shuffle true false r = refl
shuffle false true r = refl
shuffle false false r = refl

pub turn_field : (fields : List Spelling) (i : ℕ) (field : Spelling) (text name : Bor Spelling) (old new : BTreeSet (Bor Spelling)) (whole : Bool) → i < length fields → field ≡ get_or fields i field → text.now ≡ field
    → sorted.contains by_bytes new name ≡ cond (is_eq (by_bytes text name)) true (sorted.contains by_bytes old name) → (sorted.contains by_bytes old name || is_among name.now (drop i fields)) ≡ whole
    → (sorted.contains by_bytes new name || is_among name.now (drop (i + 1) fields)) ≡ whole
turn_field fields i field text name old new whole within is text_is new_is before =
    let rest = is_among name.now (drop (i + 1) fields) in
    let had = sorted.contains by_bytes old name in
    ap (λ b. b || rest) new_is ∙ ap (λ b. cond b true had || rest) (is_eq-slice_cmp text.now name.now ∙ nat_list_eq_equiv.symm text.now name.now ∙ ap (bytes_eq name.now) (text_is ∙ is))
    ∙ shuffle had (bytes_eq name.now (get_or fields i field)) rest ∙ ap (λ names. had || is_among name.now names) (sym (drop_more fields i field within)) ∙ before

pub all_fields : (fields : List Spelling) (i : ℕ) (name : Bor Spelling) (had whole : Bool) → length fields ≤ i → (had || is_among name.now (drop i fields)) ≡ whole → had ≡ whole
all_fields fields i name had whole end before = sym (or_none had) ∙ ap (λ names. had || is_among name.now names) (sym (drop_of_length-le fields end)) ∙ before

-- ---- one key more

-- the sets of the keys before
abbrev pub Seen : {S : Type 0} → HashSet (BTreeSet (Bor Spelling)) S → List Key → Type 0
Seen seen before = (set : BTreeSet (Bor Spelling)) (names : List Spelling) → Gathers set names → bag.contains same_set seen set ≡ list_any (λ key. are_same_set names key.fields) before

-- what was found and seen before a key, in front of the keys that are left
abbrev pub Turns : {S : Type 0} → List Key → ℕ → Option ℕ → HashSet (BTreeSet (Bor Spelling)) S → Option ℕ → Type 0
Turns keys i found seen whole = (earlier found (first (map key_place (repeats_behind same_fields (take i keys) (drop i keys)))) ≡ whole) × Seen seen (take i keys)

more : (b h : Bool) → cond b true h ≡ (h || (b || false))
more true true = refl
more true false = refl
more false true = refl
more false false = refl

then_seen : {S : Type 0} (old new : HashSet (BTreeSet (Bor Spelling)) S) (set : BTreeSet (Bor Spelling)) (key : Key) (before : List Key) → Seen old before → Gathers set key.fields
    → ((other : BTreeSet (Bor Spelling)) → bag.contains same_set new other ≡ cond (same_set set other) true (bag.contains same_set old other)) → Seen new (before ++ key ∷ [])
then_seen old new set key before seen gathers updates = λ other names gathered.
    let test : Key → Bool = λ one. are_same_set names one.fields in
    updates other ∙ ap (λ b. cond b true (bag.contains same_set old other)) (alike set other key.fields names gathers gathered ∙ and_turned (is_within key.fields names) (is_within names key.fields))
    ∙ ap (cond (test key) true) (seen other names gathered) ∙ more (test key) (list_any test before) ∙ sym (list_any-append test before (key ∷ []))

one_more : (before rest : List Key) (key : Key) (found : Option ℕ) (repeated : Bool) → list_any (same_fields key) before ≡ repeated
    → earlier (noted found repeated key.name.at) (first (map key_place (repeats_behind same_fields (before ++ key ∷ []) rest))) ≡ earlier found (first (map key_place (repeats_behind same_fields before (key ∷ rest))))
one_more before rest key found true is =
    let later = repeats_behind same_fields (before ++ key ∷ []) rest in
    sym (earlier_assoc found (Some key.name.at) (first (map key_place later))) ∙ sym (ap (λ b. earlier found (first (map key_place (cond b (key ∷ later) later)))) is)
one_more before rest key found false is =
    let later = repeats_behind same_fields (before ++ key ∷ []) rest in
    sym (ap (λ b. earlier found (first (map key_place (cond b (key ∷ later) later)))) is)

next : (i : ℕ) → i + 1 ≡ suc i
next i = omega arith

taken : (keys : List Key) (i : ℕ) (key : Key) → i < length keys → key ≡ get_or keys i key → take (i + 1) keys ≡ take i keys ++ key ∷ []
taken keys i key within is = ap (λ n. take n keys) (next i) ∙ take-suc keys i key within ∙ ap (λ one. take i keys ++ one ∷ []) (sym is)

pub turn : {S : Type 0} (keys : List Key) (i : ℕ) (key : Key) (set : BTreeSet (Bor Spelling)) (old new : HashSet (BTreeSet (Bor Spelling)) S) (found result whole : Option ℕ) (is_new : Bool) → i < length keys
    → key ≡ get_or keys i key → Gathers set key.fields → is_new ≡ not (bag.contains same_set old set)
    → ((other : BTreeSet (Bor Spelling)) → bag.contains same_set new other ≡ cond (same_set set other) true (bag.contains same_set old other)) → result ≡ noted found (not is_new) key.name.at
    → Turns keys i found old whole → Turns keys (i + 1) result new whole
turn keys i key set old new found result whole is_new within key_is gathers new_is updates result_is h =
    let before = take i keys in
    let rest = drop (i + 1) keys in
    let repeated = list_any (same_fields key) before in
    let breaks : not is_new ≡ repeated = ap not new_is ∙ not-not (bag.contains same_set old set) ∙ h.1 set key.fields gathers in
    let all = taken keys i key within key_is in (
      ap (λ r. earlier r (first (map key_place (repeats_behind same_fields (take (i + 1) keys) rest)))) (result_is ∙ ap (λ b. noted found b key.name.at) breaks)
          ∙ ap (λ keys. earlier (noted found repeated key.name.at) (first (map key_place (repeats_behind same_fields keys rest)))) all
          ∙ one_more before rest key found repeated refl ∙ ap (λ keys. earlier found (first (map key_place (repeats_behind same_fields before keys)))) (sym (left_at keys i key within key_is)) ∙ h.0,
      subst (Seen new) (sym all) (then_seen old new set key before h.1 gathers updates),
    )
