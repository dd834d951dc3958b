-- Changes that can be taken back.
use Rattle.std.proofs.Common.{◌≡◌, ℕ, zero, suc, ◌+◌, ◌≤◌, List, [], ◌∷◌, ◌++◌, length, take, Option, Some, None, unwrap_or, refl, sym, ap, subst, ◌∙◌, arith}
use Rattle.std.specs.Prelude.{slice_get, option_map}
use Rattle.std.proofs.Math.ListN.{length-append}
use Rattle.std.proofs.lemmas.List.{take-append-le}
use Rattle.qe_schema.specs.Tables.{Tables}
use Rattle.qe_view.specs.Versions.{Viewed, GoesBack, changed}
use Rattle.qe_ops.specs.Leaves.{CanGoBack, ChangesTo, Same}

take_whole : {A : Type 0} (xs : List A) → take (length xs) xs ≡ xs
take_whole [] = refl
take_whole (x ∷ xs) = ap (λ rest. x ∷ rest) (take_whole xs)

at_end : {A : Type 0} (xs : List A) (x : A) → slice_get (xs ++ x ∷ []) (length xs) ≡ Some x
at_end [] x = refl
at_end (y ∷ xs) x = at_end xs x

at_front : {A : Type 0} (xs ys : List A) (n : ℕ) (x : A) → slice_get xs n ≡ Some x → slice_get (xs ++ ys) n ≡ Some x
at_front [] ys n x is = absurd cc
at_front (y ∷ xs) ys zero x is = is
at_front (y ∷ xs) ys (suc n) x is = at_front xs ys n x is

pub back_to_itself : (seen : Viewed) → CanGoBack seen seen
back_to_itself seen = record { made = omega arith; past = take_whole seen.past; now = at_end seen.past seen.now }

-- one change more
pub back_over : (change : Tables → Tables) (before seen : Viewed) → CanGoBack before seen → CanGoBack before (changed change seen)
back_over change before seen back =
    let made : length before.past ≤ length seen.past = back.made in
    let longer : length (seen.past ++ seen.now ∷ []) ≡ length seen.past + 1 = length-append seen.past (seen.now ∷ []) in
    record {
      made = omega arith;
      past = take-append-le (length before.past) seen.past (seen.now ∷ []) back.made ∙ back.past;
      now = at_front (seen.past ++ seen.now ∷ []) (option_map change seen.now ∷ []) (length before.past) before.now back.now;
    }

then_mapped : (first second both : Tables → Tables) (told : Option Tables) → ((tables : Tables) → second (first tables) ≡ both tables) → option_map second (option_map first told) ≡ option_map both told
then_mapped first second both None is = refl
then_mapped first second both (Some tables) is = ap Some (is tables)

-- the same tables, and as much that can be taken back
pub back_to_same : (before middle after : Viewed) → CanGoBack before middle → Same middle after → CanGoBack before after
back_to_same before middle after back same = record {
  made = subst (λ (past : List (Option Tables)). length before.past ≤ length past) (sym same.1) back.made;
  past = ap (take (length before.past)) same.1 ∙ back.past;
  now = ap (λ (now : Option Tables). slice_get (after.past ++ now ∷ []) (length before.past)) same.0 ∙ ap (λ (past : List (Option Tables)). slice_get (past ++ middle.now ∷ []) (length before.past)) same.1 ∙ back.now;
}

pub changes_to_same : (change : Tables → Tables) (before middle after : Viewed) → ChangesTo change before middle → Same middle after → ChangesTo change before after
changes_to_same change before middle after changes same = record { now = same.0 ∙ changes.now; back = back_to_same before middle after changes.back same }

pub from_same : (change : Tables → Tables) (before middle after : Viewed) → Same before middle → ChangesTo change middle after → ChangesTo change before after
from_same change before middle after same changes = record {
  now = changes.now ∙ ap (option_map change) same.0;
  back = record {
    made = subst (λ (past : List (Option Tables)). length past ≤ length after.past) same.1 changes.back.made;
    past = ap (λ (past : List (Option Tables)). take (length past) after.past) (sym same.1) ∙ changes.back.past ∙ same.1;
    now = ap (λ (past : List (Option Tables)). slice_get (after.past ++ after.now ∷ []) (length past)) (sym same.1) ∙ changes.back.now ∙ ap Some same.0;
  };
}

-- what was reached, and one change more
pub reaches_over : (first second both : Tables → Tables) (before middle after : Viewed) → ((tables : Tables) → second (first tables) ≡ both tables) → ChangesTo first before middle → Same (changed second middle) after → ChangesTo both before after
reaches_over first second both before middle after is reached same = record {
  now = same.0 ∙ ap (option_map second) reached.now ∙ then_mapped first second both before.now is;
  back = back_to_same before (changed second middle) after (back_over second before middle reached.back) same;
}

some_same : {A : Type 0} (one other : A) → Some one ≡ Some other → one ≡ other
some_same one other is = ap (λ o. unwrap_or o one) is

-- all that came since was taken back
pub went_back : (mark : ℕ) (before middle after : Viewed) → mark ≡ length before.past → CanGoBack before middle → GoesBack mark middle after → Same before after
went_back mark before middle after mark_is can goes = (
  some_same after.now before.now (sym goes.now ∙ ap (slice_get (middle.past ++ middle.now ∷ [])) mark_is ∙ can.now),
  goes.past ∙ ap (λ n. take n middle.past) mark_is ∙ can.past,
)

-- ---- one after another

take_less : {A : Type 0} (m n : ℕ) (xs : List A) → m ≤ n → take m (take n xs) ≡ take m xs
take_less zero n xs less = refl
take_less (suc m) zero xs less = absurd (omega arith)
take_less (suc m) (suc n) [] less = refl
take_less (suc m) (suc n) (x ∷ xs) less = ap (λ rest. x ∷ rest) (take_less m n xs (omega arith))

in_whole : {A : Type 0} (m n : ℕ) (xs : List A) (x : A) → slice_get (take m xs) n ≡ Some x → slice_get xs n ≡ Some x
in_whole zero n xs x is = absurd cc
in_whole (suc m) n [] x is = absurd cc
in_whole (suc m) zero (y ∷ xs) x is = is
in_whole (suc m) (suc n) (y ∷ xs) x is = in_whole m n xs x is

take_one_more : {A : Type 0} (n : ℕ) (xs : List A) (x : A) → slice_get xs n ≡ Some x → take n xs ++ x ∷ [] ≡ take (suc n) xs
take_one_more n [] x is = absurd cc
take_one_more zero (y ∷ xs) x is = ap (λ o. unwrap_or o y ∷ []) (sym is)
take_one_more (suc n) (y ∷ xs) x is = ap (λ rest. y ∷ rest) (take_one_more n xs x is)

pub back_then : (before middle after : Viewed) → CanGoBack before middle → CanGoBack middle after → CanGoBack before after
back_then before middle after one other = record {
  made = let first : length before.past ≤ length middle.past = one.made in let second : length middle.past ≤ length after.past = other.made in omega arith;
  past = sym (take_less (length before.past) (length middle.past) after.past one.made) ∙ ap (take (length before.past)) other.past ∙ one.past;
  now = in_whole (suc (length middle.past)) (length before.past) (after.past ++ after.now ∷ []) before.now (sym (ap (λ all. slice_get all (length before.past)) front) ∙ one.now);
}
  where
    front : middle.past ++ middle.now ∷ [] ≡ take (suc (length middle.past)) (after.past ++ after.now ∷ [])
    front = ap (λ past. past ++ middle.now ∷ []) (sym (take-append-le (length middle.past) after.past (after.now ∷ []) other.made ∙ other.past))
        ∙ take_one_more (length middle.past) (after.past ++ after.now ∷ []) middle.now other.now

-- one change of the tables, and another
pub reaches_then : (first second : Tables → Tables) (before middle after : Viewed) → ChangesTo first before middle → ChangesTo second middle after → ChangesTo (λ tables. second (first tables)) before after
reaches_then first second before middle after one other = record {
  now = other.now ∙ ap (option_map second) one.now ∙ then_mapped first second (λ tables. second (first tables)) before.now (λ tables. refl);
  back = back_then before middle after one.back other.back;
}
