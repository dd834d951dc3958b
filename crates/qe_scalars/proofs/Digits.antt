-- What digits write.
use Rattle.std.proofs.Common.{◌≡◌, Bool, cond, false, ◌&&◌, ℕ, zero, suc, ◌+◌, ◌*◌, ◌^◌, ◌<◌, ◌≤◌, true, List, [], ◌∷◌, length, take, get_or, refl, sym, ap, subst, ◌∙◌, arith}
use Rattle.std.proofs.lemmas.Bool.{and_parts}
use Rattle.std.proofs.lemmas.Str.Parse.{IsDigitsTest, numerals_by_value, digits_value_short, digits_value-take-le}
use Rattle.std.proofs.lemmas.Int.Digits.{digits_value_more}
use Rattle.std.proofs.lemmas.List.{take_all}
use Rattle.std.specs.Char.{is_ascii_digit, digit_value}
use Rattle.std.specs.List.{list_all, prefix_len}
use Rattle.std.specs.Str.Parse.{AllDigits, digits_value}

pub told : IsDigitsTest (λ ds. list_all is_ascii_digit ds ≡ true)
told = record { empty = refl; parts = λ c cs e. grind arith; more = λ c cs k e. grind arith }

pub all_digits : (ds : List ℕ) → list_all is_ascii_digit ds ≡ true → AllDigits 10 ds
all_digits = (numerals_by_value (λ ds. list_all is_ascii_digit ds ≡ true) told).to

pub below : (ds : List ℕ) (k : ℕ) → list_all is_ascii_digit ds ≡ true → length ds ≤ k → digits_value 10 ds < 10 ^ k
below = digits_value_short (numerals_by_value (λ ds. list_all is_ascii_digit ds ≡ true) told)

-- what the digits so far write
pub so_far : (ds : List ℕ) (i number : ℕ) → list_all is_ascii_digit ds ≡ true → length ds ≤ 4 → number ≡ digits_value 10 (take i ds) → number < 10000
so_far ds i number all few is = omega (arith, is, digits_value-take-le 10 ds i (omega arith), below ds 4 all few)

-- each of them is a digit
pub one_of : (ds : List ℕ) (i d : ℕ) → list_all is_ascii_digit ds ≡ true → i < length ds → is_ascii_digit (get_or ds i d) ≡ true
one_of [] i d all within = absurd (omega arith)
one_of (c ∷ cs) zero d all within = (and_parts (is_ascii_digit c) (list_all is_ascii_digit cs) all).0
one_of (c ∷ cs) (suc i) d all within = one_of cs i d (and_parts (is_ascii_digit c) (list_all is_ascii_digit cs) all).1 (omega arith)

-- one more
pub step : (ds : List ℕ) (i number digit : ℕ) → i < length ds → number ≡ digits_value 10 (take i ds) → digit ≡ digit_value (get_or ds i 0) → number * 10 + digit ≡ digits_value 10 (take (i + 1) ds)
step ds i number digit within is digit_is = ap (λ n. n * 10 + digit) is ∙ ap (λ n. digits_value 10 (take i ds) * 10 + n) digit_is ∙ sym (digits_value_more 10 ds i within)

-- all of them
pub ended : (ds : List ℕ) (i number : ℕ) → list_all is_ascii_digit ds ≡ true → length ds ≤ i → number ≡ digits_value 10 (take i ds) → number < 10 ^ length ds
ended ds i number all end is = subst (λ n. n < 10 ^ length ds) (sym (is ∙ ap (digits_value 10) (take_all i ds end))) (below ds (length ds) all (omega arith))

begun_by : (c : ℕ) (cs : List ℕ) (b : Bool) → is_ascii_digit c ≡ b → list_all is_ascii_digit (take (prefix_len is_ascii_digit cs) cs) ≡ true
    → list_all is_ascii_digit (take (cond b (1 + prefix_len is_ascii_digit cs) 0) (c ∷ cs)) ≡ true
begun_by c cs false is rest = refl
begun_by c cs true is rest =
    let next : 1 + prefix_len is_ascii_digit cs ≡ suc (prefix_len is_ascii_digit cs) = omega arith in
    ap (λ n. list_all is_ascii_digit (take n (c ∷ cs))) next ∙ ap (λ b. b && list_all is_ascii_digit (take (prefix_len is_ascii_digit cs) cs)) is ∙ rest

-- digits that a text begins with
pub begun : (text : List ℕ) → list_all is_ascii_digit (take (prefix_len is_ascii_digit text) text) ≡ true
begun [] = refl
begun (c ∷ cs) = begun_by c cs (is_ascii_digit c) refl (begun cs)
