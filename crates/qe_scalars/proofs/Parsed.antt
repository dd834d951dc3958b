-- Numbers as `parse` reads them.
use Rattle.std.proofs.Common.{◌≡◌, ℕ, Bool, true, false, cond, ◌&&◌, ℤ, List, [], ◌∷◌, Some, None, Result, Ok, Err, refl, sym, ap, ◌∙◌, arith, w64, FitsSigned}
use Rattle.std.specs.Result.{result_ok}
use Rattle.std.specs.Str.Parse.{IsNumeral, ParsesSigned, without_leading_sign}
use Rattle.qe_scalars.proofs.Digits.{all_digits}
use Rattle.qe_scalars.specs.Numbers.{is_number, number_of, number_within, is_big}

pub numeral : (bs : List ℕ) → is_number bs ≡ true → IsNumeral 10 (without_leading_sign bs)
numeral [] h = absurd (grind arith)
numeral (c ∷ cs) h = grind (arith, all_digits)

pub big_fits : (z : ℤ) → is_big z ≡ true → FitsSigned w64 z
big_fits z h = grind arith

pub fits_big : (z : ℤ) → FitsSigned w64 z → is_big z ≡ true
fits_big z h = grind arith

read_as : {E : Type 0} (bs : List ℕ) (b : Bool) (r : Result ℤ E) → is_big (number_of bs) ≡ b → is_number bs ≡ true → ParsesSigned w64 10 bs r → result_ok r ≡ cond b (Some (number_of bs)) None
read_as bs true (Ok z) big number h = ap Some h.1
read_as bs false (Ok z) big number h = absurd (grind (arith, fits_big (number_of bs) h.0.1))
read_as bs true (Err e) big number h = absurd (h (numeral bs number, big_fits (number_of bs) big))
read_as bs false (Err e) big number h = refl

pub read : {E : Type 0} (bs : List ℕ) (r : Result ℤ E) → is_number bs ≡ true → ParsesSigned w64 10 bs r → result_ok r ≡ number_within is_big bs
read bs r number h = read_as bs (is_big (number_of bs)) r refl number h ∙ sym (ap (λ b. cond (b && is_big (number_of bs)) (Some (number_of bs)) None) number)
