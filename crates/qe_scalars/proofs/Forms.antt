-- Texts that have a form, and the digits in them.
use Rattle.std.proofs.Common.{◌≡◌, ℕ, zero, suc, ◌==◌, Bool, true, false, if◌then◌else◌, List, [], ◌∷◌, length, take, drop, refl, sym, ap, ◌∙◌, arith}
use Rattle.std.proofs.lemmas.Bool.{and_parts}
use Rattle.std.specs.Char.{is_ascii_digit}
use Rattle.std.specs.List.{list_all}
use Rattle.qe_scalars.specs.Moments.{has_form}

-- a text is as long as its form
pub same_length : (form text : List ℕ) → has_form form text ≡ true → length text ≡ length form
same_length [] [] h = refl
same_length [] (byte ∷ text) h = grind arith
same_length (one ∷ form) [] h = grind arith
same_length (one ∷ form) (byte ∷ text) h = ap suc (same_length form text (and_parts (if one == 48 then is_ascii_digit byte else one == byte) (has_form form text) h).1)

pub other_length : (form text : List ℕ) (b : Bool) → has_form form text ≡ b → (length text ≡ length form → ⊥) → false ≡ b
other_length form text false is other = refl
other_length form text true is other = absurd (other (same_length form text is))

abbrev pub is_zero : ℕ → Bool
is_zero one = one == 48

-- digits stand where the form has zeros
pub digits_in : (form text : List ℕ) (at count : ℕ) → has_form form text ≡ true → list_all is_zero (take count (drop at form)) ≡ true → list_all is_ascii_digit (take count (drop at text)) ≡ true
digits_in [] [] zero zero h zeros = refl
digits_in [] [] zero (suc count) h zeros = refl
digits_in [] [] (suc at) zero h zeros = refl
digits_in [] [] (suc at) (suc count) h zeros = refl
digits_in [] (byte ∷ text) at count h zeros = grind arith
digits_in (one ∷ form) [] at count h zeros = grind arith
digits_in (one ∷ form) (byte ∷ text) (suc at) count h zeros = digits_in form text at count (and_parts (if one == 48 then is_ascii_digit byte else one == byte) (has_form form text) h).1 zeros
digits_in (one ∷ form) (byte ∷ text) zero zero h zeros = refl
digits_in (one ∷ form) (byte ∷ text) zero (suc count) h zeros =
    let parts = and_parts (if one == 48 then is_ascii_digit byte else one == byte) (has_form form text) h in
    let others = and_parts (is_zero one) (list_all is_zero (take count form)) zeros in
    let rest = digits_in form text zero count parts.1 others.1 in
    let here : is_ascii_digit byte ≡ true = sym (ap (λ b. if b then is_ascii_digit byte else one == byte) others.0) ∙ parts.0 in
    grind arith
