-- The first newline of some bytes.
use Rattle.std.proofs.Common.{◌≡◌, ℕ, zero, suc, ◌<◌, List, [], ◌∷◌, ◌++◌, length, take, drop, Bool, true, false, ◌||◌, ◌==◌, refl, sym, ap, ◌∙◌, arith, eqb-true}
use Rattle.std.specs.Prelude.{slice_index}
use Rattle.std.proofs.lemmas.List.{take-append-drop}
use Rattle.qe_node.specs.Taking.{has_newline}

at_head : (byte : ℕ) (bytes : List ℕ) (b : Bool) → byte == 10 ≡ b → (byte == 10 ≡ true → ⊥) → has_newline bytes ≡ false → b || has_newline bytes ≡ false
at_head byte bytes true is other later = absurd (other is)
at_head byte bytes false is other later = later

at_front : (byte : ℕ) (bytes : List ℕ) → (byte == 10 ≡ true → ⊥) → has_newline bytes ≡ false → has_newline (byte ∷ bytes) ≡ false
at_front byte bytes other later = ap (λ b. b || has_newline bytes) refl ∙ at_head byte bytes (byte == 10) refl other later

pub none_before : (bytes : List ℕ) (at : ℕ) → ((k : ℕ) → k < at → k < length bytes → slice_index bytes k == 10 ≡ true → ⊥) → has_newline (take at bytes) ≡ false
none_before [] zero none = refl
none_before [] (suc at) none = refl
none_before (byte ∷ bytes) zero none = refl
none_before (byte ∷ bytes) (suc at) none = at_front byte (take at bytes) (none 0 (omega arith) (omega arith)) (none_before bytes at (λ k below within. none (suc k) (omega arith) (omega arith)))

pub none_at_all : (bytes : List ℕ) → ((k : ℕ) → k < length bytes → slice_index bytes k == 10 ≡ true → ⊥) → has_newline bytes ≡ false
none_at_all [] none = refl
none_at_all (byte ∷ bytes) none = at_front byte bytes (none 0 (omega arith)) (none_at_all bytes (λ k within. none (suc k) (omega arith)))

newline_first : (bytes : List ℕ) (at : ℕ) → at < length bytes → slice_index bytes at == 10 ≡ true → drop at bytes ≡ 10 ∷ drop 1 (drop at bytes)
newline_first [] at within is = absurd (omega arith)
newline_first (byte ∷ bytes) zero within is = ap (λ b. b ∷ bytes) (eqb-true _ _ is)
newline_first (byte ∷ bytes) (suc at) within is = newline_first bytes at (omega arith) is

-- the bytes are those before the newline, it, and those after it
pub around_newline : (bytes : List ℕ) (at : ℕ) → at < length bytes → slice_index bytes at == 10 ≡ true → bytes ≡ take at bytes ++ 10 ∷ drop 1 (drop at bytes)
around_newline bytes at within is = sym (take-append-drop at bytes) ∙ ap (λ l. take at bytes ++ l) (newline_first bytes at within is)
