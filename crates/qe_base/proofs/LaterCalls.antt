-- Whether later calls are to fail, when a call is counted.
use Rattle.std.proofs.Common.{◌≡◌, ℕ, ◌+◌, ◌≤◌, true, false, ◌==◌, List, [], ◌∷◌, refl, arith, nat_lt}
use Rattle.std.specs.List.{list_any}

pub listed_is_later : (made : ℕ) (numbers : List ℕ) → list_any (λ number. number == made + 1) numbers ≡ true → list_any (nat_lt made) numbers ≡ true
listed_is_later made [] h = h
listed_is_later made (n ∷ numbers) h = grind (arith, listed_is_later made numbers)

pub none_later : (before after : ℕ) (numbers : List ℕ) → before ≤ after → list_any (nat_lt before) numbers ≡ false → list_any (nat_lt after) numbers ≡ false
none_later before after [] le h = refl
none_later before after (n ∷ numbers) le h = grind (arith, none_later before after numbers le)
