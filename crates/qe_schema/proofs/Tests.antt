-- Tests over lists.
use Rattle.std.proofs.Common.{◌≡◌, ◌⊎◌, inl, inr, Bool, true, false, ◌||◌, List, [], ◌∷◌, ◌++◌, refl, sym, ap, true≢false}
use Rattle.std.specs.List.{list_any}

-- ---- truth values

pub or_parts : (a b : Bool) → (a || b) ≡ true → (a ≡ true) ⊎ (b ≡ true)
or_parts true b is = inl refl
or_parts false b is = inr is

pub by_either : {P Q R : Type 0} → P ⊎ Q → (P → R) → (Q → R) → R
by_either (inl p) first second = first p
by_either (inr q) first second = second q

pub or_right : (a b : Bool) → b ≡ true → (a || b) ≡ true
or_right true b is = refl
or_right false b is = is

pub or_left : (a b : Bool) → a ≡ true → (a || b) ≡ true
or_left a b is = ap (λ c. c || b) is

-- ---- some item

pub any_append_left : {A : Type 0} (p : A → Bool) (xs ys : List A) → list_any p xs ≡ true → list_any p (xs ++ ys) ≡ true
any_append_left p [] ys some = absurd (true≢false (sym some))
any_append_left p (x ∷ xs) ys some = by_either (or_parts (p x) (list_any p xs) some) (or_left (p x) (list_any p (xs ++ ys))) (λ there. or_right (p x) (list_any p (xs ++ ys)) (any_append_left p xs ys there))

pub any_append_right : {A : Type 0} (p : A → Bool) (xs ys : List A) → list_any p ys ≡ true → list_any p (xs ++ ys) ≡ true
any_append_right p [] ys some = some
any_append_right p (x ∷ xs) ys some = or_right (p x) (list_any p (xs ++ ys)) (any_append_right p xs ys some)

pub any_append_parts : {A : Type 0} (p : A → Bool) (xs ys : List A) → list_any p (xs ++ ys) ≡ true → (list_any p xs ≡ true) ⊎ (list_any p ys ≡ true)
any_append_parts p [] ys some = inr some
any_append_parts p (x ∷ xs) ys some =
    by_either (or_parts (p x) (list_any p (xs ++ ys)) some) (λ here. inl (or_left (p x) (list_any p xs) here))
    (λ there. by_either (any_append_parts p xs ys there) (λ first. inl (or_right (p x) (list_any p xs) first)) (λ second. inr second))

pub any_weaker : {A : Type 0} (p q : A → Bool) → ((x : A) → p x ≡ true → q x ≡ true) → (xs : List A) → list_any p xs ≡ true → list_any q xs ≡ true
any_weaker p q weaker [] some = absurd (true≢false (sym some))
any_weaker p q weaker (x ∷ xs) some = by_either (or_parts (p x) (list_any p xs) some) (λ here. or_left (q x) (list_any q xs) (weaker x here)) (λ there. or_right (q x) (list_any q xs) (any_weaker p q weaker xs there))
