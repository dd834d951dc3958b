-- Parts of lists.
use Rattle.std.proofs.Common.{◌≡◌, ℕ, zero, suc, List, [], ◌∷◌, ◌++◌, reverse, Bool, true, false, cond, sym, subst, take, drop, filter}
use Rattle.std.proofs.lemmas.List.{reverse-append}
use Rattle.qe_reading.specs.Part.{IsPart, Empty, With, Without}

pub part_all : {A : Type 0} (xs : List A) → IsPart xs xs
part_all [] = Empty
part_all (x ∷ xs) = With (part_all xs)

pub part_none : {A : Type 0} (xs : List A) → IsPart [] xs
part_none [] = Empty
part_none (x ∷ xs) = Without (part_none xs)

pub part_part : {A : Type 0} {xs ys zs : List A} → IsPart xs ys → IsPart ys zs → IsPart xs zs
part_part p Empty = p
part_part (With p) (With q) = With (part_part p q)
part_part (Without p) (With q) = Without (part_part p q)
part_part p (Without q) = Without (part_part p q)

filtered_by : {A : Type 0} (x : A) (kept : Bool) (xs ys : List A) → IsPart xs ys → IsPart (cond kept (x ∷ xs) xs) (x ∷ ys)
filtered_by x true xs ys p = With p
filtered_by x false xs ys p = Without p

pub part_filter : {A : Type 0} (test : A → Bool) (xs : List A) → IsPart (filter test xs) xs
part_filter test [] = Empty
part_filter test (x ∷ xs) = filtered_by x (test x) (filter test xs) xs (part_filter test xs)

pub part_take : {A : Type 0} (n : ℕ) (xs : List A) → IsPart (take n xs) xs
part_take zero xs = part_none xs
part_take (suc n) [] = Empty
part_take (suc n) (x ∷ xs) = With (part_take n xs)

pub part_drop : {A : Type 0} (n : ℕ) (xs : List A) → IsPart (drop n xs) xs
part_drop zero xs = part_all xs
part_drop (suc n) [] = Empty
part_drop (suc n) (x ∷ xs) = Without (part_drop n xs)

part_append : {A : Type 0} {xs ys us vs : List A} → IsPart xs ys → IsPart us vs → IsPart (xs ++ us) (ys ++ vs)
part_append Empty q = q
part_append (With p) q = With (part_append p q)
part_append (Without p) q = Without (part_append p q)

turn_cons : {A : Type 0} (x : A) (xs : List A) → reverse (x ∷ xs) ≡ reverse xs ++ x ∷ []
turn_cons x xs = reverse-append (x ∷ []) xs

pub part_reverse : {A : Type 0} {xs ys : List A} → IsPart xs ys → IsPart (reverse xs) (reverse ys)
part_reverse Empty = Empty
part_reverse (With {x} {xs} {ys} p) = subst (λ us. IsPart us (reverse (x ∷ ys))) (sym (turn_cons x xs)) (subst (IsPart (reverse xs ++ x ∷ [])) (sym (turn_cons x ys)) (part_append (part_reverse p) (part_all (x ∷ []))))
part_reverse (Without {y} {xs} {ys} p) = subst (IsPart (reverse xs)) (sym (turn_cons y ys)) (part_part (part_reverse p) (part_front (reverse ys) (y ∷ [])))
  where
    part_front : {A : Type 0} (xs ys : List A) → IsPart xs (xs ++ ys)
    part_front [] ys = part_none ys
    part_front (x ∷ xs) ys = With (part_front xs ys)
