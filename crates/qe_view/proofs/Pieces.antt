-- Texts with something between them, and pieces of texts.
use Rattle.std.proofs.Common.{◌≡◌, ℕ, List, [], ◌∷◌, ◌++◌, map, refl, sym, ap, ◌∙◌, append_assoc}
use Rattle.std.specs.List.{flat_map, join_by}

behind : {A : Type 0} (f : A → List ℕ) (between : List ℕ) (items : List A) → flat_map (λ item. between ++ f item) items ≡ flat_map (λ text. between ++ text) (map f items)
behind f between [] = refl
behind f between (item ∷ items) = ap (λ rest. (between ++ f item) ++ rest) (behind f between items)

-- the texts of items, joined
pub joined_map : {A : Type 0} (f : A → List ℕ) (between : List ℕ) (items : List A) → join_by f between items ≡ join_by (λ text. text) between (map f items)
joined_map f between [] = refl
joined_map f between (item ∷ items) = ap (λ rest. f item ++ rest) (behind f between items)

-- pieces in the order in which they are put together, and from the front
from_front : (a b c x y : List ℕ) → a ++ x ++ b ++ y ++ c ≡ a ++ (x ++ (b ++ (y ++ c)))
from_front a b c x y = append_assoc (a ++ x ++ b) y c ∙ append_assoc (a ++ x) b (y ++ c) ∙ append_assoc a x (b ++ (y ++ c))

longer_from_front : (a b c d x y z : List ℕ) → a ++ x ++ b ++ y ++ c ++ z ++ d ≡ a ++ (x ++ (b ++ (y ++ (c ++ (z ++ d)))))
longer_from_front a b c d x y z = append_assoc (a ++ x ++ b ++ y ++ c) z d ∙ append_assoc (a ++ x ++ b ++ y) c (z ++ d) ∙ from_front a b (c ++ (z ++ d)) x y

equal_two : (a b c : List ℕ) {x x' y y' : List ℕ} → x ≡ x' → y ≡ y' → a ++ (x ++ (b ++ (y ++ c))) ≡ a ++ (x' ++ (b ++ (y' ++ c)))
equal_two a b c {x} {x'} {y} {y'} one other = ap (λ text. a ++ (text ++ (b ++ (y ++ c)))) one ∙ ap (λ text. a ++ (x' ++ (b ++ (text ++ c)))) other

-- two equal pieces between the same texts
pub between_two : (a b c : List ℕ) {x x' y y' : List ℕ} → x ≡ x' → y ≡ y' → a ++ (x ++ (b ++ (y ++ c))) ≡ a ++ x' ++ b ++ y' ++ c
between_two a b c {x} {x'} {y} {y'} one other = equal_two a b c one other ∙ sym (from_front a b c x' y')

-- three equal pieces between the same texts
pub between_three : (a b c d : List ℕ) {x x' y y' z z' : List ℕ} → x ≡ x' → y ≡ y' → z ≡ z' → a ++ (x ++ (b ++ (y ++ (c ++ (z ++ d))))) ≡ a ++ x' ++ b ++ y' ++ c ++ z' ++ d
between_three a b c d {x} {x'} {y} {y'} {z} {z'} one other last =
    ap (λ text. a ++ (text ++ (b ++ (y ++ (c ++ (z ++ d)))))) one
    ∙ ap (λ text. a ++ (x' ++ text)) (equal_two b c d other last)
    ∙ sym (longer_from_front a b c d x' y' z')
