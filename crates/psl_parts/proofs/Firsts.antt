-- The first place of several lists.
use Rattle.std.proofs.Common.{◌≡◌, ℕ, suc, ◌+◌, ◌<◌, ◌≤◌, Bool, true, false, cond, not, filter, get_or, min, List, [], ◌∷◌, ◌++◌, map, length, drop, Option, Some, None, refl, sym, ap, subst, ◌∙◌, arith, Bor}
use Rattle.psl_text.specs.declared.tree.Block.{Block}
use Rattle.std.proofs.Math.Seq.{drop-cons}
use Rattle.std.proofs.Math.ListN.{drop_of_length-le}
use Rattle.std.specs.List.{flat_map}
use Rattle.std.specs.Option.{option_or}
use Rattle.psl_rules.specs.Parts.{earlier, noted, first, failing}
use Rattle.psl_rules.specs.Settings.{one_of, or_else}

min_assoc : (a b c : ℕ) → min a (min b c) ≡ min (min a b) c
min_assoc a b c = omega arith

pub earlier_none : (one : Option ℕ) → earlier one None ≡ one
earlier_none None = refl
earlier_none (Some a) = refl

pub earlier_assoc : (one two three : Option ℕ) → earlier one (earlier two three) ≡ earlier (earlier one two) three
earlier_assoc None two three = refl
earlier_assoc (Some a) None three = refl
earlier_assoc (Some a) (Some b) None = refl
earlier_assoc (Some a) (Some b) (Some c) = ap Some (min_assoc a b c)

pub first_append : (xs ys : List ℕ) → first (xs ++ ys) ≡ earlier (first xs) (first ys)
first_append [] ys = refl
first_append (at ∷ xs) ys = ap (earlier (Some at)) (first_append xs ys) ∙ earlier_assoc (Some at) (first xs) (first ys)

named : (blocks : List (Bor Block)) → map (λ block. block.now.name.at) blocks ≡ map (λ block. block.name.at) (map (λ block. block.now) blocks)
named [] = refl
named (block ∷ blocks) = ap (λ places. block.now.name.at ∷ places) (named blocks)

-- the blocks behind the first, as references and as they are
pub others_named : (items : List (Bor Block)) (blocks : List Block) (end : ℕ) → map (λ block. block.now) items ≡ blocks → 1 ≤ length items
    → first (map (λ block. block.now.name.at) (drop 1 items)) ≡ first (one_of end blocks)
others_named [] blocks end is some = absurd (omega arith)
others_named (item ∷ items) blocks end is some = subst (λ all. first (map (λ block. block.now.name.at) items) ≡ first (one_of end all)) is (ap first (named items))

-- ---- a turn of a loop, at the item that is next

next : (i : ℕ) → i + 1 ≡ suc i
next i = omega arith

pub left_at : {A : Type 0} (xs : List A) (i : ℕ) (item : A) → i < length xs → item ≡ get_or xs i item → drop i xs ≡ item ∷ drop (i + 1) xs
left_at xs i item within is = drop-cons xs i item within ∙ ap (λ one. one ∷ drop (suc i) xs) (sym is) ∙ ap (λ n. item ∷ drop n xs) (sym (next i))

-- over what each item gives
pub turn_each : {A : Type 0} (f : A → List ℕ) (xs : List A) (i : ℕ) (item : A) (found now whole : Option ℕ) → i < length xs → item ≡ get_or xs i item → now ≡ earlier found (first (f item))
    → earlier found (first (flat_map f (drop i xs))) ≡ whole → earlier now (first (flat_map f (drop (i + 1) xs))) ≡ whole
turn_each f xs i item found now whole within is now_is h =
    let rest = flat_map f (drop (i + 1) xs) in
    ap (λ r. earlier r (first rest)) now_is ∙ sym (earlier_assoc found (first (f item)) (first rest)) ∙ ap (earlier found) (sym (first_append (f item) rest)) ∙ ap (λ all. earlier found (first (flat_map f all))) (sym (left_at xs i item within is)) ∙ h

noted_first : (found : Option ℕ) (breaks : Bool) (at : ℕ) (rest : Option ℕ) → earlier (noted found breaks at) rest ≡ earlier found (cond breaks (earlier (Some at) rest) rest)
noted_first found true at rest = sym (earlier_assoc found (Some at) rest)
noted_first found false at rest = refl

failing_first : {A : Type 0} (holds : A → Bool) (at : A → ℕ) (item : A) (items : List A) (b : Bool) → not (holds item) ≡ b → first (failing holds at (item ∷ items)) ≡ cond b (earlier (Some (at item)) (first (failing holds at items))) (first (failing holds at items))
failing_first holds at item items true is = ap (λ b. first (map at (cond b (item ∷ filter (λ one. not (holds one)) items) (filter (λ one. not (holds one)) items)))) is
failing_first holds at item items false is = ap (λ b. first (map at (cond b (item ∷ filter (λ one. not (holds one)) items) (filter (λ one. not (holds one)) items)))) is

-- over the items that fail
pub turn_failing : {A : Type 0} (holds : A → Bool) (at : A → ℕ) (xs : List A) (i : ℕ) (item : A) (found now whole : Option ℕ) → i < length xs → item ≡ get_or xs i item → now ≡ noted found (not (holds item)) (at item)
    → earlier found (first (failing holds at (drop i xs))) ≡ whole → earlier now (first (failing holds at (drop (i + 1) xs))) ≡ whole
turn_failing holds at xs i item found now whole within is now_is h =
    let rest = failing holds at (drop (i + 1) xs) in
    ap (λ r. earlier r (first rest)) now_is ∙ noted_first found (not (holds item)) (at item) (first rest) ∙ ap (earlier found) (sym (failing_first holds at item (drop (i + 1) xs) (not (holds item)) refl))
    ∙ ap (λ all. earlier found (first (failing holds at all))) (sym (left_at xs i item within is)) ∙ h

-- ---- references, and what they lead to

pub failing_map : {A B : Type 0} (g : A → B) (holds : B → Bool) (at : B → ℕ) (xs : List A) → failing (λ x. holds (g x)) (λ x. at (g x)) xs ≡ failing holds at (map g xs)
failing_map g holds at [] = refl
failing_map g holds at (x ∷ xs) = by_test (not (holds (g x))) refl (failing_map g holds at xs)
  where
    by_test : (b : Bool) → not (holds (g x)) ≡ b → failing (λ x. holds (g x)) (λ x. at (g x)) xs ≡ failing holds at (map g xs) → failing (λ x. holds (g x)) (λ x. at (g x)) (x ∷ xs) ≡ failing holds at (map g (x ∷ xs))
    by_test true is h =
        ap (λ b. map (λ x. at (g x)) (cond b (x ∷ filter (λ x. not (holds (g x))) xs) (filter (λ x. not (holds (g x))) xs))) is ∙ ap (λ places. at (g x) ∷ places) h
        ∙ sym (ap (λ b. map at (cond b (g x ∷ filter (λ y. not (holds y)) (map g xs)) (filter (λ y. not (holds y)) (map g xs)))) is)
    by_test false is h =
        ap (λ b. map (λ x. at (g x)) (cond b (x ∷ filter (λ x. not (holds (g x))) xs) (filter (λ x. not (holds (g x))) xs))) is ∙ h
        ∙ sym (ap (λ b. map at (cond b (g x ∷ filter (λ y. not (holds y)) (map g xs)) (filter (λ y. not (holds y)) (map g xs)))) is)

pub flat_map_map : {A B : Type 0} (g : A → B) (f : B → List ℕ) (xs : List A) → flat_map (λ x. f (g x)) xs ≡ flat_map f (map g xs)
flat_map_map g f [] = refl
flat_map_map g f (x ∷ xs) = ap (λ places. f (g x) ++ places) (flat_map_map g f xs)

-- ---- the end of a loop

pub ended : {A : Type 0} (P : List A → List ℕ) (xs : List A) (i : ℕ) (found whole : Option ℕ) → length xs ≤ i → P [] ≡ [] → earlier found (first (P (drop i xs))) ≡ whole → found ≡ whole
ended P xs i found whole end none h =
    sym (earlier_none found) ∙ ap (λ places. earlier found (first places)) (sym none) ∙ ap (λ all. earlier found (first (P all))) (sym (drop_of_length-le xs end)) ∙ h

-- ---- the first places, or others where there are none

pub or_else_first : (xs ys : List ℕ) → first (or_else xs ys) ≡ option_or (first xs) (first ys)
or_else_first [] ys = refl
or_else_first (at ∷ xs) ys = some_first (first xs)
  where
    some_first : (rest : Option ℕ) → earlier (Some at) rest ≡ option_or (earlier (Some at) rest) (first ys)
    some_first None = refl
    some_first (Some other) = refl
