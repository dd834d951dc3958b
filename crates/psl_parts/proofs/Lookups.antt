-- A set of names, filled block by block.
use Rattle.std.proofs.Common.{◌≡◌, ℕ, ◌+◌, ◌<◌, Bool, true, false, cond, ◌||◌, List, [], ◌∷◌, ◌++◌, map, length, drop, get_or, refl, sym, ap, ◌∙◌, Bor}
use Rattle.std.proofs.lemmas.List.{drop_more}
use Rattle.std.proofs.lemmas.List.Folds.{list_any-append}
use Rattle.std.proofs.lemmas.Slice.Eq.{bytes_eq-Decides}
use Rattle.std.specs.Prelude.{bytes_eq}
use Rattle.std.specs.List.{list_any}
use Rattle.psl_text.specs.declared.tree.Block.{Block}

abbrev pub has : List ℕ → List (Bor (List ℕ)) → Bool
has name keys = list_any (λ key. bytes_eq name key.now) keys

abbrev pub names : List ℕ → List (Bor Block) → Bool
names name blocks = list_any (λ block. bytes_eq name block.now.name.text) blocks

or_shuffle : (a b c : Bool) → ((a || (b || false)) || c) ≡ (a || (b || c))
or_shuffle true b c = refl
or_shuffle false true c = refl
or_shuffle false false c = refl

pub inserted : (keys : List (Bor (List ℕ))) (key : Bor (List ℕ)) (name : List ℕ) (rest seen : Bool) → has key.now keys ≡ seen
    → (has name (cond seen keys (keys ++ key ∷ [])) || rest) ≡ (has name keys || (bytes_eq name key.now || rest))
inserted keys key name rest false is =
    ap (λ b. b || rest) (list_any-append (λ (one : Bor (List ℕ)). bytes_eq name one.now) keys (key ∷ [])) ∙ or_shuffle (has name keys) (bytes_eq name key.now) rest
inserted keys key name rest true is = by_case (bytes_eq name key.now) refl
  where
    by_case : (b : Bool) → bytes_eq name key.now ≡ b → (has name keys || rest) ≡ (has name keys || (bytes_eq name key.now || rest))
    by_case false other = sym (ap (λ b. has name keys || (b || rest)) other)
    by_case true same =
        let there : has name keys ≡ true = ap (λ text. has text keys) ((bytes_eq-Decides name key.now).0 same) ∙ is in
        ap (λ b. b || rest) there ∙ sym (ap (λ b. b || (bytes_eq name key.now || rest)) there)

pub turn : (blocks : List (Bor Block)) (i : ℕ) (block : Bor Block) (keys new : List (Bor (List ℕ))) (key : Bor (List ℕ)) (name : List ℕ) (whole : Bool) → i < length blocks → block ≡ get_or blocks i block
    → key.now ≡ block.now.name.text → new ≡ cond (has key.now keys) keys (keys ++ key ∷ []) → (has name keys || names name (drop i blocks)) ≡ whole → (has name new || names name (drop (i + 1) blocks)) ≡ whole
turn blocks i block keys new key name whole within is key_is new_is before =
    let rest = drop (i + 1) blocks in
    ap (λ keys. has name keys || names name rest) new_is ∙ inserted keys key name (names name rest) (has key.now keys) refl
    ∙ ap (λ text. has name keys || (bytes_eq name text || names name rest)) key_is
    ∙ ap (λ (one : Bor Block). has name keys || names name (one ∷ rest)) is
    ∙ ap (λ blocks. has name keys || names name blocks) (sym (drop_more blocks i block within))
    ∙ before

or_none : (b : Bool) → (b || false) ≡ b
or_none true = refl
or_none false = refl

any_now : (blocks : List (Bor Block)) (name : List ℕ) → names name blocks ≡ list_any (λ block. bytes_eq name block.name.text) (map (λ block. block.now) blocks)
any_now [] name = refl
any_now (block ∷ blocks) name = ap (λ b. bytes_eq name block.now.name.text || b) (any_now blocks name)

pub filled : (blocks : List (Bor Block)) (all : List Block) (keys : List (Bor (List ℕ))) (left : List (Bor Block)) (name : List ℕ) → map (λ block. block.now) blocks ≡ all → left ≡ []
    → (has name keys || names name left) ≡ names name blocks → has name keys ≡ list_any (λ block. bytes_eq name block.name.text) all
filled blocks all keys left name is none end =
    sym (or_none (has name keys)) ∙ ap (λ left. has name keys || names name left) (sym none) ∙ end ∙ any_now blocks name ∙ ap (list_any (λ block. bytes_eq name block.name.text)) is
