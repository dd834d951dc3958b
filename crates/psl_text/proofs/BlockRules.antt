-- Blocks and whole texts: what is read is derived, and what is derived is read.
use Rattle.std.proofs.Common.{◌≡◌, ℕ, zero, suc, ◌<◌, ◌≤◌, Bool, true, false, cond, List, [], ◌∷◌, ◌++◌, length, Option, Some, None, Result, Ok, Err, inl, inr, refl, sym, ap, subst, ◌∙◌, arith, append_assoc}
use Rattle.std.proofs.lemmas.List.{append-nil}
use Rattle.std.specs.Prelude.{IfOk, OnOk}
use Rattle.psl_text.specs.declared.fault.TextFault.{TextFault}
use Rattle.psl_text.specs.declared.token.Kind.{Kind}
use Rattle.psl_text.specs.declared.token.Kind.TheVariants as kind
use Rattle.psl_text.specs.declared.token.Token.{Token}
use Rattle.psl_text.specs.declared.tree.Name.{Name}
use Rattle.psl_text.specs.declared.tree.Word.{Word}
use Rattle.psl_text.specs.declared.tree.Block.{Block}
use Rattle.psl_text.specs.declared.tree.Tree.{Tree}
use Rattle.psl_text.specs.Lex.{tokens_of}
use Rattle.psl_text.specs.Parser.{Outcome, Parser, and_then, ◌>>=◌, ◌>>◌, pure, refuse, sees, same_kind, kind_of, text_of, docs_of, rest_of, eat, expect, name}
use Rattle.psl_text.specs.Grammar.{word_named, word_by, word_of, entries, block, blocks_from, blocks, with_length, tree_of, Answers}
use Rattle.psl_text.specs.Derives.{Spelled, IsBlock, AreBlocks, IsText, HasTree}
use Rattle.psl_text.proofs.Steps.{bind_ok, done, ok_value, ok_rest, IsInside, when_ok, when_yes, when_no, expect_ok, expect_sign, spelled_ok, spelled_is, spelled_sees, sign_other, sign_shrinks, kinds_same}
use Rattle.psl_text.proofs.TermRules.{name_inside, name_self}
use Rattle.psl_text.proofs.AttributeRules.{finish}
use Rattle.psl_text.proofs.EntryRules.{newline_inside, newline_self, entries_ok, entries_is, entries_shrink}
use Rattle.psl_text.proofs.Whole.{tree_of_text}
use Rattle.psl_text.proofs.Cutting.{tokens_are, tokens_only}

pub open_inside : IsInside kind.OpenBrace
unfolding same_kind
open_inside = record { other = refl }

pub open_self : same_kind kind.OpenBrace kind.OpenBrace ≡ true
unfolding same_kind
open_self = refl

-- ---- the word of a block

word_by_ok : (o : Option Word) (ts : List Token) (w : Word) (rest : List Token) → word_by o ts ≡ Ok (w, rest) → (o ≡ Some w) × (rest_of ts ≡ rest)
word_by_ok None ts w rest e = absurd (cc)
word_by_ok (Some v) ts w rest e = (ap Some (ok_value v w (rest_of ts) rest e), ok_rest v w (rest_of ts) rest e)

pub word_ok : (ts : List Token) (w : Word) (rest : List Token) → word_of ts ≡ Ok (w, rest) → (b : Name) × Spelled kind.Name ts b rest × (word_named b.text ≡ Some w)
unfolding word_of sees kind_of text_of rest_of same_kind
word_ok [] w rest e = absurd (cc)
word_ok (t ∷ ts) w rest e = by_test (same_kind t.kind kind.Name) refl e
  where
    by_test : (b : Bool) → same_kind t.kind kind.Name ≡ b → cond b (word_by (word_named t.text) (t ∷ ts)) (refuse (t ∷ ts)) ≡ Ok (w, rest) → (b : Name) × Spelled kind.Name (t ∷ ts) b rest × (word_named b.text ≡ Some w)
    by_test true seen h =
        let parts = word_by_ok (word_named t.text) (t ∷ ts) w rest h in
        (record { text = t.text; at = t.at }, subst (Spelled kind.Name (t ∷ ts) (record { text = t.text; at = t.at })) parts.1 (Spelled.spelled (kinds_same t.kind kind.Name seen)), parts.0)
    by_test false seen h = absurd (cc)

pub word_is : (ts : List Token) (b : Name) (w : Word) (rest : List Token) → Spelled kind.Name ts b rest → word_named b.text ≡ Some w → word_of ts ≡ Ok (w, rest)
unfolding word_of sees kind_of text_of rest_of
word_is ts b w rest (Spelled.spelled {t} e) named =
    ap (λ x. cond x (word_by (word_named t.text) (t ∷ rest)) (refuse (t ∷ rest))) (ap (λ k. same_kind k kind.Name) e ∙ name_self)
    ∙ ap (λ o. word_by o (t ∷ rest)) named

-- ---- a block

pub block_ok : (ts : List Token) (b : Block) (rest : List Token) → block ts ≡ Ok (b, rest) → IsBlock ts b rest
unfolding block
block_ok ts b rest e =
    let first = bind_ok (word_of ts) (λ w. name >>= λ n. expect kind.OpenBrace >> (entries w >>= λ es. pure (record { word = w; name = n; docs = docs_of ts; entries = es }))) b rest e in
    let second = bind_ok (name first.1) (λ n. expect kind.OpenBrace >> (entries first.0 >>= λ es. pure (record { word = first.0; name = n; docs = docs_of ts; entries = es }))) b rest first.3 in
    let third = bind_ok (expect kind.OpenBrace second.1) (λ _. entries first.0 >>= λ es. pure (record { word = first.0; name = second.0; docs = docs_of ts; entries = es })) b rest second.3 in
    let fourth = bind_ok (entries first.0 third.1) (λ es. pure (record { word = first.0; name = second.0; docs = docs_of ts; entries = es })) b rest third.3 in
    let begins = word_ok ts first.0 first.1 first.2 in
    finish (IsBlock ts) (record { word = first.0; name = second.0; docs = docs_of ts; entries = fourth.0 }) b fourth.1 rest fourth.3
    (IsBlock.block begins.1 begins.2 (spelled_ok kind.Name first.1 second.1 second.0 name_inside second.2) (expect_ok kind.OpenBrace second.1 third.1 third.0 open_inside third.2)
    (entries_ok first.0 third.1 fourth.0 fourth.1 fourth.2))

pub block_is : (ts : List Token) (b : Block) (rest : List Token) → IsBlock ts b rest → block ts ≡ Ok (b, rest)
unfolding block
block_is ts x rest (IsBlock.block {us} {vs} {ws} {b} {n} {w} {es} s named t o d) =
    ap (λ r. and_then r (λ v. name >>= λ m. expect kind.OpenBrace >> (entries v >>= λ xs. pure (record { word = v; name = m; docs = docs_of ts; entries = xs })))) (word_is ts b w us s named)
    ∙ ap (λ r. and_then r (λ m. expect kind.OpenBrace >> (entries w >>= λ xs. pure (record { word = w; name = m; docs = docs_of ts; entries = xs })))) (spelled_is kind.Name us vs n name_self t)
    ∙ ap (λ r. and_then r (λ _. entries w >>= λ xs. pure (record { word = w; name = n; docs = docs_of ts; entries = xs }))) (expect_sign kind.OpenBrace vs ws open_self o)
    ∙ ap (λ r. and_then r (λ xs. pure (record { word = w; name = n; docs = docs_of ts; entries = xs }))) (entries_is w ws es rest d)

pub block_shrinks : (ts : List Token) (b : Block) (rest : List Token) → IsBlock ts b rest → length rest < length ts
block_shrinks ts x rest (IsBlock.block {us} {vs} {ws} {b} {n} {w} {es} s named t o d) =
    omega (arith, sign_shrinks kind.Name ts us (spelled_sees kind.Name ts b us s), sign_shrinks kind.Name us vs (spelled_sees kind.Name us n vs t), sign_shrinks kind.OpenBrace vs ws o, entries_shrink w ws es rest d)

pub block_begins : (l : Kind) (ts : List Token) (b : Block) (rest : List Token) → same_kind kind.Name l ≡ false → IsBlock ts b rest → sees l ts ≡ false
block_begins l ts x rest other (IsBlock.block {us} {b} s named t o d) = sign_other kind.Name l ts us other (spelled_sees kind.Name ts b us s)

-- ---- all blocks

-- a turn that is not at the end
abbrev turn : ℕ → List Block → Parser (List Block)
turn n found = eat kind.Newline >>= λ is_blank. cond is_blank (blocks_from n found) (block >>= λ next. blocks_from n (found ++ next ∷ []))

sees_end : (ts : List Token) → kind_of ts ≡ kind.End → sees kind.End ts ≡ true
unfolding sees same_kind
sees_end ts e = ap (λ k. same_kind k kind.End) e

end_seen : (ts : List Token) → sees kind.End ts ≡ true → kind_of ts ≡ kind.End
unfolding sees
end_seen ts e = kinds_same (kind_of ts) kind.End e

at_end : (found : List Block) (ts : List Token) (xs : List Block) (rest : List Token) → sees kind.End ts ≡ true → done found ts ≡ done xs rest → (ys : List Block) × (xs ≡ found ++ ys) × AreBlocks ts ys rest
at_end found ts xs rest seen h = ([], sym (ok_value found xs ts rest h) ∙ sym (append-nil found), subst (AreBlocks ts []) (ok_rest found xs ts rest h) (AreBlocks.done (end_seen ts seen)))

no_turn_ok : (b : Bool) (found : List Block) (ts : List Token) (xs : List Block) (rest : List Token) → sees kind.End ts ≡ b → cond b (done found ts) (refuse ts) ≡ done xs rest
    → (ys : List Block) × (xs ≡ found ++ ys) × AreBlocks ts ys rest
no_turn_ok true found ts xs rest seen h = at_end found ts xs rest seen h
no_turn_ok false found ts xs rest seen h = absurd (cc)

turn_ok : (n : ℕ) (b : Bool) (found : List Block) (ts : List Token) (xs : List Block) (rest : List Token)
    (again : (fs : List Block) (us : List Token) → blocks_from n fs us ≡ done xs rest → (ys : List Block) × (xs ≡ fs ++ ys) × AreBlocks us ys rest)
    → sees kind.End ts ≡ b → cond b (done found ts) (turn n found ts) ≡ done xs rest → (ys : List Block) × (xs ≡ found ++ ys) × AreBlocks ts ys rest
turn_ok n true found ts xs rest again seen h = at_end found ts xs rest seen h
turn_ok n false found ts xs rest again seen h =
    elim (when_ok kind.Newline ts (blocks_from n found) (block >>= λ next. blocks_from n (found ++ next ∷ [])) xs rest newline_inside h) [
      | inl blank ↦ let later = again found blank.0 blank.2 in (later.0, later.1, AreBlocks.blank blank.1 later.2)
      | inr goes ↦
          let first = bind_ok (block ts) (λ next. blocks_from n (found ++ next ∷ [])) xs rest goes.1 in
          let later = again (found ++ first.0 ∷ []) first.1 first.3 in
          (first.0 ∷ later.0, later.1 ∙ append_assoc found (first.0 ∷ []) later.0, AreBlocks.more (block_ok ts first.0 first.1 first.2) later.2)
    ]

blocks_from_ok : (n : ℕ) (found : List Block) (ts : List Token) (xs : List Block) (rest : List Token) → blocks_from n found ts ≡ Ok (xs, rest) → (ys : List Block) × (xs ≡ found ++ ys) × AreBlocks ts ys rest
unfolding blocks_from
blocks_from_ok zero found ts xs rest e = no_turn_ok (sees kind.End ts) found ts xs rest refl e
blocks_from_ok (suc n) found ts xs rest e = turn_ok n (sees kind.End ts) found ts xs rest (λ fs us h. blocks_from_ok n fs us xs rest h) refl e

blocks_from_is : (n : ℕ) (found : List Block) (ts : List Token) (xs : List Block) (rest : List Token) → AreBlocks ts xs rest → length ts ≤ n → blocks_from n found ts ≡ Ok (found ++ xs, rest)
unfolding blocks_from same_kind
blocks_from_is zero found ts xs rest (AreBlocks.done e) small = ap (λ b. cond b (Ok (found, ts)) (refuse ts)) (sees_end ts e) ∙ ap (λ zs. Ok (zs, ts)) (sym (append-nil found))
blocks_from_is zero found ts xs rest (AreBlocks.blank {us} s d) small = absurd (omega (arith, sign_shrinks kind.Newline ts us s))
blocks_from_is zero found ts xs rest (AreBlocks.more {us} {b} h d) small = absurd (omega (arith, block_shrinks ts b us h))
blocks_from_is (suc n) found ts xs rest (AreBlocks.done e) small = ap (λ b. cond b (Ok (found, ts)) (turn n found ts)) (sees_end ts e) ∙ ap (λ zs. Ok (zs, ts)) (sym (append-nil found))
blocks_from_is (suc n) found ts xs rest (AreBlocks.blank {us} s d) small =
    ap (λ b. cond b (Ok (found, ts)) (turn n found ts)) (sign_other kind.Newline kind.End ts us refl s)
    ∙ when_yes kind.Newline ts us (blocks_from n found) (block >>= λ next. blocks_from n (found ++ next ∷ [])) newline_self s
    ∙ blocks_from_is n found us xs rest d (omega (arith, sign_shrinks kind.Newline ts us s))
blocks_from_is (suc n) found ts xs rest (AreBlocks.more {us} {b} {bs} h d) small =
    ap (λ x. cond x (Ok (found, ts)) (turn n found ts)) (block_begins kind.End ts b us refl h)
    ∙ when_no kind.Newline ts (blocks_from n found) (block >>= λ next. blocks_from n (found ++ next ∷ [])) (block_begins kind.Newline ts b us refl h)
    ∙ ap (λ o. and_then o (λ next. blocks_from n (found ++ next ∷ []))) (block_is ts b us h)
    ∙ blocks_from_is n (found ++ b ∷ []) us bs rest d (omega (arith, block_shrinks ts b us h))
    ∙ ap (λ zs. Ok (zs, rest)) (append_assoc found (b ∷ []) bs)

blocks_ok : (ts : List Token) (xs : List Block) (rest : List Token) → blocks ts ≡ Ok (xs, rest) → AreBlocks ts xs rest
unfolding blocks
blocks_ok ts xs rest e = let found = blocks_from_ok (length ts) [] ts xs rest e in subst (λ ys. AreBlocks ts ys rest) (sym found.1) found.2

pub blocks_is : (ts : List Token) (xs : List Block) (rest : List Token) → AreBlocks ts xs rest → blocks ts ≡ Ok (xs, rest)
unfolding blocks
blocks_is ts xs rest d = blocks_from_is (length ts) [] ts xs rest d (omega arith)

-- ---- texts

-- what has a tree is read as that tree
pub tree_is_read : (text : List ℕ) (tree : Tree) → HasTree text tree → tree_of text ≡ Ok tree
tree_is_read text tree h =
    let tokens = tokens_only text h.derived.0 h.derived.2 in
    tree_of_text text h.is.short h.is.utf8 ∙ ap (λ ts. with_length (length text) (blocks ts)) (sym tokens) ∙ ap (with_length (length text)) (blocks_is h.derived.0 tree.blocks h.derived.1 h.derived.3)
    ∙ ap (λ n. Ok (record { blocks = tree.blocks; length = n })) (sym h.size)

abbrev kept : Tree → Result Tree TextFault
kept tree = Ok tree

trees_same : (a b : Tree) → kept a ≡ kept b → a ≡ b
trees_same a b e = cc

with_length_ok : (o : Outcome (List Block)) (n : ℕ) (tree : Tree) → with_length n o ≡ kept tree → (rest : List Token) × (o ≡ Ok (tree.blocks, rest)) × (n ≡ tree.length)
with_length_ok (Ok p) n tree e =
    let same = trees_same (record { blocks = p.0; length = n }) tree e in
    (p.1, ap (λ t. done t.blocks p.1) same, ap (λ t. t.length) same)
with_length_ok (Err f) n tree e = absurd (cc)

-- what is read has that tree
pub tree_is_derived : (text : List ℕ) (tree : Tree) → IsText text → tree_of text ≡ Ok tree → HasTree text tree
tree_is_derived text tree is e =
    let parts = with_length_ok (blocks (tokens_of text)) (length text) tree (sym (tree_of_text text is.short is.utf8) ∙ e) in
    record { is = is; size = sym parts.2; derived = (tokens_of text, parts.0, tokens_are text, blocks_ok (tokens_of text) tree.blocks parts.0 parts.1) }

pub found_tree : (text : List ℕ) (answer : Result Tree TextFault) → Answers (tree_of text) answer → OnOk answer (IsText text) → IfOk answer (HasTree text)
found_tree text (Ok tree) e is = tree_is_derived text tree is e
found_tree text (Err f) e is = tt

pub only_tree : (text : List ℕ) (answer : Result Tree TextFault) → Answers (tree_of text) answer → (tree : Tree) → HasTree text tree → Answers (Ok tree) answer
only_tree text answer e tree h = subst (λ r. Answers r answer) (tree_is_read text tree h) e

-- a text has at most one tree
pub one_tree_only : (text : List ℕ) (a b : Tree) → HasTree text a → HasTree text b → a ≡ b
one_tree_only text a b h k = trees_same a b (sym (tree_is_read text a h) ∙ tree_is_read text b k)
