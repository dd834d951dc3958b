-- Blocks: what is refused stops so, and what stops is refused so.
use Rattle.std.proofs.Common.{◌≡◌, ℕ, zero, suc, ◌<◌, ◌≤◌, Bool, true, false, cond, List, [], ◌∷◌, ◌++◌, length, Option, Some, None, Ok, Err, inl, inr, refl, sym, ap, ◌∙◌, arith}
use Rattle.psl_text.specs.declared.fault.TextFault.{TextFault}
use Rattle.psl_text.specs.declared.token.Kind.TheVariants as kind
use Rattle.psl_text.specs.declared.token.Token.{Token}
use Rattle.psl_text.specs.declared.tree.Name.{Name}
use Rattle.psl_text.specs.declared.tree.Word.{Word}
use Rattle.psl_text.specs.declared.tree.Block.{Block}
use Rattle.psl_text.specs.Parser.{Parser, ◌>>=◌, ◌>>◌, pure, refuse, sees, same_kind, kind_of, text_of, docs_of, rest_of, eat, expect, name, refusal}
use Rattle.psl_text.specs.Grammar.{word_named, word_by, word_of, entries, block, blocks_from, blocks}
use Rattle.psl_text.specs.Derives.{Spelled, IsBlock}
use Rattle.psl_text.specs.Stops.{Misses}
use Rattle.psl_text.specs.Faults.{BlockStops, BlocksStop}
use Rattle.psl_text.proofs.Steps.{when_yes, when_no, expect_ok, expect_sign, spelled_ok, spelled_is, spelled_sees, sees_sign, sign_other, sign_shrinks}
use Rattle.psl_text.proofs.TermRules.{name_inside, name_self}
use Rattle.psl_text.proofs.EntryRules.{newline_inside, newline_self}
use Rattle.psl_text.proofs.BlockRules.{open_inside, open_self, word_ok, word_is, block_ok, block_is, block_shrinks, block_begins}
use Rattle.psl_text.proofs.FaultSteps.{refused, ok_not_err, faults_same, bind_err, bind_stops, bind_goes, sees_misses, misses_sees, sign_spelled, when_split, expect_err, expect_misses, spelled_err, spelled_misses, Refuses}
use Rattle.psl_text.proofs.FaultEntries.{entries_refuse}

-- ---- the word of a block

-- where the word is wanted
data WordMissed (ts : List Token) : List Token → Type 0 where
  none : {us : List Token} → Misses kind.Name ts us → WordMissed ts us
  other : {us : List Token} {b : Name} → Spelled kind.Name ts b us → word_named b.text ≡ None → WordMissed ts ts

word_missed_by : (o : Option Word) (ts us : List Token) (b : Name) (e : TextFault) → Spelled kind.Name ts b us → word_named b.text ≡ o → word_by o ts ≡ Err e → (vs : List Token) × WordMissed ts vs × (e ≡ refusal vs)
word_missed_by None ts us b e s named h = (ts, WordMissed.other s named, faults_same (refused {A = Word} ts) e (refusal ts) h refl)
word_missed_by (Some w) ts us b e s named h = absurd (ok_not_err (Ok (w, rest_of ts)) w (rest_of ts) e refl h)

-- a word by its name
word_spelled : (ts us : List Token) (b : Name) → Spelled kind.Name ts b us → word_of ts ≡ word_by (word_named b.text) ts
unfolding word_of sees kind_of text_of
word_spelled ts us b (Spelled.spelled {t} {rest} e) = ap (λ x. cond x (word_by (word_named t.text) (t ∷ rest)) (refuse (t ∷ rest))) (ap (λ k. same_kind k kind.Name) e ∙ name_self)

word_found : (ts : List Token) (e : TextFault) → word_of ts ≡ Err e → (us : List Token) × WordMissed ts us × (e ≡ refusal us)
unfolding word_of
word_found ts e h = by_test (sees kind.Name ts) refl h
  where
    by_test : (b : Bool) → sees kind.Name ts ≡ b → cond b (word_by (word_named (text_of ts)) ts) (refuse ts) ≡ Err e → (us : List Token) × WordMissed ts us × (e ≡ refusal us)
    by_test true seen k =
        let n = sign_spelled kind.Name ts (rest_of ts) (sees_sign kind.Name ts name_inside seen) in
        word_missed_by (word_named n.0.text) ts (rest_of ts) n.0 e n.1 refl (sym (word_spelled ts (rest_of ts) n.0 n.1) ∙ h)
    by_test false seen k = (ts, WordMissed.none (Misses.misses (sees_misses kind.Name ts seen)), faults_same (refused {A = Word} ts) e (refusal ts) k refl)

word_missed : (ts us : List Token) → Misses kind.Name ts us → word_of ts ≡ Err (refusal us)
unfolding word_of
word_missed ts us (Misses.misses differs) = ap (λ b. cond b (word_by (word_named (text_of ts)) ts) (refuse ts)) (misses_sees kind.Name ts differs)

-- ---- a block

-- behind the opening brace, the name and the word
abbrev pub behind_brace : List (List ℕ) → Word → Name → Parser Block
behind_brace above w n = entries w >>= λ es. pure (record { word = w; name = n; docs = above; entries = es })

abbrev pub behind_name : List (List ℕ) → Word → Name → Parser Block
behind_name above w n = expect kind.OpenBrace >> behind_brace above w n

abbrev pub behind_word : List (List ℕ) → Word → Parser Block
behind_word above w = name >>= behind_name above w

block_by_word : (ts us : List Token) (e : TextFault) → WordMissed ts us → e ≡ refusal us → (vs : List Token) × BlockStops ts vs × (e ≡ refusal vs)
block_by_word ts us e (WordMissed.none m) same = (us, BlockStops.no_word m, same)
block_by_word ts us e (WordMissed.other s named) same = (ts, BlockStops.other_word s named, same)

block_found : (ts : List Token) (e : TextFault) → block ts ≡ Err e → (us : List Token) × BlockStops ts us × (e ≡ refusal us)
unfolding block
block_found ts e h = elim (bind_err (word_of ts) (behind_word (docs_of ts)) e h) [
  | inl bad ↦ let found = word_found ts e bad in block_by_word ts found.0 e found.1 found.2
  | inr first ↦
      let begins = word_ok ts first.0 first.1 first.2 in
      elim (bind_err (name first.1) (behind_name (docs_of ts) first.0) e first.3) [
        | inl bad ↦ let found = spelled_err kind.Name first.1 e bad in (found.0, BlockStops.name begins.1 begins.2 found.1, found.2)
        | inr second ↦
            let called = spelled_sees kind.Name first.1 second.0 second.1 (spelled_ok kind.Name first.1 second.1 second.0 name_inside second.2) in
            elim (bind_err (expect kind.OpenBrace second.1) (λ _. behind_brace (docs_of ts) first.0 second.0) e second.3) [
              | inl bad ↦ let found = expect_err kind.OpenBrace second.1 e bad in (found.0, BlockStops.brace begins.1 begins.2 called found.1, found.2)
              | inr third ↦
                  let opens = expect_ok kind.OpenBrace second.1 third.1 third.0 open_inside third.2 in
                  elim (bind_err (entries first.0 third.1) (λ es. pure (record { word = first.0; name = second.0; docs = docs_of ts; entries = es })) e third.3) [
                    | inl bad ↦ let found = (entries_refuse first.0).found third.1 e bad in (found.0, BlockStops.entries begins.1 begins.2 called opens found.1, found.2)
                    | inr fourth ↦ absurd (ok_not_err (pure (record { word = first.0; name = second.0; docs = docs_of ts; entries = fourth.0 }) fourth.1)
                        (record { word = first.0; name = second.0; docs = docs_of ts; entries = fourth.0 }) fourth.1 e refl fourth.3)
                  ]
            ]
      ]
]

pub word_goes_on : (ts us : List Token) (b : Name) (w : Word) → Spelled kind.Name ts b us → word_named b.text ≡ Some w → block ts ≡ behind_word (docs_of ts) w us
unfolding block
word_goes_on ts us b w s named = bind_goes (word_of ts) (behind_word (docs_of ts)) w us (word_is ts b w us s named)

pub block_stops : (ts us : List Token) → BlockStops ts us → block ts ≡ Err (refusal us)
unfolding block
block_stops ts us (BlockStops.no_word m) = bind_stops (word_of ts) (behind_word (docs_of ts)) (refusal us) (word_missed ts us m)
block_stops ts us (BlockStops.other_word {us = vs} {b} s named) =
    bind_stops (word_of ts) (behind_word (docs_of ts)) (refusal ts) (word_spelled ts vs b s ∙ ap (λ o. word_by o ts) named)
block_stops ts rest (BlockStops.name {us} {b} {w} s named m) =
    word_goes_on ts us b w s named ∙ bind_stops (name us) (behind_name (docs_of ts) w) (refusal rest) (spelled_misses kind.Name us rest m)
block_stops ts rest (BlockStops.brace {us} {vs} {b} {w} s named t m) =
    let n = sign_spelled kind.Name us vs t in
    word_goes_on ts us b w s named ∙ bind_goes (name us) (behind_name (docs_of ts) w) n.0 vs (spelled_is kind.Name us vs n.0 name_self n.1)
    ∙ bind_stops (expect kind.OpenBrace vs) (λ _. behind_brace (docs_of ts) w n.0) (refusal rest) (expect_misses kind.OpenBrace vs rest m)
block_stops ts rest (BlockStops.entries {us} {vs} {ws} {b} {w} s named t o d) =
    let n = sign_spelled kind.Name us vs t in
    word_goes_on ts us b w s named ∙ bind_goes (name us) (behind_name (docs_of ts) w) n.0 vs (spelled_is kind.Name us vs n.0 name_self n.1)
    ∙ bind_goes (expect kind.OpenBrace vs) (λ _. behind_brace (docs_of ts) w n.0) tt ws (expect_sign kind.OpenBrace vs ws open_self o)
    ∙ bind_stops (entries w ws) (λ es. pure (record { word = w; name = n.0; docs = docs_of ts; entries = es })) (refusal rest) ((entries_refuse w).stops ws rest d)

-- ---- all blocks

abbrev pub after_block : ℕ → List Block → Block → Parser (List Block)
after_block n found next = blocks_from n (found ++ next ∷ [])

-- a turn that is not at the end
abbrev pub turn : ℕ → List Block → Parser (List Block)
turn n found = eat kind.Newline >>= λ is_blank. cond is_blank (blocks_from n found) (block >>= after_block n found)

-- past the last token is the end
nothing_left : (ts : List Token) → length ts ≤ 0 → sees kind.End ts ≡ true
unfolding sees kind_of same_kind
nothing_left [] small = refl
nothing_left (t ∷ ts) small = absurd (omega arith)

-- of a turn, where the later ones are told
turn_found : (n : ℕ) (found : List Block) (ts : List Token) (e : TextFault)
    → ((fs : List Block) (us : List Token) → length us < length ts → blocks_from n fs us ≡ Err e → (vs : List Token) × BlocksStop us vs × (e ≡ refusal vs))
    → (b : Bool) → sees kind.End ts ≡ b → cond b (Ok (found, ts)) (turn n found ts) ≡ Err e → (us : List Token) × BlocksStop ts us × (e ≡ refusal us)
turn_found n found ts e again true seen h = absurd (ok_not_err (Ok (found, ts)) found ts e refl h)
turn_found n found ts e again false seen h = elim (when_split kind.Newline ts (blocks_from n found) (block >>= after_block n found) (Err e) newline_inside h) [
  | inl blank ↦ let later = again found blank.0 (sign_shrinks kind.Newline ts blank.0 blank.1) blank.2 in (later.0, BlocksStop.blank blank.1 later.1, later.2)
  | inr goes ↦ elim (bind_err (block ts) (after_block n found) e goes.1) [
    | inl bad ↦ let s = block_found ts e bad in (s.0, BlocksStop.block (sees_misses kind.End ts seen) (sees_misses kind.Newline ts goes.0) s.1, s.2)
    | inr first ↦
        let read : IsBlock ts first.0 first.1 = block_ok ts first.0 first.1 first.2 in
        let later = again (found ++ first.0 ∷ []) first.1 (block_shrinks ts first.0 first.1 read) first.3 in
        (later.0, BlocksStop.later read later.1, later.2)
  ]
]

blocks_from_found : (n : ℕ) (found : List Block) (ts : List Token) (e : TextFault) → length ts ≤ n → blocks_from n found ts ≡ Err e → (us : List Token) × BlocksStop ts us × (e ≡ refusal us)
unfolding blocks_from
blocks_from_found zero found ts e small h =
    absurd (ok_not_err (blocks_from zero found ts) found ts e (ap (λ b. cond b (Ok (found, ts)) (refuse ts)) (nothing_left ts small)) h)
blocks_from_found (suc n) found ts e small h = turn_found n found ts e (λ fs us shorter k. blocks_from_found n fs us e (omega (arith, shorter)) k) (sees kind.End ts) refl h

-- no blocks stop where nothing is left
some_left : (ts us : List Token) → BlocksStop ts us → length ts ≤ 0 → ⊥
some_left ts us (BlocksStop.block a b s) small = let seen = nothing_left ts small in let other = misses_sees kind.End ts a in absurd (cc)
some_left ts us (BlocksStop.blank {us = vs} s d) small = omega (arith, sign_shrinks kind.Newline ts vs s)
some_left ts us (BlocksStop.later {us = vs} {b} h d) small = omega (arith, block_shrinks ts b vs h)

blocks_from_stops : (n : ℕ) (found : List Block) (ts us : List Token) → length ts ≤ n → BlocksStop ts us → blocks_from n found ts ≡ Err (refusal us)
unfolding blocks_from same_kind
blocks_from_stops zero found ts us small d = absurd (some_left ts us d small)
blocks_from_stops (suc n) found ts us small (BlocksStop.block a b s) =
    ap (λ x. cond x (Ok (found, ts)) (turn n found ts)) (misses_sees kind.End ts a)
    ∙ when_no kind.Newline ts (blocks_from n found) (block >>= after_block n found) (misses_sees kind.Newline ts b)
    ∙ bind_stops (block ts) (after_block n found) (refusal us) (block_stops ts us s)
blocks_from_stops (suc n) found ts rest small (BlocksStop.blank {us} s d) =
    ap (λ x. cond x (Ok (found, ts)) (turn n found ts)) (sign_other kind.Newline kind.End ts us refl s)
    ∙ when_yes kind.Newline ts us (blocks_from n found) (block >>= after_block n found) newline_self s
    ∙ blocks_from_stops n found us rest (omega (arith, sign_shrinks kind.Newline ts us s)) d
blocks_from_stops (suc n) found ts rest small (BlocksStop.later {us} {b} h d) =
    ap (λ x. cond x (Ok (found, ts)) (turn n found ts)) (block_begins kind.End ts b us refl h)
    ∙ when_no kind.Newline ts (blocks_from n found) (block >>= after_block n found) (block_begins kind.Newline ts b us refl h)
    ∙ bind_goes (block ts) (after_block n found) b us (block_is ts b us h)
    ∙ blocks_from_stops n (found ++ b ∷ []) us rest (omega (arith, block_shrinks ts b us h)) d

pub blocks_refuse : Refuses blocks BlocksStop
unfolding blocks
blocks_refuse = record { found = λ ts e h. blocks_from_found (length ts) [] ts e (omega arith) h; stops = λ ts us d. blocks_from_stops (length ts) [] ts us (omega arith) d }
