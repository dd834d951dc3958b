-- Blocks of tokens that begin alike. Where tokens stop, what goes before and the next token derive no blocks.
use Rattle.std.proofs.Common.{◌≡◌, ◌≢◌, ℕ, zero, suc, ◌≤◌, false, cond, List, [], ◌∷◌, ◌++◌, length, Some, None, Ok, Err, refl, ap, subst, ◌∙◌, arith, append_assoc}
use Rattle.std.proofs.lemmas.List.{append_cancel_right}
use Rattle.psl_text.specs.declared.fault.TextFault.{TextFault}
use Rattle.psl_text.specs.declared.token.Kind.{Kind}
use Rattle.psl_text.specs.declared.token.Kind.TheVariants as kind
use Rattle.psl_text.specs.declared.token.Token.{Token}
use Rattle.psl_text.specs.declared.tree.Name.{Name}
use Rattle.psl_text.specs.declared.tree.Entry.{Entry}
use Rattle.psl_text.specs.declared.tree.Word.{Word}
use Rattle.psl_text.specs.declared.tree.Block.{Block}
use Rattle.psl_text.specs.Parser.{◌>>=◌, pure, kind_of, docs_of, same_kind, expect, name, refusal}
use Rattle.psl_text.specs.Grammar.{word_named, entries_from, entries, block, blocks_from, blocks}
use Rattle.psl_text.specs.Derives.{Sign, Spelled, AreEntries, IsBlock, AreBlocks}
use Rattle.psl_text.specs.Stops.{Misses}
use Rattle.psl_text.specs.Faults.{BlockStops, BlocksStop}
use Rattle.psl_text.proofs.Steps.{when_yes, when_no, expect_sign, spelled_is, sign_other}
use Rattle.psl_text.proofs.TermRules.{name_self}
use Rattle.psl_text.proofs.EntryRules.{newline_self}
use Rattle.psl_text.proofs.BlockRules.{open_self, block_is, block_shrinks, block_begins, blocks_is}
use Rattle.psl_text.proofs.FaultSteps.{ok_not_err, bind_stops, bind_goes, misses_sees}
use Rattle.psl_text.proofs.FaultEntries.{turn}
use Rattle.psl_text.proofs.FaultBlocks as stopping
use Rattle.psl_text.proofs.FaultBlocks.{behind_brace, behind_name, after_block, word_goes_on, block_stops}
use Rattle.psl_text.proofs.Alike.{Alike, alike_kind, seen_again, both, Lost}
use Rattle.psl_text.proofs.AlikeTerms.{Moved, LostIn}
use Rattle.psl_text.proofs.AlikeRuns.{entries_move, entries_lose}

-- a kind that is missed of tokens that begin alike
missed_again : (k : Kind) (us vs : List Token) → Alike us vs → kind_of us ≢ k → Misses k vs vs
missed_again k us vs a differs = Misses.misses (λ e. differs (alike_kind us vs a ∙ e))

-- ---- a block

block_moves_by : (ts mid next inner : List Token) (b n : Name) (w : Word) (es : List Entry) (us : List Token) → Spelled kind.Name ts b mid → word_named b.text ≡ Some w → Spelled kind.Name mid n next → Sign kind.OpenBrace next inner → Moved (AreEntries w) inner es us
    → Moved IsBlock ts (record { word = w; name = n; docs = docs_of ts; entries = es }) us
unfolding docs_of
block_moves_by ts mid next inner b n w es us (Spelled.spelled {t} p) named (Spelled.spelled {t = u} q) (Sign.sign {t = v} r) l = record {
  front = t ∷ (u ∷ (v ∷ l.front));
  split = ap (λ zs. t ∷ (u ∷ (v ∷ zs))) l.split;
  again = λ vs. IsBlock.block (Spelled.spelled p) named (Spelled.spelled q) (Sign.sign r) (l.again vs);
}

block_moves : (ts : List Token) (b : Block) (us : List Token) → IsBlock ts b us → Moved IsBlock ts b us
block_moves ts x us (IsBlock.block {us = mid} {vs = next} {ws = inner} {b} {n} {w} {es} s named t o d) = block_moves_by ts mid next inner b n w es us s named t o (entries_move w inner es us d)

other_word : (ts us vs : List Token) (b : Name) → Alike ts vs → Spelled kind.Name ts b us → word_named b.text ≡ None → (e : TextFault) × (block vs ≡ Err e)
other_word ts us vs b (Alike.alike {t} {vs = rest}) (Spelled.spelled e) named = (refusal (t ∷ rest), block_stops (t ∷ rest) (t ∷ rest) (BlockStops.other_word (Spelled.spelled e) named))

word_lost : (ts us : List Token) (b : Name) → Spelled kind.Name ts b us → word_named b.text ≡ None → Lost block ts ts
word_lost ts us b s named = record { front = []; split = refl; again = λ vs a. other_word ts us vs b a s named }

name_lost : (ts mid us : List Token) (b : Name) (w : Word) → Spelled kind.Name ts b mid → word_named b.text ≡ Some w → Misses kind.Name mid us → Lost block ts us
name_lost ts mid us b w (Spelled.spelled {t} p) named (Misses.misses differs) = record {
  front = t ∷ [];
  split = refl;
  again = λ vs a. (refusal vs, block_stops (t ∷ vs) vs (BlockStops.name (Spelled.spelled p) named (missed_again kind.Name mid vs a differs)));
}

brace_lost : (ts mid next us : List Token) (b : Name) (w : Word) → Spelled kind.Name ts b mid → word_named b.text ≡ Some w → Sign kind.Name mid next → Misses kind.OpenBrace next us → Lost block ts us
brace_lost ts mid next us b w (Spelled.spelled {t} p) named (Sign.sign {t = u} q) (Misses.misses differs) = record {
  front = t ∷ (u ∷ []);
  split = refl;
  again = λ vs a. (refusal vs, block_stops (t ∷ (u ∷ vs)) vs (BlockStops.brace (Spelled.spelled p) named (Sign.sign q) (missed_again kind.OpenBrace next vs a differs)));
}

inner_lost : (ts mid next inner us : List Token) (b : Name) (w : Word) → Spelled kind.Name ts b mid → word_named b.text ≡ Some w → Sign kind.Name mid next → Sign kind.OpenBrace next inner → LostIn (entries_from w) inner us → Lost block ts us
unfolding entries
inner_lost ts mid next inner us b w (Spelled.spelled {t} p) named (Sign.sign {t = u} q) (Sign.sign {t = v} r) l = record {
  front = t ∷ (u ∷ (v ∷ l.front));
  split = ap (λ zs. t ∷ (u ∷ (v ∷ zs))) l.split;
  again = λ vs a.
      let tail = l.front ++ vs in
      let n : Name = record { text = u.text; at = u.at } in
      let above = docs_of (t ∷ (u ∷ (v ∷ tail))) in
      let h = l.again vs (length tail) [] a in (
        h.0,
        word_goes_on (t ∷ (u ∷ (v ∷ tail))) (u ∷ (v ∷ tail)) b w (Spelled.spelled p) named
            ∙ bind_goes (name (u ∷ (v ∷ tail))) (behind_name above w) n (v ∷ tail) (spelled_is kind.Name (u ∷ (v ∷ tail)) (v ∷ tail) n name_self (Spelled.spelled q))
            ∙ bind_goes (expect kind.OpenBrace (v ∷ tail)) (λ _. behind_brace above w n) tt tail (expect_sign kind.OpenBrace (v ∷ tail) tail open_self (Sign.sign r))
            ∙ bind_stops (entries w tail) (λ es. pure (record { word = w; name = n; docs = above; entries = es })) h.0 h.1,
      );
}

block_loses : (ts us : List Token) → BlockStops ts us → Lost block ts us
block_loses ts us (BlockStops.no_word (Misses.misses differs)) = record {
  front = [];
  split = refl;
  again = λ vs a. (refusal vs, block_stops vs vs (BlockStops.no_word (missed_again kind.Name ts vs a differs)));
}
block_loses ts us (BlockStops.other_word {us = mid} {b} s named) = word_lost ts mid b s named
block_loses ts us (BlockStops.name {us = mid} {b} {w} s named m) = name_lost ts mid us b w s named m
block_loses ts us (BlockStops.brace {us = mid} {vs = next} {b} {w} s named t m) = brace_lost ts mid next us b w s named t m
block_loses ts us (BlockStops.entries {us = mid} {vs = next} {ws = inner} {b} {w} s named t o d) = inner_lost ts mid next inner us b w s named t o (entries_lose w inner us d)

-- ---- all blocks

record AllLost (ts us : List Token) : Type 0 where
  pub front : List Token
  pub split : ts ≡ front ++ us
  pub again : (vs : List Token) (n : ℕ) (found : List Block) → Alike us vs → length (front ++ vs) ≤ n → (e : TextFault) × (blocks_from n found (front ++ vs) ≡ Err e)

-- of some tokens the length is not zero
some_tokens : (front us vs : List Token) → Alike us vs → 1 ≤ length (front ++ vs)
some_tokens [] us vs Alike.alike = omega arith
some_tokens (t ∷ front) us vs a = omega arith

block_lost : (ts us : List Token) → kind_of ts ≢ kind.End → kind_of ts ≢ kind.Newline → Lost block ts us → AllLost ts us
unfolding blocks_from
block_lost ts us no_end no_newline l = record {
  front = l.front;
  split = l.split;
  again = λ vs n found a small. elim n as (λ j. length (l.front ++ vs) ≤ j → (f : TextFault) × (blocks_from j found (l.front ++ vs) ≡ Err f)) [
    | zero ↦ λ bound. absurd (omega (arith, bound, some_tokens l.front us vs a))
    | suc k ↦ λ bound.
        let h = l.again vs a in (
          h.0,
          ap (λ x. cond x (Ok (found, l.front ++ vs)) (stopping.turn k found (l.front ++ vs))) (seen_again kind.End false ts l.front us vs l.split a (misses_sees kind.End ts no_end))
              ∙ when_no kind.Newline (l.front ++ vs) (blocks_from k found) (block >>= after_block k found) (seen_again kind.Newline false ts l.front us vs l.split a (misses_sees kind.Newline ts no_newline))
              ∙ bind_stops (block (l.front ++ vs)) (after_block k found) h.0 h.1,
        )
  ] small;
}

line_lost : (ts next us : List Token) → Sign kind.Newline ts next → AllLost next us → AllLost ts us
unfolding blocks_from same_kind
line_lost ts next us (Sign.sign {t} e) l = record {
  front = t ∷ l.front;
  split = ap (λ zs. t ∷ zs) l.split;
  again = λ vs n found a small. elim n as (λ j. length (t ∷ (l.front ++ vs)) ≤ j → (f : TextFault) × (blocks_from j found (t ∷ (l.front ++ vs)) ≡ Err f)) [
    | zero ↦ λ bound. absurd (omega (arith, bound))
    | suc k ↦ λ bound.
        let h = l.again vs k found a (omega (arith, bound)) in
        let s : Sign kind.Newline (t ∷ (l.front ++ vs)) (l.front ++ vs) = Sign.sign e in (
          h.0,
          ap (λ x. cond x (Ok (found, t ∷ (l.front ++ vs))) (stopping.turn k found (t ∷ (l.front ++ vs)))) (sign_other kind.Newline kind.End (t ∷ (l.front ++ vs)) (l.front ++ vs) refl s)
              ∙ when_yes kind.Newline (t ∷ (l.front ++ vs)) (l.front ++ vs) (blocks_from k found) (block >>= after_block k found) newline_self s ∙ h.1,
        )
  ] small;
}

later_block_lost : (ts : List Token) (b : Block) (mid us : List Token) → Moved IsBlock ts b mid → AllLost mid us → AllLost ts us
unfolding blocks_from same_kind
later_block_lost ts b mid us m l = record {
  front = m.front ++ l.front;
  split = both ts m.front mid l.front us m.split l.split;
  again = λ vs n found a small. elim n as (λ j. length ((m.front ++ l.front) ++ vs) ≤ j → (f : TextFault) × (blocks_from j found ((m.front ++ l.front) ++ vs) ≡ Err f)) [
    | zero ↦ λ bound. absurd (omega (arith, bound, some_tokens (m.front ++ l.front) us vs a))
    | suc k ↦ λ bound.
        let tail = l.front ++ vs in
        let whole = m.front ++ (l.front ++ vs) in
        let i = m.again (l.front ++ vs) in
        let same : length ((m.front ++ l.front) ++ vs) ≡ length (m.front ++ (l.front ++ vs)) = ap (λ zs. length zs) (append_assoc m.front l.front vs) in
        let h = l.again vs k (found ++ b ∷ []) a (omega (arith, bound, same, block_shrinks (m.front ++ (l.front ++ vs)) b (l.front ++ vs) i)) in (
          h.0,
          ap (λ zs. blocks_from (suc k) found zs) (append_assoc m.front l.front vs)
              ∙ ap (λ x. cond x (Ok (found, whole)) (stopping.turn k found whole)) (block_begins kind.End whole b tail refl i)
              ∙ when_no kind.Newline whole (blocks_from k found) (block >>= after_block k found) (block_begins kind.Newline whole b tail refl i)
              ∙ bind_goes (block whole) (after_block k found) b tail (block_is whole b tail i)
              ∙ h.1,
        )
  ] small;
}

blocks_lose : (ts us : List Token) → BlocksStop ts us → AllLost ts us
blocks_lose ts us (BlocksStop.block a b s) = block_lost ts us a b (block_loses ts us s)
blocks_lose ts us (BlocksStop.blank {us = next} s d) = line_lost ts next us s (blocks_lose next us d)
blocks_lose ts us (BlocksStop.later {us = mid} {b} h d) = later_block_lost ts b mid us (block_moves ts b mid h) (blocks_lose mid us d)

-- ---- the first from the left

nothing_derived : (front ts : List Token) → (e : TextFault) × (blocks_from (length (front ++ ts)) [] (front ++ ts) ≡ Err e) → (bs : List Block) (rest : List Token) → AreBlocks (front ++ ts) bs rest → ⊥
unfolding blocks
nothing_derived front ts h bs rest d = ok_not_err (blocks (front ++ ts)) bs rest h.0 (blocks_is (front ++ ts) bs rest d) h.1

pub no_blocks_beyond : (before us vs : List Token) (t : Token) → BlocksStop (before ++ t ∷ us) (t ∷ us) → (bs : List Block) (rest : List Token) → AreBlocks (before ++ t ∷ vs) bs rest → ⊥
no_blocks_beyond before us vs t s bs rest d =
    let l = blocks_lose (before ++ t ∷ us) (t ∷ us) s in
    let same : before ≡ l.front = append_cancel_right before l.front (t ∷ us) l.split in
    nothing_derived l.front (t ∷ vs) (l.again (t ∷ vs) (length (l.front ++ t ∷ vs)) [] Alike.alike (omega arith)) bs rest (subst (λ zs. AreBlocks (zs ++ t ∷ vs) bs rest) same d)
