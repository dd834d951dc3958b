-- What was given and what is left then make up what was left before.
use Rattle.std.proofs.Common.{◌≡◌, ℕ, ◌+◌, ◌<◌, ◌↔◌, min, List, [], ◌∷◌, ◌++◌, length, Some, arith, rules, take, drop, ap, sym, ◌∙◌}
use Rattle.std.proofs.lemmas.List.{take-append-drop, drop-drop}
use Rattle.std.proofs.lemmas.Grind.{common_steps}
use Rattle.qe_base.proofs.outside.mem_source.MemSourceSource.read.Goals as goal

moved : (given count : ℕ) (bytes left piece : List ℕ) → Some (drop given bytes) ≡ Some left → take count piece ≡ take count left → Some (drop given bytes) ≡ Some (take count piece ++ drop (given + count) bytes)
moved given count bytes left piece is_left same =
    let is : drop given bytes ≡ left = search rules in
    ap Some (sym (take-append-drop count (drop given bytes)) ∙ ap (λ front. front ++ drop count (drop given bytes)) (ap (take count) is ∙ sym same) ∙ ap (λ rest. take count piece ++ rest) (drop-drop count given bytes))

ended : (count given : ℕ) (bytes left piece : List ℕ) → Some (drop given bytes) ≡ Some left → count ≡ min (length left) (length piece) → 0 < length piece → (count ≡ 0) ↔ (drop given bytes ≡ [])
ended count given bytes [] piece is_left is more = (λ _. search rules, λ _. grind arith)
ended count given bytes (byte ∷ left) piece is_left is more = (λ none. grind arith, λ none. grind arith)

pub returns-clause-reads : goal.returns-clause-reads
returns-clause-reads c = record {
  within = grind (arith, common_steps);
  bytes = moved c.args.self.now.given _ c.args.self.now.bytes _ _ c.left.ensures.left c.fill_front-count.ensures.front;
  end = ended _ c.args.self.now.given c.args.self.now.bytes _ _ c.left.ensures.left c.fill_front-count.ensures.count;
  failed = search rules;
  turn = tt;
  cause = search rules;
  others = search rules;
}
