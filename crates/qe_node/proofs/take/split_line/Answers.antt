use Rattle.std.proofs.Common.{◌++◌, ◌∷◌, drop, arith, sym, ap, ◌∙◌}
use Rattle.qe_node.specs.Taking.{has_newline}
use Rattle.qe_node.proofs.Newlines.{none_before, none_at_all, around_newline}
use Rattle.qe_node.proofs.take.split_line.Goals as goal

pub returns-in-Some : goal.returns-in-Some
returns-in-Some c = (
  around_newline c.args.bytes.now c.in-Some.at c.in-Some.ensures.0.high c.in-Some.ensures.1
      ∙ ap (λ l. l ++ 10 ∷ drop 1 (drop c.in-Some.at c.args.bytes.now)) (sym c.split_at.ensures.front)
      ∙ ap (λ l. c.split_at.result.0.now ++ 10 ∷ l) (ap (drop 1) (sym c.split_at.ensures.back) ∙ sym c.split_at-in-Some.ensures.back),
  ap has_newline c.split_at.ensures.front ∙ none_before c.args.bytes.now c.in-Some.at (λ k below within is. c.in-Some.ensures.0.before k (omega arith) below is),
)

pub returns-in-None : goal.returns-in-None
returns-in-None c = none_at_all c.args.bytes.now (λ k within is. c.in-None.ensures k (omega arith) within is)
