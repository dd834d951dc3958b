use Rattle.std.proofs.Common.{◌≡◌, ◌-◌}
use Rattle.psl_text.specs.Grammar.{attributes, attributes_from}
use Rattle.psl_text.proofs.attribute.attributes.Given as goal

abbrev pub invariant-loop-turn : goal.invariant-loop-turn
invariant-loop-turn l = attributes l.fn.parser ≡ attributes_from (l._turn-end - l._turn) l.found l.parser
