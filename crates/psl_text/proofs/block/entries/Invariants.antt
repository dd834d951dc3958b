use Rattle.std.proofs.Common.{◌≡◌, ◌-◌}
use Rattle.psl_text.specs.Grammar.{entries, entries_from}
use Rattle.psl_text.proofs.block.entries.Given as goal

abbrev pub invariant-loop-turn : goal.invariant-loop-turn
invariant-loop-turn l = entries l.word l.fn.parser ≡ entries_from l.word (l._turn-end - l._turn) l.found l.parser
