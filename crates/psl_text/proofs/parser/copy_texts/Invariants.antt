use Rattle.std.proofs.Common.{◌≡◌, take}
use Rattle.psl_text.proofs.parser.copy_texts.Given as goal

-- the texts so far
abbrev pub invariant-loop-item : goal.invariant-loop-item
invariant-loop-item l = l.copy ≡ take l.item-index l.item-items
