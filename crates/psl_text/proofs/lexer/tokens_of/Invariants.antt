use Rattle.std.proofs.Common.{◌≡◌, ◌-◌, ◌≤◌, ◌++◌, length, drop}
use Rattle.psl_text.specs.Lex.{tokens_from, tokens_of}
use Rattle.psl_text.proofs.lexer.tokens_of.Given as goal

-- the tokens so far and those of what is left are all of them
abbrev pub invariant-text : goal.invariant-text
invariant-text l = (l.tokens ++ tokens_from 0 l.cursor (drop l.cursor.at l.text) ≡ tokens_of l.text) × (l.cursor.at ≤ length l.text)

abbrev pub decreases-text : goal.decreases-text
decreases-text l = length l.text - l.cursor.at
