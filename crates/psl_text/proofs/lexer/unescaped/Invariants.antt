use Rattle.std.proofs.Common.{◌≡◌, ◌++◌, false, drop}
use Rattle.psl_text.specs.Lex.{unescaped}
use Rattle.psl_text.proofs.lexer.unescaped.Given as goal

-- what the bytes so far and those to come stand for
abbrev pub invariant-loop-byte : goal.invariant-loop-byte
invariant-loop-byte l = l.bytes.items ++ unescaped l.is_escaped (drop l.byte-index l.byte-items) ≡ unescaped false l.byte-items
