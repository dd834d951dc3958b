use Rattle.std.proofs.Common.{sym, ◌∙◌}
use Rattle.psl_text.specs.Lex.{tokens_of}
use Rattle.psl_text.proofs.Cutting.{tokens_are, tokens_only}
use Rattle.psl_text.proofs.laws.one_list_of_tokens.Goals as goal

pub returns-clause-some : goal.returns-clause-some
returns-clause-some c = λ text. (tokens_of text, tokens_are text)

pub returns-clause-only : goal.returns-clause-only
returns-clause-only c = λ text a b left right. tokens_only text a left ∙ sym (tokens_only text b right)
