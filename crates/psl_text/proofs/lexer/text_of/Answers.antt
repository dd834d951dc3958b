use Rattle.psl_text.proofs.Cuts.{word_end}
use Rattle.psl_text.proofs.lexer.text_of.Goals as goal

pub part-requires-clause-end : goal.part-requires-clause-end
part-requires-clause-end c = word_end c.args.text.now c.args.at c.args.kind c.args.length c.utf8.text c.requires c.in-Name.is
