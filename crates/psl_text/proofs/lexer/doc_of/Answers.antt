use Rattle.psl_text.proofs.Docs.{doc_start}
use Rattle.psl_text.proofs.lexer.doc_of.Goals as goal

pub part-requires-clause-start : goal.part-requires-clause-start
part-requires-clause-start c = doc_start c.args.text.now c.args.at c.args.length c.utf8.text c.requires.span c.requires.doc
