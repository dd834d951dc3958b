use Rattle.psl_text.proofs.BlockRules.{found_tree, only_tree}
use Rattle.psl_text.proofs.FaultTexts.{found_fault, only_fault}
use Rattle.psl_text.proofs.reader.read_tree.Goals as goal

pub returns-clause-found : goal.returns-clause-found
returns-clause-found c = found_tree c.args.text.now c.read.result c.read.ensures.exact c.read.ensures.ok

pub returns-clause-only : goal.returns-clause-only
returns-clause-only c tree h = only_tree c.args.text.now c.read.result c.read.ensures.exact tree h

pub returns-clause-fault : goal.returns-clause-fault
returns-clause-fault c = found_fault c.args.text.now c.read.result c.read.ensures.exact

pub returns-clause-only_fault : goal.returns-clause-only_fault
returns-clause-only_fault c e h = only_fault c.args.text.now c.read.result c.read.ensures.exact e h
