use Rattle.std.proofs.Common.{◌≡◌, ◌++◌, map, drop}
use Rattle.psl_relations.proofs.tree_index.indexed.Given as goal

abbrev pub invariant-loop-block : goal.invariant-loop-block
invariant-loop-block l = l.all.items ++ map (λ block. block.now) (drop l.block-index l.blocks) ≡ map (λ block. block.now) l.blocks
