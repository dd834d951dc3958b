use Rattle.std.proofs.Common.{◌≡◌, ◌++◌, map, drop}
use Rattle.psl_sound.specs.SchemaOf.{block_name}
use Rattle.psl_columns.proofs.enums.names_of.Given as goal

abbrev pub invariant-loop-block : goal.invariant-loop-block
invariant-loop-block l =
    map (λ name. name.now) l.names.items ++ map block_name (map (λ block. block.now) (drop l.block-index l.blocks)) ≡ map block_name (map (λ block. block.now) l.blocks)
