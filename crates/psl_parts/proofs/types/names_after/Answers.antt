use Rattle.std.proofs.Common.{map, ap, ◌∙◌}
use Rattle.std.proofs.lemmas.List.{drop_all}
use Rattle.psl_parts.proofs.Lookups.{turn, filled}
use Rattle.psl_parts.proofs.types.names_after.Goals as goal

pub loop-block-preserved : goal.loop-block-preserved
loop-block-preserved c = λ name.
    turn c.as_slice-block-items.result.now c.loop-block.block-index c.block-item.result c.loop-block.names.keys c.insert.new.self.keys c.as_str.result name _
    c.loop-block-test.true c.block-item.is c.as_str.ensures.text c.in_ok-insert.ensures.keys (c.loop-block.invariant name)

pub returns : goal.returns
returns c = λ name.
    filled c.as_slice-block-items.result.now _ c.loop-block.names.keys _ name (ap (map (λ block. block.now)) c.as_slice-block-items.ensures.value ∙ c.in_ok-blocks_of.ensures)
    (drop_all c.loop-block.block-index c.as_slice-block-items.result.now c.loop-block-test.false) (c.loop-block.invariant name)
