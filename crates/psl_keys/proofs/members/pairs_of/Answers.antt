use Rattle.std.proofs.Common.{ap, map, ◌∙◌, Bor}
use Rattle.psl_text.specs.declared.tree.Block.{Block}
use Rattle.psl_keys.proofs.Pairs.{turn_enum, all_enums}
use Rattle.psl_keys.proofs.members.pairs_of.Goals as goal

pub loop-block-preserved : goal.loop-block-preserved
loop-block-preserved c = λ pair.
    turn_enum c.as_slice-block-items.result.now c.loop-block.block-index c.block-item.result pair c.loop-block.pairs c.add_members.new.pairs _
    c.loop-block-test.true c.block-item.is (c.in_ok-add_members.ensures pair) (c.loop-block.invariant pair)

pub returns : goal.returns
returns c = λ pair.
    all_enums c.as_slice-block-items.result.now _ c.loop-block.block-index pair _ c.loop-block-test.false (ap (map (λ (block : Bor Block). block.now)) c.as_slice-block-items.ensures.value ∙ c.in_ok-blocks_of.ensures) (c.loop-block.invariant pair)
