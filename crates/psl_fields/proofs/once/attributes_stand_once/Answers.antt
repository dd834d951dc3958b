use Rattle.std.proofs.Common.{List, filter}
use Rattle.std.specs.List.{flat_map}
use Rattle.psl_text.specs.declared.tree.Block.{Block}
use Rattle.psl_text.specs.declared.tree.Word.TheVariants as word
use Rattle.psl_rules.specs.Parts.{first, same_word}
use Rattle.psl_rules.specs.Attributes.{repeated_in_model}
use Rattle.psl_parts.proofs.Parted.{turn}
use Rattle.psl_parts.proofs.Models.{parted_blocks}
use Rattle.psl_fields.proofs.once.attributes_stand_once.Goals as goal

pub loop-block-preserved : goal.loop-block-preserved
loop-block-preserved c =
    turn (λ (blocks : List Block). first (flat_map repeated_in_model (filter (λ block. same_word block.word word.Model) blocks))) (parted_blocks repeated_in_model word.Model)
    c.as_slice-block-items.result.now c.loop-block.block-index c.block-item.result c.loop-block.found c.in_ok-here.here c.earlier-found.result _
    c.loop-block-test.true c.block-item.is c.in_ok-here.ensures c.earlier-found.ensures c.loop-block.invariant
