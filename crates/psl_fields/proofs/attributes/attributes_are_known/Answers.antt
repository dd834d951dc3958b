use Rattle.std.proofs.Common.{List, ◌++◌, filter}
use Rattle.std.specs.List.{flat_map}
use Rattle.psl_text.specs.declared.tree.Block.{Block}
use Rattle.psl_text.specs.declared.tree.Word.TheVariants as word
use Rattle.psl_rules.specs.Parts.{first, same_word}
use Rattle.psl_rules.specs.Attributes.{unknown_in_model, unknown_in_enum}
use Rattle.psl_parts.proofs.Parted.{turn, parted_both}
use Rattle.psl_parts.proofs.Models.{parted_blocks}
use Rattle.psl_fields.proofs.attributes.attributes_are_known.Goals as goal

pub loop-block-preserved : goal.loop-block-preserved
loop-block-preserved c =
    let in_models = λ (blocks : List Block). flat_map unknown_in_model (filter (λ block. same_word block.word word.Model) blocks) in
    let in_enums = λ (blocks : List Block). flat_map unknown_in_enum (filter (λ block. same_word block.word word.Enum) blocks) in
    turn (λ blocks. first (in_models blocks ++ in_enums blocks)) (parted_both in_models in_enums (parted_blocks unknown_in_model word.Model) (parted_blocks unknown_in_enum word.Enum))
    c.as_slice-block-items.result.now c.loop-block.block-index c.block-item.result c.loop-block.found c.unknown_in_block-here.result c.earlier-found.result _
    c.loop-block-test.true c.block-item.is c.unknown_in_block-here.ensures c.earlier-found.ensures c.loop-block.invariant
