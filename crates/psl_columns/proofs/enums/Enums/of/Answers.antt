use Rattle.std.proofs.Common.{ap, map, ◌∙◌, Bor}
use Rattle.std.specs.Prelude.{position, bytes_eq}
use Rattle.psl_text.specs.declared.tree.Block.{Block}
use Rattle.psl_rules.specs.Parts.{enums}
use Rattle.psl_sound.specs.SchemaOf.{block_name}
use Rattle.psl_columns.proofs.enums.Enums.of.Goals as goal

pub invariant_of-result : goal.invariant_of-result
invariant_of-result c =
    let blocks = c.in_ok-blocks.ensures ∙ ap enums c.tree.ensures in (
      blocks,
      c.in_ok-names.ensures ∙ ap (map block_name) (ap (map (λ (block : Bor Block). block.now)) c.as_slice.ensures.value ∙ blocks),
      λ name. c.in_ok-places.ensures name ∙ ap (position (λ other. bytes_eq name.now other.now)) c.as_slice-2.ensures.value,
    )
