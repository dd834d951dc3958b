use Rattle.std.proofs.Common.{ap, map, ◌∙◌, Bor}
use Rattle.std.specs.Prelude.{position}
use Rattle.psl_text.specs.declared.tree.Block.{Block}
use Rattle.psl_rules.specs.Parts.{models}
use Rattle.psl_relations.specs.Back.{same_text}
use Rattle.psl_sound.specs.SchemaOf.{block_name}
use Rattle.psl_values.proofs.numbers.Models.of.Goals as goal

pub invariant_of-result : goal.invariant_of-result
invariant_of-result c = (
  c.in_ok-enums.ensures,
  c.in_ok-names.ensures ∙ ap (map block_name) (ap (map (λ (block : Bor Block). block.now)) c.as_slice.ensures.value ∙ c.in_ok-blocks.ensures ∙ ap models c.tree.ensures),
  λ name. c.in_ok-places.ensures name ∙ ap (position (same_text name)) c.as_slice-2.ensures.value,
)
