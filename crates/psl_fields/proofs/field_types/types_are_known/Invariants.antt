use Rattle.std.proofs.Common.{◌≡◌, drop, filter}
use Rattle.std.specs.List.{flat_map}
use Rattle.psl_text.specs.declared.tree.Word.TheVariants as word
use Rattle.psl_rules.specs.Parts.{first, earlier, same_word}
use Rattle.psl_rules.specs.Names.{types_are_known, unknown_types}
use Rattle.psl_fields.proofs.field_types.types_are_known.Given as goal

abbrev pub invariant-loop-block : goal.invariant-loop-block
invariant-loop-block l =
    earlier l.found (first (flat_map (unknown_types l.types) (filter (λ block. same_word block.word word.Model) (drop l.block-index l.block-items)))) ≡ first (types_are_known l.types)
