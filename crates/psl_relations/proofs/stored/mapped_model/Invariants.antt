use Rattle.std.proofs.Common.{◌≡◌, drop}
use Rattle.std.specs.List.{filter_map}
use Rattle.psl_rules.specs.Parts.{block_attribute_of}
use Rattle.psl_rules.specs.Stored.{mapped}
use Rattle.psl_relations.proofs.stored.mapped_model.Given as goal

abbrev pub invariant-loop-entry : goal.invariant-loop-entry
invariant-loop-entry l = mapped l.model.name.text (filter_map block_attribute_of (drop l.entry-index l.entry-items)) ≡ mapped l.model.name.text (filter_map block_attribute_of l.entry-items)
