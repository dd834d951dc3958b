use Rattle.std.proofs.Common.{List, [], ◌++◌}
use Rattle.std.specs.List.{flat_map, filter_map}
use Rattle.psl_text.specs.declared.tree.Entry.{Entry}
use Rattle.psl_rules.specs.Parts.{first, member_of, block_attribute_of}
use Rattle.qe_text.specs.Lists.{is_among}
use Rattle.psl_rules.specs.Attributes.{unknown}
use Rattle.psl_parts.proofs.Parted.{turn}
use Rattle.psl_parts.proofs.Models.{parted_enum}
use Rattle.psl_fields.proofs.attributes.unknown_in_enum.Goals as goal

pub loop-entry-preserved : goal.loop-entry-preserved
loop-entry-preserved c =
    turn (λ (entries : List Entry). first (flat_map (λ member. unknown [] member.attributes) (filter_map member_of entries) ++ unknown [] (filter_map block_attribute_of entries)))
    (parted_enum (λ member. unknown [] member.attributes) (λ attribute. is_among attribute.name.text []))
    c.as_slice-entry-items.result.now c.loop-entry.entry-index c.entry-item.result c.loop-entry.found c.unknown_at_enum_entry-here.result c.earlier-found.result _
    c.loop-entry-test.true c.entry-item.is c.unknown_at_enum_entry-here.ensures c.earlier-found.ensures c.loop-entry.invariant
