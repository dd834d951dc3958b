use Rattle.std.proofs.Common.{List}
use Rattle.std.specs.List.{flat_map, filter_map}
use Rattle.psl_text.specs.declared.tree.Entry.{Entry}
use Rattle.psl_rules.specs.Parts.{first, field_of}
use Rattle.psl_rules.specs.Attributes.{repeated}
use Rattle.psl_parts.proofs.Parted.{turn}
use Rattle.psl_parts.proofs.Models.{parted_fields}
use Rattle.psl_fields.proofs.once.repeated_on_fields.Goals as goal

pub loop-entry-preserved : goal.loop-entry-preserved
loop-entry-preserved c =
    turn (λ (entries : List Entry). first (flat_map (λ field. repeated field.attributes) (filter_map field_of entries))) (parted_fields (λ field. repeated field.attributes))
    c.as_slice-entry-items.result.now c.loop-entry.entry-index c.entry-item.result c.loop-entry.found c.in_ok-here.here c.earlier-found.result _
    c.loop-entry-test.true c.entry-item.is c.in_ok-here.ensures c.earlier-found.ensures c.loop-entry.invariant
