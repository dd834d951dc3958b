use Rattle.std.proofs.Common.{◌∙◌, ap, not}
use Rattle.qe_text.specs.Names.{is_stored_name}
use Rattle.psl_text.specs.declared.tree.Name.{Name}
use Rattle.psl_rules.specs.Parts.{place, noted}
use Rattle.psl_parts.proofs.Firsts.{turn_failing}
use Rattle.psl_relations.proofs.stored.first_unstorable.Goals as goal

pub loop-name-preserved : goal.loop-name-preserved
loop-name-preserved c =
    turn_failing (λ (name : Name). is_stored_name name.text) place c.args.names.now c.loop-name.name-index c.name-item.result c.loop-name.found c.noted-found.result _
    c.loop-name-test.true c.name-item.is (c.noted-found.ensures ∙ ap (λ b. noted c.loop-name.found (not b) c.name-item.result.at) (c.is_stored_name.ensures ∙ ap is_stored_name c.as_str.ensures.text)) c.loop-name.invariant
