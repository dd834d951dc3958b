use Rattle.std.proofs.Common.{ap, map, ◌∙◌, Bor}
use Rattle.psl_text.specs.declared.tree.Name.{Name}
use Rattle.psl_keys.proofs.Known.{known}
use Rattle.psl_keys.proofs.lookup.FieldSet.of.Goals as goal

pub invariant_of-result : goal.invariant_of-result
invariant_of-result c = λ text.
    known c.in_ok-names.names.keys c.as_slice.result.now c.args.model.now text (c.in_ok-names.ensures text) (ap (map (λ (name : Bor Name). name.now)) c.as_slice.ensures.value ∙ c.in_ok-all.ensures)
