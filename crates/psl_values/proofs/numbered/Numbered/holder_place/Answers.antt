use Rattle.std.proofs.Common.{rules, ◌≡◌, ap, ◌∙◌}
use Rattle.psl_rules.specs.Foreign.{holders}
use Rattle.psl_values.proofs.Looked.{found}
use Rattle.psl_values.proofs.numbered.Numbered.holder_place.Goals as goal

pub returns : goal.returns
returns c =
    let same : c.self.inside.models.now ≡ c.args.self.now = search rules in
    found c.copied.result _ c.names.result c.args.end.now (holders c.self.inside.models.now) (holders c.args.self.now) (c.copied.ensures ∙ c.get.ensures.value) (c.self.invariant.1 c.names.result) (ap holders same) c.names.ensures.model
    c.names.ensures.field
