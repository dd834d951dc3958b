use Rattle.std.proofs.Common.{rules, ◌≡◌, ◌∙◌}
use Rattle.psl_values.proofs.Looked.{number_found}
use Rattle.psl_values.proofs.numbered.Numbered.number.Goals as goal

pub returns : goal.returns
returns c =
    let same : c.self.inside.models.now ≡ c.args.self.now = search rules in
    let found = number_found c.copied.result _ c.names_of-names.result c.args.model.now c.args.field.now c.self.inside.models.now c.args.self.now (c.copied.ensures ∙ c.get.ensures.value) (c.self.invariant.0 c.names_of-names.result) same c.names_of-names.ensures.model c.names_of-names.ensures.field in
    search rules
