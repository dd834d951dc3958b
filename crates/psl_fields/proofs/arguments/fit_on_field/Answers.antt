use Rattle.std.proofs.Common.{◌≡◌, codes, sym, ap, ◌∙◌}
use Rattle.psl_rules.specs.Arguments.{arguments_fit, field_parameters}
use Rattle.psl_fields.proofs.Fitting.{six}
use Rattle.psl_fields.proofs.arguments.fit_on_field.Goals as goal

pub returns-in-relation : goal.returns-in-relation
returns-in-relation c =
    let named : c.args.attribute.now.name.text ≡ codes "relation" = sym c.as_str.ensures.text ∙ c.in-relation.is in
    c.fit-in-relation.ensures
    ∙ ap (λ parameters. arguments_fit parameters c.as_slice-arguments.result.now)
    (six c.may_alone.ensures c.may-in-relation.ensures c.may-in-relation-2.ensures c.may-in-relation-3.ensures c.may-in-relation-4.ensures c.may-in-relation-5.ensures)
    ∙ ap (arguments_fit (field_parameters (codes "relation"))) c.as_slice-arguments.ensures
    ∙ ap (λ name. arguments_fit (field_parameters name) c.args.attribute.now.arguments) (sym named)
