use Rattle.std.proofs.Common.{ap, sym, ◌∙◌}
use Rattle.qe_text.specs.Lists.{is_among}
use Rattle.psl_rules.specs.Parts.{fields}
use Rattle.psl_rules.specs.Attributes.{names_column}
use Rattle.psl_parts.proofs.Named.{among_columns}
use Rattle.psl_parts.proofs.columns.Columns.of.Goals as goal

pub invariant_of-result : goal.invariant_of-result
invariant_of-result c = λ name.
    ap (is_among name) (c.in_ok-names.ensures ∙ c.in_ok-column_names.ensures) ∙ among_columns c.args.types.now name (fields c.args.model.now)
    ∙ ap (λ tree. names_column tree c.args.model.now name) (sym c.tree.ensures)
