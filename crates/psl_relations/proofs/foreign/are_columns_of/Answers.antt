use Rattle.std.proofs.Common.{rules, ◌≤◌, refl, sym, ◌∙◌, length}
use Rattle.psl_relations.proofs.Columns.{found_at_once}
use Rattle.psl_relations.proofs.foreign.are_columns_of.Goals as goal

pub returns-then-are_found : goal.returns-then-are_found
returns-then-are_found c =
    let some : 1 ≤ length c.args.names.now = search rules in
    found_at_once c.args.types.now c.args.model.now c.args.names.now c.as_slice.result.now (length c.args.names.now) some refl (sym c.in_ok-stand_once.ensures ∙ c.if-stand_once.true) (c.as_slice.ensures.value ∙ c.in_ok-fields.ensures)
    (sym c.are_so_many_columns-are_found.ensures ∙ c.if-are_found.true)
