use Rattle.std.proofs.Common.{rules, ◌≡◌, ap, map, ◌∙◌}
use Rattle.psl_text.specs.declared.tree.Tree.{Tree}
use Rattle.psl_rules.specs.Stored.{linked}
use Rattle.psl_sound.specs.SchemaOf.{is_same_end, side_a}
use Rattle.psl_values.proofs.Looked.{found}
use Rattle.psl_parts.proofs.Looked.{position_mapped}
use Rattle.psl_values.proofs.numbered.Numbered.side_a_place.Goals as goal

pub returns : goal.returns
returns c =
    let same : c.self.inside.models.now ≡ c.args.self.now = search rules in
    found c.copied.result _ c.names.result c.args.end.now (map side_a (linked c.self.inside.models.now)) (map side_a (linked c.args.self.now)) (c.copied.ensures ∙ c.get.ensures.value) (c.self.invariant.3 c.names.result)
    (ap (λ (tree : Tree). map side_a (linked tree)) same) c.names.ensures.model c.names.ensures.field
    ∙ position_mapped side_a (is_same_end c.args.end.now) (linked c.args.self.now)
