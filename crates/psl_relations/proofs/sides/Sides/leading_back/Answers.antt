use Rattle.std.proofs.Common.{rules}
use Rattle.psl_relations.specs.Back.{Side}
use Rattle.psl_relations.proofs.Gathered.{looked_up}
use Rattle.psl_relations.proofs.sides.Sides.leading_back.Goals as goal

pub returns : goal.returns
returns c =
    let back : Side = (c.as_str.result, c.as_str-2.result, c.relation_name.result) in
    looked_up (λ group. group.items) c.get.result _ c.unwrap_or.result _ back c.args.end.now _ c.args.self.now c.as_slice.result.now c.as_slice.ensures.value c.unwrap_or.ensures c.get.ensures.value c.self.invariant.0
    (c.self.invariant.1 back) (search rules) (search rules) (search rules) (search rules)
