use Rattle.std.proofs.Common.{rules, ◌≡◌}
use Rattle.psl_values.proofs.Sided.{partner_in, partner_none}
use Rattle.psl_values.proofs.numbered.Numbered.target_place.Goals as goal

pub returns-in-Some : goal.returns-in-Some
returns-in-Some c =
    let same : c.self.inside.models.now ≡ c.args.self.now = search rules in
    partner_in (λ group. group.items) c.get.result c.in-Some.group _ c.as_slice.result.now c.first_other.result c.side_across.result c.args.end.now c.self.inside.models.now c.args.self.now c.get.ensures.value c.in-Some.is
    c.as_slice.ensures.value c.first_other.ensures (c.self.invariant.2 c.side_across.result) same c.side_across.ensures.model c.side_across.ensures.target c.side_across.ensures.name

pub returns-in-None : goal.returns-in-None
returns-in-None c =
    let same : c.self.inside.models.now ≡ c.args.self.now = search rules in
    partner_none (λ group. group.items) c.get.result _ c.side_across.result c.args.end.now c.self.inside.models.now c.args.self.now c.get.ensures.value c.in-None.is (c.self.invariant.2 c.side_across.result) same
    c.side_across.ensures.model c.side_across.ensures.target c.side_across.ensures.name
