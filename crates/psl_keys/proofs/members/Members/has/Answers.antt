use Rattle.std.proofs.Common.{ap, ◌∙◌}
use Rattle.psl_rules.specs.Defaults.{is_member_of}
use Rattle.psl_keys.proofs.members.Members.has.Goals as goal

pub returns : goal.returns
returns c = c.contains.ensures ∙ c.self.invariant (c.args.kind, c.args.name) ∙ ap (λ tree. is_member_of tree c.args.kind.now c.args.name.now) c.self.view_is
