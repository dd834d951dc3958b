use Rattle.psl_relations.proofs.Lowered.{prefixed}
use Rattle.psl_relations.proofs.stored.begins_with.Goals as goal

pub returns-then-name-low_prefix : goal.returns-then-name-low_prefix
returns-then-name-low_prefix c =
    prefixed c.args.name.now c.args.low_prefix.now _ c.eq_ignore_ascii_case.ensures.test c.requires
