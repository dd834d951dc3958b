use Rattle.std.proofs.Common.{ap}
use Rattle.psl_rules.specs.Parts.{member_of}
use Rattle.psl_keys.proofs.Pairs.{no_member, one_member}
use Rattle.psl_keys.proofs.members.add_member.Goals as goal

pub returns-in-Setting : goal.returns-in-Setting
returns-in-Setting c = λ pair. no_member _ _ pair.1.now _ (ap member_of c.in-Setting.is)

pub returns-in-Field : goal.returns-in-Field
returns-in-Field c = λ pair. no_member _ _ pair.1.now _ (ap member_of c.in-Field.is)

pub returns-in-Block : goal.returns-in-Block
returns-in-Block c = λ pair. no_member _ _ pair.1.now _ (ap member_of c.in-Block.is)
