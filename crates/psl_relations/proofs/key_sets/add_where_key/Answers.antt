use Rattle.std.proofs.Common.{rules, ◌≡◌, true}
use Rattle.psl_rules.specs.Keys.{is_key}
use Rattle.psl_relations.proofs.Added.{where_key}
use Rattle.psl_relations.proofs.key_sets.add_where_key.Goals as goal

pub returns : goal.returns
returns c =
    let key : is_key c.args.attribute.now ≡ true = search rules in
    where_key (is_key c.args.attribute.now) c.args.sets.now c.add_key.new.sets _ key c.in_ok-add_key.ensures
