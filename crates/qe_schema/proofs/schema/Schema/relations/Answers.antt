use Rattle.std.proofs.Common.{rules, length, ◌≤◌, ◌≡◌, arith}
use Rattle.qe_schema.proofs.schema.Schema.relations.Goals as goal

pub overflow_cast-result : goal.overflow_cast-result
overflow_cast-result c =
    let few : length c.self.inside.relations ≤ 32768 = c.self.invariant.small.relations in
    let counted : c.len.result ≡ length c.self.inside.relations = search rules in
    omega arith
