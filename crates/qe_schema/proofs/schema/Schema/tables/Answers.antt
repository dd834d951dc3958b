use Rattle.std.proofs.Common.{rules, length, ◌≤◌, ◌≡◌, arith}
use Rattle.qe_schema.proofs.schema.Schema.tables.Goals as goal

pub overflow_cast-result : goal.overflow_cast-result
overflow_cast-result c =
    let few : length c.self.inside.tables ≤ 256 = c.self.invariant.small.tables in
    let counted : c.len.result ≡ length c.self.inside.tables = search rules in
    omega arith
