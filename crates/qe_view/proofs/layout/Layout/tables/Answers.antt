use Rattle.std.proofs.Common.{rules, length, ◌≤◌, ◌≡◌, arith}
use Rattle.qe_view.proofs.Few.{layout_tables}
use Rattle.qe_view.proofs.layout.Layout.tables.Goals as goal

pub overflow_cast-result : goal.overflow_cast-result
overflow_cast-result c =
    let few : length c.self.inside.tables ≤ 256 = layout_tables _ c.self.invariant in
    let counted : c.len.result ≡ length c.self.inside.tables = search rules in
    omega arith
