-- What the layout of a sound schema has at most.
use Rattle.std.proofs.Common.{◌≡◌, ◌≤◌, length, ap, arith}
use Rattle.qe_view.specs.Layouts.{Layout, IsLayout}

pub layout_tables : (layout : Layout) → IsLayout layout → length layout.tables ≤ 256
layout_tables layout (schema, is, value) =
    let most : length schema.tables ≤ 256 = is.small.tables in
    let same : length layout.tables ≡ length schema.tables = ap (λ (all : Layout). length all.tables) value in
    omega arith
