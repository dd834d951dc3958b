use Rattle.std.proofs.Common.{◌≡◌, ◌++◌, drop, map, unwrap_or}
use Rattle.std.specs.List.{enumerate_from}
use Rattle.qe_base.specs.declared.value.Value.TheVariants.{Null}
use Rattle.qe_writing.specs.Fill.{given_for}
use Rattle.qe_ops.proofs.fill.fill.Given as goal

-- the columns filled so far, and those that are left
abbrev pub invariant-loop-number : goal.invariant-loop-number
invariant-loop-number l =
    l.filled.items ++ map (λ numbered. unwrap_or (given_for numbered.0 l.values) Null) (enumerate_from l.number (drop l.number l.columns)) ≡ map (λ numbered. unwrap_or (given_for numbered.0 l.values) Null) (enumerate_from 0 l.columns)
