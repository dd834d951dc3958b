use Rattle.std.proofs.Common.{◌≡◌, ◌++◌, map, drop}
use Rattle.std.specs.List.{enumerate_from}
use Rattle.qe_request.proofs.operations.column_numbers.Given as goal

abbrev pub invariant-loop-number : goal.invariant-loop-number
invariant-loop-number l = l.numbers ++ map (λ numbered. numbered.0) (enumerate_from l.number (drop l.number l.columns)) ≡ map (λ numbered. numbered.0) (enumerate_from 0 l.columns)
