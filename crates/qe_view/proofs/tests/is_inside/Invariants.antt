use Rattle.std.proofs.Common.{◌≡◌, length}
use Rattle.qe_schema.specs.Tests.{is_inside}
use Rattle.qe_view.proofs.tests.is_inside.Given as goal

abbrev pub invariant-rest : goal.invariant-rest
invariant-rest l = is_inside l.needle l.rest ≡ is_inside l.needle l.text

abbrev pub decreases-rest : goal.decreases-rest
decreases-rest l = length l.rest
