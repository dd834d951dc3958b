use Rattle.std.proofs.Common.{◌≡◌, ◌+◌, drop}
use Rattle.qe_scalars.specs.Moments.{digits_before}
use Rattle.qe_scalars.proofs.moment_text.digits_before.Given as goal

abbrev pub invariant-loop-byte : goal.invariant-loop-byte
invariant-loop-byte l = (l.count ≡ l.byte-index) × (l.count + digits_before (drop l.byte-index l.text) ≡ digits_before l.text)
