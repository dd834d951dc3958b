use Rattle.std.proofs.Common.{◌≡◌, drop}
use Rattle.qe_scalars.specs.Moments as spec
use Rattle.qe_scalars.proofs.moment_text.has_form.Given as goal

abbrev pub invariant-loop-number : goal.invariant-loop-number
invariant-loop-number l = spec.has_form (drop l.number l.form) (drop l.number l.text) ≡ spec.has_form l.form l.text
