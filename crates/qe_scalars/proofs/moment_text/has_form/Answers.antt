use Rattle.std.proofs.Common.{refl, arith}
use Rattle.qe_scalars.proofs.Forms.{other_length}
use Rattle.qe_scalars.specs.Moments as spec
use Rattle.qe_scalars.proofs.moment_text.has_form.Goals as goal

pub returns-then-form-text : goal.returns-then-form-text
returns-then-form-text c = other_length c.args.form.now c.args.text.now (spec.has_form c.args.form.now c.args.text.now) refl (λ same. omega arith)
