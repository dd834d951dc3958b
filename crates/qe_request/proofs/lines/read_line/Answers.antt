use Rattle.std.proofs.Common.{◌≡◌, IfOk, rules}
use Rattle.std.proofs.lemmas.Result.{IfOk-weaker}
use Rattle.qe_base.specs.declared.write.Op.{Op}
use Rattle.qe_forms.specs.Request.{asked_of, asks}
use Rattle.qe_request.proofs.Fitting.{asked_right}
use Rattle.qe_request.proofs.lines.read_line.Goals as goal

pub returns-clause-fits : goal.returns-clause-fits
returns-clause-fits c =
    let schema = c.args.schema.now in
    let ok : IfOk c.ok_or.result (λ (found : Op). asked_of schema c.args.text.now ≡ asks found) = search rules in
    IfOk-weaker c.ok_or.result _ _ (λ found is. (asked_right schema c.args.text.now found c.is_sound.ensures.keys is).1) ok

pub returns-clause-carried : goal.returns-clause-carried
returns-clause-carried c =
    let schema = c.args.schema.now in
    let ok : IfOk c.ok_or.result (λ (found : Op). asked_of schema c.args.text.now ≡ asks found) = search rules in
    IfOk-weaker c.ok_or.result _ _ (λ found is. (asked_right schema c.args.text.now found c.is_sound.ensures.keys is).0) ok
