use Rattle.std.proofs.Common.{rules, ◌≡◌, ◌∙◌, ap, Some, w32, w64, FitsSigned, refl, sym, subst}
use Rattle.std.proofs.lemmas.Int.{to_z-of_z}
use Rattle.jiff_core.specs.Calendar.{IsEpochDay}
use Rattle.jiff_core.specs.Date.{epoch_day}
use Rattle.qe_scalars.proofs.Civil.{day_is}
use Rattle.qe_scalars.proofs.moment_text.day_of.Goals as goal

pub returns-in-Ok-clause-value : goal.returns-in-Ok-clause-value
returns-in-Ok-clause-value c =
    let fits : FitsSigned w64 c.from.result = search rules in
    let small : FitsSigned w32 c.to_unix_epoch_day.result = search rules in
    let is : c.from.result ≡ epoch_day c.in-Ok.date = c.from.ensures ∙ to_z-of_z w32 c.to_unix_epoch_day.result small ∙ c.to_unix_epoch_day.ensures.value ∙ ap epoch_day c.to_plain.ensures in
    ap Some (to_z-of_z w64 c.from.result fits ∙ is)
    ∙ day_is c.args.year c.args.month c.args.day c.in-Ok.date c.requires.year c.requires.month c.requires.day (c.in-Ok.ensures.succeeds.0 refl) c.in-Ok.ensures.value

pub returns-in-Ok-clause-bound : goal.returns-in-Ok-clause-bound
returns-in-Ok-clause-bound c =
    let fits : FitsSigned w64 c.from.result = search rules in
    let small : FitsSigned w32 c.to_unix_epoch_day.result = search rules in
    subst IsEpochDay (sym (to_z-of_z w64 c.from.result fits ∙ c.from.ensures ∙ to_z-of_z w32 c.to_unix_epoch_day.result small)) c.to_unix_epoch_day.ensures.bound
