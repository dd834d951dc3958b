-- A listed call was one that may fail.
use Rattle.std.proofs.Common.{◌≡◌, ◌+◌, true, ◌==◌, arith, refl, rules, sym, ◌∙◌}
use Rattle.std.proofs.lemmas.Bool.{false≢true}
use Rattle.std.specs.List.{list_any}
use Rattle.qe_base.proofs.LaterCalls.{listed_is_later}
use Rattle.qe_base.proofs.outside.calls.Calls.begin.Goals as goal

pub returns-then-contains-clause-cause : goal.returns-then-contains-clause-cause
returns-then-contains-clause-cause c =
    let old = c.args.self.now in
    let listed : list_any (λ number. number == old.made + 1) old.failing ≡ true = search rules in
    record {
      counted = record { later = grind arith; rose = λ _. grind arith; still = λ never. absurd (never refl) };
      never = λ h. absurd (false≢true (sym h ∙ listed_is_later old.made old.failing listed));
    }
