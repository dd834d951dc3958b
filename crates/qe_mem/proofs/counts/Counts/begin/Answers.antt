use Rattle.std.proofs.Common.{◌≡◌, ◌≤◌, true, false, sym, ◌∙◌, ap, subst, arith, rules}
use Rattle.std.proofs.lemmas.Bool.{false≢true}
use Rattle.qe_mem.specs.Counts.{made, fails_next, may_fail, after_call}
use Rattle.qe_mem.specs.declared.counts.Counts.{Counts}
use Rattle.qe_mem.proofs.LaterCalls.{Grows, fails_is_later, stays_sure, passes}
use Rattle.qe_mem.proofs.counts.Counts.begin.Goals as goal

pub returns-then-fails-clause-cause : goal.returns-then-fails-clause-cause
returns-then-fails-clause-cause c =
    let failed : c.fails_next-fails.result ≡ true = search rules in
    let listed : fails_next c.args.call c.args.self.now ≡ true = search rules in
    record {
      counted = record { later = grind arith; rose = λ _. grind arith; still = λ never. absurd (never failed) };
      never = λ sure. absurd (false≢true (sym sure ∙ fails_is_later c.args.call c.args.self.now listed));
    }

pub returns-else-fails-clause-cause : goal.returns-else-fails-clause-cause
returns-else-fails-clause-cause c =
    let le : Grows c.args.call c.args.self.now = subst (λ (counts : Counts). made c.args.call c.args.self.now ≤ made c.args.call counts) c.count.ensures.counted c.count.ensures.grows in
    let is : c.count.new.self ≡ after_call c.args.call c.args.self.now = search rules in
    let passed : c.fails_next-fails.result ≡ false = search rules in
    passes c.args.call c.args.self.now c.count.new.self (c.fails_next-fails.result ≡ true) (λ failed. absurd (false≢true (sym passed ∙ failed))) c.count.ensures.counted (λ sure. ap may_fail is ∙ stays_sure c.args.call c.args.self.now le sure)
