use Rattle.std.proofs.Common.{rules, ◌≡◌, arith, refl, codes, true, List, ℕ}
use Rattle.qe_scalars.proofs.Forms.{digits_in, same_length}
use Rattle.qe_scalars.specs.Moments.{has_form}
use Rattle.qe_scalars.proofs.moment_text.seconds_in.Goals as goal

abbrev civil : List ℕ
civil = codes "0000-00-00T00:00:00"

pub number_at-requires-3-clause-digits : goal.number_at-requires-3-clause-digits
number_at-requires-3-clause-digits c = let has : has_form civil c.args.text.now ≡ true = search rules in digits_in civil c.args.text.now 8 2 has refl

pub number_at-requires-4-clause-within : goal.number_at-requires-4-clause-within
number_at-requires-4-clause-within c = let has : has_form civil c.args.text.now ≡ true = search rules in omega (arith, same_length civil c.args.text.now has)

pub number_at-requires-4-clause-digits : goal.number_at-requires-4-clause-digits
number_at-requires-4-clause-digits c = let has : has_form civil c.args.text.now ≡ true = search rules in digits_in civil c.args.text.now 11 2 has refl

pub number_at-requires-5-clause-within : goal.number_at-requires-5-clause-within
number_at-requires-5-clause-within c = let has : has_form civil c.args.text.now ≡ true = search rules in omega (arith, same_length civil c.args.text.now has)

pub number_at-requires-5-clause-digits : goal.number_at-requires-5-clause-digits
number_at-requires-5-clause-digits c = let has : has_form civil c.args.text.now ≡ true = search rules in digits_in civil c.args.text.now 14 2 has refl

pub number_at-requires-6-clause-within : goal.number_at-requires-6-clause-within
number_at-requires-6-clause-within c = let has : has_form civil c.args.text.now ≡ true = search rules in omega (arith, same_length civil c.args.text.now has)

pub number_at-requires-6-clause-digits : goal.number_at-requires-6-clause-digits
number_at-requires-6-clause-digits c = let has : has_form civil c.args.text.now ≡ true = search rules in digits_in civil c.args.text.now 17 2 has refl
