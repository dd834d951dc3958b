-- Places that come too late to be the first.
use Rattle.std.proofs.Common.{◌≡◌, ℕ, ◌≤◌, Bool, true, false, min, Option, Some, None, refl, ap, arith, true≢false, sym}
use Rattle.std.proofs.lemmas.Bool.{leb-true}
use Rattle.psl_rules.specs.Parts.{noted}
use Rattle.psl_relations.specs.Passed.{is_behind}

smaller : (one other : ℕ) → one ≤ other → min one other ≡ one
smaller one other less = omega arith

pub passed : (found : Option ℕ) (at : ℕ) (breaks : Bool) → is_behind found at ≡ true → found ≡ noted found breaks at
passed None at breaks behind = absurd (true≢false (sym behind))
passed (Some one) at false behind = refl
passed (Some one) at true behind = ap Some (sym (smaller one at (leb-true one at behind)))
