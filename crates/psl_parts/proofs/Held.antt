-- What is found among the ends that hold foreign keys.
use Rattle.std.proofs.Common.{◌≡◌, ℕ, Bool, List, Option, Result, subst}
use Rattle.std.specs.Prelude.{IfOk}
use Rattle.psl_rules.specs.Parts.{first, failing}
use Rattle.psl_rules.specs.Relations.{End, end_place}

-- by a test over equal things, among equal ends
pub found_among : {A E : Type 0} (test : A → End → Bool) (one other : A) (held ends : List End) (result : Result (Option ℕ) E) → one ≡ other → held ≡ ends
    → IfOk result (λ found. found ≡ first (failing (test one) end_place held)) → IfOk result (λ found. found ≡ first (failing (test other) end_place ends))
found_among test one other held ends result same kept before =
    subst (λ thing. IfOk result (λ found. found ≡ first (failing (test thing) end_place ends))) same (subst (λ (all : List End). IfOk result (λ found. found ≡ first (failing (test one) end_place all))) kept before)
