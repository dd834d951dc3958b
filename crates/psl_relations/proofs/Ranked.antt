-- Steps to higher numbers lie on no cycle.
use Rattle.std.proofs.Common.{◌≡◌, inl, inr, ℕ, ◌<◌, ◌≤◌, Bool, true, false, ◌&&◌, List, [], ◌∷◌, refl, ap, ◌∙◌, arith, Bor, HashMap}
use Rattle.std.proofs.lemmas.Bool.{and_parts, leb-true, ltb-true}
use Rattle.std.specs.Prelude.{nat_le, nat_lt, unwrap_or, bytes_eq}
use Rattle.std.specs.List.{list_all}
use Rattle.std.specs.Map.{lookup}
use Rattle.qe_text.specs.Lists.{In}
use Rattle.psl_rules.specs.Parts.{Spelling}
use Rattle.psl_rules.specs.Updates.{Step, Leads, leads}
use Rattle.psl_rules.proofs.Steps.{leads_sound}
use Rattle.psl_relations.specs.Ranks.{number_of, ascends}

passes : (p : Step → Bool) (all : List Step) (step : Step) → list_all p all ≡ true → In step all → p step ≡ true
unfolding In
passes p [] step good there = absurd there
passes p (one ∷ all) step good (inl here) = ap p here ∙ (and_parts (p one) (list_all p all) good).0
passes p (one ∷ all) step good (inr there) = passes p all step (and_parts (p one) (list_all p all) good).1 there

-- a chain of steps leads to no lower number
chain_up : {S : Type 0} (numbers : HashMap (Bor Spelling) ℕ S) (all : List Step) (a b : Spelling) → list_all (ascends numbers) all ≡ true → Leads all a b → number_of numbers a ≤ number_of numbers b
chain_up numbers all a b up Leads.here = omega arith
chain_up numbers all a b up (Leads.on step there further) =
    let one : number_of numbers step.from ≤ number_of numbers step.to = leb-true (number_of numbers step.from) (number_of numbers step.to) (passes (ascends numbers) all step up there) in
    let rest : number_of numbers step.to ≤ number_of numbers b = chain_up numbers all step.to b up further in
    omega (arith, one, rest)

pub up_is_off : {S : Type 0} (numbers : HashMap (Bor Spelling) ℕ S) (all : List Step) (from to : Spelling) → list_all (ascends numbers) all ≡ true → nat_lt (number_of numbers from) (number_of numbers to) ≡ true → leads all to from ≡ false
up_is_off numbers all from to up higher = by_test (leads all to from) refl
  where
    by_test : (b : Bool) → leads all to from ≡ b → leads all to from ≡ false
    by_test true is =
        let less : number_of numbers from < number_of numbers to = ltb-true (number_of numbers from) (number_of numbers to) higher in
        let most : number_of numbers to ≤ number_of numbers from = chain_up numbers all to from up (leads_sound all to from is) in
        absurd (omega (arith, less, most))
    by_test false is = is

-- no model has a number
pub none_down : {S : Type 0} (numbers : HashMap (Bor Spelling) ℕ S) (all : List Step) → numbers.entries ≡ [] → list_all (ascends numbers) all ≡ true
none_down numbers [] is = refl
none_down numbers (step ∷ all) is =
    ap (λ (entries : List (Bor Spelling × ℕ)). nat_le (unwrap_or (lookup (λ (key : Bor Spelling). bytes_eq step.from key.now) entries) 0) (unwrap_or (lookup (λ (key : Bor Spelling). bytes_eq step.to key.now) entries) 0) && list_all (ascends numbers) all) is
    ∙ none_down numbers all is
