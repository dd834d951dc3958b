-- As many rounds as there are steps reach whatever steps lead to.
use Rattle.std.proofs.Common.{◌≡◌, ◌⊎◌, inl, inr, ℕ, zero, suc, ◌+◌, ◌≤◌, ◌<◌, Bool, true, false, cond, not, ◌&&◌, ◌||◌, List, [], ◌∷◌, ◌++◌, map, filter, length, refl, sym, ap, subst, ◌∙◌, arith, true≢false}
use Rattle.std.proofs.lemmas.List.Folds.{list_any-append}
use Rattle.std.proofs.lemmas.Slice.Eq.{bytes_eq-Decides}
use Rattle.std.specs.Prelude.{bytes_eq}
use Rattle.std.specs.List.{list_any, list_all}
use Rattle.psl_rules.specs.Parts.{Spelling}
use Rattle.qe_text.specs.Lists.{is_among, In}
use Rattle.psl_rules.specs.Updates.{Step, Leads, reached, leads}

-- ---- tests

or_false : (b : Bool) → (b || false) ≡ b
or_false true = refl
or_false false = refl

or_true : (b : Bool) → (b || true) ≡ true
or_true true = refl
or_true false = refl

-- what one of two tests passes
or_cases : (a b : Bool) → (a || b) ≡ true → (a ≡ true) ⊎ (b ≡ true)
or_cases true b h = inl refl
or_cases false b h = inr h

and_parts : (a b : Bool) → (a && b) ≡ true → (a ≡ true) × (b ≡ true)
and_parts true b h = (refl, h)
and_parts false b h = absurd (true≢false (sym h))

pub same_spelling : (x y : Spelling) → bytes_eq x y ≡ true → x ≡ y
same_spelling x y h = (bytes_eq-Decides x y).0 h

spelling_self : (x : Spelling) → bytes_eq x x ≡ true
spelling_self x = (bytes_eq-Decides x x).1 refl

-- ---- one round

-- whether so many rounds reach a model
abbrev pub is_in : List Step → Spelling → ℕ → Spelling → Bool
is_in all from n x = is_among x (reached all n from)

pub any_mapped : (p : Step → Bool) (x : Spelling) (all : List Step) → list_any (bytes_eq x) (map (λ step. step.to) (filter p all)) ≡ list_any (λ step. p step && bytes_eq x step.to) all
any_mapped p x [] = refl
any_mapped p x (step ∷ all) = by_test (p step) refl (any_mapped p x all)
  where
    by_test : (b : Bool) → p step ≡ b → list_any (bytes_eq x) (map (λ step. step.to) (filter p all)) ≡ list_any (λ step. p step && bytes_eq x step.to) all
        → list_any (bytes_eq x) (map (λ step. step.to) (filter p (step ∷ all))) ≡ list_any (λ step. p step && bytes_eq x step.to) (step ∷ all)
    by_test true is h =
        ap (λ b. list_any (bytes_eq x) (map (λ (step : Step). step.to) (cond b (step ∷ filter p all) (filter p all)))) is ∙ ap (λ b. bytes_eq x step.to || b) h
        ∙ sym (ap (λ b. (b && bytes_eq x step.to) || list_any (λ step. p step && bytes_eq x step.to) all) is)
    by_test false is h =
        ap (λ b. list_any (bytes_eq x) (map (λ (step : Step). step.to) (cond b (step ∷ filter p all) (filter p all)))) is ∙ h
        ∙ sym (ap (λ b. (b && bytes_eq x step.to) || list_any (λ step. p step && bytes_eq x step.to) all) is)

pub round : (all : List Step) (from : Spelling) (n : ℕ) (x : Spelling) → is_in all from (suc n) x ≡ (is_in all from n x || list_any (λ step. is_in all from n step.from && bytes_eq x step.to) all)
unfolding reached
round all from n x =
    list_any-append (bytes_eq x) (reached all n from) (map (λ (step : Step). step.to) (filter (λ step. is_among step.from (reached all n from)) all))
    ∙ ap (λ b. is_in all from n x || b) (any_mapped (λ step. is_among step.from (reached all n from)) x all)

begins : (all : List Step) (from : Spelling) (n : ℕ) → is_in all from n from ≡ true
unfolding reached
begins all from zero = ap (λ b. b || false) (spelling_self from)
begins all from (suc n) = round all from n from ∙ ap (λ b. b || list_any (λ step. is_in all from n step.from && bytes_eq from step.to) all) (begins all from n)

grows : (all : List Step) (from : Spelling) (n : ℕ) (x : Spelling) → is_in all from n x ≡ true → is_in all from (suc n) x ≡ true
grows all from n x h = round all from n x ∙ ap (λ b. b || list_any (λ step. is_in all from n step.from && bytes_eq x step.to) all) h

-- ---- members of lists

any_found : (p : Step → Bool) (all : List Step) → list_any p all ≡ true → (step : Step) × In step all × (p step ≡ true)
unfolding In
any_found p [] h = absurd (true≢false (sym h))
any_found p (step ∷ all) h = by_case (or_cases (p step) (list_any p all) h) (λ there. any_found p all there)
  where
    by_case : (p step ≡ true) ⊎ (list_any p all ≡ true) → (list_any p all ≡ true → (one : Step) × In one all × (p one ≡ true)) → (one : Step) × In one (step ∷ all) × (p one ≡ true)
    by_case (inl here) further = (step, inl refl, here)
    by_case (inr there) further = let found = further there in (found.0, inr found.1, found.2)

any_at : (p : Step → Bool) (all : List Step) (step : Step) → In step all → p step ≡ true → list_any p all ≡ true
unfolding In
any_at p [] step there h = absurd there
any_at p (one ∷ all) step (inl here) h = ap (λ b. b || list_any p all) (ap p (sym here) ∙ h)
any_at p (one ∷ all) step (inr there) h = ap (λ b. p one || b) (any_at p all step there h) ∙ or_true (p one)

-- ---- counts of what passes a test

count_by : (p q : Step → Bool) (step : Step) (all : List Step) (a b : Bool) → p step ≡ a → q step ≡ b → (P : ℕ → ℕ → Type 0) → P (length (cond a (step ∷ filter p all) (filter p all))) (length (cond b (step ∷ filter q all) (filter q all))) → P (length (filter p (step ∷ all))) (length (filter q (step ∷ all)))
count_by p q step all a b is too P h =
    subst (λ x. P (length (cond x (step ∷ filter p all) (filter p all))) (length (filter q (step ∷ all)))) (sym is) (subst (λ y. P (length (cond a (step ∷ filter p all) (filter p all))) (length (cond y (step ∷ filter q all) (filter q all)))) (sym too) h)

-- what passes the one test passes the other
fewer : (p q : Step → Bool) (all : List Step) → ((step : Step) → p step ≡ true → q step ≡ true) → length (filter p all) ≤ length (filter q all)
fewer p q [] less = omega arith
fewer p q (step ∷ all) less = by_tests (p step) (q step) refl refl (fewer p q all less)
  where
    by_tests : (a b : Bool) → p step ≡ a → q step ≡ b → length (filter p all) ≤ length (filter q all) → length (filter p (step ∷ all)) ≤ length (filter q (step ∷ all))
    by_tests true true is too h = count_by p q step all true true is too (λ m n. m ≤ n) (omega (arith, h))
    by_tests true false is too h = absurd (true≢false (sym (less step is) ∙ too))
    by_tests false true is too h = count_by p q step all false true is too (λ m n. m ≤ n) (omega (arith, h))
    by_tests false false is too h = count_by p q step all false false is too (λ m n. m ≤ n) h

-- and this step passes the other alone
strict : (p q : Step → Bool) (all : List Step) (step : Step) → ((one : Step) → p one ≡ true → q one ≡ true) → In step all → p step ≡ false → q step ≡ true → suc (length (filter p all)) ≤ length (filter q all)
unfolding In
strict p q [] step less there off on = absurd there
strict p q (one ∷ all) step less (inl here) off on =
    let h = fewer p q all less in
    count_by p q one all false true (ap p (sym here) ∙ off) (ap q (sym here) ∙ on) (λ m n. suc m ≤ n) (omega (arith, h))
strict p q (one ∷ all) step less (inr there) off on = by_tests (p one) (q one) refl refl (strict p q all step less there off on)
  where
    by_tests : (a b : Bool) → p one ≡ a → q one ≡ b → suc (length (filter p all)) ≤ length (filter q all) → suc (length (filter p (one ∷ all))) ≤ length (filter q (one ∷ all))
    by_tests true true is too h = count_by p q one all true true is too (λ m n. suc m ≤ n) (omega (arith, h))
    by_tests true false is too h = absurd (true≢false (sym (less one is) ∙ too))
    by_tests false true is too h = count_by p q one all false true is too (λ m n. suc m ≤ n) (omega (arith, h))
    by_tests false false is too h = count_by p q one all false false is too (λ m n. suc m ≤ n) h

at_most : (p : Step → Bool) (all : List Step) → length (filter p all) ≤ length all
at_most p [] = omega arith
at_most p (step ∷ all) = by_test (p step) refl (at_most p all)
  where
    by_test : (b : Bool) → p step ≡ b → length (filter p all) ≤ length all → length (filter p (step ∷ all)) ≤ suc (length all)
    by_test true is h = subst (λ b. length (cond b (step ∷ filter p all) (filter p all)) ≤ suc (length all)) (sym is) (omega (arith, h))
    by_test false is h = subst (λ b. length (cond b (step ∷ filter p all) (filter p all)) ≤ suc (length all)) (sym is) (omega (arith, h))

-- ---- rounds that reach no more

abbrev Closed : List Step → Spelling → ℕ → Type 0
Closed all from n = (step : Step) → In step all → is_in all from n step.from ≡ true → is_in all from n step.to ≡ true

-- a step that leads out of what is reached
abbrev Open : List Step → Spelling → ℕ → List Step → Type 0
Open all from n some = (step : Step) × In step some × (is_in all from n step.from ≡ true) × (is_in all from n step.to ≡ false)

open_or_closed : (all : List Step) (from : Spelling) (n : ℕ) (some : List Step) → ((step : Step) → In step some → is_in all from n step.from ≡ true → is_in all from n step.to ≡ true) ⊎ Open all from n some
unfolding In
open_or_closed all from n [] = inl (λ step there h. absurd there)
open_or_closed all from n (step ∷ some) = by_tests (is_in all from n step.from) (is_in all from n step.to) refl refl (open_or_closed all from n some)
  where
    by_tests : (a b : Bool) → is_in all from n step.from ≡ a → is_in all from n step.to ≡ b → ((one : Step) → In one some → is_in all from n one.from ≡ true → is_in all from n one.to ≡ true) ⊎ Open all from n some
        → ((one : Step) → In one (step ∷ some) → is_in all from n one.from ≡ true → is_in all from n one.to ≡ true) ⊎ Open all from n (step ∷ some)
    by_tests a b is too (inr out) = inr (out.0, inr out.1, out.2, out.3)
    by_tests true false is too (inl closed) = inr (step, inl refl, is, too)
    by_tests a true is too (inl closed) = inl (λ one there h. elim there [ inl here ↦ ap (λ x. is_in all from n x.to) here ∙ too | inr further ↦ closed one further h ])
    by_tests false b is too (inl closed) = inl (λ one there h. elim there [ inl here ↦ absurd (true≢false (sym h ∙ ap (λ x. is_in all from n x.from) here ∙ is)) | inr further ↦ closed one further h ])

stepped : (all : List Step) (from : Spelling) (n : ℕ) (step : Step) → In step all → is_in all from n step.from ≡ true → is_in all from (suc n) step.to ≡ true
stepped all from n step there h =
    round all from n step.to ∙ ap (λ b. is_in all from n step.to || b) (any_at (λ one. is_in all from n one.from && bytes_eq step.to one.to) all step there (ap (λ b. b && bytes_eq step.to step.to) h ∙ spelling_self step.to))
    ∙ or_true (is_in all from n step.to)

settled : (all : List Step) (from : Spelling) (n : ℕ) (x : Spelling) → Closed all from n → is_in all from (suc n) x ≡ true → is_in all from n x ≡ true
settled all from n x closed h = by_case (or_cases (is_in all from n x) (list_any (λ step. is_in all from n step.from && bytes_eq x step.to) all) (sym (round all from n x) ∙ h))
  where
    by_case : (is_in all from n x ≡ true) ⊎ (list_any (λ step. is_in all from n step.from && bytes_eq x step.to) all ≡ true) → is_in all from n x ≡ true
    by_case (inl here) = here
    by_case (inr there) =
        let found = any_found (λ step. is_in all from n step.from && bytes_eq x step.to) all there in
        let parts = and_parts (is_in all from n found.0.from) (bytes_eq x found.0.to) found.2 in
        ap (is_in all from n) (same_spelling x found.0.to parts.1) ∙ closed found.0 found.1 parts.0

-- so many rounds reach no more, or have more steps behind them
enough : (all : List Step) (from : Spelling) (n : ℕ) → Closed all from n ⊎ (suc n ≤ length (filter (λ step. is_in all from n step.from) all))
enough all from zero = by_case (open_or_closed all from zero all)
  where
    by_case : Closed all from zero ⊎ Open all from zero all → Closed all from zero ⊎ (1 ≤ length (filter (λ step. is_in all from zero step.from) all))
    by_case (inl closed) = inl closed
    by_case (inr out) =
        let some = strict (λ step. false) (λ step. is_in all from zero step.from) all out.0 (λ step h. absurd (true≢false (sym h))) out.1 refl out.2 in
        inr (omega (arith, some))
enough all from (suc n) = by_case (enough all from n) (open_or_closed all from (suc n) all)
  where
    off : (step : Step) → In step all → is_in all from (suc n) step.to ≡ false → (b : Bool) → is_in all from n step.from ≡ b → is_in all from n step.from ≡ false
    off step there out true is = absurd (true≢false (sym (stepped all from n step there is) ∙ out))
    off step there out false is = is

    by_case : Closed all from n ⊎ (suc n ≤ length (filter (λ step. is_in all from n step.from) all)) → Closed all from (suc n) ⊎ Open all from (suc n) all
        → Closed all from (suc n) ⊎ (suc (suc n) ≤ length (filter (λ step. is_in all from (suc n) step.from) all))
    by_case (inl closed) further = inl (λ step there h. grows all from n step.to (closed step there (settled all from n step.from closed h)))
    by_case (inr many) (inl closed) = inl closed
    by_case (inr many) (inr out) =
        let more = strict (λ step. is_in all from n step.from) (λ step. is_in all from (suc n) step.from) all out.0 (λ step h. grows all from n step.from h) out.1 (off out.0 out.1 out.3 (is_in all from n out.0.from) refl) out.2 in
        inr (omega (arith, many, more))

closed_leads : (all : List Step) (from : Spelling) (n : ℕ) (a to : Spelling) → Closed all from n → Leads all a to → is_in all from n a ≡ true → is_in all from n to ≡ true
closed_leads all from n a to closed Leads.here h = h
closed_leads all from n a to closed (Leads.on step there further) h = closed_leads all from n step.to to closed further (closed step there h)

pub leads_complete : (all : List Step) (from to : Spelling) → Leads all from to → leads all from to ≡ true
leads_complete all from to chain = by_case (enough all from (length all))
  where
    by_case : Closed all from (length all) ⊎ (suc (length all) ≤ length (filter (λ step. is_in all from (length all) step.from) all)) → is_in all from (length all) to ≡ true
    by_case (inl closed) = closed_leads all from (length all) from to closed chain (begins all from (length all))
    by_case (inr many) = let most = at_most (λ step. is_in all from (length all) step.from) all in absurd (omega (arith, many, most))

-- ---- what is reached is led to

extend : (all : List Step) (a b : Spelling) (step : Step) → Leads all a b → b ≡ step.from → In step all → Leads all a step.to
extend all a b step Leads.here is there = subst (λ x. Leads all x step.to) (sym is) (Leads.on step there Leads.here)
extend all a b step (Leads.on first one further) is there = Leads.on first one (extend all first.to b step further is there)

reached_leads : (all : List Step) (from : Spelling) (n : ℕ) (x : Spelling) → is_in all from n x ≡ true → Leads all from x
unfolding reached
reached_leads all from zero x h = subst (Leads all from) (sym (same_spelling x from (sym (or_false (bytes_eq x from)) ∙ h))) Leads.here
reached_leads all from (suc n) x h = by_case (or_cases (is_in all from n x) (list_any (λ step. is_in all from n step.from && bytes_eq x step.to) all) (sym (round all from n x) ∙ h)) (λ y. reached_leads all from n y)
  where
    by_case : (is_in all from n x ≡ true) ⊎ (list_any (λ step. is_in all from n step.from && bytes_eq x step.to) all ≡ true) → ((y : Spelling) → is_in all from n y ≡ true → Leads all from y) → Leads all from x
    by_case (inl here) before = before x here
    by_case (inr there) before =
        let found = any_found (λ step. is_in all from n step.from && bytes_eq x step.to) all there in
        let parts = and_parts (is_in all from n found.0.from) (bytes_eq x found.0.to) found.2 in
        subst (Leads all from) (sym (same_spelling x found.0.to parts.1)) (extend all from found.0.from found.0 (before found.0.from parts.0) refl found.1)

pub leads_sound : (all : List Step) (from to : Spelling) → leads all from to ≡ true → Leads all from to
leads_sound all from to h = reached_leads all from (length all) to h
