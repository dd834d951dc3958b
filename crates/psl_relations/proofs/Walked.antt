-- A walk along steps, model by model, in the order in which it reached them.
use Rattle.std.proofs.Common.{◌≡◌, ◌⊎◌, inl, inr, ℕ, ◌+◌, ◌<◌, ◌≤◌, Bool, true, false, cond, not, ◌&&◌, ◌||◌, List, [], ◌∷◌, ◌++◌, map, filter, length, take, drop, get_or, Option, Some, refl, sym, ap, subst, ◌∙◌, true≢false, arith, Bor}
use Rattle.std.proofs.lemmas.List.{take-append-le, take_all, append-nil, append_assoc}
use Rattle.std.proofs.lemmas.List.Folds.{list_any_more, list_any_at}
use Rattle.std.proofs.lemmas.Option.{get_or_from_slice_get}
use Rattle.std.proofs.lemmas.Slice.Eq.{bytes_eq-Decides}
use Rattle.std.specs.Prelude.{bytes_eq, slice_get}
use Rattle.std.specs.List.{list_any}
use Rattle.psl_rules.specs.Parts.{Spelling, first, earlier, noted, failing}
use Rattle.qe_text.specs.Lists.{is_among, In}
use Rattle.psl_rules.specs.Relations.{End, end_place}
use Rattle.psl_rules.specs.Updates.{Step, Leads, leads, is_on_cycle}
use Rattle.psl_rules.proofs.Steps.{any_mapped, same_spelling, leads_sound, leads_complete}
use Rattle.psl_parts.proofs.Firsts.{turn_failing, failing_map}
use Rattle.psl_parts.proofs.Lookups.{has}
use Rattle.psl_relations.specs.Walks.{leads_from, Begins}

or_cases : (a b : Bool) → (a || b) ≡ true → (a ≡ true) ⊎ (b ≡ true)
or_cases true b h = inl refl
or_cases false b h = inr h

or_all : (b : Bool) → (b || true) ≡ true
or_all true = refl
or_all false = refl

and_parts : (a b : Bool) → (a && b) ≡ true → (a ≡ true) × (b ≡ true)
and_parts true b h = (refl, h)
and_parts false b h = absurd (true≢false (sym h))

itself : (x : Spelling) → bytes_eq x x ≡ true
itself x = (bytes_eq-Decides x x).1 refl

any_found : (p : Step → Bool) (all : List Step) → list_any p all ≡ true → (step : Step) × In step all × (p step ≡ true)
unfolding In
any_found p [] h = absurd (true≢false (sym h))
any_found p (step ∷ all) h = by_case (or_cases (p step) (list_any p all) h) (any_found p all)
  where
    by_case : (p step ≡ true) ⊎ (list_any p all ≡ true) → (list_any p all ≡ true → (one : Step) × In one all × (p one ≡ true)) → (one : Step) × In one (step ∷ all) × (p one ≡ true)
    by_case (inl here) further = (step, inl refl, here)
    by_case (inr there) further = let found = further there in (found.0, inr found.1, found.2)

any_at : (p : Step → Bool) (all : List Step) (step : Step) → In step all → p step ≡ true → list_any p all ≡ true
unfolding In
any_at p [] step there h = absurd there
any_at p (one ∷ all) step (inl here) h = ap (λ b. b || list_any p all) (ap p (sym here) ∙ h)
any_at p (one ∷ all) step (inr there) h = ap (λ b. p one || b) (any_at p all step there h) ∙ or_all (p one)

-- one step more
further : (all : List Step) (a b : Spelling) (step : Step) → Leads all a b → b ≡ step.from → In step all → Leads all a step.to
further all a b step Leads.here is there = subst (λ x. Leads all x step.to) (sym is) (Leads.on step there Leads.here)
further all a b step (Leads.on first one rest) is there = Leads.on first one (further all first.to b step rest is there)

-- a name is among the names
any_get : (keys : List (Bor Spelling)) (i : ℕ) (d : Bor Spelling) → i < length keys → has (get_or keys i d).now keys ≡ true
any_get keys i d within = list_any_at (λ (key : Bor Spelling). bytes_eq (get_or keys i d).now key.now) keys i d within (itself (get_or keys i d).now)

-- the models to which steps lead from one
abbrev pub next_to : List Step → Spelling → List Spelling
next_to all model = map (λ step. step.to) (filter (leads_from model) all)

-- what was reached is led to, and so many of it were left by all their steps
abbrev pub Walked : List Step → Spelling → List (Bor Spelling) → ℕ → Type 0
Walked all from keys next =
    ((x : Spelling) → has x keys ≡ true → Leads all from x) × (has from keys ≡ true) × ((x : Spelling) → has x (take next keys) ≡ true → (step : Step) → In step all → step.from ≡ x → has step.to keys ≡ true)

pub begun : (all : List Step) (from : Bor Spelling) (keys : List (Bor Spelling)) → keys ≡ from ∷ [] → Walked all from.now keys 0
begun all from keys is = (
  λ x h. alone x (sym (ap (has x) is) ∙ h),
  ap (has from.now) is ∙ ap (λ b. b || false) (itself from.now),
  λ x h step there from_is. absurd (true≢false (sym h)),
)
  where
    alone : (x : Spelling) → (bytes_eq x from.now || false) ≡ true → Leads all from.now x
    alone x h = by_case (or_cases (bytes_eq x from.now) false h)
      where
        by_case : (bytes_eq x from.now ≡ true) ⊎ (false ≡ true) → Leads all from.now x
        by_case (inl same) = subst (λ y. Leads all from.now y) (sym (same_spelling x from.now same)) Leads.here
        by_case (inr never) = absurd (true≢false (sym never))

next_found : (all : List Step) (model x : Spelling) → is_among x (next_to all model) ≡ true → (step : Step) × In step all × (step.from ≡ model) × (x ≡ step.to)
next_found all model x h =
    let found = any_found (λ step. leads_from model step && bytes_eq x step.to) all (sym (any_mapped (leads_from model) x all) ∙ h) in
    let parts = and_parts (leads_from model found.0) (bytes_eq x found.0.to) found.2 in
    (found.0, found.1, same_spelling found.0.from model parts.0, same_spelling x found.0.to parts.1)

next_there : (all : List Step) (model : Spelling) (step : Step) → In step all → step.from ≡ model → is_among step.to (next_to all model) ≡ true
next_there all model step there is =
    any_mapped (leads_from model) step.to all
    ∙ any_at (λ one. leads_from model one && bytes_eq step.to one.to) all step there (ap (λ b. b && bytes_eq step.to step.to) (ap (λ text. bytes_eq text model) is ∙ itself model) ∙ itself step.to)

-- the next model is left by all its steps
pub walked_on : (all : List Step) (from : Spelling) (keys new : List (Bor Spelling)) (next : ℕ) (model : Bor Spelling) → next < length keys → slice_get keys next ≡ Some model → Begins keys new
    → ((x : Spelling) → has x new ≡ (has x keys || is_among x (next_to all model.now))) → Walked all from keys next → Walked all from new (next + 1)
walked_on all from keys new next model within is begins added before = (
  λ x h. led x (or_cases (has x keys) (is_among x (next_to all model.now)) (sym (added x) ∙ h)),
  stays from before.1,
  λ x h step there from_is. left x step there from_is (or_cases (has x (take next keys)) (bytes_eq x (get_or keys next model).now) (sym (taken x) ∙ h)),
)
  where
    at : get_or keys next model ≡ model
    at = get_or_from_slice_get keys next model model is

    known : has model.now keys ≡ true
    known = ap (λ (one : Bor Spelling). has one.now keys) (sym at) ∙ any_get keys next model within

    stays : (x : Spelling) → has x keys ≡ true → has x new ≡ true
    stays x h = added x ∙ ap (λ b. b || is_among x (next_to all model.now)) h

    taken : (x : Spelling) → has x (take (next + 1) new) ≡ (has x (take next keys) || bytes_eq x (get_or keys next model).now)
    taken x =
        ap (λ all. has x (take (next + 1) all)) begins.1 ∙ ap (has x) (take-append-le (next + 1) keys begins.0 (omega (arith, within))) ∙ list_any_more (λ (key : Bor Spelling). bytes_eq x key.now) keys next model within

    led : (x : Spelling) → (has x keys ≡ true) ⊎ (is_among x (next_to all model.now) ≡ true) → Leads all from x
    led x (inl here) = before.0 x here
    led x (inr there) =
        let found = next_found all model.now x there in
        subst (Leads all from) (sym found.3) (further all from model.now found.0 (before.0 model.now known) (sym found.2) found.1)

    left : (x : Spelling) (step : Step) → In step all → step.from ≡ x → (has x (take next keys) ≡ true) ⊎ (bytes_eq x (get_or keys next model).now ≡ true) → has step.to new ≡ true
    left x step there from_is (inl earlier) = stays step.to (before.2 x earlier step there from_is)
    left x step there from_is (inr same) =
        let model_is : step.from ≡ model.now = from_is ∙ same_spelling x (get_or keys next model).now same ∙ ap (λ (one : Bor Spelling). one.now) at in
        added step.to ∙ ap (λ b. has step.to keys || b) (next_there all model.now step there model_is) ∙ or_all (has step.to keys)

same_test : (a b : Bool) → (a ≡ true → b ≡ true) → (b ≡ true → a ≡ true) → a ≡ b
same_test true b to back = sym (to refl)
same_test false true to back = back refl
same_test false false to back = refl

closed : (all : List Step) (keys : List (Bor Spelling)) (a to : Spelling) → ((x : Spelling) → has x keys ≡ true → (step : Step) → In step all → step.from ≡ x → has step.to keys ≡ true) → Leads all a to → has a keys ≡ true → has to keys ≡ true
closed all keys a to on Leads.here h = h
closed all keys a to on (Leads.on step there rest) h = closed all keys step.to to on rest (on step.from h step there refl)

-- once all that was reached is left, it is what the steps lead to
pub walked : (all : List Step) (from : Spelling) (keys : List (Bor Spelling)) (next : ℕ) → length keys ≤ next → Walked all from keys next → (x : Spelling) → has x keys ≡ leads all from x
walked all from keys next past before x =
    same_test (has x keys) (leads all from x) (λ h. leads_complete all from x (before.0 x h))
    (λ h. closed all keys from x (λ y there step in_all from_is. before.2 y (ap (has y) (take_all next keys past) ∙ there) step in_all from_is) (leads_sound all from x h) before.1)

-- ---- names that are put into the set

pub begins_more : (keys now new : List (Bor Spelling)) (key : Bor Spelling) → Begins keys now → new ≡ cond (has key.now now) now (now ++ key ∷ []) → Begins keys new
begins_more keys now new key before is = by_test (has key.now now) is
  where
    by_test : (b : Bool) → new ≡ cond b now (now ++ key ∷ []) → Begins keys new
    by_test true is = (before.0, is ∙ before.1)
    by_test false is = (before.0 ++ key ∷ [], is ∙ ap (λ all. all ++ key ∷ []) before.1 ∙ append_assoc keys before.0 (key ∷ []))

pub begins_itself : (keys : List (Bor Spelling)) → Begins keys keys
begins_itself keys = ([], sym (append-nil keys))

-- ---- arrows that lie on cycles

not_not : (b : Bool) → b ≡ not (not b)
not_not true = refl
not_not false = refl

pub turn_arrow : (steps : List Step) (arrows : List (Bor End)) (i : ℕ) (arrow : Bor End) (found now whole : Option ℕ) (breaks : Bool) → i < length arrows → arrow ≡ get_or arrows i arrow → now ≡ noted found breaks (end_place arrow.now)
    → breaks ≡ is_on_cycle steps arrow.now → earlier found (first (failing (λ arrow. not (is_on_cycle steps arrow)) end_place (map (λ arrow. arrow.now) (drop i arrows)))) ≡ whole
    → earlier now (first (failing (λ arrow. not (is_on_cycle steps arrow)) end_place (map (λ arrow. arrow.now) (drop (i + 1) arrows)))) ≡ whole
turn_arrow steps arrows i arrow found now whole breaks within is now_is breaks_is before =
    let holds : End → Bool = λ arrow. not (is_on_cycle steps arrow) in
    ap (λ places. earlier now (first places)) (sym (failing_map (λ (arrow : Bor End). arrow.now) holds end_place (drop (i + 1) arrows)))
    ∙ turn_failing (λ (arrow : Bor End). holds arrow.now) (λ (arrow : Bor End). end_place arrow.now) arrows i arrow found now whole within is
    (now_is ∙ ap (λ b. noted found b (end_place arrow.now)) (breaks_is ∙ not_not (is_on_cycle steps arrow.now)))
    (ap (λ places. earlier found (first places)) (failing_map (λ (arrow : Bor End). arrow.now) holds end_place (drop i arrows)) ∙ before)
