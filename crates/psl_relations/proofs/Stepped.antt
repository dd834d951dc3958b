-- Steps in groups by the model that they lead from.
use Rattle.std.proofs.Common.{◌≡◌, ℕ, ◌+◌, ◌<◌, Bool, true, false, cond, ◌||◌, List, [], ◌∷◌, ◌++◌, map, filter, length, drop, get_or, Option, Some, None, refl, sym, ap, ◌∙◌, Bor}
use Rattle.std.specs.Prelude.{bytes_eq, option_copied, unwrap_or}
use Rattle.std.specs.Option.{option_map_or}
use Rattle.std.proofs.lemmas.List.{map-append, append-nil, append_assoc, drop_more}
use Rattle.std.proofs.lemmas.List.Elements.{filter-append}
use Rattle.psl_rules.specs.Parts.{Spelling}
use Rattle.qe_text.specs.Lists.{is_among}
use Rattle.psl_rules.specs.Updates.{Step}
use Rattle.psl_parts.proofs.Firsts.{left_at}
use Rattle.psl_parts.proofs.Lookups.{has, inserted}
use Rattle.psl_relations.specs.Back.{same_text}
use Rattle.psl_relations.specs.Walks.{leads_from}

abbrev Keyed : Type 0
Keyed = Bor Spelling × Bor Step

-- those of the steps with their beginnings that lead from a model
abbrev pub kept : Bor Spelling → List Keyed → List Step
kept model keyed = map (λ one. one.1.now) (filter (λ one. same_text one.0 model) keyed)

kept_more : (model : Bor Spelling) (keyed : List Keyed) (one : Keyed) (b : Bool) → same_text one.0 model ≡ b → kept model (keyed ++ one ∷ []) ≡ kept model keyed ++ cond b (one.1.now ∷ []) []
kept_more model keyed one b is =
    ap (map (λ (one : Keyed). one.1.now)) (filter-append (λ (one : Keyed). same_text one.0 model) keyed (one ∷ []))
    ∙ map-append (λ (one : Keyed). one.1.now) (filter (λ (one : Keyed). same_text one.0 model) keyed) (filter (λ (one : Keyed). same_text one.0 model) (one ∷ []))
    ∙ ap (λ (b : Bool). kept model keyed ++ map (λ (one : Keyed). one.1.now) (cond b (one ∷ []) [])) is ∙ by_test b
  where
    by_test : (b : Bool) → kept model keyed ++ map (λ (one : Keyed). one.1.now) (cond b (one ∷ []) []) ≡ kept model keyed ++ cond b (one.1.now ∷ []) []
    by_test true = refl
    by_test false = refl

put : (before rest : List Step) (one step : Step) (b : Bool) → one ≡ step → (before ++ cond b (one ∷ []) []) ++ rest ≡ before ++ cond b (step ∷ rest) rest
put before rest one step true is = append_assoc before (one ∷ []) rest ∙ ap (λ step. before ++ step ∷ rest) is
put before rest one step false is = ap (λ all. all ++ rest) (append-nil before)

pub turn_step : (steps : List Step) (i : ℕ) (step : Step) (keyed new : List Keyed) (one : Keyed) (model : Bor Spelling) (whole : List Step) → i < length steps → step ≡ get_or steps i step → one.1.now ≡ step → one.0.now ≡ step.from
    → new ≡ keyed ++ one ∷ [] → kept model keyed ++ filter (leads_from model.now) (drop i steps) ≡ whole → kept model new ++ filter (leads_from model.now) (drop (i + 1) steps) ≡ whole
turn_step steps i step keyed new one model whole within is now_is from_is new_is before =
    let rest = filter (leads_from model.now) (drop (i + 1) steps) in
    ap (λ all. kept model all ++ rest) new_is ∙ ap (λ all. all ++ rest) (kept_more model keyed one (leads_from model.now step) (ap (λ text. bytes_eq text model.now) from_is))
    ∙ put (kept model keyed) rest one.1.now step (leads_from model.now step) now_is ∙ ap (λ all. kept model keyed ++ filter (leads_from model.now) all) (sym (left_at steps i step within is)) ∙ before

values : (xs : List Keyed) → map (λ step. step.now) (map (λ one. one.1) xs) ≡ map (λ one. one.1.now) xs
values [] = refl
values (x ∷ xs) = ap (λ all. x.1.now ∷ all) (values xs)

pub in_group : (group : List (Bor Step)) (keyed : List Keyed) (model : Bor Spelling) (steps : List Step) → group ≡ map (λ one. one.1) (filter (λ one. same_text one.0 model) keyed) → kept model keyed ≡ filter (leads_from model.now) steps
    → map (λ step. step.now) group ≡ filter (leads_from model.now) steps
in_group group keyed model steps is kept_is = ap (map (λ (step : Bor Step). step.now)) is ∙ values (filter (λ one. same_text one.0 model) keyed) ∙ kept_is

-- what is found for a model, or nothing
found : {G : Type 0} (items : G → List (Bor Step)) (got : Option (Bor G)) (none result : Bor G) (under : Option G) → result ≡ unwrap_or got none → option_copied got ≡ under → items none.now ≡ []
    → items result.now ≡ option_map_or items under []
found items None none result under is got_is empty = ap (λ group. items group.now) is ∙ empty ∙ ap (λ under. option_map_or items under []) got_is
found items (Some group) none result under is got_is empty = ap (λ group. items group.now) is ∙ ap (λ under. option_map_or items under []) got_is

pub looked_up : {G : Type 0} (items : G → List (Bor Step)) (got : Option (Bor G)) (none result : Bor G) (under : Option G) (model : Spelling) (steps all : List Step) (group : List (Bor Step)) → group ≡ items result.now
    → result ≡ unwrap_or got none → option_copied got ≡ under → items none.now ≡ [] → map (λ step. step.now) (option_map_or items under []) ≡ filter (leads_from model) steps → steps ≡ all
    → map (λ step. step.now) group ≡ filter (leads_from model) all
looked_up items got none result under model steps all group group_is is got_is empty held same =
    ap (map (λ (step : Bor Step). step.now)) (group_is ∙ found items got none result under is got_is empty) ∙ held ∙ ap (filter (leads_from model)) same

-- ---- models that are put into the set

abbrev ends : List (Bor Step) → List Spelling
ends steps = map (λ step. step.to) (map (λ step. step.now) steps)

pub turn : (steps : List (Bor Step)) (i : ℕ) (step : Bor Step) (keys new : List (Bor Spelling)) (key : Bor Spelling) (x : Spelling) (whole : Bool) → i < length steps → step ≡ get_or steps i step → key.now ≡ step.now.to
    → new ≡ cond (has key.now keys) keys (keys ++ key ∷ []) → (has x keys || is_among x (ends (drop i steps))) ≡ whole → (has x new || is_among x (ends (drop (i + 1) steps))) ≡ whole
turn steps i step keys new key x whole within is key_is new_is before =
    let rest = is_among x (ends (drop (i + 1) steps)) in
    ap (λ keys. has x keys || rest) new_is ∙ inserted keys key x rest (has key.now keys) refl
    ∙ ap (λ text. has x keys || (bytes_eq x text || rest)) key_is
    ∙ ap (λ (one : Bor Step). has x keys || (bytes_eq x one.now.to || rest)) is
    ∙ ap (λ steps. has x keys || is_among x (ends steps)) (sym (drop_more steps i step within))
    ∙ before
