-- Models in groups by their names.
use Rattle.std.proofs.Common.{◌≡◌, ℕ, ◌+◌, ◌<◌, Bool, true, false, cond, List, [], ◌∷◌, ◌++◌, map, filter, length, drop, get_or, Option, Some, None, refl, sym, ap, ◌∙◌, Bor}
use Rattle.std.specs.Prelude.{bytes_eq, option_copied, unwrap_or}
use Rattle.std.specs.Option.{option_map_or}
use Rattle.std.specs.Cmp.Lexicographic.{nat_list_eq_equiv}
use Rattle.std.proofs.lemmas.List.{map-append, append-nil, append_assoc}
use Rattle.std.proofs.lemmas.List.Elements.{filter-append}
use Rattle.psl_text.specs.declared.tree.Block.{Block}
use Rattle.psl_text.specs.declared.tree.Tree.{Tree}
use Rattle.psl_rules.specs.Parts.{Spelling, models}
use Rattle.psl_rules.specs.Relations.{End, leads_to}
use Rattle.psl_parts.proofs.Firsts.{left_at}
use Rattle.psl_relations.specs.Back.{same_text}
use Rattle.psl_relations.specs.Called.{is_called}

abbrev Named : Type 0
Named = Bor Spelling × Bor Block

-- those of the models with their names that are called so
abbrev pub kept : Bor Spelling → List Named → List Block
kept name named = map (λ one. one.1.now) (filter (λ one. same_text one.0 name) named)

abbrev now_of : List (Bor Block) → List Block
now_of = map (λ model. model.now)

kept_more : (name : Bor Spelling) (named : List Named) (one : Named) (b : Bool) → same_text one.0 name ≡ b → kept name (named ++ one ∷ []) ≡ kept name named ++ cond b (one.1.now ∷ []) []
kept_more name named one b is =
    ap (map (λ (one : Named). one.1.now)) (filter-append (λ (one : Named). same_text one.0 name) named (one ∷ []))
    ∙ map-append (λ (one : Named). one.1.now) (filter (λ (one : Named). same_text one.0 name) named) (filter (λ (one : Named). same_text one.0 name) (one ∷ []))
    ∙ ap (λ (b : Bool). kept name named ++ map (λ (one : Named). one.1.now) (cond b (one ∷ []) [])) is ∙ by_test b
  where
    by_test : (b : Bool) → kept name named ++ map (λ (one : Named). one.1.now) (cond b (one ∷ []) []) ≡ kept name named ++ cond b (one.1.now ∷ []) []
    by_test true = refl
    by_test false = refl

put : (before rest : List Block) (one model : Block) (b : Bool) → one ≡ model → (before ++ cond b (one ∷ []) []) ++ rest ≡ before ++ cond b (model ∷ rest) rest
put before rest one model true is = append_assoc before (one ∷ []) rest ∙ ap (λ model. before ++ model ∷ rest) is
put before rest one model false is = ap (λ all. all ++ rest) (append-nil before)

pub turn_model : (models : List Block) (i : ℕ) (model : Block) (named new : List Named) (one : Named) (name : Bor Spelling) (whole : List Block) → i < length models → model ≡ get_or models i model → one.1.now ≡ model
    → one.0.now ≡ model.name.text → new ≡ named ++ one ∷ [] → kept name named ++ filter (is_called name.now) (drop i models) ≡ whole → kept name new ++ filter (is_called name.now) (drop (i + 1) models) ≡ whole
turn_model models i model named new one name whole within is now_is name_is new_is before =
    let rest = filter (is_called name.now) (drop (i + 1) models) in
    ap (λ all. kept name all ++ rest) new_is ∙ ap (λ all. all ++ rest) (kept_more name named one (is_called name.now model) (ap (λ text. bytes_eq text name.now) name_is))
    ∙ put (kept name named) rest one.1.now model (is_called name.now model) now_is
    ∙ ap (λ (all : List Block). kept name named ++ filter (is_called name.now) all) (sym (left_at models i model within is)) ∙ before

values : (xs : List Named) → now_of (map (λ one. one.1) xs) ≡ map (λ one. one.1.now) xs
values [] = refl
values (x ∷ xs) = ap (λ all. x.1.now ∷ all) (values xs)

pub in_group : (group : List (Bor Block)) (named : List Named) (name : Bor Spelling) (models : List Block) → group ≡ map (λ one. one.1) (filter (λ one. same_text one.0 name) named) → kept name named ≡ filter (is_called name.now) models
    → map (λ model. model.now) group ≡ filter (is_called name.now) models
in_group group named name models is kept_is = ap now_of is ∙ values (filter (λ one. same_text one.0 name) named) ∙ kept_is

-- ---- those that an end leads to

led : (end : End) (models : List Block) → filter (is_called end.field.type.text) models ≡ filter (leads_to end) models
led end models =
    let same : is_called end.field.type.text ≡ leads_to end = λ i model. nat_list_eq_equiv.symm model.name.text end.field.type.text i in
    ap (λ test. filter test models) same

-- what is found for a name, or nothing
found : {G : Type 0} (items : G → List (Bor Block)) (got : Option (Bor G)) (none result : Bor G) (under : Option G) → result ≡ unwrap_or got none → option_copied got ≡ under → items none.now ≡ []
    → items result.now ≡ option_map_or items under []
found items None none result under is got_is empty = ap (λ group. items group.now) is ∙ empty ∙ ap (λ under. option_map_or items under []) got_is
found items (Some group) none result under is got_is empty = ap (λ group. items group.now) is ∙ ap (λ under. option_map_or items under []) got_is

pub looked_up : {G : Type 0} (items : G → List (Bor Block)) (got : Option (Bor G)) (none result : Bor G) (under : Option G) (name : Spelling) (end : End) (tree whole : Tree) (group : List (Bor Block)) → group ≡ items result.now
    → result ≡ unwrap_or got none → option_copied got ≡ under → items none.now ≡ [] → map (λ model. model.now) (option_map_or items under []) ≡ filter (is_called name) (models tree) → tree ≡ whole → name ≡ end.field.type.text
    → map (λ model. model.now) group ≡ filter (leads_to end) (models whole)
looked_up items got none result under name end tree whole group group_is is got_is empty held same name_is =
    ap now_of (group_is ∙ found items got none result under is got_is empty) ∙ held ∙ ap (λ tree. filter (is_called name) (models tree)) same ∙ ap (λ text. filter (is_called text) (models whole)) name_is ∙ led end (models whole)
