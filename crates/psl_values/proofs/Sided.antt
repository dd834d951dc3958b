-- Ends with their places, put on their sides and looked up there.
use Rattle.std.proofs.Common.{◌≡◌, ℕ, ◌+◌, ◌<◌, Bool, true, false, cond, not, ◌&&◌, ◌==◌, List, [], ◌∷◌, ◌++◌, map, filter, length, drop, get_or, Option, Some, None, refl, sym, ap, ◌∙◌, Bor}
use Rattle.std.specs.Prelude.{position, bytes_eq, option_copied, option_map}
use Rattle.std.specs.List.{enumerate_from, find, position_from}
use Rattle.std.specs.Option.{option_map_or}
use Rattle.std.specs.Cmp.Lexicographic.{nat_list_eq_equiv}
use Rattle.std.proofs.lemmas.Iterator.Adapters.{position_from-zero}
use Rattle.std.proofs.lemmas.List.{map-append, append-nil, append_assoc}
use Rattle.std.proofs.lemmas.List.Elements.{filter-append}
use Rattle.psl_text.specs.declared.tree.Tree.{Tree}
use Rattle.psl_rules.specs.Foreign.{holders}
use Rattle.psl_rules.specs.Relations.{End, leads_to, relation_name, same_relation, is_partner}
use Rattle.psl_parts.proofs.Firsts.{left_at}
use Rattle.psl_relations.specs.Back.{Side, same_side, is_on, leads_back}
use Rattle.psl_values.specs.Named.{placed, lie_on}

abbrev Sided : Type 0
Sided = Side × (ℕ × Bor End)

abbrev place_of : Sided → ℕ × End
place_of one = placed one.1

-- ---- ends, put on their sides one after another

abbrev pub kept : Side → List Sided → List (ℕ × End)
kept side sided = map place_of (filter (λ one. same_side one.0 side) sided)

abbrev pub on_side : Side → List (ℕ × End) → List (ℕ × End)
on_side side = filter (λ one. is_on side one.1)

kept_more : (side : Side) (sided : List Sided) (one : Sided) (b : Bool) → same_side one.0 side ≡ b → kept side (sided ++ one ∷ []) ≡ kept side sided ++ cond b (place_of one ∷ []) []
kept_more side sided one b is =
    ap (map place_of) (filter-append (λ (one : Sided). same_side one.0 side) sided (one ∷ []))
    ∙ map-append place_of (filter (λ (one : Sided). same_side one.0 side) sided) (filter (λ (one : Sided). same_side one.0 side) (one ∷ []))
    ∙ ap (λ (b : Bool). kept side sided ++ map place_of (cond b (one ∷ []) [])) is ∙ by_test b
  where
    by_test : (b : Bool) → kept side sided ++ map place_of (cond b (one ∷ []) []) ≡ kept side sided ++ cond b (place_of one ∷ []) []
    by_test true = refl
    by_test false = refl

put : (before rest : List (ℕ × End)) (one other : ℕ × End) (b : Bool) → one ≡ other → (before ++ cond b (one ∷ []) []) ++ rest ≡ before ++ cond b (other ∷ rest) rest
put before rest one other true is = append_assoc before (one ∷ []) rest ∙ ap (λ one. before ++ one ∷ rest) is
put before rest one other false is = ap (λ all. all ++ rest) (append-nil before)

pub turn : (ends : List (Bor End)) (i : ℕ) (end : Bor End) (sided new : List Sided) (one : Sided) (side : Side) (whole : List (ℕ × End)) → i < length ends → end ≡ get_or ends i end → place_of one ≡ (i, end.now)
    → same_side one.0 side ≡ is_on side end.now → new ≡ sided ++ one ∷ [] → kept side sided ++ on_side side (enumerate_from i (map (λ end. end.now) (drop i ends))) ≡ whole
    → kept side new ++ on_side side (enumerate_from (i + 1) (map (λ end. end.now) (drop (i + 1) ends))) ≡ whole
turn ends i end sided new one side whole within is place same new_is before =
    let rest = on_side side (enumerate_from (i + 1) (map (λ (end : Bor End). end.now) (drop (i + 1) ends))) in
    ap (λ all. kept side all ++ rest) new_is ∙ ap (λ all. all ++ rest) (kept_more side sided one (is_on side end.now) same) ∙ put (kept side sided) rest (place_of one) (i, end.now) (is_on side end.now) place
    ∙ ap (λ (all : List (Bor End)). kept side sided ++ on_side side (enumerate_from i (map (λ (end : Bor End). end.now) all))) (sym (left_at ends i end within is)) ∙ before

-- ---- in groups

places : (xs : List Sided) → map placed (map (λ one. one.1) xs) ≡ map place_of xs
places [] = refl
places (x ∷ xs) = ap (λ all. place_of x ∷ all) (places xs)

pub in_group : (group : List (ℕ × Bor End)) (sided : List Sided) (side : Side) (ends : List (ℕ × End)) → group ≡ map (λ one. one.1) (filter (λ one. same_side one.0 side) sided) → kept side sided ≡ on_side side ends
    → map placed group ≡ on_side side ends
in_group group sided side ends is kept_is = ap (map placed) is ∙ places (filter (λ one. same_side one.0 side) sided) ∙ kept_is

-- ---- the first partner

swapped : (a b : Bool) → (a && b) ≡ (b && a)
swapped true true = refl
swapped true false = refl
swapped false true = refl
swapped false false = refl

on_back : (back : Side) (end holder : End) → back.0.now ≡ end.field.type.text → back.1.now ≡ end.model.name.text → option_copied back.2 ≡ relation_name end → is_on back holder ≡ leads_back holder end
on_back back end holder target model name =
    ap (λ text. (bytes_eq holder.model.name.text text && bytes_eq holder.field.type.text back.1.now) && same_relation (relation_name holder) (option_copied back.2)) target
    ∙ ap (λ text. (bytes_eq holder.model.name.text end.field.type.text && bytes_eq holder.field.type.text text) && same_relation (relation_name holder) (option_copied back.2)) model
    ∙ ap (λ text. (bytes_eq holder.model.name.text end.field.type.text && bytes_eq holder.field.type.text end.model.name.text) && same_relation (relation_name holder) text) name
    ∙ ap (λ b. (b && bytes_eq holder.field.type.text end.model.name.text) && same_relation (relation_name holder) (relation_name end)) (nat_list_eq_equiv.symm holder.model.name.text end.field.type.text)
    ∙ ap (λ b. b && same_relation (relation_name holder) (relation_name end)) (swapped (leads_to end holder.model) (leads_to holder end.model))

abbrev is_other : End → End → Bool
is_other end other = not (other.number == end.number)

abbrev first_among : (End → Bool) → List (ℕ × End) → Option ℕ
first_among then all = option_map (λ one. one.0) (find (λ one. then one.1) all)

abbrev passing : (End → Bool) → ℕ → List End → List (ℕ × End)
passing test i xs = filter (λ one. test one.1) (enumerate_from i xs)

-- the number of the first that passes both tests
first_of_both : (test then : End → Bool) (i : ℕ) (xs : List End) → first_among then (passing test i xs) ≡ position_from (λ x. test x && then x) i xs
first_of_both test then i [] = refl
first_of_both test then i (x ∷ xs) = by_test (test x) refl (first_of_both test then (i + 1) xs)
  where
    by_then : (b : Bool) → first_among then (passing test (i + 1) xs) ≡ position_from (λ x. test x && then x) (i + 1) xs
        → option_map (λ one. one.0) (cond b (Some (i, x)) (find (λ one. then one.1) (passing test (i + 1) xs))) ≡ cond b (Some i) (position_from (λ x. test x && then x) (i + 1) xs)
    by_then true h = refl
    by_then false h = h

    by_test : (b : Bool) → test x ≡ b → first_among then (passing test (i + 1) xs) ≡ position_from (λ x. test x && then x) (i + 1) xs
        → first_among then (cond (test x) ((i, x) ∷ passing test (i + 1) xs) (passing test (i + 1) xs)) ≡ cond (test x && then x) (Some i) (position_from (λ x. test x && then x) (i + 1) xs)
    by_test true is h =
        ap (λ b. first_among then (cond b ((i, x) ∷ passing test (i + 1) xs) (passing test (i + 1) xs))) is ∙ by_then (then x) h ∙ sym (ap (λ b. cond (b && then x) (Some i) (position_from (λ x. test x && then x) (i + 1) xs)) is)
    by_test false is h =
        ap (λ b. first_among then (cond b ((i, x) ∷ passing test (i + 1) xs) (passing test (i + 1) xs))) is ∙ h ∙ sym (ap (λ b. cond (b && then x) (Some i) (position_from (λ x. test x && then x) (i + 1) xs)) is)

-- among references
found_now : (test : End → Bool) (group : List (ℕ × Bor End)) → option_map (λ one. one.0) (find (λ one. test one.1.now) group) ≡ first_among test (map placed group)
found_now test [] = refl
found_now test (one ∷ group) = by_test (test one.1.now) (found_now test group)
  where
    by_test : (b : Bool) → option_map (λ one. one.0) (find (λ one. test one.1.now) group) ≡ first_among test (map placed group)
        → option_map (λ one. one.0) (cond b (Some one) (find (λ one. test one.1.now) group)) ≡ option_map (λ one. one.0) (cond b (Some (placed one)) (find (λ one. test one.1) (map placed group)))
    by_test true h = refl
    by_test false h = h

pub partner_place : (back : Side) (end : End) (group : List (ℕ × Bor End)) (holders : List End) → back.0.now ≡ end.field.type.text → back.1.now ≡ end.model.name.text → option_copied back.2 ≡ relation_name end
    → map placed group ≡ lie_on back holders
    → option_map (λ one. one.0) (find (λ one. not (one.1.now.number == end.number)) group) ≡ position (λ holder. is_partner holder end) holders
partner_place back end group holders target model name group_is =
    let same : is_on back ≡ (λ holder. leads_back holder end) = λ i holder. on_back back end holder target model name i in
    found_now (is_other end) group ∙ ap (λ all. option_map (λ (one : ℕ × End). one.0) (find (λ one. is_other end one.1) all)) group_is
    ∙ ap (λ (test : End → Bool). option_map (λ (one : ℕ × End). one.0) (find (λ one. is_other end one.1) (filter (λ one. test one.1) (enumerate_from 0 holders)))) same
    ∙ first_of_both (λ holder. leads_back holder end) (is_other end) 0 holders ∙ sym (position_from-zero (λ holder. is_partner holder end) holders)

-- ---- in what is found for a side, or nothing

abbrev first_other : End → List (ℕ × Bor End) → Option ℕ
first_other end group = option_map (λ one. one.0) (find (λ one. not (one.1.now.number == end.number)) group)

pub partner_in : {G : Type 0} (items : G → List (ℕ × Bor End)) (got : Option (Bor G)) (group : Bor G) (under : Option G) (slice : List (ℕ × Bor End)) (result : Option ℕ) (back : Side) (end : End) (tree whole : Tree) → option_copied got ≡ under
    → got ≡ Some group → slice ≡ items group.now → result ≡ first_other end slice → map placed (option_map_or items under []) ≡ lie_on back (holders tree) → tree ≡ whole → back.0.now ≡ end.field.type.text
    → back.1.now ≡ end.model.name.text → option_copied back.2 ≡ relation_name end → result ≡ position (λ holder. is_partner holder end) (holders whole)
partner_in items got group under slice result back end tree whole got_is is slice_is found held same target model name =
    let group_is : map placed slice ≡ lie_on back (holders whole) =
    ap (map placed) (slice_is ∙ sym (ap (λ found. option_map_or items found []) (sym got_is ∙ ap option_copied is))) ∙ held ∙ ap (λ tree. lie_on back (holders tree)) same in
    found ∙ partner_place back end slice (holders whole) target model name group_is

pub partner_none : {G : Type 0} (items : G → List (ℕ × Bor End)) (got : Option (Bor G)) (under : Option G) (back : Side) (end : End) (tree whole : Tree) → option_copied got ≡ under → got ≡ None
    → map placed (option_map_or items under []) ≡ lie_on back (holders tree) → tree ≡ whole → back.0.now ≡ end.field.type.text → back.1.now ≡ end.model.name.text → option_copied back.2 ≡ relation_name end
    → None ≡ position (λ holder. is_partner holder end) (holders whole)
partner_none items got under back end tree whole got_is is held same target model name =
    let none_is : map placed [] ≡ lie_on back (holders whole) =
    ap (map placed) (sym (ap (λ found. option_map_or items found []) (sym got_is ∙ ap option_copied is))) ∙ held ∙ ap (λ tree. lie_on back (holders tree)) same in
    partner_place back end [] (holders whole) target model name none_is
