-- Ends that are put on their sides, and looked up there.
use Rattle.std.proofs.Common.{◌≡◌, ℕ, suc, arith, ◌+◌, ◌<◌, ◌≤◌, Bool, true, false, cond, not, ◌&&◌, ◌==◌, List, [], ◌∷◌, ◌++◌, map, filter, length, drop, get_or, Option, Some, None, refl, sym, ap, ◌∙◌, Bor}
use Rattle.std.specs.Prelude.{bytes_eq, option_copied, unwrap_or}
use Rattle.std.specs.Option.{option_eq, option_map_or}
use Rattle.std.proofs.lemmas.Bool.{ne_eqb}
use Rattle.std.proofs.lemmas.List.{drop_all, map-append, append-nil, append_assoc}
use Rattle.std.proofs.lemmas.List.Elements.{filter-append}
use Rattle.std.specs.Cmp.Lexicographic.{nat_list_eq_equiv}
use Rattle.psl_rules.specs.Parts.{Spelling}
use Rattle.psl_rules.specs.Relations.{End, leads_to, relation_name, same_relation, partners_among, has_one_partner}
use Rattle.psl_parts.proofs.Firsts.{left_at}
use Rattle.psl_relations.specs.Back.{Side, same_text, same_side, is_on, leads_back}

-- ---- ends, put on their sides one after another

same_names : (one other : Option (Bor Spelling)) → option_eq same_text one other ≡ same_relation (option_copied one) (option_copied other)
same_names None None = refl
same_names None (Some name) = refl
same_names (Some name) None = refl
same_names (Some name) (Some other) = refl

pub on_side : (one side : Side) (end : End) → one.0.now ≡ end.model.name.text → one.1.now ≡ end.field.type.text → option_copied one.2 ≡ relation_name end → same_side one side ≡ is_on side end
on_side one side end model target name =
    ap (λ b. (same_text one.0 side.0 && same_text one.1 side.1) && b) (same_names one.2 side.2 ∙ ap (λ text. same_relation text (option_copied side.2)) name)
    ∙ ap (λ text. (bytes_eq text side.0.now && same_text one.1 side.1) && same_relation (relation_name end) (option_copied side.2)) model
    ∙ ap (λ text. (bytes_eq end.model.name.text side.0.now && bytes_eq text side.1.now) && same_relation (relation_name end) (option_copied side.2)) target

-- those of the ends with their sides that are on a side
abbrev pub kept : Side → List (Side × Bor End) → List End
kept side sided = map (λ one. one.1.now) (filter (λ one. same_side one.0 side) sided)

kept_more : (side : Side) (sided : List (Side × Bor End)) (one : Side × Bor End) (b : Bool) → same_side one.0 side ≡ b → kept side (sided ++ one ∷ []) ≡ kept side sided ++ cond b (one.1.now ∷ []) []
kept_more side sided one b is =
    ap (map (λ (one : Side × Bor End). one.1.now)) (filter-append (λ (one : Side × Bor End). same_side one.0 side) sided (one ∷ []))
    ∙ map-append (λ (one : Side × Bor End). one.1.now) (filter (λ (one : Side × Bor End). same_side one.0 side) sided) (filter (λ (one : Side × Bor End). same_side one.0 side) (one ∷ []))
    ∙ ap (λ (b : Bool). kept side sided ++ map (λ (one : Side × Bor End). one.1.now) (cond b (one ∷ []) [])) is ∙ by_test b
  where
    by_test : (b : Bool) → kept side sided ++ map (λ (one : Side × Bor End). one.1.now) (cond b (one ∷ []) []) ≡ kept side sided ++ cond b (one.1.now ∷ []) []
    by_test true = refl
    by_test false = refl

put : (before rest : List End) (one end : End) (b : Bool) → one ≡ end → (before ++ cond b (one ∷ []) []) ++ rest ≡ before ++ cond b (end ∷ rest) rest
put before rest one end true is = append_assoc before (one ∷ []) rest ∙ ap (λ end. before ++ end ∷ rest) is
put before rest one end false is = ap (λ all. all ++ rest) (append-nil before)

pub turn : (ends : List End) (i : ℕ) (end : End) (sided new : List (Side × Bor End)) (one : Side × Bor End) (side : Side) (whole : List End) → i < length ends → end ≡ get_or ends i end → one.1.now ≡ end
    → same_side one.0 side ≡ is_on side end → new ≡ sided ++ one ∷ [] → kept side sided ++ filter (is_on side) (drop i ends) ≡ whole → kept side new ++ filter (is_on side) (drop (i + 1) ends) ≡ whole
turn ends i end sided new one side whole within is now_is same new_is before =
    let rest = filter (is_on side) (drop (i + 1) ends) in
    ap (λ all. kept side all ++ rest) new_is ∙ ap (λ all. all ++ rest) (kept_more side sided one (is_on side end) same) ∙ put (kept side sided) rest one.1.now end (is_on side end) now_is
    ∙ ap (λ all. kept side sided ++ filter (is_on side) all) (sym (left_at ends i end within is)) ∙ before

pub turned_all : (ends : List End) (i : ℕ) (sided : List (Side × Bor End)) (side : Side) (whole : List End) → length ends ≤ i → kept side sided ++ filter (is_on side) (drop i ends) ≡ whole → kept side sided ≡ whole
turned_all ends i sided side whole past before = sym (append-nil (kept side sided)) ∙ ap (λ left. kept side sided ++ filter (is_on side) left) (sym (drop_all i ends past)) ∙ before

-- ---- in groups

values : (xs : List (Side × Bor End)) → map (λ end. end.now) (map (λ one. one.1) xs) ≡ map (λ one. one.1.now) xs
values [] = refl
values (x ∷ xs) = ap (λ all. x.1.now ∷ all) (values xs)

pub in_group : (group : List (Bor End)) (sided : List (Side × Bor End)) (side : Side) (ends : List End) → group ≡ map (λ one. one.1) (filter (λ one. same_side one.0 side) sided) → kept side sided ≡ filter (is_on side) ends
    → map (λ end. end.now) group ≡ filter (is_on side) ends
in_group group sided side ends is kept_is = ap (map (λ (end : Bor End). end.now)) is ∙ values (filter (λ one. same_side one.0 side) sided) ∙ kept_is

-- ---- those that lead back

flipped : (one other : Spelling) → bytes_eq one other ≡ bytes_eq other one
flipped one other = nat_list_eq_equiv.symm one other

flipped_relation : (one other : Option Spelling) → same_relation one other ≡ same_relation other one
flipped_relation None None = refl
flipped_relation None (Some name) = refl
flipped_relation (Some name) None = refl
flipped_relation (Some name) (Some other) = flipped name other

leads_back_at : (back : Side) (end other : End) → back.0.now ≡ end.field.type.text → back.1.now ≡ end.model.name.text → option_copied back.2 ≡ relation_name end → is_on back other ≡ leads_back end other
leads_back_at back end other target model name =
    ap (λ text. (bytes_eq other.model.name.text text && bytes_eq other.field.type.text back.1.now) && same_relation (relation_name other) (option_copied back.2)) target
    ∙ ap (λ text. (bytes_eq other.model.name.text end.field.type.text && bytes_eq other.field.type.text text) && same_relation (relation_name other) (option_copied back.2)) model
    ∙ ap (λ text. (bytes_eq other.model.name.text end.field.type.text && bytes_eq other.field.type.text end.model.name.text) && same_relation (relation_name other) text) name
    ∙ ap (λ b. b && bytes_eq other.field.type.text end.model.name.text && same_relation (relation_name other) (relation_name end)) (flipped other.model.name.text end.field.type.text)
    ∙ ap (λ b. leads_to end other.model && leads_to other end.model && b) (flipped_relation (relation_name other) (relation_name end))

pub leading : (back : Side) (end : End) (ends : List End) → back.0.now ≡ end.field.type.text → back.1.now ≡ end.model.name.text → option_copied back.2 ≡ relation_name end
    → filter (is_on back) ends ≡ filter (leads_back end) ends
leading back end ends target model name =
    let same : is_on back ≡ leads_back end = λ i other. leads_back_at back end other target model name i in
    ap (λ test. filter test ends) same

-- what is found for a side, or nothing
found : {G : Type 0} (items : G → List (Bor End)) (got : Option (Bor G)) (none result : Bor G) (under : Option G) → result ≡ unwrap_or got none → option_copied got ≡ under → items none.now ≡ []
    → items result.now ≡ option_map_or items under []
found items None none result under is got_is empty = ap (λ group. items group.now) is ∙ empty ∙ ap (λ under. option_map_or items under []) got_is
found items (Some group) none result under is got_is empty = ap (λ group. items group.now) is ∙ ap (λ under. option_map_or items under []) got_is

pub looked_up : {G : Type 0} (items : G → List (Bor End)) (got : Option (Bor G)) (none result : Bor G) (under : Option G) (back : Side) (end : End) (ends all : List End) (group : List (Bor End)) → group ≡ items result.now
    → result ≡ unwrap_or got none → option_copied got ≡ under → items none.now ≡ [] → map (λ end. end.now) (option_map_or items under []) ≡ filter (is_on back) ends → ends ≡ all → back.0.now ≡ end.field.type.text
    → back.1.now ≡ end.model.name.text → option_copied back.2 ≡ relation_name end → map (λ other. other.now) group ≡ filter (leads_back end) all
looked_up items got none result under back end ends all group group_is is got_is empty held same target model name =
    ap (map (λ (end : Bor End). end.now)) (group_is ∙ found items got none result under is got_is empty) ∙ held ∙ ap (filter (is_on back)) same ∙ leading back end all target model name

-- ---- partners among those

abbrev is_other : End → End → Bool
is_other end other = not (end.number == other.number)

twice : (test then : End → Bool) (xs : List End) → filter then (filter test xs) ≡ filter (λ x. test x && then x) xs
twice test then [] = refl
twice test then (x ∷ xs) = by_test (test x) refl (twice test then xs)
  where
    by_test : (b : Bool) → test x ≡ b → filter then (filter test xs) ≡ filter (λ x. test x && then x) xs → filter then (filter test (x ∷ xs)) ≡ filter (λ x. test x && then x) (x ∷ xs)
    by_test true is h =
        ap (λ b. filter then (cond b (x ∷ filter test xs) (filter test xs))) is ∙ ap (λ rest. cond (then x) (x ∷ rest) rest) h
        ∙ sym (ap (λ b. cond (b && then x) (x ∷ filter (λ x. test x && then x) xs) (filter (λ x. test x && then x) xs)) is)
    by_test false is h =
        ap (λ b. filter then (cond b (x ∷ filter test xs) (filter test xs))) is ∙ h
        ∙ sym (ap (λ b. cond (b && then x) (x ∷ filter (λ x. test x && then x) xs) (filter (λ x. test x && then x) xs)) is)

pub partners_back : (end : End) (ends : List End) → filter (λ other. not (end.number == other.number)) (filter (leads_back end) ends) ≡ partners_among ends end
partners_back end ends = twice (leads_back end) (is_other end) ends

-- ---- one alone

-- one was found and none is left, or none was and one is
abbrev pub is_one : Bool → List End → Bool
is_one true [] = true
is_one true (end ∷ ends) = false
is_one false [] = false
is_one false (end ∷ ends) = is_one true ends

many : (n : ℕ) → (suc (suc n) == 1) ≡ false
many n = ne_eqb (suc (suc n)) 1 (λ same. omega arith)

pub one_alone : (ends : List End) → is_one false ends ≡ (length ends == 1)
one_alone [] = refl
one_alone (end ∷ []) = refl
one_alone (end ∷ other ∷ ends) = sym (many (length ends))

-- ---- a group, gone through

-- the other fields among these
abbrev pub others : End → List (Bor End) → List End
others end group = filter (is_other end) (map (λ other. other.now) group)

pub partners_found : (found group : List (Bor End)) (i : ℕ) (end : End) (ends : List End) → length group ≤ i → map (λ other. other.now) group ≡ filter (leads_back end) ends
    → map (λ other. other.now) found ++ others end (drop i group) ≡ others end group → map (λ other. other.now) found ≡ partners_among ends end
partners_found found group i end ends past back before =
    sym (append-nil (map (λ other. other.now) found)) ∙ ap (λ left. map (λ (other : Bor End). other.now) found ++ others end left) (sym (drop_all i group past)) ∙ before ∙ ap (filter (is_other end)) back ∙ partners_back end ends

next_other : (group : List (Bor End)) (i : ℕ) (end : End) (item : Bor End) (b : Bool) → i < length group → item ≡ get_or group i item → is_other end item.now ≡ b
    → others end (drop i group) ≡ cond b (item.now ∷ others end (drop (i + 1) group)) (others end (drop (i + 1) group))
next_other group i end item b within is same =
    ap (others end) (left_at group i item within is) ∙ ap (λ b. cond b (item.now ∷ others end (drop (i + 1) group)) (others end (drop (i + 1) group))) same

is_found : (found : Bool) → is_one found [] ≡ found
is_found true = refl
is_found false = refl

partners_one : (group : List (Bor End)) (end : End) (ends : List End) → map (λ other. other.now) group ≡ filter (leads_back end) ends → is_one false (others end group) ≡ has_one_partner ends end
partners_one group end ends back = one_alone (others end group) ∙ ap (λ (all : List End). length all == 1) (ap (filter (is_other end)) back ∙ partners_back end ends)

pub one_at_end : (found : Bool) (group : List (Bor End)) (i : ℕ) (end : End) (ends : List End) → length group ≤ i → map (λ other. other.now) group ≡ filter (leads_back end) ends
    → is_one found (others end (drop i group)) ≡ is_one false (others end group) → found ≡ has_one_partner ends end
one_at_end found group i end ends past back before = sym (is_found found) ∙ ap (λ left. is_one found (others end left)) (sym (drop_all i group past)) ∙ before ∙ partners_one group end ends back

pub second_one : (group : List (Bor End)) (i : ℕ) (end : End) (ends : List End) (item : Bor End) (found : Bool) → i < length group → item ≡ get_or group i item → is_other end item.now ≡ true → found ≡ true
    → map (λ other. other.now) group ≡ filter (leads_back end) ends → is_one found (others end (drop i group)) ≡ is_one false (others end group) → false ≡ has_one_partner ends end
second_one group i end ends item found within is same there back before =
    sym (ap (λ b. is_one b (others end (drop i group))) there ∙ ap (is_one true) (next_other group i end item true within is same)) ∙ before ∙ partners_one group end ends back

pub first_one : (group : List (Bor End)) (i : ℕ) (end : End) (item : Bor End) (found : Bool) (whole : Bool) → i < length group → item ≡ get_or group i item → is_other end item.now ≡ true → found ≡ false
    → is_one found (others end (drop i group)) ≡ whole → is_one true (others end (drop (i + 1) group)) ≡ whole
first_one group i end item found whole within is same there before =
    sym (ap (λ b. is_one b (others end (drop i group))) there ∙ ap (is_one false) (next_other group i end item true within is same)) ∙ before

pub passed_by : (group : List (Bor End)) (i : ℕ) (end : End) (item : Bor End) (found : Bool) (whole : Bool) → i < length group → item ≡ get_or group i item → is_other end item.now ≡ false
    → is_one found (others end (drop i group)) ≡ whole → is_one found (others end (drop (i + 1) group)) ≡ whole
passed_by group i end item found whole within is same before = sym (ap (is_one found) (next_other group i end item false within is same)) ∙ before
