-- How many tables, fields, columns, members and relations an accepted tree has at most.
use Rattle.std.proofs.Common.{◌≡◌, inl, inr, ℕ, zero, suc, ◌+◌, ◌*◌, ◌≤◌, Bool, true, false, cond, ◌&&◌, filter, List, [], ◌∷◌, ◌++◌, map, length, refl, sym, ap, subst, ◌∙◌, arith}
use Rattle.std.specs.Prelude.{◌==◌}
use Rattle.std.specs.List.{list_all, flat_map, enumerate_from}
use Rattle.std.proofs.Math.Nat.{mul-le-mul_right}
use Rattle.std.proofs.Math.ListN.{length-append}
use Rattle.std.proofs.lemmas.List.{length-map}
use Rattle.std.proofs.lemmas.List.FromFn.{length-enumerate_from}
use Rattle.std.proofs.lemmas.Bool.{and_parts}
use Rattle.std.proofs.lemmas.Bool.{eqb-true}
use Rattle.psl_text.specs.declared.tree.Name.{Name}
use Rattle.psl_text.specs.declared.tree.Block.{Block}
use Rattle.psl_text.specs.declared.tree.Tree.{Tree}
use Rattle.psl_rules.specs.Accepted.{IsAccepted}
use Rattle.psl_rules.specs.Parts.{Places, ModelField, Member, models, enums, fields, members}
use Rattle.psl_rules.specs.Names.{field_names, member_names, is_relation}
use Rattle.psl_rules.specs.Relations.{End, standing_in, leading_of, end_at, ends, end_place, has_fields, partners_among, has_one_partner, ends_are_paired}
use Rattle.psl_rules.specs.Foreign.{holders}
use Rattle.psl_rules.specs.Stored.{stored_model, stored_link, linked, stored_tables, beyond, limits_hold}
use Rattle.qe_text.specs.Lists.{In}
use Rattle.psl_sound.specs.SchemaOf.{table_of, link_table, tables_of, relation_between, relations_held, relations_of}
use Rattle.psl_sound.proofs.Unbroken.{unbroken, none_left, all_pass}
use Rattle.psl_sound.proofs.Rules.{ends_are_paired_is_in, limits_hold_is_in}

-- ---- lists

no_item : {A : Type 0} (xs : List A) → length xs ≤ 0 → xs ≡ []
no_item [] is = refl
no_item (x ∷ xs) is = absurd (omega arith)

nothing_beyond : (most : ℕ) (names : List Name) → beyond most names ≡ [] → length names ≤ most
nothing_beyond most [] is = omega arith
nothing_beyond zero (name ∷ names) is = let none : 1 ≡ 0 = ap length is in absurd (omega (arith, none))
nothing_beyond (suc most) (name ∷ names) is = let few = nothing_beyond most names is in omega arith

pub each_empty : {A : Type 0} (f : A → Places) (items : List A) → flat_map f items ≡ [] → (item : A) → In item items → f item ≡ []
unfolding In
each_empty f [] is item is_in = absurd is_in
each_empty f (one ∷ items) is item (inl same) = ap f same ∙ (none_left (f one) (flat_map f items) is).0
each_empty f (one ∷ items) is item (inr is_in) = each_empty f items (none_left (f one) (flat_map f items) is).1 item is_in

pub fewer : {A : Type 0} (p : A → Bool) (items : List A) → length (filter p items) ≤ length items
fewer p [] = omega arith
fewer p (item ∷ items) = by_test (p item) refl (fewer p items)
  where
    by_test : (b : Bool) → p item ≡ b → length (filter p items) ≤ length items → length (filter p (item ∷ items)) ≤ suc (length items)
    by_test true is h = let whole : length (filter p (item ∷ items)) ≡ suc (length (filter p items)) = ap (λ b. length (cond b (item ∷ filter p items) (filter p items))) is in omega arith
    by_test false is h = let whole : length (filter p (item ∷ items)) ≡ length (filter p items) = ap (λ b. length (cond b (item ∷ filter p items) (filter p items))) is in omega arith

-- lists of at most so many items each
most_in_all : {A B : Type 0} (f : A → List B) (most : ℕ) (items : List A) → ((item : A) → In item items → length (f item) ≤ most) → length (flat_map f items) ≤ length items * most
unfolding In
most_in_all f most [] each = omega arith
most_in_all f most (item ∷ items) each =
    let one : length (f item) ≤ most = each item (inl refl) in
    let rest : length (flat_map f items) ≤ length items * most = most_in_all f most items (λ other is_in. each other (inr is_in)) in
    let both : length (f item ++ flat_map f items) ≡ length (f item) + length (flat_map f items) = length-append (f item) (flat_map f items) in
    omega arith

pass_filtered : {A : Type 0} (p q : A → Bool) (items : List A) → list_all p items ≡ true → list_all p (filter q items) ≡ true
pass_filtered p q [] all = refl
pass_filtered p q (item ∷ items) all = let both = and_parts (p item) (list_all p items) all in by_test (q item) refl both.0 (pass_filtered p q items both.1)
  where
    by_test : (b : Bool) → q item ≡ b → p item ≡ true → list_all p (filter q items) ≡ true → list_all p (filter q (item ∷ items)) ≡ true
    by_test true is one h = ap (λ b. list_all p (cond b (item ∷ filter q items) (filter q items))) is ∙ ap (λ b. b && list_all p (filter q items)) one ∙ h
    by_test false is one h = ap (λ b. list_all p (cond b (item ∷ filter q items) (filter q items))) is ∙ h

-- one item each
one_each : {A B : Type 0} (f : A → List B) (items : List A) → list_all (λ item. length (f item) == 1) items ≡ true → length (flat_map f items) ≡ length items
one_each f [] all = refl
one_each f (item ∷ items) all =
    let both : (length (f item) == 1 ≡ true) × (list_all (λ item. length (f item) == 1) items ≡ true) = and_parts _ _ all in
    let one : length (f item) ≡ 1 = eqb-true (length (f item)) 1 both.0 in
    let rest : length (flat_map f items) ≡ length items = one_each f items both.1 in
    let whole : length (f item ++ flat_map f items) ≡ length (f item) + length (flat_map f items) = length-append (f item) (flat_map f items) in
    omega arith

-- ---- the rules

limits : (tree : Tree) → IsAccepted tree → limits_hold tree ≡ []
limits tree is = unbroken tree is limits_hold limits_hold_is_in

paired : (tree : Tree) → IsAccepted tree → list_all (has_one_partner (ends tree)) (ends tree) ≡ true
paired tree is = all_pass (has_one_partner (ends tree)) end_place (ends tree) (unbroken tree is ends_are_paired ends_are_paired_is_in)

-- ---- tables, fields and members

-- the rule on limits, with any limits
abbrev places_beyond : ℕ → ℕ → ℕ → Tree → Places
places_beyond tables each members tree = beyond tables (stored_tables tree) ++ flat_map (λ model. beyond each (field_names model)) (models tree) ++ flat_map (λ enum. beyond members (member_names enum)) (enums tree)

record Within (tables each most : ℕ) (tree : Tree) : Type 0 where
  all : length (stored_tables tree) ≤ tables
  models : flat_map (λ model. beyond each (field_names model)) (models tree) ≡ []
  enums : flat_map (λ enum. beyond most (member_names enum)) (enums tree) ≡ []

are_within : (tables each most : ℕ) (tree : Tree) → places_beyond tables each most tree ≡ [] → Within tables each most tree
are_within tables each most tree is =
    let fields_beyond = flat_map (λ model. beyond each (field_names model)) (models tree) in
    let members_beyond = flat_map (λ enum. beyond most (member_names enum)) (enums tree) in
    let outer = none_left (beyond tables (stored_tables tree) ++ fields_beyond) members_beyond is in
    let inner = none_left (beyond tables (stored_tables tree)) fields_beyond outer.0 in
    record { all = nothing_beyond tables (stored_tables tree) inner.0; models = inner.1; enums = outer.1 }

within : (tree : Tree) → IsAccepted tree → Within 256 128 1000 tree
within tree is = are_within 256 128 1000 tree (limits tree is)

-- models and link tables together
pub tables_within : (tree : Tree) → IsAccepted tree → length (stored_tables tree) ≤ 256
tables_within tree is = (within tree is).all

pub tables_counted : (tree : Tree) → length (tables_of tree) ≡ length (models tree) + length (linked tree)
tables_counted tree =
    let models_are : length (map (table_of tree) (models tree)) ≡ length (models tree) = length-map (models tree) (table_of tree) in
    let links_are : length (map (link_table tree) (linked tree)) ≡ length (linked tree) = length-map (linked tree) (link_table tree) in
    let both : length (tables_of tree) ≡ length (map (table_of tree) (models tree)) + length (map (link_table tree) (linked tree)) = length-append (map (table_of tree) (models tree)) (map (link_table tree) (linked tree)) in
    omega arith

pub models_and_links_within : (tree : Tree) → IsAccepted tree → length (models tree) + length (linked tree) ≤ 256
models_and_links_within tree is =
    let models_are : length (map stored_model (models tree)) ≡ length (models tree) = length-map (models tree) stored_model in
    let links_are : length (map stored_link (linked tree)) ≡ length (linked tree) = length-map (linked tree) stored_link in
    let both : length (stored_tables tree) ≡ length (map stored_model (models tree)) + length (map stored_link (linked tree)) = length-append (map stored_model (models tree)) (map stored_link (linked tree)) in
    let all : length (stored_tables tree) ≤ 256 = tables_within tree is in
    omega arith

few_fields : (each : ℕ) (tree : Tree) (model : Block) → In model (models tree) → flat_map (λ model. beyond each (field_names model)) (models tree) ≡ [] → length (fields model) ≤ each
few_fields each tree model is_in none =
    let names : length (field_names model) ≡ length (fields model) = length-map (fields model) (λ (field : ModelField). field.name) in
    let most : length (field_names model) ≤ each = nothing_beyond each (field_names model) (each_empty (λ model. beyond each (field_names model)) (models tree) none model is_in) in
    omega arith

pub fields_within : (tree : Tree) → IsAccepted tree → (model : Block) → In model (models tree) → length (fields model) ≤ 128
fields_within tree is model is_in = few_fields 128 tree model is_in (within tree is).models

few_members : (each : ℕ) (tree : Tree) (enum : Block) → In enum (enums tree) → flat_map (λ enum. beyond each (member_names enum)) (enums tree) ≡ [] → length (members enum) ≤ each
few_members each tree enum is_in none =
    let names : length (member_names enum) ≡ length (members enum) = length-map (members enum) (λ (member : Member). member.name) in
    let most : length (member_names enum) ≤ each = nothing_beyond each (member_names enum) (each_empty (λ enum. beyond each (member_names enum)) (enums tree) none enum is_in) in
    omega arith

pub members_within : (tree : Tree) → IsAccepted tree → (enum : Block) → In enum (enums tree) → length (members enum) ≤ 1000
members_within tree is enum is_in = few_members 1000 tree enum is_in (within tree is).enums

-- ---- relations

fewest : (a b most : ℕ) → a + b ≤ most → a ≤ most
fewest a b most few = omega arith

more_times : (a b most each n : ℕ) → a + b ≤ most → n ≤ a * each → n ≤ most * each
more_times a b most each n few all = let more : a * each ≤ most * each = mul-le-mul_right each (fewest a b most few) in omega arith

pub ends_within : (tree : Tree) → IsAccepted tree → length (ends tree) ≤ 256 * 128
ends_within tree is =
    let each : (model : Block) → In model (models tree) → length (leading_of tree model) ≤ 128 = λ model is_in. of_model model (fields_within tree is model is_in) in
    let counted : length (ends tree) ≡ length (flat_map (leading_of tree) (models tree)) =
    length-map (enumerate_from 0 (flat_map (leading_of tree) (models tree))) end_at ∙ length-enumerate_from 0 (flat_map (leading_of tree) (models tree)) in
    let all : length (ends tree) ≤ length (models tree) * 128 = subst (λ n. n ≤ length (models tree) * 128) (sym counted) (most_in_all (leading_of tree) 128 (models tree) each) in
    let few : length (models tree) + length (linked tree) ≤ 256 = models_and_links_within tree is in
    more_times (length (models tree)) (length (linked tree)) 256 128 (length (ends tree)) few all
  where
    of_model : (model : Block) → length (fields model) ≤ 128 → length (leading_of tree model) ≤ 128
    of_model model most =
        let mapped : length (leading_of tree model) ≡ length (filter (is_relation tree) (fields model)) = length-map (filter (is_relation tree) (fields model)) (standing_in model) in
        let some : length (filter (is_relation tree) (fields model)) ≤ length (fields model) = fewer (is_relation tree) (fields model) in
        omega arith

-- each holder has one partner, and with it one relation
pub relations_counted : (tree : Tree) → IsAccepted tree → length (relations_of tree) ≡ length (holders tree)
relations_counted tree is = one_each (relations_held tree) (holders tree) (same_tests (holders tree) ∙ pass_filtered (has_one_partner (ends tree)) has_fields (ends tree) (paired tree is))
  where
    same_tests : (all : List End) → list_all (λ holder. length (relations_held tree holder) == 1) all ≡ list_all (has_one_partner (ends tree)) all
    same_tests [] = refl
    same_tests (end ∷ all) =
        ap (λ n. n == 1 && list_all (λ holder. length (relations_held tree holder) == 1) all) (length-map (partners_among (ends tree) end) (relation_between tree end))
        ∙ ap (λ b. has_one_partner (ends tree) end && b) (same_tests all)

pub relations_within : (tree : Tree) → IsAccepted tree → length (relations_of tree) ≤ 256 * 128
relations_within tree is =
    let counted : length (relations_of tree) ≡ length (holders tree) = relations_counted tree is in
    let some : length (holders tree) ≤ length (ends tree) = fewer has_fields (ends tree) in
    let all : length (ends tree) ≤ 256 * 128 = ends_within tree is in
    omega arith
