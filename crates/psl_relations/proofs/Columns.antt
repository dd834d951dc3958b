-- Columns of a model that are all found at once by their names.
use Rattle.std.proofs.Common.{◌≡◌, ℕ, suc, ◌≤◌, Bool, true, false, cond, ◌&&◌, ◌||◌, List, [], ◌∷◌, map, length, Option, Some, None, refl, sym, ap, subst, ◌∙◌, Bor, arith}
use Rattle.std.proofs.lemmas.Bool.{and_parts, le-leb, eqb-true}
use Rattle.std.proofs.lemmas.List.{length-map}
use Rattle.std.specs.Prelude.{bytes_eq, nat_le, ◌==◌}
use Rattle.std.specs.List.{list_any, list_all, find, cons_option}
use Rattle.std.specs.Cmp.Lexicographic.{nat_list_eq_equiv}
use Rattle.psl_text.specs.declared.tree.Block.{Block}
use Rattle.psl_text.specs.declared.tree.Tree.{Tree}
use Rattle.psl_rules.specs.Parts.{Spelling, ModelField, fields}
use Rattle.psl_rules.specs.Names.{is_column}
use Rattle.psl_rules.specs.Attributes.{names_column, name_columns, are_distinct_names}
use Rattle.psl_rules.specs.Foreign.{field_named, fields_named}

or_true : (b : Bool) → (b || true) ≡ true
or_true true = refl
or_true false = refl

abbrev names_it : Tree → Spelling → ModelField → Bool
names_it tree name field = bytes_eq name field.name.text && is_column tree field

same_field : (one other : ModelField) → Some one ≡ Some other → one ≡ other
same_field one other is = cc

-- a column that is found by its name
found_column : (tree : Tree) (name : Spelling) (field : ModelField) (all : List ModelField) → find (λ one. bytes_eq one.name.text name) all ≡ Some field → is_column tree field ≡ true → list_any (names_it tree name) all ≡ true
found_column tree name field [] is column = absurd cc
found_column tree name field (one ∷ all) is column = by_test (bytes_eq one.name.text name) refl is (λ later. found_column tree name field all later column)
  where
    by_test : (b : Bool) → bytes_eq one.name.text name ≡ b → cond b (Some one) (find (λ one. bytes_eq one.name.text name) all) ≡ Some field
        → (find (λ one. bytes_eq one.name.text name) all ≡ Some field → list_any (names_it tree name) all ≡ true) → list_any (names_it tree name) (one ∷ all) ≡ true
    by_test true called same rest =
        ap (λ b. (b && is_column tree one) || list_any (names_it tree name) all) (nat_list_eq_equiv.symm name one.name.text ∙ called) ∙ ap (λ one. is_column tree one || list_any (names_it tree name) all) (same_field one field same)
        ∙ ap (λ b. b || list_any (names_it tree name) all) column
    by_test false called same rest = ap (λ b. names_it tree name one || b) (rest same) ∙ or_true (names_it tree name one)

-- ---- as many fields as names

none_or_one : (o : Option ModelField) (all : List ModelField) (n : ℕ) → length all ≤ n → length (cons_option o all) ≤ suc n
none_or_one None all n few = omega arith
none_or_one (Some field) all n few = omega arith

few : (model : Block) (names : List Spelling) → length (fields_named model names) ≤ length names
few model [] = omega arith
few model (name ∷ names) = none_or_one (field_named model name) (fields_named model names) (length names) (few model names)

pub all_columns : (tree : Tree) (model : Block) (names : List Spelling) → length (fields_named model names) ≡ length names → list_all (is_column tree) (fields_named model names) ≡ true → list_all (names_column tree model) names ≡ true
all_columns tree model [] as_many columns = refl
all_columns tree model (name ∷ names) as_many columns = by_found (field_named model name) refl as_many columns (few model names) (all_columns tree model names)
  where
    by_found : (o : Option ModelField) → field_named model name ≡ o → length (cons_option o (fields_named model names)) ≡ suc (length names) → list_all (is_column tree) (cons_option o (fields_named model names)) ≡ true
        → length (fields_named model names) ≤ length names
        → (length (fields_named model names) ≡ length names → list_all (is_column tree) (fields_named model names) ≡ true → list_all (names_column tree model) names ≡ true) → (names_column tree model name && list_all (names_column tree model) names) ≡ true
    by_found None is as_many columns most rest = absurd (omega (arith, as_many, most))
    by_found (Some field) is as_many columns most rest =
        let parts = and_parts (is_column tree field) (list_all (is_column tree) (fields_named model names)) columns in
        let left : length (fields_named model names) ≡ length names = omega (arith, as_many) in
        ap (λ b. b && list_all (names_column tree model) names) (found_column tree name field (fields model) is parts.0) ∙ rest left parts.1

-- names of columns, one at least, none twice
pub named_at_once : (tree : Tree) (model : Block) (names : List Spelling) → nat_le 1 (length names) ≡ true → are_distinct_names names ≡ true → length (fields_named model names) ≡ length names
    → list_all (is_column tree) (fields_named model names) ≡ true → true ≡ name_columns tree model names
named_at_once tree model names some once as_many columns =
    sym (ap (λ b. b && are_distinct_names names && list_all (names_column tree model) names) some ∙ ap (λ b. b && list_all (names_column tree model) names) once ∙ all_columns tree model names as_many columns)

-- the same, from the fields that were found
pub found_at_once : (tree : Tree) (model : Block) (names : List (Bor Spelling)) (held : List ModelField) (count : ℕ) → 1 ≤ length names → count ≡ length names → are_distinct_names (map (λ name. name.now) names) ≡ true
    → held ≡ fields_named model (map (λ name. name.now) names) → (length held == count && list_all (is_column tree) held) ≡ true → true ≡ name_columns tree model (map (λ name. name.now) names)
found_at_once tree model names held count some count_is once held_is found =
    let texts : List Spelling = map (λ (name : Bor Spelling). name.now) names in
    let as_many : length texts ≡ length names = length-map names (λ (name : Bor Spelling). name.now) in
    let parts = and_parts (length held == count) (list_all (is_column tree) held) found in
    named_at_once tree model texts (le-leb 1 (length texts) (subst (λ n. 1 ≤ n) (sym as_many) some)) once (sym (ap length held_is) ∙ eqb-true (length held) count parts.0 ∙ count_is ∙ sym as_many)
    (sym (ap (list_all (is_column tree)) held_is) ∙ parts.1)
