-- Attributes that stand twice, by their names.
use Rattle.std.proofs.Common.{◌≡◌, Bool, true, false, cond, ◌||◌, List, [], ◌∷◌, ◌++◌, map, refl, ap, ◌∙◌}
use Rattle.std.proofs.lemmas.List.{map-append}
use Rattle.std.specs.List.{list_any}
use Rattle.psl_text.specs.declared.tree.Name.{Name}
use Rattle.psl_text.specs.declared.tree.Attribute.{Attribute}
use Rattle.psl_rules.specs.Parts.{place}
use Rattle.qe_text.specs.Lists.{repeats_behind, repeats}
use Rattle.psl_rules.specs.Names.{same_name}
use Rattle.psl_rules.specs.Attributes.{same_attribute, attribute_place, repeated}

abbrev pub name_of : Attribute → Name
name_of attribute = attribute.name

any_by_name : (name : Attribute) (before : List Attribute) → list_any (same_attribute name) before ≡ list_any (same_name name.name) (map name_of before)
any_by_name name [] = refl
any_by_name name (one ∷ before) = ap (λ b. same_attribute name one || b) (any_by_name name before)

by_case : (b c : Bool) (one : Attribute) (rest : List Attribute) (others : List Name) → b ≡ c → map attribute_place rest ≡ map place others
    → map attribute_place (cond b (one ∷ rest) rest) ≡ map place (cond c (one.name ∷ others) others)
by_case true c one rest others is same = ap (λ places. one.name.at ∷ places) same ∙ ap (λ d. map place (cond d (one.name ∷ others) others)) is
by_case false c one rest others is same = same ∙ ap (λ d. map place (cond d (one.name ∷ others) others)) is

behind_by_names : (before attributes : List Attribute)
    → map attribute_place (repeats_behind same_attribute before attributes) ≡ map place (repeats_behind same_name (map name_of before) (map name_of attributes))
behind_by_names before [] = refl
behind_by_names before (one ∷ attributes) =
    by_case (list_any (same_attribute one) before) (list_any (same_name one.name) (map name_of before)) one (repeats_behind same_attribute (before ++ one ∷ []) attributes)
    (repeats_behind same_name (map name_of before ++ one.name ∷ []) (map name_of attributes)) (any_by_name one before)
    (behind_by_names (before ++ one ∷ []) attributes ∙ ap (λ names. map place (repeats_behind same_name names (map name_of attributes))) (map-append name_of before (one ∷ [])))

pub by_names : (attributes : List Attribute) → repeated attributes ≡ map place (repeats same_name (map name_of attributes))
by_names attributes = behind_by_names [] attributes
