-- Fields that are looked up by their names.
use Rattle.std.proofs.Common.{◌≡◌, ℕ, Bool, List, map, Some, None, sym, ap, ◌∙◌, Bor}
use Rattle.std.specs.Prelude.{position, bytes_eq, slice_get}
use Rattle.std.specs.List.{find}
use Rattle.std.specs.Cmp.Lexicographic.{nat_list_eq_equiv}
use Rattle.psl_rules.specs.Parts.{Spelling, ModelField}
use Rattle.psl_parts.proofs.Looked.{position_mapped, found_at, found_nowhere}

-- ---- a field, by its name

pub named_place : (names : List (Bor Spelling)) (fields : List ModelField) (name : Spelling) → map (λ name. name.now) names ≡ map (λ field. field.name.text) fields
    → position (λ other. bytes_eq name other.now) names ≡ position (λ field. bytes_eq field.name.text name) fields
named_place names fields name same =
    let flipped : (λ (field : ModelField). bytes_eq name field.name.text) ≡ (λ field. bytes_eq field.name.text name) = λ i field. nat_list_eq_equiv.symm name field.name.text i in
    sym (position_mapped (λ (other : Bor Spelling). other.now) (bytes_eq name) names) ∙ ap (position (bytes_eq name)) same
    ∙ position_mapped (λ (field : ModelField). field.name.text) (bytes_eq name) fields ∙ ap (λ (test : ModelField → Bool). position test fields) flipped

pub found_field : (names : List (Bor Spelling)) (held all : List ModelField) (name : Spelling) (at : ℕ) → Some at ≡ position (λ other. bytes_eq name other.now) names → map (λ name. name.now) names ≡ map (λ field. field.name.text) all
    → held ≡ all → slice_get held at ≡ find (λ field. bytes_eq field.name.text name) all
found_field names held all name at is same held_is =
    ap (λ (fields : List ModelField). slice_get fields at) held_is ∙ found_at (λ field. bytes_eq field.name.text name) all at (sym (named_place names all name same) ∙ sym is)

pub no_field : (names : List (Bor Spelling)) (all : List ModelField) (name : Spelling) → None ≡ position (λ other. bytes_eq name other.now) names → map (λ name. name.now) names ≡ map (λ field. field.name.text) all
    → None ≡ find (λ field. bytes_eq field.name.text name) all
no_field names all name is same = found_nowhere (λ field. bytes_eq field.name.text name) all (sym (named_place names all name same) ∙ sym is)
