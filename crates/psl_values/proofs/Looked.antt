-- Places that are looked up by the names of ends.
use Rattle.std.proofs.Common.{◌≡◌, ℕ, Bool, ◌&&◌, List, Option, map, sym, ap, ◌∙◌}
use Rattle.std.specs.Prelude.{position, bytes_eq, unwrap_or}
use Rattle.psl_text.specs.declared.tree.Block.{Block}
use Rattle.psl_text.specs.declared.tree.Tree.{Tree}
use Rattle.psl_rules.specs.Parts.{Spelling, ModelField}
use Rattle.psl_rules.specs.Relations.{End, ends}
use Rattle.psl_sound.specs.SchemaOf.{is_same_end, end_number}
use Rattle.psl_values.specs.Named.{Named, same_named, has_names, texts_of, end_names}
use Rattle.psl_parts.proofs.Looked.{position_mapped}

-- among names, and among the ends that have them
pub places_by_names : (names : List Named) (named : Named) (ends : List End) → map texts_of names ≡ map end_names ends
    → position (same_named named) names ≡ position (has_names named) ends
places_by_names names named ends same =
    let fits : Spelling × Spelling → Bool = λ one. bytes_eq named.0.now one.0 && bytes_eq named.1.now one.1 in
    sym (position_mapped texts_of fits names) ∙ ap (position fits) same ∙ position_mapped end_names fits ends

-- of an end
pub found : (place under : Option ℕ) (named : Named) (end : End) (ends all : List End) → place ≡ under → under ≡ position (has_names named) ends → ends ≡ all → named.0.now ≡ end.model.name.text → named.1.now ≡ end.field.name.text
    → place ≡ position (is_same_end end) all
found place under named end ends all got held same model field =
    got ∙ held ∙ ap (position (has_names named)) same
    ∙ ap (λ text. position (λ (other : End). bytes_eq text other.model.name.text && bytes_eq named.1.now other.field.name.text) all) model
    ∙ ap (λ text. position (λ (other : End). bytes_eq end.model.name.text other.model.name.text && bytes_eq text other.field.name.text) all) field

-- of a field
pub number_found : (place under : Option ℕ) (named : Named) (model : Block) (field : ModelField) (tree whole : Tree) → place ≡ under → under ≡ position (has_names named) (ends tree) → tree ≡ whole → named.0.now ≡ model.name.text
    → named.1.now ≡ field.name.text → unwrap_or place 0 ≡ end_number whole model field
number_found place under named model field tree whole got held same model_is field_is =
    ap (λ found. unwrap_or found 0)
    (got ∙ held ∙ ap (λ tree. position (has_names named) (ends tree)) same
    ∙ ap (λ text. position (λ (other : End). bytes_eq text other.model.name.text && bytes_eq named.1.now other.field.name.text) (ends whole)) model_is
    ∙ ap (λ text. position (λ (other : End). bytes_eq model.name.text other.model.name.text && bytes_eq text other.field.name.text) (ends whole)) field_is)
