-- The columns of a model, by their names.
use Rattle.std.proofs.Common.{◌≡◌, Bool, true, false, cond, ◌&&◌, ◌||◌, List, [], ◌∷◌, map, filter, refl, sym, ap, ◌∙◌}
use Rattle.std.specs.Prelude.{bytes_eq}
use Rattle.std.specs.List.{list_any}
use Rattle.psl_text.specs.declared.tree.Tree.{Tree}
use Rattle.psl_rules.specs.Parts.{Spelling, ModelField}
use Rattle.psl_rules.specs.Names.{is_column}
use Rattle.qe_text.specs.Lists.{is_among}

and_true : (b : Bool) → (b && true) ≡ b
and_true true = refl
and_true false = refl

and_false : (b : Bool) → (b && false) ≡ false
and_false true = refl
and_false false = refl

pub among_columns : (tree : Tree) (name : Spelling) (all : List ModelField)
    → is_among name (map (λ field. field.name.text) (filter (is_column tree) all)) ≡ list_any (λ field. bytes_eq name field.name.text && is_column tree field) all
among_columns tree name [] = refl
among_columns tree name (field ∷ all) = by_case (is_column tree field) refl (among_columns tree name all)
  where
    by_case : (b : Bool) → is_column tree field ≡ b
        → is_among name (map (λ field. field.name.text) (filter (is_column tree) all)) ≡ list_any (λ field. bytes_eq name field.name.text && is_column tree field) all
        → is_among name (map (λ field. field.name.text) (filter (is_column tree) (field ∷ all))) ≡ list_any (λ field. bytes_eq name field.name.text && is_column tree field) (field ∷ all)
    by_case true is later =
        ap (λ b. is_among name (map (λ (field : ModelField). field.name.text) (cond b (field ∷ filter (is_column tree) all) (filter (is_column tree) all)))) is ∙ ap (λ b. bytes_eq name field.name.text || b) later
        ∙ ap (λ b. b || list_any (λ field. bytes_eq name field.name.text && is_column tree field) all) (sym (and_true (bytes_eq name field.name.text)) ∙ ap (λ b. bytes_eq name field.name.text && b) (sym is))
    by_case false is later =
        ap (λ b. is_among name (map (λ (field : ModelField). field.name.text) (cond b (field ∷ filter (is_column tree) all) (filter (is_column tree) all)))) is ∙ later
        ∙ ap (λ b. b || list_any (λ field. bytes_eq name field.name.text && is_column tree field) all) (sym (and_false (bytes_eq name field.name.text)) ∙ ap (λ b. bytes_eq name field.name.text && b) (sym is))
