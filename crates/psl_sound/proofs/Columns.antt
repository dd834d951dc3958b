-- The column of a field that is named.
use Rattle.std.proofs.Common.{◌≡◌, ℕ, zero, suc, ◌+◌, ◌<◌, Bool, true, false, cond, not, ◌&&◌, ◌||◌, filter, List, [], ◌∷◌, map, length, Some, None, unwrap_or, option_map, refl, sym, ap, subst, ◌∙◌, arith}
use Rattle.std.specs.Prelude.{bytes_eq, slice_get}
use Rattle.std.specs.List.{list_any, position_or_len}
use Rattle.std.proofs.lemmas.Bool.{lt-ltb}
use Rattle.std.proofs.lemmas.List.{length-map}
use Rattle.psl_text.specs.declared.tree.Block.{Block}
use Rattle.psl_text.specs.declared.tree.Tree.{Tree}
use Rattle.psl_rules.specs.Parts.{Spelling, ModelField, fields}
use Rattle.psl_rules.specs.Names.{is_column}
use Rattle.psl_rules.specs.Attributes.{names_column}
use Rattle.qe_text.specs.Lists.{In}
use Rattle.qe_schema.proofs.Members.{First, first_at}
use Rattle.psl_sound.specs.SchemaOf.{number_among, column_of, column_fields, columns_of, column_names}

pub same_place : {A B : Type 0} (f : A → B) (p : B → Bool) (xs : List A) → position_or_len p (map f xs) ≡ position_or_len (λ x. p (f x)) xs
same_place f p [] = refl
same_place f p (x ∷ xs) = ap (λ n. cond (not (p (f x))) (1 + n) 0) (same_place f p xs)

pub mapped_at : {A B : Type 0} (f : A → B) (xs : List A) (n : ℕ) → slice_get (map f xs) n ≡ option_map f (slice_get xs n)
mapped_at f [] n = refl
mapped_at f (x ∷ xs) zero = refl
mapped_at f (x ∷ xs) (suc n) = mapped_at f xs n

-- ---- columns by their names

is_named : Spelling → ModelField → Bool
is_named name field = bytes_eq name field.name.text

among_columns : (tree : Tree) (name : Spelling) (all : List ModelField) → list_any (λ field. bytes_eq name field.name.text && is_column tree field) all ≡ list_any (λ field. bytes_eq name field.name.text) (filter (is_column tree) all)
among_columns tree name [] = refl
among_columns tree name (field ∷ all) = by_test (is_column tree field) refl (among_columns tree name all)
  where
    and_false : (b : Bool) → (b && false) ≡ false
    and_false true = refl
    and_false false = refl

    and_true : (b : Bool) → (b && true) ≡ b
    and_true true = refl
    and_true false = refl

    by_test : (b : Bool) → is_column tree field ≡ b → list_any (λ field. bytes_eq name field.name.text && is_column tree field) all ≡ list_any (λ field. bytes_eq name field.name.text) (filter (is_column tree) all)
        → list_any (λ field. bytes_eq name field.name.text && is_column tree field) (field ∷ all) ≡ list_any (λ field. bytes_eq name field.name.text) (filter (is_column tree) (field ∷ all))
    by_test true is h =
        ap (λ b. (bytes_eq name field.name.text && b) || list_any (λ field. bytes_eq name field.name.text && is_column tree field) all) is ∙ ap (λ b. b || list_any (λ field. bytes_eq name field.name.text && is_column tree field) all) (and_true (bytes_eq name field.name.text))
        ∙ ap (λ b. bytes_eq name field.name.text || b) h ∙ sym (ap (λ b. list_any (λ field. bytes_eq name field.name.text) (cond b (field ∷ filter (is_column tree) all) (filter (is_column tree) all))) is)
    by_test false is h =
        ap (λ b. (bytes_eq name field.name.text && b) || list_any (λ field. bytes_eq name field.name.text && is_column tree field) all) is ∙ ap (λ b. b || list_any (λ field. bytes_eq name field.name.text && is_column tree field) all) (and_false (bytes_eq name field.name.text))
        ∙ h ∙ sym (ap (λ b. list_any (λ field. bytes_eq name field.name.text) (cond b (field ∷ filter (is_column tree) all) (filter (is_column tree) all))) is)

-- a named column: its field, and that its number leads to it
pub record Column (tree : Tree) (model : Block) (name : Spelling) : Type 0 where
  pub field : ModelField
  pub member : In field (column_fields tree model)
  pub called : bytes_eq name field.name.text ≡ true
  pub at : slice_get (columns_of tree model) (number_among (column_names tree model) name) ≡ Some (column_of tree field)
  pub within : number_among (column_names tree model) name < length (columns_of tree model)

pub column_named : (tree : Tree) (model : Block) (name : Spelling) → names_column tree model name ≡ true → Column tree model name
column_named tree model name is = record { field = found.item; member = found.member; called = found.passes; at = ap (slice_get (columns_of tree model)) number ∙ mapped_at (column_of tree) (column_fields tree model) place ∙ ap (option_map (column_of tree)) found.at; within = subst (λ n. n < length (columns_of tree model)) (sym number) inside }
  where
    found : First (λ field. bytes_eq name field.name.text) (column_fields tree model)
    found = first_at (λ field. bytes_eq name field.name.text) (column_fields tree model) (sym (among_columns tree name (fields model)) ∙ is)

    place : ℕ
    place = position_or_len (λ (field : ModelField). bytes_eq name field.name.text) (column_fields tree model)

    names_within : position_or_len (bytes_eq name) (column_names tree model) < length (column_names tree model)
    names_within =
        let same : position_or_len (bytes_eq name) (column_names tree model) ≡ place = same_place (λ (field : ModelField). field.name.text) (bytes_eq name) (column_fields tree model) in
        let counted : length (column_names tree model) ≡ length (column_fields tree model) = length-map (column_fields tree model) (λ (field : ModelField). field.name.text) in
        let inside : place < length (column_fields tree model) = found.within in
        omega arith

    number : number_among (column_names tree model) name ≡ place
    number = ap (λ b. unwrap_or (cond b (Some (position_or_len (bytes_eq name) (column_names tree model))) None) 0) (lt-ltb (position_or_len (bytes_eq name) (column_names tree model)) (length (column_names tree model)) names_within) ∙ same_place (λ (field : ModelField). field.name.text) (bytes_eq name) (column_fields tree model)

    inside : place < length (columns_of tree model)
    inside = let counted : length (columns_of tree model) ≡ length (column_fields tree model) = length-map (column_fields tree model) (column_of tree) in let one : place < length (column_fields tree model) = found.within in omega arith
