-- Models, fields and columns by their names, in an accepted tree.
use Rattle.std.proofs.Common.{◌≡◌, ℕ, zero, suc, ◌<◌, true, cond, not, ◌&&◌, ◌||◌, filter, List, [], ◌∷◌, ◌++◌, map, length, Some, None, unwrap_or, option_map, refl, sym, ap, ◌∙◌, arith, lt-ltb}
use Rattle.std.specs.Prelude.{bytes_eq, slice_get}
use Rattle.std.specs.List.{position_or_len, flat_map}
use Rattle.std.proofs.lemmas.List.{length-map}
use Rattle.std.proofs.lemmas.Slice.Eq.{bytes_eq-Decides}
use Rattle.psl_text.specs.declared.tree.Block.{Block}
use Rattle.psl_text.specs.declared.tree.Tree.{Tree}
use Rattle.psl_text.specs.declared.tree.Word.TheVariants as word
use Rattle.psl_rules.specs.Accepted.{IsAccepted}
use Rattle.psl_rules.specs.Parts.{Spelling, ModelField, models, enums, fields, same_word, same_name, failing, place}
use Rattle.qe_text.specs.Lists.{repeats, is_among, In}
use Rattle.psl_rules.specs.Names.{type_names, type_names_are_distinct, field_names, field_names_are_distinct, repeated_fields, repeated_members, is_column}
use Rattle.psl_rules.specs.Attributes.{names_column}
use Rattle.psl_rules.specs.Stored.{linked}
use Rattle.qe_text.specs.Names.{reserved_names, filter_names}
use Rattle.psl_sound.specs.SchemaOf.{number_among, block_name, model_number, column_of, column_fields, columns_of, column_names, table_of, link_table, tables_of}
use Rattle.psl_sound.proofs.Columns.{same_place, mapped_at, column_named}
use Rattle.qe_schema.proofs.Members.{First, first_at, from_filter, in_filter, any_of}
use Rattle.psl_sound.proofs.Limits.{each_empty}
use Rattle.psl_sound.proofs.Unbroken.{unbroken, none_left}
use Rattle.psl_sound.proofs.Unique.{unique}
use Rattle.psl_sound.proofs.Rules.{field_names_are_distinct_is_in, type_names_are_distinct_is_in}

-- ---- lists

pub nothing_of : {A B : Type 0} (f : A → B) (xs : List A) → map f xs ≡ [] → xs ≡ []
nothing_of f [] is = refl
nothing_of f (x ∷ xs) is = let counted : length (map f (x ∷ xs)) ≡ 0 = ap length is in absurd (omega arith)

in_front : {A : Type 0} (xs ys : List A) (n : ℕ) → n < length xs → slice_get (xs ++ ys) n ≡ slice_get xs n
in_front [] ys n within = absurd (omega arith)
in_front (x ∷ xs) ys zero within = refl
in_front (x ∷ xs) ys (suc n) within = in_front xs ys n (omega arith)

-- the number of a name that is there is its place
number_is : {A : Type 0} (f : A → Spelling) (xs : List A) (name : Spelling) → position_or_len (λ x. bytes_eq name (f x)) xs < length xs → number_among (map f xs) name ≡ position_or_len (λ x. bytes_eq name (f x)) xs
number_is f xs name within =
    ap (λ b. unwrap_or (cond b (Some (position_or_len (bytes_eq name) (map f xs))) None) 0) (lt-ltb (position_or_len (bytes_eq name) (map f xs)) (length (map f xs)) inside) ∙ same
  where
    same : position_or_len (bytes_eq name) (map f xs) ≡ position_or_len (λ x. bytes_eq name (f x)) xs
    same = same_place f (bytes_eq name) xs

    inside : position_or_len (bytes_eq name) (map f xs) < length (map f xs)
    inside = let counted : length (map f xs) ≡ length xs = length-map xs f in let at : position_or_len (bytes_eq name) (map f xs) ≡ position_or_len (λ x. bytes_eq name (f x)) xs = same in omega arith

-- ---- models

pub unique_model : (tree : Tree) → IsAccepted tree → (one other : Block) → In one (models tree) → In other (models tree) → bytes_eq one.name.text other.name.text ≡ true → one ≡ other
unique_model tree accepted one other in_one in_other same = unique (λ (block : Block). block.name) (filter (λ block. same_word block.word word.Model || same_word block.word word.Enum) tree.blocks) none one other (as_type one in_one) (as_type other in_other) same
  where
    none : repeats same_name (type_names tree) ≡ []
    none = nothing_of place (repeats same_name (type_names tree)) (none_left (failing (λ name. not (is_among name.text reserved_names)) place (type_names tree)) (map place (repeats same_name (type_names tree))) (unbroken tree accepted type_names_are_distinct type_names_are_distinct_is_in)).1

    as_type : (block : Block) → In block (models tree) → In block (filter (λ block. same_word block.word word.Model || same_word block.word word.Enum) tree.blocks)
    as_type block is_in =
        let both = from_filter (λ (block : Block). same_word block.word word.Model) tree.blocks block is_in in
        in_filter (λ block. same_word block.word word.Model || same_word block.word word.Enum) tree.blocks block both.0 (ap (λ b. b || same_word block.word word.Enum) both.1)

-- a model's number leads to its table
pub table_at_number : (tree : Tree) → IsAccepted tree → (model : Block) → In model (models tree) → slice_get (tables_of tree) (model_number tree model.name.text) ≡ Some (table_of tree model)
table_at_number tree accepted model is_in =
    ap (slice_get (tables_of tree)) number ∙ in_front (map (table_of tree) (models tree)) (map (link_table tree) (linked tree)) at inside ∙ mapped_at (table_of tree) (models tree) at
    ∙ ap (option_map (table_of tree)) (found.at ∙ ap Some (sym (unique_model tree accepted model found.item is_in found.member found.passes)))
  where
    found : First (λ (block : Block). bytes_eq model.name.text block.name.text) (models tree)
    found = first_at (λ (block : Block). bytes_eq model.name.text block.name.text) (models tree) (any_of (λ (block : Block). bytes_eq model.name.text block.name.text) (models tree) model is_in ((bytes_eq-Decides model.name.text model.name.text).1 refl))

    at : ℕ
    at = position_or_len (λ (block : Block). bytes_eq model.name.text block.name.text) (models tree)

    number : model_number tree model.name.text ≡ position_or_len (λ (block : Block). bytes_eq model.name.text block.name.text) (models tree)
    number = number_is block_name (models tree) model.name.text found.within

    inside : position_or_len (λ (block : Block). bytes_eq model.name.text block.name.text) (models tree) < length (map (table_of tree) (models tree))
    inside = let counted : length (map (table_of tree) (models tree)) ≡ length (models tree) = length-map (models tree) (table_of tree) in let within : position_or_len (λ (block : Block). bytes_eq model.name.text block.name.text) (models tree) < length (models tree) = found.within in omega arith

-- ---- fields

-- no two fields of a model have the same name
pub fields_differ : (tree : Tree) → IsAccepted tree → (model : Block) → In model (models tree) → repeats same_name (field_names model) ≡ []
fields_differ tree accepted model is_in = nothing_of place (repeats same_name (field_names model)) (none_left (failing (λ name. not (is_among name.text filter_names)) place (field_names model)) (map place (repeats same_name (field_names model))) of_model).1
  where
    of_model : repeated_fields model ≡ []
    of_model = each_empty repeated_fields (models tree) (none_left (flat_map repeated_fields (models tree)) (flat_map repeated_members (enums tree)) (unbroken tree accepted field_names_are_distinct field_names_are_distinct_is_in)).0 model is_in

pub unique_field : (tree : Tree) → IsAccepted tree → (model : Block) → In model (models tree) → (one other : ModelField) → In one (fields model) → In other (fields model) → bytes_eq one.name.text other.name.text ≡ true → one ≡ other
unique_field tree accepted model is_in one other in_one in_other same = unique (λ (field : ModelField). field.name) (fields model) (fields_differ tree accepted model is_in) one other in_one in_other same

-- the number of a column's field leads to its column
pub column_at_number : (tree : Tree) → IsAccepted tree → (model : Block) → In model (models tree) → (field : ModelField) → In field (column_fields tree model)
    → slice_get (columns_of tree model) (number_among (column_names tree model) field.name.text) ≡ Some (column_of tree field)
column_at_number tree accepted model is_in field among =
    let both = from_filter (is_column tree) (fields model) field among in
    let named : names_column tree model field.name.text ≡ true = any_of (λ other. bytes_eq field.name.text other.name.text && is_column tree other) (fields model) field both.0 (ap (λ b. b && is_column tree field) ((bytes_eq-Decides field.name.text field.name.text).1 refl) ∙ both.1) in
    let column = column_named tree model field.name.text named in
    let same : field ≡ column.field = unique_field tree accepted model is_in field column.field both.0 (from_filter (is_column tree) (fields model) column.field column.member).0 column.called in
    column.at ∙ ap (λ f. Some (column_of tree f)) (sym same)
