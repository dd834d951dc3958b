-- The columns of a relation agree with those that they refer to.
use Rattle.std.proofs.Common.{◌≡◌, inl, inr, Bool, true, false, cond, ◌||◌, List, [], ◌∷◌, map, length, Option, Some, option_map, refl, sym, ap, subst, ◌∙◌, arith, true≢false}
use Rattle.std.specs.Prelude.{bytes_eq, slice_get}
use Rattle.std.specs.List.{list_all, list_any, find, zip, cons_option}
use Rattle.std.proofs.lemmas.Bool.{and_parts}
use Rattle.std.proofs.lemmas.Slice.Eq.{bytes_eq-Decides}
use Rattle.psl_text.specs.declared.tree.Block.{Block}
use Rattle.psl_text.specs.declared.tree.Tree.{Tree}
use Rattle.psl_rules.specs.Accepted.{IsAccepted}
use Rattle.psl_rules.specs.Parts.{Spelling, ModelField, models, fields}
use Rattle.psl_rules.specs.Names.{is_column, is_optional}
use Rattle.psl_rules.specs.Attributes.{names_column}
use Rattle.psl_rules.specs.Foreign.{field_named, fields_named, have_same_type}
use Rattle.qe_text.specs.Lists.{In}
use Rattle.qe_base.specs.declared.schema.Column.{Column}
use Rattle.psl_sound.specs.SchemaOf.{number_among, kind_of, column_of, columns_of, column_names}
use Rattle.psl_sound.proofs.Columns.{column_named}
use Rattle.qe_schema.proofs.Members.{from_filter, any_of}
use Rattle.psl_sound.proofs.Named.{unique_field}

-- ---- a field by its name

pub record Found {A : Type 0} (p : A → Bool) (xs : List A) : Type 0 where
  pub item : A
  pub is : find p xs ≡ Some item
  pub passes : p item ≡ true
  pub member : In item xs

found_in : {A : Type 0} (p : A → Bool) (xs : List A) → list_any p xs ≡ true → Found p xs
unfolding In
found_in p [] some = absurd (true≢false (sym some))
found_in p (x ∷ xs) some = by_test (p x) refl (found_in p xs)
  where
    by_test : (b : Bool) → p x ≡ b → (list_any p xs ≡ true → Found p xs) → Found p (x ∷ xs)
    by_test true is rest = record { item = x; is = ap (λ b. cond b (Some x) (find p xs)) is; passes = is; member = inl refl }
    by_test false is rest = let found = rest (sym (ap (λ b. b || list_any p xs) is) ∙ some) in record { item = found.item; is = ap (λ b. cond b (Some x) (find p xs)) is ∙ found.is; passes = found.passes; member = inr found.member }

-- a field by its name: it is the one that is found, and the number of its name leads to its column
pub record Named (tree : Tree) (model : Block) (name : Spelling) : Type 0 where
  pub field : ModelField
  pub is : field_named model name ≡ Some field
  pub column : slice_get (columns_of tree model) (number_among (column_names tree model) name) ≡ Some (column_of tree field)

pub named : (tree : Tree) → IsAccepted tree → (model : Block) → In model (models tree) → (name : Spelling) → names_column tree model name ≡ true → Named tree model name
named tree accepted model is_in name names =
    let column = column_named tree model name names in
    let in_fields = from_filter (is_column tree) (fields model) column.field column.member in
    let some : list_any (λ (field : ModelField). bytes_eq field.name.text name) (fields model) ≡ true = any_of (λ (field : ModelField). bytes_eq field.name.text name) (fields model) column.field in_fields.0 (turned name column.field.name.text column.called) in
    let found = found_in (λ (field : ModelField). bytes_eq field.name.text name) (fields model) some in
    let text : name ≡ column.field.name.text = (bytes_eq-Decides name column.field.name.text).0 column.called in
    let same : found.item ≡ column.field = unique_field tree accepted model is_in found.item column.field found.member in_fields.0 (subst (λ n. bytes_eq found.item.name.text n ≡ true) text found.passes) in
    record { field = found.item; is = found.is; column = column.at ∙ ap (λ f. Some (column_of tree f)) (sym same) }
  where
    turned : (x y : Spelling) → bytes_eq x y ≡ true → bytes_eq y x ≡ true
    turned x y is = (bytes_eq-Decides y x).1 (sym ((bytes_eq-Decides x y).0 is))

-- ---- kinds

-- what the columns of these names have
abbrev pub of_names : {A : Type 0} → (Column → A) → Tree → Block → List Spelling → List (Option A)
of_names what tree model names = map (λ name. option_map what (slice_get (columns_of tree model) (number_among (column_names tree model) name))) names

pub same_kinds : (tree : Tree) → IsAccepted tree → (one other : Block) → In one (models tree) → In other (models tree) → (names others : List Spelling)
    → list_all (names_column tree one) names ≡ true → list_all (names_column tree other) others ≡ true → length names ≡ length others → list_all have_same_type (zip (fields_named one names) (fields_named other others)) ≡ true
    → of_names (λ column. column.kind) tree one names ≡ of_names (λ column. column.kind) tree other others
same_kinds tree accepted one other in_one in_other [] [] own their counted types = refl
same_kinds tree accepted one other in_one in_other [] (their_name ∷ others) own their counted types = absurd (omega arith)
same_kinds tree accepted one other in_one in_other (name ∷ names) [] own their counted types = absurd (omega arith)
same_kinds tree accepted one other in_one in_other (name ∷ names) (their_name ∷ others) own their counted types =
    let own_parts = and_parts (names_column tree one name) (list_all (names_column tree one) names) own in
    let their_parts = and_parts (names_column tree other their_name) (list_all (names_column tree other) others) their in
    let mine = named tree accepted one in_one name own_parts.0 in
    let yours = named tree accepted other in_other their_name their_parts.0 in
    let whole : list_all have_same_type (zip (mine.field ∷ fields_named one names) (yours.field ∷ fields_named other others)) ≡ true =
    sym (ap (λ o. list_all have_same_type (zip (cons_option o (fields_named one names)) (fields_named other (their_name ∷ others)))) mine.is ∙ ap (λ o. list_all have_same_type (zip (mine.field ∷ fields_named one names) (cons_option o (fields_named other others)))) yours.is) ∙ types in
    let parts = and_parts (have_same_type (mine.field, yours.field)) (list_all have_same_type (zip (fields_named one names) (fields_named other others))) whole in
    let type : mine.field.type.text ≡ yours.field.type.text = (bytes_eq-Decides mine.field.type.text yours.field.type.text).0 parts.0 in
    let rest = same_kinds tree accepted one other in_one in_other names others own_parts.1 their_parts.1 (omega arith) parts.1 in
    let first : option_map (λ (c : Column). c.kind) (slice_get (columns_of tree one) (number_among (column_names tree one) name)) ≡ option_map (λ (c : Column). c.kind) (slice_get (columns_of tree other) (number_among (column_names tree other) their_name)) =
    ap (option_map (λ (c : Column). c.kind)) mine.column ∙ ap (λ t. Some (kind_of tree t)) type ∙ sym (ap (option_map (λ (c : Column). c.kind)) yours.column) in
    ap (λ k. k ∷ of_names (λ column. column.kind) tree one names) first ∙ ap (λ ks. option_map (λ (c : Column). c.kind) (slice_get (columns_of tree other) (number_among (column_names tree other) their_name)) ∷ ks) rest

-- ---- optional columns

pub all_optional : (tree : Tree) → IsAccepted tree → (model : Block) → In model (models tree) → (names : List Spelling) (is : Bool) → list_all (names_column tree model) names ≡ true → ((field : ModelField) → In field (fields_named model names) → is_optional field.mark ≡ is)
    → of_names (λ column. column.optional) tree model names ≡ map (λ name. Some is) names
unfolding In
all_optional tree accepted model is_in [] is own each = refl
all_optional tree accepted model is_in (name ∷ names) is own each =
    let parts = and_parts (names_column tree model name) (list_all (names_column tree model) names) own in
    let mine = named tree accepted model is_in name parts.0 in
    let whole : fields_named model (name ∷ names) ≡ mine.field ∷ fields_named model names = ap (λ o. cons_option o (fields_named model names)) mine.is in
    let here : is_optional mine.field.mark ≡ is = each mine.field (subst (In mine.field) (sym whole) (inl refl)) in
    let rest = all_optional tree accepted model is_in names is parts.1 (λ field among. each field (subst (In field) (sym whole) (inr among))) in
    ap (λ o. o ∷ of_names (λ column. column.optional) tree model names) (ap (option_map (λ (c : Column). c.optional)) mine.column ∙ ap Some here) ∙ ap (λ os. Some is ∷ os) rest
