-- The keys of a model: each has columns, which are there, and there is one at least.
use Rattle.std.proofs.Common.{◌≡◌, ◌⊎◌, inl, inr, ◌≤◌, Bool, true, false, cond, ◌&&◌, ◌||◌, filter, List, [], ◌∷◌, length, Option, Some, None, refl, sym, ap, subst, ◌∙◌, arith, codes}
use Rattle.std.specs.Prelude.{bytes_eq}
use Rattle.std.specs.List.{list_all, filter_map, cons_option}
use Rattle.std.proofs.lemmas.Bool.{and_parts, leb-true}
use Rattle.std.proofs.lemmas.Slice.Eq.{bytes_eq-Decides}
use Rattle.psl_text.specs.declared.tree.Attribute.{Attribute}
use Rattle.psl_text.specs.declared.tree.Block.{Block}
use Rattle.psl_text.specs.declared.tree.Entry.{Entry}
use Rattle.psl_text.specs.declared.tree.Entry.TheVariants as entry
use Rattle.psl_text.specs.declared.tree.Tree.{Tree}
use Rattle.psl_rules.specs.Accepted.{IsAccepted}
use Rattle.psl_rules.specs.Parts.{failing, Spelling, ModelField, models, fields, field_of, block_attributes, block_attribute_of, is_called, given_names, given_text}
use Rattle.psl_rules.specs.Names.{is_column, is_value_type, names_model}
use Rattle.psl_rules.specs.Attributes.{attribute_place, attributes_stand_rightly, wrong_attributes, wrong_on_fields, stands_rightly, is_over_columns, name_columns, names_column}
use Rattle.psl_rules.specs.Keys.{key_over}
use Rattle.qe_text.specs.Lists.{In}
use Rattle.psl_rules.specs.declared.key.Key as ruled
use Rattle.psl_sound.specs.SchemaOf.{keys_called_in, keys_called}
use Rattle.psl_sound.proofs.Limits.{each_empty}
use Rattle.qe_schema.proofs.Members.{from_map, from_flat_map, from_filter, passes, any_of}
use Rattle.psl_sound.proofs.Unbroken.{unbroken, none_left, all_pass}
use Rattle.psl_sound.proofs.Rules.{attributes_stand_rightly_is_in}

-- ---- what the rule on where attributes stand says of a model

-- the attributes of a model's fields, and its own
record Standing (tree : Tree) (model : Block) : Type 0 where
  on_fields : wrong_on_fields tree (fields model) ≡ []
  on_model : list_all (is_over_columns tree model) (block_attributes model) ≡ true

standing : (tree : Tree) → IsAccepted tree → (model : Block) → In model (models tree) → Standing tree model
standing tree accepted model is_in =
    let parts = none_left (wrong_on_fields tree (fields model)) (failing (is_over_columns tree model) attribute_place (block_attributes model)) (each_empty (wrong_attributes tree) (models tree) (unbroken tree accepted attributes_stand_rightly attributes_stand_rightly_is_in) model is_in) in
    record { on_fields = parts.0; on_model = all_pass (is_over_columns tree model) attribute_place (block_attributes model) parts.1 }

behind_option : {B : Type 0} (o : Option B) (ys : List B) (y : B) → In y ys → In y (cons_option o ys)
unfolding In
behind_option None ys y is_in = is_in
behind_option (Some first) ys y is_in = inr is_in

pub in_filter_map : {A B : Type 0} (f : A → Option B) (xs : List A) (x : A) (y : B) → In x xs → f x ≡ Some y → In y (filter_map f xs)
unfolding In
in_filter_map f [] x y is_in gives = absurd is_in
in_filter_map f (one ∷ xs) x y (inl same) gives = subst (λ o. In y (cons_option o (filter_map f xs))) (sym (sym (ap f same) ∙ gives)) (inl refl)
in_filter_map f (one ∷ xs) x y (inr is_in) gives = behind_option (f one) (filter_map f xs) y (in_filter_map f xs x y is_in gives)

-- ---- attributes of keys on fields

is_text : (name text : Spelling) → bytes_eq name text ≡ true → name ≡ text
is_text name text is = (bytes_eq-Decides name text).0 is

-- a field with `@id` or `@unique` is a column
key_on_column : (tree : Tree) (field : ModelField) (attribute : Attribute) → (is_called (codes "id") attribute ≡ true) ⊎ (is_called (codes "unique") attribute ≡ true) → stands_rightly tree field.type.text attribute ≡ true → is_column tree field ≡ true
key_on_column tree field attribute (inl id) right = stands attribute.name.text (is_text attribute.name.text (codes "id") id) right
  where
    rightly : Spelling → Bool
    rightly name = cond (bytes_eq name (codes "relation")) (names_model tree field.type.text) (cond (bytes_eq name (codes "updatedAt")) (bytes_eq field.type.text (codes "DateTime")) (is_value_type tree field.type.text))

    stands : (name : Spelling) → name ≡ codes "id" → rightly name ≡ true → is_column tree field ≡ true
    stands name is right = sym (ap rightly is) ∙ right
key_on_column tree field attribute (inr unique) right = stands attribute.name.text (is_text attribute.name.text (codes "unique") unique) right
  where
    rightly : Spelling → Bool
    rightly name = cond (bytes_eq name (codes "relation")) (names_model tree field.type.text) (cond (bytes_eq name (codes "updatedAt")) (bytes_eq field.type.text (codes "DateTime")) (is_value_type tree field.type.text))

    stands : (name : Spelling) → name ≡ codes "unique" → rightly name ≡ true → is_column tree field ≡ true
    stands name is right = sym (ap rightly is) ∙ right

abbrev pub IsKeyName : Spelling → Type 0
IsKeyName name = (name ≡ codes "id") ⊎ (name ≡ codes "unique")

-- the fields that a key names are columns, and it names one at least
pub record Names (tree : Tree) (model : Block) (key : ruled.Key) : Type 0 where
  pub some : 1 ≤ length key.fields
  pub columns : list_all (names_column tree model) key.fields ≡ true

as_attribute : (name : Spelling) → IsKeyName name → (attribute : Attribute) → is_called name attribute ≡ true → (is_called (codes "id") attribute ≡ true) ⊎ (is_called (codes "unique") attribute ≡ true)
as_attribute name (inl id) attribute is = inl (sym (ap (λ n. is_called n attribute) id) ∙ is)
as_attribute name (inr unique) attribute is = inr (sym (ap (λ n. is_called n attribute) unique) ∙ is)

on_field : (tree : Tree) (model : Block) → Standing tree model → (field : ModelField) → In field (fields model) → (attribute : Attribute) → In attribute field.attributes
    → (is_called (codes "id") attribute ≡ true) ⊎ (is_called (codes "unique") attribute ≡ true) → Names tree model (key_over attribute (field.name.text ∷ []) None)
on_field tree model stands field is_in attribute among is_key =
    let none = each_empty (λ field. failing (stands_rightly tree field.type.text) attribute_place field.attributes) (fields model) stands.on_fields field is_in in
    let right = passes (stands_rightly tree field.type.text) field.attributes attribute (all_pass (stands_rightly tree field.type.text) attribute_place field.attributes none) among in
    let column = key_on_column tree field attribute is_key right in
    let named : names_column tree model field.name.text ≡ true = any_of (λ other. bytes_eq field.name.text other.name.text && is_column tree other) (fields model) field is_in (both (bytes_eq field.name.text field.name.text) (is_column tree field) ((bytes_eq-Decides field.name.text field.name.text).1 refl) column) in
    record { some = omega arith; columns = ap (λ b. b && true) named }
  where
    both : (a b : Bool) → a ≡ true → b ≡ true → (a && b) ≡ true
    both a b one other = ap (λ c. c && b) one ∙ other

on_block : (tree : Tree) (model : Block) → Standing tree model → (attribute : Attribute) → In attribute (block_attributes model) → (given : Option Spelling)
    → (is_called (codes "id") attribute ≡ true) ⊎ (is_called (codes "unique") attribute ≡ true) → Names tree model (key_over attribute (given_names (codes "fields") true attribute) given)
on_block tree model stands attribute among given is_key =
    let over = passes (is_over_columns tree model) (block_attributes model) attribute stands.on_model among in
    let names = over_names attribute.name.text over (as_name is_key) in
    let parts = and_parts _ _ names in
    record { some = leb-true 1 (length (given_names (codes "fields") true attribute)) (and_parts _ _ parts.0).0; columns = parts.1 }
  where
    all : Bool
    all = name_columns tree model (given_names (codes "fields") true attribute)

    as_name : (is_called (codes "id") attribute ≡ true) ⊎ (is_called (codes "unique") attribute ≡ true) → IsKeyName attribute.name.text
    as_name (inl id) = inl (is_text attribute.name.text (codes "id") id)
    as_name (inr unique) = inr (is_text attribute.name.text (codes "unique") unique)

    over_names : (name : Spelling) → (bytes_eq name (codes "map") || name_columns tree model (given_names (codes "fields") true attribute)) ≡ true → IsKeyName name → name_columns tree model (given_names (codes "fields") true attribute) ≡ true
    over_names name is (inl id) = sym (ap (λ n. bytes_eq n (codes "map") || name_columns tree model (given_names (codes "fields") true attribute)) id) ∙ is
    over_names name is (inr unique) = sym (ap (λ n. bytes_eq n (codes "map") || name_columns tree model (given_names (codes "fields") true attribute)) unique) ∙ is

of_entry : (tree : Tree) (model : Block) → Standing tree model → (name : Spelling) → IsKeyName name → (one : Entry) → In one model.entries → (key : ruled.Key) → In key (keys_called_in name one) → Names tree model key
unfolding In
of_entry tree model stands name is_name (entry.Setting called value) is_in key of = absurd of
of_entry tree model stands name is_name (entry.Member called attributes docs) is_in key of = absurd of
of_entry tree model stands name is_name (entry.Field called type mark attributes docs) is_in key of =
    let made = from_map (λ attribute. key_over attribute (called.text ∷ []) None) (filter (is_called name) attributes) key of in
    let among = from_filter (is_called name) attributes made.item made.member in
    let field : ModelField = record { name = called; type = type; mark = mark; attributes = attributes } in
    subst (Names tree model) (sym made.gives) (on_field tree model stands field (in_filter_map field_of model.entries (entry.Field called type mark attributes docs) field is_in refl) made.item among.0 (as_attribute name is_name made.item among.1))
of_entry tree model stands name is_name (entry.Block attribute docs) is_in key of =
    let made = from_map (λ attribute. key_over attribute (given_names (codes "fields") true attribute) (given_text (codes "name") false attribute)) (filter (is_called name) (attribute ∷ [])) key of in
    let among = from_filter (is_called name) (attribute ∷ []) made.item made.member in
    let same : made.item ≡ attribute = only made.item attribute among.0 in
    let here = in_filter_map block_attribute_of model.entries (entry.Block attribute docs) attribute is_in refl in
    subst (Names tree model) (sym made.gives) (on_block tree model stands made.item (subst (λ a. In a (block_attributes model)) (sym same) here) (given_text (codes "name") false made.item) (as_attribute name is_name made.item among.1))
  where
    only : (x y : Attribute) → In x (y ∷ []) → x ≡ y
    only x y (inl same) = same
    only x y (inr is_in) = absurd is_in

pub keys_name_columns : (tree : Tree) → IsAccepted tree → (model : Block) → In model (models tree) → (name : Spelling) → IsKeyName name → (key : ruled.Key) → In key (keys_called name model) → Names tree model key
keys_name_columns tree accepted model is_in name is_name key among =
    let each = from_flat_map (keys_called_in name) model.entries key among in
    of_entry tree model (standing tree accepted model is_in) name is_name each.item each.member key each.part
