-- The columns of an id are required, and stored names differ.
use Rattle.std.proofs.Common.{◌≡◌, ◌⊎◌, inl, inr, ℕ, ◌≤◌, Bool, true, false, cond, ◌&&◌, ◌||◌, filter, List, [], ◌∷◌, ◌++◌, map, length, Option, Some, None, refl, sym, ap, subst, ◌∙◌, arith, codes}
use Rattle.std.specs.Prelude.{bytes_eq, slice_get, IfSome}
use Rattle.std.specs.List.{list_any, flat_map}
use Rattle.std.specs.Str.{str_to_ascii_lowercase}
use Rattle.std.proofs.lemmas.Slice.Eq.{bytes_eq-Decides}
use Rattle.psl_text.specs.declared.tree.Block.{Block}
use Rattle.psl_text.specs.declared.tree.Entry.{Entry}
use Rattle.psl_text.specs.declared.tree.Entry.TheVariants as entry
use Rattle.psl_text.specs.declared.tree.Name.{Name}
use Rattle.psl_text.specs.declared.tree.Tree.{Tree}
use Rattle.psl_rules.specs.Accepted.{IsAccepted}
use Rattle.psl_rules.specs.Parts.{Spelling, ModelField, models, fields, field_of, block_attributes, block_attribute_of, is_called, has_attribute, given_names, given_text, failing, place, same_name}
use Rattle.qe_text.specs.Lists.{is_among, repeats, repeats_behind, In}
use Rattle.psl_rules.specs.Names.{is_column, is_optional}
use Rattle.psl_rules.specs.Attributes.{names_column}
use Rattle.psl_rules.specs.Keys.{one_id, one_id_of, ids_of, broken_ids, optional_ids, named_id, is_id_field, is_optional_id, key_over}
use Rattle.psl_rules.specs.Relations.{Pair}
use Rattle.psl_rules.specs.Stored.{stored_model, stored_link, linked, stored_tables, stored_columns, lowered, alike, wrongly_stored, stored_names_are_distinct}
use Rattle.psl_rules.specs.declared.key.Key as ruled
use Rattle.qe_base.specs.declared.schema.Column.{Column}
use Rattle.qe_base.specs.declared.schema.Table.{Table}
use Rattle.psl_sound.specs.SchemaOf.{number_among, column_of, columns_of, column_names, column_numbers, keys_called_in, keys_called, key_of, table_of, link_table, schema_of}
use Rattle.psl_sound.proofs.Columns.{column_named}
use Rattle.psl_sound.proofs.Keys.{in_filter_map, keys_name_columns}
use Rattle.psl_sound.proofs.Limits.{each_empty}
use Rattle.qe_schema.proofs.Members.{From, from_map, in_either, from_flat_map, from_filter, passes, any_of, in_filter}
use Rattle.psl_sound.proofs.Unbroken.{unbroken, none_left}
use Rattle.qe_schema.specs.Tables.{first_columns}
use Rattle.qe_schema.specs.Keys.{HasRequiredId, HaveRequiredIds}
use Rattle.qe_schema.specs.Names.{NamesDiffer}
use Rattle.psl_sound.proofs.Identity.{id_there}
use Rattle.qe_text.specs.Names.{is_stored_name}
use Rattle.qe_schema.proofs.Tests.{or_right}
use Rattle.psl_sound.proofs.Unique.{first_apart}
use Rattle.psl_sound.proofs.Named.{nothing_of, unique_field}
use Rattle.psl_sound.proofs.Rules.{one_id_is_in, stored_names_are_distinct_is_in}

-- ---- no field of the id is optional

nothing_in : {A : Type 0} (x : A) → In x [] → ⊥
unfolding In
nothing_in x is_in = is_in

none_passes : {A : Type 0} (p : A → Bool) (xs : List A) → filter p xs ≡ [] → (x : A) → In x xs → p x ≡ false
none_passes p xs is x is_in = by_test (p x) refl
  where
    by_test : (b : Bool) → p x ≡ b → p x ≡ false
    by_test true one = absurd (nothing_in x (subst (λ l. In x l) is (in_filter p xs x is_in one)))
    by_test false one = one

required : (tree : Tree) → IsAccepted tree → (model : Block) → In model (models tree) → (field : ModelField) → In field (fields model) → is_id_field (named_id model) field ≡ true → is_optional field.mark ≡ false
required tree accepted model is_in field among id =
    let parts = none_left (one_id_of model (ids_of model)) (optional_ids (named_id model) (fields model)) (each_empty broken_ids (models tree) (unbroken tree accepted one_id one_id_is_in) model is_in) in
    let none = nothing_of (λ (field : ModelField). field.name.at) (filter (is_optional_id (named_id model)) (fields model)) parts.1 in
    sym (ap (λ b. b && is_optional field.mark) id) ∙ none_passes (is_optional_id (named_id model)) (fields model) none field among

-- ---- which fields a key of `@id` names

pub in_flat_map : {A B : Type 0} (f : A → List B) (xs : List A) (x : A) (y : B) → In x xs → In y (f x) → In y (flat_map f xs)
unfolding In
in_flat_map f [] x y is_in part = absurd is_in
in_flat_map f (one ∷ xs) x y (inl same) part = front (f one) (flat_map f xs) (subst (λ z. In y (f z)) same part)
  where
    front : (ys zs : List _) → In y ys → In y (ys ++ zs)
    front [] zs none = absurd none
    front (z ∷ ys) zs (inl here) = inl here
    front (z ∷ ys) zs (inr behind) = inr (front ys zs behind)
in_flat_map f (one ∷ xs) x y (inr is_in) part = back (f one) (flat_map f xs) (in_flat_map f xs x y is_in part)
  where
    back : (ys zs : List _) → In y zs → In y (ys ++ zs)
    back [] zs here = here
    back (z ∷ ys) zs here = inr (back ys zs here)

-- what a key names are columns of the id
IsOfId : (tree : Tree) (model : Block) → ruled.Key → Type 0
IsOfId tree model key = (name : Spelling) → In name key.fields → (field : ModelField) → In field (fields model) → bytes_eq name field.name.text ≡ true → is_id_field (named_id model) field ≡ true

alone : {A : Type 0} (x y : A) → In x (y ∷ []) → x ≡ y
unfolding In
alone x y (inl same) = same
alone x y (inr is_in) = absurd is_in

of_entry : (tree : Tree) → IsAccepted tree → (model : Block) → In model (models tree) → (one : Entry) → In one model.entries → (key : ruled.Key) → In key (keys_called_in (codes "id") one) → IsOfId tree model key
unfolding In IsOfId
of_entry tree accepted model is_model (entry.Setting called value) is_in key of = absurd of
of_entry tree accepted model is_model (entry.Member called attributes docs) is_in key of = absurd of
of_entry tree accepted model is_model (entry.Field called type mark attributes docs) is_in key of =
    let made = from_map (λ attribute. key_over attribute (called.text ∷ []) None) (filter (is_called (codes "id")) attributes) key of in
    let among = from_filter (is_called (codes "id")) attributes made.item made.member in
    let own : ModelField = record { name = called; type = type; mark = mark; attributes = attributes } in
    let there = in_filter_map field_of model.entries (entry.Field called type mark attributes docs) own is_in refl in
    λ name named field in_fields same.
    let text : name ≡ called.text = alone name called.text (subst (λ (k : ruled.Key). In name k.fields) made.gives named) in
    let one : field ≡ own = unique_field tree accepted model is_model field own in_fields there ((bytes_eq-Decides field.name.text called.text).1 (sym ((bytes_eq-Decides name field.name.text).0 same) ∙ text)) in
    subst (λ (f : ModelField). is_id_field (named_id model) f ≡ true) (sym one) (ap (λ b. b || is_among called.text (named_id model)) (any_of (is_called (codes "id")) attributes made.item among.0 among.1))
of_entry tree accepted model is_model (entry.Block attribute docs) is_in key of =
    let made = from_map (λ attribute. key_over attribute (given_names (codes "fields") true attribute) (given_text (codes "name") false attribute)) (filter (is_called (codes "id")) (attribute ∷ [])) key of in
    let among = from_filter (is_called (codes "id")) (attribute ∷ []) made.item made.member in
    let same_attribute : made.item ≡ attribute = alone made.item attribute among.0 in
    let there = in_filter_map block_attribute_of model.entries (entry.Block attribute docs) attribute is_in refl in
    let listed = in_filter (is_called (codes "id")) (block_attributes model) made.item (subst (λ a. In a (block_attributes model)) (sym same_attribute) there) among.1 in
    λ name named field in_fields same.
    let given = subst (λ (k : ruled.Key). In name k.fields) made.gives named in
    let of_id = in_flat_map (given_names (codes "fields") true) (filter (is_called (codes "id")) (block_attributes model)) made.item name listed given in
    or_right (has_attribute (codes "id") field.attributes) (is_among field.name.text (named_id model))
    (any_of (bytes_eq field.name.text) (named_id model) name of_id ((bytes_eq-Decides field.name.text name).1 (sym ((bytes_eq-Decides name field.name.text).0 same))))

of_id : (tree : Tree) → IsAccepted tree → (model : Block) → In model (models tree) → (key : ruled.Key) → In key (keys_called (codes "id") model) → IsOfId tree model key
of_id tree accepted model is_in key among =
    let each = from_flat_map (keys_called_in (codes "id")) model.entries key among in
    of_entry tree accepted model is_in each.item each.member key each.part

-- ---- tables

from_some : (o : Option Column) (f : ModelField) (tree : Tree) → o ≡ Some (column_of tree f) → is_optional f.mark ≡ false → IfSome o (λ (found : Column). found.optional ≡ false)
from_some o f tree is required = subst (λ p. IfSome p (λ (found : Column). found.optional ≡ false)) (sym is) required

key_required : (tree : Tree) → IsAccepted tree → (model : Block) → In model (models tree) → (key : ruled.Key) → In key (keys_called (codes "id") model) → (column : ℕ) → In column (column_numbers tree model key.fields) → IfSome (slice_get (columns_of tree model) column) (λ (found : Column). found.optional ≡ false)
unfolding IsOfId
key_required tree accepted model is_in key among column listed =
    let made = from_map (number_among (column_names tree model)) key.fields column listed in
    let names = keys_name_columns tree accepted model is_in (codes "id") (inl refl) key among in
    let found = column_named tree model made.item (passes (names_column tree model) key.fields made.item names.columns made.member) in
    let in_fields = from_filter (is_column tree) (fields model) found.field found.member in
    let id = of_id tree accepted model is_in key among made.item made.member found.field in_fields.0 found.called in
    from_some (slice_get (columns_of tree model) column) found.field tree (ap (slice_get (columns_of tree model)) made.gives ∙ found.at) (required tree accepted model is_in found.field in_fields.0 id)

first_required : (tree : Tree) → IsAccepted tree → (model : Block) → In model (models tree) → (ids uniques : List ruled.Key) → ((key : ruled.Key) → In key ids → In key (keys_called (codes "id") model)) → 1 ≤ length ids
    → (column : ℕ) → In column (first_columns (map (key_of tree model) (ids ++ uniques))) → IfSome (slice_get (columns_of tree model) column) (λ (found : Column). found.optional ≡ false)
unfolding In
first_required tree accepted model is_in [] uniques within some column listed = absurd (omega arith)
first_required tree accepted model is_in (key ∷ ids) uniques within some column listed = key_required tree accepted model is_in key (within key (inl refl)) column listed

of_model : (tree : Tree) → IsAccepted tree → (model : Block) → In model (models tree) → HasRequiredId (table_of tree model)
of_model tree accepted model is_in column listed = first_required tree accepted model is_in (keys_called (codes "id") model) (keys_called (codes "unique") model) (λ key is. is) (id_there tree accepted model is_in) column listed

of_link : (tree : Tree) (pair : Pair) → HasRequiredId (link_table tree pair)
unfolding In
of_link tree pair column (inl first) = subst (λ n. IfSome (slice_get (link_table tree pair).columns n) (λ (found : Column). found.optional ≡ false)) (sym first) refl
of_link tree pair column (inr (inl second)) = subst (λ n. IfSome (slice_get (link_table tree pair).columns n) (λ (found : Column). found.optional ≡ false)) (sym second) refl
of_link tree pair column (inr (inr none)) = absurd none

pub ids_in_tables : (tree : Tree) → IsAccepted tree → HaveRequiredIds (schema_of tree)
ids_in_tables tree accepted table is_in = by_kind (in_either (map (table_of tree) (models tree)) (map (link_table tree) (linked tree)) table is_in)
  where
    model_id : From (table_of tree) (models tree) table → HasRequiredId table
    model_id found = subst HasRequiredId (sym found.gives) (of_model tree accepted found.item found.member)

    link_id : From (link_table tree) (linked tree) table → HasRequiredId table
    link_id found = subst HasRequiredId (sym found.gives) (of_link tree found.item)

    by_kind : In table (map (table_of tree) (models tree)) ⊎ In table (map (link_table tree) (linked tree)) → HasRequiredId table
    by_kind (inl model) = model_id (from_map (table_of tree) (models tree) table model)
    by_kind (inr link) = link_id (from_map (link_table tree) (linked tree) table link)

-- ---- names

pub same_repeats : (before names : List Name) → repeats_behind same_name before names ≡ [] → repeats_behind bytes_eq (map (λ (name : Name). name.text) before) (map (λ (name : Name). name.text) names) ≡ []
same_repeats before [] is = refl
same_repeats before (name ∷ names) is =
    let parts = first_apart same_name before name names is in
    let none : list_any (bytes_eq name.text) (map (λ (one : Name). one.text) before) ≡ false = same_any name before ∙ parts.0 in
    let rest = same_repeats (before ++ name ∷ []) names parts.1 in
    ap (λ b. cond b (name.text ∷ repeats_behind bytes_eq (map (λ (one : Name). one.text) before ++ name.text ∷ []) (map (λ (one : Name). one.text) names)) (repeats_behind bytes_eq (map (λ (one : Name). one.text) before ++ name.text ∷ []) (map (λ (one : Name). one.text) names))) none
    ∙ ap (λ b. repeats_behind bytes_eq b (map (λ (one : Name). one.text) names)) (sym (with_last before name)) ∙ rest
  where
    same_any : (name : Name) (before : List Name) → list_any (bytes_eq name.text) (map (λ (one : Name). one.text) before) ≡ list_any (same_name name) before
    same_any name [] = refl
    same_any name (one ∷ before) = ap (λ b. bytes_eq name.text one.text || b) (same_any name before)

    with_last : (before : List Name) (name : Name) → map (λ (one : Name). one.text) (before ++ name ∷ []) ≡ map (λ (one : Name). one.text) before ++ name.text ∷ []
    with_last [] name = refl
    with_last (one ∷ before) name = ap (λ l. one.text ∷ l) (with_last before name)

pub names_differ_in : (tree : Tree) → IsAccepted tree → NamesDiffer (schema_of tree)
names_differ_in tree accepted = ap (repeats bytes_eq) (same_names (models tree) (linked tree)) ∙ same_repeats [] (map lowered (stored_tables tree)) none
  where
    none : alike (stored_tables tree) ≡ []
    none =
        let outer = none_left (wrongly_stored (stored_tables tree)) (flat_map (λ model. wrongly_stored (stored_columns tree model)) (models tree)) (unbroken tree accepted stored_names_are_distinct stored_names_are_distinct_is_in) in
        nothing_of place (alike (stored_tables tree)) (none_left (failing (λ name. is_stored_name name.text) place (stored_tables tree)) (map place (alike (stored_tables tree))) outer.0).1

    linked_names : (pairs : List Pair) → map (λ (table : Table). str_to_ascii_lowercase table.stored) (map (link_table tree) pairs) ≡ map (λ (name : Name). name.text) (map lowered (map stored_link pairs))
    linked_names [] = refl
    linked_names (pair ∷ pairs) = ap (λ l. str_to_ascii_lowercase (stored_link pair).text ∷ l) (linked_names pairs)

    same_names : (blocks : List Block) (pairs : List Pair) → map (λ (table : Table). str_to_ascii_lowercase table.stored) (map (table_of tree) blocks ++ map (link_table tree) pairs) ≡ map (λ (name : Name). name.text) (map lowered (map stored_model blocks ++ map stored_link pairs))
    same_names [] pairs = linked_names pairs
    same_names (block ∷ blocks) pairs = ap (λ l. str_to_ascii_lowercase (stored_model block).text ∷ l) (same_names blocks pairs)
