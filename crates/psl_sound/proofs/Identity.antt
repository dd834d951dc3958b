-- The keys of a table: an id, and columns that are there.
use Rattle.std.proofs.Common.{◌≡◌, ◌⊎◌, inl, inr, ℕ, ◌+◌, ◌<◌, ◌≤◌, filter, List, [], ◌∷◌, ◌++◌, map, length, refl, sym, ap, subst, ◌∙◌, arith, codes}
use Rattle.std.specs.List.{flat_map}
use Rattle.std.proofs.Math.ListN.{length-append}
use Rattle.std.proofs.lemmas.List.{length-map}
use Rattle.psl_text.specs.declared.tree.Attribute.{Attribute}
use Rattle.psl_text.specs.declared.tree.Block.{Block}
use Rattle.psl_text.specs.declared.tree.Entry.{Entry}
use Rattle.psl_text.specs.declared.tree.Entry.TheVariants as entry
use Rattle.psl_text.specs.declared.tree.Tree.{Tree}
use Rattle.psl_rules.specs.Accepted.{IsAccepted}
use Rattle.psl_rules.specs.Parts.{Places, models, is_called, fields}
use Rattle.psl_rules.specs.Attributes.{names_column}
use Rattle.psl_rules.specs.Keys.{one_id, one_id_of, ids_of, ids_in, broken_ids, optional_ids, named_id}
use Rattle.psl_rules.specs.Relations.{Pair}
use Rattle.psl_rules.specs.Stored.{linked}
use Rattle.qe_text.specs.Lists.{In}
use Rattle.psl_rules.specs.declared.key.Key as ruled
use Rattle.qe_base.specs.declared.schema.Key.{Key}
use Rattle.qe_schema.specs.Keys.{KeyStands, HasKeys, HaveKeys}
use Rattle.psl_sound.specs.SchemaOf.{number_among, columns_of, column_names, column_numbers, keys_called_in, keys_called, key_of, table_keys, table_of, link_table, schema_of}
use Rattle.psl_sound.proofs.Columns.{column_named}
use Rattle.psl_sound.proofs.Keys.{Names, keys_name_columns}
use Rattle.psl_sound.proofs.Limits.{each_empty}
use Rattle.qe_schema.proofs.Members.{From, from_map, in_either, passes}
use Rattle.psl_sound.proofs.Unbroken.{unbroken, none_left}
use Rattle.psl_sound.proofs.Rules.{one_id_is_in}

-- ---- there is an id

-- as many keys are made by `@id` as it stands
pub same_counts : (entries : List Entry) → length (flat_map ids_in entries) ≡ length (flat_map (keys_called_in (codes "id")) entries)
same_counts [] = refl
same_counts (one ∷ entries) =
    let front : length (ids_in one) ≡ length (keys_called_in (codes "id") one) = in_entry one in
    let behind : length (flat_map ids_in entries) ≡ length (flat_map (keys_called_in (codes "id")) entries) = same_counts entries in
    let ids : length (ids_in one ++ flat_map ids_in entries) ≡ length (ids_in one) + length (flat_map ids_in entries) = length-append (ids_in one) (flat_map ids_in entries) in
    let keys : length (keys_called_in (codes "id") one ++ flat_map (keys_called_in (codes "id")) entries) ≡ length (keys_called_in (codes "id") one) + length (flat_map (keys_called_in (codes "id")) entries) = length-append (keys_called_in (codes "id") one) (flat_map (keys_called_in (codes "id")) entries) in
    omega arith
  where
    both : {A B : Type 0} (f : Attribute → A) (g : Attribute → B) (attributes : List Attribute) → length (map f attributes) ≡ length (map g attributes)
    both f g attributes = length-map attributes f ∙ sym (length-map attributes g)

    in_entry : (one : Entry) → length (ids_in one) ≡ length (keys_called_in (codes "id") one)
    in_entry (entry.Setting called value) = refl
    in_entry (entry.Member called attributes docs) = refl
    in_entry (entry.Field called type mark attributes docs) = both (λ attribute. attribute.name.at) _ (filter (is_called (codes "id")) attributes)
    in_entry (entry.Block attribute docs) = both (λ attribute. attribute.name.at) _ (filter (is_called (codes "id")) (attribute ∷ []))

not_nothing : (model : Block) (places : Places) → one_id_of model places ≡ [] → 1 ≤ length places
not_nothing model [] is = let counted : length (one_id_of model []) ≡ 0 = ap length is in absurd (omega arith)
not_nothing model (at ∷ places) is = omega arith

pub id_there : (tree : Tree) → IsAccepted tree → (model : Block) → In model (models tree) → 1 ≤ length (keys_called (codes "id") model)
id_there tree accepted model is_in =
    let none = none_left (one_id_of model (ids_of model)) (optional_ids (named_id model) (fields model)) (each_empty broken_ids (models tree) (unbroken tree accepted one_id one_id_is_in) model is_in) in
    let some : 1 ≤ length (ids_of model) = not_nothing model (ids_of model) none.0 in
    let same : length (ids_of model) ≡ length (keys_called (codes "id") model) = same_counts model.entries in
    omega arith

-- ---- keys of a model

stands : (tree : Tree) (model : Block) (key : ruled.Key) → Names tree model key → KeyStands (table_of tree model) (key_of tree model key)
stands tree model key names =
    let counted : length (column_numbers tree model key.fields) ≡ length key.fields = length-map key.fields (number_among (column_names tree model)) in
    let some : 1 ≤ length key.fields = names.some in
    record { some = omega arith; there = λ column is_in. within column (from_map (number_among (column_names tree model)) key.fields column is_in) }
  where
    within : (column : ℕ) → From (number_among (column_names tree model)) key.fields column → column < length (columns_of tree model)
    within column found = subst (λ n. n < length (columns_of tree model)) (sym found.gives) (column_named tree model found.item (passes (names_column tree model) key.fields found.item names.columns found.member)).within

of_model : (tree : Tree) → IsAccepted tree → (model : Block) → In model (models tree) → HasKeys (table_of tree model)
of_model tree accepted model is_in =
    let both : length (keys_called (codes "id") model ++ keys_called (codes "unique") model) ≡ length (keys_called (codes "id") model) + length (keys_called (codes "unique") model) = length-append (keys_called (codes "id") model) (keys_called (codes "unique") model) in
    let counted : length (table_keys tree model) ≡ length (keys_called (codes "id") model ++ keys_called (codes "unique") model) = length-map (keys_called (codes "id") model ++ keys_called (codes "unique") model) (key_of tree model) in
    let some : 1 ≤ length (keys_called (codes "id") model) = id_there tree accepted model is_in in
    record { id = omega arith; stand = λ key among. each key (from_map (key_of tree model) (keys_called (codes "id") model ++ keys_called (codes "unique") model) key among) }
  where
    named : (key : ruled.Key) → In key (keys_called (codes "id") model) ⊎ In key (keys_called (codes "unique") model) → Names tree model key
    named key (inl id) = keys_name_columns tree accepted model is_in (codes "id") (inl refl) key id
    named key (inr unique) = keys_name_columns tree accepted model is_in (codes "unique") (inr refl) key unique

    each : (key : Key) → From (key_of tree model) (keys_called (codes "id") model ++ keys_called (codes "unique") model) key → KeyStands (table_of tree model) key
    each key made = subst (KeyStands (table_of tree model)) (sym made.gives) (stands tree model made.item (named made.item (in_either (keys_called (codes "id") model) (keys_called (codes "unique") model) made.item made.member)))

-- ---- keys of a link table

lone : {A : Type 0} (x y : A) → In x (y ∷ []) → x ≡ y
unfolding In
lone x y (inl same) = same
lone x y (inr is_in) = absurd is_in

two : (column : ℕ) → In column (0 ∷ 1 ∷ []) → column < 2
unfolding In
two column (inl first) = omega arith
two column (inr (inl second)) = omega arith
two column (inr (inr is_in)) = absurd is_in

of_link : (tree : Tree) (pair : Pair) → HasKeys (link_table tree pair)
of_link tree pair = record { id = omega arith; stand = λ key is_in. subst (KeyStands (link_table tree pair)) (sym (lone key (record { name = codes "A_B"; columns = 0 ∷ 1 ∷ [] }) is_in)) (record { some = omega arith; there = two }) }

-- ---- all tables

pub keys_in : (tree : Tree) → IsAccepted tree → HaveKeys (schema_of tree)
keys_in tree accepted table is_in = by_kind (in_either (map (table_of tree) (models tree)) (map (link_table tree) (linked tree)) table is_in)
  where
    model_keys : From (table_of tree) (models tree) table → HasKeys table
    model_keys found = subst HasKeys (sym found.gives) (of_model tree accepted found.item found.member)

    link_keys : From (link_table tree) (linked tree) table → HasKeys table
    link_keys found = subst HasKeys (sym found.gives) (of_link tree found.item)

    by_kind : In table (map (table_of tree) (models tree)) ⊎ In table (map (link_table tree) (linked tree)) → HasKeys table
    by_kind (inl model) = model_keys (from_map (table_of tree) (models tree) table model)
    by_kind (inr link) = link_keys (from_map (link_table tree) (linked tree) table link)
