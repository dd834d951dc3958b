-- What a relation refers to is a key, whose columns are required.
use Rattle.std.proofs.Common.{◌≡◌, ◌⊎◌, inl, inr, ℕ, Bool, true, false, not, filter, List, [], ◌∷◌, ◌++◌, map, Some, None, unwrap_or, refl, sym, ap, subst, ◌∙◌, true≢false, codes}
use Rattle.std.specs.Prelude.{bytes_eq}
use Rattle.std.specs.List.{list_all}
use Rattle.std.proofs.lemmas.Bool.{and_parts}
use Rattle.std.proofs.lemmas.Slice.Eq.{bytes_eq-Decides}
use Rattle.psl_text.specs.declared.tree.Attribute.{Attribute}
use Rattle.psl_text.specs.declared.tree.Block.{Block}
use Rattle.psl_text.specs.declared.tree.Entry.{Entry}
use Rattle.psl_text.specs.declared.tree.Entry.TheVariants as entry
use Rattle.psl_text.specs.declared.tree.Tree.{Tree}
use Rattle.psl_rules.specs.Accepted.{IsAccepted}
use Rattle.psl_rules.specs.Parts.{Spelling, ModelField, models, is_called, given_names, given_text}
use Rattle.psl_rules.specs.Names.{is_optional}
use Rattle.psl_rules.specs.Keys.{is_key, key_over, keys_in, keys_of, is_within, are_same_set, is_key_of}
use Rattle.psl_rules.specs.declared.key.Key as ruled
use Rattle.psl_rules.specs.Relations.{End, ends, end_place, leads_to, partners_among, other_names}
use Rattle.psl_rules.specs.Foreign.{holders, fields_named, is_required, are_required_key, refers_to_key, references_are_keys}
use Rattle.qe_text.specs.Lists.{is_among, In}
use Rattle.qe_base.specs.declared.schema.Relation.{Relation}
use Rattle.qe_schema.specs.References.{optional_at, ReferredAreRequired, AreOfKey, ReferToKeys}
use Rattle.qe_schema.specs.Tables.{no_table, table_at}
use Rattle.qe_schema.proofs.Members.{From, from_map, FromEach, from_flat_map, from_filter, passes, in_filter, in_map}
use Rattle.qe_schema.proofs.Tests.{or_parts}
use Rattle.psl_sound.specs.SchemaOf.{number_among, column_names, column_numbers, keys_called_in, keys_called, key_of, table_keys, table_of, relation_between, schema_of}
use Rattle.psl_sound.proofs.Agreeing.{all_optional}
use Rattle.psl_sound.proofs.Chains.{SomeOf, some_of}
use Rattle.psl_sound.proofs.Follows.{between}
use Rattle.psl_sound.proofs.Ids.{in_flat_map}
use Rattle.psl_sound.proofs.Named.{table_at_number}
use Rattle.psl_sound.proofs.Relations.{map_twice, by_names, Ends, ends_of_relation, Columns, columns_of_relation}
use Rattle.psl_sound.proofs.Unbroken.{unbroken, all_pass}
use Rattle.psl_sound.proofs.Rules.{references_are_keys_is_in}

-- what a holder refers to is a key of required fields
to_key : (tree : Tree) → IsAccepted tree → (holder target : End) → In holder (holders tree) → Ends tree holder target → are_required_key target.model (other_names holder) ≡ true
to_key tree accepted holder target holds both = passes (λ model. are_required_key model (other_names holder)) (filter (leads_to holder) (models tree)) target.model kept (in_filter (leads_to holder) (models tree) target.model both.other both.leads)
  where
    kept : refers_to_key (models tree) holder ≡ true
    kept = passes (refers_to_key (models tree)) (holders tree) holder (all_pass (refers_to_key (models tree)) end_place (holders tree) (unbroken tree accepted references_are_keys references_are_keys_is_in)) holds

-- ---- what is referred to is required

not_true : (b : Bool) → not b ≡ true → b ≡ false
not_true true is = absurd (true≢false (sym is))
not_true false is = refl

referred_required : (tree : Tree) → IsAccepted tree → (holder target : End) → In holder (holders tree) → In target (partners_among (ends tree) holder)
    → optional_at (schema_of tree) (relation_between tree holder target).parent.0 (relation_between tree holder target).parent_columns ≡ map (λ column. Some false) (relation_between tree holder target).parent_columns
referred_required tree accepted holder target holds pairs =
    by_names (λ column. column.optional) tree accepted target.model both.other (other_names holder) ∙ all_optional tree accepted target.model both.other (other_names holder) false columns.other each
    ∙ sym (map_twice (λ column. Some false) (number_among (column_names tree target.model)) (other_names holder))
  where
    both : Ends tree holder target
    both = ends_of_relation tree holder target holds pairs

    columns : Columns tree holder target
    columns = columns_of_relation tree accepted holder target holds both

    each : (field : ModelField) → In field (fields_named target.model (other_names holder)) → is_optional field.mark ≡ false
    each field among = not_true (is_optional field.mark) (passes is_required (fields_named target.model (other_names holder)) field (and_parts (is_key_of target.model (other_names holder)) (list_all is_required (fields_named target.model (other_names holder))) (to_key tree accepted holder target holds both)).1 among)

pub required_in : (tree : Tree) → IsAccepted tree → ReferredAreRequired (schema_of tree)
required_in tree accepted relation is_in =
    let all = between tree relation is_in in
    subst (λ (r : Relation). optional_at (schema_of tree) r.parent.0 r.parent_columns ≡ map (λ column. Some false) r.parent_columns) (sym all.gives) (referred_required tree accepted all.holder all.target all.holds all.pairs)

-- ---- what is referred to is a key

in_front : {A : Type 0} (xs ys : List A) (x : A) → In x xs → In x (xs ++ ys)
unfolding In
in_front [] ys x is_in = absurd is_in
in_front (one ∷ xs) ys x (inl same) = inl same
in_front (one ∷ xs) ys x (inr is_in) = inr (in_front xs ys x is_in)

in_back : {A : Type 0} (xs ys : List A) (x : A) → In x ys → In x (xs ++ ys)
unfolding In
in_back [] ys x is_in = is_in
in_back (one ∷ xs) ys x is_in = inr (in_back xs ys x is_in)

-- a key by one of the attributes is an id or a unique
by_attribute : (make : Attribute → ruled.Key) (attributes : List Attribute) (key : ruled.Key) → In key (map make (filter is_key attributes))
    → In key (map make (filter (is_called (codes "id")) attributes)) ⊎ In key (map make (filter (is_called (codes "unique")) attributes))
by_attribute make attributes key is_in = by_name (or_parts (is_called (codes "id") made.item) (is_called (codes "unique") made.item) found.1)
  where
    made : From make (filter is_key attributes) key
    made = from_map make (filter is_key attributes) key is_in

    found : In made.item attributes × (is_key made.item ≡ true)
    found = from_filter is_key attributes made.item made.member

    among : (name : Spelling) → is_called name made.item ≡ true → In key (map make (filter (is_called name) attributes))
    among name called = subst (λ k. In k (map make (filter (is_called name) attributes))) (sym made.gives) (in_map make (filter (is_called name) attributes) made.item (in_filter (is_called name) attributes made.item found.0 called))

    by_name : (is_called (codes "id") made.item ≡ true) ⊎ (is_called (codes "unique") made.item ≡ true) → In key (map make (filter (is_called (codes "id")) attributes)) ⊎ In key (map make (filter (is_called (codes "unique")) attributes))
    by_name (inl id) = inl (among (codes "id") id)
    by_name (inr unique) = inr (among (codes "unique") unique)

of_entry : (one : Entry) (key : ruled.Key) → In key (keys_in one) → In key (keys_called_in (codes "id") one) ⊎ In key (keys_called_in (codes "unique") one)
unfolding In
of_entry (entry.Setting called value) key is_in = absurd is_in
of_entry (entry.Member called attributes docs) key is_in = absurd is_in
of_entry (entry.Field called type mark attributes docs) key is_in = by_attribute (λ attribute. key_over attribute (called.text ∷ []) None) attributes key is_in
of_entry (entry.Block attribute docs) key is_in = by_attribute (λ attribute. key_over attribute (given_names (codes "fields") true attribute) (given_text (codes "name") false attribute)) (attribute ∷ []) key is_in

of_model : (model : Block) (key : ruled.Key) → In key (keys_of model) → In key (keys_called (codes "id") model ++ keys_called (codes "unique") model)
of_model model key is_in = by_name (of_entry each.item key each.part)
  where
    each : FromEach keys_in model.entries key
    each = from_flat_map keys_in model.entries key is_in

    by_name : In key (keys_called_in (codes "id") each.item) ⊎ In key (keys_called_in (codes "unique") each.item) → In key (keys_called (codes "id") model ++ keys_called (codes "unique") model)
    by_name (inl id) = in_front (keys_called (codes "id") model) (keys_called (codes "unique") model) key (in_flat_map (keys_called_in (codes "id")) model.entries each.item key each.member id)
    by_name (inr unique) = in_back (keys_called (codes "id") model) (keys_called (codes "unique") model) key (in_flat_map (keys_called_in (codes "unique")) model.entries each.item key each.member unique)

-- names within others have numbers within theirs
numbers_within : (tree : Tree) (model : Block) (names others : List Spelling) → is_within names others ≡ true → (column : ℕ) → In column (column_numbers tree model names) → In column (column_numbers tree model others)
numbers_within tree model names others within column is_in =
    let made = from_map (number_among (column_names tree model)) names column is_in in
    let other = some_of (bytes_eq made.item) others (passes (λ name. is_among name others) names made.item within made.member) in
    let same : made.item ≡ other.item = (bytes_eq-Decides made.item other.item).0 other.passes_it in
    subst (λ n. In n (column_numbers tree model others)) (sym (made.gives ∙ ap (number_among (column_names tree model)) same)) (in_map (number_among (column_names tree model)) others other.item other.member)

key_between : (tree : Tree) → IsAccepted tree → (holder target : End) → In holder (holders tree) → In target (partners_among (ends tree) holder)
    → AreOfKey (table_at (schema_of tree) (relation_between tree holder target).parent.0) (relation_between tree holder target).parent_columns
key_between tree accepted holder target holds pairs = subst (λ t. AreOfKey t (column_numbers tree target.model (other_names holder))) (sym table) (key_of tree target.model found.item, there, λ column. (numbers_within tree target.model (other_names holder) found.item.fields sets.0 column, numbers_within tree target.model found.item.fields (other_names holder) sets.1 column))
  where
    both : Ends tree holder target
    both = ends_of_relation tree holder target holds pairs

    table : table_at (schema_of tree) (relation_between tree holder target).parent.0 ≡ table_of tree target.model
    table = ap (λ o. unwrap_or o no_table) (table_at_number tree accepted target.model both.other)

    found : SomeOf (λ key. are_same_set (other_names holder) key.fields) (keys_of target.model)
    found = some_of (λ (key : ruled.Key). are_same_set (other_names holder) key.fields) (keys_of target.model) (and_parts (is_key_of target.model (other_names holder)) (list_all is_required (fields_named target.model (other_names holder))) (to_key tree accepted holder target holds both)).0

    sets : (is_within (other_names holder) found.item.fields ≡ true) × (is_within found.item.fields (other_names holder) ≡ true)
    sets = and_parts (is_within (other_names holder) found.item.fields) (is_within found.item.fields (other_names holder)) found.passes_it

    there : In (key_of tree target.model found.item) (table_keys tree target.model)
    there = in_map (key_of tree target.model) (keys_called (codes "id") target.model ++ keys_called (codes "unique") target.model) found.item (of_model target.model found.item found.member)

pub keys_behind : (tree : Tree) → IsAccepted tree → ReferToKeys (schema_of tree)
keys_behind tree accepted relation is_in =
    let all = between tree relation is_in in
    subst (λ (r : Relation). AreOfKey (table_at (schema_of tree) r.parent.0) r.parent_columns) (sym all.gives) (key_between tree accepted all.holder all.target all.holds all.pairs)
