-- A link table has two columns, of the kinds of the ids that they refer to.
use Rattle.std.proofs.Common.{◌≡◌, inl, inr, ℕ, zero, suc, ◌+◌, Bool, true, false, cond, not, ◌&&◌, ◌||◌, filter, List, [], ◌∷◌, ◌++◌, map, length, Option, Some, None, unwrap_or, option_map, refl, sym, ap, subst, ◌∙◌, arith, codes, append-nil, true≢false}
use Rattle.std.specs.Prelude.{slice_get, ◌==◌}
use Rattle.std.specs.List.{list_any, flat_map, filter_map, cons_option, enumerate_from}
use Rattle.std.proofs.lemmas.Bool.{and_parts, eqb-true}
use Rattle.std.proofs.lemmas.List.{length-map}
use Rattle.psl_text.specs.declared.tree.Attribute.{Attribute}
use Rattle.psl_text.specs.declared.tree.Block.{Block}
use Rattle.psl_text.specs.declared.tree.Entry.{Entry}
use Rattle.psl_text.specs.declared.tree.Entry.TheVariants as entry
use Rattle.psl_text.specs.declared.tree.Tree.{Tree}
use Rattle.psl_rules.specs.Accepted.{IsAccepted}
use Rattle.psl_rules.specs.Parts.{Places, Spelling, ModelField, models, fields, field_of, block_attribute_of, is_called, has_attribute, given_names, given_text, failing}
use Rattle.psl_rules.specs.Attributes.{names_column}
use Rattle.psl_rules.specs.Keys.{one_id, one_id_of, ids_of, broken_ids, optional_ids, named_id, id_names, key_over}
use Rattle.psl_rules.specs.Relations.{End, Pair, ends, pairs, pair_of, pairs_with, pair_place, partners_among, is_partner, is_linked, stands_before, end_place}
use Rattle.psl_rules.specs.Foreign.{holders, fields_named, is_once, has_single_id, links_single_ids, one_to_one_is_unique}
use Rattle.psl_rules.specs.Stored.{linked}
use Rattle.qe_text.specs.Lists.{In}
use Rattle.psl_rules.specs.declared.key.Key as ruled
use Rattle.qe_base.specs.declared.schema.Column.{Column}
use Rattle.qe_base.specs.declared.schema.Link.{Link}
use Rattle.qe_base.specs.declared.schema.Table.{Table}
use Rattle.qe_base.specs.Schemas.{link_of}
use Rattle.psl_sound.specs.SchemaOf.{model_number, kind_of, column_numbers, keys_called_in, keys_called, key_of, table_of, tables_of, link_table, link_number, link_between, links_of, side_a, side_b, is_side_a, id_kind, first_kind, side_column, schema_of}
use Rattle.psl_sound.proofs.Follows.{own_model}
use Rattle.psl_sound.proofs.Keys.{keys_name_columns}
use Rattle.psl_sound.proofs.Limits.{each_empty}
use Rattle.qe_schema.proofs.Members.{From, from_map, FromEach, from_flat_map, from_filter, passes, head_or, rest_of, in_place, found_passes, found_in}
use Rattle.psl_sound.proofs.Unbroken.{unbroken, none_left, all_pass}
use Rattle.qe_schema.specs.References.{kinds_at}
use Rattle.psl_sound.proofs.Agreeing.{named}
use Rattle.psl_sound.proofs.Identity.{same_counts}
use Rattle.psl_sound.proofs.Named.{table_at_number}
use Rattle.psl_sound.proofs.Relations.{by_names}
use Rattle.qe_schema.specs.Tables.{no_table, table_at, is_link_table, first_columns, id_columns}
use Rattle.qe_schema.specs.Links.{LinksAgree, HasTwoColumns, LinksHaveTables, LinkTablesHaveTwoColumns}
use Rattle.psl_sound.proofs.Rules.{one_id_is_in, one_to_one_is_unique_is_in}

-- ---- lists of one

record Alone {A : Type 0} (xs : List A) : Type 0 where
  item : A
  is : xs ≡ item ∷ []

alone : {A : Type 0} (xs : List A) → length xs ≡ 1 → Alone xs
alone [] counted = absurd (omega arith)
alone (x ∷ []) counted = record { item = x; is = refl }
alone (x ∷ y ∷ xs) counted = absurd (omega arith)

never_empty : {A : Type 0} (x : A) (xs : List A) → x ∷ xs ≡ [] → ⊥
never_empty x xs is = let counted : length (x ∷ xs) ≡ 0 = ap length is in absurd (omega arith)

back_empty : {A : Type 0} (xs ys : List A) → xs ++ ys ≡ [] → ys ≡ []
back_empty [] ys is = is
back_empty (x ∷ xs) ys is = absurd (never_empty x (xs ++ ys) is)

none_passes : {A : Type 0} (p : A → Bool) (xs : List A) → filter p xs ≡ [] → list_any p xs ≡ false
none_passes p [] is = refl
none_passes p (x ∷ xs) is = by_test (p x) refl is (none_passes p xs)
  where
    by_test : (b : Bool) → p x ≡ b → cond b (x ∷ filter p xs) (filter p xs) ≡ [] → (filter p xs ≡ [] → list_any p xs ≡ false) → list_any p (x ∷ xs) ≡ false
    by_test true one is rest = absurd (never_empty x (filter p xs) is)
    by_test false one is rest = ap (λ b. b || list_any p xs) one ∙ rest is

one_passes : {A : Type 0} (p : A → Bool) (xs : List A) (y : A) (ys : List A) → filter p xs ≡ y ∷ ys → list_any p xs ≡ true
one_passes p [] y ys is = absurd (never_empty y ys (sym is))
one_passes p (x ∷ xs) y ys is = by_test (p x) refl is (one_passes p xs y ys)
  where
    by_test : (b : Bool) → p x ≡ b → cond b (x ∷ filter p xs) (filter p xs) ≡ y ∷ ys → (filter p xs ≡ y ∷ ys → list_any p xs ≡ true) → list_any p (x ∷ xs) ≡ true
    by_test true one is rest = ap (λ b. b || list_any p xs) one
    by_test false one is rest = ap (λ b. b || list_any p xs) one ∙ rest is

-- ---- a key of `@id` names the fields of the id

abbrev keys_in : List Entry → List ruled.Key
keys_in entries = flat_map (keys_called_in (codes "id")) entries

abbrev has_id : ModelField → Bool
has_id field = has_attribute (codes "id") field.attributes

abbrev marked_in : List Entry → List Spelling
marked_in entries = map (λ (field : ModelField). field.name.text) (filter has_id (filter_map field_of entries))

abbrev named_in : List Entry → List Spelling
named_in entries = flat_map (given_names (codes "fields") true) (filter (is_called (codes "id")) (filter_map block_attribute_of entries))

-- no key, so no field of an id
none_named : (entries : List Entry) → keys_in entries ≡ [] → (marked_in entries ≡ []) × (named_in entries ≡ [])
none_named [] none = (refl, refl)
none_named (entry.Setting called value ∷ entries) none = none_named entries none
none_named (entry.Member called attributes docs ∷ entries) none = none_named entries none
none_named (entry.Field called type mark attributes docs ∷ entries) none = by_found (filter (is_called (codes "id")) attributes) refl none (none_named entries)
  where
    own : ModelField
    own = record { name = called; type = type; mark = mark; attributes = attributes }

    by_found : (found : List Attribute) → filter (is_called (codes "id")) attributes ≡ found → map (λ attribute. key_over attribute (called.text ∷ []) None) found ++ keys_in entries ≡ [] → (keys_in entries ≡ [] → (marked_in entries ≡ []) × (named_in entries ≡ []))
        → (map (λ (field : ModelField). field.name.text) (cond (list_any (is_called (codes "id")) attributes) (record { name = called; type = type; mark = mark; attributes = attributes } ∷ filter has_id (filter_map field_of entries)) (filter has_id (filter_map field_of entries))) ≡ []) × (named_in entries ≡ [])
    by_found [] is none rest =
        let behind = rest none in
        (ap (λ b. map (λ (field : ModelField). field.name.text) (cond b (record { name = called; type = type; mark = mark; attributes = attributes } ∷ filter has_id (filter_map field_of entries)) (filter has_id (filter_map field_of entries)))) (none_passes (is_called (codes "id")) attributes is) ∙ behind.0, behind.1)
    by_found (first ∷ others) is none rest = absurd (never_empty _ _ none)
none_named (entry.Block attribute docs ∷ entries) none = by_test (is_called (codes "id") attribute) none (none_named entries)
  where
    by_test : (b : Bool) → map (λ one. key_over one (given_names (codes "fields") true one) (given_text (codes "name") false one)) (cond b (attribute ∷ []) []) ++ keys_in entries ≡ [] → (keys_in entries ≡ [] → (marked_in entries ≡ []) × (named_in entries ≡ []))
        → (marked_in entries ≡ []) × (flat_map (given_names (codes "fields") true) (cond b (attribute ∷ filter (is_called (codes "id")) (filter_map block_attribute_of entries)) (filter (is_called (codes "id")) (filter_map block_attribute_of entries))) ≡ [])
    by_test true none rest = absurd (never_empty _ _ none)
    by_test false none rest = rest none

-- one key, whose fields are those of the id
one_named : (entries : List Entry) (key : ruled.Key) → keys_in entries ≡ key ∷ [] → key.fields ≡ marked_in entries ++ named_in entries
one_named [] key is = absurd (never_empty key [] (sym is))
one_named (entry.Setting called value ∷ entries) key is = one_named entries key is
one_named (entry.Member called attributes docs ∷ entries) key is = one_named entries key is
one_named (entry.Field called type mark attributes docs ∷ entries) key is = by_found (filter (is_called (codes "id")) attributes) refl is (one_named entries key)
  where
    marked : Bool → List Spelling
    marked b = map (λ (field : ModelField). field.name.text) (cond b (record { name = called; type = type; mark = mark; attributes = attributes } ∷ filter has_id (filter_map field_of entries)) (filter has_id (filter_map field_of entries)))

    by_found : (found : List Attribute) → filter (is_called (codes "id")) attributes ≡ found → map (λ attribute. key_over attribute (called.text ∷ []) None) found ++ keys_in entries ≡ key ∷ [] → (keys_in entries ≡ key ∷ [] → key.fields ≡ marked_in entries ++ named_in entries)
        → key.fields ≡ map (λ (field : ModelField). field.name.text) (cond (list_any (is_called (codes "id")) attributes) (record { name = called; type = type; mark = mark; attributes = attributes } ∷ filter has_id (filter_map field_of entries)) (filter has_id (filter_map field_of entries))) ++ named_in entries
    by_found [] found is rest =
        rest is ∙ ap (λ b. map (λ (field : ModelField). field.name.text) (cond b (record { name = called; type = type; mark = mark; attributes = attributes } ∷ filter has_id (filter_map field_of entries)) (filter has_id (filter_map field_of entries))) ++ named_in entries) (sym (none_passes (is_called (codes "id")) attributes found))
    by_found (first ∷ others) found is rest =
        let none = none_named entries (back_empty (map (λ attribute. key_over attribute (called.text ∷ []) None) others) (keys_in entries) (ap rest_of is)) in
        let same : key_over first (called.text ∷ []) None ≡ key = ap (head_or key) is in
        sym (ap (λ (k : ruled.Key). k.fields) same) ∙ sym (ap (λ l. called.text ∷ l ++ named_in entries) none.0 ∙ ap (λ l. called.text ∷ l) none.1)
        ∙ ap (λ b. map (λ (field : ModelField). field.name.text) (cond b (record { name = called; type = type; mark = mark; attributes = attributes } ∷ filter has_id (filter_map field_of entries)) (filter has_id (filter_map field_of entries))) ++ named_in entries) (sym (one_passes (is_called (codes "id")) attributes first others found))
one_named (entry.Block attribute docs ∷ entries) key is = by_test (is_called (codes "id") attribute) is (one_named entries key)
  where
    by_test : (b : Bool) → map (λ one. key_over one (given_names (codes "fields") true one) (given_text (codes "name") false one)) (cond b (attribute ∷ []) []) ++ keys_in entries ≡ key ∷ [] → (keys_in entries ≡ key ∷ [] → key.fields ≡ marked_in entries ++ named_in entries)
        → key.fields ≡ marked_in entries ++ flat_map (given_names (codes "fields") true) (cond b (attribute ∷ filter (is_called (codes "id")) (filter_map block_attribute_of entries)) (filter (is_called (codes "id")) (filter_map block_attribute_of entries)))
    by_test true is rest =
        let none = none_named entries (ap rest_of is) in
        let same : key_over attribute (given_names (codes "fields") true attribute) (given_text (codes "name") false attribute) ≡ key = ap (head_or key) is in
        sym (ap (λ (k : ruled.Key). k.fields) same) ∙ sym (ap (λ l. l ++ (given_names (codes "fields") true attribute ++ named_in entries)) none.0 ∙ ap (λ l. given_names (codes "fields") true attribute ++ l) none.1 ∙ append-nil (given_names (codes "fields") true attribute))
    by_test false is rest = rest is

single : (model : Block) (places : Places) → one_id_of model places ≡ [] → length places ≡ 1
single model [] is = absurd (never_empty _ _ is)
single model (at ∷ places) is = let none : length places ≡ 0 = ap length is in omega arith

-- a model's one key of `@id`
record IdKey (model : Block) : Type 0 where
  key : ruled.Key
  is : keys_called (codes "id") model ≡ key ∷ []
  names : key.fields ≡ id_names model

id_key : (tree : Tree) → IsAccepted tree → (model : Block) → In model (models tree) → IdKey model
id_key tree accepted model is_in =
    let kept = none_left (one_id_of model (ids_of model)) (optional_ids (named_id model) (fields model)) (each_empty broken_ids (models tree) (unbroken tree accepted one_id one_id_is_in) model is_in) in
    let ids : length (ids_of model) ≡ 1 = single model (ids_of model) kept.0 in
    let same : length (ids_of model) ≡ length (keys_called (codes "id") model) = same_counts model.entries in
    let one = alone (keys_called (codes "id") model) (sym same ∙ ids) in
    record { key = one.item; is = one.is; names = one_named model.entries one.item one.is }

-- ---- the kind of an id of one column

id_kinds : (tree : Tree) → IsAccepted tree → (model : Block) → In model (models tree) → length (id_names model) ≡ 1 → kinds_at (schema_of tree) (model_number tree model.name.text) (id_columns (table_of tree model)) ≡ Some (id_kind tree model) ∷ []
unfolding In
id_kinds tree accepted model is_in counted =
    let id = id_key tree accepted model is_in in
    let one = alone (id_names model) counted in
    let among : In id.key (keys_called (codes "id") model) = subst (In id.key) (sym id.is) (inl refl) in
    let names = keys_name_columns tree accepted model is_in (codes "id") (inl refl) id.key among in
    let there : In one.item id.key.fields = subst (In one.item) (sym (id.names ∙ one.is)) (inl refl) in
    let found = named tree accepted model is_in one.item (passes (names_column tree model) id.key.fields one.item names.columns there) in
    let own : id_columns (table_of tree model) ≡ column_numbers tree model (one.item ∷ []) =
    ap (λ keys. first_columns (map (key_of tree model) (keys ++ keys_called (codes "unique") model))) id.is ∙ ap (column_numbers tree model) (id.names ∙ one.is) in
    let kind : id_kind tree model ≡ kind_of tree found.field.type.text =
    ap (λ names. first_kind (map (λ (field : ModelField). kind_of tree field.type.text) (fields_named model names))) one.is ∙ ap (λ o. first_kind (map (λ (field : ModelField). kind_of tree field.type.text) (cons_option o []))) found.is in
    ap (kinds_at (schema_of tree) (model_number tree model.name.text)) own ∙ by_names (λ column. column.kind) tree accepted model is_in (one.item ∷ []) ∙ ap (λ o. option_map (λ (column : Column). column.kind) o ∷ []) found.column ∙ ap (λ k. Some k ∷ []) (sym kind)

-- ---- the table of a link

behind : {A : Type 0} (xs ys : List A) (n : ℕ) → slice_get (xs ++ ys) (length xs + n) ≡ slice_get ys n
behind [] ys n = let same : 0 + n ≡ n = omega arith in ap (slice_get ys) same
behind (x ∷ xs) ys n = let same : suc (length xs) + n ≡ suc (length xs + n) = omega arith in ap (slice_get (x ∷ (xs ++ ys))) same ∙ behind xs ys n

mapped_at : {A B : Type 0} (f : A → B) (xs : List A) (n : ℕ) (x : A) → slice_get xs n ≡ Some x → slice_get (map f xs) n ≡ Some (f x)
mapped_at f [] n x is = absurd cc
mapped_at f (y ∷ xs) zero x is = ap (option_map f) is
mapped_at f (y ∷ xs) (suc n) x is = mapped_at f xs n x is

link_table_at : (tree : Tree) (n : ℕ) (pair : Pair) → slice_get (linked tree) n ≡ Some pair → slice_get (tables_of tree) (link_number tree n) ≡ Some (link_table tree pair)
link_table_at tree n pair is =
    let counted : length (map (table_of tree) (models tree)) ≡ length (models tree) = length-map (models tree) (table_of tree) in
    ap (λ k. slice_get (tables_of tree) (k + n)) (sym counted) ∙ behind (map (table_of tree) (models tree)) (map (link_table tree) (linked tree)) n ∙ mapped_at (link_table tree) (linked tree) n pair is

record Numbered {A : Type 0} (from : ℕ) (xs : List A) (item : ℕ × A) : Type 0 where
  place : ℕ
  number : item.0 ≡ from + place
  at : slice_get xs place ≡ Some item.1

numbered : {A : Type 0} (from : ℕ) (xs : List A) (item : ℕ × A) → In item (enumerate_from from xs) → Numbered from xs item
unfolding In
numbered from [] item is_in = absurd is_in
numbered from (x ∷ xs) item (inl same) = record { place = 0; number = ap (λ (one : ℕ × _). one.0) same ∙ (let sum : from ≡ from + 0 = omega arith in sum); at = ap (λ (one : ℕ × _). Some one.1) (sym same) }
numbered from (x ∷ xs) item (inr is_in) = let found = numbered (from + 1) xs item is_in in let number : item.0 ≡ from + 1 + found.place = found.number in record { place = suc found.place; number = omega arith; at = found.at }

-- ---- the sides of a link

-- an end whose model's id is one column
record HasId (tree : Tree) (end : End) : Type 0 where
  member : In end.model (models tree)
  counted : length (id_names end.model) ≡ 1

either_side : (tree : Tree) (one other : End) (b : Bool) → HasId tree one → HasId tree other → HasId tree (cond b one other)
either_side tree one other true first second = first
either_side tree one other false first second = second

record HaveIds (tree : Tree) (pair : Pair) : Type 0 where
  a : HasId tree (side_a pair)
  b : HasId tree (side_b pair)

have_ids : (tree : Tree) → IsAccepted tree → (pair : Pair) → In pair (linked tree) → HaveIds tree pair
have_ids tree accepted pair is_in = record {
  a = either_side tree pair.first pair.second (is_side_a pair.first pair.second) first second;
  b = either_side tree pair.second pair.first (is_side_a pair.first pair.second) second first;
}
  where
    among : In pair (pairs tree) × (is_linked pair ≡ true)
    among = from_filter is_linked (pairs tree) pair is_in

    kept : failing links_single_ids pair_place (pairs tree) ≡ []
    kept = (none_left (failing (is_once (ends tree)) end_place (holders tree)) (failing links_single_ids pair_place (pairs tree)) (unbroken tree accepted one_to_one_is_unique one_to_one_is_unique_is_in)).1

    right : links_single_ids pair ≡ true
    right = passes links_single_ids (pairs tree) pair (all_pass links_single_ids pair_place (pairs tree) kept) among.0

    singles : (has_single_id pair.first ≡ true) × (has_single_id pair.second ≡ true)
    singles = and_parts (has_single_id pair.first) (has_single_id pair.second) (sym (ap (λ b. not b || (has_single_id pair.first && has_single_id pair.second)) among.1) ∙ right)

    each : FromEach (λ end. pairs_with end (partners_among (ends tree) end)) (ends tree) pair
    each = from_flat_map (λ end. pairs_with end (partners_among (ends tree) end)) (ends tree) pair among.0

    made : From (pair_of each.item) (filter (stands_before each.item) (partners_among (ends tree) each.item)) pair
    made = from_map (pair_of each.item) (filter (stands_before each.item) (partners_among (ends tree) each.item)) pair each.part

    other : In made.item (ends tree)
    other = (from_filter (is_partner each.item) (ends tree) made.item (from_filter (stands_before each.item) (partners_among (ends tree) each.item) made.item made.member).0).0

    first : HasId tree pair.first
    first = record {
      member = own_model tree pair.first (subst (λ end. In end (ends tree)) (sym (ap (λ (p : Pair). p.first) made.gives)) each.member);
      counted = eqb-true (length (id_names pair.first.model)) 1 singles.0;
    }

    second : HasId tree pair.second
    second = record {
      member = own_model tree pair.second (subst (λ end. In end (ends tree)) (sym (ap (λ (p : Pair). p.second) made.gives)) other);
      counted = eqb-true (length (id_names pair.second.model)) 1 singles.1;
    }

-- ---- the whole

-- the kinds of a model's id, by the model's number
side_kinds : (tree : Tree) → IsAccepted tree → (end : End) → HasId tree end → kinds_at (schema_of tree) (model_number tree end.model.name.text) (id_columns (table_at (schema_of tree) (model_number tree end.model.name.text))) ≡ Some (id_kind tree end.model) ∷ []
side_kinds tree accepted end has =
    ap (λ o. kinds_at (schema_of tree) (model_number tree end.model.name.text) (id_columns (unwrap_or o no_table))) (table_at_number tree accepted end.model has.member) ∙ id_kinds tree accepted end.model has.member has.counted

-- a link of the schema, as what it is made from
record Made (tree : Tree) (number : ℕ) (link : Link) : Type 0 where
  pair : Pair
  ids : HaveIds tree pair
  table : slice_get (tables_of tree) number ≡ Some (link_table tree pair)
  a : link.a.0 ≡ model_number tree (side_a pair).model.name.text
  b : link.b.0 ≡ model_number tree (side_b pair).model.name.text

made_from : (tree : Tree) → IsAccepted tree → (number : ℕ) (link : Link) → link_of number (links_of tree) ≡ Some link → Made tree number link
made_from tree accepted number link is =
    let from = from_map (link_between tree) (enumerate_from 0 (linked tree)) link (found_in (λ (link : Link). link.table.0 == number) (links_of tree) link is) in
    let same : link.table.0 ≡ number = eqb-true link.table.0 number (found_passes (λ (link : Link). link.table.0 == number) (links_of tree) link is) in
    let there = numbered 0 (linked tree) from.item from.member in
    let place : there.place ≡ from.item.0 = (let sum : from.item.0 ≡ 0 + there.place = there.number in omega arith) in
    let at : link_number tree there.place ≡ number = ap (link_number tree) place ∙ sym (ap (λ (l : Link). l.table.0) from.gives) ∙ same in
    record {
      pair = from.item.1;
      ids = have_ids tree accepted from.item.1 (in_place (linked tree) there.place from.item.1 there.at);
      table = ap (slice_get (tables_of tree)) (sym at) ∙ link_table_at tree there.place from.item.1 there.at;
      a = ap (λ (l : Link). l.a.0) from.gives;
      b = ap (λ (l : Link). l.b.0) from.gives;
    }

pub agree_in : (tree : Tree) → IsAccepted tree → LinksAgree (schema_of tree)
agree_in tree accepted = record {
  first = λ number link is.
      let made = made_from tree accepted number link is in
      ap (λ o. option_map (λ (found : Column). found.kind) (slice_get (unwrap_or o no_table).columns 0) ∷ []) made.table
      ∙ sym (ap (λ n. kinds_at (schema_of tree) n (id_columns (table_at (schema_of tree) n))) made.a ∙ side_kinds tree accepted (side_a made.pair) made.ids.a);
  second = λ number link is.
      let made = made_from tree accepted number link is in
      ap (λ o. option_map (λ (found : Column). found.kind) (slice_get (unwrap_or o no_table).columns 1) ∷ []) made.table
      ∙ sym (ap (λ n. kinds_at (schema_of tree) n (id_columns (table_at (schema_of tree) n))) made.b ∙ side_kinds tree accepted (side_b made.pair) made.ids.b);
}

pub tables_in : (tree : Tree) → IsAccepted tree → LinksHaveTables (schema_of tree)
tables_in tree accepted number link is = ap is_link_table (made_from tree accepted number link is).table

-- ---- the columns of link tables

HaveTwo : Option Table → Type 0
HaveTwo found = is_link_table found ≡ true → HasTwoColumns (unwrap_or found no_table)

two_linked : (tree : Tree) (pairs : List Pair) (n : ℕ) → HaveTwo (slice_get (map (link_table tree) pairs) n)
unfolding HaveTwo
two_linked tree [] n is = absurd (true≢false (sym is))
two_linked tree (pair ∷ pairs) zero is = record { id = refl; first = side_column (codes "A") (id_kind tree (side_a pair).model); second = side_column (codes "B") (id_kind tree (side_b pair).model); columns = refl; required = (refl, refl) }
two_linked tree (pair ∷ pairs) (suc n) is = two_linked tree pairs n is

all_two : (tree : Tree) (all : List Block) (pairs : List Pair) (n : ℕ) → HaveTwo (slice_get (map (table_of tree) all ++ map (link_table tree) pairs) n)
unfolding HaveTwo
all_two tree [] pairs n is = two_linked tree pairs n is
all_two tree (model ∷ all) pairs zero is = absurd (true≢false (sym is))
all_two tree (model ∷ all) pairs (suc n) is = all_two tree all pairs n is

pub two_in : (tree : Tree) → LinkTablesHaveTwoColumns (schema_of tree)
unfolding HaveTwo
two_in tree number is = all_two tree (models tree) (linked tree) number is
