-- The keys of a model, added to the sets of their fields one after another.
use Rattle.std.proofs.Common.{◌≡◌, ℕ, ◌+◌, ◌<◌, ◌≤◌, Bool, true, false, cond, ◌&&◌, ◌||◌, List, [], ◌∷◌, map, filter, length, drop, get_or, refl, sym, ap, subst, ◌∙◌, Bor, HashSet, is_eq}
use Rattle.std.proofs.lemmas.List.Folds.{list_any-append}
use Rattle.std.proofs.lemmas.List.{drop_more, drop_all}
use Rattle.std.proofs.lemmas.Map.Text.{is_eq-slice_cmp}
use Rattle.std.specs.Prelude.{bytes_eq}
use Rattle.std.specs.List.{list_any, flat_map}
use Rattle.std.specs.BTreeSet as sorted
use Rattle.std.specs.Cmp.Lexicographic.{nat_list_eq_equiv}
use Rattle.psl_text.specs.declared.tree.Attribute.{Attribute}
use Rattle.psl_text.specs.declared.tree.Entry.{Entry}
use Rattle.psl_rules.specs.Parts.{Spelling}
use Rattle.psl_rules.specs.Keys.{is_key, keys_in, is_within, are_same_set}
use Rattle.psl_rules.specs.declared.key.Key.{Key}
use Rattle.psl_keys.specs.Gathered.{by_bytes, Gathers}
use Rattle.qe_text.specs.Lists.{is_among}
use Rattle.psl_keys.proofs.Sets.{alike, and_turned}
use Rattle.psl_parts.proofs.Firsts.{left_at}
use Rattle.psl_relations.specs.Sets.{FieldSet, Collects, same_set, has_set, is_over, Adds, AddsWhere, AddsAll}

or_assoc : (a b c : Bool) → ((a || b) || c) ≡ (a || (b || c))
or_assoc true b c = refl
or_assoc false b c = refl

or_none : (b : Bool) → (b || false) ≡ b
or_none true = refl
or_none false = refl

put : (b had : Bool) → cond b true had ≡ (had || b)
put true true = refl
put true false = refl
put false true = refl
put false false = refl

pub added : {S : Type 0} (old new : HashSet FieldSet S) (set : FieldSet) (fields : List Spelling) → Collects set fields → ((other : FieldSet) → has_set new other ≡ cond (same_set set other) true (has_set old other)) → Adds old new fields
added old new set fields gathers updates = λ other names gathered.
    updates other ∙ ap (λ b. cond b true (has_set old other)) (alike (record { keys = set.items }) (record { keys = other.items }) fields names gathers gathered ∙ and_turned (is_within fields names) (is_within names fields)) ∙ put (are_same_set names fields) (has_set old other)

-- ---- one name more in a set

shuffle : (had b rest : Bool) → (cond b true had || rest) ≡ (had || (b || rest))
shuffle true true rest = refl
shuffle true false rest = refl
shuffle false true rest = refl
shuffle false false rest = refl

abbrev now_of : List (Bor Spelling) → List Spelling
now_of = map (λ name. name.now)

pub turn_name : (names : List (Bor Spelling)) (i : ℕ) (text name : Bor Spelling) (old new : sorted.BTreeSet (Bor Spelling)) (whole : Bool) → i < length names → sorted.contains by_bytes new name ≡ cond (is_eq (by_bytes (get_or names i text) name)) true (sorted.contains by_bytes old name)
    → (sorted.contains by_bytes old name || is_among name.now (now_of (drop i names))) ≡ whole → (sorted.contains by_bytes new name || is_among name.now (now_of (drop (i + 1) names))) ≡ whole
turn_name names i text name old new whole within new_is before =
    let rest = is_among name.now (now_of (drop (i + 1) names)) in
    let had = sorted.contains by_bytes old name in
    let one = get_or names i text in
    ap (λ b. b || rest) new_is ∙ ap (λ b. cond b true had || rest) (is_eq-slice_cmp one.now name.now ∙ nat_list_eq_equiv.symm one.now name.now)
    ∙ shuffle had (bytes_eq name.now one.now) rest ∙ ap (λ names. had || is_among name.now (now_of names)) (sym (drop_more names i text within)) ∙ before

-- ---- over the attributes of a field

-- the keys that the attributes make
abbrev pub made : (Attribute → Key) → List Attribute → List Key
made key_of attributes = map key_of (filter is_key attributes)

-- whether a set is there, or one of these keys is over its fields
abbrev pub has_or : {S : Type 0} → HashSet FieldSet S → List Key → FieldSet → List Spelling → Bool
has_or sets keys set names = has_set sets set || list_any (is_over names) keys

-- whether the key of the one before the others is over these fields, or that of one of them
made_first : (key_of : Attribute → Key) (attribute : Attribute) (rest : List Attribute) (names : List Spelling) (b : Bool) → is_key attribute ≡ b
    → list_any (is_over names) (made key_of (attribute ∷ rest)) ≡ ((b && is_over names (key_of attribute)) || list_any (is_over names) (made key_of rest))
made_first key_of attribute rest names true is = ap (λ b. list_any (is_over names) (map key_of (cond b (attribute ∷ filter is_key rest) (filter is_key rest)))) is
made_first key_of attribute rest names false is = ap (λ b. list_any (is_over names) (map key_of (cond b (attribute ∷ filter is_key rest) (filter is_key rest)))) is

pub turn_key : {S : Type 0} (key_of : Attribute → Key) (attributes : List Attribute) (i : ℕ) (attribute : Attribute) (old new : HashSet FieldSet S) (set : FieldSet) (names : List Spelling) (whole : Bool) → i < length attributes
    → attribute ≡ get_or attributes i attribute → AddsWhere (is_key attribute) old new (key_of attribute).fields → Collects set names → has_or old (made key_of (drop i attributes)) set names ≡ whole
    → has_or new (made key_of (drop (i + 1) attributes)) set names ≡ whole
turn_key key_of attributes i attribute old new set names whole within is adds gathers before =
    let rest = made key_of (drop (i + 1) attributes) in
    let this = is_key attribute && is_over names (key_of attribute) in
    ap (λ b. b || list_any (is_over names) rest) (adds set names gathers) ∙ or_assoc (has_set old set) this (list_any (is_over names) rest)
    ∙ ap (λ b. has_set old set || b) (sym (ap (λ all. list_any (is_over names) (made key_of all)) (left_at attributes i attribute within is) ∙ made_first key_of attribute (drop (i + 1) attributes) names (is_key attribute) refl))
    ∙ before

pub one_key : {S : Type 0} (key_of : Attribute → Key) (attribute : Attribute) (old new : HashSet FieldSet S) (fields : List Spelling) → fields ≡ (key_of attribute).fields → AddsWhere (is_key attribute) old new fields → AddsAll old new (made key_of (attribute ∷ []))
one_key key_of attribute old new fields fields_are adds = λ set names gathers.
    adds set names gathers ∙ ap (λ fields. has_set old set || (is_key attribute && are_same_set names fields)) fields_are
    ∙ ap (λ b. has_set old set || b) (sym (or_none (is_key attribute && is_over names (key_of attribute))) ∙ sym (made_first key_of attribute [] names (is_key attribute) refl))

pub where_key : {S : Type 0} (makes : Bool) (old new : HashSet FieldSet S) (fields : List Spelling) → makes ≡ true → Adds old new fields → AddsWhere makes old new fields
where_key makes old new fields is adds = λ set names gathers. adds set names gathers ∙ sym (ap (λ b. has_set old set || (b && are_same_set names fields)) is)

pub where_none : {S : Type 0} (makes : Bool) (sets : HashSet FieldSet S) (fields : List Spelling) → makes ≡ false → AddsWhere makes sets sets fields
where_none makes sets fields is = λ set names gathers. sym (ap (λ b. has_set sets set || (b && are_same_set names fields)) is ∙ or_none (has_set sets set))

-- ---- over entries

pub turn_entry : {S : Type 0} (entries : List Entry) (i : ℕ) (entry : Entry) (old new : HashSet FieldSet S) (set : FieldSet) (names : List Spelling) (whole : Bool) → i < length entries → entry ≡ get_or entries i entry → AddsAll old new (keys_in entry)
    → Collects set names → has_or old (flat_map keys_in (drop i entries)) set names ≡ whole → has_or new (flat_map keys_in (drop (i + 1) entries)) set names ≡ whole
turn_entry entries i entry old new set names whole within is adds gathers before =
    let rest = flat_map keys_in (drop (i + 1) entries) in
    ap (λ b. b || list_any (is_over names) rest) (adds set names gathers) ∙ or_assoc (has_set old set) (list_any (is_over names) (keys_in entry)) (list_any (is_over names) rest)
    ∙ ap (λ b. has_set old set || b) (sym (list_any-append (is_over names) (keys_in entry) rest)) ∙ ap (λ entries. has_or old (flat_map keys_in entries) set names) (sym (left_at entries i entry within is)) ∙ before

pub all_entries : {S : Type 0} (entries whole : List Entry) (i : ℕ) (sets : HashSet FieldSet S) (set : FieldSet) (names : List Spelling) → length entries ≤ i → entries ≡ whole
    → has_or sets (flat_map keys_in (drop i entries)) set names ≡ list_any (is_over names) (flat_map keys_in entries) → has_set sets set ≡ list_any (is_over names) (flat_map keys_in whole)
all_entries entries whole i sets set names end same before =
    sym (or_none (has_set sets set)) ∙ ap (λ entries. has_or sets (flat_map keys_in entries) set names) (sym (drop_all i entries end)) ∙ before ∙ ap (λ entries. list_any (is_over names) (flat_map keys_in entries)) same

-- a list of the names of a set
pub listed_set : (list : FieldSet) (set : sorted.BTreeSet (Bor Spelling)) (names : List Spelling) → list.items ≡ set.keys → Gathers set names → Collects list names
listed_set list set names same gathers = subst (λ (keys : List (Bor Spelling)). Gathers (record { keys = keys }) names) (sym same) gathers
