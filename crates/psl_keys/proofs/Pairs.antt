-- The members of enums, pair by pair.
use Rattle.std.proofs.Common.{◌≡◌, ℕ, ◌+◌, ◌<◌, ◌≤◌, Bool, true, false, cond, ◌&&◌, ◌||◌, List, [], ◌∷◌, ◌++◌, map, length, drop, get_or, Option, Some, None, refl, sym, ap, ◌∙◌, Bor, HashSet}
use Rattle.std.proofs.Math.ListN.{drop_of_length-le}
use Rattle.std.proofs.lemmas.List.{drop_more}
use Rattle.std.specs.Prelude.{bytes_eq, option_to_list}
use Rattle.std.specs.List.{list_any, filter_map, cons_option}
use Rattle.std.specs.HashSet.{contains}
use Rattle.psl_text.specs.declared.tree.Entry.{Entry}
use Rattle.psl_text.specs.declared.tree.Block.{Block}
use Rattle.psl_rules.specs.Parts.{Spelling, Member, member_of}
use Rattle.psl_keys.specs.Belongs.{same_pair, named, has_member}

abbrev Pair : Type 0
Pair = Bor Spelling × Bor Spelling

or_none : (b : Bool) → (b || false) ≡ b
or_none true = refl
or_none false = refl

-- ---- one member

pub no_more : (h a : Bool) → h ≡ (h || (a && false))
no_more true a = refl
no_more false true = refl
no_more false false = refl

pub no_member : (h a : Bool) (name : Spelling) (one : Option Member) → one ≡ None → h ≡ (h || (a && named name (option_to_list one)))
no_member h a name one none = no_more h a ∙ ap (λ member. h || (a && named name (option_to_list member))) (sym none)

shuffle : (h a b : Bool) → cond (a && b) true h ≡ (h || (a && (b || false)))
shuffle true true true = refl
shuffle true true false = refl
shuffle true false b = refl
shuffle false true true = refl
shuffle false true false = refl
shuffle false false b = refl

pub one_member : {S : Type 0} (enum name : Spelling) (key pair : Pair) (old new : HashSet Pair S) → key.0.now ≡ enum → key.1.now ≡ name → contains same_pair new pair ≡ cond (same_pair key pair) true (contains same_pair old pair)
    → contains same_pair new pair ≡ (contains same_pair old pair || (bytes_eq enum pair.0.now && (bytes_eq name pair.1.now || false)))
one_member enum name key pair old new enum_is name_is new_is =
    let had = contains same_pair old pair in
    new_is ∙ ap (λ one. cond (bytes_eq one pair.0.now && bytes_eq key.1.now pair.1.now) true had) enum_is ∙ ap (λ one. cond (bytes_eq enum pair.0.now && bytes_eq one pair.1.now) true had) name_is
    ∙ shuffle had (bytes_eq enum pair.0.now) (bytes_eq name pair.1.now)

-- ---- one entry more

spread : (h a : Bool) (name : Spelling) (one : Option Member) (rest : List Member) → ((h || (a && named name (option_to_list one))) || (a && named name rest)) ≡ (h || (a && named name (cons_option one rest)))
spread true a name one rest = refl
spread false true name None rest = refl
spread false true name (Some member) rest = by_case (bytes_eq member.name.text name)
  where
    by_case : (b : Bool) → ((b || false) || named name rest) ≡ (b || named name rest)
    by_case true = refl
    by_case false = refl
spread false false name one rest = refl

pub turn_entry : {S : Type 0} (entries : List Entry) (i : ℕ) (entry : Entry) (a : Bool) (name : Spelling) (pair : Pair) (old new : HashSet Pair S) (whole : Bool) → i < length entries → entry ≡ get_or entries i entry
    → contains same_pair new pair ≡ (contains same_pair old pair || (a && named name (option_to_list (member_of entry)))) → (contains same_pair old pair || (a && named name (filter_map member_of (drop i entries)))) ≡ whole
    → (contains same_pair new pair || (a && named name (filter_map member_of (drop (i + 1) entries)))) ≡ whole
turn_entry entries i entry a name pair old new whole within is new_is before =
    let had = contains same_pair old pair in
    let rest = filter_map member_of (drop (i + 1) entries) in
    ap (λ b. b || (a && named name rest)) new_is ∙ spread had a name (member_of entry) rest ∙ ap (λ one. had || (a && named name (filter_map member_of (one ∷ drop (i + 1) entries)))) is
    ∙ ap (λ all. had || (a && named name (filter_map member_of all))) (sym (drop_more entries i entry within)) ∙ before

pub all_entries : (entries : List Entry) (i : ℕ) (a : Bool) (name : Spelling) (had whole : Bool) → length entries ≤ i → (had || (a && named name (filter_map member_of (drop i entries)))) ≡ whole → had ≡ whole
all_entries entries i a name had whole end before = no_more had a ∙ ap (λ all. had || (a && named name (filter_map member_of all))) (sym (drop_of_length-le entries end)) ∙ before

-- ---- one enum more

abbrev pub in_one : Pair → List (Bor Block) → Bool
in_one pair = list_any (λ block. has_member pair.0.now pair.1.now block.now)

or_assoc : (a b c : Bool) → ((a || b) || c) ≡ (a || (b || c))
or_assoc true b c = refl
or_assoc false b c = refl

pub turn_enum : {S : Type 0} (blocks : List (Bor Block)) (i : ℕ) (block : Bor Block) (pair : Pair) (old new : HashSet Pair S) (whole : Bool) → i < length blocks → block ≡ get_or blocks i block
    → contains same_pair new pair ≡ (contains same_pair old pair || has_member pair.0.now pair.1.now block.now) → (contains same_pair old pair || in_one pair (drop i blocks)) ≡ whole
    → (contains same_pair new pair || in_one pair (drop (i + 1) blocks)) ≡ whole
turn_enum blocks i block pair old new whole within is new_is before =
    let had = contains same_pair old pair in
    let rest = drop (i + 1) blocks in
    ap (λ b. b || in_one pair rest) new_is ∙ or_assoc had (has_member pair.0.now pair.1.now block.now) (in_one pair rest) ∙ ap (λ one. had || in_one pair (one ∷ rest)) is
    ∙ ap (λ all. had || in_one pair all) (sym (drop_more blocks i block within)) ∙ before

in_values : (pair : Pair) (blocks : List (Bor Block)) → in_one pair blocks ≡ list_any (has_member pair.0.now pair.1.now) (map (λ block. block.now) blocks)
in_values pair [] = refl
in_values pair (block ∷ blocks) = ap (λ b. has_member pair.0.now pair.1.now block.now || b) (in_values pair blocks)

pub all_enums : (blocks : List (Bor Block)) (all : List Block) (i : ℕ) (pair : Pair) (had : Bool) → length blocks ≤ i → map (λ block. block.now) blocks ≡ all → (had || in_one pair (drop i blocks)) ≡ in_one pair blocks
    → had ≡ list_any (has_member pair.0.now pair.1.now) all
all_enums blocks all i pair had end is before =
    sym (or_none had) ∙ ap (λ rest. had || in_one pair rest) (sym (drop_of_length-le blocks end)) ∙ before ∙ in_values pair blocks ∙ ap (list_any (has_member pair.0.now pair.1.now)) is
