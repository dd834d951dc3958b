-- Places in lists, and what has numbers by them.
use Rattle.std.proofs.Common.{◌≡◌, ℕ, suc, ◌+◌, ◌<◌, cond, not, List, [], ◌∷◌, ◌++◌, map, length, drop, get_or, Option, Some, None, Result, refl, sym, ap, ◌∙◌, subst, Bor}
use Rattle.std.proofs.lemmas.List.{drop_more, map-append, append_assoc}
use Rattle.std.specs.Prelude.{position, bytes_eq, nat_lt, unwrap_or, IfOk, slice_get, option_copied, option_map}
use Rattle.std.proofs.lemmas.Option.{slice_get-map}
use Rattle.std.specs.List.{position_or_len, find}
use Rattle.psl_text.specs.declared.tree.Block.{Block}
use Rattle.psl_parts.proofs.Looked.{position_mapped, found_at, found_nowhere}
use Rattle.psl_rules.specs.declared.key.Key as ruled
use Rattle.qe_base.specs.declared.schema.Key.{Key}
use Rattle.psl_sound.specs.SchemaOf.{number_among, block_name}
use Rattle.psl_columns.specs.Numbered.{numbered}

place_map : (names : List (Bor (List ℕ))) (name : List ℕ) → position_or_len (bytes_eq name) (map (λ other. other.now) names) ≡ position_or_len (λ other. bytes_eq name other.now) names
place_map [] name = refl
place_map (other ∷ names) name = ap (λ place. cond (not (bytes_eq name other.now)) (1 + place) 0) (place_map names name)

length_map : (names : List (Bor (List ℕ))) → length (map (λ other. other.now) names) ≡ length names
length_map [] = refl
length_map (other ∷ names) = ap suc (length_map names)

-- the place of a name among the names that are referred to
pub position_map : (names : List (Bor (List ℕ))) (name : List ℕ) → position (bytes_eq name) (map (λ other. other.now) names) ≡ position (λ other. bytes_eq name other.now) names
position_map names name =
    ap (λ place. cond (nat_lt place (length (map (λ (other : Bor (List ℕ)). other.now) names))) (Some place) None) (place_map names name)
    ∙ ap (λ count. cond (nat_lt (position_or_len (λ (other : Bor (List ℕ)). bytes_eq name other.now) names) count) (Some (position_or_len (λ (other : Bor (List ℕ)). bytes_eq name other.now) names)) None) (length_map names)

-- the number of a name that is found
pub number_found : {E : Type 0} (names : List (Bor (List ℕ))) (name : List ℕ) (at : ℕ) (place : Option ℕ) (result : Result ℕ E) → place ≡ position (λ other. bytes_eq name other.now) names → place ≡ Some at
    → IfOk result (λ number. number ≡ at) → IfOk result (λ number. number ≡ number_among (map (λ other. other.now) names) name)
number_found names name at place result found is before =
    subst (λ whole. IfOk result (λ number. number ≡ whole)) (ap (λ place. unwrap_or place 0) (sym is ∙ found ∙ sym (position_map names name))) before

-- ---- over numbered columns

-- one name more
pub number_turn : (columns : List (List ℕ)) (names : List (Bor (List ℕ))) (i : ℕ) (none : Bor (List ℕ)) (done new whole : List ℕ) (number : ℕ) → i < length names
    → number ≡ number_among columns (get_or names i none).now → new ≡ done ++ number ∷ [] → done ++ map (number_among columns) (map (λ name. name.now) (drop i names)) ≡ whole
    → new ++ map (number_among columns) (map (λ name. name.now) (drop (i + 1) names)) ≡ whole
number_turn columns names i none done new whole number within number_is new_is before =
    let numbers : List (Bor (List ℕ)) → List ℕ = λ names. map (number_among columns) (map (λ name. name.now) names) in
    let rest = drop (i + 1) names in
    ap (λ all. all ++ numbers rest) new_is ∙ append_assoc done (number ∷ []) (numbers rest)
    ∙ ap (λ one. done ++ one ∷ numbers rest) number_is
    ∙ ap (λ left. done ++ numbers left) (sym (drop_more names i none within)) ∙ before

-- the ids, then the uniques
pub keys_joined : (names columns : List (List ℕ)) (none ids_made made : List Key) (ids uniques : List ruled.Key) → columns ≡ names → none ≡ [] → ids_made ≡ none ++ map (numbered columns) ids
    → made ≡ ids_made ++ map (numbered columns) uniques → made ≡ map (numbered names) (ids ++ uniques)
keys_joined names columns none ids_made made ids uniques same empty first second =
    second ∙ ap (λ keys. keys ++ map (numbered columns) uniques) (first ∙ ap (λ keys. keys ++ map (numbered columns) ids) empty)
    ∙ sym (map-append (numbered columns) ids uniques) ∙ ap (λ columns. map (numbered columns) (ids ++ uniques)) same

-- ---- a block, by its name

copied_now : (found : Option (Bor Block)) → option_copied found ≡ option_map (λ block. block.now) found
copied_now None = refl
copied_now (Some block) = refl

pub block_at : (blocks : List (Bor Block)) (all : List Block) (name : List ℕ) (at : ℕ) (result : Option (Bor Block)) → result ≡ slice_get blocks at → map (λ block. block.now) blocks ≡ all → position (bytes_eq name) (map block_name all) ≡ Some at
    → option_copied result ≡ find (λ block. bytes_eq name block.name.text) all
block_at blocks all name at result got same place =
    ap option_copied got ∙ copied_now (slice_get blocks at) ∙ sym (slice_get-map (λ (block : Bor Block). block.now) blocks at) ∙ ap (λ (found : List Block). slice_get found at) same
    ∙ found_at (λ (block : Block). bytes_eq name block.name.text) all at (sym (position_mapped block_name (bytes_eq name) all) ∙ place)

pub no_block : (all : List Block) (name : List ℕ) → position (bytes_eq name) (map block_name all) ≡ None → None ≡ find (λ block. bytes_eq name block.name.text) all
no_block all name place = found_nowhere (λ (block : Block). bytes_eq name block.name.text) all (sym (position_mapped block_name (bytes_eq name) all) ∙ place)
