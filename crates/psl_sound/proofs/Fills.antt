-- In the value of an accepted tree, what a column is filled with is one of its values.
use Rattle.std.proofs.Common.{◌≡◌, ℕ, ◌+◌, ◌<◌, ℤ, pos, ◌+ℤ◌, ◌-ℤ◌, ◌*ℤ◌, Bool, true, false, cond, not, ◌&&◌, ◌||◌, nat_lt, List, [], ◌∷◌, map, length, Option, Some, None, IfSome, option_map, option_and_then, unwrap_or, is_some, refl, sym, ap, ◌∙◌, arith, true≢false, codes, lt-ltb}
use Rattle.std.specs.Prelude.{bytes_eq, slice_get, take, drop, if◌then◌else◌}
use Rattle.std.specs.List.{list_any, flat_map, position_or_len}
use Rattle.std.proofs.lemmas.Bool.{and_parts}
use Rattle.std.proofs.lemmas.List.{length-map}
use Rattle.std.proofs.lemmas.List.Folds.{find_at}
use Rattle.std.proofs.lemmas.Option.{slice_get-map}
use Rattle.std.proofs.lemmas.Slice.Eq.{bytes_eq-Decides}
use Rattle.psl_text.specs.declared.tree.Block.{Block}
use Rattle.psl_text.specs.declared.tree.Term.{Term}
use Rattle.psl_text.specs.declared.tree.Tree.{Tree}
use Rattle.psl_rules.specs.Accepted.{IsAccepted}
use Rattle.psl_rules.specs.Parts.{Spelling, Places, Member, models, enums, members, text_in, name_in, calls}
use Rattle.qe_text.specs.Lists.{is_among, repeats, In}
use Rattle.psl_rules.specs.Names.{repeated_fields, repeated_members, field_names_are_distinct, member_names, same_name}
use Rattle.psl_rules.specs.Settings.{some_of}
use Rattle.psl_rules.specs.Defaults.{number_in, is_member_of, fits_type}
use Rattle.psl_rules.specs.Defaults as ruled
use Rattle.qe_scalars.specs.Numbers.{is_small, is_big, is_number, number_of, number_within}
use Rattle.qe_scalars.specs.Moments.{is_moment, only_moment, moment_from, moment_of, seconds_of, ending_of}
use Rattle.qe_scalars.specs.Bytes.{bytes_of}
use Rattle.qe_base.specs.declared.value.Kind.{Kind}
use Rattle.qe_base.specs.declared.value.Kind.TheVariants as kind
use Rattle.qe_base.specs.declared.value.Value.TheVariants.{Text, Bool as Truth, Int, Moment, Blob, Member as MemberOf}
use Rattle.qe_base.specs.declared.schema.Choice.{Choice}
use Rattle.qe_base.specs.declared.schema.Column.{Column}
use Rattle.qe_base.specs.declared.schema.Fill.{Fill}
use Rattle.qe_base.specs.declared.schema.Fill.TheVariants.{Absent, Counter, Now, Uuid}
use Rattle.psl_sound.specs.SchemaOf.{number_among, block_name, choice_of, choices_of, enum_number, member_number, kind_of, literal_or, fill_in}
use Rattle.qe_schema.proofs.Members.{first_at, passes}
use Rattle.psl_sound.proofs.Follows.{number_within as number_inside}
use Rattle.psl_sound.proofs.Limits.{each_empty}
use Rattle.psl_sound.proofs.Unbroken.{unbroken, none_left}
use Rattle.qe_schema.specs.Fits.{has_number, has_moment, is_text, is_truth, is_blob, has_member, members_of}
use Rattle.qe_schema.specs.Fields.{FillSuits}
use Rattle.qe_schema.proofs.Tests.{any_weaker}
use Rattle.psl_sound.proofs.Rules.{field_names_are_distinct_is_in}

-- ---- what values there are

small_or_none : {A : Type 0} (b : Bool) (a : A) (P : A → Type 0) → (b ≡ true → P a) → IfSome (if b then Some a else None) P
small_or_none true a P is = is refl
small_or_none false a P is = tt

number_passes : (holds : ℤ → Bool) (text : List ℕ) → IfSome (number_within holds text) (λ number. holds number ≡ true)
number_passes holds text = small_or_none (is_number text && holds (number_of text)) (number_of text) (λ number. holds number ≡ true) (λ both. (and_parts (is_number text) (holds (number_of text)) both).1)

only_passes : (moment : ℤ) → IfSome (only_moment moment) (λ moment. is_moment moment ≡ true)
only_passes moment = small_or_none (is_moment moment) moment (λ moment. is_moment moment ≡ true) (λ is. is)

ending_passes : (seconds : ℤ) (ending : Option (ℕ × ℤ)) → IfSome (option_and_then (moment_from seconds) ending) (λ moment. is_moment moment ≡ true)
ending_passes seconds None = tt
ending_passes seconds (Some ending) = only_passes ((seconds -ℤ ending.1) *ℤ pos 1000 +ℤ pos ending.0)

moment_by : (ending : Option (ℕ × ℤ)) (seconds : Option ℤ) → IfSome (option_and_then (λ seconds. option_and_then (moment_from seconds) ending) seconds) (λ moment. is_moment moment ≡ true)
moment_by ending None = tt
moment_by ending (Some seconds) = ending_passes seconds ending

moment_passes : (text : List ℕ) → IfSome (moment_of text) (λ moment. is_moment moment ≡ true)
moment_passes text = moment_by (ending_of (drop 19 text)) (seconds_of (take 19 text))

-- ---- fills by the kinds of columns

module _ (choices : List Choice) (column : Column) where
  abbrev Suits : Fill → Type 0
  Suits fill = FillSuits choices column fill

  text_suits : column.kind ≡ kind.Text → (text : Option Spelling) → Suits (literal_or Uuid (option_map Text text))
  text_suits is None = is
  text_suits is (Some text) = ap is_text is

  truth_suits : column.kind ≡ kind.Bool → (truth : Spelling → Bool) (name : Option Spelling) → Suits (literal_or Absent (option_map (λ name. Truth (truth name)) name))
  truth_suits is truth None = tt
  truth_suits is truth (Some name) = ap is_truth is

  number_suits : (holds : ℤ → Bool) → ((number : ℤ) → holds number ≡ true → has_number column.kind number ≡ true) → (number : Option ℤ) → IfSome number (λ number. holds number ≡ true) → Suits (literal_or Counter (option_map Int number))
  number_suits holds fits None passes = tt
  number_suits holds fits (Some number) passes = fits number passes

  read_number : (holds : ℤ → Bool) (text : Option Spelling) → IfSome (option_and_then (number_within holds) text) (λ number. holds number ≡ true)
  read_number holds None = tt
  read_number holds (Some text) = number_passes holds text

  moment_suits : column.kind ≡ kind.Moment → (moment : Option ℤ) → IfSome moment (λ moment. is_moment moment ≡ true) → Suits (literal_or Now (option_map Moment moment))
  moment_suits is None passes = is
  moment_suits is (Some moment) passes = ap (λ k. has_moment k moment) is ∙ passes

  read_moment : (text : Option Spelling) → IfSome (option_and_then moment_of text) (λ moment. is_moment moment ≡ true)
  read_moment None = tt
  read_moment (Some text) = moment_passes text

  blob_suits : column.kind ≡ kind.Blob → (blob : Option (List ℕ)) → Suits (literal_or Absent (option_map Blob blob))
  blob_suits is None = tt
  blob_suits is (Some blob) = ap is_blob is

  member_suits : (tree : Tree) (type : Spelling) (enum : ℕ) → column.kind ≡ kind.Member (record { 0 = enum }) → (name : Option Spelling) → IfSome name (λ name. has_member choices (kind.Member (record { 0 = enum })) (member_number tree type name) ≡ true)
      → Suits (literal_or Absent (option_map (λ name. MemberOf (member_number tree type name)) name))
  member_suits tree type enum is None fits = tt
  member_suits tree type enum is (Some name) fits = ap (λ k. has_member choices k (member_number tree type name)) is ∙ fits

-- ---- members of enums

same_place : {A B : Type 0} (f : A → B) (p : B → Bool) (xs : List A) → position_or_len p (map f xs) ≡ position_or_len (λ x. p (f x)) xs
same_place f p [] = refl
same_place f p (x ∷ xs) = ap (λ n. cond (not (p (f x))) (1 + n) 0) (same_place f p xs)

-- the number of a name that is there is its place
number_is : {A : Type 0} (f : A → Spelling) (xs : List A) (name : Spelling) → position_or_len (λ x. bytes_eq name (f x)) xs < length xs → number_among (map f xs) name ≡ position_or_len (λ x. bytes_eq name (f x)) xs
number_is f xs name within =
    ap (λ b. unwrap_or (cond b (Some (position_or_len (bytes_eq name) (map f xs))) None) 0) (lt-ltb (position_or_len (bytes_eq name) (map f xs)) (length (map f xs)) inside) ∙ same
  where
    same : position_or_len (bytes_eq name) (map f xs) ≡ position_or_len (λ x. bytes_eq name (f x)) xs
    same = same_place f (bytes_eq name) xs

    inside : position_or_len (bytes_eq name) (map f xs) < length (map f xs)
    inside = let counted : length (map f xs) ≡ length xs = length-map xs f in let at : position_or_len (bytes_eq name) (map f xs) ≡ position_or_len (λ x. bytes_eq name (f x)) xs = same in omega arith

is_nothing : Places → Bool
is_nothing [] = true
is_nothing (at ∷ places) = false

some_members : {A : Type 0} (at : ℕ) (items : List A) → some_of at items ≡ [] → 0 < length items
unfolding is_nothing
some_members at [] none = absurd (true≢false (sym (ap is_nothing none)))
some_members at (item ∷ items) none = omega arith

has_members : (tree : Tree) → IsAccepted tree → (enum : Block) → In enum (enums tree) → 0 < length (members enum)
has_members tree accepted enum is_in =
    some_members enum.name.at (members enum) (none_left (some_of enum.name.at (members enum)) (map (λ name. name.at) (repeats same_name (member_names enum)))
    (each_empty repeated_members (enums tree) (none_left (flat_map repeated_fields (models tree)) (flat_map repeated_members (enums tree)) (unbroken tree accepted field_names_are_distinct field_names_are_distinct_is_in)).1 enum is_in)).0

member_within : (tree : Tree) → IsAccepted tree → (type name : Spelling) → list_any (λ (block : Block). bytes_eq type block.name.text) (enums tree) ≡ true → has_member (choices_of tree) (kind.Member (record { 0 = enum_number tree type })) (member_number tree type name) ≡ true
member_within tree accepted type name some =
    let found = first_at (λ (block : Block). bytes_eq type block.name.text) (enums tree) some in
    let choice : slice_get (choices_of tree) (enum_number tree type) ≡ Some (choice_of found.item) =
    ap (slice_get (choices_of tree)) (number_is block_name (enums tree) type found.within) ∙ slice_get-map choice_of (enums tree) (position_or_len (λ (block : Block). bytes_eq type block.name.text) (enums tree)) ∙ ap (option_map choice_of) found.at in
    let number : member_number tree type name ≡ number_among (map (λ (member : Member). member.name.text) (members found.item)) name =
    ap (λ o. unwrap_or (option_map (λ (block : Block). number_among (map (λ (member : Member). member.name.text) (members block)) name) o) 0) (find_at (λ (block : Block). bytes_eq type block.name.text) (enums tree) ∙ found.at) in
    let counted : length (map (λ (member : Member). member.name.text) (members found.item)) ≡ length (members found.item) = length-map (members found.item) (λ (member : Member). member.name.text) in
    let some_there : 0 < length (members found.item) = has_members tree accepted found.item found.member in
    ap (λ n. nat_lt n (length (members_of (slice_get (choices_of tree) (enum_number tree type))))) number
    ∙ ap (λ o. nat_lt (number_among (map (λ (member : Member). member.name.text) (members found.item)) name) (length (members_of o))) choice
    ∙ lt-ltb (number_among (map (λ (member : Member). member.name.text) (members found.item)) name) (length (map (λ (member : Member). member.name.text) (members found.item))) (number_inside (map (λ (member : Member). member.name.text) (members found.item)) name (omega arith))

turned : (x y : Spelling) → bytes_eq x y ≡ true → bytes_eq y x ≡ true
turned x y is = (bytes_eq-Decides y x).1 (sym ((bytes_eq-Decides x y).0 is))

members_fit : (tree : Tree) → IsAccepted tree → (type : Spelling) (name : Option Spelling) → ruled.passes (is_member_of tree type) name ≡ true → IfSome name (λ name. has_member (choices_of tree) (kind.Member (record { 0 = enum_number tree type })) (member_number tree type name) ≡ true)
members_fit tree accepted type None is = tt
members_fit tree accepted type (Some name) is =
    member_within tree accepted type name (any_weaker (λ (block : Block). bytes_eq block.name.text type && list_any (λ (member : Member). bytes_eq member.name.text name) (members block)) (λ (block : Block). bytes_eq type block.name.text)
    (λ block both. turned block.name.text type (and_parts (bytes_eq block.name.text type) (list_any (λ (member : Member). bytes_eq member.name.text name) (members block)) both).0) (enums tree) is)

-- ---- defaults

-- kinds, fills and whether a default fits, by which type it is
abbrev kind_by : Bool → Bool → Bool → Bool → Bool → Bool → ℕ → Kind
kind_by text truth small big moment blob enum = if text then kind.Text else (if truth then kind.Bool else (if small then kind.Int else (if big then kind.Big else (if moment then kind.Moment else (if blob then kind.Blob else kind.Member (record { 0 = enum }))))))

abbrev fill_by : Bool → Bool → Bool → Bool → Bool → Bool → Tree → Spelling → Term → Fill
fill_by text truth small big moment blob tree type default =
    if text then literal_or Uuid (option_map Text (text_in default))
    else (if truth then literal_or Absent (option_map (λ name. Truth (bytes_eq name (codes "true"))) (name_in default))
    else (if small then literal_or Counter (option_map Int (option_and_then (number_within is_small) (number_in default)))
    else (if big then literal_or Counter (option_map Int (option_and_then (number_within is_big) (number_in default)))
    else (if moment then literal_or Now (option_map Moment (option_and_then moment_of (text_in default)))
    else (if blob then literal_or Absent (option_map Blob (option_and_then bytes_of (text_in default)))
    else literal_or Absent (option_map (λ name. MemberOf (member_number tree type name)) (name_in default)))))))

suits_by : (tree : Tree) → IsAccepted tree → (type : Spelling) (default : Term) (column : Column) (text truth small big moment blob : Bool) → column.kind ≡ kind_by text truth small big moment blob (enum_number tree type)
    → (text ≡ false → truth ≡ false → small ≡ false → big ≡ false → moment ≡ false → blob ≡ false → ruled.passes (is_member_of tree type) (name_in default) ≡ true) → FillSuits (choices_of tree) column (fill_by text truth small big moment blob tree type default)
suits_by tree accepted type default column true truth small big moment blob is fits = text_suits (choices_of tree) column is (text_in default)
suits_by tree accepted type default column false true small big moment blob is fits = truth_suits (choices_of tree) column is (λ name. bytes_eq name (codes "true")) (name_in default)
suits_by tree accepted type default column false false true big moment blob is fits =
    number_suits (choices_of tree) column is_small (λ number small. ap (λ k. has_number k number) is ∙ small) (option_and_then (number_within is_small) (number_in default)) (read_number (choices_of tree) column is_small (number_in default))
suits_by tree accepted type default column false false false true moment blob is fits =
    number_suits (choices_of tree) column is_big (λ number big. ap (λ k. has_number k number) is ∙ big) (option_and_then (number_within is_big) (number_in default)) (read_number (choices_of tree) column is_big (number_in default))
suits_by tree accepted type default column false false false false true blob is fits = moment_suits (choices_of tree) column is (option_and_then moment_of (text_in default)) (read_moment (choices_of tree) column (text_in default))
suits_by tree accepted type default column false false false false false true is fits = blob_suits (choices_of tree) column is (option_and_then bytes_of (text_in default))
suits_by tree accepted type default column false false false false false false is fits = member_suits (choices_of tree) column tree type (enum_number tree type) is (name_in default) (members_fit tree accepted type (name_in default) (fits refl refl refl refl refl refl))

-- whether it fits, where the type is none of the scalars
abbrev fits_by : Bool → Bool → Bool → Bool → Bool → Bool → Tree → Spelling → Term → Bool
fits_by text truth small big moment blob tree type value =
    if text then is_some (text_in value) || calls (codes "uuid") value
    else (if truth then ruled.passes (λ name. is_among name (codes "true" ∷ codes "false" ∷ [])) (name_in value)
    else (if small then ruled.passes (λ text. is_some (number_within is_small text)) (number_in value) || calls (codes "autoincrement") value
    else (if big then ruled.passes (λ text. is_some (number_within is_big text)) (number_in value) || calls (codes "autoincrement") value
    else (if moment then ruled.passes (λ text. is_some (moment_of text)) (text_in value) || calls (codes "now") value
    else (if blob then ruled.passes (λ text. is_some (bytes_of text)) (text_in value)
    else ruled.passes (is_member_of tree type) (name_in value))))))

at_last : (tree : Tree) (type : Spelling) (value : Term) (text truth small big moment blob : Bool) → fits_by text truth small big moment blob tree type value ≡ true → text ≡ false → truth ≡ false → small ≡ false → big ≡ false → moment ≡ false → blob ≡ false
    → ruled.passes (is_member_of tree type) (name_in value) ≡ true
at_last tree type value text truth small big moment blob fits a b c d e f = sym (λ i. fits_by (a i) (b i) (c i) (d i) (e i) (f i) tree type value) ∙ fits

pub fill_in_suits : (tree : Tree) → IsAccepted tree → (type : Spelling) (default : Term) (column : Column) → column.kind ≡ kind_of tree type → fits_type tree type default ≡ true → FillSuits (choices_of tree) column (fill_in tree type default)
fill_in_suits tree accepted type default column is fits =
    suits_by tree accepted type default column (bytes_eq type (codes "String")) (bytes_eq type (codes "Boolean")) (bytes_eq type (codes "Int")) (bytes_eq type (codes "BigInt")) (bytes_eq type (codes "DateTime")) (bytes_eq type (codes "Bytes")) is
    (at_last tree type default (bytes_eq type (codes "String")) (bytes_eq type (codes "Boolean")) (bytes_eq type (codes "Int")) (bytes_eq type (codes "BigInt")) (bytes_eq type (codes "DateTime")) (bytes_eq type (codes "Bytes")) fits)
