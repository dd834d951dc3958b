-- The keys of a model, as sets of their fields.
use Rattle.std.specs.Prelude.{◌≡◌, Bool, List, ◌||◌, ◌&&◌, nat_eq}
use Rattle.std.specs.Borrow.{Bor}
use Rattle.std.specs.List.{list_any}
use Rattle.std.specs.Global.{Vec}
use Rattle.std.specs.HashSet.{HashSet, contains}
use Rattle.std.specs.Cmp.Lexicographic.{pointwise}
use Rattle.psl_rules.specs.Parts.{Spelling}
use Rattle.psl_rules.specs.Keys.{are_same_set}
use Rattle.psl_rules.specs.declared.key.Key.{Key}
use Rattle.psl_keys.specs.Gathered.{Gathers}

-- names, each once and in their order
abbrev pub FieldSet : Type 0
FieldSet = Vec (Bor Spelling)

abbrev pub same_set : FieldSet → FieldSet → Bool
same_set one other = pointwise (λ name text. pointwise nat_eq name.now text.now) one.items other.items

-- these names and no others
abbrev pub Collects : FieldSet → List Spelling → Type 0
Collects set names = Gathers (record { keys = set.items }) names

abbrev pub has_set : {S : Type 0} → HashSet FieldSet S → FieldSet → Bool
has_set sets set = contains same_set sets set

-- a key has these fields, in any order
abbrev pub is_over : List Spelling → Key → Bool
is_over names key = are_same_set names key.fields

module _ {S : Type 0} where
  -- sets of the fields of these keys, and no others
  abbrev pub Keeps : HashSet FieldSet S → List Key → Type 0
  Keeps sets keys = (set : FieldSet) (names : List Spelling) → Collects set names → has_set sets set ≡ list_any (is_over names) keys

  -- beside the sets before those of these keys
  abbrev pub AddsAll : HashSet FieldSet S → HashSet FieldSet S → List Key → Type 0
  AddsAll old new keys = (set : FieldSet) (names : List Spelling) → Collects set names → has_set new set ≡ (has_set old set || list_any (is_over names) keys)

  -- beside the sets before that of these fields
  abbrev pub Adds : HashSet FieldSet S → HashSet FieldSet S → List Spelling → Type 0
  Adds old new fields = (set : FieldSet) (names : List Spelling) → Collects set names → has_set new set ≡ (has_set old set || are_same_set names fields)

  -- the same, where they make a key
  abbrev pub AddsWhere : Bool → HashSet FieldSet S → HashSet FieldSet S → List Spelling → Type 0
  AddsWhere makes old new fields = (set : FieldSet) (names : List Spelling) → Collects set names → has_set new set ≡ (has_set old set || (makes && are_same_set names fields))
