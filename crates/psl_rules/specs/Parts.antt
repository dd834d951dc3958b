-- The parts of a schema's tree, by the names that the rules have for them.
use Rattle.std.specs.Prelude.{ℕ, min, List, [], ◌∷◌, ◌++◌, Bool, true, false, ◌&&◌, not, if◌then◌else◌, map, filter, Option, Some, None, option_map, option_and_then, unwrap_or, is_some, bytes_eq}
use Rattle.std.specs.List.{list_any, list_all, find, filter_map}
use denote.Enum.Bare.{sameb}
use Rattle.psl_text.specs.contracts.tree.Word.{the_type}
use Rattle.psl_text.specs.declared.tree.Name.{Name}
use Rattle.psl_text.specs.declared.tree.Term.{Term, out-Term}
use Rattle.psl_text.specs.declared.tree.Term.TheOpen.{Term-F}
use Rattle.psl_text.specs.declared.tree.Term.TheOpen as term
use Rattle.psl_text.specs.declared.tree.Argument.{Argument, out-Argument}
use Rattle.psl_text.specs.declared.tree.Attribute.{Attribute}
use Rattle.psl_text.specs.declared.tree.Mark.{Mark}
use Rattle.psl_text.specs.declared.tree.Mark.TheVariants as mark
use Rattle.psl_text.specs.declared.tree.Entry.{Entry}
use Rattle.psl_text.specs.declared.tree.Entry.TheVariants as entry
use Rattle.psl_text.specs.declared.tree.Word.{Word}
use Rattle.psl_text.specs.declared.tree.Word.TheVariants as word
use Rattle.psl_text.specs.declared.tree.Block.{Block}
use Rattle.psl_text.specs.declared.tree.Tree.{Tree}

-- the bytes of a name
abbrev pub Spelling : Type 0
Spelling = List ℕ

-- places in a text: the first byte of what stands there
abbrev pub Places : Type 0
Places = List ℕ

abbrev pub place : Name → ℕ
place name = name.at

abbrev pub same_name : Name → Name → Bool
same_name one other = bytes_eq one.text other.text

-- the first of the places in the text
abbrev pub earlier : Option ℕ → Option ℕ → Option ℕ
earlier None other = other
earlier (Some at) None = Some at
earlier (Some at) (Some other) = Some (min at other)

-- what was found, with this place too where it breaks the rule
abbrev pub noted : Option ℕ → Bool → ℕ → Option ℕ
noted found breaks at = if breaks then earlier found (Some at) else found

abbrev pub first : Places → Option ℕ
first [] = None
first (at ∷ places) = earlier (Some at) (first places)

-- ---- lists

-- the places of a test's failures
abbrev pub failing : {A : Type 0} → (A → Bool) → (A → ℕ) → List A → Places
failing holds at items = map at (filter (λ item. not (holds item)) items)

-- ---- blocks

unfoldable pub same_word : Word → Word → Bool
same_word = sameb the_type

-- the blocks that begin with a word, in text order
abbrev pub blocks_of : Word → Tree → List Block
blocks_of word tree = filter (λ block. same_word block.word word) tree.blocks

abbrev pub datasources : Tree → List Block
datasources tree = blocks_of word.Datasource tree

abbrev pub models : Tree → List Block
models tree = blocks_of word.Model tree

abbrev pub enums : Tree → List Block
enums tree = blocks_of word.Enum tree

-- ---- entries

pub record Setting : Type 0 where
  pub name : Name
  pub value : Term

pub record ModelField : Type 0 where
  pub name : Name
  pub type : Name
  pub mark : Mark
  pub attributes : List Attribute

pub record Member : Type 0 where
  pub name : Name
  pub attributes : List Attribute

abbrev pub setting_of : Entry → Option Setting
setting_of (entry.Setting name value) = Some (record { name = name; value = value })
setting_of (entry.Member name attributes docs) = None
setting_of (entry.Field name type mark attributes docs) = None
setting_of (entry.Block attribute docs) = None

abbrev pub member_of : Entry → Option Member
member_of (entry.Setting name value) = None
member_of (entry.Member name attributes docs) = Some (record { name = name; attributes = attributes })
member_of (entry.Field name type mark attributes docs) = None
member_of (entry.Block attribute docs) = None

abbrev pub field_of : Entry → Option ModelField
field_of (entry.Setting name value) = None
field_of (entry.Member name attributes docs) = None
field_of (entry.Field name type mark attributes docs) = Some (record { name = name; type = type; mark = mark; attributes = attributes })
field_of (entry.Block attribute docs) = None

abbrev pub block_attribute_of : Entry → Option Attribute
block_attribute_of (entry.Setting name value) = None
block_attribute_of (entry.Member name attributes docs) = None
block_attribute_of (entry.Field name type mark attributes docs) = None
block_attribute_of (entry.Block attribute docs) = Some attribute

abbrev pub settings : Block → List Setting
settings block = filter_map setting_of block.entries

abbrev pub members : Block → List Member
members block = filter_map member_of block.entries

abbrev pub fields : Block → List ModelField
fields block = filter_map field_of block.entries

abbrev pub block_attributes : Block → List Attribute
block_attributes block = filter_map block_attribute_of block.entries

-- ---- attributes

abbrev pub is_called : Spelling → Attribute → Bool
is_called name attribute = bytes_eq attribute.name.text name

abbrev pub has_attribute : Spelling → List Attribute → Bool
has_attribute name attributes = list_any (is_called name) attributes

-- the first attribute of this name
abbrev pub attribute_named : Spelling → List Attribute → Option Attribute
attribute_named name attributes = find (is_called name) attributes

-- ---- terms

abbrev pub text_by : Term-F Term Argument → Option Spelling
text_by (term.Text text at) = Some text
text_by (term.Number text at) = None
text_by (term.Name name) = None
text_by (term.Call name arguments) = None
text_by (term.List items at) = None

-- what a string stands for
abbrev pub text_in : Term → Option Spelling
text_in value = text_by (out-Term value)

abbrev pub name_by : Term-F Term Argument → Option Spelling
name_by (term.Text text at) = None
name_by (term.Number text at) = None
name_by (term.Name name) = Some name.text
name_by (term.Call name arguments) = None
name_by (term.List items at) = None

-- a plain name
abbrev pub name_in : Term → Option Spelling
name_in value = name_by (out-Term value)

abbrev pub items_by : Term-F Term Argument → Option (List Term)
items_by (term.Text text at) = None
items_by (term.Number text at) = None
items_by (term.Name name) = None
items_by (term.Call name arguments) = None
items_by (term.List items at) = Some items

-- the items of a list, and none where it is no list
abbrev pub items_of : Term → List Term
items_of value = unwrap_or (items_by (out-Term value)) []

abbrev pub is_list : Term → Bool
is_list value = is_some (items_by (out-Term value))

-- a list of plain names
abbrev pub is_list_of_names : Term → Bool
is_list_of_names value = is_list value && list_all (λ item. is_some (name_in item)) (items_of value)

-- the plain names in a list
abbrev pub names_in : Term → List Spelling
names_in value = filter_map name_in (items_of value)

-- a call of that name which takes nothing
abbrev pub calls_by : Spelling → Term-F Term Argument → Bool
calls_by name (term.Text text at) = false
calls_by name (term.Number text at) = false
calls_by name (term.Name other) = false
calls_by name (term.Call other []) = bytes_eq other.text name
calls_by name (term.Call other (argument ∷ arguments)) = false
calls_by name (term.List items at) = false

abbrev pub calls : Spelling → Term → Bool
calls name value = calls_by name (out-Term value)

-- ---- arguments

abbrev pub is_given_as : Spelling → Bool → Option Name → Bool
is_given_as parameter alone None = alone
is_given_as parameter alone (Some name) = bytes_eq name.text parameter

-- an argument of this name, or one without a name where it may stand alone
abbrev pub gives : Spelling → Bool → Argument → Bool
gives parameter alone argument = is_given_as parameter alone (out-Argument argument).name

-- what an attribute gives for a parameter
abbrev pub given : Spelling → Bool → Attribute → Option Term
given parameter alone attribute = option_map (λ argument. (out-Argument argument).value) (find (gives parameter alone) attribute.arguments)

abbrev pub given_text : Spelling → Bool → Attribute → Option Spelling
given_text parameter alone attribute = option_and_then text_in (given parameter alone attribute)

abbrev pub given_name : Spelling → Attribute → Option Spelling
given_name parameter attribute = option_and_then name_in (given parameter false attribute)

abbrev pub given_names : Spelling → Bool → Attribute → List Spelling
given_names parameter alone attribute = unwrap_or (option_map names_in (given parameter alone attribute)) []
