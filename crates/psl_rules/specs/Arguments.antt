-- What arguments an attribute takes.
use Rattle.std.specs.Prelude.{ℕ, List, [], ◌∷◌, Bool, true, false, ◌&&◌, ◌||◌, ◌≡◌, not, length, nat_le, map, filter, if◌then◌else◌, Option, Some, None, is_some, bytes_eq, codes}
use Rattle.std.specs.List.{list_any, list_all}
use Rattle.qe_text.specs.Names.{is_name}
use Rattle.psl_text.specs.declared.tree.Term.{Term}
use Rattle.psl_text.specs.declared.tree.Argument.{Argument, out-Argument}
use Rattle.psl_text.specs.declared.tree.Attribute.{Attribute}
use Rattle.psl_rules.specs.Parts.{Spelling, text_in, name_in, is_list_of_names, gives, is_called}

-- a parameter of an attribute: its name, whether its argument may stand without it, whether it must
-- be given, and what it takes
pub record Parameter : Type 0 where
  pub name : Spelling
  pub alone : Bool
  pub needed : Bool
  pub takes : Term → Bool

abbrev pub takes_any : Term → Bool
takes_any value = true

abbrev pub takes_text : Term → Bool
takes_text value = is_some (text_in value)

abbrev pub is_name_text : Option Spelling → Bool
is_name_text None = false
is_name_text (Some text) = is_name text

-- a string that could be a name
abbrev pub takes_name_text : Term → Bool
takes_name_text value = is_name_text (text_in value)

abbrev pub takes_name : Term → Bool
takes_name value = is_some (name_in value)

abbrev pub may : Spelling → (Term → Bool) → Parameter
may name takes = record { name = name; alone = false; needed = false; takes = takes }

abbrev pub may_alone : Spelling → (Term → Bool) → Parameter
may_alone name takes = record { name = name; alone = true; needed = false; takes = takes }

abbrev pub must_alone : Spelling → (Term → Bool) → Parameter
must_alone name takes = record { name = name; alone = true; needed = true; takes = takes }

-- of the attributes of a field
abbrev pub field_parameters : Spelling → List Parameter
field_parameters name =
    if bytes_eq name (codes "id") || bytes_eq name (codes "unique") then may (codes "map") takes_text ∷ []
    else (if bytes_eq name (codes "default") then must_alone [] takes_any ∷ []
    else (if bytes_eq name (codes "map") then must_alone (codes "name") takes_text ∷ []
    else (if bytes_eq name (codes "relation") then may_alone (codes "name") takes_text ∷ may (codes "fields") is_list_of_names ∷ may (codes "references") is_list_of_names
    ∷ may (codes "onDelete") takes_name ∷ may (codes "onUpdate") takes_name ∷ may (codes "map") takes_text ∷ []
    else [])))

-- of the attributes of a model
abbrev pub model_parameters : Spelling → List Parameter
model_parameters name =
    if bytes_eq name (codes "id") || bytes_eq name (codes "unique") then must_alone (codes "fields") is_list_of_names ∷ may (codes "name") takes_name_text ∷ may (codes "map") takes_text ∷ []
    else (if bytes_eq name (codes "index") then must_alone (codes "fields") is_list_of_names ∷ may (codes "map") takes_text ∷ []
    else (if bytes_eq name (codes "map") then must_alone (codes "name") takes_text ∷ []
    else []))

abbrev pub gives_to : Argument → Parameter → Bool
gives_to argument parameter = gives parameter.name parameter.alone argument

-- the arguments that are given for a parameter
abbrev pub arguments_for : Parameter → List Argument → List Argument
arguments_for parameter arguments = filter (λ argument. gives_to argument parameter) arguments

-- given at most once, and once where it must be, and each time something that it takes
abbrev pub is_taken : List Argument → Parameter → Bool
is_taken arguments parameter =
    nat_le (length (arguments_for parameter arguments)) 1 && (not parameter.needed || nat_le 1 (length (arguments_for parameter arguments)))
    && list_all (λ argument. parameter.takes (out-Argument argument).value) (arguments_for parameter arguments)

-- each argument is for one of the parameters, and each parameter is rightly given
abbrev pub arguments_fit : List Parameter → List Argument → Bool
arguments_fit parameters arguments = list_all (λ argument. list_any (gives_to argument) parameters) arguments && list_all (is_taken arguments) parameters
