-- Fields of models that foreign keys refer to.
use Rattle.std.specs.Prelude.{◌≡◌, Bool, List, ◌&&◌, bytes_eq}
use Rattle.std.specs.Borrow.{Bor}
use Rattle.std.specs.List.{list_any}
use Rattle.psl_rules.specs.Parts.{Spelling}
use Rattle.qe_text.specs.Lists.{is_among}
use Rattle.psl_rules.specs.Relations.{End, other_names}

-- the foreign key refers to the field of this name, of the model of this name
abbrev pub refers_to : Spelling → Spelling → End → Bool
refers_to model name holder = bytes_eq holder.field.type.text model && is_among name (other_names holder)

-- the name of a model, and of a field
abbrev pub Named : Type 0
Named = Bor Spelling × Bor Spelling

-- the field of this name, of the model of this name, is among these
abbrev pub has_field : List Named → Spelling → Spelling → Bool
has_field keys model name = list_any (λ key. bytes_eq key.0.now model && bytes_eq name key.1.now) keys

-- a set of fields that has those which pass the test
abbrev pub HoldsFields : List Named → (Spelling → Spelling → Bool) → Type 0
HoldsFields keys test = (model name : Spelling) → has_field keys model name ≡ test model name
