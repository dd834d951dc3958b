-- Fields that lead back to each other's model.
use Rattle.std.specs.Prelude.{Bool, ◌&&◌, Option, option_copied, bytes_eq}
use Rattle.std.specs.Borrow.{Bor}
use Rattle.std.specs.Option.{option_eq}
use Rattle.psl_rules.specs.Parts.{Spelling}
use Rattle.psl_rules.specs.Relations.{End, leads_to, relation_name, same_relation}

-- the other end leads back by the same relation
abbrev pub leads_back : End → End → Bool
leads_back end other = leads_to end other.model && leads_to other end.model && same_relation (relation_name end) (relation_name other)

-- the model that an end stands in, the one that it leads to, and the name of its relation
abbrev pub Side : Type 0
Side = Bor Spelling × Bor Spelling × Option (Bor Spelling)

abbrev pub same_text : Bor Spelling → Bor Spelling → Bool
same_text one other = bytes_eq one.now other.now

abbrev pub same_side : Side → Side → Bool
same_side one other = (same_text one.0 other.0 && same_text one.1 other.1) && option_eq same_text one.2 other.2

-- the end lies on this side
abbrev pub is_on : Side → End → Bool
is_on side end = (bytes_eq end.model.name.text side.0.now && bytes_eq end.field.type.text side.1.now) && same_relation (relation_name end) (option_copied side.2)
