-- The places of ends, by their names.
use Rattle.std.specs.Prelude.{◌≡◌, ℕ, Bool, List, filter, ◌&&◌, Option, position, bytes_eq}
use Rattle.std.specs.Borrow.{Bor}
use Rattle.std.specs.List.{enumerate_from}
use Rattle.psl_rules.specs.Parts.{Spelling}
use Rattle.psl_rules.specs.Relations.{End}
use Rattle.psl_relations.specs.Back.{Side, is_on}

-- the name of a model, and that of a field
abbrev pub Named : Type 0
Named = Bor Spelling × Bor Spelling

abbrev pub texts_of : Named → Spelling × Spelling
texts_of named = (named.0.now, named.1.now)

abbrev pub end_names : End → Spelling × Spelling
end_names end = (end.model.name.text, end.field.name.text)

abbrev pub same_named : Named → Named → Bool
same_named one other = bytes_eq one.0.now other.0.now && bytes_eq one.1.now other.1.now

-- the end has these names, of its model and its field
abbrev pub has_names : Named → End → Bool
has_names named end = bytes_eq named.0.now end.model.name.text && bytes_eq named.1.now end.field.name.text

-- what gives for names the first place of an end that has them
abbrev pub GivesPlaces : (Named → Option ℕ) → List End → Type 0
GivesPlaces places ends = (named : Named) → places named ≡ position (has_names named) ends

-- an end behind its place
abbrev pub placed : ℕ × Bor End → ℕ × End
placed one = (one.0, one.1.now)

-- those of the ends that lie on a side, each behind its place
abbrev pub lie_on : Side → List End → List (ℕ × End)
lie_on side ends = filter (λ one. is_on side one.1) (enumerate_from 0 ends)
