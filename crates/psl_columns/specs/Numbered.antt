-- Keys and indexes over columns that have numbers.
use Rattle.std.specs.Prelude.{ℕ, List, true, map, filter, codes}
use Rattle.psl_text.specs.declared.tree.Attribute.{Attribute}
use Rattle.psl_rules.specs.Parts.{Spelling, is_called, given_names}
use Rattle.psl_rules.specs.declared.key.Key as ruled
use Rattle.qe_base.specs.declared.schema.Key.{Key}
use Rattle.psl_sound.specs.SchemaOf.{number_among}

-- a key over the numbers of its fields among these columns
abbrev pub numbered : List Spelling → ruled.Key → Key
numbered columns key = record { name = key.name.text; columns = map (number_among columns) key.fields }

-- the numbers, among these columns, of those that each `@@index` names
abbrev pub indexes_over : List Spelling → List Attribute → List (List ℕ)
indexes_over columns attributes = map (λ attribute. map (number_among columns) (given_names (codes "fields") true attribute)) (filter (is_called (codes "index")) attributes)
