-- Defaults that are none of their field's type.
use Rattle.std.specs.Prelude.{Bool, ◌||◌, not, List}
use Rattle.std.specs.List.{flat_map}
use Rattle.psl_text.specs.declared.tree.Attribute.{Attribute}
use Rattle.psl_text.specs.declared.tree.Tree.{Tree}
use Rattle.psl_rules.specs.Parts.{Spelling, Places, ModelField, failing}
use Rattle.psl_rules.specs.Attributes.{attribute_place}
use Rattle.psl_rules.specs.Defaults.{is_default, passes, fits_type, default_in, default_fits}

-- a default, if the attribute is one, that a field of this type may have
abbrev pub fits : Tree → Spelling → Attribute → Bool
fits tree type attribute = not (is_default attribute) || passes (fits_type tree type) (default_in attribute)

-- the places of the others among the attributes of fields
abbrev pub unfit : Tree → List ModelField → Places
unfit tree fields = flat_map (λ field. failing (default_fits tree field) attribute_place field.attributes) fields
