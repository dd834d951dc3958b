-- Fields with their names.
use Rattle.std.proofs.Common.{◌≡◌, map, refl, sym, ap, ◌∙◌}
use Rattle.psl_text.specs.declared.tree.Block.{Block}
use Rattle.psl_text.specs.declared.tree.Tree.{Tree}
use Rattle.psl_rules.specs.Parts.{ModelField, fields}
use Rattle.psl_sound.specs.SchemaOf.{field_in, fields_of}
use Rattle.psl_values.specs.Shown.{shown_field}

pub shown_is : (tree : Tree) (model : Block) (field : ModelField) → shown_field tree model field ≡ (field.name.text, field_in tree model field)
unfolding shown_field
shown_is tree model field = refl

pub all_shown : (tree : Tree) (model : Block) → map (shown_field tree model) (fields model) ≡ fields_of tree model
unfolding shown_field
all_shown tree model = refl
