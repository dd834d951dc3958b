-- A field of a model with its name.
use Rattle.psl_text.specs.declared.tree.Block.{Block}
use Rattle.psl_text.specs.declared.tree.Tree.{Tree}
use Rattle.psl_rules.specs.Parts.{Spelling, ModelField}
use Rattle.qe_base.specs.declared.schema.Field.{Field}
use Rattle.psl_sound.specs.SchemaOf.{field_in}

-- a field by its name, and what it stands for
unfoldable pub shown_field : Tree → Block → ModelField → Spelling × Field
shown_field tree model field = (field.name.text, field_in tree model field)
