-- Models, by their names.
use Rattle.std.specs.Prelude.{Bool, bytes_eq}
use Rattle.psl_text.specs.declared.tree.Block.{Block}
use Rattle.psl_rules.specs.Parts.{Spelling}

abbrev pub is_called : Spelling → Block → Bool
is_called name model = bytes_eq model.name.text name
