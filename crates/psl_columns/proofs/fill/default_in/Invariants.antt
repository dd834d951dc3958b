use Rattle.std.proofs.Common.{◌≡◌, List, Option, drop}
use Rattle.std.specs.Prelude.{option_and_then, codes}
use Rattle.psl_text.specs.declared.tree.Attribute.{Attribute}
use Rattle.psl_text.specs.declared.tree.Term.{Term}
use Rattle.psl_rules.specs.Parts.{attribute_named}
use Rattle.psl_rules.specs.Defaults.{default_in}
use Rattle.psl_columns.proofs.fill.default_in.Given as goal

abbrev pub invariant-loop-attribute : goal.invariant-loop-attribute
invariant-loop-attribute l =
    let named : List Attribute → Option Term = λ attributes. option_and_then default_in (attribute_named (codes "default") attributes) in
    named (drop l.attribute-index l.attributes) ≡ named l.attributes
