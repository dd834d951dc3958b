-- Why a tree has no schema.
use Rattle.std.specs.Prelude.{◌≡◌, Some, ⊤}
use Rattle.psl_text.specs.declared.tree.Tree.{Tree}
use Rattle.psl_rules.specs.Accepted.{first_breach}
use Rattle.psl_schema.specs.declared.checking.SchemaFault.{SchemaFault}
use Rattle.psl_schema.specs.declared.checking.SchemaFault.TheVariants.{Broken, Memory}

-- the first rule that the tree breaks, or want of memory
abbrev pub IsFaultOf : Tree → SchemaFault → Type 0
IsFaultOf tree (Broken rule at) = first_breach tree ≡ Some (record { rule = rule; at = at })
IsFaultOf tree Memory = ⊤
