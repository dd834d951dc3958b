use Rattle.std.proofs.Common.{◌≡◌, ◌++◌, map, drop}
use Rattle.psl_fields.proofs.once.names_of.Given as goal

abbrev pub invariant-loop-attribute : goal.invariant-loop-attribute
invariant-loop-attribute l =
    map (λ name. name.now) l.names.items ++ map (λ attribute. attribute.name) (drop l.attribute-index l.attributes) ≡ map (λ attribute. attribute.name) l.attributes
