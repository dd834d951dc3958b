use Rattle.std.proofs.Common.{◌≡◌, ℕ, List, drop, Bool, Bor}
use Rattle.std.specs.Prelude.{bytes_eq, not}
use Rattle.std.specs.List.{list_any}
use Rattle.psl_text.specs.declared.tree.Name.{Name}
use Rattle.psl_rules.specs.Parts.{first, earlier, failing}
use Rattle.psl_fields.proofs.names.first_among.Given as goal

abbrev pub invariant-loop-name : goal.invariant-loop-name
invariant-loop-name l =
    let places : List (Bor Name) → List ℕ = failing (λ name. not (list_any (λ word. bytes_eq name.now.text word.now) l.words)) (λ name. name.now.at) in
    earlier l.found (first (places (drop l.name-index l.names))) ≡ first (places l.names)
