use Rattle.std.proofs.Common.{◌≡◌, ℕ, List, Bool, map, drop, take}
use Rattle.std.specs.Prelude.{bytes_eq}
use Rattle.std.specs.List.{list_any}
use Rattle.psl_text.specs.declared.tree.Name.{Name}
use Rattle.psl_rules.specs.Parts.{first, earlier, place}
use Rattle.qe_text.specs.Lists.{repeats, repeats_behind}
use Rattle.psl_rules.specs.Names.{same_name}
use Rattle.psl_parts.proofs.Repeated.{Seen}
use Rattle.psl_parts.proofs.repeats.first_repeat.Given as goal

abbrev pub invariant-loop-name : goal.invariant-loop-name
invariant-loop-name l =
    let before : List Name = map (λ name. name.now) (take l.name-index l.names) in
    let after : List Name = map (λ name. name.now) (drop l.name-index l.names) in
    (earlier l.found (first (map place (repeats_behind same_name before after))) ≡ first (map place (repeats same_name (map (λ name. name.now) l.names))))
    × Seen (map (λ text. text.now) l.seen.keys) before
