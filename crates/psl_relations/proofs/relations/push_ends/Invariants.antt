use Rattle.std.proofs.Common.{◌≡◌, ◌++◌, ℕ, List, map, filter, drop, length}
use Rattle.std.specs.List.{filter_map, enumerate_from}
use Rattle.psl_text.specs.declared.tree.Entry.{Entry}
use Rattle.psl_rules.specs.Parts.{field_of}
use Rattle.psl_rules.specs.Names.{is_relation}
use Rattle.psl_rules.specs.Relations.{End, end_at, standing_in}
use Rattle.psl_relations.proofs.relations.push_ends.Given as goal

abbrev pub invariant-loop-entry : goal.invariant-loop-entry
invariant-loop-entry l =
    let ends : ℕ → List Entry → List End = λ from entries. map end_at (enumerate_from from (map (standing_in l.model) (filter (is_relation l.types) (filter_map field_of entries)))) in
    l.ends.items ++ ends (length l.ends.items) (drop l.entry-index l.entry-items) ≡ l.fn.ends.items ++ ends (length l.fn.ends.items) l.entry-items
