use Rattle.std.proofs.Common.{◌≡◌, ◌++◌, List, map, drop}
use Rattle.std.specs.List.{filter_map}
use Rattle.psl_text.specs.declared.tree.Name.{Name}
use Rattle.psl_text.specs.declared.tree.Entry.{Entry}
use Rattle.psl_rules.specs.Parts.{member_of}
use Rattle.psl_parts.proofs.names.member_names.Given as goal

abbrev pub invariant-loop-entry : goal.invariant-loop-entry
invariant-loop-entry l =
    map (λ name. name.now) l.names.items ++ map (λ member. member.name) (filter_map member_of (drop l.entry-index l.entry-items)) ≡ map (λ member. member.name) (filter_map member_of l.entry-items)
