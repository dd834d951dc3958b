use Rattle.std.proofs.Common.{◌≡◌, ◌||◌, ◌&&◌, ℕ, List, drop, Bor}
use Rattle.std.specs.Prelude.{bytes_eq}
use Rattle.std.specs.List.{filter_map}
use Rattle.std.specs.HashSet.{contains}
use Rattle.psl_rules.specs.Parts.{member_of}
use Rattle.psl_keys.specs.Belongs.{same_pair, named, has_member}
use Rattle.psl_keys.proofs.members.add_members.Given as goal

abbrev pub invariant-loop-entry : goal.invariant-loop-entry
invariant-loop-entry l =
    (pair : Bor (List ℕ) × Bor (List ℕ)) → (contains same_pair l.pairs pair || (bytes_eq l.block.name.text pair.0.now && named pair.1.now (filter_map member_of (drop l.entry-index l.entry-items))))
    ≡ (contains same_pair l.fn.pairs pair || has_member pair.0.now pair.1.now l.block)
