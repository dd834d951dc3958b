use Rattle.std.proofs.Common.{◌≡◌, ◌||◌, ℕ, List, drop, Bor}
use Rattle.std.specs.BTreeSet.{IsOrdered, contains}
use Rattle.qe_text.specs.Lists.{is_among}
use Rattle.psl_keys.specs.Gathered.{by_bytes}
use Rattle.psl_keys.proofs.repeated.fields_of.Given as goal

abbrev pub invariant-loop-field : goal.invariant-loop-field
invariant-loop-field l =
    IsOrdered by_bytes l.fields × ((name : Bor (List ℕ)) → (contains by_bytes l.fields name || is_among name.now (drop l.field-index l.field-items)) ≡ is_among name.now l.field-items)
