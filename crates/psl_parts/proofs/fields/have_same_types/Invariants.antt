use Rattle.std.proofs.Common.{◌≡◌, drop}
use Rattle.std.specs.List.{list_all, zip}
use Rattle.psl_rules.specs.Foreign.{have_same_type}
use Rattle.psl_parts.proofs.fields.have_same_types.Given as goal

abbrev pub invariant-loop-number : goal.invariant-loop-number
invariant-loop-number l = list_all have_same_type (zip (drop l.number l.fields) (drop l.number l.others)) ≡ list_all have_same_type (zip l.fields l.others)
