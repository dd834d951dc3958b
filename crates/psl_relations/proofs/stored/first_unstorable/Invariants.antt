use Rattle.std.proofs.Common.{◌≡◌, drop}
use Rattle.qe_text.specs.Names.{is_stored_name}
use Rattle.psl_rules.specs.Parts.{first, earlier, failing, place}
use Rattle.psl_relations.proofs.stored.first_unstorable.Given as goal

abbrev pub invariant-loop-name : goal.invariant-loop-name
invariant-loop-name l =
    earlier l.found (first (failing (λ name. is_stored_name name.text) place (drop l.name-index l.names))) ≡ first (failing (λ name. is_stored_name name.text) place l.names)
