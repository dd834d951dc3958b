use Rattle.std.proofs.Common.{◌≡◌, ◌||◌, ℕ, List, drop}
use Rattle.qe_text.specs.Lists.{is_among}
use Rattle.psl_parts.proofs.Lookups.{has}
use Rattle.psl_parts.proofs.Distinct.{now_of}
use Rattle.psl_parts.proofs.names.texts_of.Given as goal

abbrev pub invariant-loop-name : goal.invariant-loop-name
invariant-loop-name l = (text : List ℕ) → (has text l.texts.keys || is_among text (now_of (drop l.name-index l.names))) ≡ is_among text (now_of l.names)
