use Rattle.std.proofs.Common.{◌≡◌, map, take}
use Rattle.std.specs.Prelude.{string_bytes}
use Rattle.qe_view.specs.LayoutText.{quoted, stored_at}
use Rattle.qe_view.proofs.statements.names_text.Given as goal

-- the names so far
abbrev pub invariant-loop-number : goal.invariant-loop-number
invariant-loop-number l = map string_bytes l.names.items ≡ map (λ number. quoted (stored_at l.columns number)) (take l.number-index l.numbers)
