use Rattle.std.proofs.Common.{◌≡◌, map, take, slice_get}
use Rattle.serde_json.specs.View.{view}
use Rattle.qe_forms.specs.Reply.{column_name}
use Rattle.qe_reply.proofs.errors.names_json.Given as goal

abbrev pub invariant-loop-number : goal.invariant-loop-number
invariant-loop-number l = map view l.names.items ≡ map (λ column. column_name (slice_get l.columns column)) (take l.number-index l.numbers)
