use Rattle.std.proofs.Common.{◌≡◌, map, take}
use Rattle.serde_json.specs.View.{view}
use Rattle.qe_forms.specs.Reply.{data_of}
use Rattle.qe_reply.proofs.texts.batch_json.Given as goal

abbrev pub invariant-loop-answer : goal.invariant-loop-answer
invariant-loop-answer l = map view l.items.items ≡ map data_of (take l.answer-index l.found)
