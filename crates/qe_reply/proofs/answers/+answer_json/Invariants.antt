use Rattle.std.proofs.Common.{◌≡◌, map, drop, take}
use Rattle.serde_json.specs.Data.{no_members}
use Rattle.serde_json.specs.View.{view, members_view}
use Rattle.qe_forms.specs.Reply.{put_all, answer_data}
use Rattle.qe_reply.proofs.answers.+answer_json.Given as goal

abbrev pub invariant-items_json-loop-item : goal.invariant-items_json-loop-item
invariant-items_json-loop-item l = map view l.found.items ≡ map answer_data (take l.item-index l.items)

abbrev pub invariant-members_json-loop-member : goal.invariant-members_json-loop-member
invariant-members_json-loop-member l =
    put_all (map (λ one. (one.0, answer_data one.1)) (drop l.member-index l.members)) (members_view l.found.entries)
    ≡ put_all (map (λ one. (one.0, answer_data one.1)) l.members) no_members
