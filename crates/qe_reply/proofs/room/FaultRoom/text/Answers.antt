use Rattle.std.proofs.Common.{ℕ, List, ◌++◌, decimal, ap, ◌∙◌}
use Rattle.qe_reply.specs.Room.{index_text}
use Rattle.qe_reply.proofs.Joined.{after_is, before_is, end, front, joined}
use Rattle.qe_reply.proofs.room.FaultRoom.text.Goals as goal

pub returns : goal.returns
returns c =
    let index = c.args.index in
    let before = c.args.before in
    let after = c.args.after in
    c.of.ensures ∙ (c.put-4.ensures.items
    ∙ ap (λ (text : List ℕ). text ++ end) (c.put_number-2.ensures.items
    ∙ ap (λ (text : List ℕ). text ++ decimal before) (c.put-3.ensures.items
    ∙ ap (λ (text : List ℕ). text ++ before_is) (c.put_number.ensures.items
    ∙ ap (λ (text : List ℕ). text ++ decimal after) (c.put-2.ensures.items
    ∙ ap (λ (text : List ℕ). text ++ after_is) (c.put_index.ensures.items
    ∙ ap (λ (text : List ℕ). text ++ index_text index) (c.put.ensures.items
    ∙ ap (λ (text : List ℕ). text ++ front) c.args.self.empty))))))
    ∙ joined index before after)
