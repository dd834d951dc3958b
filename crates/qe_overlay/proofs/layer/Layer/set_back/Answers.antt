use Rattle.std.proofs.Common.{◌≡◌, ◌∙◌, sym, ap, List}
use Rattle.std.specs.BTreeMap.{is_at}
use Rattle.qe_base.specs.Values.{row_cmp}
use Rattle.qe_overlay.specs.Layers.{Entry, Layer}
use Rattle.qe_overlay.specs.Held.{with_before}
use Rattle.qe_overlay.proofs.Undoing.{set_value_none}
use Rattle.qe_overlay.proofs.layer.Layer.set_back.Goals as goal
use Rattle.qe_overlay.proofs.layer.Layer.set_back.Goals.{in-Some-2, in-None-3}

pub returns-in_default : goal.returns-in_default
returns-in_default c =
    let kept : with_before c.args.id.now c.args.before c.args.self.now ≡ c.args.self.now = rw (c.in-Some.is, ← c.self.view_is) (ap (λ (es : List Entry). let layer : Layer = record { entries = es; last = c.self.inside.last } in layer) (set_value_none (is_at (row_cmp c.args.id.now)) c.in-Some.now c.self.inside.entries.entries (sym c.in_default.ensures.value))) in
    let same = ap (λ entries. let layer : Layer = record { entries = entries.entries; last = c.self.inside.last } in layer) c.get_mut.follows.holds-at-none ∙ c.self.view_is ∙ sym kept in
    elim c.match-now.branch [ in-Some-2 w ↦ w.self-is ∙ same | in-None-3 w ↦ w.self-is ∙ same ]
