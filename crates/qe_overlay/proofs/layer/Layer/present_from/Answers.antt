use Rattle.std.proofs.Common.{◌++◌, ◌∙◌, sym, ap, filter}
use Rattle.std.specs.Option.{option_copied}
use Rattle.qe_view.specs.After.{is_from}
use Rattle.qe_overlay.specs.Layers.{present, Layer}
use Rattle.qe_overlay.proofs.Laying.{chosen_of, chosen-present, chosen_step, chosen_end}
use Rattle.qe_overlay.proofs.layer.Layer.present_from.Goals as goal

pub loop-now-init : goal.loop-now-init
loop-now-init c =
    rw (c.new-rows.ensures)
    (ap (chosen_of (is_from c.args.table.now (option_copied c.args.from) c.args.backward)) (c.into_iter-now-iterator.ensures.into_iter_gives ∙ c.values-now-items.ensures.rest)
    ∙ chosen-present (is_from c.args.table.now (option_copied c.args.from) c.args.backward) c.self.inside.entries.entries ∙ ap (λ (layer : Layer). filter (is_from c.args.table.now (option_copied c.args.from) c.args.backward) (present layer.entries)) c.self.view_is)

pub loop-now-preserved : goal.loop-now-preserved
loop-now-preserved c =
    chosen_step (is_from c.args.table.now (option_copied c.args.from) c.args.backward) c.loop-now.rows c.push_from.new.rows c.in-Some.now.now c.next.new.self _ c.in_ok-push_from.ensures
    (ap (λ l. c.loop-now.rows ++ chosen_of (is_from c.args.table.now (option_copied c.args.from) c.args.backward) l) (sym c.in-Some.ensures.steps) ∙ c.loop-now.invariant)

pub returns : goal.returns
returns c = chosen_end (is_from c.args.table.now (option_copied c.args.from) c.args.backward) c.loop-now.rows c.loop-now.now-iterator _ c.in-None.ensures.steps.0 c.loop-now.invariant
