use Rattle.std.proofs.Common.{◌++◌, ◌∙◌, sym, ap, filter}
use Rattle.qe_schema.specs.Tests.{passes}
use Rattle.qe_overlay.specs.Layers.{present, Layer}
use Rattle.qe_overlay.proofs.Laying.{chosen_of, chosen-present, chosen_step, chosen_end}
use Rattle.qe_overlay.proofs.layer.Layer.passing.Goals as goal

pub loop-now-init : goal.loop-now-init
loop-now-init c =
    rw (c.new-rows.ensures)
    (ap (chosen_of (passes c.args.tests.now)) (c.into_iter-now-iterator.ensures.into_iter_gives ∙ c.values-now-items.ensures.rest)
    ∙ chosen-present (passes c.args.tests.now) c.self.inside.entries.entries ∙ ap (λ (layer : Layer). filter (passes c.args.tests.now) (present layer.entries)) c.self.view_is)

pub loop-now-preserved : goal.loop-now-preserved
loop-now-preserved c =
    chosen_step (passes c.args.tests.now) c.loop-now.rows c.push_passing.new.rows c.in-Some.now.now c.next.new.self _ c.in_ok-push_passing.ensures
    (ap (λ l. c.loop-now.rows ++ chosen_of (passes c.args.tests.now) l) (sym c.in-Some.ensures.steps) ∙ c.loop-now.invariant)

pub returns : goal.returns
returns c = chosen_end (passes c.args.tests.now) c.loop-now.rows c.loop-now.now-iterator _ c.in-None.ensures.steps.0 c.loop-now.invariant
