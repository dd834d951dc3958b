use Rattle.std.proofs.Common.{◌∙◌, rules}
use Rattle.qe_view.specs.After.{after}
use Rattle.qe_view.specs.declared.changes.Change.TheVariants.{Put}
use Rattle.qe_ops.proofs.Leaving.{same_changed}
use Rattle.qe_ops.proofs.Putting.{put_leads, put_reaches}
use Rattle.qe_ops.proofs.put.put_unheld.Goals as goal

pub put-requires-clause-fits : goal.put-requires-clause-fits
put-requires-clause-fits g c =
    let V = g.V.View in
    let before = V.seen c.args.view.now in
    let middle = V.seen c.raise_counter.new.view in
    put_leads before.now middle.now before.schema middle.schema c.args.schema.now c.args.table c.args.row c.requires.schema (c.in_ok-raise_counter.ensures.leaves.schema ∙ c.requires.schema)
    (V.fits c.args.view.now c.requires.stands) c.requires.right c.requires.unheld c.in_ok-raise_counter.ensures.writes.ok.now

pub returns-in-Ok-clause-writes : goal.returns-in-Ok-clause-writes
returns-in-Ok-clause-writes g c =
    let V = g.V.View in
    let middle = V.seen c.raise_counter.new.view in
    record {
      ok = put_reaches (V.seen c.args.view.now) middle (V.seen c.put.new.self) middle.schema c.args.schema.now c.args.table c.args.row (c.in_ok-raise_counter.ensures.leaves.schema ∙ c.requires.schema) c.in_ok-raise_counter.ensures.writes.ok
          (same_changed (after middle.schema (Put c.args.table c.args.row)) middle (V.seen c.put.new.self) tt c.in-Ok.ensures.changes);
      err = search rules;
    }
