use Rattle.std.proofs.Common.{◌∙◌, ap}
use Rattle.qe_mem.specs.Listings.{rows_in}
use Rattle.qe_mem.proofs.Finding.{page_step}
use Rattle.qe_mem.proofs.listing.first_rows.Goals as goal

pub loop-keyed-preserved : goal.loop-keyed-preserved
loop-keyed-preserved c =
    page_step c.args.count c.loop-keyed.rows c.push.new.self c.in_ok-share.field-0 c.in-Some.keyed.now.row (rows_in c.loop-keyed.keyed-iterator) (rows_in c.next.new.self) _ c.in_ok-push.ensures.ok c.in_ok-share.ensures (ap rows_in c.in-Some.ensures.steps) c.loop-keyed.invariant.0 (λ e. c.if-len-count.false (c.len.ensures ∙ e)) c.loop-keyed.invariant.1
