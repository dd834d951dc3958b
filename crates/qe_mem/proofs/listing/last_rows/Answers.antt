use Rattle.std.proofs.Common.{reverse, arith}
use Rattle.qe_mem.specs.Listings.{rows_in}
use Rattle.qe_mem.proofs.Finding.{page_step, last_row}
use Rattle.qe_mem.proofs.listing.last_rows.Goals as goal

pub rows-preserved : goal.rows-preserved
rows-preserved c =
    page_step c.args.count c.rows.rows c.push.new.self c.in_ok-share-in-Some.field-0 c.in-Some.keyed.now.row (reverse (rows_in c.rows.range)) (reverse (rows_in c.next_back.new.self)) _ c.in_ok-push-in-Some.ensures.ok c.in_ok-share-in-Some.ensures (last_row _ _ _ c.in-Some.ensures.steps) c.rows.invariant.0 (λ e. omega (arith, c.rows-test.true, c.len.ensures, e)) c.rows.invariant.1
