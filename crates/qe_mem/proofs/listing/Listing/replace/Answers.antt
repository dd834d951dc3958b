use Rattle.std.proofs.Common.{◌∙◌, ap, sym, List, is_some}
use Rattle.std.specs.BTreeSet.{replace_key}
use Rattle.qe_base.specs.declared.value.Row.{Row}
use Rattle.qe_mem.specs.Keys.{row_order}
use Rattle.qe_mem.specs.Listings.{Listing, rows_in, found_at}
use Rattle.qe_mem.proofs.Keeping.{rows_any, rows_replace, sure}
use Rattle.qe_mem.proofs.listing.Listing.replace.Goals as goal

pub returns : goal.returns
returns c =
    let keyed = c.args.keyed in
    let keys = c.self.inside.kept.keys in
    let columns = c.self.inside.columns in
    let same = c.requires.under ∙ ap (λ (l : Listing). l.columns) (sym c.self.view_is) in
    let there = rows_any columns keyed keys c.self.invariant.0 ∙ ap (λ (l : Listing). is_some (found_at l keyed)) c.self.view_is ∙ c.requires.there in
    ap (λ (rows : List Row). let now : Listing = record { columns = columns; rows = rows } in now)
    (ap rows_in (sure c.replace-old.result _ c.replace-old.ensures.keys c.replace-old.ensures.absent there) ∙ rows_replace columns keyed same keys c.self.invariant.0)
    ∙ ap (λ (l : Listing). let now : Listing = record { columns = l.columns; rows = replace_key (row_order l.columns) l.rows keyed.row } in now) c.self.view_is
