use Rattle.std.proofs.Common.{[], map, List, ℕ, ap, pos, ◌∙◌}
use Rattle.qe_base.specs.declared.schema.Key.{Key}
use Rattle.qe_view.specs.Layouts.{foreign_columns}
use Rattle.qe_mem.specs.Listings.{no_listing}
use Rattle.qe_mem.specs.Kept.{ids_of, sides_by, with_orders}
use Rattle.qe_mem.specs.declared.keyed.Columns.TheVariants.{Listed}
use Rattle.qe_mem.proofs.Reading.{all_made}
use Rattle.qe_mem.proofs.empty.empty_table.Goals as goal

pub returns : goal.returns
returns c =
    let table = c.args.table.now in
    let given = c.ids_of-ids.result.now in
    let keys : List (List ℕ) = map (λ (key : Key). key.columns) table.keys in
    let rows = c.in_ok-by_key.ensures ∙ ap (λ columns. no_listing (Listed columns [])) c.ids_of-ids.ensures in
    let by_all =
    all_made (ids_of table) given keys (foreign_columns c.args.number.0 c.args.layout.now.foreign_keys) table.indexes (sides_by table.link) c.new-orders.result c.keep_keys.new.orders c.keep_foreign.new.orders c.keep_indexes.new.orders c.keep_sides.new.orders c.ids_of-ids.ensures c.new-orders.ensures
    (c.in_ok-keep_keys.ensures ∙ ap (λ ks. with_orders given (map (λ (key : Key). key.columns) ks) c.new-orders.result) c.as_slice.ensures) c.in_ok-keep_foreign.ensures
    (c.in_ok-keep_indexes.ensures ∙ ap (λ ks. with_orders given ks c.keep_foreign.new.orders) c.as_slice-2.ensures) c.in_ok-keep_sides.ensures
    in
    λ i. record { link = table.link; rows = rows i; orders = by_all i; last = pos 0 }
