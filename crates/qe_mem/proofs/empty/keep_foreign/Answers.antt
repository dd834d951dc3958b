use Rattle.std.proofs.Common.{sym, arith}
use Rattle.std.proofs.lemmas.Option.{slice_get_within}
use Rattle.qe_view.specs.Layouts.{foreign_columns}
use Rattle.qe_mem.proofs.Reading.{few_foreign, key_more, keys_end}
use Rattle.qe_mem.proofs.empty.keep_foreign.Goals as goal

pub overflow_add-number : goal.overflow_add-number
overflow_add-number c =
    let within = slice_get_within (foreign_columns c.args.table.0 c.args.layout.now.foreign_keys) c.keys.number c.in-Some.columns.now (sym c.in-Some.ensures) in
    let few = few_foreign c.args.layout.now c.args.table.0 c.is_of_schema.ensures in
    omega arith

pub keys-smaller : goal.keys-smaller
keys-smaller c =
    let within = slice_get_within (foreign_columns c.args.table.0 c.args.layout.now.foreign_keys) c.keys.number c.in-Some.columns.now (sym c.in-Some.ensures) in
    omega arith

pub keys-preserved : goal.keys-preserved
keys-preserved c =
    let within = slice_get_within (foreign_columns c.args.table.0 c.args.layout.now.foreign_keys) c.keys.number c.in-Some.columns.now (sym c.in-Some.ensures) in
    (omega arith, key_more c.args.ids.now (foreign_columns c.args.table.0 c.args.layout.now.foreign_keys) c.keys.number c.in-Some.columns.now c.keys.orders c.keep_by.new.orders _ c.in-Some.ensures c.in_ok-keep_by.ensures c.keys.invariant.1)

pub returns : goal.returns
returns c = keys_end c.args.ids.now (foreign_columns c.args.table.0 c.args.layout.now.foreign_keys) c.keys.number c.keys.orders _ c.in_default.ensures c.keys.invariant.1
