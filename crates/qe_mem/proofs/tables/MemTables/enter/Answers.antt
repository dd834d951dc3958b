use Rattle.std.proofs.Common.{◌∙◌, arith, ap, slice_set}
use Rattle.std.proofs.lemmas.List.{set-get_or}
use Rattle.qe_mem.specs.Plans.{entered_table, left_table, CanEnterTable}
use Rattle.qe_mem.proofs.Planning.{table_undone}
use Rattle.qe_mem.proofs.Eaching.{each_more, next_holds, next_within, all_back, both_within}
use Rattle.qe_mem.proofs.tables.MemTables.enter.Goals as goal

pub index_mut-requires : goal.index_mut-requires
index_mut-requires c =
    omega (arith, c.self.inside.tables.ok.0, next_within CanEnterTable entered_table c.args.plans.now c.tables.done c.args.self.now c.self.inside.tables.items c.requires c.tables-test.true (c.self.view_is ∙ c.tables.invariant.1))

pub enter-requires : goal.enter-requires
enter-requires c =
    next_holds CanEnterTable entered_table c.args.plans.now c.tables.done c.index-plans-done.result c.args.self.now c.self.inside.tables.items c.index_mut.result.now c.requires c.tables-test.true c.index-plans-done.is (c.self.view_is ∙ c.tables.invariant.1) c.index_mut.ensures.value

pub returns-in-Err-clause-err : goal.returns-in-Err-clause-err
returns-in-Err-clause-err c =
    all_back CanEnterTable entered_table left_table table_undone c.args.plans.now c.tables.done c.args.self.now (slice_set c.self.inside.tables.items c.tables.done c.enter.new.self) c.leave.new.self c.requires
    (ap (λ t. slice_set c.self.inside.tables.items c.tables.done t) (c.in-Err.ensures.err ∙ c.index_mut.ensures.value) ∙ set-get_or c.self.inside.tables.items c.tables.done c.index_mut.result.now ∙ c.self.view_is ∙ c.tables.invariant.1)
    c.leave.ensures

pub tables-preserved : goal.tables-preserved
tables-preserved c = (
  omega arith,
  ap (λ t. slice_set c.self.inside.tables.items c.tables.done t) c.in_default.ensures.ok
      ∙ each_more entered_table c.args.plans.now c.tables.done c.index-plans-done.result c.args.self.now c.self.inside.tables.items c.index_mut.result.now c.tables-test.true c.index-plans-done.is (c.self.view_is ∙ c.tables.invariant.1) (both_within CanEnterTable c.args.plans.now c.args.self.now c.tables.done c.requires c.tables-test.true) c.index_mut.ensures.value,
)
