use Rattle.std.proofs.Common.{◌∙◌, ap, unwrap_or}
use Rattle.std.proofs.lemmas.Option.{unwrap_or-slice_get}
use Rattle.qe_mem.specs.Kept.{nothing_kept}
use Rattle.qe_mem.specs.declared.table.MemTable.{MemTable}
use Rattle.qe_mem.proofs.tables.MemTables.last.Goals as goal

pub returns-in-None : goal.returns-in-None
returns-in-None c = ap (λ o. (unwrap_or o nothing_kept).last) c.in-None.ensures ∙ ap (λ (t : MemTable). t.last) (unwrap_or-slice_get c.args.self.now c.args.table.0 nothing_kept)
