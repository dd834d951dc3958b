use Rattle.std.specs.Option.{option_copied}
use Rattle.qe_mem.proofs.Reading.{if_page, no_page}
use Rattle.qe_mem.proofs.tables.MemTables.page.Goals as goal

pub returns-in-Some : goal.returns-in-Some
returns-in-Some c = if_page c.args.self.now c.args.table.0 c.in-Some.kept.now (option_copied c.args.from) c.args.backward c.args.count c.page.result c.in-Some.ensures c.page.ensures

pub returns-in-None : goal.returns-in-None
returns-in-None c = no_page c.args.self.now c.args.table.0 (option_copied c.args.from) c.args.backward c.args.count c.new.result c.in-None.ensures
