use Rattle.std.proofs.Common.{◌∙◌, ap, filter}
use Rattle.qe_schema.specs.Tests.{passes}
use Rattle.qe_mem.proofs.Gathering.{if_same}
use Rattle.qe_mem.proofs.Reading.{rows_of_found, rows_of_none}
use Rattle.qe_mem.proofs.tables.MemTables.passing.Goals as goal

pub returns-in-Some : goal.returns-in-Some
returns-in-Some c = if_same c.passing.result _ _ (ap (filter (passes c.args.tests.now)) (rows_of_found c.args.self.now c.args.table.0 c.in-Some.kept.now c.requires c.in-Some.ensures)) c.passing.ensures

pub returns-in-None : goal.returns-in-None
returns-in-None c = c.new.ensures ∙ ap (filter (passes c.args.tests.now)) (rows_of_none c.args.self.now c.args.table.0 c.requires c.in-None.ensures)
