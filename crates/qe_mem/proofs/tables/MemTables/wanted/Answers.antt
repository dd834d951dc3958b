use Rattle.std.proofs.Common.{◌∙◌, ap, filter}
use Rattle.qe_view.specs.After.{is_wanted}
use Rattle.qe_mem.proofs.Gathering.{if_same}
use Rattle.qe_mem.proofs.Reading.{rows_of_found, rows_of_none}
use Rattle.qe_mem.proofs.tables.MemTables.wanted.Goals as goal

pub returns-in-Some : goal.returns-in-Some
returns-in-Some c = if_same c.wanted.result _ _ (ap (filter (is_wanted c.args.columns.now c.args.keys.now)) (rows_of_found c.args.self.now c.args.table.0 c.in-Some.kept.now c.requires.pairs c.in-Some.ensures)) c.wanted.ensures

pub returns-in-None : goal.returns-in-None
returns-in-None c = c.new.ensures ∙ ap (filter (is_wanted c.args.columns.now c.args.keys.now)) (rows_of_none c.args.self.now c.args.table.0 c.requires.pairs c.in-None.ensures)
