use Rattle.std.proofs.Common.{Some, ap, ◌∙◌, refl, rules}
use Rattle.qe_plain.specs.Kept.{tables_of}
use Rattle.qe_plain.proofs.Empty.{empty_tables}
use Rattle.qe_plain.proofs.Fitting.{held_empty}
use Rattle.qe_plain.proofs.connector.PlainConnectorConnector.attach.Goals as goal

pub invariant_of-self-2 : goal.invariant_of-self-2
invariant_of-self-2 c = held_empty c.in_ok-place.place c.args.layout.now c.in_ok-layout.layout c.table_list.result.now c.in_ok-tables.tables c.table_list.ensures c.in_ok-layout.ensures c.in_ok-tables.ensures

pub returns-clause-attaches : goal.returns-clause-attaches
returns-clause-attaches c = record {
  opened = λ i. Some (record { place = c.in_ok-place.ensures i; layout = c.in_ok-layout.ensures i });
  tables = refl;
  same = tt;
  fits = tt;
  other = tt;
  refused = tt;
  cause = search rules;
  misfits = refl;
  calls = search rules;
}

pub returns-clause-empty : goal.returns-clause-empty
returns-clause-empty c = ap tables_of c.in_ok-tables.ensures ∙ empty_tables c.table_list.result.now
