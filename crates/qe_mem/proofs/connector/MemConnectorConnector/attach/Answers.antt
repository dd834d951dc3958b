use Rattle.std.proofs.Common.{Some, ap, ◌∙◌, refl, rules}
use Rattle.qe_mem.specs.Kept.{tables_of}
use Rattle.qe_mem.proofs.Fitting.{held_empty, empty_told}
use Rattle.qe_mem.proofs.connector.MemConnectorConnector.attach.Goals as goal

pub invariant_of-self-2 : goal.invariant_of-self-2
invariant_of-self-2 c = held_empty c.in_ok-place.place c.args.layout.now c.in_ok-layout.layout c.in_ok-tables.tables c.in_ok-layout.ensures c.in_ok-tables.ensures

pub returns-clause-attaches : goal.returns-clause-attaches
returns-clause-attaches c = record {
  opened = λ i. Some (record { place = c.in_ok-place.ensures i; layout = c.in_ok-layout.ensures i });
  tables = ap (λ kept. Some (tables_of kept)) c.in_ok-tables.ensures ∙ ap Some (empty_told c.args.layout.now);
  same = tt;
  fits = (held_empty c.in_ok-place.place c.args.layout.now c.in_ok-layout.layout c.in_ok-tables.tables c.in_ok-layout.ensures c.in_ok-tables.ensures).fits;
  other = tt;
  refused = tt;
  cause = search rules;
  misfits = refl;
  calls = search rules;
}

pub returns-clause-exact : goal.returns-clause-exact
returns-clause-exact c = (held_empty c.in_ok-place.place c.args.layout.now c.in_ok-layout.layout c.in_ok-tables.tables c.in_ok-layout.ensures c.in_ok-tables.ensures).exact
