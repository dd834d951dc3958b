use Rattle.std.proofs.Common.{sym, ◌∙◌, w64, to_z, of_z, SFits, rules}
use Rattle.std.proofs.lemmas.Int.{to_z-of_z}
use Rattle.qe_view.specs.Calls.{with_last}
use Rattle.qe_ops.proofs.Leaving.{same_viewed, schema_viewed}
use Rattle.qe_ops.proofs.Putting.{no_number, counter_leads, high_number}
use Rattle.qe_ops.proofs.put.raise_counter.Goals as goal

pub raise-requires-clause-fits : goal.raise-requires-clause-fits
raise-requires-clause-fits g c =
    let number = c.in-Some.number in
    let before = g.V.View.seen c.args.view.now in
    let middle = g.V.View.seen c.last.new.self in
    counter_leads middle.now middle.schema c.args.schema.now c.args.table c.table_of-model.result.now c.args.row.now number (to_z w64 (of_z w64 number)) (schema_viewed with_last before middle c.last.result c.last.ensures.others ∙ c.requires.schema)
    (g.V.View.fits c.last.new.self c.last.ensures.stands) c.table_of-model.ensures.table (sym c.row_number.ensures ∙ c.in-Some.is) (to_z-of_z w64 number (let fits : SFits w64 number = search rules in fits))

pub returns-in-None-clause-writes : goal.returns-in-None-clause-writes
returns-in-None-clause-writes g c = record {
  ok = no_number (g.V.View.seen c.args.view.now) c.args.schema.now c.args.table.0 c.table_of-model.result.now c.args.row.now c.table_of-model.ensures.table (sym c.row_number.ensures ∙ c.in-None.is);
  err = search rules;
}

pub returns-in_ok-raise-in-Some-clause-writes : goal.returns-in_ok-raise-in-Some-clause-writes
returns-in_ok-raise-in-Some-clause-writes g c =
    let number = c.in-Some.number in
    let before = g.V.View.seen c.args.view.now in
    let middle = g.V.View.seen c.last.new.self in
    record {
      ok = high_number before middle (g.V.View.seen c.raise.new.self) c.args.schema.now c.args.table c.table_of-model.result.now c.args.row.now number (to_z w64 (of_z w64 number)) (schema_viewed with_last before middle c.last.result c.last.ensures.others ∙ c.requires.schema) c.table_of-model.ensures.table
          (sym c.row_number.ensures ∙ c.in-Some.is) (to_z-of_z w64 number (let fits : SFits w64 number = search rules in fits)) (same_viewed with_last before middle c.last.result c.last.ensures.others) c.in_ok-raise-in-Some.ensures.ok;
      err = search rules;
    }
