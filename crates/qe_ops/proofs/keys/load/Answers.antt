use Rattle.qe_base.specs.declared.value.Row.{Row}
use Rattle.qe_schema.specs.Fits.{fit_columns}
use Rattle.qe_schema.specs.Tables.{table_at}
use Rattle.qe_ops.proofs.Keyed.{row_loaded, first_passes}
use Rattle.qe_ops.proofs.keys.load.Goals as goal

pub returns-clause-row : goal.returns-clause-row
returns-clause-row g c =
    let seen = g.V.View.seen c.args.view.now in
    row_loaded seen.now seen.schema c.args.table.0 c.args.columns.now c.args.key c.in_ok-found.found.rows c.first.result c.requires.model (g.V.View.fits c.args.view.now c.requires.stands) c.in_ok-found.ensures.rows c.first.ensures

pub returns-clause-fits : goal.returns-clause-fits
returns-clause-fits g c =
    let schema = (g.V.View.seen c.args.view.now).schema in
    first_passes (λ (row : Row). fit_columns schema.choices (table_at schema c.args.table.0).columns row.values) c.in_ok-found.found.rows c.first.result c.in_ok-found.ensures.rows_fit c.first.ensures
