use Rattle.psl_columns.proofs.Places.{number_found}
use Rattle.psl_columns.proofs.names.number_among.Goals as goal

pub returns-in-Some : goal.returns-in-Some
returns-in-Some c = number_found c.args.names.now c.args.name.now c.in-Some.at c.place_among.result c.as_number.result c.place_among.ensures c.in-Some.is c.as_number.ensures
