use Rattle.std.proofs.Common.{ap, map, ◌∙◌}
use Rattle.psl_values.specs.Named.{texts_of}
use Rattle.psl_values.proofs.Looked.{places_by_names}
use Rattle.psl_values.proofs.numbered.all_places.Goals as goal

pub returns : goal.returns
returns c = λ named. c.in_ok-places.ensures named ∙ places_by_names c.as_slice.result.now named _ (ap (map texts_of) c.as_slice.ensures.value ∙ c.in_ok-names.ensures)
