use Rattle.std.proofs.Common.{◌≡◌, ◌++◌, map, drop}
use Rattle.psl_sound.specs.SchemaOf.{table_of}
use Rattle.psl_values.proofs.table.push_models.Given as goal

abbrev pub invariant-loop-model : goal.invariant-loop-model
invariant-loop-model l =
    l.tables ++ map (table_of l.numbered) (drop l.model-index l.models) ≡ l.fn.tables ++ map (table_of l.numbered) l.models
