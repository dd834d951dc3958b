use Rattle.std.proofs.Common.{◌≡◌, drop}
use Rattle.std.specs.List.{list_all}
use Rattle.psl_relations.specs.Ranks.{ascends}
use Rattle.psl_relations.proofs.ranks.all_ascend.Given as goal

abbrev pub invariant-loop-step : goal.invariant-loop-step
invariant-loop-step l = list_all (ascends l.numbers) (drop l.step-index l.steps) ≡ list_all (ascends l.numbers) l.steps
