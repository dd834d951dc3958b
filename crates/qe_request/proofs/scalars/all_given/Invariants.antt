use Rattle.std.proofs.Common.{◌≡◌, ◌++◌, map, drop, option_map}
use Rattle.std.specs.List.{enumerate_from}
use Rattle.serde_json.specs.View.{view}
use Rattle.qe_forms.specs.Request.{all_of, given_in}
use Rattle.qe_request.proofs.scalars.all_given.Given as goal

abbrev pub invariant-loop-number : goal.invariant-loop-number
invariant-loop-number l =
    option_map (λ others. l.values ++ others) (all_of (map (given_in (view l.json)) (enumerate_from l.number (drop l.number l.columns))))
    ≡ all_of (map (given_in (view l.json)) (enumerate_from 0 l.columns))
