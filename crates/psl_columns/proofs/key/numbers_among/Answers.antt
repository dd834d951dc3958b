use Rattle.std.proofs.Common.{map, Bor, List, ℕ}
use Rattle.psl_columns.proofs.Places.{number_turn}
use Rattle.psl_columns.proofs.key.numbers_among.Goals as goal

pub loop-name-preserved : goal.loop-name-preserved
loop-name-preserved c =
    number_turn (map (λ (name : Bor (List ℕ)). name.now) c.args.all.now) c.args.names.now c.loop-name.name-index _ c.loop-name.numbers c.push.new.self _ c.in_ok-number.number c.loop-name-test.true
    c.in_ok-number.ensures c.in_ok-push.ensures.ok c.loop-name.invariant
