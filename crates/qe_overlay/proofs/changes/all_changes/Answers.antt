use Rattle.std.proofs.Common.{rules, ◌≡◌, ◌++◌, []}
use Rattle.qe_overlay.specs.Settled.{stage_changes}
use Rattle.qe_overlay.specs.declared.changes.Stage.TheVariants.{Removes, Puts, Unlinks, Links, Counters}
use Rattle.qe_overlay.proofs.Settling.{joined_stages}
use Rattle.qe_overlay.proofs.changes.all_changes.Goals as goal

pub returns : goal.returns
returns c =
    let schema = c.args.schema.now in
    let layers = c.args.layers.now in
    let one : c.push_stage.new.changes ≡ [] ++ stage_changes schema Removes layers = search rules in
    let two : c.push_stage-2.new.changes ≡ c.push_stage.new.changes ++ stage_changes schema Puts layers = search rules in
    let three : c.push_stage-3.new.changes ≡ c.push_stage-2.new.changes ++ stage_changes schema Unlinks layers = search rules in
    let four : c.push_stage-4.new.changes ≡ c.push_stage-3.new.changes ++ stage_changes schema Links layers = search rules in
    let five : c.push_stage-5.new.changes ≡ c.push_stage-4.new.changes ++ stage_changes schema Counters layers = search rules in
    joined_stages (stage_changes schema Removes layers) (stage_changes schema Puts layers) (stage_changes schema Unlinks layers) (stage_changes schema Links layers) (stage_changes schema Counters layers) c.push_stage.new.changes c.push_stage-2.new.changes c.push_stage-3.new.changes c.push_stage-4.new.changes c.push_stage-5.new.changes one two three four five
