use Rattle.std.proofs.Common.{rules, ◌≡◌, ◌<◌, ◌≤◌, [], length, take, List}
use Rattle.std.specs.Prelude.{IfOk}
use Rattle.qe_view.specs.declared.changes.Change.{Change}
use Rattle.qe_overlay.specs.Held.{layers_in}
use Rattle.qe_overlay.specs.Layers.{no_layers}
use Rattle.qe_overlay.specs.Settled.{SettlesBelow, settled_by}
use Rattle.qe_overlay.proofs.Settling.{settles_taken, nothing_settled, if_same}
use Rattle.qe_overlay.proofs.overlay.Overlay.changes.Goals as goal

pub returns-clause-settles : goal.returns-clause-settles
returns-clause-settles c =
    let schema = c.args.schema.now in
    let kept = c.args.self.now.layers in
    let count = c.min-count.result in
    let most : c.min-count.result < length c.args.self.now.layers → length schema.tables ≤ c.min-count.result = search rules in
    let all : IfOk c.all_changes.result (λ changes. changes ≡ settled_by c.args.schema.now (take c.min-count.result c.args.self.now.layers)) = search rules in
    if_same c.all_changes.result (settled_by schema (take count kept)) (SettlesBelow schema (layers_in kept)) all (settles_taken schema kept count most)

pub returns-clause-none : goal.returns-clause-none
returns-clause-none c =
    let schema = c.args.schema.now in
    let kept = c.args.self.now.layers in
    let count = c.min-count.result in
    let all : IfOk c.all_changes.result (λ changes. changes ≡ settled_by c.args.schema.now (take c.min-count.result c.args.self.now.layers)) = search rules in
    if_same c.all_changes.result (settled_by schema (take count kept)) (λ (changes : List Change). layers_in kept ≡ no_layers → changes ≡ []) all (nothing_settled schema count kept)
