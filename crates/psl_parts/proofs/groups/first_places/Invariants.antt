use Rattle.std.proofs.Common.{◌≡◌, ◌≤◌, length, drop}
use Rattle.std.specs.HashMap.{get}
use Rattle.std.specs.List.{position_from}
use Rattle.psl_parts.proofs.groups.first_places.Given as goal

abbrev pub invariant-keys : goal.invariant-keys
invariant-keys g l = (l.place ≤ length l.keys) × ((key : _) → get g.K.PartialEq.eq l.places key ≡ position_from (g.K.PartialEq.eq key) l.place (drop l.place l.keys))

abbrev pub decreases-keys : goal.decreases-keys
decreases-keys g l = l.place
