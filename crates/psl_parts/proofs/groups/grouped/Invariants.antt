use Rattle.std.proofs.Common.{◌≡◌, [], take, map, filter}
use Rattle.std.specs.HashMap.{get}
use Rattle.std.specs.Option.{option_map_or}
use Rattle.psl_parts.proofs.groups.grouped.Given as goal

abbrev pub invariant-loop-key : goal.invariant-loop-key
invariant-loop-key g l = (key : _) → option_map_or (λ group. group.items) (get g.K.PartialEq.eq l.groups key) [] ≡ map (λ item. item.1) (filter (λ item. g.K.PartialEq.eq item.0 key) (take l.key-index l.items))
