use Rattle.std.proofs.Common.{◌≡◌, ◌&&◌, ◌||◌, List, ℕ, map, drop}
use Rattle.std.specs.Prelude.{bytes_eq}
use Rattle.qe_text.specs.Lists.{is_among}
use Rattle.psl_relations.specs.Referred.{has_field}
use Rattle.psl_relations.proofs.referred.add_fields.Given as goal

abbrev pub invariant-loop-name : goal.invariant-loop-name
invariant-loop-name l =
    (of name : List ℕ) → (has_field l.fields.keys of name || (bytes_eq l.model of && is_among name (map (λ name. name.now) (drop l.name-index l.names))))
    ≡ (has_field l.fn.fields.keys of name || (bytes_eq l.model of && is_among name (map (λ name. name.now) l.names)))
