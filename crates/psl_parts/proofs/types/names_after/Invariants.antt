use Rattle.std.proofs.Common.{◌≡◌, ◌||◌, ℕ, List, drop}
use Rattle.std.specs.Prelude.{bytes_eq}
use Rattle.std.specs.List.{list_any}
use Rattle.psl_parts.proofs.types.names_after.Given as goal

abbrev pub invariant-loop-block : goal.invariant-loop-block
invariant-loop-block l =
    (name : List ℕ) → (list_any (λ key. bytes_eq name key.now) l.names.keys || list_any (λ block. bytes_eq name block.now.name.text) (drop l.block-index l.block-items))
    ≡ list_any (λ block. bytes_eq name block.now.name.text) l.block-items
