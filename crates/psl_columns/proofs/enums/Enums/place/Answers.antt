use Rattle.std.proofs.Common.{rules, ◌≡◌, ℕ, List, ap, sym, map, ◌∙◌, Bor}
use Rattle.std.specs.Prelude.{position, bytes_eq}
use Rattle.psl_text.specs.declared.tree.Tree.{Tree}
use Rattle.psl_rules.specs.Parts.{enums}
use Rattle.psl_sound.specs.SchemaOf.{block_name}
use Rattle.psl_columns.proofs.Places.{position_map}
use Rattle.psl_columns.proofs.enums.Enums.place.Goals as goal

pub returns : goal.returns
returns c =
    let same : c.self.inside.types.now ≡ c.args.self.now = search rules in
    c.copied.ensures ∙ c.get.ensures.value ∙ c.self.invariant.2 c.args.name ∙ sym (position_map c.self.inside.names.items c.args.name.now)
    ∙ ap (position (bytes_eq c.args.name.now)) (c.self.invariant.1 ∙ ap (λ (tree : Tree). map block_name (enums tree)) same)
