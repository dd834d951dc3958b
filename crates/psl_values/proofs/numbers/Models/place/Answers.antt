use Rattle.std.proofs.Common.{rules, ◌≡◌, ℕ, List, ap, sym, map, ◌∙◌, Bor}
use Rattle.std.specs.Prelude.{position, bytes_eq}
use Rattle.psl_text.specs.declared.tree.Tree.{Tree}
use Rattle.psl_rules.specs.Parts.{models}
use Rattle.psl_sound.specs.SchemaOf.{block_name}
use Rattle.psl_columns.proofs.Places.{position_map}
use Rattle.psl_values.proofs.numbers.Models.place.Goals as goal

pub returns : goal.returns
returns c =
    let same : c.self.inside.types.now ≡ c.args.self.now = search rules in
    c.copied.ensures ∙ c.get.ensures.value ∙ c.self.invariant.2 c.as_str.result ∙ sym (position_map c.self.inside.names.items c.as_str.result.now)
    ∙ ap (λ text. position (bytes_eq text) (map (λ (name : Bor (List ℕ)). name.now) c.self.inside.names.items)) c.as_str.ensures.text
    ∙ ap (position (bytes_eq c.args.name.now)) (c.self.invariant.1 ∙ ap (λ (tree : Tree). map block_name (models tree)) same)
