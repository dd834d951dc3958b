use Rattle.std.proofs.Common.{rules, ◌≡◌, ap, sym, ◌∙◌, map, Bor, List}
use Rattle.psl_text.specs.declared.tree.Block.{Block}
use Rattle.psl_rules.specs.Parts.{enums}
use Rattle.psl_parts.proofs.Looked.{got_at}
use Rattle.psl_columns.proofs.Places.{block_at, no_block}
use Rattle.psl_columns.proofs.enums.Enums.named.Goals as goal

pub returns-in-Some : goal.returns-in-Some
returns-in-Some c =
    let same : c.self.inside.types.now ≡ c.args.self.now = search rules in
    let blocks : map (λ (block : Bor Block). block.now) c.deref.result.now ≡ enums c.args.self.now = ap (map (λ (block : Bor Block). block.now)) c.deref.ensures.value ∙ c.self.invariant.0 ∙ ap enums same in
    block_at c.deref.result.now (enums c.args.self.now) c.args.name.now c.in-Some.at c.copied.result
    (c.copied.ensures ∙ got_at c.get.result c.deref.result.now c.in-Some.at c.get.ensures.lookup.0 c.get.ensures.lookup.1) blocks (sym c.place.ensures ∙ c.in-Some.is)

pub returns-in-None : goal.returns-in-None
returns-in-None c = no_block (enums c.args.self.now) c.args.name.now (sym c.place.ensures ∙ c.in-None.is)
