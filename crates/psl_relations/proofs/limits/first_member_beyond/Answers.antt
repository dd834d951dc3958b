use Rattle.std.proofs.Common.{◌∙◌, ap, refl, map, Bor, List, ℕ}
use Rattle.std.specs.List.{flat_map}
use Rattle.psl_text.specs.declared.tree.Block.{Block}
use Rattle.psl_rules.specs.Parts.{first, earlier}
use Rattle.psl_rules.specs.Names.{member_names}
use Rattle.psl_rules.specs.Stored.{beyond}
use Rattle.psl_parts.proofs.Firsts.{turn_each, ended, flat_map_map}
use Rattle.psl_relations.proofs.limits.first_member_beyond.Goals as goal

abbrev behind : Block → List ℕ
behind block = beyond 1000 (member_names block)

pub loop-enumeration-preserved : goal.loop-enumeration-preserved
loop-enumeration-preserved c =
    turn_each (λ (block : Bor Block). behind block.now) c.as_slice-enumeration-items.result.now c.loop-enumeration.enumeration-index c.enumeration-item.result c.loop-enumeration.found c.earlier-found.result _ c.loop-enumeration-test.true c.enumeration-item.is
    (c.earlier-found.ensures ∙ ap (earlier c.loop-enumeration.found) c.in_ok-member_beyond.ensures) c.loop-enumeration.invariant

pub returns : goal.returns
returns c =
    ended (flat_map (λ (block : Bor Block). behind block.now)) c.as_slice-enumeration-items.result.now c.loop-enumeration.enumeration-index c.loop-enumeration.found _ c.loop-enumeration-test.false refl c.loop-enumeration.invariant
    ∙ ap first (flat_map_map (λ (block : Bor Block). block.now) behind c.as_slice-enumeration-items.result.now ∙ ap (flat_map behind) (ap (map (λ (block : Bor Block). block.now)) c.as_slice-enumeration-items.ensures.value ∙ c.in_ok-blocks_of.ensures))
