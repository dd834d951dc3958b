use Rattle.std.proofs.Common.{◌≡◌, ◌∙◌, sym, ap, refl, Bool, Bor}
use Rattle.std.proofs.Math.Bool.{not-not}
use Rattle.std.specs.Prelude.{bytes_eq, not}
use Rattle.std.specs.List.{list_any}
use Rattle.psl_text.specs.declared.tree.Name.{Name}
use Rattle.psl_rules.specs.Parts.{first, failing, place, noted}
use Rattle.psl_parts.proofs.Firsts.{turn_failing, failing_map, ended}
use Rattle.psl_fields.proofs.names.first_among.Goals as goal

pub loop-name-preserved : goal.loop-name-preserved
loop-name-preserved c =
    turn_failing (λ (name : Bor Name). not (list_any (λ word. bytes_eq name.now.text word.now) c.args.words.now)) (λ name. name.now.at) c.args.names.now c.loop-name.name-index c.name-item.result c.loop-name.found c.noted-found.result _
    c.loop-name-test.true c.name-item.is (c.noted-found.ensures ∙ ap (λ b. noted c.loop-name.found b c.name-item.result.now.at) (c.is_among.ensures ∙ sym (not-not _))) c.loop-name.invariant

pub returns : goal.returns
returns c =
    let holds : Name → Bool = λ name. not (list_any (λ word. bytes_eq name.text word.now) c.args.words.now) in
    ended (failing (λ (name : Bor Name). holds name.now) (λ name. name.now.at)) c.args.names.now c.loop-name.name-index c.loop-name.found _ c.loop-name-test.false refl c.loop-name.invariant
    ∙ ap first (failing_map (λ (name : Bor Name). name.now) holds place c.args.names.now)
