use Rattle.std.proofs.Common.{ap, sym, ◌∙◌, ◌+◌, List, drop}
use Rattle.std.specs.List.{flat_map}
use Rattle.psl_text.specs.declared.tree.Block.{Block}
use Rattle.psl_text.specs.declared.tree.Tree.{Tree}
use Rattle.psl_rules.specs.Relations.{End, Standing, leading_of}
use Rattle.psl_parts.proofs.Firsts.{left_at}
use Rattle.psl_relations.proofs.Numbered.{behind, some_more}
use Rattle.psl_relations.proofs.relations.ends.Goals as goal

pub loop-model-preserved : goal.loop-model-preserved
loop-model-preserved c =
    let leading : List Block → List Standing = λ blocks. flat_map (leading_of c.args.models.now) blocks in
    let old : List End = c.loop-model.ends.items in
    let items : List Block = c.all-model-items.result.now in
    let rest : List Standing = leading (drop (c.loop-model.model-index + 1) items) in
    ap (λ (ends : List End). behind ends rest) (c.in_ok-push_ends.ensures ∙ ap (λ (tree : Tree). behind old (leading_of tree c.model-item.result)) c.types.ensures)
    ∙ some_more old (leading_of c.args.models.now c.model-item.result) rest
    ∙ ap (λ (blocks : List Block). behind old (leading blocks)) (sym (left_at items c.loop-model.model-index c.model-item.result c.loop-model-test.true c.model-item.is)) ∙ c.loop-model.invariant
