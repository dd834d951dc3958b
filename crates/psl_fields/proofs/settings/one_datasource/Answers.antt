use Rattle.std.proofs.Common.{◌≡◌, ◌∙◌, ap, map}
use Rattle.std.proofs.lemmas.List.{take_rest}
use Rattle.psl_rules.specs.Parts.{first}
use Rattle.psl_parts.proofs.Firsts.{others_named}
use Rattle.psl_fields.proofs.settings.one_datasource.Goals as goal

pub returns : goal.returns
returns c =
    let blocks = c.as_slice.result.now in
    c.first_name.ensures ∙ ap (λ rest. first (map (λ block. block.now.name.at) rest)) (take_rest blocks 1)
    ∙ others_named blocks _ c.args.tree.now.length (ap (map (λ block. block.now)) c.as_slice.ensures.value ∙ c.in_ok-sources.ensures) c.in-len1-up.len_at_least
