use Rattle.std.proofs.Common.{◌≡◌, ◌∙◌, sym, ap}
use Rattle.psl_rules.specs.Parts.{first, earlier, fields}
use Rattle.psl_rules.specs.Keys.{optional_ids, one_id_of, ids_of, named_id}
use Rattle.psl_parts.proofs.Firsts.{first_append}
use Rattle.psl_keys.proofs.keys.broken_id.Goals as goal

pub returns : goal.returns
returns c =
    let model = c.args.model.now in
    let named = c.in_ok-named.ensures ∙ c.in_ok-named_id.ensures in
    c.earlier.ensures ∙ ap (λ r. earlier r c.first_optional_id-optional.result) c.in_ok-further_id.ensures
    ∙ ap (earlier (first (one_id_of model (ids_of model)))) (c.first_optional_id-optional.ensures ∙ ap (λ names. first (optional_ids names (fields model))) named)
    ∙ sym (first_append (one_id_of model (ids_of model)) (optional_ids (named_id model) (fields model)))
