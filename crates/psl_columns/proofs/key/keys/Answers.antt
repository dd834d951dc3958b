use Rattle.std.proofs.Common.{map, Bor, List, ℕ, ap, ◌∙◌}
use Rattle.std.specs.Prelude.{codes}
use Rattle.psl_sound.specs.SchemaOf.{column_names, keys_called}
use Rattle.psl_columns.proofs.Places.{keys_joined}
use Rattle.psl_columns.proofs.key.keys.Goals as goal

pub returns : goal.returns
returns c =
    let model = c.args.model.now in
    keys_joined (column_names c.args.types.now model) (map (λ (name : Bor (List ℕ)). name.now) c.as_slice-columns.result.now) c.new-keys.result c.push_keys.new.keys c.push_keys-2.new.keys (keys_called (codes "id") model) (keys_called (codes "unique") model)
    (ap (map (λ (name : Bor (List ℕ)). name.now)) c.as_slice-columns.ensures.value ∙ c.in_ok-columns.ensures) c.new-keys.ensures c.in_ok-push_keys.ensures c.in_ok-push_keys-2.ensures
