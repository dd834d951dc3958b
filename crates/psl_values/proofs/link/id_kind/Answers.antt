use Rattle.std.proofs.Common.{◌≡◌, List, ℕ, map, IfOk, ap, subst, ◌∙◌, Bor}
use Rattle.psl_rules.specs.Parts.{ModelField}
use Rattle.psl_rules.specs.Keys.{id_names}
use Rattle.psl_rules.specs.Foreign.{fields_named}
use Rattle.psl_sound.specs.SchemaOf.{first_kind, kind_of}
use Rattle.psl_values.proofs.link.id_kind.Goals as goal

pub returns : goal.returns
returns c =
    let names : map (λ (name : Bor (List ℕ)). name.now) c.as_slice.result.now ≡ id_names c.args.model.now = ap (map (λ (name : Bor (List ℕ)). name.now)) c.as_slice.ensures.value ∙ c.in_ok-names.ensures in
    let fields : c.as_slice-2.result.now ≡ fields_named c.args.model.now (id_names c.args.model.now) = c.as_slice-2.ensures.value ∙ c.in_ok-fields.ensures ∙ ap (fields_named c.args.model.now) names in
    subst (λ (all : List ModelField). IfOk c.first_kind.result (λ kind. kind ≡ first_kind (map (λ field. kind_of c.args.enums.now field.type.text) all))) fields c.first_kind.ensures
