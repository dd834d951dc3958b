use Rattle.std.proofs.Common.{rules, ◌≡◌, ap, sym, ◌∙◌, map, length, List, ℕ, Bor}
use Rattle.std.specs.Prelude.{position, nat_eq}
use Rattle.std.proofs.lemmas.List.{length-map}
use Rattle.psl_rules.specs.Parts.{ModelField}
use Rattle.psl_relations.specs.Back.{same_text}
use Rattle.psl_relations.proofs.model_index.ModelIndex.of.Goals as goal

pub invariant_of-result : goal.invariant_of-result
invariant_of-result c =
    let text : Bor (List ℕ) → List ℕ = λ name. name.now in
    let count : c.len-single.result ≡ length c.in_ok-ids.ids.items = search rules in (
      c.in_ok-held.ensures,
      c.in_ok-names.ensures ∙ ap (map (λ (field : ModelField). field.name.text)) (c.as_slice.ensures.value ∙ c.in_ok-held.ensures),
      λ name. c.in_ok-places.ensures name ∙ ap (position (same_text name)) c.as_slice-2.ensures.value,
      c.in_ok-keys.ensures,
      ap (λ n. nat_eq n 1) (count ∙ sym (length-map c.in_ok-ids.ids.items text) ∙ ap length c.in_ok-ids.ensures),
    )
