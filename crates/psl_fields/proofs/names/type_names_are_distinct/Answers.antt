use Rattle.std.proofs.Common.{◌≡◌, ◌∙◌, ℕ, sym, ap, map, Bor, not, List}
use Rattle.qe_text.specs.Names.{reserved_names}
use Rattle.psl_text.specs.declared.tree.Name.{Name}
use Rattle.psl_rules.specs.Parts.{first, earlier, failing, place}
use Rattle.qe_text.specs.Lists.{repeats, is_among}
use Rattle.psl_rules.specs.Names.{same_name, type_names}
use Rattle.psl_parts.proofs.Firsts.{first_append}
use Rattle.psl_fields.proofs.names.type_names_are_distinct.Goals as goal

pub returns : goal.returns
returns c =
    let names_are = ap (map (λ (name : Bor Name). name.now)) c.as_slice-names.ensures.value ∙ c.in_ok-names.ensures in
    let reserved : List Name → List ℕ = failing (λ name. not (is_among name.text reserved_names)) place in
    let repeated : List Name → List ℕ = λ names. map place (repeats same_name names) in
    c.earlier.ensures ∙ ap (λ r. earlier r c.in_ok-repeated.repeated) (c.first_among.ensures ∙ ap (λ names. first (reserved names)) names_are)
    ∙ ap (earlier (first (reserved (type_names c.args.tree.now)))) (c.in_ok-repeated.ensures ∙ ap (λ names. first (repeated names)) names_are) ∙ sym (first_append (reserved (type_names c.args.tree.now)) (repeated (type_names c.args.tree.now)))
