use Rattle.std.proofs.Common.{◌≡◌, ◌++◌, ◌∙◌, List, ℕ, Option, Bor, map, filter, sym, ap}
use Rattle.std.specs.Prelude.{◌&&◌}
use Rattle.psl_text.specs.declared.tree.Name.{Name}
use Rattle.psl_rules.specs.declared.key.Key.{Key}
use Rattle.psl_rules.specs.Parts.{first, earlier, place}
use Rattle.qe_text.specs.Lists.{repeats}
use Rattle.psl_rules.specs.Names.{same_name}
use Rattle.psl_rules.specs.Keys.{key_place, same_fields, is_long, names_field, keys_of}
use Rattle.psl_parts.proofs.Firsts.{first_append}
use Rattle.psl_keys.proofs.keys.broken_key.Goals as goal

pub returns : goal.returns
returns c =
    let model = c.args.model.now in
    let keys = c.as_slice-keys.result.now in
    let keys_are = c.as_slice-keys.ensures.value ∙ c.in_ok-keys.ensures in
    let names_are = ap (map (λ (name : Bor Name). name.now)) c.as_slice.ensures.value ∙ c.in_ok-names.ensures in
    let repeated : List Key → List ℕ = λ keys. map key_place (repeats same_fields keys) in
    let renamed : List Key → List ℕ = λ keys. map place (repeats same_name (map (λ key. key.name) (filter is_long keys))) in
    let named : List Key → List ℕ = λ keys. map key_place (filter (λ key. is_long key && names_field model key.name.text) keys) in
    let all : List Key → Option ℕ = λ keys. earlier (earlier (first (repeated keys)) (first (renamed keys))) (first (named keys)) in
    let renamed_is = c.in_ok-repeated.ensures ∙ ap (λ names. first (map place (repeats same_name names))) names_are in
    c.earlier-2.ensures ∙ ap (earlier c.earlier.result) c.in_ok-named.ensures
    ∙ ap (λ r. earlier r (first (named keys))) (c.earlier.ensures ∙ ap (λ r. earlier r c.in_ok-repeated.repeated) c.in_ok-same.ensures ∙ ap (earlier (first (repeated keys))) renamed_is) ∙ ap all keys_are
    ∙ ap (λ r. earlier r (first (named (keys_of model)))) (sym (first_append (repeated (keys_of model)) (renamed (keys_of model)))) ∙ sym (first_append (repeated (keys_of model) ++ renamed (keys_of model)) (named (keys_of model)))
