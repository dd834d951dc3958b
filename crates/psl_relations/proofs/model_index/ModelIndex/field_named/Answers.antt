use Rattle.std.proofs.Common.{rules, ◌≡◌, ap, sym, ◌∙◌, List}
use Rattle.std.specs.Prelude.{option_copied, slice_get}
use Rattle.psl_text.specs.declared.tree.Block.{Block}
use Rattle.psl_rules.specs.Parts.{ModelField}
use Rattle.psl_rules.specs.Foreign.{field_named}
use Rattle.psl_parts.proofs.Looked.{got_at}
use Rattle.psl_relations.proofs.Looked.{found_field, no_field}
use Rattle.psl_relations.proofs.model_index.ModelIndex.field_named.Goals as goal

pub returns-in-Some : goal.returns-in-Some
returns-in-Some c =
    let same : c.self.inside.model.now ≡ c.args.self.now = search rules in
    got_at c.get-in-Some.result c.as_slice.result.now c.in-Some.place.now c.get-in-Some.ensures.lookup.0 c.get-in-Some.ensures.lookup.1 ∙ ap (λ (fields : List ModelField). slice_get fields c.in-Some.place.now) c.as_slice.ensures.value
    ∙ found_field c.self.inside.names.items c.self.inside.held.items _ c.args.name.now c.in-Some.place.now (sym (ap option_copied c.in-Some.is) ∙ c.get.ensures.value ∙ c.self.invariant.2 c.args.name) c.self.invariant.1 c.self.invariant.0
    ∙ ap (λ (model : Block). field_named model c.args.name.now) same

pub returns-in-None : goal.returns-in-None
returns-in-None c =
    let same : c.self.inside.model.now ≡ c.args.self.now = search rules in
    no_field c.self.inside.names.items _ c.args.name.now (sym (ap option_copied c.in-None.is) ∙ c.get.ensures.value ∙ c.self.invariant.2 c.args.name) c.self.invariant.1 ∙ ap (λ (model : Block). field_named model c.args.name.now) same
