use Rattle.std.proofs.Common.{◌≡◌, ◌++◌, List, map, sym, ap, ◌∙◌}
use Rattle.std.specs.List.{filter_map}
use Rattle.std.proofs.lemmas.List.{drop_all, append-nil}
use Rattle.psl_text.specs.declared.tree.Block.{Block}
use Rattle.psl_text.specs.declared.tree.Entry.{Entry}
use Rattle.psl_rules.specs.Parts.{Spelling, field_of}
use Rattle.qe_base.specs.declared.schema.Field.{Field}
use Rattle.psl_values.specs.Shown.{shown_field}
use Rattle.psl_values.proofs.Shown.{all_shown}
use Rattle.psl_values.proofs.numbered.Numbered.fields.Goals as goal

pub returns : goal.returns
returns c =
    let shown : List Entry → List (Spelling × Field) = λ entries. map (shown_field c.args.self.now c.args.model.now) (filter_map field_of entries) in
    let old : List (Spelling × Field) = c.loop-entry.fields in
    sym (append-nil old) ∙ ap (λ (entries : List Entry). old ++ shown entries) (sym (drop_all c.loop-entry.entry-index c.as_slice-entry-items.result.now c.loop-entry-test.false)) ∙ c.loop-entry.invariant
    ∙ ap shown (c.as_slice-entry-items.ensures ∙ ap (λ (block : Block). block.entries) c.model-block.ensures) ∙ all_shown c.args.self.now c.args.model.now
