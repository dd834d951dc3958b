use Rattle.std.proofs.Common.{◌≡◌, List, Option, drop}
use Rattle.std.specs.Prelude.{bytes_eq}
use Rattle.std.specs.List.{find, filter_map}
use Rattle.psl_text.specs.declared.tree.Entry.{Entry}
use Rattle.psl_rules.specs.Parts.{ModelField, field_of}
use Rattle.psl_parts.proofs.fields.field_named.Given as goal

abbrev pub invariant-loop-entry : goal.invariant-loop-entry
invariant-loop-entry l =
    let named : List Entry → Option ModelField = λ entries. find (λ field. bytes_eq field.name.text l.name) (filter_map field_of entries) in
    named (drop l.entry-index l.entry-items) ≡ named l.entry-items
