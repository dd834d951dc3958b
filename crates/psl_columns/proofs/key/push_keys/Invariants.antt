use Rattle.std.proofs.Common.{◌≡◌, ◌++◌, List, map, drop}
use Rattle.std.specs.List.{flat_map}
use Rattle.psl_text.specs.declared.tree.Entry.{Entry}
use Rattle.qe_base.specs.declared.schema.Key.{Key}
use Rattle.psl_sound.specs.SchemaOf.{keys_called_in}
use Rattle.psl_columns.specs.Numbered.{numbered}
use Rattle.psl_columns.proofs.key.push_keys.Given as goal

abbrev pub invariant-loop-entry : goal.invariant-loop-entry
invariant-loop-entry l =
    let made : List Entry → List Key = λ entries. map (numbered (map (λ name. name.now) l.columns)) (flat_map (keys_called_in l.called) entries) in
    l.keys ++ made (drop l.entry-index l.entry-items) ≡ l.fn.keys ++ made l.entry-items
