use Rattle.std.proofs.Common.{◌≡◌, ◌++◌, ◌||◌, Bool, List, map, filter, drop}
use Rattle.psl_text.specs.declared.tree.Word.TheVariants as word
use Rattle.psl_text.specs.declared.tree.Block.{Block}
use Rattle.psl_rules.specs.Parts.{same_word}
use Rattle.psl_fields.proofs.names.type_names.Given as goal

abbrev pub invariant-loop-block : goal.invariant-loop-block
invariant-loop-block l =
    let is_type : Block → Bool = λ block. same_word block.word word.Model || same_word block.word word.Enum in
    map (λ name. name.now) l.names.items ++ map (λ block. block.name) (filter is_type (drop l.block-index l.block-items)) ≡ map (λ block. block.name) (filter is_type l.block-items)
