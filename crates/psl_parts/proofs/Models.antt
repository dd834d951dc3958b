-- What is found in models and enums, entry by entry, and in a tree, block by block.
use Rattle.std.proofs.Common.{◌++◌, filter, Bool}
use Rattle.std.specs.List.{flat_map, filter_map}
use Rattle.psl_text.specs.declared.tree.Attribute.{Attribute}
use Rattle.psl_text.specs.declared.tree.Block.{Block}
use Rattle.psl_text.specs.declared.tree.Word.{Word}
use Rattle.psl_rules.specs.Parts.{Places, ModelField, Member, first, failing, field_of, member_of, block_attribute_of, same_word}
use Rattle.psl_rules.specs.Attributes.{attribute_place}
use Rattle.psl_parts.proofs.Parted.{IsParted, parted_flat_map, parted_filter, parted_filter_map, parted_failing, parted_both}

-- in the fields of a model
pub parted_fields : (at_field : ModelField → Places) → IsParted (λ entries. first (flat_map at_field (filter_map field_of entries)))
parted_fields at_field = parted_filter_map field_of (λ fields. first (flat_map at_field fields)) (parted_flat_map at_field)

-- in the fields of a model and in its own attributes
pub parted_model : (at_field : ModelField → Places) (holds : Attribute → Bool)
    → IsParted (λ entries. first (flat_map at_field (filter_map field_of entries) ++ failing holds attribute_place (filter_map block_attribute_of entries)))
parted_model at_field holds =
    parted_both (λ entries. flat_map at_field (filter_map field_of entries)) (λ entries. failing holds attribute_place (filter_map block_attribute_of entries))
    (parted_fields at_field)
    (parted_filter_map block_attribute_of (λ attributes. first (failing holds attribute_place attributes)) (parted_failing holds attribute_place))

-- in the members of an enum and in its own attributes
pub parted_enum : (at_member : Member → Places) (holds : Attribute → Bool)
    → IsParted (λ entries. first (flat_map at_member (filter_map member_of entries) ++ failing holds attribute_place (filter_map block_attribute_of entries)))
parted_enum at_member holds =
    parted_both (λ entries. flat_map at_member (filter_map member_of entries)) (λ entries. failing holds attribute_place (filter_map block_attribute_of entries))
    (parted_filter_map member_of (λ members. first (flat_map at_member members)) (parted_flat_map at_member))
    (parted_filter_map block_attribute_of (λ attributes. first (failing holds attribute_place attributes)) (parted_failing holds attribute_place))

-- in the blocks that begin with a word
pub parted_blocks : (in_block : Block → Places) (word : Word) → IsParted (λ blocks. first (flat_map in_block (filter (λ block. same_word block.word word) blocks)))
parted_blocks in_block word = parted_filter (λ block. same_word block.word word) (λ blocks. first (flat_map in_block blocks)) (parted_flat_map in_block)
