-- How much of each the value of an accepted tree has, and what its relations are between.
use Rattle.std.proofs.Common.{◌≡◌, ℕ, ◌+◌, ◌<◌, ◌≤◌, ◌*◌, length, arith}
use Rattle.psl_text.specs.declared.tree.Tree.{Tree}
use Rattle.psl_rules.specs.Accepted.{IsAccepted}
use Rattle.psl_rules.specs.Parts.{models}
use Rattle.psl_rules.specs.Stored.{linked}
use Rattle.qe_schema.specs.Limits.{IsSmall, AreNarrow}
use Rattle.qe_schema.specs.References.{ReferRightly}
use Rattle.psl_sound.specs.SchemaOf.{schema_of, tables_of, relations_of}
use Rattle.psl_sound.proofs.Limits.{tables_counted, models_and_links_within, relations_within}
use Rattle.psl_sound.proofs.Follows.{few_columns, relation_tables, reference_lengths, nulls_are_optional}

product : (n : ℕ) → n ≤ 256 * 128 → n ≤ 32768
product n most = omega arith

few_tables : (tree : Tree) → IsAccepted tree → length (tables_of tree) ≤ 256
few_tables tree accepted =
    let counted : length (tables_of tree) ≡ length (models tree) + length (linked tree) = tables_counted tree in
    let most : length (models tree) + length (linked tree) ≤ 256 = models_and_links_within tree accepted in
    omega arith

pub small_in : (tree : Tree) → IsAccepted tree → IsSmall (schema_of tree)
small_in tree accepted = record { tables = few_tables tree accepted; relations = product (length (relations_of tree)) (relations_within tree accepted) }

pub narrow_in : (tree : Tree) → IsAccepted tree → AreNarrow (schema_of tree)
narrow_in tree accepted table is_in = let few = few_columns tree accepted table is_in in record { columns = few.0; fields = few.1 }

pub right_in : (tree : Tree) → IsAccepted tree → ReferRightly (schema_of tree)
right_in tree accepted relation is_in =
    let both = relation_tables tree accepted relation is_in in
    let counted : length (tables_of tree) ≡ length (models tree) + length (linked tree) = tables_counted tree in
    let lengths = reference_lengths tree accepted relation is_in in
    let nulls = nulls_are_optional tree accepted relation is_in in
    let child : relation.child.0 < length (models tree) = both.0 in
    let parent : relation.parent.0 < length (models tree) = both.1 in
    record { child = omega arith; parent = omega arith; same = lengths.0; some = lengths.1; on_delete = nulls.0; on_update = nulls.1 }
