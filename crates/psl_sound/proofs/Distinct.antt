-- Names of models differ, and so do the names of a table's fields and the stored ones of its columns.
use Rattle.std.proofs.Common.{◌≡◌, ◌⊎◌, inl, inr, false, List, [], ◌∷◌, map, Some, refl, sym, ap, subst, ◌∙◌, true≢false}
use Rattle.std.specs.Prelude.{bytes_eq}
use Rattle.std.specs.List.{flat_map}
use Rattle.std.specs.Str.{str_to_ascii_lowercase}
use Rattle.psl_text.specs.declared.tree.Block.{Block}
use Rattle.psl_text.specs.declared.tree.Name.{Name}
use Rattle.psl_text.specs.declared.tree.Tree.{Tree}
use Rattle.psl_rules.specs.Accepted.{IsAccepted}
use Rattle.psl_rules.specs.Parts.{Spelling, ModelField, models, fields, failing, place}
use Rattle.psl_rules.specs.Names.{field_names}
use Rattle.psl_rules.specs.Relations.{Pair}
use Rattle.psl_rules.specs.Stored.{linked, lowered, alike, stored_field, stored_tables, stored_columns, wrongly_stored, stored_names_are_distinct}
use Rattle.qe_text.specs.Lists.{repeats, In}
use Rattle.qe_text.specs.Names.{is_stored_name}
use Rattle.qe_base.specs.declared.schema.Column.{Column}
use Rattle.qe_base.specs.declared.schema.Field.{Field}
use Rattle.qe_base.specs.declared.schema.Table.{Table}
use Rattle.qe_schema.specs.Names.{ModelNamesDiffer, HasDistinctNames, HaveDistinctNames}
use Rattle.qe_schema.proofs.Members.{From, from_map, in_either, in_place}
use Rattle.psl_sound.specs.SchemaOf.{model_number, column_of, column_fields, field_in, table_of, link_table, tables_of, schema_of}
use Rattle.psl_sound.proofs.Ids.{same_repeats}
use Rattle.psl_sound.proofs.Leading.{table_number}
use Rattle.psl_sound.proofs.Limits.{each_empty}
use Rattle.psl_sound.proofs.Named.{nothing_of, fields_differ}
use Rattle.psl_sound.proofs.Unbroken.{unbroken, none_left}
use Rattle.psl_sound.proofs.Rules.{stored_names_are_distinct_is_in}

-- ---- models

model_of : (tree : Tree) (table : Table) → In table (tables_of tree) → table.link ≡ false → From (table_of tree) (models tree) table
model_of tree table is_in own = by_kind (in_either (map (table_of tree) (models tree)) (map (link_table tree) (linked tree)) table is_in)
  where
    by_kind : In table (map (table_of tree) (models tree)) ⊎ In table (map (link_table tree) (linked tree)) → From (table_of tree) (models tree) table
    by_kind (inl model) = from_map (table_of tree) (models tree) table model
    by_kind (inr link) = absurd (true≢false (sym (ap (λ (t : Table). t.link) (from_map (link_table tree) (linked tree) table link).gives) ∙ own))

pub models_differ : (tree : Tree) → IsAccepted tree → ModelNamesDiffer (schema_of tree)
models_differ tree accepted one other first second (at_one, own) (at_other, second_own) same =
    let mine = model_of tree first (in_place (tables_of tree) one first at_one) own in
    let yours = model_of tree second (in_place (tables_of tree) other second at_other) second_own in
    let text : mine.item.name.text ≡ yours.item.name.text = sym (ap (λ (t : Table). t.name) mine.gives) ∙ same ∙ ap (λ (t : Table). t.name) yours.gives in
    sym (table_number tree accepted mine.item mine.member one (at_one ∙ ap Some mine.gives)) ∙ ap (model_number tree) text ∙ table_number tree accepted yours.item yours.member other (at_other ∙ ap Some yours.gives)

-- ---- within a table

field_texts : (tree : Tree) (model : Block) (all : List ModelField) → map (λ (field : Spelling × Field). field.0) (map (λ (field : ModelField). (field.name.text, field_in tree model field)) all) ≡ map (λ (name : Name). name.text) (map (λ (field : ModelField). field.name) all)
field_texts tree model [] = refl
field_texts tree model (field ∷ all) = ap (λ texts. field.name.text ∷ texts) (field_texts tree model all)

column_texts : (tree : Tree) (all : List ModelField) → map (λ (column : Column). str_to_ascii_lowercase column.stored) (map (column_of tree) all) ≡ map (λ (name : Name). name.text) (map lowered (map stored_field all))
column_texts tree [] = refl
column_texts tree (field ∷ all) = ap (λ texts. str_to_ascii_lowercase (stored_field field).text ∷ texts) (column_texts tree all)

stored_differ : (tree : Tree) → IsAccepted tree → (model : Block) → In model (models tree) → alike (stored_columns tree model) ≡ []
stored_differ tree accepted model is_in =
    let each = (none_left (wrongly_stored (stored_tables tree)) (flat_map (λ model. wrongly_stored (stored_columns tree model)) (models tree)) (unbroken tree accepted stored_names_are_distinct stored_names_are_distinct_is_in)).1 in
    let own = each_empty (λ model. wrongly_stored (stored_columns tree model)) (models tree) each model is_in in
    nothing_of place (alike (stored_columns tree model)) (none_left (failing (λ name. is_stored_name name.text) place (stored_columns tree model)) (map place (alike (stored_columns tree model))) own).1

of_model : (tree : Tree) → IsAccepted tree → (model : Block) → In model (models tree) → HasDistinctNames (table_of tree model)
of_model tree accepted model is_in = record {
  fields = ap (repeats bytes_eq) (field_texts tree model (fields model)) ∙ same_repeats [] (field_names model) (fields_differ tree accepted model is_in);
  stored = ap (repeats bytes_eq) (column_texts tree (column_fields tree model)) ∙ same_repeats [] (map lowered (stored_columns tree model)) (stored_differ tree accepted model is_in);
}

of_link : (tree : Tree) (pair : Pair) → HasDistinctNames (link_table tree pair)
of_link tree pair = record { fields = refl; stored = refl }

pub names_in : (tree : Tree) → IsAccepted tree → HaveDistinctNames (schema_of tree)
names_in tree accepted table is_in = by_kind (in_either (map (table_of tree) (models tree)) (map (link_table tree) (linked tree)) table is_in)
  where
    by_kind : In table (map (table_of tree) (models tree)) ⊎ In table (map (link_table tree) (linked tree)) → HasDistinctNames table
    by_kind (inl model) = let made = from_map (table_of tree) (models tree) table model in subst HasDistinctNames (sym made.gives) (of_model tree accepted made.item made.member)
    by_kind (inr link) = let made = from_map (link_table tree) (linked tree) table link in subst HasDistinctNames (sym made.gives) (of_link tree made.item)
