-- What the rules on foreign keys say of a relation.
use Rattle.std.proofs.Common.{◌≡◌, ◌⊎◌, inl, inr, ℕ, Bool, true, false, not, ◌&&◌, ◌||◌, filter, List, [], ◌∷◌, map, length, Some, unwrap_or, option_map, refl, sym, ap, subst, ◌∙◌, true≢false}
use Rattle.std.specs.Prelude.{slice_get, nat_le, ◌==◌}
use Rattle.std.specs.List.{list_all, zip}
use Rattle.std.proofs.lemmas.Bool.{and_parts, eqb-true}
use Rattle.psl_text.specs.declared.tree.Block.{Block}
use Rattle.psl_text.specs.declared.tree.Tree.{Tree}
use Rattle.psl_rules.specs.Accepted.{IsAccepted}
use Rattle.psl_rules.specs.Parts.{Spelling, ModelField, models}
use Rattle.psl_rules.specs.Names.{is_optional}
use Rattle.psl_rules.specs.Attributes.{name_columns, names_column, are_distinct_names}
use Rattle.psl_rules.specs.Relations.{End, ends, end_place, has_fields, own_names, other_names, leads_to, is_partner, relation_name, same_relation, partners_among}
use Rattle.psl_rules.specs.Foreign.{holders, fields_named, names_columns, refers_to_columns, references_are_columns, have_same_type, has_types_of, has_types_among, references_have_the_type, is_required, key_fields, is_all_or_none, foreign_keys_are_whole}
use Rattle.qe_text.specs.Lists.{In}
use Rattle.qe_base.specs.declared.schema.Column.{Column}
use Rattle.psl_sound.specs.SchemaOf.{number_among, model_number, columns_of, column_names, column_numbers, relation_between, schema_of}
use Rattle.psl_sound.proofs.Follows.{between, own_model}
use Rattle.qe_schema.proofs.Members.{from_filter, passes, in_filter}
use Rattle.psl_sound.proofs.Unbroken.{unbroken, all_pass}
use Rattle.qe_schema.specs.References.{AgreesInColumns, AgreeInColumns}
use Rattle.qe_schema.specs.Tables.{no_table, column_at}
use Rattle.psl_sound.proofs.Named.{table_at_number}
use Rattle.psl_sound.proofs.Agreeing.{of_names, same_kinds, all_optional}
use Rattle.psl_sound.proofs.Rules.{foreign_keys_are_whole_is_in, references_are_columns_is_in, references_have_the_type_is_in}

-- a relation's two ends: their models, and that the one leads to the other
pub record Ends (tree : Tree) (holder target : End) : Type 0 where
  pub own : In holder.model (models tree)
  pub other : In target.model (models tree)
  pub leads : leads_to holder target.model ≡ true

pub ends_of_relation : (tree : Tree) (holder target : End) → In holder (holders tree) → In target (partners_among (ends tree) holder) → Ends tree holder target
ends_of_relation tree holder target holds pairs =
    let held = from_filter has_fields (ends tree) holder holds in
    let partner = from_filter (is_partner holder) (ends tree) target pairs in
    record { own = own_model tree holder held.0; other = own_model tree target partner.0; leads = (and_parts _ _ (and_parts _ _ (and_parts (leads_to holder target.model && leads_to target holder.model && same_relation (relation_name holder) (relation_name target)) (not (holder.number == target.number)) partner.1).0).0).0 }

-- the names of both sides are of columns, and equally many
pub record Columns (tree : Tree) (holder target : End) : Type 0 where
  pub own : list_all (names_column tree holder.model) (own_names holder) ≡ true
  pub other : list_all (names_column tree target.model) (other_names holder) ≡ true
  pub counted : length (own_names holder) ≡ length (other_names holder)

pub columns_of_relation : (tree : Tree) → IsAccepted tree → (holder target : End) → In holder (holders tree) → Ends tree holder target → Columns tree holder target
columns_of_relation tree accepted holder target holds both =
    let kept = all_pass (names_columns tree (models tree)) end_place (holders tree) (unbroken tree accepted references_are_columns references_are_columns_is_in) in
    let right : names_columns tree (models tree) holder ≡ true = passes (names_columns tree (models tree)) (holders tree) holder kept holds in
    let parts = and_parts (name_columns tree holder.model (own_names holder) && refers_to_columns tree (models tree) holder) (length (own_names holder) == length (other_names holder)) right in
    let names = and_parts (name_columns tree holder.model (own_names holder)) (refers_to_columns tree (models tree) holder) parts.0 in
    let theirs : name_columns tree target.model (other_names holder) ≡ true = passes (λ model. name_columns tree model (other_names holder)) (filter (leads_to holder) (models tree)) target.model names.1 (in_filter (leads_to holder) (models tree) target.model both.other both.leads) in
    record {
      own = (and_parts (nat_le 1 (length (own_names holder)) && are_distinct_names (own_names holder)) (list_all (names_column tree holder.model) (own_names holder)) names.0).1;
      other = (and_parts (nat_le 1 (length (other_names holder)) && are_distinct_names (other_names holder)) (list_all (names_column tree target.model) (other_names holder)) theirs).1;
      counted = eqb-true (length (own_names holder)) (length (other_names holder)) parts.1;
    }

-- what columns have, by their numbers and by their names
pub map_twice : {A B C : Type 0} (f : B → C) (g : A → B) (xs : List A) → map f (map g xs) ≡ map (λ x. f (g x)) xs
map_twice f g [] = refl
map_twice f g (x ∷ xs) = ap (λ ys. f (g x) ∷ ys) (map_twice f g xs)

pub by_names : {A : Type 0} (what : Column → A) (tree : Tree) → IsAccepted tree → (model : Block) → In model (models tree) → (names : List Spelling)
    → map (λ column. option_map what (column_at (schema_of tree) (model_number tree model.name.text) column)) (column_numbers tree model names) ≡ of_names what tree model names
by_names what tree accepted model is_in names =
    ap (λ o. map (λ column. option_map what (slice_get (unwrap_or o no_table).columns column)) (column_numbers tree model names)) (table_at_number tree accepted model is_in)
    ∙ map_twice (λ column. option_map what (slice_get (columns_of tree model) column)) (number_among (column_names tree model)) names

same_length : {A B : Type 0} (x : B) (f : A → ℕ) (xs : List A) → map (λ n. x) (map f xs) ≡ map (λ y. x) xs
same_length x f xs = map_twice (λ n. x) f xs

agrees : (tree : Tree) → IsAccepted tree → (holder target : End) → In holder (holders tree) → In target (partners_among (ends tree) holder) → AgreesInColumns (schema_of tree) (relation_between tree holder target)
agrees tree accepted holder target holds pairs = record {
  kinds = by_names (λ column. column.kind) tree accepted holder.model both.own (own_names holder) ∙ same_kinds tree accepted holder.model target.model both.own both.other (own_names holder) (other_names holder) columns.own columns.other columns.counted types
      ∙ sym (by_names (λ column. column.kind) tree accepted target.model both.other (other_names holder));
  optional = by_names (λ column. column.optional) tree accepted holder.model both.own (own_names holder) ∙ all_optional tree accepted holder.model both.own (own_names holder) (is_optional holder.field.mark) columns.own each
      ∙ sym (same_length (Some (is_optional holder.field.mark)) (number_among (column_names tree holder.model)) (own_names holder));
}
  where
    both : Ends tree holder target
    both = ends_of_relation tree holder target holds pairs

    columns : Columns tree holder target
    columns = columns_of_relation tree accepted holder target holds both

    typed : has_types_among (models tree) holder ≡ true
    typed = passes (has_types_among (models tree)) (holders tree) holder (all_pass (has_types_among (models tree)) end_place (holders tree) (unbroken tree accepted references_have_the_type references_have_the_type_is_in)) holds

    types : list_all have_same_type (zip (fields_named holder.model (own_names holder)) (fields_named target.model (other_names holder))) ≡ true
    types = passes (has_types_of holder) (filter (leads_to holder) (models tree)) target.model typed (in_filter (leads_to holder) (models tree) target.model both.other both.leads)

    whole : is_all_or_none holder ≡ true
    whole = passes is_all_or_none (holders tree) holder (all_pass is_all_or_none end_place (holders tree) (unbroken tree accepted foreign_keys_are_whole foreign_keys_are_whole_is_in)) holds

    not_true : (b : Bool) → not b ≡ true → b ≡ false
    not_true true is = absurd (true≢false (sym is))
    not_true false is = refl

    either : (a b : Bool) → (a || b) ≡ true → (a ≡ true) ⊎ (b ≡ true)
    either true b is = inl refl
    either false b is = inr is

    by_side : (is_required holder.field && list_all is_required (key_fields holder) ≡ true) ⊎ (is_optional holder.field.mark && list_all (λ field. is_optional field.mark) (key_fields holder) ≡ true) → (field : ModelField) → In field (key_fields holder) → is_optional field.mark ≡ is_optional holder.field.mark
    by_side (inl required) field among =
        let parts = and_parts (is_required holder.field) (list_all is_required (key_fields holder)) required in
        not_true (is_optional field.mark) (passes is_required (key_fields holder) field parts.1 among) ∙ sym (not_true (is_optional holder.field.mark) parts.0)
    by_side (inr optional) field among =
        let parts = and_parts (is_optional holder.field.mark) (list_all (λ field. is_optional field.mark) (key_fields holder)) optional in
        passes (λ (field : ModelField). is_optional field.mark) (key_fields holder) field parts.1 among ∙ sym parts.0

    each : (field : ModelField) → In field (fields_named holder.model (own_names holder)) → is_optional field.mark ≡ is_optional holder.field.mark
    each = by_side (either (is_required holder.field && list_all is_required (key_fields holder)) (is_optional holder.field.mark && list_all (λ field. is_optional field.mark) (key_fields holder)) whole)

pub agree_in : (tree : Tree) → IsAccepted tree → AgreeInColumns (schema_of tree)
agree_in tree accepted relation is_in =
    let all = between tree relation is_in in
    subst (AgreesInColumns (schema_of tree)) (sym all.gives) (agrees tree accepted all.holder all.target all.holds all.pairs)
