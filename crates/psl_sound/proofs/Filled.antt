-- In the value of an accepted tree each column is filled with values of its own.
use Rattle.std.proofs.Common.{◌≡◌, ◌⊎◌, inl, inr, ℕ, zero, suc, Bool, true, false, cond, not, ◌||◌, List, [], ◌∷◌, map, find, Option, Some, None, IfSome, option_map, option_and_then, unwrap_or, refl, sym, ap, subst, ◌∙◌, true≢false, codes}
use Rattle.std.specs.Prelude.{bytes_eq, slice_get, if◌then◌else◌}
use Rattle.std.specs.List.{flat_map}
use Rattle.std.proofs.lemmas.Slice.Eq.{bytes_eq-Decides}
use Rattle.psl_text.specs.declared.tree.Attribute.{Attribute}
use Rattle.psl_text.specs.declared.tree.Block.{Block}
use Rattle.psl_text.specs.declared.tree.Term.{Term}
use Rattle.psl_text.specs.declared.tree.Tree.{Tree}
use Rattle.psl_rules.specs.Accepted.{IsAccepted}
use Rattle.psl_rules.specs.Parts.{Spelling, ModelField, models, fields, block_attributes, is_called, has_attribute, failing}
use Rattle.psl_rules.specs.Names.{is_column, names_model, is_value_type}
use Rattle.psl_rules.specs.Attributes.{attribute_place, stands_rightly, is_over_columns, wrong_on_fields, wrong_attributes, attributes_stand_rightly}
use Rattle.psl_rules.specs.Defaults.{default_in, fits_type, default_fits, defaults_fit}
use Rattle.psl_rules.specs.Defaults as ruled
use Rattle.psl_rules.specs.Relations.{Pair}
use Rattle.psl_rules.specs.Stored.{linked}
use Rattle.qe_text.specs.Lists.{In}
use Rattle.qe_base.specs.declared.value.Kind.TheVariants as kind
use Rattle.qe_base.specs.declared.schema.Column.{Column}
use Rattle.qe_base.specs.declared.schema.Table.{Table}
use Rattle.qe_base.specs.declared.schema.Fill.TheVariants.{Absent}
use Rattle.psl_sound.specs.SchemaOf.{choices_of, kind_of, fill_in, column_of, column_fields, table_of, link_table, tables_of, schema_of}
use Rattle.qe_schema.proofs.Members.{first_at, From, from_map, in_either, from_filter, passes, some_same, not_some, in_place}
use Rattle.psl_sound.proofs.Limits.{each_empty}
use Rattle.psl_sound.proofs.Unbroken.{unbroken, all_pass, none_left}
use Rattle.qe_schema.specs.Tables.{no_table}
use Rattle.qe_schema.specs.Fields.{FillSuits, ColumnSuits, ColumnsSuit}
use Rattle.psl_sound.proofs.Fills.{fill_in_suits}
use Rattle.psl_sound.proofs.Rules.{attributes_stand_rightly_is_in, defaults_fit_is_in}

abbrev pub Passing : {A : Type 0} → (A → Bool) → List A → Option A → Type 0
Passing p xs o = IfSome o (λ x. In x xs × (p x ≡ true))

further : {A : Type 0} (p : A → Bool) (x : A) (xs : List A) (o : Option A) → Passing p xs o → Passing p (x ∷ xs) o
unfolding In
further p x xs None right = tt
further p x xs (Some y) right = (inr right.0, right.1)

found_by : {A : Type 0} (p : A → Bool) (x : A) (xs : List A) (b : Bool) → p x ≡ b → (o : Option A) → Passing p xs o → Passing p (x ∷ xs) (cond b (Some x) o)
unfolding In
found_by p x xs true is o right = (inl refl, is)
found_by p x xs false is o right = further p x xs o right

-- what is found is there, and passes
pub find_right : {A : Type 0} (p : A → Bool) (xs : List A) → Passing p xs (find p xs)
find_right p [] = tt
find_right p (x ∷ xs) = found_by p x xs (p x) refl (find p xs) (find_right p xs)

default_right : (tree : Tree) → IsAccepted tree → (model : Block) → In model (models tree) → (field : ModelField) → In field (fields model) → (attribute : Attribute) → In attribute field.attributes → default_fits tree field attribute ≡ true
default_right tree accepted model is_in field among attribute there =
    let of_model = each_empty (λ (model : Block). flat_map (λ field. failing (default_fits tree field) attribute_place field.attributes) (fields model)) (models tree) (unbroken tree accepted defaults_fit defaults_fit_is_in) model is_in in
    let of_field = each_empty (λ (field : ModelField). failing (default_fits tree field) attribute_place field.attributes) (fields model) of_model field among in
    passes (default_fits tree field) field.attributes attribute (all_pass (default_fits tree field) attribute_place field.attributes of_field) there

place_right : (tree : Tree) → IsAccepted tree → (model : Block) → In model (models tree) → (field : ModelField) → In field (fields model) → (attribute : Attribute) → In attribute field.attributes → stands_rightly tree field.type.text attribute ≡ true
place_right tree accepted model is_in field among attribute there =
    let of_model = each_empty (wrong_attributes tree) (models tree) (unbroken tree accepted attributes_stand_rightly attributes_stand_rightly_is_in) model is_in in
    let on_fields = (none_left (wrong_on_fields tree (fields model)) (failing (is_over_columns tree model) attribute_place (block_attributes model)) of_model).0 in
    let of_field = each_empty (λ (field : ModelField). failing (stands_rightly tree field.type.text) attribute_place field.attributes) (fields model) on_fields field among in
    passes (stands_rightly tree field.type.text) field.attributes attribute (all_pass (stands_rightly tree field.type.text) attribute_place field.attributes of_field) there

fill_suits : (tree : Tree) → IsAccepted tree → (model : Block) → In model (models tree) → (field : ModelField) → In field (fields model) → FillSuits (choices_of tree) (column_of tree field) (column_of tree field).fill
fill_suits tree accepted model is_in field among = by_attribute (find (is_called (codes "default")) field.attributes) (find_right (is_called (codes "default")) field.attributes)
  where
    by_default : (default : Option Term) → ruled.passes (fits_type tree field.type.text) default ≡ true → FillSuits (choices_of tree) (column_of tree field) (unwrap_or (option_map (fill_in tree field.type.text) default) Absent)
    by_default None fits = tt
    by_default (Some default) fits = fill_in_suits tree accepted field.type.text default (column_of tree field) refl fits

    by_attribute : (o : Option Attribute) → Passing (is_called (codes "default")) field.attributes o → FillSuits (choices_of tree) (column_of tree field) (unwrap_or (option_map (fill_in tree field.type.text) (option_and_then default_in o)) Absent)
    by_attribute None right = tt
    by_attribute (Some attribute) right = by_default (default_in attribute) (sym (ap (λ b. not b || ruled.passes (fits_type tree field.type.text) (default_in attribute)) right.1) ∙ default_right tree accepted model is_in field among attribute right.0)

-- a column that each update sets is of moments
updated_suits : (tree : Tree) → IsAccepted tree → (model : Block) → In model (models tree) → (field : ModelField) → In field (fields model) → has_attribute (codes "updatedAt") field.attributes ≡ true → kind_of tree field.type.text ≡ kind.Moment
updated_suits tree accepted model is_in field among has =
    let found = first_at (is_called (codes "updatedAt")) field.attributes has in
    let name : found.item.name.text ≡ codes "updatedAt" = (bytes_eq-Decides found.item.name.text (codes "updatedAt")).0 found.passes in
    let type : bytes_eq field.type.text (codes "DateTime") ≡ true =
    sym (ap (λ (text : Spelling). if bytes_eq text (codes "relation") then names_model tree field.type.text else (if bytes_eq text (codes "updatedAt") then bytes_eq field.type.text (codes "DateTime") else is_value_type tree field.type.text)) name)
    ∙ place_right tree accepted model is_in field among found.item found.member in
    ap (kind_of tree) ((bytes_eq-Decides field.type.text (codes "DateTime")).0 type)

column_suits : (tree : Tree) → IsAccepted tree → (model : Block) → In model (models tree) → (field : ModelField) → In field (fields model) → ColumnSuits (choices_of tree) (column_of tree field)
column_suits tree accepted model is_in field among = record { fill = fill_suits tree accepted model is_in field among; updated = updated_suits tree accepted model is_in field among }

link_column_suits : (tree : Tree) (pair : Pair) (number : ℕ) (column : Column) → slice_get (link_table tree pair).columns number ≡ Some column → ColumnSuits (choices_of tree) column
link_column_suits tree pair zero column at = subst (ColumnSuits (choices_of tree)) (some_same _ _ at) (record { fill = tt; updated = λ is. absurd (true≢false (sym is)) })
link_column_suits tree pair (suc zero) column at = subst (ColumnSuits (choices_of tree)) (some_same _ _ at) (record { fill = tt; updated = λ is. absurd (true≢false (sym is)) })
link_column_suits tree pair (suc (suc number)) column at = absurd (not_some column at)

pub columns_suit : (tree : Tree) → IsAccepted tree → ColumnsSuit (schema_of tree)
columns_suit tree accepted table number column is = by_table (slice_get (tables_of tree) table) refl
  where
    in_table : (t : Table) → slice_get (tables_of tree) table ≡ Some t → slice_get t.columns number ≡ Some column
    in_table t at = sym (ap (λ (o : Option Table). slice_get (unwrap_or o no_table).columns number) at) ∙ is

    of_model : (t : Table) → slice_get (tables_of tree) table ≡ Some t → From (table_of tree) (models tree) t → ColumnSuits (choices_of tree) column
    of_model t at made =
        let column_in = from_map (column_of tree) (column_fields tree made.item) column (in_place (table_of tree made.item).columns number column (in_table (table_of tree made.item) (at ∙ ap Some made.gives))) in
        subst (ColumnSuits (choices_of tree)) (sym column_in.gives) (column_suits tree accepted made.item made.member column_in.item (from_filter (is_column tree) (fields made.item) column_in.item column_in.member).0)

    by_kind : (t : Table) → slice_get (tables_of tree) table ≡ Some t → In t (map (table_of tree) (models tree)) ⊎ In t (map (link_table tree) (linked tree)) → ColumnSuits (choices_of tree) column
    by_kind t at (inl model) = of_model t at (from_map (table_of tree) (models tree) t model)
    by_kind t at (inr link) = let made = from_map (link_table tree) (linked tree) t link in link_column_suits tree made.item number column (in_table (link_table tree made.item) (at ∙ ap Some made.gives))

    by_table : (o : Option Table) → slice_get (tables_of tree) table ≡ o → ColumnSuits (choices_of tree) column
    by_table None at = absurd (not_some column (sym (ap (λ (o : Option Table). slice_get (unwrap_or o no_table).columns number) at) ∙ is))
    by_table (Some t) at = by_kind t at (in_either (map (table_of tree) (models tree)) (map (link_table tree) (linked tree)) t (in_place (tables_of tree) table t at))
