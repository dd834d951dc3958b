-- The value of a tree: its tables, relations, links and enums.
use Rattle.std.specs.Prelude as Prelude
use Rattle.std.specs.Prelude.{ℕ, ◌+◌, List, [], ◌∷◌, ◌++◌, true, false, ◌&&◌, ◌||◌, length, map, filter, position, Option, Some, None, option_map, option_and_then, unwrap_or, bytes_eq, codes, if◌then◌else◌}
use Rattle.std.specs.List.{flat_map, enumerate_from, find}
use Rattle.std.specs.Option.{option_or}
use Rattle.std.specs.Ordering.{nat_cmp, is_lt}
use Rattle.std.specs.Cmp.Lexicographic.{slice_cmp}
use Rattle.psl_text.specs.declared.tree.Block.{Block}
use Rattle.psl_text.specs.declared.tree.Entry.{Entry}
use Rattle.psl_text.specs.declared.tree.Entry.TheVariants as entry
use Rattle.psl_text.specs.declared.tree.Term.{Term}
use Rattle.psl_text.specs.declared.tree.Tree.{Tree}
use Rattle.psl_rules.specs.Parts.{Spelling, ModelField, models, enums, fields, members, block_attributes, is_called, has_attribute, attribute_named, given_names, given_text, text_in, name_in}
use Rattle.psl_rules.specs.Names.{is_column, is_optional}
use Rattle.psl_rules.specs.Defaults.{default_in, number_in}
use Rattle.psl_rules.specs.Keys.{key_over, id_names}
use Rattle.psl_rules.specs.Relations.{End, Pair, ends, is_list, is_partner, partners_among, own_names, other_names}
use Rattle.psl_rules.specs.Foreign.{holders, fields_named, action}
use Rattle.psl_rules.specs.Stored.{mapped, stored_link, linked}
use Rattle.psl_rules.specs.declared.key.Key as ruled
use Rattle.qe_scalars.specs.Numbers.{is_small, is_big, number_within}
use Rattle.qe_scalars.specs.Moments.{moment_of}
use Rattle.qe_scalars.specs.Bytes.{bytes_of}
use Rattle.qe_base.specs.declared.value.Kind.{Kind}
use Rattle.qe_base.specs.declared.value.Kind.TheVariants as kind
use Rattle.qe_base.specs.declared.value.Value.{Value}
use Rattle.qe_base.specs.declared.value.Value.TheVariants.{Text, Bool, Int, Moment, Blob, Member}
use Rattle.qe_base.specs.declared.value.TableId.{TableId}
use Rattle.qe_base.specs.declared.schema.Action.{Action}
use Rattle.qe_base.specs.declared.schema.Action.TheVariants.{Cascade, Restrict, SetNull}
use Rattle.qe_base.specs.declared.schema.Choice.{Choice}
use Rattle.qe_base.specs.declared.schema.Column.{Column}
use Rattle.qe_base.specs.declared.schema.Field.{Field}
use Rattle.qe_base.specs.declared.schema.Field.TheVariants.{Scalar, Holder, Target, SideA, SideB}
use Rattle.qe_base.specs.declared.schema.Fill.{Fill}
use Rattle.qe_base.specs.declared.schema.Fill.TheVariants.{Absent, Literal, Counter, Now, Uuid}
use Rattle.qe_base.specs.declared.schema.Key.{Key}
use Rattle.qe_base.specs.declared.schema.Link.{Link}
use Rattle.qe_base.specs.declared.schema.Relation.{Relation}
use Rattle.qe_base.specs.declared.schema.Table.{Table}
use Rattle.qe_base.specs.Schemas.{Schema}

-- the place of a name in a list, from 0
abbrev pub number_among : List Spelling → Spelling → ℕ
number_among names name = unwrap_or (position (bytes_eq name) names) 0

abbrev pub block_name : Block → Spelling
block_name block = block.name.text

abbrev pub model_number : Tree → Spelling → ℕ
model_number tree name = number_among (map block_name (models tree)) name

-- ---- enums

abbrev pub choice_of : Block → Choice
choice_of enum = record { name = enum.name.text; members = map (λ member. member.name.text) (members enum) }

abbrev pub choices_of : Tree → List Choice
choices_of tree = map choice_of (enums tree)

abbrev pub enum_number : Tree → Spelling → ℕ
enum_number tree name = number_among (map block_name (enums tree)) name

-- the number of a member of the enum that is called so
abbrev pub member_number : Tree → Spelling → Spelling → ℕ
member_number tree enum name = unwrap_or (option_map (λ block. number_among (map (λ member. member.name.text) (members block)) name) (find (λ block. bytes_eq enum block.name.text) (enums tree))) 0

-- ---- columns

abbrev pub kind_of : Tree → Spelling → Kind
kind_of tree type =
    if bytes_eq type (codes "String") then kind.Text
    else (if bytes_eq type (codes "Boolean") then kind.Bool
    else (if bytes_eq type (codes "Int") then kind.Int
    else (if bytes_eq type (codes "BigInt") then kind.Big
    else (if bytes_eq type (codes "DateTime") then kind.Moment
    else (if bytes_eq type (codes "Bytes") then kind.Blob
    else kind.Member (record { 0 = enum_number tree type }))))))

-- the literal, or what stands where the default is none
abbrev pub literal_or : Fill → Option Value → Fill
literal_or otherwise None = otherwise
literal_or otherwise (Some value) = Literal value

-- what a default of a field of this type fills in
abbrev pub fill_in : Tree → Spelling → Term → Fill
fill_in tree type default =
    if bytes_eq type (codes "String") then literal_or Uuid (option_map Text (text_in default))
    else (if bytes_eq type (codes "Boolean") then literal_or Absent (option_map (λ name. Bool (bytes_eq name (codes "true"))) (name_in default))
    else (if bytes_eq type (codes "Int") then literal_or Counter (option_map Int (option_and_then (number_within is_small) (number_in default)))
    else (if bytes_eq type (codes "BigInt") then literal_or Counter (option_map Int (option_and_then (number_within is_big) (number_in default)))
    else (if bytes_eq type (codes "DateTime") then literal_or Now (option_map Moment (option_and_then moment_of (text_in default)))
    else (if bytes_eq type (codes "Bytes") then literal_or Absent (option_map Blob (option_and_then bytes_of (text_in default)))
    else literal_or Absent (option_map (λ name. Member (member_number tree type name)) (name_in default)))))))

-- what `@default` says, and nothing where there is none
abbrev pub fill_of : Tree → ModelField → Fill
fill_of tree field = unwrap_or (option_map (fill_in tree field.type.text) (option_and_then default_in (attribute_named (codes "default") field.attributes))) Absent

abbrev pub column_of : Tree → ModelField → Column
column_of tree field = record {
  name = field.name.text;
  stored = mapped field.name.text field.attributes;
  kind = kind_of tree field.type.text;
  optional = is_optional field.mark;
  fill = fill_of tree field;
  updated = has_attribute (codes "updatedAt") field.attributes;
}

-- the fields that have values of their own, in text order
abbrev pub column_fields : Tree → Block → List ModelField
column_fields tree model = filter (is_column tree) (fields model)

abbrev pub columns_of : Tree → Block → List Column
columns_of tree model = map (column_of tree) (column_fields tree model)

abbrev pub column_names : Tree → Block → List Spelling
column_names tree model = map (λ field. field.name.text) (column_fields tree model)

-- the numbers of the columns of these names, in their order
abbrev pub column_numbers : Tree → Block → List Spelling → List ℕ
column_numbers tree model names = map (number_among (column_names tree model)) names

-- ---- keys and indexes

-- the keys that attributes of this name make, in text order
abbrev pub keys_called_in : Spelling → Entry → List ruled.Key
keys_called_in name (entry.Setting called value) = []
keys_called_in name (entry.Member called attributes docs) = []
keys_called_in name (entry.Field called type mark attributes docs) = map (λ attribute. key_over attribute (called.text ∷ []) None) (filter (is_called name) attributes)
keys_called_in name (entry.Block attribute docs) = map (λ attribute. key_over attribute (given_names (codes "fields") true attribute) (given_text (codes "name") false attribute)) (filter (is_called name) (attribute ∷ []))

abbrev pub keys_called : Spelling → Block → List ruled.Key
keys_called name model = flat_map (keys_called_in name) model.entries

abbrev pub key_of : Tree → Block → ruled.Key → Key
key_of tree model key = record { name = key.name.text; columns = column_numbers tree model key.fields }

-- the id first, then the uniques
abbrev pub table_keys : Tree → Block → List Key
table_keys tree model = map (key_of tree model) (keys_called (codes "id") model ++ keys_called (codes "unique") model)

abbrev pub indexes_of : Tree → Block → List (List ℕ)
indexes_of tree model = map (λ attribute. column_numbers tree model (given_names (codes "fields") true attribute)) (filter (is_called (codes "index")) (block_attributes model))

-- ---- relations

abbrev pub action_or : Action → Option Spelling → Action
action_or otherwise None = otherwise
action_or otherwise (Some name) = if bytes_eq name (codes "Cascade") then Cascade else (if bytes_eq name (codes "Restrict") then Restrict else SetNull)

-- what a delete does where nothing is said: an optional reference becomes null, a required one is kept
abbrev pub default_on_delete : Prelude.Bool → Action
default_on_delete true = SetNull
default_on_delete false = Restrict

-- the relation that the one end holds, with the other as its partner
abbrev pub relation_between : Tree → End → End → Relation
relation_between tree holder target = record {
  child = record { 0 = model_number tree holder.model.name.text };
  child_field = holder.field.name.text;
  child_columns = column_numbers tree holder.model (own_names holder);
  parent = record { 0 = model_number tree target.model.name.text };
  parent_field = target.field.name.text;
  parent_columns = column_numbers tree target.model (other_names holder);
  many = is_list target;
  optional = is_optional holder.field.mark;
  on_delete = action_or (default_on_delete (is_optional holder.field.mark)) (action (codes "onDelete") holder);
  on_update = action_or Cascade (action (codes "onUpdate") holder);
}

abbrev pub relations_held : Tree → End → List Relation
relations_held tree holder = map (relation_between tree holder) (partners_among (ends tree) holder)

-- in the order of the fields that hold them
abbrev pub relations_of : Tree → List Relation
relations_of tree = flat_map (relations_held tree) (holders tree)

-- ---- links

abbrev pub is_same_end : End → End → Prelude.Bool
is_same_end one other = bytes_eq one.model.name.text other.model.name.text && bytes_eq one.field.name.text other.field.name.text

-- before the other by the bytes of its model's name, and in one model by those of its own
abbrev pub is_side_a : End → End → Prelude.Bool
is_side_a end other =
    is_lt (slice_cmp nat_cmp end.model.name.text other.model.name.text)
    || (bytes_eq end.model.name.text other.model.name.text && is_lt (slice_cmp nat_cmp end.field.name.text other.field.name.text))

abbrev pub side_a : Pair → End
side_a pair = if is_side_a pair.first pair.second then pair.first else pair.second

abbrev pub side_b : Pair → End
side_b pair = if is_side_a pair.first pair.second then pair.second else pair.first

-- the link tables come behind the models
abbrev pub link_number : Tree → ℕ → ℕ
link_number tree number = length (models tree) + number

abbrev pub link_between : Tree → (ℕ × Pair) → Link
link_between tree numbered = record {
  table = record { 0 = link_number tree numbered.0 };
  a = record { 0 = model_number tree (side_a numbered.1).model.name.text };
  a_field = (side_a numbered.1).field.name.text;
  b = record { 0 = model_number tree (side_b numbered.1).model.name.text };
  b_field = (side_b numbered.1).field.name.text;
}

abbrev pub links_of : Tree → List Link
links_of tree = map (link_between tree) (enumerate_from 0 (linked tree))

abbrev pub first_kind : List Kind → Kind
first_kind [] = kind.Text
first_kind (one ∷ others) = one

-- the kind of a model's id, where that is one column
abbrev pub id_kind : Tree → Block → Kind
id_kind tree model = first_kind (map (λ field. kind_of tree field.type.text) (fields_named model (id_names model)))

-- a column of a link table
abbrev pub side_column : Spelling → Kind → Column
side_column name kind = record { name = name; stored = name; kind = kind; optional = false; fill = Absent; updated = false }

-- a table of pairs of ids
abbrev pub link_table : Tree → Pair → Table
link_table tree pair = record {
  name = (stored_link pair).text;
  stored = (stored_link pair).text;
  link = true;
  columns = side_column (codes "A") (id_kind tree (side_a pair).model) ∷ side_column (codes "B") (id_kind tree (side_b pair).model) ∷ [];
  keys = record { name = codes "A_B"; columns = 0 ∷ 1 ∷ [] } ∷ [];
  fields = (codes "A", Scalar 0) ∷ (codes "B", Scalar 1) ∷ [];
  indexes = [];
}

-- ---- fields

abbrev pub table_id : ℕ → TableId
table_id number = record { 0 = number }

abbrev pub holder_field : Tree → End → Option Field
holder_field tree end = option_map (λ number. Holder (record { 0 = number })) (position (is_same_end end) (holders tree))

abbrev pub target_field : Tree → End → Option Field
target_field tree end = option_map (λ number. Target (record { 0 = number })) (position (λ holder. is_partner holder end) (holders tree))

abbrev pub side_a_field : Tree → End → Option Field
side_a_field tree end = option_map (λ number. SideA (table_id (link_number tree number))) (position (λ pair. is_same_end end (side_a pair)) (linked tree))

abbrev pub side_b_field : Tree → End → Option Field
side_b_field tree end = option_map (λ number. SideB (table_id (link_number tree number))) (position (λ pair. is_same_end end (side_b pair)) (linked tree))

-- the side that holds the foreign key, the other side, or a side of a link
abbrev pub relation_field : Tree → End → Field
relation_field tree end = unwrap_or (option_or (holder_field tree end) (option_or (target_field tree end) (option_or (side_a_field tree end) (side_b_field tree end)))) (Scalar 0)

-- the end that a field is, found by its name and that of its model
abbrev pub end_number : Tree → Block → ModelField → ℕ
end_number tree model field = unwrap_or (position (λ end. bytes_eq model.name.text end.model.name.text && bytes_eq field.name.text end.field.name.text) (ends tree)) 0

abbrev pub end_of : Tree → Block → ModelField → End
end_of tree model field = record { number = end_number tree model field; model = model; field = field }

abbrev pub field_in : Tree → Block → ModelField → Field
field_in tree model field = if is_column tree field then Scalar (number_among (column_names tree model) field.name.text) else relation_field tree (end_of tree model field)

abbrev pub fields_of : Tree → Block → List (Spelling × Field)
fields_of tree model = map (λ field. (field.name.text, field_in tree model field)) (fields model)

-- ---- the whole

abbrev pub table_of : Tree → Block → Table
table_of tree model = record {
  name = model.name.text;
  stored = mapped model.name.text (block_attributes model);
  link = false;
  columns = columns_of tree model;
  keys = table_keys tree model;
  fields = fields_of tree model;
  indexes = indexes_of tree model;
}

-- the models, then the link tables in the order of their first fields
abbrev pub tables_of : Tree → List Table
tables_of tree = map (table_of tree) (models tree) ++ map (link_table tree) (linked tree)

abbrev pub schema_of : Tree → Schema
schema_of tree = record { tables = tables_of tree; relations = relations_of tree; links = links_of tree; choices = choices_of tree }
