-- The ways from a row to related rows: through the field of a model whose rows hold its reference, and through
-- a link.
use Rattle.std.specs.Prelude.{ℕ, ◌+◌, Bool, true, false, not, List, [], ◌∷◌, filter, length, zip, slice_get, unwrap_or, Option, Some, None, Result, Ok, Err, if◌then◌else◌}
use Rattle.qe_base.specs.declared.value.Row.{Row}
use Rattle.qe_base.specs.declared.value.Value.{Value}
use Rattle.qe_base.specs.declared.value.Value.TheVariants.{Null}
use Rattle.qe_base.specs.declared.schema.Action.TheVariants.{Restrict}
use Rattle.qe_base.specs.declared.schema.Link.{Link}
use Rattle.qe_base.specs.declared.schema.Relation.{Relation}
use Rattle.qe_base.specs.declared.answer.Rule.{Rule}
use Rattle.qe_base.specs.declared.answer.Rule.TheVariants as rule
use Rattle.qe_base.specs.Schemas.{Schema, link_of}
use Rattle.qe_schema.specs.Columns.{Values, at_columns, are_same}
use Rattle.qe_schema.specs.Pairs.{with_pair, without_pair}
use Rattle.qe_schema.specs.Tables.{table_at, id_of, with_pairs}
use Rattle.qe_reading.specs.Related.{is_referred}
use Rattle.qe_writing.specs.WriteState.{WriteState, ◌>>=◌, with_tables, present, row_followed, follow_all, unfollow}
use Rattle.qe_writing.specs.Delete.{nulls, relation_id}
use Rattle.qe_writing.specs.Change.{change_of, first_or}
use Rattle.qe_writing.specs.Given.{with_columns}

-- How a field leads to other rows: to which table, and how a row is attached, made room for, detached, given
-- the values of a reference, and settled once it is made. Own and attached rows are named by the places at
-- which they are followed.
pub record Way : Type 0 where
  pub other : ℕ
  pub attach : ℕ → ℕ → WriteState → Result WriteState Rule
  pub make_room : (Row → Bool) → ℕ → WriteState → Result WriteState Rule
  pub detach : ℕ → Row → WriteState → Result WriteState Rule
  pub given : Row → List (ℕ × Value)
  pub settle : ℕ → ℕ → WriteState → Result WriteState Rule

abbrev pub no_relation : Relation
no_relation = record {
  child = record { 0 = 0 };
  child_field = [];
  child_columns = [];
  parent = record { 0 = 0 };
  parent_field = [];
  parent_columns = [];
  many = false;
  optional = false;
  on_delete = Restrict;
  on_update = Restrict;
}

abbrev pub relation_at : Schema → ℕ → Relation
relation_at schema number = unwrap_or (slice_get schema.relations number) no_relation

-- ---- references that other rows hold

abbrev pub children_of : Relation → Row → WriteState → List Row
children_of relation parent state = filter (is_referred relation parent) (state.tables.rows relation.child.0)

-- the child gets these values for its reference, with all that follows
abbrev pub refer : Schema → Relation → Values → Row → WriteState → Result WriteState Rule
refer schema relation values child state = change_of schema relation.child.0 (id_of (table_at schema relation.child.0) child) (with_columns relation.child_columns values child) state

-- a required reference can't become null
abbrev pub let_go : Schema → ℕ → Row → WriteState → Result WriteState Rule
let_go schema number child state =
    if (relation_at schema number).optional then refer schema (relation_at schema number) (nulls (relation_at schema number).child_columns) child state else Err (rule.Required (relation_id number))

abbrev pub on_row : (Row → WriteState → Result WriteState Rule) → Option Row → WriteState → Result WriteState Rule
on_row step None state = Ok state
on_row step (Some row) state = step row state

-- one after another the rows that are followed from this place on, those that are still there
abbrev pub each_followed : Schema → ℕ → (Row → WriteState → Result WriteState Rule) → List Row → ℕ → WriteState → Result WriteState Rule
each_followed schema table step [] place state = Ok state
each_followed schema table step (row ∷ rows) place state = on_row step (row_followed schema table place state) state >>= each_followed schema table step rows (place + 1)

-- these rows, in order, each followed
abbrev pub each_row : Schema → ℕ → (Row → WriteState → Result WriteState Rule) → List Row → WriteState → Result WriteState Rule
each_row schema table step rows state = each_followed schema table step rows (length state.followed) (follow_all schema table rows state) >>= λ after. Ok (unfollow (length state.followed) after)

-- where there is room for one row, another one that is related goes
abbrev pub make_room_for_child : Schema → ℕ → (Row → Bool) → ℕ → WriteState → Result WriteState Rule
make_room_for_child schema number stays own state =
    if (relation_at schema number).many then Ok state
    else (present schema (relation_at schema number).parent.0 own state
    >>= λ parent. each_row schema (relation_at schema number).child.0 (let_go schema number) (filter (λ child. not (stays child)) (children_of (relation_at schema number) parent state)) state)

abbrev pub is_row : Schema → ℕ → Row → Row → Bool
is_row schema table one other = are_same (id_of (table_at schema table) one) (id_of (table_at schema table) other)

abbrev pub attach_child : Schema → ℕ → ℕ → ℕ → WriteState → Result WriteState Rule
attach_child schema number own place state = do
  let relation = relation_at schema number
  parent ← present schema relation.parent.0 own state
  child ← present schema relation.child.0 place state
  state ← make_room_for_child schema number (is_row schema relation.child.0 child) own state
  parent ← present schema relation.parent.0 own state
  child ← present schema relation.child.0 place state
  refer schema relation (at_columns relation.parent_columns parent) child state

-- through the field on the side without the foreign key
abbrev pub to_children : Schema → ℕ → Way
to_children schema number = record {
  other = (relation_at schema number).child.0;
  attach = attach_child schema number;
  make_room = make_room_for_child schema number;
  detach = λ own child state. let_go schema number child state;
  given = λ parent. zip (relation_at schema number).child_columns (at_columns (relation_at schema number).parent_columns parent);
  settle = λ own place state. Ok state;
}

-- ---- links

abbrev pub no_link : Link
no_link = record { table = record { 0 = 0 }; a = record { 0 = 0 }; a_field = []; b = record { 0 = 0 }; b_field = [] }

abbrev pub link_at : Schema → ℕ → Link
link_at schema table = unwrap_or (link_of table schema.links) no_link

abbrev pub own_side : Bool → Link → ℕ
own_side true link = link.a.0
own_side false link = link.b.0

abbrev pub other_side : Bool → Link → ℕ
other_side is_a link = own_side (not is_a) link

-- the id of a row, which is one value
abbrev pub single_id : Schema → ℕ → Row → Value
single_id schema table row = first_or Null (id_of (table_at schema table) row)

abbrev pub pair_of : Bool → Value → Value → Value × Value
pair_of true own other = (own, other)
pair_of false own other = (other, own)

abbrev pub pairs_to : ℕ → List (Value × Value) → WriteState → WriteState
pairs_to link pairs state = with_tables (with_pairs link pairs state.tables) state

abbrev pub link_rows : Schema → ℕ → Bool → ℕ → ℕ → WriteState → Result WriteState Rule
link_rows schema link is_a own place state = do
  row ← present schema (own_side is_a (link_at schema link)) own state
  other ← present schema (other_side is_a (link_at schema link)) place state
  Ok (pairs_to link (with_pair (pair_of is_a (single_id schema (own_side is_a (link_at schema link)) row) (single_id schema (other_side is_a (link_at schema link)) other)) (state.tables.pairs link)) state)

abbrev pub unlink_row : Schema → ℕ → Bool → ℕ → Row → WriteState → Result WriteState Rule
unlink_row schema link is_a own other state = do
  row ← present schema (own_side is_a (link_at schema link)) own state
  Ok (pairs_to link (without_pair (pair_of is_a (single_id schema (own_side is_a (link_at schema link)) row) (single_id schema (other_side is_a (link_at schema link)) other)) (state.tables.pairs link)) state)

-- through the pairs of a link table
abbrev pub to_linked : Schema → ℕ → Bool → Way
to_linked schema link is_a = record {
  other = other_side is_a (link_at schema link);
  attach = link_rows schema link is_a;
  make_room = λ stays own state. Ok state;
  detach = unlink_row schema link is_a;
  given = λ own. [];
  settle = link_rows schema link is_a;
}
