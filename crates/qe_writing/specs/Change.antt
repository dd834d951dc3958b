-- Changing a row, with all that follows from it.
use Rattle.std.specs.Prelude.{ℕ, zero, suc, ◌+◌, Bool, true, false, ◌&&◌, not, List, [], ◌∷◌, map, filter, length, Option, Some, None, Result, Ok, Err, if◌then◌else◌, ◌==◌}
use Rattle.qe_base.specs.declared.value.Row.{Row}
use Rattle.qe_base.specs.declared.value.Value.{Value}
use Rattle.qe_base.specs.declared.schema.Action.{Action}
use Rattle.qe_base.specs.declared.schema.Action.TheVariants.{Cascade, Restrict, SetNull}
use Rattle.qe_base.specs.declared.schema.Link.{Link}
use Rattle.qe_base.specs.declared.schema.Relation.{Relation}
use Rattle.qe_base.specs.declared.answer.Rule.{Rule}
use Rattle.qe_base.specs.declared.answer.Rule.TheVariants as rule
use Rattle.qe_base.specs.Schemas.{Schema, link_of}
use Rattle.qe_schema.specs.Columns.{Values, at_columns, are_same, holds}
use Rattle.qe_schema.specs.Pairs.{with_pair}
use Rattle.qe_schema.specs.Put.{put_beside}
use Rattle.qe_schema.specs.Tables.{table_at, id_of}
use Rattle.qe_writing.specs.WriteState.{WriteState, ◌>>=◌, with_tables, moved, row_with_id, row_followed, follow_all, unfollow}
use Rattle.qe_writing.specs.Delete.{nulls, relation_id}
use Rattle.qe_writing.specs.Given.{with_columns}

-- ---- pairs

-- pairs in order
abbrev pub in_order : List (Value × Value) → List (Value × Value)
in_order [] = []
in_order (pair ∷ pairs) = with_pair pair (in_order pairs)

abbrev pub first_or : Value → Values → Value
first_or otherwise [] = otherwise
first_or otherwise (value ∷ values) = value

-- an id of one column, which changes
abbrev pub renamed : Values → Values → Value → Value
renamed old new id = if are_same (id ∷ []) old then first_or id new else id

abbrev pub renamed_if : Bool → Values → Values → Value → Value
renamed_if false old new id = id
renamed_if true old new id = renamed old new id

abbrev pub renamed_pairs : Option Link → ℕ → Values → Values → List (Value × Value) → List (Value × Value)
renamed_pairs None table old new pairs = pairs
renamed_pairs (Some link) table old new pairs = in_order (map (λ pair. (renamed_if (link.a.0 == table) old new pair.0, renamed_if (link.b.0 == table) old new pair.1)) pairs)

-- ---- one row

-- link pairs and the rows that are followed go with a changed id
abbrev pub renamed_to : Schema → ℕ → Values → Values → WriteState → WriteState
renamed_to schema table old new state = record {
  tables = record state.tables { pairs = λ link. renamed_pairs (link_of link schema.links) table old new (state.tables.pairs link) };
  followed = map (moved table old new) state.followed;
  drawn = state.drawn;
}

abbrev pub others : Schema → ℕ → Values → WriteState → List Row
others schema table id state = filter (λ row. not (are_same (id_of (table_at schema table) row) id)) (state.tables.rows table)

-- the row alone: its keys are tried against the other rows, and then it stands in the old one's place
abbrev pub replace : Schema → ℕ → Values → Row → WriteState → Result WriteState Rule
replace schema table id row state =
    put_beside schema table row (others schema table id state) state.tables >>= λ tables. Ok (renamed_to schema table id (id_of (table_at schema table) row) (with_tables tables state))

-- ---- the rows that refer to it

-- what changes a row: its table, its id, and the row as it is to be
abbrev pub Changer : Type 0
Changer = ℕ → Values → Row → WriteState → Result WriteState Rule

-- a child row gets these values for its reference, where it is still there
abbrev pub give_row : Schema → Changer → Relation → Values → Option Row → WriteState → Result WriteState Rule
give_row schema change relation values None state = Ok state
give_row schema change relation values (Some row) state = change relation.child.0 (id_of (table_at schema relation.child.0) row) (with_columns relation.child_columns values row) state

-- one after another the child rows that are followed from this place on, each as it is then
abbrev pub give_from : Schema → Changer → Relation → Values → List Row → ℕ → WriteState → Result WriteState Rule
give_from schema change relation values [] place state = Ok state
give_from schema change relation values (row ∷ rows) place state =
    give_row schema change relation values (row_followed schema relation.child.0 place state) state >>= give_from schema change relation values rows (place + 1)

-- these child rows get the values, in order, each followed under its new id
abbrev pub give_all : Schema → Changer → Relation → Values → List Row → WriteState → Result WriteState Rule
give_all schema change relation values rows state =
    give_from schema change relation values rows (length state.followed) (follow_all schema relation.child.0 rows state) >>= λ after. Ok (unfollow (length state.followed) after)

-- what the action does to the child rows
abbrev pub treat : Schema → Changer → Action → Relation → ℕ → Values → List Row → WriteState → Result WriteState Rule
treat schema change Cascade relation number new rows state = give_all schema change relation new rows state
treat schema change SetNull relation number new rows state = give_all schema change relation (nulls relation.child_columns) rows state
treat schema change Restrict relation number new [] state = Ok state
treat schema change Restrict relation number new (row ∷ rows) state = Err (rule.Required (relation_id number))

-- the child rows that hold these values now
abbrev pub children : Relation → Values → WriteState → List Row
children relation values state = filter (holds relation.child_columns values) (state.tables.rows relation.child.0)

-- what a relation does at its turn, where what it refers to has changed
abbrev pub at_turn : Schema → Changer → Relation → ℕ → Values → Values → Bool → WriteState → Result WriteState Rule
at_turn schema change relation number old new false state = Ok state
at_turn schema change relation number old new true state = treat schema change relation.on_update relation number new (children relation old state) state

-- the relation leads to this table, and what it refers to has changed
abbrev pub is_touched : Relation → ℕ → Row → Row → Bool
is_touched relation table old new = relation.parent.0 == table && not (are_same (at_columns relation.parent_columns old) (at_columns relation.parent_columns new))

-- the relations, from this number on, in order
abbrev pub turns : Schema → Changer → ℕ → Row → Row → List Relation → ℕ → WriteState → Result WriteState Rule
turns schema change table old new [] number state = Ok state
turns schema change table old new (relation ∷ relations) number state =
    at_turn schema change relation number (at_columns relation.parent_columns old) (at_columns relation.parent_columns new) (is_touched relation table old new) state
    >>= turns schema change table old new relations (number + 1)

-- ---- the whole

abbrev pub change_row : Schema → Changer → ℕ → Values → Row → Option Row → WriteState → Result WriteState Rule
change_row schema change table id new None state = Ok state
change_row schema change table id new (Some old) state = replace schema table id new state >>= turns schema change table old new schema.relations 0

-- a change, given what changes the rows that refer to this one
abbrev pub change_step : Schema → Changer → Changer
change_step schema change table id new state = change_row schema change table id new (row_with_id schema table id state) state

-- a change that goes on to other rows at most so deep
abbrev pub change_within : Schema → ℕ → Changer
change_within schema zero table id new state = Ok state
change_within schema (suc depth) table id new state = change_step schema (change_within schema depth) table id new state

-- The change of a row: no chain of references whose updates cascade is longer than there are tables, so this
-- is as deep as it goes.
abbrev pub change_of : Schema → Changer
change_of schema = change_within schema (suc (length schema.tables))
