-- Deleting rows.
use Rattle.std.specs.Prelude.{ℕ, ◌+◌, Bool, true, false, ◌&&◌, not, List, [], ◌∷◌, map, filter, length, replicate, Option, Some, None, Result, Ok, Err, if◌then◌else◌, ◌==◌}
use Rattle.std.specs.List.{list_any}
use Rattle.qe_base.specs.declared.value.RelId.{RelId}
use Rattle.qe_base.specs.declared.value.Row.{Row}
use Rattle.qe_base.specs.declared.value.Value.{Value}
use Rattle.qe_base.specs.declared.value.Value.TheVariants.{Null}
use Rattle.qe_base.specs.declared.schema.Action.{Action}
use Rattle.qe_base.specs.declared.schema.Action.TheVariants.{Cascade, Restrict, SetNull}
use Rattle.qe_base.specs.declared.schema.Link.{Link}
use Rattle.qe_base.specs.declared.schema.Relation.{Relation}
use Rattle.qe_base.specs.declared.answer.Rule.{Rule}
use Rattle.qe_base.specs.declared.answer.Rule.TheVariants as rule
use Rattle.qe_base.specs.Schemas.{Schema, link_of}
use Rattle.qe_schema.specs.Columns.{Values, are_same}
use Rattle.qe_schema.specs.Tables.{Tables, table_at, id_of}
use Rattle.qe_writing.specs.WriteState.{WriteState, lost}
use Rattle.qe_writing.specs.Doomed.{Place, place_of, refers, same_place, places, doomed_by}
use Rattle.qe_writing.specs.Given.{with_columns}

abbrev pub is_restrict : Action → Bool
is_restrict Cascade = false
is_restrict Restrict = true
is_restrict SetNull = false

abbrev pub is_set_null : Action → Bool
is_set_null Cascade = false
is_set_null Restrict = false
is_set_null SetNull = true

abbrev pub is_among : List Place → Place → Bool
is_among doomed place = list_any (same_place place) doomed

-- the place has a reference to one of the doomed
abbrev pub refers_to_one : List Place → Place → Relation → Bool
refers_to_one doomed place relation = list_any (refers relation place) doomed

-- the second choice, where there is no first
abbrev pub or_next : Option ℕ → Option ℕ → Option ℕ
or_next None next = next
or_next (Some number) next = Some number

abbrev pub number_if : Bool → ℕ → Option ℕ
number_if false number = None
number_if true number = Some number

-- the first relation, from this number on, that keeps what the place refers to
abbrev pub keeps_from : List Place → Place → List Relation → ℕ → Option ℕ
keeps_from doomed place [] number = None
keeps_from doomed place (relation ∷ relations) number = or_next (number_if (is_restrict relation.on_delete && refers_to_one doomed place relation) number) (keeps_from doomed place relations (number + 1))

-- the first relation by which a row that isn't doomed keeps one that is
abbrev pub kept_by : List Relation → List Place → List Place → Option ℕ
kept_by relations doomed [] = None
kept_by relations doomed (place ∷ places) = or_next (if is_among doomed place then None else keeps_from doomed place relations 0) (kept_by relations doomed places)

abbrev pub nulls : List ℕ → Values
nulls columns = replicate (length columns) Null

-- the row with null for each of its references to the doomed that becomes null
abbrev pub released : List Relation → List Place → ℕ → Row → Row
released [] doomed table row = row
released (relation ∷ relations) doomed table row =
    if is_set_null relation.on_delete && refers_to_one doomed (place_of table row) relation then with_columns relation.child_columns (nulls relation.child_columns) (released relations doomed table row)
    else released relations doomed table row

abbrev pub is_doomed_id : Schema → List Place → ℕ → Values → Bool
is_doomed_id schema doomed table id = list_any (λ place. place.table == table && are_same (id_of (table_at schema table) place.row) id) doomed

-- the pairs of which neither row is doomed
abbrev pub kept_pairs : Schema → List Place → Option Link → List (Value × Value) → List (Value × Value)
kept_pairs schema doomed None pairs = pairs
kept_pairs schema doomed (Some link) pairs = filter (λ pair. not (is_doomed_id schema doomed link.a.0 (pair.0 ∷ [])) && not (is_doomed_id schema doomed link.b.0 (pair.1 ∷ []))) pairs

abbrev pub without : Schema → List Place → Tables → Tables
without schema doomed tables = record {
  rows = λ table. map (released schema.relations doomed table) (filter (λ row. not (is_among doomed (place_of table row))) (tables.rows table));
  last = tables.last;
  pairs = λ table. kept_pairs schema doomed (link_of table schema.links) (tables.pairs table);
}

abbrev pub relation_id : ℕ → RelId
relation_id number = record { 0 = number }

abbrev pub delete_unless : Schema → List Place → Option ℕ → WriteState → Result WriteState Rule
delete_unless schema doomed (Some relation) state = Err (rule.Required (relation_id relation))
delete_unless schema doomed None state = Ok (record { tables = without schema doomed state.tables; followed = map (lost (is_doomed_id schema doomed)) state.followed; drawn = state.drawn })

abbrev pub delete_doomed : Schema → List Place → WriteState → Result WriteState Rule
delete_doomed schema doomed state = delete_unless schema doomed (kept_by schema.relations doomed (places schema state.tables)) state

-- the given rows and what their deletes cascade to go, unless a row that stays keeps one of them
abbrev pub delete_of : Schema → List Place → WriteState → Result WriteState Rule
delete_of schema given state = delete_doomed schema (doomed_by schema state.tables given) state
