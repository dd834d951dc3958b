-- What a write goes over: the tables, the rows that are followed, and how many identifiers were drawn.
use Rattle.std.specs.Prelude.{ℕ, Bool, List, [], ◌∷◌, ◌++◌, map, slice_get, take, if◌then◌else◌, ◌==◌, Option, Some, None, option_and_then, Result, Ok, Err}
use Rattle.qe_base.specs.declared.value.Row.{Row}
use Rattle.qe_base.specs.declared.value.TableId.{TableId}
use Rattle.qe_base.specs.declared.answer.Rule.{Rule}
use Rattle.qe_base.specs.declared.answer.Rule.TheVariants as rule
use Rattle.qe_base.specs.Schemas.{Schema}
use Rattle.qe_schema.specs.Columns.{Values, are_same}
use Rattle.qe_schema.specs.Tables.{Tables, table_at, id_of, row_at}

-- a row under the id that it has now, or none where it is gone
pub record Followed : Type 0 where
  pub table : ℕ
  pub id : Option Values

pub record WriteState : Type 0 where
  pub tables : Tables
  pub followed : List Followed
  pub drawn : ℕ

abbrev pub with_tables : Tables → WriteState → WriteState
with_tables tables state = record state { tables = tables }

-- one part after another, up to the first refusal
infixl 10 ◌>>=◌
abbrev pub ◌>>=◌ : {A B : Type 0} → Result A Rule → (A → Result B Rule) → Result B Rule
◌>>=◌ (Ok a) next = next a
◌>>=◌ (Err broken) next = Err broken

-- ---- following rows

abbrev pub follow_all : Schema → ℕ → List Row → WriteState → WriteState
follow_all schema table rows state = record state { followed = state.followed ++ map (λ row. record { table = table; id = Some (id_of (table_at schema table) row) }) rows }

-- the row is followed at the next place
abbrev pub follow : Schema → ℕ → Row → WriteState → WriteState
follow schema table row state = follow_all schema table (row ∷ []) state

-- only the rows at the first places are followed on
abbrev pub unfollow : ℕ → WriteState → WriteState
unfollow place state = record state { followed = take place state.followed }

abbrev pub moved_id : Values → Values → Option Values → Option Values
moved_id old new None = None
moved_id old new (Some id) = Some (if are_same id old then new else id)

-- a changed id is followed
abbrev pub moved : ℕ → Values → Values → Followed → Followed
moved table old new one = if one.table == table then record { table = one.table; id = moved_id old new one.id } else one

abbrev pub lost_id : (Values → Bool) → Option Values → Option Values
lost_id is_lost None = None
lost_id is_lost (Some id) = if is_lost id then None else Some id

-- a row that is deleted is gone, also where another one gets its id
abbrev pub lost : (ℕ → Values → Bool) → Followed → Followed
lost is_lost one = record { table = one.table; id = lost_id (is_lost one.table) one.id }

-- the row of a table with this id
abbrev pub row_with_id : Schema → ℕ → Values → WriteState → Option Row
row_with_id schema table id state = row_at (table_at schema table) id (state.tables.rows table)

abbrev pub row_of : Schema → ℕ → WriteState → Option Followed → Option Row
row_of schema table state None = None
row_of schema table state (Some one) = option_and_then (λ id. row_with_id schema table id state) one.id

-- the row of a table that is followed at this place, as it is now
abbrev pub row_followed : Schema → ℕ → ℕ → WriteState → Option Row
row_followed schema table place state = row_of schema table state (slice_get state.followed place)

-- ---- refusals

abbrev pub table_id : ℕ → TableId
table_id number = record { 0 = number }

abbrev pub there_or : Rule → Option Row → Result Row Rule
there_or broken None = Err broken
there_or broken (Some row) = Ok row

abbrev pub or_absent : ℕ → Option Row → Result Row Rule
or_absent table row = there_or (rule.Absent (table_id table)) row

-- the row that is followed at this place, or the refusal that it is gone
abbrev pub present : Schema → ℕ → ℕ → WriteState → Result Row Rule
present schema table place state = or_absent table (row_followed schema table place state)
