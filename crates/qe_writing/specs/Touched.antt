-- Tables that an operation depends on, and whether it may write them.
use Rattle.std.specs.Prelude.{ℕ, zero, suc, Bool, true, false, ◌&&◌, ◌||◌, List, [], ◌∷◌, ◌++◌, map, filter, length, if◌then◌else◌, ◌==◌}
use Rattle.std.specs.List.{list_any, flat_map, range_with_len}
use Rattle.qe_base.specs.declared.schema.Action.{Action}
use Rattle.qe_base.specs.declared.schema.Action.TheVariants.{Cascade, Restrict, SetNull}
use Rattle.qe_base.specs.declared.schema.Relation.{Relation}
use Rattle.qe_base.specs.Schemas.{Schema}
use Rattle.qe_schema.specs.Cycles.{is_cascade, meet}
use Rattle.qe_schema.specs.Tables.{table_at, id_columns}
use Rattle.qe_writing.specs.Numbers.{is_one_of}

pub record Part : Type 0 where
  pub table : ℕ
  pub written : Bool

abbrev pub Parts : Type 0
Parts = List Part

-- a table whose rows are looked at
abbrev pub seen : ℕ → Part
seen table = record { table = table; written = false }

-- a table whose rows may be looked at and written
abbrev pub written : ℕ → Part
written table = record { table = table; written = true }

-- the link tables that have a model's ids
abbrev pub links_with : Schema → ℕ → List ℕ
links_with schema table = map (λ link. link.table.0) (filter (λ link. link.a.0 == table || link.b.0 == table) schema.links)

-- ---- the change of a row

-- what is changed from the columns of a table on
abbrev pub Touches : Type 0
Touches = ℕ → List ℕ → Parts

-- the rows that refer to a changed one
abbrev pub at_children : Touches → Relation → Action → Parts
at_children changes relation Cascade = written relation.child.0 ∷ changes relation.child.0 relation.child_columns
at_children changes relation SetNull = written relation.child.0 ∷ changes relation.child.0 relation.child_columns
at_children changes relation Restrict = seen relation.child.0 ∷ []

abbrev pub at_relation : Touches → ℕ → List ℕ → Relation → Parts
at_relation changes table columns relation = if relation.parent.0 == table && meet relation.parent_columns columns then at_children changes relation relation.on_update else []

-- the link tables, where the id may change
abbrev pub with_id : Schema → ℕ → List ℕ → Parts
with_id schema table columns = if meet columns (id_columns (table_at schema table)) then map written (links_with schema table) else []

abbrev pub changes_step : Schema → Touches → Touches
changes_step schema changes table columns = written table ∷ (with_id schema table columns ++ flat_map (at_relation changes table columns) schema.relations)

abbrev pub changes_within : Schema → ℕ → Touches
changes_within schema zero table columns = []
changes_within schema (suc depth) table columns = changes_step schema (changes_within schema depth) table columns

-- a change of these columns of a table, with all that follows
abbrev pub changes_of : Schema → Touches
changes_of schema = changes_within schema (suc (length schema.tables))

-- ---- the delete of a row

-- a table that is reached, or whose rows go with those of one that is
abbrev pub goes_along : Schema → List ℕ → ℕ → Bool
goes_along schema tables table = is_one_of tables table || list_any (λ relation. is_cascade relation.on_delete && relation.child.0 == table && is_one_of tables relation.parent.0) schema.relations

abbrev pub reached_after : Schema → ℕ → ℕ → List ℕ
reached_after schema table zero = table ∷ []
reached_after schema table (suc rounds) = filter (goes_along schema (reached_after schema table rounds)) (range_with_len 0 (length schema.tables))

-- the tables whose rows a delete in this one may take away: the least set that has it and each child, by a
-- relation whose deletes cascade, of a member
abbrev pub deleted_from : Schema → ℕ → List ℕ
deleted_from schema table = reached_after schema table (length schema.tables)

abbrev pub at_delete : Relation → Action → Parts
at_delete relation Cascade = []
at_delete relation SetNull = written relation.child.0 ∷ []
at_delete relation Restrict = seen relation.child.0 ∷ []

abbrev pub kept_or_released : List ℕ → Relation → Parts
kept_or_released tables relation = if is_one_of tables relation.parent.0 then at_delete relation relation.on_delete else []

-- a delete in a table, with all that follows
abbrev pub deletes_of : Schema → ℕ → Parts
deletes_of schema table =
    map written (deleted_from schema table) ++ map written (flat_map (links_with schema) (deleted_from schema table)) ++ flat_map (kept_or_released (deleted_from schema table)) schema.relations
