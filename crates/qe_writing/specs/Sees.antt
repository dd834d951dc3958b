-- The tables that filters, orders, uniques and selections look at.
use Rattle.std.specs.Prelude.{ℕ, List, [], ◌∷◌, ◌++◌, map, Option, Some, None}
use Rattle.std.specs.List.{flat_map}
use Rattle.qe_base.specs.declared.query.Filter.{Filter}
use Rattle.qe_base.specs.declared.query.Filter.TheOpen.{Filter-F}
use Rattle.qe_base.specs.declared.query.Filter.TheOpen as filter
use Rattle.qe_base.specs.declared.query.Filter.TheFolds.{fold-Filter}
use Rattle.qe_base.specs.declared.query.OrderBy.{OrderBy}
use Rattle.qe_base.specs.declared.query.OrderEnd.{OrderEnd}
use Rattle.qe_base.specs.declared.query.OrderEnd.TheVariants as end
use Rattle.qe_base.specs.declared.query.Look.{Look}
use Rattle.qe_base.specs.declared.query.Pick.{Pick}
use Rattle.qe_base.specs.declared.query.Child.TheOpen.{Child-F, Pick-F}
use Rattle.qe_base.specs.declared.query.Child.TheFolds.{fold-Pick}
use Rattle.qe_base.specs.declared.query.Unique.{Unique}
use Rattle.qe_base.specs.declared.schema.Field.{Field}
use Rattle.qe_base.specs.declared.schema.Field.TheVariants.{Scalar, Holder, Target, SideA, SideB}
use Rattle.qe_base.specs.Schemas.{Schema}
use Rattle.qe_reading.specs.Related.{other_table}
use Rattle.qe_schema.specs.Tables.{field_at}
use Rattle.qe_writing.specs.Touched.{Parts, seen}

abbrev pub link_in : Option Field → List ℕ
link_in None = []
link_in (Some (Scalar column)) = []
link_in (Some (Holder relation)) = []
link_in (Some (Target relation)) = []
link_in (Some (SideA link)) = link.0 ∷ []
link_in (Some (SideB link)) = link.0 ∷ []

-- the model that a field leads to, and its link table
abbrev pub through_field : Schema → ℕ → ℕ → Parts
through_field schema table field = seen (other_table schema table field) ∷ map seen (link_in (field_at schema table field))

-- what a part looks at from a table on
abbrev pub Looks : Type 0
Looks = ℕ → Parts

abbrev pub inner : Schema → ℕ → ℕ → Looks → Parts
inner schema table field looks = through_field schema table field ++ looks (other_table schema table field)

abbrev pub filter_step : Schema → Filter-F Looks → Looks
filter_step schema (filter.All parts) table = flat_map (λ part. part table) parts
filter_step schema (filter.Any parts) table = flat_map (λ part. part table) parts
filter_step schema (filter.Not part) table = part table
filter_step schema (filter.Test column test) table = []
filter_step schema (filter.Many field how part) table = inner schema table field part
filter_step schema (filter.One field None) table = through_field schema table field
filter_step schema (filter.One field (Some part)) table = inner schema table field part

abbrev pub through_filter : Schema → Filter → Looks
through_filter schema = fold-Filter Looks (filter_step schema)

-- a filter over a table
abbrev pub sees_filter : Schema → ℕ → Filter → Parts
sees_filter schema table asked = seen table ∷ through_filter schema asked table

abbrev pub sees_unique : Schema → ℕ → Unique → Parts
sees_unique schema table at = sees_filter schema table at.extra

abbrev pub through_end : Schema → ℕ → OrderEnd → Parts
through_end schema table (end.Column column) = []
through_end schema table (end.Count field) = through_field schema table field

-- along a path, and then to its end
abbrev pub through_path : Schema → OrderEnd → List ℕ → ℕ → Parts
through_path schema last [] table = through_end schema table last
through_path schema last (field ∷ fields) table = through_field schema table field ++ through_path schema last fields (other_table schema table field)

abbrev pub sees_order : Schema → ℕ → OrderBy → Parts
sees_order schema table order = through_path schema order.end order.path table

abbrev pub sees_at : Schema → ℕ → Option Unique → Parts
sees_at schema table None = []
sees_at schema table (Some at) = sees_unique schema table at

abbrev pub sees_look : Schema → ℕ → Look → Parts
sees_look schema table look = sees_filter schema table look.filter ++ flat_map (sees_order schema table) look.order ++ sees_at schema table look.page.cursor

-- the children and counts of a selection
abbrev pub pick_step : Schema → Pick-F Looks Looks → Looks
pick_step schema pick table = flat_map (through_field schema table) pick.counts ++ flat_map (λ child. child table) pick.children

abbrev pub child_step : Schema → Child-F Looks Looks → Looks
child_step schema child table = through_field schema table child.field ++ sees_look schema (other_table schema table child.field) child.look ++ child.pick (other_table schema table child.field)

-- a selection over a table
abbrev pub sees_pick : Schema → ℕ → Pick → Parts
sees_pick schema table pick = seen table ∷ fold-Pick Looks Looks (child_step schema) (pick_step schema) pick table
