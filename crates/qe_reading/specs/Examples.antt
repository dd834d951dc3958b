-- A small schema and its tables, and what is asked of them in worked examples.
use Rattle.std.specs.Prelude as Prelude
use Rattle.std.specs.Prelude.{ℕ, zero, suc, ℤ, pos, negsuc, List, [], ◌∷◌, true, false, map, codes, Option, Some, None}
use Rattle.qe_base.specs.declared.value.Kind.{Kind}
use Rattle.qe_base.specs.declared.value.Kind.TheVariants as kind
use Rattle.qe_base.specs.declared.value.RelId.{RelId}
use Rattle.qe_base.specs.declared.value.Row.{Row}
use Rattle.qe_base.specs.declared.value.TableId.{TableId}
use Rattle.qe_base.specs.declared.value.Value.{Value}
use Rattle.qe_base.specs.declared.value.Value.TheVariants.{Null, Text, Int}
use Rattle.qe_base.specs.declared.schema.Action.TheVariants.{Cascade, SetNull}
use Rattle.qe_base.specs.declared.schema.Column.{Column}
use Rattle.qe_base.specs.declared.schema.Field.{Field}
use Rattle.qe_base.specs.declared.schema.Field.TheVariants.{Scalar, Holder, Target, SideA, SideB}
use Rattle.qe_base.specs.declared.schema.Fill.TheVariants.{Absent}
use Rattle.qe_base.specs.declared.schema.Table.{Table}
use Rattle.qe_base.specs.declared.query.Child.{roll-Child}
use Rattle.qe_base.specs.declared.query.Filter.{Filter}
use Rattle.qe_base.specs.declared.query.Filter.TheVariants as filter
use Rattle.qe_base.specs.declared.query.Like.TheVariants as like
use Rattle.qe_base.specs.declared.query.Look.{Look}
use Rattle.qe_base.specs.declared.query.OrderBy.{OrderBy}
use Rattle.qe_base.specs.declared.query.OrderEnd.{OrderEnd}
use Rattle.qe_base.specs.declared.query.OrderEnd.TheVariants as end
use Rattle.qe_base.specs.declared.query.Page.{Page}
use Rattle.qe_base.specs.declared.query.Pick.{Pick, roll-Pick}
use Rattle.qe_base.specs.declared.query.Quant.TheVariants as quant
use Rattle.qe_base.specs.declared.query.Test.TheVariants as test
use Rattle.qe_base.specs.declared.query.Unique.{Unique}
use Rattle.qe_base.specs.declared.answer.Answer.{Answer}
use Rattle.qe_base.specs.declared.answer.Answer as answer
use Rattle.qe_base.specs.Schemas.{Schema}
use Rattle.qe_schema.specs.Columns.{value_at}
use Rattle.qe_schema.specs.Tables.{Tables}

-- ---- the schema: users with a profile and posts, and posts in categories

abbrev pub table_id : ℕ → TableId
table_id number = record { 0 = number }

abbrev pub relation_id : ℕ → RelId
relation_id number = record { 0 = number }

abbrev pub column : List ℕ → Kind → Prelude.Bool → Column
column name kind optional = record { name = name; stored = name; kind = kind; optional = optional; fill = Absent; updated = false }

-- a model whose id is its first column
abbrev pub model : List ℕ → List Column → List (List ℕ × Field) → Table
model name columns fields = record { name = name; stored = name; link = false; columns = columns; keys = record { name = codes "id"; columns = 0 ∷ [] } ∷ []; fields = fields; indexes = [] }

abbrev pub user : Table
user = model (codes "User") (column (codes "id") kind.Int false ∷ column (codes "name") kind.Text true ∷ []) ((codes "id", Scalar 0) ∷ (codes "name", Scalar 1) ∷ (codes "posts", Target (relation_id 1)) ∷ (codes "profile", Target (relation_id 0)) ∷ [])

abbrev pub profile : Table
profile =
    model (codes "Profile") (column (codes "id") kind.Int false ∷ column (codes "bio") kind.Text false ∷ column (codes "userId") kind.Int false ∷ [])
    ((codes "id", Scalar 0) ∷ (codes "bio", Scalar 1) ∷ (codes "user", Holder (relation_id 0)) ∷ (codes "userId", Scalar 2) ∷ [])

abbrev pub post : Table
post =
    model (codes "Post") (column (codes "id") kind.Int false ∷ column (codes "title") kind.Text false ∷ column (codes "authorId") kind.Int true ∷ [])
    ((codes "id", Scalar 0) ∷ (codes "title", Scalar 1) ∷ (codes "author", Holder (relation_id 1)) ∷ (codes "authorId", Scalar 2) ∷ (codes "categories", SideB (table_id 4)) ∷ [])

abbrev pub category : Table
category = model (codes "Category") (column (codes "id") kind.Int false ∷ []) ((codes "id", Scalar 0) ∷ (codes "posts", SideA (table_id 4)) ∷ [])

abbrev pub category_to_post : Table
category_to_post = record {
  name = codes "_CategoryToPost";
  stored = codes "_CategoryToPost";
  link = true;
  columns = column (codes "A") kind.Int false ∷ column (codes "B") kind.Int false ∷ [];
  keys = record { name = codes "A_B"; columns = 0 ∷ 1 ∷ [] } ∷ [];
  fields = (codes "A", Scalar 0) ∷ (codes "B", Scalar 1) ∷ [];
  indexes = [];
}

abbrev pub blog : Schema
blog = record {
  tables = user ∷ profile ∷ post ∷ category ∷ category_to_post ∷ [];
  relations =
      record { child = table_id 1; child_field = codes "user"; child_columns = 2 ∷ []; parent = table_id 0; parent_field = codes "profile"; parent_columns = 0 ∷ []; many = false; optional = false; on_delete = Cascade; on_update = Cascade }
      ∷ record { child = table_id 2; child_field = codes "author"; child_columns = 2 ∷ []; parent = table_id 0; parent_field = codes "posts"; parent_columns = 0 ∷ []; many = true; optional = true; on_delete = SetNull; on_update = Cascade } ∷ [];
  links = record { table = table_id 4; a = table_id 3; a_field = codes "posts"; b = table_id 2; b_field = codes "categories" } ∷ [];
  choices = [];
}

-- ---- the tables

abbrev pub row : List Value → Row
row values = record { values = values }

-- named x, without a name, and named y
abbrev pub users : List Row
users = row (Int (pos 1) ∷ Text (codes "x") ∷ []) ∷ row (Int (pos 2) ∷ Null ∷ []) ∷ row (Int (pos 3) ∷ Text (codes "y") ∷ []) ∷ []

-- of the first user, and of one that isn't there
abbrev pub profiles : List Row
profiles = row (Int (pos 1) ∷ Text (codes "hi") ∷ Int (pos 1) ∷ []) ∷ row (Int (pos 2) ∷ Text (codes "lost") ∷ Int (pos 77) ∷ []) ∷ []

-- the first two of the first user, the fourth of the second one
abbrev pub posts : List Row
posts =
    row (Int (pos 1) ∷ Text (codes "b") ∷ Int (pos 1) ∷ [])
    ∷ row (Int (pos 2) ∷ Text (codes "a") ∷ Int (pos 1) ∷ [])
    ∷ row (Int (pos 3) ∷ Text (codes "b") ∷ Null ∷ [])
    ∷ row (Int (pos 4) ∷ Text (codes "a") ∷ Int (pos 2) ∷ [])
    ∷ row (Int (pos 5) ∷ Text (codes "c") ∷ Null ∷ []) ∷ []

abbrev pub categories : List Row
categories = row (Int (pos 1) ∷ []) ∷ row (Int (pos 2) ∷ []) ∷ []

abbrev pub rows_in : ℕ → List Row
rows_in zero = users
rows_in (suc zero) = profiles
rows_in (suc (suc zero)) = posts
rows_in (suc (suc (suc zero))) = categories
rows_in (suc (suc (suc (suc table)))) = []

-- the first category has the second and the fourth post, the second category the second post
abbrev pub kept : Tables
kept = record { rows = rows_in; last = λ table. pos 0; pairs = λ table. (Int (pos 1), Int (pos 2)) ∷ (Int (pos 1), Int (pos 4)) ∷ (Int (pos 2), Int (pos 2)) ∷ [] }

-- ---- filters

abbrev pub everything : Filter
everything = filter.All []

abbrev pub is_called : List ℕ → Filter
is_called name = filter.Test 1 (test.Equals (Text name))

-- the name is not x
abbrev pub not_x : Filter
not_x = filter.Not (is_called (codes "x"))

-- the name is neither x nor y
abbrev pub neither : Filter
neither = filter.All (filter.Not (is_called (codes "x")) ∷ filter.Not (is_called (codes "y")) ∷ [])

-- the name has a capital X in it
abbrev pub has_x : Filter
has_x = filter.Test 1 (test.Like like.Inside (codes "X"))

-- there is no profile
abbrev pub no_profile : Filter
no_profile = filter.One 3 None

-- every post has the title b
abbrev pub every_b : Filter
every_b = filter.Many 2 quant.Every (is_called (codes "b"))

-- of a post: its author's name is not y
abbrev pub author_not_y : Filter
author_not_y = filter.One 2 (Some (filter.Not (is_called (codes "y"))))

-- ---- orders and pages

abbrev pub by : List ℕ → OrderEnd → Prelude.Bool → Option Prelude.Bool → OrderBy
by path end descending nulls_first = record { path = path; end = end; descending = descending; nulls_first = nulls_first }

abbrev pub by_title : OrderBy
by_title = by [] (end.Column 1) false None

-- by the name of the author
abbrev pub by_author : Prelude.Bool → Option Prelude.Bool → OrderBy
by_author = by (2 ∷ []) (end.Column 1)

-- by the number of posts
abbrev pub by_posts : Prelude.Bool → OrderBy
by_posts descending = by [] (end.Count 2) descending None

abbrev pub at_id : ℕ → Unique
at_id number = record { key = 0; values = row (Int (pos number) ∷ []); extra = everything }

abbrev pub whole : Page
whole = record { distinct = []; cursor = None; skip = 0; take = None }

-- two rows that end at the one before the cursor's
abbrev pub two_before : ℕ → Page
two_before cursor = record { distinct = []; cursor = Some (at_id cursor); skip = 1; take = Some (negsuc 1) }

abbrev pub taking : ℤ → Page
taking count = record { distinct = []; cursor = None; skip = 0; take = Some count }

-- one post of each title
abbrev pub one_a_title : Option Unique → Option ℤ → Page
one_a_title cursor take = record { distinct = 1 ∷ []; cursor = cursor; skip = 0; take = take }

abbrev pub look_by : List OrderBy → Page → Look
look_by order page = record { filter = everything; order = order; page = page }

-- the posts whose author's name is not y
abbrev pub posts_of_x : Look
posts_of_x = record { filter = author_not_y; order = []; page = whole }

-- ---- picks and answers

abbrev pub ids : Pick
ids = roll-Pick (record { columns = 0 ∷ []; counts = []; children = [] })

-- a pick of the id and of one child's ids
abbrev pub with_ids : ℕ → Pick
with_ids field = roll-Pick (record { columns = 0 ∷ []; counts = []; children = roll-Child (record { field = field; look = look_by [] whole; pick = ids }) ∷ [] })

-- a pick of the id and of a number of related rows
abbrev pub with_count : ℕ → Pick
with_count field = roll-Pick (record { columns = 0 ∷ []; counts = field ∷ []; children = [] })

abbrev pub ids_in : List Row → List Value
ids_in rows = map (λ row. value_at row 0) rows

abbrev pub numbers : List ℕ → List Value
numbers all = map (λ number. Int (pos number)) all

abbrev pub number_shown : ℕ → Answer
number_shown number = answer.Scalar kind.Int (Int (pos number))

abbrev pub id_shown : ℕ → Answer
id_shown number = answer.Object ((codes "id", number_shown number) ∷ [])

abbrev pub ids_shown : List ℕ → Answer
ids_shown numbers = answer.List (map id_shown numbers)

-- a row's id beside another part of it
abbrev pub id_and : ℕ → List ℕ → Answer → Answer
id_and number name shown = answer.Object ((codes "id", number_shown number) ∷ (name, shown) ∷ [])
