-- Filters, picks and reads on literals: once their parts are laid open, they compute.
use Rattle.std.proofs.Common.{◌≡◌, ℕ, List, [], ◌∷◌, map, Bool, true, false, ◌&&◌, negsuc, length, codes, Some, Result, Ok, Err, refl, ap, ◌∙◌}
use Rattle.std.specs.Prelude.{find}
use Rattle.std.specs.Prelude.{filter as keep}
use Rattle.qe_base.specs.declared.value.Row.{Row}
use Rattle.qe_base.specs.declared.value.TableId.{TableId}
use Rattle.qe_base.specs.declared.value.Value.TheVariants.{Text}
use Rattle.qe_base.specs.declared.query.Child.{Child, roll-Child}
use Rattle.qe_base.specs.declared.query.Child.TheOpen.{Child-F}
use Rattle.qe_base.specs.declared.query.Filter.TheVariants as filter
use Rattle.qe_base.specs.declared.query.Filter.TheOpen as layer
use Rattle.qe_base.specs.declared.query.Filter.TheOpen.{Filter-F}
use Rattle.qe_base.specs.declared.query.Like.TheVariants as like
use Rattle.qe_base.specs.declared.query.Look.{Look}
use Rattle.qe_base.specs.declared.query.Pick.{Pick}
use Rattle.qe_base.specs.declared.query.Quant.TheVariants as quant
use Rattle.qe_base.specs.declared.query.Test.{Test}
use Rattle.qe_base.specs.declared.query.Test.TheVariants as test
use Rattle.qe_base.specs.declared.query.Unique.{Unique}
use Rattle.qe_base.specs.declared.answer.Answer.{Answer}
use Rattle.qe_base.specs.declared.answer.Answer as answer
use Rattle.qe_base.specs.declared.answer.Rule.{Rule}
use Rattle.qe_base.specs.declared.answer.Rule.TheVariants as rule
use Rattle.qe_base.specs.declared.write.Op.TheVariants as op
use Rattle.qe_schema.specs.Tables.{table_at}
use Rattle.qe_schema.specs.declared.truth.Truth.TheVariants.{Yes, No, Unknown}
use Rattle.qe_reading.specs.Related.{other_table, related, one_related, first_row, is_to_many}
use Rattle.qe_reading.specs.Truth.{Says, truth_of, truth_step}
use Rattle.qe_schema.specs.Tests.{is_yes}
use Rattle.qe_reading.specs.Order.{ordered}
use Rattle.qe_reading.specs.Page.{page_of, is_at}
use Rattle.qe_reading.specs.Shape.{Shows, ShowsChild, then_ok, field_name, one_shown, all_shown, child_shown, child_step, pick_step, shape_of, child_of}
use Rattle.qe_reading.specs.Read.{row_or_missing, with_one, read_of}
use Rattle.qe_reading.specs.Examples.{blog, kept, is_called, not_x, neither, has_x, no_profile, every_b, author_not_y, users, posts, posts_of_x, table_id, at_id, by_title, two_before, taking, ids, with_ids, with_count, look_by, whole, id_shown, ids_shown, id_and}
use Rattle.qe_reading.proofs.Layers.{truth_all, truth_any, truth_not, truth_test, truth_many, truth_none_there, truth_one, shape_roll, child_roll}

-- ---- filters

abbrev step : Filter-F Says → Says
step = truth_step blog kept

untested : (column : ℕ) (asked : Test) → truth_of blog kept (filter.Not (filter.Test column asked)) ≡ step (layer.Not (step (layer.Test column asked)))
untested column asked = truth_not blog kept (filter.Test column asked) ∙ ap (λ part. step (layer.Not part)) (truth_test blog kept column asked)

pub not_x_is : map (truth_of blog kept not_x 0) users ≡ No ∷ Unknown ∷ Yes ∷ []
not_x_is = ap (λ (says : Says). map (says 0) users) (untested 1 (test.Equals (Text (codes "x"))))

pub neither_is : map (truth_of blog kept neither 0) users ≡ No ∷ Unknown ∷ No ∷ []
neither_is =
    ap (λ (says : Says). map (says 0) users)
    (truth_all blog kept (filter.Not (is_called (codes "x")) ∷ filter.Not (is_called (codes "y")) ∷ [])
    ∙ (λ i. step (layer.All (untested 1 (test.Equals (Text (codes "x"))) i ∷ untested 1 (test.Equals (Text (codes "y"))) i ∷ []))))

pub has_x_is : map (truth_of blog kept has_x 0) users ≡ Yes ∷ Unknown ∷ No ∷ []
has_x_is = ap (λ (says : Says). map (says 0) users) (truth_test blog kept 1 (test.Like like.Inside (codes "X")))

pub no_profile_is : map (truth_of blog kept no_profile 0) users ≡ No ∷ Yes ∷ Yes ∷ []
no_profile_is = ap (λ (says : Says). map (says 0) users) (truth_none_there blog kept 3)

pub every_b_is : map (truth_of blog kept every_b 0) users ≡ No ∷ No ∷ Yes ∷ []
every_b_is =
    ap (λ (says : Says). map (says 0) users)
    (truth_many blog kept 2 quant.Every (is_called (codes "b")) ∙ ap (λ inner. step (layer.Many 2 quant.Every inner)) (truth_test blog kept 1 (test.Equals (Text (codes "b")))))

author_says : truth_of blog kept author_not_y ≡ step (layer.One 2 (Some (step (layer.Not (step (layer.Test 1 (test.Equals (Text (codes "y")))))))))
author_says = truth_one blog kept 2 (filter.Not (is_called (codes "y"))) ∙ ap (λ inner. step (layer.One 2 (Some inner))) (untested 1 (test.Equals (Text (codes "y"))))

pub author_not_y_is : map (truth_of blog kept author_not_y 2) posts ≡ Yes ∷ Yes ∷ No ∷ No ∷ No ∷ []
author_not_y_is = ap (λ (says : Says). map (says 2) posts) author_says

pub any_of_nothing_is : map (truth_of blog kept (filter.Any []) 0) users ≡ No ∷ No ∷ No ∷ []
any_of_nothing_is = ap (λ (says : Says). map (says 0) users) (truth_any blog kept [])

-- ---- picks

abbrev all : Says
all = step (layer.All [])

-- a child whose filter says this of each row
abbrev shown_by : Says → ℕ → Child-F ShowsChild Shows → Row → Bool → Result Answer Rule
shown_by says table child row true =
    let other = other_table blog table child.field in
    all_shown (child.pick other) (page_of (table_at blog other) child.look.page (ordered blog kept other child.look.order (keep (λ found. is_yes (says other found)) (related blog kept table child.field row))))
shown_by says table child row false = one_shown blog table child.field (child.pick (other_table blog table child.field)) (one_related blog kept table child.field row)

abbrev child_by : Says → Child-F ShowsChild Shows → ShowsChild
child_by says child table row = then_ok (λ shown. (field_name blog table child.field, shown)) (shown_by says table child row (is_to_many blog table child.field))

shown_is : (says : Says) (table : ℕ) (child : Child-F ShowsChild Shows) (row : Row) (many : Bool) → truth_of blog kept child.look.filter ≡ says → child_shown blog kept table child row many ≡ shown_by says table child row many
shown_is says table child row true e = λ i. shown_by (e i) table child row true
shown_is says table child row false e = refl

child_is : (says : Says) (child : Child-F ShowsChild Shows) → truth_of blog kept child.look.filter ≡ says → child_step blog kept child ≡ child_by says child
child_is says child e = λ i table row. then_ok (λ shown. (field_name blog table child.field, shown)) (shown_is says table child row (is_to_many blog table child.field) e i)

abbrev shows_ids : Shows
shows_ids = pick_step blog kept (record { columns = 0 ∷ []; counts = []; children = [] })

ids_is : shape_of blog kept ids ≡ shows_ids
ids_is = shape_roll blog kept (record { columns = 0 ∷ []; counts = []; children = [] })

abbrev shows_with : ℕ → Shows
shows_with field = pick_step blog kept (record { columns = 0 ∷ []; counts = []; children = child_by all (record { field = field; look = look_by [] whole; pick = shows_ids }) ∷ [] })

with_is : (field : ℕ) → shape_of blog kept (with_ids field) ≡ shows_with field
with_is field =
    let child : Child-F Child Pick = record { field = field; look = look_by [] whole; pick = ids } in
    let child_ids : child_of blog kept (roll-Child child) ≡ child_by all (record { field = field; look = look_by [] whole; pick = shows_ids }) =
    child_roll blog kept child
    ∙ ap (λ pick. child_step blog kept (record { field = field; look = look_by [] whole; pick = pick })) ids_is
    ∙ child_is all (record { field = field; look = look_by [] whole; pick = shows_ids }) (truth_all blog kept []) in
    shape_roll blog kept (record { columns = 0 ∷ []; counts = []; children = roll-Child child ∷ [] })
    ∙ (λ i. pick_step blog kept (record { columns = 0 ∷ []; counts = []; children = child_ids i ∷ [] }))

-- ---- reads

-- the rows that a look has whose filter says this of each row
abbrev found_by : Says → ℕ → Look → List Row
found_by says table look = page_of (table_at blog table) look.page (ordered blog kept table look.order (keep (λ row. is_yes (says table row)) (kept.rows table)))

read_many : (table : TableId) (look : Look) (pick : Pick) (says : Says) (shows : Shows) → truth_of blog kept look.filter ≡ says → shape_of blog kept pick ≡ shows
    → read_of blog kept (op.FindMany table look pick) ≡ Some (all_shown (shows table.0) (found_by says table.0 look))
read_many table look pick says shows e d = λ i. Some (all_shown (d i table.0) (found_by (e i) table.0 look))

read_first : (table : TableId) (look : Look) (strict : Bool) (pick : Pick) (says : Says) (shows : Shows) → truth_of blog kept look.filter ≡ says → shape_of blog kept pick ≡ shows
    → read_of blog kept (op.FindFirst table look strict pick) ≡ Some (row_or_missing table.0 strict (shows table.0) (first_row (found_by says table.0 (with_one look))))
read_first table look strict pick says shows e d = λ i. Some (row_or_missing table.0 strict (d i table.0) (first_row (found_by (e i) table.0 (with_one look))))

read_unique : (table : TableId) (at : Unique) (strict : Bool) (pick : Pick) (says : Says) (shows : Shows) → truth_of blog kept at.extra ≡ says → shape_of blog kept pick ≡ shows
    → read_of blog kept (op.FindUnique table at strict pick) ≡ Some (row_or_missing table.0 strict (shows table.0) (find (λ row. is_at (table_at blog table.0) at row && is_yes (says table.0 row)) (kept.rows table.0)))
read_unique table at strict pick says shows e d = λ i. Some (row_or_missing table.0 strict (d i table.0) (find (λ row. is_at (table_at blog table.0) at row && is_yes (e i table.0 row)) (kept.rows table.0)))

read_count : (table : TableId) (look : Look) (says : Says) → truth_of blog kept look.filter ≡ says → read_of blog kept (op.Count table look) ≡ Some (Ok (answer.Number (length (found_by says table.0 look))))
read_count table look says e = λ i. Some (Ok (answer.Number (length (found_by (e i) table.0 look))))

pub page_is : read_of blog kept (op.FindMany (table_id 2) (look_by (by_title ∷ []) (two_before 5)) ids) ≡ Some (Ok (ids_shown (1 ∷ 3 ∷ [])))
page_is = read_many (table_id 2) (look_by (by_title ∷ []) (two_before 5)) ids all shows_ids (truth_all blog kept []) ids_is

pub first_is : read_of blog kept (op.FindFirst (table_id 2) (look_by [] (taking (negsuc 2))) false ids) ≡ Some (Ok (id_shown 5))
first_is = read_first (table_id 2) (look_by [] (taking (negsuc 2))) false ids all shows_ids (truth_all blog kept []) ids_is

pub unique_is : (table number : ℕ) (strict : Bool) (pick : Pick) (shows : Shows) → shape_of blog kept pick ≡ shows
    → read_of blog kept (op.FindUnique (table_id table) (at_id number) strict pick) ≡ Some (row_or_missing table strict (shows table) (find (λ row. is_at (table_at blog table) (at_id number) row && is_yes (all table row)) (kept.rows table)))
unique_is table number strict pick shows e = read_unique (table_id table) (at_id number) strict pick all shows (truth_all blog kept []) e

pub many_is : read_of blog kept (op.FindUnique (table_id 0) (at_id 1) false (with_ids 2)) ≡ Some (Ok (id_and 1 (codes "posts") (ids_shown (1 ∷ 2 ∷ []))))
many_is = unique_is 0 1 false (with_ids 2) (shows_with 2) (with_is 2)

pub counts_are : read_of blog kept (op.FindUnique (table_id 0) (at_id 1) false (with_count 2)) ≡ Some (Ok (id_and 1 (codes "_count") (answer.Object ((codes "posts", answer.Number 2) ∷ []))))
counts_are = unique_is 0 1 false (with_count 2) (pick_step blog kept (record { columns = 0 ∷ []; counts = 2 ∷ []; children = [] })) (shape_roll blog kept (record { columns = 0 ∷ []; counts = 2 ∷ []; children = [] }))

pub linked_is : read_of blog kept (op.FindUnique (table_id 3) (at_id 1) false (with_ids 1)) ≡ Some (Ok (id_and 1 (codes "posts") (ids_shown (2 ∷ 4 ∷ []))))
linked_is = unique_is 3 1 false (with_ids 1) (shows_with 1) (with_is 1)

pub linked_back_is : read_of blog kept (op.FindUnique (table_id 2) (at_id 2) false (with_ids 4)) ≡ Some (Ok (id_and 2 (codes "categories") (ids_shown (1 ∷ 2 ∷ []))))
linked_back_is = unique_is 2 2 false (with_ids 4) (shows_with 4) (with_is 4)

pub optional_is : read_of blog kept (op.FindUnique (table_id 2) (at_id 3) false (with_ids 2)) ≡ Some (Ok (id_and 3 (codes "author") answer.Null))
optional_is = unique_is 2 3 false (with_ids 2) (shows_with 2) (with_is 2)

pub dangling_is : read_of blog kept (op.FindMany (table_id 1) (look_by [] whole) (with_ids 2)) ≡ Some (Err (rule.Dangling (table_id 1) 2))
dangling_is = read_many (table_id 1) (look_by [] whole) (with_ids 2) all (shows_with 2) (truth_all blog kept []) (with_is 2)

pub counted_is : read_of blog kept (op.Count (table_id 2) posts_of_x) ≡ Some (Ok (answer.Number 2))
counted_is = read_count (table_id 2) posts_of_x _ author_says
