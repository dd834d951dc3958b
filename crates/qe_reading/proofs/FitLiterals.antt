-- What fits, on literals: once its parts are laid open, it computes.
use Rattle.std.proofs.Common.{◌≡◌, ℕ, [], ◌∷◌, codes, Bool, true, false, ◌&&◌, ◌||◌, Some, None, refl, ap, ◌∙◌}
use Rattle.std.specs.List.{list_all}
use Rattle.std.proofs.lemmas.Bool.{and_from}
use Rattle.qe_base.specs.declared.value.Value.TheVariants.{Text}
use Rattle.qe_base.specs.declared.query.Child.{Child, roll-Child}
use Rattle.qe_base.specs.declared.query.Child.TheOpen.{Child-F}
use Rattle.qe_base.specs.declared.query.Filter.{out-Filter}
use Rattle.qe_base.specs.declared.query.Filter.TheVariants as filter
use Rattle.qe_base.specs.declared.query.Filter.TheOpen as layer
use Rattle.qe_base.specs.declared.query.Pick.{Pick}
use Rattle.qe_base.specs.declared.query.Quant.TheVariants as quant
use Rattle.qe_base.specs.declared.query.Test.{Test}
use Rattle.qe_base.specs.declared.query.Test.TheVariants as test
use Rattle.qe_base.specs.declared.write.Op.TheVariants as op
use Rattle.qe_reading.specs.Related.{other_table, is_to_many, is_to_one}
use Rattle.qe_reading.specs.Fits.{Fitting, FittingChild, filter_step, filter_fits, asks_nothing, is_blank_page, order_fits, page_fits, pick_fits, pick_step, child_fits, read_fits}
use Rattle.qe_reading.specs.Examples.{blog, everything, is_called, author_not_y, posts_of_x, table_id, ids, with_ids, with_count, by_title, two_before, look_by, whole}
use Rattle.qe_reading.proofs.Layers.{fits_all, fits_not, fits_test, fits_many, fits_none_there, fits_one, fits_pick, fits_child}

-- ---- filters

pub test_is : (column : ℕ) (asked : Test) (table : ℕ) → filter_fits blog (filter.Test column asked) table ≡ filter_step blog (layer.Test column asked) table
test_is column asked table = ap (λ (fits : Fitting). fits table) (fits_test blog column asked)

pub some_of_profile : filter_fits blog (filter.Many 3 quant.Some everything) 0 ≡ false
some_of_profile = ap (λ (fits : Fitting). fits 0) (fits_many blog 3 quant.Some everything)

pub no_posts : filter_fits blog (filter.One 2 None) 0 ≡ false
no_posts = ap (λ (fits : Fitting). fits 0) (fits_none_there blog 2)

everything_fits : (table : ℕ) → filter_fits blog everything table ≡ true
everything_fits table = ap (λ (fits : Fitting). fits table) (fits_all blog [])

author_fits : filter_fits blog author_not_y 2 ≡ true
author_fits =
    ap (λ (fits : Fitting). fits 2)
    (fits_one blog 2 (filter.Not (is_called (codes "y")))
    ∙ ap (λ inner. filter_step blog (layer.One 2 (Some inner))) (fits_not blog (is_called (codes "y")) ∙ ap (λ part. filter_step blog (layer.Not part)) (fits_test blog 1 (test.Equals (Text (codes "y"))))))

nothing_asked : asks_nothing (out-Filter everything) ≡ true
nothing_asked = ap asks_nothing (filter.outs-All [])

-- ---- picks

-- a child without a look, by what is said of its filter
abbrev child_by : Fitting → Bool → ℕ → Fitting → FittingChild
child_by filters blank field pick = record {
  field = field;
  fits = λ table.
      ((is_to_many blog table field && (filters (other_table blog table field) && list_all (λ order. order_fits blog order (other_table blog table field)) [] && page_fits blog whole (other_table blog table field)))
      || (is_to_one blog table field && (blank && true && is_blank_page whole)))
      && pick (other_table blog table field);
}

abbrev ids_fit : Fitting
ids_fit = pick_step blog (record { columns = 0 ∷ []; counts = []; children = [] })

pub with_is : (field table : ℕ) → pick_fits blog (with_ids field) table ≡ pick_step blog (record { columns = 0 ∷ []; counts = []; children = child_by (filter_step blog (layer.All [])) true field ids_fit ∷ [] }) table
with_is field table =
    let child : Child-F Child Pick = record { field = field; look = look_by [] whole; pick = ids } in
    let child_is : child_fits blog (roll-Child child) ≡ child_by (filter_step blog (layer.All [])) true field ids_fit =
    fits_child blog child ∙ (λ i. child_by (fits_all blog [] i) (nothing_asked i) field (fits_pick blog (record { columns = 0 ∷ []; counts = []; children = [] }) i)) in
    ap (λ (fits : Fitting). fits table)
    (fits_pick blog (record { columns = 0 ∷ []; counts = []; children = roll-Child child ∷ [] })
    ∙ (λ i. pick_step blog (record { columns = 0 ∷ []; counts = []; children = child_is i ∷ [] })))

pub counted_profile : pick_fits blog (with_count 3) 0 ≡ false
counted_profile = ap (λ (fits : Fitting). fits 0) (fits_pick blog (record { columns = 0 ∷ []; counts = 3 ∷ []; children = [] }))

-- ---- reads

page_fits_it : page_fits blog (two_before 5) 2 ≡ true
page_fits_it = ap (λ blank. (blank && true) && true) nothing_asked

pub page_is : read_fits blog (op.FindMany (table_id 2) (look_by (by_title ∷ []) (two_before 5)) (with_ids 2)) ≡ true
page_is = and_from _ _ (and_from _ _ (and_from _ _ (everything_fits 2) refl) page_fits_it) (with_is 2 2)

pub counted_is : read_fits blog (op.Count (table_id 2) posts_of_x) ≡ true
counted_is = and_from _ _ (and_from _ _ (and_from _ _ author_fits refl) refl) refl
