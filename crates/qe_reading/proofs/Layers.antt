-- What a filter says, what a pick shows, and when they fit, by their parts.
use Rattle.std.proofs.Common.{◌≡◌, ℕ, List, map, Some, None, sym, ap, ◌∙◌}
use Rattle.qe_base.specs.declared.query.Filter.{Filter}
use Rattle.qe_base.specs.declared.query.Filter.TheVariants as filter
use Rattle.qe_base.specs.declared.query.Filter.TheOpen as layer
use Rattle.qe_base.specs.declared.query.Filter.TheFolds.{fold-roll-Filter}
use Rattle.qe_base.specs.declared.query.Test.{Test}
use Rattle.qe_base.specs.declared.query.Quant.{Quant}
use Rattle.qe_base.specs.declared.query.Pick.{Pick, roll-Pick}
use Rattle.qe_base.specs.declared.query.Child.{Child, roll-Child}
use Rattle.qe_base.specs.declared.query.Child.TheOpen.{Child-F, Pick-F}
use Rattle.qe_base.specs.declared.query.Child.TheFolds.{fold-roll-Pick, fold-roll-Child}
use Rattle.qe_base.specs.Schemas.{Schema}
use Rattle.qe_schema.specs.Tables.{Tables}
use Rattle.qe_reading.specs.Truth.{Says, truth_of, truth_step}
use Rattle.qe_reading.specs.Fits as fitting
use Rattle.qe_reading.specs.Fits.{Fitting, FittingChild, filter_step, filter_fits, pick_fits, child_fits}
use Rattle.qe_reading.specs.Shape.{Shows, ShowsChild, child_step, pick_step, shape_of, child_of}

module _ (schema : Schema) (tables : Tables) where
  pub truth_all : (parts : List Filter) → truth_of schema tables (filter.All parts) ≡ truth_step schema tables (layer.All (map (truth_of schema tables) parts))
  truth_all parts = ap (truth_of schema tables) (sym (filter.rolls-All parts)) ∙ fold-roll-Filter Says (truth_step schema tables) (layer.All parts)

  pub truth_any : (parts : List Filter) → truth_of schema tables (filter.Any parts) ≡ truth_step schema tables (layer.Any (map (truth_of schema tables) parts))
  truth_any parts = ap (truth_of schema tables) (sym (filter.rolls-Any parts)) ∙ fold-roll-Filter Says (truth_step schema tables) (layer.Any parts)

  pub truth_not : (part : Filter) → truth_of schema tables (filter.Not part) ≡ truth_step schema tables (layer.Not (truth_of schema tables part))
  truth_not part = ap (truth_of schema tables) (sym (filter.rolls-Not part)) ∙ fold-roll-Filter Says (truth_step schema tables) (layer.Not part)

  pub truth_test : (column : ℕ) (asked : Test) → truth_of schema tables (filter.Test column asked) ≡ truth_step schema tables (layer.Test column asked)
  truth_test column asked = ap (truth_of schema tables) (sym (filter.rolls-Test column asked)) ∙ fold-roll-Filter Says (truth_step schema tables) (layer.Test column asked)

  pub truth_many : (field : ℕ) (how : Quant) (inner : Filter) → truth_of schema tables (filter.Many field how inner) ≡ truth_step schema tables (layer.Many field how (truth_of schema tables inner))
  truth_many field how inner = ap (truth_of schema tables) (sym (filter.rolls-Many field how inner)) ∙ fold-roll-Filter Says (truth_step schema tables) (layer.Many field how inner)

  pub truth_none_there : (field : ℕ) → truth_of schema tables (filter.One field None) ≡ truth_step schema tables (layer.One field None)
  truth_none_there field = ap (truth_of schema tables) (sym (filter.rolls-One field None)) ∙ fold-roll-Filter Says (truth_step schema tables) (layer.One field None)

  pub truth_one : (field : ℕ) (inner : Filter) → truth_of schema tables (filter.One field (Some inner)) ≡ truth_step schema tables (layer.One field (Some (truth_of schema tables inner)))
  truth_one field inner = ap (truth_of schema tables) (sym (filter.rolls-One field (Some inner))) ∙ fold-roll-Filter Says (truth_step schema tables) (layer.One field (Some inner))

  pub shape_roll : (pick : Pick-F Child Pick) → shape_of schema tables (roll-Pick pick) ≡ pick_step schema tables (record { columns = pick.columns; counts = pick.counts; children = map (child_of schema tables) pick.children })
  shape_roll = fold-roll-Pick ShowsChild Shows (child_step schema tables) (pick_step schema tables)

  pub child_roll : (child : Child-F Child Pick) → child_of schema tables (roll-Child child) ≡ child_step schema tables (record { field = child.field; look = child.look; pick = shape_of schema tables child.pick })
  child_roll = fold-roll-Child ShowsChild Shows (child_step schema tables) (pick_step schema tables)

-- ---- what fits, by its parts

module _ (schema : Schema) where
  pub fits_all : (parts : List Filter) → filter_fits schema (filter.All parts) ≡ filter_step schema (layer.All (map (filter_fits schema) parts))
  fits_all parts = ap (filter_fits schema) (sym (filter.rolls-All parts)) ∙ fold-roll-Filter Fitting (filter_step schema) (layer.All parts)

  pub fits_any : (parts : List Filter) → filter_fits schema (filter.Any parts) ≡ filter_step schema (layer.Any (map (filter_fits schema) parts))
  fits_any parts = ap (filter_fits schema) (sym (filter.rolls-Any parts)) ∙ fold-roll-Filter Fitting (filter_step schema) (layer.Any parts)

  pub fits_not : (part : Filter) → filter_fits schema (filter.Not part) ≡ filter_step schema (layer.Not (filter_fits schema part))
  fits_not part = ap (filter_fits schema) (sym (filter.rolls-Not part)) ∙ fold-roll-Filter Fitting (filter_step schema) (layer.Not part)

  pub fits_test : (column : ℕ) (asked : Test) → filter_fits schema (filter.Test column asked) ≡ filter_step schema (layer.Test column asked)
  fits_test column asked = ap (filter_fits schema) (sym (filter.rolls-Test column asked)) ∙ fold-roll-Filter Fitting (filter_step schema) (layer.Test column asked)

  pub fits_many : (field : ℕ) (how : Quant) (inner : Filter) → filter_fits schema (filter.Many field how inner) ≡ filter_step schema (layer.Many field how (filter_fits schema inner))
  fits_many field how inner = ap (filter_fits schema) (sym (filter.rolls-Many field how inner)) ∙ fold-roll-Filter Fitting (filter_step schema) (layer.Many field how inner)

  pub fits_none_there : (field : ℕ) → filter_fits schema (filter.One field None) ≡ filter_step schema (layer.One field None)
  fits_none_there field = ap (filter_fits schema) (sym (filter.rolls-One field None)) ∙ fold-roll-Filter Fitting (filter_step schema) (layer.One field None)

  pub fits_one : (field : ℕ) (inner : Filter) → filter_fits schema (filter.One field (Some inner)) ≡ filter_step schema (layer.One field (Some (filter_fits schema inner)))
  fits_one field inner = ap (filter_fits schema) (sym (filter.rolls-One field (Some inner))) ∙ fold-roll-Filter Fitting (filter_step schema) (layer.One field (Some inner))

  pub fits_pick : (pick : Pick-F Child Pick) → pick_fits schema (roll-Pick pick) ≡ fitting.pick_step schema (record { columns = pick.columns; counts = pick.counts; children = map (child_fits schema) pick.children })
  fits_pick = fold-roll-Pick FittingChild Fitting (fitting.child_step schema) (fitting.pick_step schema)

  pub fits_child : (child : Child-F Child Pick) → child_fits schema (roll-Child child) ≡ fitting.child_step schema (record { field = child.field; look = child.look; pick = pick_fits schema child.pick })
  fits_child = fold-roll-Child FittingChild Fitting (fitting.child_step schema) (fitting.pick_step schema)
