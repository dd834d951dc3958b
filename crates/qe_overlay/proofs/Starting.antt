-- An overlay without changes.
use Rattle.std.proofs.Common.{◌≡◌, List, [], ◌∷◌, filter, Option, Some, None, Bool, true, false, cond, refl, ap, subst, sym}
use Rattle.std.specs.Prelude.{IfSome}
use Rattle.std.specs.List.Sorted.{IsStrictlySortedBy}
use Rattle.qe_base.specs.Schemas.{Schema}
use Rattle.qe_schema.specs.Fits.{FitsSchema}
use Rattle.qe_schema.specs.Tables.{Tables, table_at, is_link}
use Rattle.qe_overlay.specs.Fits.{LayersFit, EmptyStands}
use Rattle.qe_overlay.specs.Held.{layers_in}
use Rattle.qe_overlay.specs.Layers.{over_rows, over_pairs, seen}
use Rattle.qe_overlay.proofs.Seen.{tables_same}
use Rattle.qe_overlay.proofs.Views.{below_fits}

all_pass : {A : Type 0} (xs : List A) → filter (λ x. true) xs ≡ xs
all_pass [] = refl
all_pass (x ∷ xs) = ap (λ l. x ∷ l) (all_pass xs)

either_same : {A : Type 0} (b : Bool) (x y : A) → y ≡ x → cond b x y ≡ x
either_same true x y is = refl
either_same false x y is = is

either_other : {A : Type 0} (b : Bool) (x y : A) → y ≡ x → cond b y x ≡ x
either_other true x y is = is
either_other false x y is = refl

pub seen_none : (schema : Schema) (tables : Tables) → seen schema (layers_in []) tables ≡ tables
seen_none schema tables = tables_same (seen schema (layers_in []) tables) tables
    (λ t. either_same (is_link schema t) (tables.rows t) (over_rows (table_at schema t) [] (tables.rows t)) (all_pass (tables.rows t)))
    (λ t. refl)
    (λ t. either_other (is_link schema t) (tables.pairs t) (over_pairs [] (tables.pairs t)) (all_pass (tables.pairs t)))

none_fit : (schema : Schema) → LayersFit schema (layers_in [])
unfolding IsStrictlySortedBy
none_fit schema = record { order = λ t. tt; entries = λ t. tt; counters = λ t. tt }

pub empty_stands : EmptyStands
empty_stands schema connected sound is below = record {
  sound = sound;
  attached = is;
  below = below;
  now = (none_fit schema, by_told connected.told (below_fits schema connected is below));
  past = tt;
}
  where
    by_told : (told : Option Tables) → IfSome told (FitsSchema schema) → IfSome told (λ tables. FitsSchema schema (seen schema (layers_in []) tables))
    by_told None fit = tt
    by_told (Some tables) fit = subst (FitsSchema schema) (sym (seen_none schema tables)) fit
