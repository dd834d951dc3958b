-- The layers of some tables alone.
use Rattle.std.proofs.Common.{◌≡◌, ◌<◌, ◌≤◌, ◌+◌, ℕ, List, length, slice_set, slice_index_or, Option, Bool, true, false, cond, refl, sym, ap, subst, ◌∙◌, true≢false, arith}
use Rattle.std.specs.Prelude.{unwrap_or, ◌==◌, nat_lt, IfSome}
use Rattle.std.specs.List.{AllByRecursion}
use Rattle.std.specs.List.Sorted.{IsStrictlySortedBy}
use Rattle.std.specs.Map.{keys_of}
use Rattle.std.proofs.lemmas.Bool.{eqb-true, eq-eqb, ltb-true, ltb-false}
use Rattle.std.proofs.lemmas.Option.{slice_get_past}
use Rattle.qe_base.specs.Values.{row_cmp}
use Rattle.qe_base.specs.declared.value.TableId.{TableId}
use Rattle.qe_view.specs.Right.{is_last_of}
use Rattle.qe_overlay.specs.Fits.{FitsEntry, NarrowedFit}
use Rattle.qe_overlay.specs.Held.{layers_in, is_listed, narrowed, with_layer, NarrowedStay}
use Rattle.qe_overlay.specs.Layers.{Layer, Layers, no_layer}
use Rattle.qe_overlay.proofs.Undoing.{layers_in-set, shown_layer}

pub narrowed_stay : NarrowedStay
narrowed_stay tables layers none = λ i table. at_one table (is_listed tables table) refl i
  where
    at_one : (table : ℕ) (b : Bool) → is_listed tables table ≡ b → cond b (layers table) no_layer ≡ layers table
    at_one table true listed = refl
    at_one table false other = sym (none table other)

pub narrowed_fit : NarrowedFit
unfolding IsStrictlySortedBy
narrowed_fit schema tables layers fit = record {
  order = λ table. elim (is_listed tables table) as (λ b. IsStrictlySortedBy row_cmp (keys_of (cond b (layers table) no_layer).entries)) [ true ↦ fit.order table | false ↦ tt ];
  entries = λ table. elim (is_listed tables table) as (λ b. AllByRecursion (FitsEntry schema table) (cond b (layers table) no_layer).entries) [ true ↦ fit.entries table | false ↦ tt ];
  counters = λ table. elim (is_listed tables table) as (λ b. IfSome (cond b (layers table) no_layer).last (λ last. is_last_of schema table last ≡ true)) [ true ↦ fit.counters table | false ↦ tt ];
}

-- the layers before this number are narrowed, and the others are as they were
pub record NarrowedFirst (tables : List TableId) (number : ℕ) (before now : Layers) : Type 0 where
  pub first : (table : ℕ) → table < number → now table ≡ narrowed tables before table
  pub rest : (table : ℕ) → number ≤ table → now table ≡ before table

pub none_narrowed : (tables : List TableId) (layers : Layers) → NarrowedFirst tables 0 layers layers
none_narrowed tables layers = record { first = λ table less. absurd (omega arith); rest = λ table most. refl }

pub one_narrowed : (tables : List TableId) (number : ℕ) (before : Layers) (layers : List Layer) (shown layer : Layer) → number < length layers → NarrowedFirst tables number before (layers_in layers)
    → shown ≡ slice_index_or layers number shown → layer ≡ cond (is_listed tables number) shown no_layer → NarrowedFirst tables (number + 1) before (layers_in (slice_set layers number layer))
one_narrowed tables number before layers shown layer within so_far shows is =
    subst (NarrowedFirst tables (number + 1) before) (sym (layers_in-set layers number layer within)) (record { first = λ table less. first table less (table == number) refl; rest = rest })
  where
    here : layer ≡ narrowed tables before number
    here = is ∙ ap (λ (l : Layer). cond (is_listed tables number) l no_layer) (shows ∙ shown_layer layers number shown within ∙ so_far.rest number (omega arith))

    first : (table : ℕ) → table < number + 1 → (b : Bool) → table == number ≡ b → cond b layer (layers_in layers table) ≡ narrowed tables before table
    first table less true same = here ∙ ap (narrowed tables before) (sym (eqb-true table number same))
    first table less false other = so_far.first table (below table less (λ same. true≢false (sym (eq-eqb table number same) ∙ other)))
      where
        below : (table : ℕ) → table < number + 1 → (table ≡ number → ⊥) → table < number
        below table less other = omega arith

    rest : (table : ℕ) → number + 1 ≤ table → with_layer number layer (layers_in layers) table ≡ before table
    rest table most = ap (λ b. cond b layer (layers_in layers table)) (apart table most) ∙ so_far.rest table (omega arith)
      where
        apart : (table : ℕ) → number + 1 ≤ table → table == number ≡ false
        apart table most = by_test (table == number) refl
          where
            by_test : (b : Bool) → table == number ≡ b → b ≡ false
            by_test true same = let is_number : table ≡ number = eqb-true table number same in absurd (omega arith)
            by_test false other = refl

pub all_narrowed : (tables : List TableId) (number : ℕ) (before now : List Layer) → length now ≤ number → NarrowedFirst tables number (layers_in before) (layers_in now) → layers_in now ≡ narrowed tables (layers_in before)
all_narrowed tables number before now most narrow = λ i table. at_one table (nat_lt table number) refl i
  where
    no_more : (table : ℕ) → number ≤ table → layers_in now table ≡ no_layer
    no_more table least = ap (λ (o : Option Layer). unwrap_or o no_layer) (slice_get_past now table (omega arith))

    at_one : (table : ℕ) (b : Bool) → nat_lt table number ≡ b → layers_in now table ≡ narrowed tables (layers_in before) table
    at_one table true less = narrow.first table (ltb-true table number less)
    at_one table false least =
        let past : number ≤ table = ltb-false table number least in
        no_more table past
        ∙ (elim (is_listed tables table) as (λ b. no_layer ≡ cond b no_layer no_layer) [ true ↦ refl | false ↦ refl ])
        ∙ ap (λ (l : Layer). cond (is_listed tables table) l no_layer) (sym (no_more table past) ∙ narrow.rest table past)
