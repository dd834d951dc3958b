-- Pairs stay in order, and fit their link table, when one comes or goes.
use Rattle.std.proofs.Common.{◌≡◌, ℕ, Bool, true, false, cond, not, filter, List, [], ◌∷◌, refl, sym, ap, subst, ◌∙◌, true≢false, Less}
use Rattle.std.specs.Prelude.{◌==◌}
use Rattle.std.specs.List.{list_all}
use Rattle.std.specs.Ordering.{is_lt, is_gt}
use Rattle.std.proofs.lemmas.Bool.{eqb-true}
use Rattle.qe_base.specs.declared.value.Value.{Value}
use Rattle.qe_base.specs.Schemas.{Schema}
use Rattle.qe_schema.specs.Fits.{fit_columns, FitsSchema}
use Rattle.qe_schema.specs.Pairs.{pair_cmp, is_pair, with_pair, without_pair, PairsAscend, both_values}
use Rattle.qe_schema.specs.Tables.{Tables, table_at, is_link, with_pairs}
use Rattle.qe_row_laws.specs.Pairs.{WithPairAscends, WithoutPairAscends, NewPairsFit, FewerPairsFit}
use Rattle.qe_row_laws.proofs.Lists.{all_with, all_filtered, Pairwise, filtered, inserted}
use Rattle.qe_row_laws.proofs.Orders.{pair_cmp_total, less_is, turned}

abbrev PairBefore : Value × Value → Value × Value → Type 0
PairBefore pair later = pair_cmp pair later ≡ Less

from_ascending : (pairs : List (Value × Value)) → PairsAscend pairs → Pairwise PairBefore pairs
from_ascending [] all = tt
from_ascending (pair ∷ pairs) all = (all.0, from_ascending pairs all.1)

ascending : (pairs : List (Value × Value)) → Pairwise PairBefore pairs → PairsAscend pairs
ascending [] all = tt
ascending (pair ∷ pairs) all = (all.0, ascending pairs all.1)

pub with_ascends : WithPairAscends
with_ascends pair pairs order = ascending (with_pair pair pairs) (inserted PairBefore (λ other. is_lt (pair_cmp other pair)) (λ other. is_gt (pair_cmp other pair)) pair pairs (from_ascending pairs order) (λ other is_in is. front other is) (λ other is_in is. back other is)
    (λ one other in_one in_other less more. pair_cmp_total.trans one pair other (front one less) (back other more)))
  where
    front : (other : Value × Value) → is_lt (pair_cmp other pair) ≡ true → PairBefore other pair
    front other is = less_is (pair_cmp other pair) is

    back : (other : Value × Value) → is_gt (pair_cmp other pair) ≡ true → PairBefore pair other
    back other is = turned pair_cmp_total pair other is

pub filter_ascends : (test : Value × Value → Bool) (pairs : List (Value × Value)) → PairsAscend pairs → PairsAscend (filter test pairs)
filter_ascends test pairs order = ascending (filter test pairs) (filtered PairBefore test pairs (from_ascending pairs order))

pub without_ascends : WithoutPairAscends
without_ascends pair pairs order = filter_ascends (λ other. not (is_pair pair other)) pairs order

-- what a pair and the others pass, they do with that pair among them
pub all_with_pair : (p : Value × Value → Bool) (pair : Value × Value) (pairs : List (Value × Value)) → p pair ≡ true → list_all p pairs ≡ true → list_all p (with_pair pair pairs) ≡ true
all_with_pair p pair pairs one others = all_with p (λ other. is_lt (pair_cmp other pair)) (λ other. is_gt (pair_cmp other pair)) pair pairs one others

-- ---- tables with other pairs in one link table

abbrev pub all_fit : Schema → ℕ → List (Value × Value) → Bool
all_fit schema link pairs = list_all (λ (pair : Value × Value). fit_columns schema.choices (table_at schema link).columns (both_values pair)) pairs

pub pairs_fit : (schema : Schema) (link : ℕ) (pairs : List (Value × Value)) (tables : Tables) → FitsSchema schema tables → (is_link schema link ≡ false → pairs ≡ []) → all_fit schema link pairs ≡ true → PairsAscend pairs → FitsSchema schema (with_pairs link pairs tables)
pairs_fit schema link pairs tables fits none right order = record {
  models = fits.models;
  kinds = fits.kinds;
  order = fits.order;
  keys = fits.keys;
  counters = fits.counters;
  links = λ t. links t (t == link) refl;
  pair_kinds = λ t. kinds t (t == link) refl;
  pair_order = λ t. orders t (t == link) refl;
}
  where
    links : (t : ℕ) (b : Bool) → t == link ≡ b → is_link schema t ≡ false → cond b pairs (tables.pairs t) ≡ []
    links t true same not_link = none (sym (ap (is_link schema) (eqb-true t link same)) ∙ not_link)
    links t false same not_link = fits.links t not_link

    kinds : (t : ℕ) (b : Bool) → t == link ≡ b → all_fit schema t (cond b pairs (tables.pairs t)) ≡ true
    kinds t true same = subst (λ n. all_fit schema n pairs ≡ true) (sym (eqb-true t link same)) right
    kinds t false same = fits.pair_kinds t

    orders : (t : ℕ) (b : Bool) → t == link ≡ b → PairsAscend (cond b pairs (tables.pairs t))
    orders t true same = order
    orders t false same = fits.pair_order t

pub new_pairs_fit : (schema : Schema) → NewPairsFit schema
new_pairs_fit schema link pair tables fits is right = pairs_fit schema link (with_pair pair (tables.pairs link)) tables fits (λ not_link. absurd (true≢false (sym is ∙ not_link)))
    (all_with_pair (λ (pair : Value × Value). fit_columns schema.choices (table_at schema link).columns (both_values pair)) pair (tables.pairs link) right (fits.pair_kinds link)) (with_ascends pair (tables.pairs link) (fits.pair_order link))

pub fewer_pairs_fit : (schema : Schema) → FewerPairsFit schema
fewer_pairs_fit schema link pair tables fits = pairs_fit schema link (without_pair pair (tables.pairs link)) tables fits (λ not_link. ap (without_pair pair) (fits.links link not_link))
    (all_filtered (λ (pair : Value × Value). fit_columns schema.choices (table_at schema link).columns (both_values pair)) (λ other. not (is_pair pair other)) (tables.pairs link) (fits.pair_kinds link)) (without_ascends pair (tables.pairs link) (fits.pair_order link))
