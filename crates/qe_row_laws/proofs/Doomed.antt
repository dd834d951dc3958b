-- The rows that rounds mark are the doomed ones.
use Rattle.std.proofs.Common.{◌≡◌, ◌⊎◌, inl, inr, ℕ, zero, suc, ◌+◌, ◌≤◌, ◌<◌, Bool, true, ◌||◌, ◌&&◌, ◌==◌, filter, List, [], ◌∷◌, map, length, refl, sym, ap, subst, arith}
use Rattle.std.specs.List.{list_any, range_with_len}
use Rattle.std.proofs.lemmas.Bool.{true≢false, or_cases, or_left, or_right, and_parts, and_from, eqb-true}
use Rattle.qe_text.specs.Lists.{In}
use Rattle.qe_base.specs.declared.schema.Action.{Action}
use Rattle.qe_base.specs.declared.schema.Action.TheVariants.{Cascade, Restrict, SetNull}
use Rattle.qe_base.specs.declared.schema.Relation.{Relation}
use Rattle.qe_base.specs.Schemas.{Schema}
use Rattle.qe_schema.specs.Sound.{IsSound}
use Rattle.qe_schema.proofs.Members.{from_map, from_flat_map, from_filter, in_filter, any_of, in_map}
use Rattle.qe_schema.specs.Columns.{at_columns, holds}
use Rattle.qe_schema.specs.Tables.{Tables}
use Rattle.qe_writing.specs.Doomed.{Place, place_of, refers, Doomed, AreDoomed, CanDelete, same_place, places, is_hit, marked_after, doomed_by}
use Rattle.qe_schema.specs.Cycles.{is_cascade}
use Rattle.qe_writing.specs.Doomed.Doomed.{Given, Child}
use Rattle.qe_row_laws.specs.Deletes.{AreThere, IsClosed, ComputesDoomed, ComputesTheLeast, DoomedAreUnique}
use Rattle.qe_row_laws.proofs.Places.{places_equal, place_itself}
use Rattle.qe_row_laws.proofs.Filters.{any_in, shorter, as_many, any_kept, in_flat_map, in_range, range_in}

cascade_is : (action : Action) → is_cascade action ≡ true → action ≡ Cascade
cascade_is Cascade is = refl
cascade_is Restrict is = absurd (true≢false (sym is))
cascade_is SetNull is = absurd (true≢false (sym is))

-- ---- the places of the tables

pub in_places : (schema : Schema) (tables : Tables) (place : Place) → place.table < length schema.tables → In place.row (tables.rows place.table) → In place (places schema tables)
in_places schema tables place within is_in =
    in_flat_map (λ table. map (place_of table) (tables.rows table)) (range_with_len 0 (length schema.tables)) place.table place (in_range (length schema.tables) 0 place.table (omega arith) (omega arith))
    (in_map (place_of place.table) (tables.rows place.table) place.row is_in)

pub from_places : (schema : Schema) (tables : Tables) (place : Place) → In place (places schema tables) → (place.table < length schema.tables) × In place.row (tables.rows place.table)
from_places schema tables place is_in =
    let found = from_flat_map (λ table. map (place_of table) (tables.rows table)) (range_with_len 0 (length schema.tables)) place is_in in
    let row = from_map (place_of found.item) (tables.rows found.item) place found.part in
    let within : found.item < 0 + length schema.tables = range_in (length schema.tables) 0 found.item found.member in
    let table : found.item ≡ place.table = sym (ap (λ (p : Place). p.table) row.gives) in
    let same : row.item ≡ place.row = sym (ap (λ (p : Place). p.row) row.gives) in
    (omega arith, subst (λ r. In r (tables.rows place.table)) same (subst (λ t. In row.item (tables.rows t)) table row.member))

-- a reference is from the relation's child to its parent
pub refers_between : (relation : Relation) (child parent : Place) → refers relation child parent ≡ true
    → (child.table ≡ relation.child.0) × (parent.table ≡ relation.parent.0) × (holds relation.child_columns (at_columns relation.parent_columns parent.row) child.row ≡ true)
refers_between relation child parent is =
    let parts = and_parts (child.table == relation.child.0 && parent.table == relation.parent.0) (holds relation.child_columns (at_columns relation.parent_columns parent.row) child.row) is in
    let tables = and_parts (child.table == relation.child.0) (parent.table == relation.parent.0) parts.0 in
    (eqb-true child.table relation.child.0 tables.0, eqb-true parent.table relation.parent.0 tables.1, parts.1)

module _ (schema : Schema) (given all : List Place) where
  abbrev marked : ℕ → List Place
  marked rounds = marked_after schema all given rounds

  abbrev by_relation : List Place → Place → Relation → Bool
  by_relation among place relation = is_cascade relation.on_delete && list_any (refers relation place) among

  -- what passes among the one passes among the other
  abbrev Within : List Place → List Place → Type 0
  Within xs ys = (q : Place → Bool) → list_any q xs ≡ true → list_any q ys ≡ true

  -- a larger set hits more
  hit_more : (xs ys : List Place) → Within xs ys → (place : Place) → is_hit schema given xs place ≡ true → is_hit schema given ys place ≡ true
  hit_more xs ys within place hit = by (or_cases (list_any (same_place place) given || list_any (same_place place) xs) (list_any (by_relation xs place) schema.relations) hit)
    where
      near : (list_any (same_place place) given ≡ true) ⊎ (list_any (same_place place) xs ≡ true) → (list_any (same_place place) given || list_any (same_place place) ys) ≡ true
      near (inl is) = or_left (list_any (same_place place) given) (list_any (same_place place) ys) is
      near (inr is) = or_right (list_any (same_place place) given) (list_any (same_place place) ys) (within (same_place place) is)

      more : (relation : Relation) → by_relation xs place relation ≡ true → by_relation ys place relation ≡ true
      more relation is = let parts = and_parts (is_cascade relation.on_delete) (list_any (refers relation place) xs) is in and_from (is_cascade relation.on_delete) (list_any (refers relation place) ys) parts.0 (within (refers relation place) parts.1)

      by : ((list_any (same_place place) given || list_any (same_place place) xs) ≡ true) ⊎ (list_any (by_relation xs place) schema.relations ≡ true) → is_hit schema given ys place ≡ true
      by (inl is) = or_left (list_any (same_place place) given || list_any (same_place place) ys) (list_any (by_relation ys place) schema.relations) (near (or_cases (list_any (same_place place) given) (list_any (same_place place) xs) is))
      by (inr is) =
          let found = any_in (by_relation xs place) schema.relations is in
          or_right (list_any (same_place place) given || list_any (same_place place) ys) (list_any (by_relation ys place) schema.relations) (any_of (by_relation ys place) schema.relations found.item found.member (more found.item found.passes))

  grows : (rounds : ℕ) → Within (marked rounds) (marked (suc rounds))
  grows zero q is = absurd (true≢false (sym is))
  grows (suc rounds) q is = any_kept (is_hit schema given (marked rounds)) (is_hit schema given (marked (suc rounds))) (hit_more (marked rounds) (marked (suc rounds)) (grows rounds)) q all is

  -- each round marks one more, or the rounds have come to an end
  settles : (rounds : ℕ) → (suc rounds ≤ length (marked (suc rounds))) ⊎ (marked (suc (suc rounds)) ≡ marked (suc rounds))
  settles zero = by (marked 1) refl
    where
      by : (m : List Place) → marked 1 ≡ m → (1 ≤ length (marked 1)) ⊎ (marked 2 ≡ marked 1)
      by [] is = inr (ap (λ m. filter (is_hit schema given m) all) is)
      by (x ∷ xs) is = inl (subst (λ m. 1 ≤ length m) (sym is) (let h : 1 ≤ suc (length xs) = omega arith in h))
  settles (suc rounds) = by (settles rounds) (cases_le (length (marked (suc (suc rounds)))) (length (marked (suc rounds))))
    where
      cases_le : (a b : ℕ) → (a ≤ b) ⊎ (b < a)
      cases_le a b = grind arith

      by : ((suc rounds ≤ length (marked (suc rounds))) ⊎ (marked (suc (suc rounds)) ≡ marked (suc rounds)))
          → ((length (marked (suc (suc rounds))) ≤ length (marked (suc rounds))) ⊎ (length (marked (suc rounds)) < length (marked (suc (suc rounds)))))
          → (suc (suc rounds) ≤ length (marked (suc (suc rounds)))) ⊎ (marked (suc (suc (suc rounds))) ≡ marked (suc (suc rounds)))
      by (inr is) counted = inr (ap (λ m. filter (is_hit schema given m) all) is)
      by (inl many) (inl few) =
          inr (ap (λ m. filter (is_hit schema given m) all) (as_many (is_hit schema given (marked rounds)) (is_hit schema given (marked (suc rounds))) (hit_more (marked rounds) (marked (suc rounds)) (grows rounds)) all few))
      by (inl many) (inr more) = inl (omega arith)

  abbrev last : List Place
  last = marked (suc (length all))

  settled : filter (is_hit schema given last) all ≡ last
  settled = by (settles (length all)) (shorter (is_hit schema given (marked (length all))) all)
    where
      by : (suc (length all) ≤ length last) ⊎ (filter (is_hit schema given last) all ≡ last) → length last ≤ length all → filter (is_hit schema given last) all ≡ last
      by (inr is) few = is
      by (inl many) few = absurd (omega arith)

  module _ (tables : Tables) (each_there : (place : Place) → In place all → In place.row (tables.rows place.table)) where
    equal_in : (place : Place) (xs : List Place) → list_any (same_place place) xs ≡ true → In place xs
    equal_in place xs is = let found = any_in (same_place place) xs is in subst (λ p. In p xs) (sym (places_equal place found.item found.passes)) found.member

    only_doomed : (rounds : ℕ) (place : Place) → In place (marked rounds) → Doomed schema tables given place
    unfolding In
    only_doomed zero place is_in = absurd is_in
    only_doomed (suc rounds) place is_in =
        let both = from_filter (is_hit schema given (marked rounds)) all place is_in in
        by (λ other among. only_doomed rounds other among) both.0 (or_cases (list_any (same_place place) given || list_any (same_place place) (marked rounds)) (list_any (by_relation (marked rounds) place) schema.relations) both.1)
      where
        near : ((other : Place) → In other (marked rounds) → Doomed schema tables given other) → (list_any (same_place place) given ≡ true) ⊎ (list_any (same_place place) (marked rounds) ≡ true) → Doomed schema tables given place
        near rest (inl is) = Given (equal_in place given is)
        near rest (inr is) = rest place (equal_in place (marked rounds) is)

        by : ((other : Place) → In other (marked rounds) → Doomed schema tables given other) → In place all
            → ((list_any (same_place place) given || list_any (same_place place) (marked rounds)) ≡ true) ⊎ (list_any (by_relation (marked rounds) place) schema.relations ≡ true) → Doomed schema tables given place
        by rest there (inl is) = near rest (or_cases (list_any (same_place place) given) (list_any (same_place place) (marked rounds)) is)
        by rest there (inr is) =
            let relation = any_in (by_relation (marked rounds) place) schema.relations is in
            let parts = and_parts (is_cascade relation.item.on_delete) (list_any (refers relation.item place) (marked rounds)) relation.passes in
            let parent = any_in (refers relation.item place) (marked rounds) parts.1 in
            Child relation.item relation.member (cascade_is relation.item.on_delete parts.0) (each_there place there) parent.passes (rest parent.item parent.member)

    module _ (given_there : (place : Place) → In place given → In place all) (child_there : (relation : Relation) → In relation schema.relations → (child parent : Place) → In child.row (tables.rows child.table) → refers relation child parent ≡ true → In child all) where
      into : (place : Place) → In place all → is_hit schema given last place ≡ true → In place last
      into place is_in hit = subst (λ l. In place l) settled (in_filter (is_hit schema given last) all place is_in hit)

      all_doomed : (place : Place) → Doomed schema tables given place → In place last
      all_doomed place (Given is_in) =
          into place (given_there place is_in)
          (or_left (list_any (same_place place) given || list_any (same_place place) last) (list_any (by_relation last place) schema.relations)
          (or_left (list_any (same_place place) given) (list_any (same_place place) last) (any_of (same_place place) given place is_in (place_itself place))))
      all_doomed place (Child {parent = parent} relation is_in cascade there refers_to doomed) =
          into place (child_there relation is_in place parent there refers_to)
          (or_right (list_any (same_place place) given || list_any (same_place place) last) (list_any (by_relation last place) schema.relations)
          (any_of (by_relation last place) schema.relations relation is_in
          (and_from (is_cascade relation.on_delete) (list_any (refers relation place) last) (ap is_cascade cascade) (any_of (refers relation place) last parent (all_doomed parent doomed) refers_to))))

pub are_doomed : (schema : Schema) (tables : Tables) (given : List Place) → CanDelete schema tables given → AreDoomed schema tables given (doomed_by schema tables given)
are_doomed schema tables given can = record {
  all = all_doomed schema given (places schema tables) tables there can.there
      (λ relation is_in child parent among refers_to. in_places schema tables child (subst (λ n. n < length schema.tables) (sym (refers_between relation child parent refers_to).0) (can.children relation is_in)) among);
  only = only_doomed schema given (places schema tables) tables there (suc (length (places schema tables)));
}
  where
    there : (place : Place) → In place (places schema tables) → In place.row (tables.rows place.table)
    there place is_in = (from_places schema tables place is_in).1

pub can_delete : (schema : Schema) → IsSound schema → (tables : Tables) (given : List Place) → AreThere schema tables given → CanDelete schema tables given
can_delete schema is tables given there = record {
  there = λ place is_in. let both = there place is_in in in_places schema tables place both.0 both.1;
  children = λ relation is_in. (is.refer relation is_in).child;
}

pub computes_doomed : (schema : Schema) → IsSound schema → ComputesDoomed schema
computes_doomed schema is tables given there = are_doomed schema tables given (can_delete schema is tables given there)

pub doomed_are_unique : (schema : Schema) → IsSound schema → DoomedAreUnique schema
doomed_are_unique schema is tables given one other first second place = (λ is_in. second.all place (first.only place is_in), λ is_in. first.all place (second.only place is_in))

-- the doomed rows are among any that are closed
within_closed : (schema : Schema) (tables : Tables) (given others : List Place) → IsClosed schema tables given others → (place : Place) → Doomed schema tables given place → In place others
within_closed schema tables given others closed place (Given is_in) = closed.has_given place is_in
within_closed schema tables given others closed place (Child {parent = parent} relation is_in cascade there refers_to doomed) =
    closed.has_children relation is_in cascade place parent there refers_to (within_closed schema tables given others closed parent doomed)

pub computes_the_least : (schema : Schema) → IsSound schema → ComputesTheLeast schema
computes_the_least schema is tables given there =
    let are = computes_doomed schema is tables given there in (
      record {
        has_given = λ place is_in. are.all place (Given is_in);
        has_children = λ relation is_in cascade child parent among refers_to doomed. are.all child (Child relation is_in cascade among refers_to (are.only parent doomed));
      },
      λ others closed place is_in. within_closed schema tables given others closed place (are.only place is_in),
    )
