-- Why a delete is refused.
use Rattle.std.proofs.Common.{◌≡◌, ◌⊎◌, inl, inr, ℕ, suc, ◌+◌, ◌<◌, Bool, true, false, cond, ◌&&◌, List, [], ◌∷◌, length, Option, Some, None, Result, Ok, Err, unwrap_or, refl, sym, ap, subst, ◌∙◌, arith}
use Rattle.std.specs.Prelude.{slice_get}
use Rattle.std.proofs.lemmas.Bool.{true≢false, and_parts, and_from, cases_Bool, false_from_ne_true}
use Rattle.qe_text.specs.Lists.{In}
use Rattle.qe_base.specs.declared.schema.Action.{Action}
use Rattle.qe_base.specs.declared.schema.Action.TheVariants.{Cascade, Restrict, SetNull}
use Rattle.qe_base.specs.declared.schema.Relation.{Relation}
use Rattle.qe_base.specs.declared.answer.Rule.{Rule}
use Rattle.qe_base.specs.declared.answer.Rule.TheVariants as rule
use Rattle.qe_base.specs.Schemas.{Schema}
use Rattle.qe_schema.specs.Sound.{IsSound}
use Rattle.qe_schema.proofs.Members.{any_of}
use Rattle.qe_schema.specs.Tables.{Tables}
use Rattle.qe_writing.specs.WriteState.{WriteState}
use Rattle.qe_writing.specs.Doomed.{Place, refers, Doomed, AreDoomed, same_place, places, doomed_by}
use Rattle.qe_writing.specs.Doomed.Doomed.{Child}
use Rattle.qe_writing.specs.Delete.{is_restrict, is_among, refers_to_one, or_next, number_if, keeps_from, kept_by, relation_id, delete_unless}
use Rattle.qe_row_laws.specs.Deletes.{AcceptedKeepNone, RefusedKeepOne, ParentsStay}
use Rattle.qe_row_laws.proofs.Doomed.{in_places, from_places, refers_between, computes_doomed}
use Rattle.qe_row_laws.proofs.Places.{places_equal, place_itself}
use Rattle.qe_row_laws.proofs.Fitting.{accepted}
use Rattle.qe_row_laws.proofs.Filters.{any_in}

-- ---- among the doomed

pub among_in : (doomed : List Place) (place : Place) → is_among doomed place ≡ true → In place doomed
among_in doomed place is = let found = any_in (same_place place) doomed is in subst (λ p. In p doomed) (sym (places_equal place found.item found.passes)) found.member

pub in_among : (doomed : List Place) (place : Place) → In place doomed → is_among doomed place ≡ true
in_among doomed place is_in = any_of (same_place place) doomed place is_in (place_itself place)

-- ---- the first relation that keeps

-- this relation keeps one of the doomed for the place
abbrev holds_back : List Place → Place → Relation → Bool
holds_back doomed place relation = is_restrict relation.on_delete && refers_to_one doomed place relation

neither : (first next : Option ℕ) → or_next first next ≡ None → (first ≡ None) × (next ≡ None)
neither None next is = (refl, is)
neither (Some number) next is = absurd cc

none_if : (test : Bool) (number : ℕ) → number_if test number ≡ None → test ≡ false
none_if true number is = absurd cc
none_if false number is = refl

keeps_none : (doomed : List Place) (place : Place) (relations : List Relation) (number : ℕ) → keeps_from doomed place relations number ≡ None → (relation : Relation) → In relation relations → holds_back doomed place relation ≡ false
unfolding In
keeps_none doomed place [] number is relation is_in = absurd is_in
keeps_none doomed place (one ∷ relations) number is relation (inl same) =
    ap (holds_back doomed place) same ∙ none_if (holds_back doomed place one) number (neither (number_if (holds_back doomed place one) number) (keeps_from doomed place relations (number + 1)) is).0
keeps_none doomed place (one ∷ relations) number is relation (inr is_in) =
    keeps_none doomed place relations (number + 1) (neither (number_if (holds_back doomed place one) number) (keeps_from doomed place relations (number + 1)) is).1 relation is_in

-- what a row that isn't doomed keeps by itself
abbrev keeps_unless : Bool → List Place → Place → List Relation → Option ℕ
keeps_unless is_doomed doomed place relations = cond is_doomed None (keeps_from doomed place relations 0)

kept_none : (relations : List Relation) (doomed all : List Place) → kept_by relations doomed all ≡ None → (place : Place) → In place all → is_among doomed place ≡ false → (relation : Relation) → In relation relations → holds_back doomed place relation ≡ false
unfolding In
kept_none relations doomed [] is place is_in stays relation among = absurd is_in
kept_none relations doomed (one ∷ all) is place (inl same) stays relation among =
    let first = (neither (keeps_unless (is_among doomed one) doomed one relations) (kept_by relations doomed all) is).0 in
    let here : is_among doomed one ≡ false = sym (ap (is_among doomed) same) ∙ stays in
    ap (λ p. holds_back doomed p relation) same ∙ keeps_none doomed one relations 0 (sym (ap (λ b. keeps_unless b doomed one relations) here) ∙ first) relation among
kept_none relations doomed (one ∷ all) is place (inr is_in) stays relation among =
    kept_none relations doomed all (neither (keeps_unless (is_among doomed one) doomed one relations) (kept_by relations doomed all) is).1 place is_in stays relation among

-- the relation at the number that was found
record KeepsAt (relations : List Relation) (doomed : List Place) (place : Place) (from number : ℕ) : Type 0 where
  offset : ℕ
  relation : Relation
  counted : number ≡ from + offset
  found : slice_get relations offset ≡ Some relation
  keeps : holds_back doomed place relation ≡ true

some_number : (a b : ℕ) → Some a ≡ Some b → b ≡ a
some_number a b is = sym (ap (λ o. unwrap_or o 0) is)

keeps_some : (doomed : List Place) (place : Place) (relations : List Relation) (from number : ℕ) → keeps_from doomed place relations from ≡ Some number → KeepsAt relations doomed place from number
keeps_some doomed place [] from number is = absurd cc
keeps_some doomed place (one ∷ relations) from number is = by (holds_back doomed place one) refl is (keeps_some doomed place relations (from + 1) number)
  where
    by : (b : Bool) → holds_back doomed place one ≡ b → or_next (number_if b from) (keeps_from doomed place relations (from + 1)) ≡ Some number
        → (keeps_from doomed place relations (from + 1) ≡ Some number → KeepsAt relations doomed place (from + 1) number) → KeepsAt (one ∷ relations) doomed place from number
    by true here is rest = record { offset = 0; relation = one; counted = (let same : number ≡ from = some_number from number is in omega arith); found = refl; keeps = here }
    by false here is rest =
        let later = rest is in
        record { offset = suc later.offset; relation = later.relation; counted = (let same : number ≡ (from + 1) + later.offset = later.counted in omega arith); found = later.found; keeps = later.keeps }

-- the row that keeps
record KeptAt (relations : List Relation) (doomed all : List Place) (number : ℕ) : Type 0 where
  place : Place
  member : In place all
  stays : is_among doomed place ≡ false
  at : KeepsAt relations doomed place 0 number

kept_some : (relations : List Relation) (doomed all : List Place) (number : ℕ) → kept_by relations doomed all ≡ Some number → KeptAt relations doomed all number
unfolding In
kept_some relations doomed [] number is = absurd cc
kept_some relations doomed (one ∷ all) number is = by (is_among doomed one) refl (keeps_from doomed one relations 0) refl is (kept_some relations doomed all number)
  where
    later : KeptAt relations doomed all number → KeptAt relations doomed (one ∷ all) number
    later found = record { place = found.place; member = inr found.member; stays = found.stays; at = found.at }

    by : (b : Bool) → is_among doomed one ≡ b → (o : Option ℕ) → keeps_from doomed one relations 0 ≡ o → or_next (cond b None o) (kept_by relations doomed all) ≡ Some number → (kept_by relations doomed all ≡ Some number → KeptAt relations doomed all number)
        → KeptAt relations doomed (one ∷ all) number
    by true here o first is rest = later (rest is)
    by false here None first is rest = later (rest is)
    by false here (Some other) first is rest = record { place = one; member = inl refl; stays = here; at = keeps_some doomed one relations 0 number (first ∙ is) }

-- ---- laws

restrict_is : (action : Action) → is_restrict action ≡ true → action ≡ Restrict
restrict_is Cascade is = absurd (true≢false (sym is))
restrict_is Restrict is = refl
restrict_is SetNull is = absurd (true≢false (sym is))

-- a row that isn't doomed is not among them
pub not_among : (schema : Schema) (tables : Tables) (given doomed : List Place) → AreDoomed schema tables given doomed → (place : Place) → (Doomed schema tables given place → ⊥) → is_among doomed place ≡ false
not_among schema tables given doomed are place stays = false_from_ne_true (is_among doomed place) (λ is. stays (are.only place (among_in doomed place is)))

pub accepted_keep_none : (schema : Schema) → IsSound schema → AcceptedKeepNone schema
accepted_keep_none schema is given state after there ok relation is_in child parent keeps =
    let doomed = doomed_by schema state.tables given in
    let are = computes_doomed schema is state.tables given there in
    let table = (refers_between relation child parent keeps.refers_to).0 in
    let within : child.table < length schema.tables = subst (λ t. t < length schema.tables) (sym table) (is.refer relation is_in).child in
    let none = kept_none schema.relations doomed (places schema state.tables) (accepted schema given state after ok).0 child (in_places schema state.tables child within keeps.there) (not_among schema state.tables given doomed are child keeps.stays) relation is_in in
    let one = and_from (is_restrict relation.on_delete) (refers_to_one doomed child relation) (ap is_restrict keeps.restricts) (any_of (refers relation child) doomed parent (are.all parent keeps.goes) keeps.refers_to) in
    true≢false (sym one ∙ none)

-- what a refusal says
abbrev broken_in : Rule → Result WriteState Rule → Rule
broken_in otherwise (Ok state) = otherwise
broken_in otherwise (Err broken) = broken

pub record Refused (schema : Schema) (doomed : List Place) (keeps : Option ℕ) (broken : Rule) : Type 0 where
  pub number : ℕ
  pub is : keeps ≡ Some number
  pub says : broken ≡ rule.Required (relation_id number)

refused : (schema : Schema) (doomed : List Place) (keeps : Option ℕ) (state : WriteState) (broken : Rule) → delete_unless schema doomed keeps state ≡ Err broken → Refused schema doomed keeps broken
refused schema doomed None state broken is = absurd cc
refused schema doomed (Some number) state broken is = record { number = number; is = refl; says = sym (ap (broken_in broken) is) }

pub refused_keep_one : (schema : Schema) → IsSound schema → RefusedKeepOne schema
refused_keep_one schema is given state broken there err =
    let doomed = doomed_by schema state.tables given in
    let are = computes_doomed schema is state.tables given there in
    let said = refused schema doomed (kept_by schema.relations doomed (places schema state.tables)) state broken err in
    let kept = kept_some schema.relations doomed (places schema state.tables) said.number said.is in
    let at = kept.at in
    let parts = and_parts (is_restrict at.relation.on_delete) (refers_to_one doomed kept.place at.relation) at.keeps in
    let parent = any_in (refers at.relation kept.place) doomed parts.1 in
    let counted : said.number ≡ at.offset = (let same : said.number ≡ 0 + at.offset = at.counted in omega arith) in (
      said.number,
      at.relation,
      kept.place,
      parent.item,
      said.says,
      ap (slice_get schema.relations) counted ∙ at.found,
      record {
        restricts = restrict_is at.relation.on_delete parts.0;
        there = (from_places schema state.tables kept.place kept.member).1;
        stays = λ goes. true≢false (sym (in_among doomed kept.place (are.all kept.place goes)) ∙ kept.stays);
        goes = are.only parent.item parent.member;
        refers_to = parent.passes;
      },
    )

pub parents_stay : (schema : Schema) → IsSound schema → ParentsStay schema
parents_stay schema is given state after there ok relation is_in not_null child parent among refers_to goes = by relation.on_delete refl
  where
    are : AreDoomed schema state.tables given (doomed_by schema state.tables given)
    are = computes_doomed schema is state.tables given there

    tested : relation.on_delete ≡ Restrict → (is_among (doomed_by schema state.tables given) child ≡ true) ⊎ (is_among (doomed_by schema state.tables given) child ≡ false) → Doomed schema state.tables given child
    tested restricts (inl one) = are.only child (among_in (doomed_by schema state.tables given) child one)
    tested restricts (inr none) = absurd (accepted_keep_none schema is given state after there ok relation is_in child parent (record {
      restricts = restricts;
      there = among;
      stays = λ also. true≢false (sym (in_among (doomed_by schema state.tables given) child (are.all child also)) ∙ none);
      goes = goes;
      refers_to = refers_to;
    }))

    by : (action : Action) → relation.on_delete ≡ action → Doomed schema state.tables given child
    by Cascade cascades = Child relation is_in cascades among refers_to goes
    by Restrict restricts = tested restricts (cases_Bool (is_among (doomed_by schema state.tables given) child))
    by SetNull nulls = absurd (not_null nulls)
