-- Related rows are related from both sides.
use Rattle.std.proofs.Common.{◌≡◌, ℕ, ◌<◌, [], ◌∷◌, Bool, true, false, ◌&&◌, ◌||◌, not, ◌==◌, Option, Some, None, refl, sym, ap, ◌∙◌, subst}
use Rattle.std.proofs.lemmas.Bool.{true≢false, and_parts}
use Rattle.std.specs.Cmp.{ranks}
use Rattle.std.specs.Cmp.Lexicographic.{lists_equiv}
use Rattle.std.specs.Ordering.{nat_cmp, is_eq, ordering_then, MatchOrdering}
use Rattle.std.specs.declared.cmp.Ordering.{Ordering}
use Rattle.std.specs.declared.cmp.Ordering.TheVariants.{Less, Equal, Greater}
use Rattle.qe_base.specs.Values.{rank, value_eq}
use Rattle.qe_base.specs.ValueOrder.{value_eq_equivalence}
use Rattle.qe_base.specs.declared.value.RelId.{RelId}
use Rattle.qe_base.specs.declared.value.Row.{Row}
use Rattle.qe_base.specs.declared.value.Value.{Value}
use Rattle.qe_base.specs.declared.value.Value.TheVariants.{Null, Text, Bool as Truth, Int, Moment, Blob, Member}
use Rattle.qe_base.specs.declared.schema.Field.TheVariants.{Holder, Target}
use Rattle.qe_base.specs.declared.schema.Relation.{Relation}
use Rattle.qe_base.specs.Schemas.{Schema}
use Rattle.qe_schema.specs.Columns.{Values, is_null, has_null, are_same, at_columns}
use Rattle.qe_schema.specs.Tables.{Tables}
use Rattle.qe_reading.specs.Related.{refers, is_referred, relation_at, is_some_such, is_related}

null_by_rank : (value : Value) → is_null value ≡ (rank value == 0)
null_by_rank Null = refl
null_by_rank (Text text) = refl
null_by_rank (Truth truth) = refl
null_by_rank (Int number) = refl
null_by_rank (Moment moment) = refl
null_by_rank (Blob bytes) = refl
null_by_rank (Member member) = refl

first_level : (r s : Ordering) → is_eq (ordering_then r s) ≡ true → r ≡ Equal
first_level Less s e = absurd (true≢false (sym e))
first_level Equal s e = refl
first_level Greater s e = absurd (true≢false (sym e))

same_rank : (a b : ℕ) → nat_cmp a b ≡ Equal → a ≡ b
same_rank a b e = subst (λ r. MatchOrdering r (a < b) (a ≡ b) (b < a)) e (ranks a b)

same_null : (a b : Value) → value_eq a b ≡ true → is_null a ≡ is_null b
same_null a b e = null_by_rank a ∙ ap (λ n. n == 0) (same_rank (rank a) (rank b) (first_level _ _ e)) ∙ sym (null_by_rank b)

same_nulls : (xs ys : Values) → are_same xs ys ≡ true → has_null xs ≡ has_null ys
same_nulls [] [] e = refl
same_nulls [] (b ∷ ys) e = absurd (true≢false (sym e))
same_nulls (a ∷ xs) [] e = absurd (true≢false (sym e))
same_nulls (a ∷ xs) (b ∷ ys) e = let parts = and_parts (value_eq a b) (are_same xs ys) e in λ i. same_null a b parts.0 i || same_nulls xs ys parts.1 i

either_side : (a b c : Bool) → (c ≡ true → a ≡ b) → (not a && c) ≡ (not b && c)
either_side a b true same = ap (λ n. not n && true) (same refl)
either_side true true false same = refl
either_side true false false same = refl
either_side false true false same = refl
either_side false false false same = refl

both_sides : (relation : Relation) (child parent : Row) → refers relation child parent ≡ is_referred relation parent child
both_sides relation child parent =
    let keys = at_columns relation.child_columns child in
    let values = at_columns relation.parent_columns parent in
    ap (λ same. not (has_null keys) && same) ((lists_equiv value_eq_equivalence).symm values keys) ∙ either_side (has_null keys) (has_null values) (are_same keys values) (same_nulls keys values)

such : (found : Option Relation) (child parent : Row) → is_some_such (λ relation. refers relation child parent) found ≡ is_some_such (λ relation. is_referred relation parent child) found
such None child parent = refl
such (Some relation) child parent = both_sides relation child parent

pub holder_and_target : (schema : Schema) (tables : Tables) (number : RelId) (child parent : Row) → is_related schema tables (Holder number) child parent ≡ is_related schema tables (Target number) parent child
holder_and_target schema tables number child parent = such (relation_at schema number.0) child parent
