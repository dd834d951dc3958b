-- What a row has once references of it are null.
use Rattle.std.proofs.Common.{◌≡◌, ◌⊎◌, inl, inr, ℕ, zero, suc, Bool, true, false, cond, ◌&&◌, List, [], ◌∷◌, length, Some, option_map, unwrap_or, refl, sym, ap, subst, ◌∙◌}
use Rattle.std.specs.Prelude.{slice_get, slice_set}
use Rattle.std.proofs.lemmas.Bool.{or_parts, true≢false, and_parts, and_from}
use Rattle.qe_text.specs.Lists.{In}
use Rattle.qe_base.specs.declared.value.Row.{Row}
use Rattle.qe_base.specs.declared.value.Value.{Value}
use Rattle.qe_base.specs.declared.value.Value.TheVariants.{Null}
use Rattle.qe_base.specs.declared.schema.Choice.{Choice}
use Rattle.qe_base.specs.declared.schema.Column.{Column}
use Rattle.qe_base.specs.declared.schema.Relation.{Relation}
use Rattle.qe_schema.specs.Columns.{Values, is_null, has_null, value_at, at_columns}
use Rattle.qe_schema.specs.Fits.{fits_column, fit_columns}
use Rattle.qe_writing.specs.Doomed.{Place, place_of}
use Rattle.qe_writing.specs.Given.{with_values, with_columns}
use Rattle.qe_writing.specs.Delete.{is_set_null, refers_to_one, nulls, released}
use Rattle.qe_schema.proofs.Members.{some_same}

abbrev in_column : Values → ℕ → Value
in_column values column = unwrap_or (slice_get values column) Null

-- each value is the old one or null
abbrev pub Nulled : Values → Values → Type 0
Nulled old new = (column : ℕ) → (in_column new column ≡ in_column old column) ⊎ (in_column new column ≡ Null)

set_nulled : (values : Values) (at : ℕ) → Nulled values (slice_set values at Null)
set_nulled [] at column = inl refl
set_nulled (value ∷ values) zero zero = inr refl
set_nulled (value ∷ values) zero (suc column) = inl refl
set_nulled (value ∷ values) (suc at) zero = inl refl
set_nulled (value ∷ values) (suc at) (suc column) = set_nulled values at column

set_there : (values : Values) (at : ℕ) → in_column (slice_set values at Null) at ≡ Null
set_there [] at = refl
set_there (value ∷ values) zero = refl
set_there (value ∷ values) (suc at) = set_there values at

nulled_twice : (a b c : Values) → Nulled a b → Nulled b c → Nulled a c
nulled_twice a b c first second column = by (first column) (second column)
  where
    by : (in_column b column ≡ in_column a column) ⊎ (in_column b column ≡ Null) → (in_column c column ≡ in_column b column) ⊎ (in_column c column ≡ Null) → (in_column c column ≡ in_column a column) ⊎ (in_column c column ≡ Null)
    by one (inr is) = inr is
    by (inl old) (inl same) = inl (same ∙ old)
    by (inr gone) (inl same) = inr (same ∙ gone)

-- what is null stays so
stays_null : (old new : Values) (column : ℕ) → Nulled old new → in_column old column ≡ Null → in_column new column ≡ Null
stays_null old new column nulled is = by (nulled column)
  where
    by : (in_column new column ≡ in_column old column) ⊎ (in_column new column ≡ Null) → in_column new column ≡ Null
    by (inl same) = same ∙ is
    by (inr gone) = gone

abbrev nulls_in : List ℕ → Values → Values
nulls_in columns values = with_values columns (nulls columns) values

with_nulled : (columns : List ℕ) (values : Values) → Nulled values (nulls_in columns values)
with_nulled [] values = λ column. inl refl
with_nulled (at ∷ columns) values = nulled_twice values (slice_set values at Null) (nulls_in columns (slice_set values at Null)) (set_nulled values at) (with_nulled columns (slice_set values at Null))

with_there : (columns : List ℕ) (values : Values) (column : ℕ) → In column columns → in_column (nulls_in columns values) column ≡ Null
unfolding In
with_there [] values column is_in = absurd is_in
with_there (at ∷ columns) values column (inl same) =
    stays_null (slice_set values at Null) (nulls_in columns (slice_set values at Null)) column (with_nulled columns (slice_set values at Null)) (subst (λ c. in_column (slice_set values at Null) c ≡ Null) (sym same) (set_there values at))
with_there (at ∷ columns) values column (inr is_in) = with_there columns (slice_set values at Null) column is_in

-- ---- a row that is released

-- the row's reference by this relation becomes null
abbrev pub lets_go : List Place → ℕ → Row → Relation → Bool
lets_go doomed table row relation = is_set_null relation.on_delete && refers_to_one doomed (place_of table row) relation

-- one relation's part in what becomes of a row
abbrev freed : Bool → List ℕ → Row → Row
freed test columns row = cond test (with_columns columns (nulls columns) row) row

freed_nulled : (test : Bool) (columns : List ℕ) (row : Row) → Nulled row.values (freed test columns row).values
freed_nulled true columns row = with_nulled columns row.values
freed_nulled false columns row = λ column. inl refl

pub released_nulled : (relations : List Relation) (doomed : List Place) (table : ℕ) (row : Row) → Nulled row.values (released relations doomed table row).values
released_nulled [] doomed table row = λ column. inl refl
released_nulled (relation ∷ relations) doomed table row =
    nulled_twice row.values (released relations doomed table row).values (freed (lets_go doomed table row relation) relation.child_columns (released relations doomed table row)).values (released_nulled relations doomed table row)
    (freed_nulled (lets_go doomed table row relation) relation.child_columns (released relations doomed table row))

freed_there : (test : Bool) (columns : List ℕ) (row : Row) (column : ℕ) → test ≡ true → In column columns → in_column (freed test columns row).values column ≡ Null
freed_there true columns row column is is_in = with_there columns row.values column is_in
freed_there false columns row column is is_in = absurd (true≢false (sym is))

-- a reference to a doomed row that becomes null is null
pub released_there : (relations : List Relation) (doomed : List Place) (table : ℕ) (row : Row) (relation : Relation) → In relation relations → lets_go doomed table row relation ≡ true → (column : ℕ) → In column relation.child_columns
    → in_column (released relations doomed table row).values column ≡ Null
unfolding In
released_there [] doomed table row relation is_in lets column among = absurd is_in
released_there (one ∷ relations) doomed table row relation (inl same) lets column among =
    freed_there (lets_go doomed table row one) one.child_columns (released relations doomed table row) column (sym (ap (lets_go doomed table row) same) ∙ lets) (subst (λ (r : Relation). In column r.child_columns) same among)
released_there (one ∷ relations) doomed table row relation (inr is_in) lets column among =
    let before = released relations doomed table row in
    stays_null before.values (freed (lets_go doomed table row one) one.child_columns before).values column (freed_nulled (lets_go doomed table row one) one.child_columns before) (released_there relations doomed table row relation is_in lets column among)

-- ---- what isn't let go

set_other : (values : Values) (at column : ℕ) → (column ≡ at → ⊥) → in_column (slice_set values at Null) column ≡ in_column values column
set_other [] at column other = refl
set_other (value ∷ values) zero zero other = absurd (other refl)
set_other (value ∷ values) zero (suc column) other = refl
set_other (value ∷ values) (suc at) zero other = refl
set_other (value ∷ values) (suc at) (suc column) other = set_other values at column (λ same. other (ap suc same))

with_other : (columns : List ℕ) (values : Values) (column : ℕ) → (In column columns → ⊥) → in_column (nulls_in columns values) column ≡ in_column values column
unfolding In
with_other [] values column other = refl
with_other (at ∷ columns) values column other = with_other columns (slice_set values at Null) column (λ is_in. other (inr is_in)) ∙ set_other values at column (λ same. other (inl same))

freed_other : (test : Bool) (columns : List ℕ) (row : Row) (column : ℕ) → (test ≡ true → In column columns → ⊥) → in_column (freed test columns row).values column ≡ in_column row.values column
freed_other true columns row column other = with_other columns row.values column (other refl)
freed_other false columns row column other = refl

-- a column of no reference that becomes null keeps its value
pub released_other : (relations : List Relation) (doomed : List Place) (table : ℕ) (row : Row) (column : ℕ) → ((relation : Relation) → In relation relations → lets_go doomed table row relation ≡ true → In column relation.child_columns → ⊥)
    → in_column (released relations doomed table row).values column ≡ in_column row.values column
unfolding In
released_other [] doomed table row column other = refl
released_other (relation ∷ relations) doomed table row column other =
    freed_other (lets_go doomed table row relation) relation.child_columns (released relations doomed table row) column (other relation (inl refl)) ∙ released_other relations doomed table row column (λ one is_in. other one (inr is_in))

set_width : (values : Values) (at : ℕ) → length (slice_set values at Null) ≡ length values
set_width [] at = refl
set_width (value ∷ values) zero = refl
set_width (value ∷ values) (suc at) = ap suc (set_width values at)

with_width : (columns : List ℕ) (values : Values) → length (nulls_in columns values) ≡ length values
with_width [] values = refl
with_width (at ∷ columns) values = with_width columns (slice_set values at Null) ∙ set_width values at

freed_width : (test : Bool) (columns : List ℕ) (row : Row) → length (freed test columns row).values ≡ length row.values
freed_width true columns row = with_width columns row.values
freed_width false columns row = refl

pub released_width : (relations : List Relation) (doomed : List Place) (table : ℕ) (row : Row) → length (released relations doomed table row).values ≡ length row.values
released_width [] doomed table row = refl
released_width (relation ∷ relations) doomed table row = freed_width (lets_go doomed table row relation) relation.child_columns (released relations doomed table row) ∙ released_width relations doomed table row

-- ---- rows go on to fit

abbrev pub OptionalAt : List Column → ℕ → Type 0
OptionalAt columns column = option_map (λ (c : Column). c.optional) (slice_get columns column) ≡ Some true

set_fits : (choices : List Choice) (columns : List Column) (values : Values) (at : ℕ) → OptionalAt columns at → fit_columns choices columns values ≡ true → fit_columns choices columns (slice_set values at Null) ≡ true
set_fits choices [] [] at optional fits = absurd cc
set_fits choices [] (value ∷ values) at optional fits = absurd (true≢false (sym fits))
set_fits choices (column ∷ columns) [] at optional fits = absurd (true≢false (sym fits))
set_fits choices (column ∷ columns) (value ∷ values) zero optional fits =
    and_from column.optional (fit_columns choices columns values) (some_same column.optional true optional) (and_parts (fits_column choices column value) (fit_columns choices columns values) fits).1
set_fits choices (column ∷ columns) (value ∷ values) (suc at) optional fits =
    let parts = and_parts (fits_column choices column value) (fit_columns choices columns values) fits in
    and_from (fits_column choices column value) (fit_columns choices columns (slice_set values at Null)) parts.0 (set_fits choices columns values at optional parts.1)

with_fits : (choices : List Choice) (columns : List Column) (into : List ℕ) (values : Values) → ((column : ℕ) → In column into → OptionalAt columns column) → fit_columns choices columns values ≡ true → fit_columns choices columns (nulls_in into values) ≡ true
unfolding In
with_fits choices columns [] values optional fits = fits
with_fits choices columns (at ∷ into) values optional fits =
    with_fits choices columns into (slice_set values at Null) (λ column is_in. optional column (inr is_in)) (set_fits choices columns values at (optional at (inl refl)) fits)

freed_fits : (choices : List Choice) (columns : List Column) (test : Bool) (into : List ℕ) (row : Row) → (test ≡ true → (column : ℕ) → In column into → OptionalAt columns column) → fit_columns choices columns row.values ≡ true → fit_columns choices columns (freed test into row).values ≡ true
freed_fits choices columns true into row optional fits = with_fits choices columns into row.values (optional refl) fits
freed_fits choices columns false into row optional fits = fits

-- where only optional columns become null, a released row fits as it did
pub released_fits : (choices : List Choice) (columns : List Column) (relations : List Relation) (doomed : List Place) (table : ℕ) (row : Row)
    → ((relation : Relation) → In relation relations → lets_go doomed table row relation ≡ true → (column : ℕ) → In column relation.child_columns → OptionalAt columns column)
    → fit_columns choices columns row.values ≡ true → fit_columns choices columns (released relations doomed table row).values ≡ true
unfolding In
released_fits choices columns [] doomed table row optional fits = fits
released_fits choices columns (relation ∷ relations) doomed table row optional fits =
    freed_fits choices columns (lets_go doomed table row relation) relation.child_columns (released relations doomed table row) (optional relation (inl refl))
    (released_fits choices columns relations doomed table row (λ other is_in. optional other (inr is_in)) fits)

-- ---- required columns

-- the column is there, and required
abbrev pub RequiredAt : List Column → ℕ → Type 0
RequiredAt columns column = option_map (λ (c : Column). c.optional) (slice_get columns column) ≡ Some false

null_fits : (choices : List Choice) (column : Column) (value : Value) → value ≡ Null → fits_column choices column value ≡ true → column.optional ≡ true
null_fits choices column value null fits = subst (λ v. fits_column choices column v ≡ true) null fits

-- a row that fits has no null there
pub no_null : (choices : List Choice) (columns : List Column) (values : Values) (column : ℕ) → RequiredAt columns column → fit_columns choices columns values ≡ true → in_column values column ≡ Null → ⊥
no_null choices [] values column required fits null = absurd cc
no_null choices (one ∷ columns) [] column required fits null = true≢false (sym fits)
no_null choices (one ∷ columns) (value ∷ values) zero required fits null =
    true≢false (sym (null_fits choices one value null (and_parts (fits_column choices one value) (fit_columns choices columns values) fits).0) ∙ some_same one.optional false required)
no_null choices (one ∷ columns) (value ∷ values) (suc column) required fits null = no_null choices columns values column required (and_parts (fits_column choices one value) (fit_columns choices columns values) fits).1 null

-- required columns keep their values
pub required_stays : (choices : List Choice) (columns : List Column) (old new : Values) (column : ℕ) → RequiredAt columns column → fit_columns choices columns new ≡ true → Nulled old new → in_column new column ≡ in_column old column
required_stays choices columns old new column required fits nulled = by (nulled column)
  where
    by : (in_column new column ≡ in_column old column) ⊎ (in_column new column ≡ Null) → in_column new column ≡ in_column old column
    by (inl same) = same
    by (inr gone) = absurd (no_null choices columns new column required fits gone)

pub all_stay : (choices : List Choice) (columns : List Column) (old new : Row) (among : List ℕ) → ((column : ℕ) → In column among → RequiredAt columns column) → fit_columns choices columns new.values ≡ true → Nulled old.values new.values → at_columns among new ≡ at_columns among old
unfolding In
all_stay choices columns old new [] required fits nulled = refl
all_stay choices columns old new (column ∷ among) required fits nulled =
    λ i. required_stays choices columns old.values new.values column (required column (inl refl)) fits nulled i ∷ all_stay choices columns old new among (λ other is_in. required other (inr is_in)) fits nulled i

-- ---- what a row holds

nulled_value : (old new : Value) → (new ≡ old) ⊎ (new ≡ Null) → is_null new ≡ false → new ≡ old
nulled_value old new (inl same) some = same
nulled_value old new (inr gone) some = absurd (true≢false (sym (ap is_null gone) ∙ some))

-- values of which none is null are the old ones
pub held_values : (old new : Row) → Nulled old.values new.values → (columns : List ℕ) → has_null (at_columns columns new) ≡ false → at_columns columns new ≡ at_columns columns old
held_values old new nulled [] some = refl
held_values old new nulled (column ∷ columns) some =
    let parts = or_parts (is_null (value_at new column)) (has_null (at_columns columns new)) some in
    λ i. nulled_value (value_at old column) (value_at new column) (nulled column) parts.0 i ∷ held_values old new nulled columns parts.1 i

pub not_null : (columns : List ℕ) (row : Row) (column : ℕ) → In column columns → has_null (at_columns columns row) ≡ false → value_at row column ≡ Null → ⊥
unfolding In
not_null [] row column is_in some null = is_in
not_null (one ∷ columns) row column (inl same) some null = true≢false (sym (ap is_null (sym (ap (value_at row) same) ∙ null)) ∙ (or_parts (is_null (value_at row one)) (has_null (at_columns columns row)) some).0)
not_null (one ∷ columns) row column (inr is_in) some null = not_null columns row column is_in (or_parts (is_null (value_at row one)) (has_null (at_columns columns row)) some).1 null
