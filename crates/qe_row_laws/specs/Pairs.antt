-- What a pair that comes or goes keeps.
use Rattle.std.specs.Prelude.{◌≡◌, ℕ, true, List}
use Rattle.qe_base.specs.declared.value.Value.{Value}
use Rattle.qe_base.specs.Schemas.{Schema}
use Rattle.qe_schema.specs.Fits.{fit_columns, FitsSchema}
use Rattle.qe_schema.specs.Pairs.{with_pair, without_pair, PairsAscend, both_values}
use Rattle.qe_schema.specs.Tables.{Tables, table_at, is_link, with_pairs}

abbrev pub WithPairAscends : Type 0
WithPairAscends = (pair : Value × Value) (pairs : List (Value × Value)) → PairsAscend pairs → PairsAscend (with_pair pair pairs)

abbrev pub WithoutPairAscends : Type 0
WithoutPairAscends = (pair : Value × Value) (pairs : List (Value × Value)) → PairsAscend pairs → PairsAscend (without_pair pair pairs)

-- the pair has a value for both columns of the link table
abbrev pub FitsLink : Schema → ℕ → (Value × Value) → Type 0
FitsLink schema link pair = fit_columns schema.choices (table_at schema link).columns (both_values pair) ≡ true

-- tables to which a pair comes that fits its link table
abbrev pub NewPairsFit : Schema → Type 0
NewPairsFit schema = (link : ℕ) (pair : Value × Value) (tables : Tables) → FitsSchema schema tables → is_link schema link ≡ true → FitsLink schema link pair → FitsSchema schema (with_pairs link (with_pair pair (tables.pairs link)) tables)

-- tables from which a pair goes
abbrev pub FewerPairsFit : Schema → Type 0
FewerPairsFit schema = (link : ℕ) (pair : Value × Value) (tables : Tables) → FitsSchema schema tables → FitsSchema schema (with_pairs link (without_pair pair (tables.pairs link)) tables)
