-- What new tables hold.
use Rattle.std.proofs.Common.{◌≡◌, ℕ, zero, suc, ℤ, List, [], ◌∷◌, map, refl}
use Rattle.qe_base.specs.declared.value.Row.{Row}
use Rattle.qe_base.specs.declared.value.Value.{Value}
use Rattle.qe_base.specs.declared.schema.Table.{Table}
use Rattle.qe_schema.specs.Tables.{Tables, no_rows}
use Rattle.qe_plain.specs.Kept.{nothing_kept, kept_at, tables_of}

-- tables are the same where each of their parts is
same_tables : (rows others : ℕ → List Row) (last later : ℕ → ℤ) (pairs more : ℕ → List (Value × Value)) → rows ≡ others → last ≡ later → pairs ≡ more → (let tables : Tables = record { rows = rows; last = last; pairs = pairs } in tables) ≡ record { rows = others; last = later; pairs = more }
same_tables rows others last later pairs more r l p = λ i. record { rows = r i; last = l i; pairs = p i }

-- a new list of tables holds nothing
empty_at : (shapes : List Table) (table : ℕ) → kept_at (map (λ _. nothing_kept) shapes) table ≡ nothing_kept
empty_at [] table = refl
empty_at (shape ∷ shapes) zero = refl
empty_at (shape ∷ shapes) (suc table) = empty_at shapes table

pub empty_tables : (shapes : List Table) → tables_of (map (λ _. nothing_kept) shapes) ≡ no_rows
empty_tables shapes = same_tables _ _ _ _ _ _ (λ i table. (empty_at shapes table i).rows) (λ i table. (empty_at shapes table i).last) (λ i table. (empty_at shapes table i).pairs)
