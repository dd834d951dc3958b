-- In tables that fit no two rows agree on a key.
use Rattle.std.proofs.Common.{◌≡◌, ℕ, zero, suc, true, List, [], ◌∷◌, Some, refl, sym, ap, ◌∙◌, true≢false}
use Rattle.std.specs.Prelude.{slice_get}
use Rattle.qe_base.specs.declared.value.Row.{Row}
use Rattle.qe_base.specs.Schemas.{Schema}
use Rattle.qe_schema.specs.Sound.{IsSound}
use Rattle.qe_schema.specs.Columns.{at_columns, holds}
use Rattle.qe_schema.specs.Fits.{KeyApart, FitsSchema}
use Rattle.qe_schema.specs.Tables.{Tables}
use Rattle.qe_row_laws.proofs.Lists.{all_in}
use Rattle.qe_schema.proofs.Members.{in_place, some_same}
use Rattle.qe_row_laws.proofs.Puts.{Apart, apart_back}
use Rattle.qe_writing.specs.Batch.{plain_all}
use Rattle.qe_writing.specs.Plain.{plain}
use Rattle.qe_write_laws.specs.Unique.{NoKeyTwice, OperationsRepeatNoKey, BatchesRepeatNoKey}
use Rattle.qe_write_laws.proofs.Fitting.{operations_keep, batches_keep}

-- a row agrees with none behind it
apart_behind : (columns : List ℕ) (row : Row) (rows : List Row) → KeyApart columns (row ∷ rows) → (place : ℕ) (later : Row) → slice_get rows place ≡ Some later → Apart columns row later
apart_behind columns row rows apart place later at = all_in (Apart columns row) rows later apart.0 (in_place rows place later at)

one_place : (columns : List ℕ) (rows : List Row) → KeyApart columns rows → (first second : ℕ) (one other : Row) → slice_get rows first ≡ Some one → slice_get rows second ≡ Some other → holds columns (at_columns columns one) other ≡ true → first ≡ second
one_place columns [] apart first second one other at at_other held = absurd cc
one_place columns (row ∷ rows) apart zero zero one other at at_other held = refl
one_place columns (row ∷ rows) apart zero (suc second) one other at at_other held =
    absurd (true≢false (sym held ∙ ap (λ r. holds columns (at_columns columns r) other) (sym (some_same _ _ at)) ∙ apart_behind columns row rows apart second other at_other))
one_place columns (row ∷ rows) apart (suc first) zero one other at at_other held =
    absurd (true≢false (sym held ∙ ap (holds columns (at_columns columns one)) (sym (some_same _ _ at_other)) ∙ apart_back columns row one (apart_behind columns row rows apart first one at)))
one_place columns (row ∷ rows) apart (suc first) (suc second) one other at at_other held = ap suc (one_place columns rows apart.1 first second one other at at_other held)

no_key_twice : (schema : Schema) (tables : Tables) → FitsSchema schema tables → NoKeyTwice schema tables
no_key_twice schema tables fits table number key found = one_place key.columns (tables.rows table) (fits.keys table number key found)

pub operations_repeat_no_key : (schema : Schema) → IsSound schema → OperationsRepeatNoKey schema
operations_repeat_no_key schema is op outside tables right fits = no_key_twice schema (plain schema op outside tables).tables (operations_keep schema is op outside tables right fits)

pub batches_repeat_no_key : (schema : Schema) → IsSound schema → BatchesRepeatNoKey schema
batches_repeat_no_key schema is ops outside tables right fits = no_key_twice schema (plain_all schema ops outside tables).tables (batches_keep schema is ops outside tables right fits)
