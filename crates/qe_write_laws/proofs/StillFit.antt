-- Tables that fit a schema fit it after a change too.
use Rattle.std.proofs.Common.{◌≡◌, ℕ, true, not, Some, None, Result, Ok, Err, IfOk, refl, sym, ap, subst, ◌∙◌}
use Rattle.std.specs.Prelude.{find}
use Rattle.std.proofs.lemmas.Bool.{true_from_ne_false}
use Rattle.qe_base.specs.declared.answer.Rule.{Rule}
use Rattle.qe_base.specs.declared.value.Row.{Row}
use Rattle.qe_base.specs.Schemas.{Schema}
use Rattle.qe_schema.specs.Sound.{IsSound}
use Rattle.qe_schema.specs.Columns.{Values, are_same}
use Rattle.qe_schema.specs.Fits.{FitsSchema}
use Rattle.qe_schema.specs.Put.{put_beside}
use Rattle.qe_schema.specs.Tables.{Tables, table_at, is_model, id_of}
use Rattle.qe_row_laws.proofs.Puts.{puts_fit}
use Rattle.qe_writing.specs.Change.{others, renamed_to, replace, change_of}
use Rattle.qe_writing.specs.WriteState.{WriteState, with_tables, row_with_id}
use Rattle.qe_write_laws.specs.ChangeLaws.{ChangesFit}
use Rattle.qe_write_laws.specs.Keeping.{ReplacesKeep, ChangesKeep, ChangesKeepAlike}
use Rattle.qe_schema.specs.Links.{LinksAgree}
use Rattle.qe_write_laws.proofs.Results.{bind_ok, both_ok}
use Rattle.qe_write_laws.proofs.Renamed.{renamed_fit}
use Rattle.qe_write_laws.proofs.Keeps.{ReplaceKeeps, change_keeps}

model_of : (schema : Schema) (table : ℕ) (id : Values) (old : Row) (state : WriteState) → FitsSchema schema state.tables → row_with_id schema table id state ≡ Some old → is_model schema table ≡ true
model_of schema table id old state fits found = true_from_ne_false (is_model schema table) (λ none. no_row (ap (find (λ one. are_same (id_of (table_at schema table) one) id)) (sym (fits.models table none)) ∙ found))
  where
    no_row : None ≡ Some old → ⊥
    no_row is = cc

replace_fits : (schema : Schema) → (is : IsSound schema) → LinksAgree schema → ReplaceKeeps schema is (FitsSchema schema) (λ tables fits. fits)
replace_fits schema is agree table id new old state found fits right = bind_ok (put_beside schema table new (others schema table id state) state.tables) (λ tables. Ok (renamed_to schema table id (id_of (table_at schema table) new) (with_tables tables state)))
    (FitsSchema schema) (λ (after : WriteState). FitsSchema schema after.tables) (put (put_beside schema table new (others schema table id state) state.tables) refl)
    (λ tables kept. renamed_fit schema agree is.ids table new model right id tables kept)
  where
    model : is_model schema table ≡ true
    model = model_of schema table id old state fits found

    put : (r : Result Tables Rule) → put_beside schema table new (others schema table id state) state.tables ≡ r → IfOk r (FitsSchema schema)
    put (Err broken) same = tt
    put (Ok tables) same = puts_fit schema table new (λ row. not (are_same (id_of (table_at schema table) row) id)) state.tables tables fits model right same

if_ok : (r : Result WriteState Rule) (P : WriteState → Type 0) (after : WriteState) → IfOk r P → r ≡ Ok after → P after
if_ok r P after holds same = subst (λ r. IfOk r P) same holds

pub changes_fit : (schema : Schema) → IsSound schema → ChangesFit schema
changes_fit schema is table id row state after fits right same =
    if_ok (change_of schema table id row state) (λ (after : WriteState). FitsSchema schema after.tables) after (change_keeps schema is (FitsSchema schema) (λ tables fits. fits) (replace_fits schema is is.links) table id row state fits right) same

-- ---- any other fact

pub kept_by_changes : (schema : Schema) → IsSound schema → (Fact : Tables → Type 0) → ReplacesKeep schema Fact → ChangesKeep schema Fact
kept_by_changes schema is Fact replaces table id row state after fits holds right same =
    (if_ok (change_of schema table id row state) (λ (after : WriteState). FitsSchema schema after.tables × Fact after.tables) after (change_keeps schema is (λ tables. FitsSchema schema tables × Fact tables) (λ tables both. both.0) each table id row state (fits, holds) right) same).1
  where
    each : ReplaceKeeps schema is (λ tables. FitsSchema schema tables × Fact tables) (λ tables both. both.0)
    each table id new old state found both right =
        both_ok (replace schema table id new state) (λ (after : WriteState). FitsSchema schema after.tables) (λ (after : WriteState). Fact after.tables) (replace_fits schema is is.links table id new old state found both.0 right) (by_result (replace schema table id new state) refl)
      where
        by_result : (r : Result WriteState Rule) → replace schema table id new state ≡ r → IfOk r (λ (after : WriteState). Fact after.tables)
        by_result (Err broken) same = tt
        by_result (Ok after) same = replaces table id new old state after both.0 both.1 found right same

pub changes_keep_alike : (schema : Schema) → IsSound schema → ChangesKeepAlike schema
changes_keep_alike schema is test = kept_by_changes schema is (λ tables. test tables ≡ true)
