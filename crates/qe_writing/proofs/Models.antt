-- What fits is on a model.
use Rattle.std.proofs.Common.{◌≡◌, ℕ, Bool, true, false, ◌||◌, List, [], map, sym, ap, ◌∙◌}
use Rattle.std.proofs.lemmas.Bool.{and_parts}
use Rattle.qe_base.specs.declared.write.Create.{Create, out-Create}
use Rattle.qe_base.specs.declared.write.Update.{Update, out-Update}
use Rattle.qe_base.specs.declared.write.Op.{Op}
use Rattle.qe_base.specs.declared.write.Op.TheVariants as op
use Rattle.qe_base.specs.declared.write.Step.TheFolds.{fold_out-Create, fold_out-Update}
use Rattle.qe_base.specs.Schemas.{Schema}
use Rattle.qe_schema.specs.Tables.{is_model}
use Rattle.qe_reading.specs.Fits.{read_fits}
use Rattle.qe_writing.specs.Parts.{is_few}
use Rattle.qe_writing.specs.WriteFits.{FittingStep, FittingCreate, FittingSteps, FittingUpdate, step_step, create_step, nested_step, update_step, create_fits, update_fits, write_fits, op_fits, op_table}
use Rattle.qe_writing.proofs.FitLayers.{nested_fits}

pub create_fits_out : (schema : Schema) (create : Create) → create_fits schema create ≡ create_step schema (record { values = (out-Create create).values; nested = map (nested_fits schema) (out-Create create).nested })
create_fits_out schema create = fold_out-Create FittingStep FittingCreate FittingSteps FittingUpdate (step_step schema) (create_step schema) (nested_step schema) (update_step schema) create

pub update_fits_out : (schema : Schema) (update : Update) → update_fits schema update ≡ update_step schema (record { edits = (out-Update update).edits; nested = map (nested_fits schema) (out-Update update).nested })
update_fits_out schema update = fold_out-Update FittingStep FittingCreate FittingSteps FittingUpdate (step_step schema) (create_step schema) (nested_step schema) (update_step schema) update

-- a row that is made is one of a model
pub created_model : (schema : Schema) (create : Create) (table : ℕ) (columns : List ℕ) → (create_fits schema create).fits table columns ≡ true → is_model schema table ≡ true
created_model schema create table columns fits =
    (and_parts (is_model schema table) _ (and_parts _ _ (and_parts _ _ (sym (ap (λ (fit : FittingCreate). fit.fits table columns) (create_fits_out schema create)) ∙ fits)).0).0).0

-- a row that is changed, too
pub updated_model : (schema : Schema) (update : Update) (table : ℕ) → (update_fits schema update).fits table ≡ true → is_model schema table ≡ true
updated_model schema update table fits =
    (and_parts (is_model schema table) _ (and_parts _ _ (and_parts _ _ (sym (ap (λ (fit : FittingUpdate). fit.fits table) (update_fits_out schema update)) ∙ fits)).0).0).0

or_false : (b : Bool) → (b || false) ≡ true → b ≡ true
or_false true is = is
or_false false is = is

pub operation_model : (schema : Schema) (op : Op) → op_fits schema op ≡ true → is_model schema (op_table op) ≡ true
operation_model schema (op.FindUnique table at strict pick) fits = (and_parts (is_model schema table.0) _ (and_parts _ _ (or_false (read_fits schema (op.FindUnique table at strict pick)) (and_parts (read_fits schema (op.FindUnique table at strict pick) || false) (is_few 0) fits).0)).0).0
operation_model schema (op.FindFirst table look strict pick) fits = (and_parts (is_model schema table.0) _ (and_parts _ _ (or_false (read_fits schema (op.FindFirst table look strict pick)) (and_parts (read_fits schema (op.FindFirst table look strict pick) || false) (is_few 0) fits).0)).0).0
operation_model schema (op.FindMany table look pick) fits = (and_parts (is_model schema table.0) _ (and_parts _ _ (or_false (read_fits schema (op.FindMany table look pick)) (and_parts (read_fits schema (op.FindMany table look pick) || false) (is_few 0) fits).0)).0).0
operation_model schema (op.Count table look) fits = (and_parts (is_model schema table.0) _ (and_parts _ _ (or_false (read_fits schema (op.Count table look)) (and_parts (read_fits schema (op.Count table look) || false) (is_few 0) fits).0)).0).0
operation_model schema (op.Create table tree pick) fits = created_model schema tree table.0 [] (and_parts ((create_fits schema tree).fits table.0 []) _ (and_parts (write_fits schema (op.Create table tree pick)) _ fits).0).0
operation_model schema (op.CreateMany table trees pick) fits = (and_parts (is_model schema table.0) _ (and_parts _ _ (and_parts (write_fits schema (op.CreateMany table trees pick)) _ fits).0).0).0
operation_model schema (op.Update table at tree pick) fits = updated_model schema tree table.0 (and_parts _ ((update_fits schema tree).fits table.0) (and_parts _ _ (and_parts (write_fits schema (op.Update table at tree pick)) _ fits).0).0).1
operation_model schema (op.UpdateMany table asked tree) fits = updated_model schema tree table.0 (and_parts _ ((update_fits schema tree).fits table.0) (and_parts (write_fits schema (op.UpdateMany table asked tree)) _ fits).0).1
operation_model schema (op.Upsert table at create update pick) fits = updated_model schema update table.0 (and_parts _ ((update_fits schema update).fits table.0) (and_parts _ _ (and_parts (write_fits schema (op.Upsert table at create update pick)) _ fits).0).0).1
operation_model schema (op.Delete table at pick) fits = (and_parts (is_model schema table.0) _ (and_parts _ _ (and_parts (write_fits schema (op.Delete table at pick)) _ fits).0).0).0
operation_model schema (op.DeleteMany table asked) fits = (and_parts (is_model schema table.0) _ (and_parts (write_fits schema (op.DeleteMany table asked)) _ fits).0).0
