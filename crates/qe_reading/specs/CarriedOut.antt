-- The operations that the program carries out so far, and on which models.
use Rattle.std.specs.Prelude.{Bool, true, false, ◌&&◌, ◌==◌, not, length}
use Rattle.std.specs.List.{list_all}
use Rattle.qe_base.specs.declared.value.Kind.{Kind}
use Rattle.qe_base.specs.declared.value.Kind.TheVariants as kind
use Rattle.qe_base.specs.declared.schema.Column.{Column}
use Rattle.qe_base.specs.declared.schema.Fill.{Fill}
use Rattle.qe_base.specs.declared.schema.Fill.TheVariants.{Absent, Literal, Counter, Now, Uuid}
use Rattle.qe_base.specs.declared.schema.Table.{Table}
use Rattle.qe_base.specs.declared.query.Filter.{out-Filter}
use Rattle.qe_base.specs.declared.query.Pick.{Pick, out-Pick}
use Rattle.qe_base.specs.declared.write.Create.{out-Create}
use Rattle.qe_base.specs.declared.write.Op.{Op}
use Rattle.qe_base.specs.declared.write.Op.TheVariants as op
use Rattle.qe_base.specs.Schemas.{Schema}
use Rattle.qe_schema.specs.Tables.{table_at, id_columns}
use Rattle.qe_reading.specs.Fits.{is_empty, asks_nothing}

-- texts, and numbers within 32 bits
abbrev pub is_simple_kind : Kind → Bool
is_simple_kind kind.Text = true
is_simple_kind kind.Bool = false
is_simple_kind kind.Int = true
is_simple_kind kind.Big = false
is_simple_kind kind.Moment = false
is_simple_kind kind.Blob = false
is_simple_kind (kind.Member enum) = false

abbrev pub has_no_fill : Fill → Bool
has_no_fill Absent = true
has_no_fill (Literal value) = false
has_no_fill Counter = false
has_no_fill Now = false
has_no_fill Uuid = false

abbrev pub is_simple_column : Column → Bool
is_simple_column column = is_simple_kind column.kind && not column.optional && has_no_fill column.fill && not column.updated

-- a model of required texts and numbers without fill, whose id is one of them
abbrev pub is_simple : Table → Bool
is_simple table = not table.link && list_all is_simple_column table.columns && length (id_columns table) == 1

-- columns alone
abbrev pub picks_columns : Pick → Bool
picks_columns pick = is_empty (out-Pick pick).counts && is_empty (out-Pick pick).children

-- a find by a key alone, or a create without nested steps, on a simple model and answered by columns
abbrev pub is_carried_out : Schema → Op → Bool
is_carried_out schema (op.FindUnique table at strict pick) = is_simple (table_at schema table.0) && asks_nothing (out-Filter at.extra) && picks_columns pick
is_carried_out schema (op.FindFirst table look strict pick) = false
is_carried_out schema (op.FindMany table look pick) = false
is_carried_out schema (op.Count table look) = false
is_carried_out schema (op.Create table tree pick) = is_simple (table_at schema table.0) && is_empty (out-Create tree).nested && picks_columns pick
is_carried_out schema (op.CreateMany table trees pick) = false
is_carried_out schema (op.Update table at tree pick) = false
is_carried_out schema (op.UpdateMany table asked tree) = false
is_carried_out schema (op.Upsert table at create update pick) = false
is_carried_out schema (op.Delete table at pick) = false
is_carried_out schema (op.DeleteMany table asked) = false
