-- What is read depends on the rows and the pairs of the tables alone.
use Rattle.std.proofs.Common.{◌≡◌, ℕ, pos, List, [], ◌∷◌, ◌++◌, map, length, codes, Bool, true, false, ◌&&◌, filter, Option, Some, None, Result, refl, ap, ◌∙◌}
use Rattle.std.specs.Prelude.{find}
use Rattle.std.specs.List.{list_any}
use Rattle.std.specs.Ordering.{on, then_cmp}
use Rattle.qe_base.specs.Values.{value_eq}
use Rattle.qe_base.specs.declared.value.Row.{Row}
use Rattle.qe_base.specs.declared.value.Value.TheVariants.{Int}
use Rattle.qe_base.specs.declared.schema.Field.{Field}
use Rattle.qe_base.specs.declared.schema.Field.TheVariants.{Scalar, Holder, Target, SideA, SideB}
use Rattle.qe_base.specs.declared.schema.Link.{Link}
use Rattle.qe_base.specs.declared.query.Filter.TheOpen.{Filter-F}
use Rattle.qe_base.specs.declared.query.Filter.TheOpen as layer
use Rattle.qe_base.specs.declared.query.Filter.TheFolds.{fold-Filter}
use Rattle.qe_base.specs.declared.query.OrderBy.{OrderBy}
use Rattle.qe_base.specs.declared.query.OrderEnd.{OrderEnd}
use Rattle.qe_base.specs.declared.query.OrderEnd.TheVariants.{Column, Count}
use Rattle.qe_base.specs.declared.query.Look.{Look}
use Rattle.qe_base.specs.declared.query.Unique.{Unique}
use Rattle.qe_base.specs.declared.query.Child.TheOpen.{Child-F, Pick-F}
use Rattle.qe_base.specs.declared.query.Child.TheFolds.{fold-Pick}
use Rattle.qe_base.specs.declared.answer.Answer.{Answer}
use Rattle.qe_base.specs.declared.answer.Answer as answer
use Rattle.qe_base.specs.declared.write.Op.{Op}
use Rattle.qe_base.specs.declared.write.Op.TheVariants as op
use Rattle.qe_base.specs.Schemas.{Schema, link_of}
use Rattle.qe_schema.specs.Tables.{Tables, table_at, field_at}
use Rattle.qe_reading.specs.Related.{other_table, are_paired, id_value, is_some_such, is_related_by, related, first_row, one_related, is_to_many}
use Rattle.qe_reading.specs.Truth.{Says, truth_step, truth_of, of_many, is_absent, is_yes_of}
use Rattle.qe_schema.specs.Tests.{yes_if, is_yes}
use Rattle.qe_reading.specs.Order.{value_along, end_value, order_cmp, rows_cmp, sorted_by}
use Rattle.qe_reading.specs.Page.{is_at, page_of}
use Rattle.qe_reading.specs.Look.{looked_up}
use Rattle.qe_reading.specs.Shape.{NamedAnswer, Shows, ShowsChild, then_ok, gathered, columns_shown, counts_shown, field_name, one_shown, all_shown, child_shown, child_step, pick_step, shape_of}
use Rattle.qe_reading.specs.Read.{found_at, with_one, row_or_missing, rows_for, read_of}

module _ (schema : Schema) (a b : Tables) (rows : (table : ℕ) → a.rows table ≡ b.rows table) (pairs : (table : ℕ) → a.pairs table ≡ b.pairs table) where
  same_pairing : (link : Link) (one other : Row) → are_paired schema a link one other ≡ are_paired schema b link one other
  same_pairing link one other = ap (list_any (λ pair. value_eq pair.0 (id_value schema link.a.0 one) && value_eq pair.1 (id_value schema link.b.0 other))) (pairs link.table.0)

  same_such : {A : Type 0} (p q : A → Bool) → ((x : A) → p x ≡ q x) → (found : Option A) → is_some_such p found ≡ is_some_such q found
  same_such p q same None = refl
  same_such p q same (Some x) = same x

  same_relation : (field : Option Field) (row other : Row) → is_related_by schema a field row other ≡ is_related_by schema b field row other
  same_relation None row other = refl
  same_relation (Some (Scalar column)) row other = refl
  same_relation (Some (Holder number)) row other = refl
  same_relation (Some (Target number)) row other = refl
  same_relation (Some (SideA table)) row other = same_such _ _ (λ link. same_pairing link row other) (link_of table.0 schema.links)
  same_relation (Some (SideB table)) row other = same_such _ _ (λ link. same_pairing link other row) (link_of table.0 schema.links)

  same_related : (table number : ℕ) (row : Row) → related schema a table number row ≡ related schema b table number row
  same_related table number row = λ i. filter (λ other. same_relation (field_at schema table number) row other i) (rows (other_table schema table number) i)

  same_one : (table number : ℕ) (row : Row) → one_related schema a table number row ≡ one_related schema b table number row
  same_one table number row = ap first_row (same_related table number row)

  same_step : (filter : Filter-F Says) (table : ℕ) (row : Row) → truth_step schema a filter table row ≡ truth_step schema b filter table row
  same_step (layer.All parts) table row = refl
  same_step (layer.Any parts) table row = refl
  same_step (layer.Not part) table row = refl
  same_step (layer.Test column asked) table row = refl
  same_step (layer.Many field how inner) table row = ap (λ found. of_many how (map (inner (other_table schema table field)) found)) (same_related table field row)
  same_step (layer.One field None) table row = ap (λ found. yes_if (is_absent found)) (same_one table field row)
  same_step (layer.One field (Some inner)) table row = ap (λ found. yes_if (is_yes_of (inner (other_table schema table field)) found)) (same_one table field row)

  same_truth : truth_of schema a ≡ truth_of schema b
  same_truth = ap (fold-Filter Says) (λ i filter table row. same_step filter table row i)

  same_end : (table : ℕ) (end : OrderEnd) (row : Row) → end_value schema a table end row ≡ end_value schema b table end row
  same_end table (Column column) row = refl
  same_end table (Count field) row = ap (λ found. Int (pos (length found))) (same_related table field row)

  same_along : (table : ℕ) (path : List ℕ) (end : OrderEnd) (row : Option Row) → value_along schema a table path end row ≡ value_along schema b table path end row
  same_along table [] end None = refl
  same_along table (field ∷ path) end None = refl
  same_along table [] end (Some row) = same_end table end row
  same_along table (field ∷ path) end (Some row) =
      ap (value_along schema a (other_table schema table field) path end) (same_one table field row) ∙ same_along (other_table schema table field) path end (one_related schema b table field row)

  same_cmp : (table : ℕ) (orders : List OrderBy) → rows_cmp schema a table orders ≡ rows_cmp schema b table orders
  same_cmp table [] = refl
  same_cmp table (order ∷ orders) = λ i. then_cmp (on (λ row. same_along table order.path order.end (Some row) i) (order_cmp order)) (same_cmp table orders i)

  same_looked : (table : ℕ) (look : Look) (all : List Row) → looked_up schema a table look all ≡ looked_up schema b table look all
  same_looked table look all = λ i. page_of (table_at schema table) look.page (sorted_by (same_cmp table look.order i) (filter (λ row. is_yes (same_truth i look.filter table row)) all))

  same_shown : (table : ℕ) (child : Child-F ShowsChild Shows) (row : Row) (many : Bool) → child_shown schema a table child row many ≡ child_shown schema b table child row many
  same_shown table child row true =
      let other = other_table schema table child.field in
      ap (all_shown (child.pick other)) (same_looked other child.look (related schema a table child.field row) ∙ ap (looked_up schema b other child.look) (same_related table child.field row))
  same_shown table child row false = ap (one_shown schema table child.field (child.pick (other_table schema table child.field))) (same_one table child.field row)

  same_child : (child : Child-F ShowsChild Shows) (table : ℕ) (row : Row) → child_step schema a child table row ≡ child_step schema b child table row
  same_child child table row = ap (then_ok (λ shown. (field_name schema table child.field, shown))) (same_shown table child row (is_to_many schema table child.field))

  same_counts : (table : ℕ) (counts : List ℕ) (row : Row) → counts_shown schema a table counts row ≡ counts_shown schema b table counts row
  same_counts table [] row = refl
  same_counts table (field ∷ fields) row = λ i. (codes "_count", answer.Object (map (λ number. (field_name schema table number, answer.Number (length (same_related table number row i)))) (field ∷ fields))) ∷ []

  same_pick : (pick : Pick-F ShowsChild Shows) (table : ℕ) (row : Row) → pick_step schema a pick table row ≡ pick_step schema b pick table row
  same_pick pick table row =
      ap (λ (counts : List NamedAnswer). then_ok (λ children. answer.Object (columns_shown (table_at schema table) pick.columns row ++ counts ++ children)) (gathered (map (λ child. child table row) pick.children))) (same_counts table pick.counts row)

  same_shape : shape_of schema a ≡ shape_of schema b
  same_shape = λ i. fold-Pick ShowsChild Shows (λ child table row. same_child child table row i) (λ pick table row. same_pick pick table row i)

  same_found : (table : ℕ) (at : Unique) → found_at schema a table at ≡ found_at schema b table at
  same_found table at = λ i. find (λ row. is_at (table_at schema table) at row && is_yes (same_truth i at.extra table row)) (rows table i)

  same_rows_for : (table : ℕ) (look : Look) → rows_for schema a table look ≡ rows_for schema b table look
  same_rows_for table look = same_looked table look (a.rows table) ∙ ap (looked_up schema b table look) (rows table)

  pub same_read : (op : Op) → read_of schema a op ≡ read_of schema b op
  same_read (op.FindUnique table at strict pick) = λ i. Some (row_or_missing table.0 strict (same_shape i pick table.0) (same_found table.0 at i))
  same_read (op.FindFirst table look strict pick) = λ i. Some (row_or_missing table.0 strict (same_shape i pick table.0) (first_row (same_rows_for table.0 (with_one look) i)))
  same_read (op.FindMany table look pick) = λ i. Some (all_shown (same_shape i pick table.0) (same_rows_for table.0 look i))
  same_read (op.Count table look) = ap (λ found. Some (Result.Ok (answer.Number (length found)))) (same_rows_for table.0 look)
  same_read (op.Create table tree pick) = refl
  same_read (op.CreateMany table trees pick) = refl
  same_read (op.Update table at tree pick) = refl
  same_read (op.UpdateMany table asked tree) = refl
  same_read (op.Upsert table at create update pick) = refl
  same_read (op.Delete table at pick) = refl
  same_read (op.DeleteMany table asked) = refl
