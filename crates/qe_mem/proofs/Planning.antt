-- Plans of tables, one after another.
use Rattle.std.proofs.Common.{◌≡◌, ℕ, ◌≤◌, List, [], ◌∷◌, ◌++◌, length, drop, refl, sym, ap, ◌∙◌}
use Rattle.std.proofs.Math.ListN.{drop_of_length-le}
use Rattle.qe_mem.specs.Turns.{entered_all, left_all, CanEnter}
use Rattle.qe_mem.specs.Plans.{Pending, plans_for, entered_table, left_table, CanEnterTable}
use Rattle.qe_mem.specs.declared.table.MemTable.{MemTable}
use Rattle.qe_mem.specs.declared.table.Plan.{Plan}
use Rattle.qe_mem.proofs.Turning.{turns_undone}
use Rattle.qe_mem.proofs.Eaching.{each_all_undone}

pub table_undone : (plan : Plan) (table : MemTable) → CanEnterTable plan table → left_table plan (entered_table plan table) ≡ table
table_undone plan table can = λ i. record { link = table.link; rows = turns_undone plan.rows table.rows can.rows i; orders = each_all_undone CanEnter entered_all left_all turns_undone plan.orders table.orders can.orders i; last = table.last }

no_plans : (pendings : List Pending) → plans_for pendings [] ≡ []
no_plans [] = refl
no_plans (pending ∷ pendings) = refl

-- where no table is left, nothing is planned
pub none_left : (kept : List MemTable) (at : ℕ) (before end : List Plan) (pending : Pending) (all rest : List Pending) → length kept ≤ at → all ≡ pending ∷ rest → before ++ plans_for all (drop at kept) ≡ end → before ++ plans_for rest (drop at kept) ≡ end
none_left kept at before end pending all rest past split so_far =
    let none : drop at kept ≡ [] = drop_of_length-le kept past in
    ap (λ l. before ++ plans_for rest l) none ∙ ap (λ l. before ++ l) (no_plans rest ∙ sym (no_plans all)) ∙ ap (λ l. before ++ plans_for all l) (sym none) ∙ so_far
