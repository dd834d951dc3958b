-- What is to stand at the ids of a table, and the turns that this is in each of its orders.
use Rattle.std.specs.Prelude.{ℕ, ℤ, List, [], ◌∷◌, map, Option, Some, None, slice_get, slice_set, get_or}
use Rattle.std.specs.BTreeMap.{insert_entry}
use Rattle.std.specs.Int.{int_max}
use Rattle.qe_base.specs.declared.value.Row.{Row}
use Rattle.qe_base.specs.declared.value.TableId.{TableId}
use Rattle.qe_view.specs.After.{pair_row}
use Rattle.qe_view.specs.declared.changes.Change.{Change}
use Rattle.qe_view.specs.declared.changes.Change.TheVariants.{Remove, Put, Unlink, Link, Counter}
use Rattle.qe_mem.specs.Keys.{keyed_cmp, under}
use Rattle.qe_mem.specs.Listings.{Listing, found_at}
use Rattle.qe_mem.specs.Turns.{turn_of, entered_all, left_all, settled_all, CanEnter, CanSettle}
use Rattle.qe_mem.specs.Each.{each, AllOfBoth}
use Rattle.qe_mem.specs.declared.keyed.Columns.TheVariants.{Whole}
use Rattle.qe_mem.specs.declared.keyed.Keyed.{Keyed}
use Rattle.qe_mem.specs.declared.turns.Swap.{Swap}
use Rattle.qe_mem.specs.declared.turns.Turn.{Turn}
use Rattle.qe_mem.specs.declared.table.MemTable.{MemTable}
use Rattle.qe_mem.specs.declared.table.Plan.{Plan}
use Rattle.qe_mem.specs.declared.pending.Step.{Step}

-- ---- what is to stand at ids

-- a row or none at each id, in the order of the ids
abbrev pub Pending : Type 0
Pending = List (Keyed × Option Row)

abbrev pub with_entry : Keyed → Option Row → Pending → Pending
with_entry place row pending = insert_entry keyed_cmp pending place row

abbrev pub gone_step : TableId → Row → Option MemTable → Option Step
gone_step table id None = None
gone_step table id (Some kept) = Some (record { table = table; place = under Whole id; row = None })

abbrev pub come_step : TableId → Row → Option MemTable → Option Step
come_step table row None = None
come_step table row (Some kept) = Some (record { table = table; place = under kept.rows.columns row; row = Some row })

-- what a change of rows or pairs comes to
abbrev pub step_of : List MemTable → Change → Option Step
step_of kept (Remove table id) = gone_step table id (slice_get kept table.0)
step_of kept (Put table row) = come_step table row (slice_get kept table.0)
step_of kept (Unlink table a b) = gone_step table (pair_row (a, b)) (slice_get kept table.0)
step_of kept (Link table a b) = come_step table (pair_row (a, b)) (slice_get kept table.0)
step_of kept (Counter table last) = None

abbrev pub noted : Option Step → List Pending → List Pending
noted None pendings = pendings
noted (Some step) pendings = slice_set pendings step.table.0 (with_entry step.place step.row (get_or pendings step.table.0 []))

-- what is to stand in each table, by one change after another
abbrev pub noted_all : List MemTable → List Change → List Pending → List Pending
noted_all kept [] pendings = pendings
noted_all kept (change ∷ changes) pendings = noted_all kept changes (noted (step_of kept change) pendings)

-- ---- the turns in each order

abbrev pub swap_at : Listing → (Keyed × Option Row) → Swap
swap_at rows entry = record { old = found_at rows entry.0; new = entry.1 }

abbrev pub turns_in : List Swap → Listing → List Turn
turns_in swaps listing = map (turn_of listing.columns) swaps

abbrev pub plan_of : List Swap → MemTable → Plan
plan_of swaps table = record { rows = turns_in swaps table.rows; orders = map (turns_in swaps) table.orders }

abbrev pub plan_for : Pending → MemTable → Plan
plan_for pending table = plan_of (map (swap_at table.rows) pending) table

abbrev pub plans_for : List Pending → List MemTable → List Plan
plans_for [] kept = []
plans_for (pending ∷ pendings) [] = []
plans_for (pending ∷ pendings) (table ∷ kept) = plan_for pending table ∷ plans_for pendings kept

-- ---- tables by their plans

abbrev pub entered_table : Plan → MemTable → MemTable
entered_table plan table = record table { rows = entered_all plan.rows table.rows; orders = each entered_all plan.orders table.orders }

abbrev pub left_table : Plan → MemTable → MemTable
left_table plan table = record table { rows = left_all plan.rows table.rows; orders = each left_all plan.orders table.orders }

abbrev pub settled_table : Plan → MemTable → MemTable
settled_table plan table = record table { rows = settled_all plan.rows table.rows; orders = each settled_all plan.orders table.orders }

pub record CanEnterTable (plan : Plan) (table : MemTable) : Type 0 where
  pub rows : CanEnter plan.rows table.rows
  pub orders : AllOfBoth CanEnter plan.orders table.orders

pub record CanSettleTable (plan : Plan) (table : MemTable) : Type 0 where
  pub rows : CanSettle plan.rows table.rows
  pub orders : AllOfBoth CanSettle plan.orders table.orders

-- ---- counters

abbrev pub raised_at : List MemTable → ℕ → ℤ → Option MemTable → List MemTable
raised_at kept table last None = kept
raised_at kept table last (Some found) = slice_set kept table (record found { last = int_max last found.last })

abbrev pub raised : Change → List MemTable → List MemTable
raised (Remove table id) kept = kept
raised (Put table row) kept = kept
raised (Unlink table a b) kept = kept
raised (Link table a b) kept = kept
raised (Counter table last) kept = raised_at kept table.0 last (slice_get kept table.0)

abbrev pub raised_all : List Change → List MemTable → List MemTable
raised_all [] kept = kept
raised_all (change ∷ changes) kept = raised_all changes (raised change kept)
