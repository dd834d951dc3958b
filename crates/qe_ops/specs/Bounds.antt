-- How many calls an operation makes below at most, and which operations only read.
use Rattle.std.specs.Prelude.{ℕ, ◌+◌, Bool, true, false, length}
use Rattle.qe_base.specs.Schemas.{Schema}
use Rattle.qe_base.specs.declared.write.Op.{Op}
use Rattle.qe_base.specs.declared.write.Op.TheVariants.{FindUnique, FindFirst, FindMany, Count, Create, CreateMany, Update, UpdateMany, Upsert, Delete, DeleteMany}
use Rattle.qe_schema.specs.Tables.{table_at}
use Rattle.qe_view.specs.Calls.{CallCounts, no_calls}

-- so many loads and nothing else
abbrev pub loads_alone : ℕ → CallCounts
loads_alone count = record no_calls { loads = count }

-- one look at a counter
abbrev pub one_last : CallCounts
one_last = record no_calls { lasts = 1 }

-- these calls and those
abbrev pub both_calls : CallCounts → CallCounts → CallCounts
both_calls one other = record {
  loads = one.loads + other.loads;
  scans = one.scans + other.scans;
  pages = one.pages + other.pages;
  lasts = one.lasts + other.lasts;
  applies = one.applies + other.applies;
}

-- a new row of a table: a load for each of its keys, and one look at its counter
abbrev pub calls_of_put : Schema → ℕ → CallCounts
calls_of_put schema table = both_calls (loads_alone (length (table_at schema table).keys)) one_last

-- The calls that an operation makes below at most. Those without any aren't carried out yet, and nothing is
-- promised of them.
abbrev pub calls_of : Schema → Op → CallCounts
calls_of schema (FindUnique table at strict pick) = loads_alone 1
calls_of schema (FindFirst table look strict pick) = no_calls
calls_of schema (FindMany table look pick) = no_calls
calls_of schema (Count table look) = no_calls
calls_of schema (Create table tree pick) = calls_of_put schema table.0
calls_of schema (CreateMany table trees pick) = no_calls
calls_of schema (Update table at tree pick) = no_calls
calls_of schema (UpdateMany table matching tree) = no_calls
calls_of schema (Upsert table at create update pick) = no_calls
calls_of schema (Delete table at pick) = no_calls
calls_of schema (DeleteMany table matching) = no_calls

-- the operation changes no table
abbrev pub reads_alone : Op → Bool
reads_alone (FindUnique table at strict pick) = true
reads_alone (FindFirst table look strict pick) = true
reads_alone (FindMany table look pick) = true
reads_alone (Count table look) = true
reads_alone (Create table tree pick) = false
reads_alone (CreateMany table trees pick) = false
reads_alone (Update table at tree pick) = false
reads_alone (UpdateMany table matching tree) = false
reads_alone (Upsert table at create update pick) = false
reads_alone (Delete table at pick) = false
reads_alone (DeleteMany table matching) = false
