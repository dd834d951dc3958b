-- The calls of a connector in memory, of which some are to fail.
use Rattle.std.specs.Prelude.{ℕ, ◌+◌, ◌-◌, ◌^◌, Bool, ◌&&◌, ◌==◌, nat_lt, List, if◌then◌else◌}
use Rattle.std.specs.List.{list_any}
use Rattle.qe_base.specs.Causes.{Faults}
use Rattle.qe_view.specs.Calls.{CallCounts, more}
use Rattle.qe_mem.specs.declared.counts.Counts.{Counts}
use Rattle.qe_mem.specs.declared.counts.FailAt.{FailAt}
use Rattle.qe_mem.specs.declared.counts.CallKind.{CallKind}
use Rattle.qe_mem.specs.declared.counts.CallKind.TheVariants.{Attach, Load, Scan, Page, Last, Apply}

-- none was made yet
abbrev pub no_calls : List FailAt → Counts
no_calls fail = record { fail = fail; attaches = 0; loads = 0; scans = 0; pages = 0; lasts = 0; applies = 0; faults = 0 }

abbrev pub rank : CallKind → ℕ
rank Attach = 0
rank Load = 1
rank Scan = 2
rank Page = 3
rank Last = 4
rank Apply = 5

-- how many calls of a kind were made
abbrev pub made : CallKind → Counts → ℕ
made Attach counts = counts.attaches
made Load counts = counts.loads
made Scan counts = counts.scans
made Page counts = counts.pages
made Last counts = counts.lasts
made Apply counts = counts.applies

abbrev pub with_call : CallKind → Counts → Counts
with_call Attach counts = record counts { attaches = more counts.attaches }
with_call Load counts = record counts { loads = more counts.loads }
with_call Scan counts = record counts { scans = more counts.scans }
with_call Page counts = record counts { pages = more counts.pages }
with_call Last counts = record counts { lasts = more counts.lasts }
with_call Apply counts = record counts { applies = more counts.applies }

abbrev pub with_fault : Counts → Counts
with_fault counts = record counts { faults = more counts.faults }

-- this call of the kind is to fail
abbrev pub is_listed : CallKind → ℕ → FailAt → Bool
is_listed call number fail = (rank fail.call == rank call) && (fail.number == number)

-- The next call of a kind is to fail. Calls are numbered from 1, and one beyond 2 ^ 64 - 1 has no number.
abbrev pub fails_next : CallKind → Counts → Bool
fails_next call counts = nat_lt (made call counts) (2 ^ 64 - 1) && list_any (is_listed call (made call counts + 1)) counts.fail

-- some later call is to fail
abbrev pub may_fail : Counts → Bool
may_fail counts = list_any (λ fail. nat_lt (made fail.call counts) fail.number) counts.fail

abbrev pub faults_of : Counts → Faults
faults_of counts = record { count = counts.faults; may_fail = may_fail counts }

-- one call more, and one fault more where it is to fail
abbrev pub after_call : CallKind → Counts → Counts
after_call call counts = if fails_next call counts then with_fault (with_call call counts) else with_call call counts

-- the calls that the connector tells
abbrev pub calls_of : Counts → CallCounts
calls_of counts = record { loads = counts.loads; scans = counts.scans; pages = counts.pages; lasts = counts.lasts; applies = counts.applies }
