-- What is seen of the host over the system's streams and files.
use Rattle.std.specs.Prelude.{ℕ, true, None}
use Rattle.qe_base.specs.Causes.{Faults}
use Rattle.qe_base.specs.Outside.{Seen}
use Rattle.qe_cli.specs.declared.real.StdHost.{StdHost}

-- calls of which so many have failed, and any may fail
abbrev pub counted : ℕ → Faults
counted count = record { count = count; may_fail = true }

-- it tells nothing but how often a read, a write and a fetch have failed
abbrev pub host_seen : StdHost → Seen
host_seen host = record {
  left = None;
  taken = None;
  files = None;
  turns = None;
  asked = None;
  reads = counted host.read_faults;
  writes = counted host.write_faults;
  fetches = counted host.fetch_faults;
}

abbrev pub nothing_failed : Seen
nothing_failed = record { left = None; taken = None; files = None; turns = None; asked = None; reads = counted 0; writes = counted 0; fetches = counted 0 }
