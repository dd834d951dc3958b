-- What is seen of a host in memory.
use Rattle.std.specs.Prelude.{ℕ, Bool, true, ◌||◌, List, Option, Some, filter, map, is_none, option_map, if◌then◌else◌}
use Rattle.qe_base.specs.declared.outside.calls.Calls.{Calls}
use Rattle.qe_base.specs.declared.outside.mem_source.MemSource.{MemSource}
use Rattle.qe_base.specs.declared.outside.mem_sink.MemSink.{MemSink}
use Rattle.qe_base.specs.declared.outside.mem_host.MemHost.{MemHost}
use Rattle.qe_base.specs.declared.outside.mem_host.HostCall.{HostCall}
use Rattle.qe_base.specs.declared.outside.mem_host.HostCall.TheVariants.{Fetch}
use Rattle.qe_base.specs.Calls.{faults_of, fails_next, with_call, with_fault}
use Rattle.qe_base.specs.MemSource.{source_left}
use Rattle.qe_base.specs.MemSink.{sink_taken}
use Rattle.qe_base.specs.Marks.{turns_at}
use Rattle.qe_base.specs.Outside.{Files, Seen, Turn, file_named}

abbrev pub is_fetch : HostCall → Bool
is_fetch Fetch = true

-- the numbers of the fetches in a list of calls
abbrev pub fetches_of : List (HostCall × ℕ) → List ℕ
fetches_of calls = map (λ call. call.1) (filter (λ call. is_fetch call.0) calls)

abbrev pub host_files : MemHost → Files
host_files host = host.files

abbrev pub host_source : MemHost → MemSource
host_source host = host.source

abbrev pub host_sink : MemHost → MemSink
host_sink host = host.sink

-- the fetches so far, and those that are to fail
abbrev pub host_fetches : MemHost → Calls
host_fetches host = host.fetches

-- what each read began with, as long as it notes that
abbrev pub host_turns : MemHost → Option (List Turn)
host_turns host = option_map (turns_at host.source.bytes host.sink.taken.items) host.turns

-- the names that were asked for, as long as it notes them
abbrev pub host_asked : MemHost → Option (List (List ℕ))
host_asked host = host.asked

abbrev pub host_seen : MemHost → Seen
host_seen host = record {
  left = source_left host.source;
  taken = sink_taken host.sink;
  files = Some host.files;
  turns = host_turns host;
  asked = host_asked host;
  reads = faults_of host.source.reads;
  writes = faults_of host.sink.writes;
  fetches = faults_of host.fetches;
}

-- the next fetch is to fail, or there is no file of this name
abbrev pub refuses : MemHost → List ℕ → Bool
refuses host name = fails_next host.fetches || is_none (file_named name host.files)

-- one fetch more, and one fault more where it was refused
abbrev pub after_fetch : MemHost → List ℕ → Calls
after_fetch host name = if refuses host name then with_fault (with_call host.fetches) else with_call host.fetches
