-- What is seen of a source in memory.
use Rattle.std.specs.Prelude.{ℕ, false, List, Option, Some, None, drop}
use Rattle.qe_base.specs.declared.outside.calls.Calls.{Calls}
use Rattle.qe_base.specs.declared.outside.mem_source.MemSource.{MemSource}
use Rattle.qe_base.specs.Calls.{faults_of}
use Rattle.qe_base.specs.Causes.{Faults}
use Rattle.qe_base.specs.Outside.{Seen}

-- of calls that it has none of, none may fail
abbrev pub no_faults : Faults
no_faults = record { count = 0; may_fail = false }

-- always told
abbrev pub source_left : MemSource → Option (List ℕ)
source_left source = Some (drop source.given source.bytes)

-- the bytes that it began with
abbrev pub source_bytes : MemSource → List ℕ
source_bytes source = source.bytes

-- how many of them were given
abbrev pub source_given : MemSource → ℕ
source_given source = source.given

-- the reads so far, and those that are to fail
abbrev pub source_reads : MemSource → Calls
source_reads source = source.reads

abbrev pub source_seen : MemSource → Seen
source_seen source = record { left = source_left source; taken = None; files = None; turns = None; asked = None; reads = faults_of source.reads; writes = no_faults; fetches = no_faults }
