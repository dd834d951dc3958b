-- What is seen of a sink in memory.
use Rattle.std.specs.Prelude.{◌≡◌, ◌⊎◌, ◌↔◌, ◌≤◌, ◌+◌, ℕ, List, length, ◌++◌, Option, Some, None, IfSome, IsSome, if◌then◌else◌}
use Rattle.qe_base.specs.declared.outside.calls.Calls.{Calls}
use Rattle.qe_base.specs.declared.outside.mem_sink.MemSink.{MemSink}
use Rattle.qe_base.specs.Calls.{faults_of}
use Rattle.qe_base.specs.MemSource.{no_faults}
use Rattle.qe_base.specs.Outside.{Seen}

-- told until a write went past the room
abbrev pub sink_taken : MemSink → Option (List ℕ)
sink_taken sink = if sink.tells then Some sink.taken.items else None

-- the bytes that it keeps of what was written
abbrev pub sink_kept : MemSink → List ℕ
sink_kept sink = sink.taken.items

-- it keeps what it kept, and this piece more at the most
abbrev pub KeepsOn : MemSink → MemSink → List ℕ → Type 0
KeepsOn before after piece = (sink_kept after ≡ sink_kept before) ⊎ (sink_kept after ≡ sink_kept before ++ piece)

-- how many bytes it has room for
abbrev pub sink_room : MemSink → ℕ
sink_room sink = sink.room

-- having told before, it tells after a piece of so many bytes just where there was room for them
abbrev pub TellsWithin : MemSink → MemSink → ℕ → Type 0
TellsWithin before after count = IfSome (sink_taken before) (λ taken. IsSome (sink_taken after) ↔ (length taken + count ≤ sink_room before))

-- the writes so far, and those that are to fail
abbrev pub sink_writes : MemSink → Calls
sink_writes sink = sink.writes

abbrev pub sink_seen : MemSink → Seen
sink_seen sink = record { left = None; taken = sink_taken sink; files = None; turns = None; asked = None; reads = no_faults; writes = faults_of sink.writes; fetches = no_faults }
