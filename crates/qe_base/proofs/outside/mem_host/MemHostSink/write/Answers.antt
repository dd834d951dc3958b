-- What was noted before is in what was taken by then.
use Rattle.std.proofs.Common.{List, Option, ap}
use Rattle.qe_base.specs.Calls.{faults_of}
use Rattle.qe_base.specs.MemHost.{host_seen}
use Rattle.qe_base.specs.MemSink.{sink_taken}
use Rattle.qe_base.specs.Outside.{Seen, Turn}
use Rattle.qe_base.proofs.Marked.{turns_written, within_written}
use Rattle.qe_base.proofs.outside.mem_host.MemHostSink.write.Goals as goal

pub invariant_of-self : goal.invariant_of-self
invariant_of-self c =
    let host = c.args.self.now in record { noted = within_written host.sink.taken.items c.write.new.self.taken.items c.args.piece.now host.turns c.write.ensures.keeps host.noted }

pub returns-clause-writes : goal.returns-clause-writes
returns-clause-writes c =
    let host = c.args.self.now in
    let wrote = c.write.ensures.writes in
    let after : Option (List Turn) → Seen = λ turns. record (host_seen host) { taken = sink_taken c.write.new.self; turns = turns; writes = faults_of c.write.new.self.writes } in record {
      within = wrote.within;
      some = wrote.some;
      bytes = wrote.bytes;
      failed = wrote.failed;
      cause = wrote.cause;
      others = ap after (turns_written host.source.bytes host.sink.taken.items c.write.new.self.taken.items c.args.piece.now host.turns c.write.ensures.keeps host.noted);
    }
