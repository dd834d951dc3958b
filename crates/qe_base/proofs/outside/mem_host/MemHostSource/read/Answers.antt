-- The read is one turn more.
use Rattle.std.proofs.Common.{List, Option, subst, rules}
use Rattle.qe_base.specs.declared.outside.marks.Mark.{Mark}
use Rattle.qe_base.proofs.Marked.{IsMarked, told_of, turn_marked, within_marked}
use Rattle.qe_base.proofs.outside.mem_host.MemHostSource.read.Goals as goal

pub invariant_of-self : goal.invariant_of-self
invariant_of-self c =
    let host = c.args.self.now in
    let kept = host.sink.taken.items in
    let marked = subst (λ (marks : Option (List Mark)). IsMarked marks c.with_mark.result host.source.given (told_of host.sink.tells kept)) c.take.ensures.value c.with_mark.ensures in
    record { noted = within_marked host.turns c.with_mark.result kept host.source.given host.sink.tells marked host.noted }

pub returns-clause-reads : goal.returns-clause-reads
returns-clause-reads c =
    let host = c.args.self.now in
    let kept = host.sink.taken.items in
    let marked = subst (λ (marks : Option (List Mark)). IsMarked marks c.with_mark.result host.source.given (told_of host.sink.tells kept)) c.take.ensures.value c.with_mark.ensures in
    let read = c.read.ensures.reads in record {
      within = read.within;
      bytes = read.bytes;
      end = read.end;
      failed = read.failed;
      turn = turn_marked host.turns c.with_mark.result host.source.bytes c.read.new.self.bytes kept host.source.given host.sink.tells c.read.ensures.same marked;
      cause = read.cause;
      others = search rules;
    }
