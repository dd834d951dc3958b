use Rattle.std.proofs.Common.{◌≡◌, ◌++◌, drop}
use Rattle.qe_base.specs.MemHost.{fetches_of}
use Rattle.qe_base.proofs.outside.mem_host.MemHost.fetch_numbers.Given as goal

abbrev pub invariant-loop-call : goal.invariant-loop-call
invariant-loop-call l = l.numbers ++ fetches_of (drop l.call-index l.calls) ≡ fetches_of l.calls
