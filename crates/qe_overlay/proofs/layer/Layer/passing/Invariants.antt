use Rattle.std.proofs.Common.{◌≡◌, ◌++◌, filter}
use Rattle.qe_schema.specs.Tests.{passes}
use Rattle.qe_overlay.specs.Layers.{present}
use Rattle.qe_overlay.proofs.Laying.{chosen_of}
use Rattle.qe_overlay.proofs.layer.Layer.passing.Given as goal

-- the rows so far, and those that are left
abbrev pub invariant-loop-now : goal.invariant-loop-now
invariant-loop-now l = l.rows ++ chosen_of (passes l.tests) l.now-iterator ≡ filter (passes l.tests) (present l.self.entries)
