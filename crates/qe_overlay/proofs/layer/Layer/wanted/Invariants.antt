use Rattle.std.proofs.Common.{◌≡◌, ◌++◌, filter}
use Rattle.qe_view.specs.After.{is_wanted}
use Rattle.qe_overlay.specs.Layers.{present}
use Rattle.qe_overlay.proofs.Laying.{chosen_of}
use Rattle.qe_overlay.proofs.layer.Layer.wanted.Given as goal

-- the rows so far, and those that are left
abbrev pub invariant-loop-now : goal.invariant-loop-now
invariant-loop-now l = l.rows ++ chosen_of (is_wanted l.columns l.keys) l.now-iterator ≡ filter (is_wanted l.columns l.keys) (present l.self.entries)
