use Rattle.std.proofs.Common.{◌≡◌, ◌++◌, filter}
use Rattle.std.specs.Option.{option_copied}
use Rattle.qe_view.specs.After.{is_from}
use Rattle.qe_overlay.specs.Layers.{present}
use Rattle.qe_overlay.proofs.Laying.{chosen_of}
use Rattle.qe_overlay.proofs.layer.Layer.present_from.Given as goal

-- the rows so far, and those that are left
abbrev pub invariant-loop-now : goal.invariant-loop-now
invariant-loop-now l = l.rows ++ chosen_of (is_from l.table (option_copied l.from) l.backward) l.now-iterator ≡ filter (is_from l.table (option_copied l.from) l.backward) (present l.self.entries)
