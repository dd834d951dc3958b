-- Writing a piece, part by part.
use Rattle.std.proofs.Common.{ℕ, ◌<◌, List, length, true≢false, refl, sym, subst, arith}
use Rattle.std.specs.Prelude.{Result, Ok, Err, IsErr, OnErr, OnOk}
use Rattle.std.proofs.Math.Seq.{take-length}
use Rattle.qe_base.specs.Causes.{HasCause}
use Rattle.qe_base.specs.Outside.{Seen, OnlyWrote}
use Rattle.qe_base.specs.declared.outside.Failed.{Failed}
use Rattle.qe_cli.specs.Ends.{Prints}
use Rattle.qe_cli.proofs.Causes.{cause_as}
use Rattle.qe_node.specs.Port.{Appends, AppendsPart}

-- a line that was printed, or its front
pub printed : (result : Result (Unit {0}) Failed) (line : List ℕ) (before after : Seen) → OnOk result (Appends before after line) → OnErr result (AppendsPart before after line) → HasCause before.writes after.writes (IsErr result) → OnlyWrote before after → Prints line before after
printed (Ok done) line before after ok err cause others = record {
  count = length line;
  written = subst (Appends before after) (sym (take-length line)) ok;
  cause = cause_as before.writes after.writes (IsErr {T = Unit {0}} {E = Failed} (Ok done)) (length line < length line) (λ f. absurd (true≢false (sym f))) (λ less. absurd (omega (arith, less))) cause;
  others = others;
}
printed (Err failed) line before after ok err cause others = record {
  count = err.0;
  written = err.2;
  cause = cause_as before.writes after.writes (IsErr {T = Unit {0}} {E = Failed} (Err failed)) (err.0 < length line) (λ f. err.1) (λ less. refl) cause;
  others = others;
}
