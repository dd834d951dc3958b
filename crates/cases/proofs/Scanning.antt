-- Why all rows of a table may be asked for.
use Rattle.std.proofs.Common.{◌≡◌, ℕ, [], Option, Some, None, true, refl}
use Rattle.std.specs.Prelude.{IsSomeAnd}
use Rattle.std.proofs.lemmas.Bool.{and_from}
use Rattle.qe_view.specs.Attached.{Attached, Connected, HasTable, CanScan, shapes_of}
use Rattle.qe_view.specs.Right.{has_table, can_scan}

-- a scan without tests may be asked of a table that is there
pub scans_all : (seen : Connected) (table : ℕ) → HasTable seen table → CanScan seen table []
scans_all seen table has = by_case seen.attached has
  where
    by_case : (found : Option Attached) → IsSomeAnd found (λ a. has_table (shapes_of a.layout) table ≡ true) → IsSomeAnd found (λ a. can_scan (shapes_of a.layout) table [] ≡ true)
    by_case None there = there
    by_case (Some a) there = and_from _ _ there refl
