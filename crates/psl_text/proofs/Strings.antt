-- Strings, byte by byte.
use Rattle.std.proofs.Common.{◌≡◌, ℕ, ◌+◌, ◌<◌, ◌≤◌, Bool, List, ◌∷◌, length, get_or, drop, ap, add-one, drop-cons}
use Rattle.std.proofs.Math.ListN.{drop_of_length-le}
use Rattle.psl_text.specs.declared.token.Kind.TheVariants as kind
use Rattle.psl_text.specs.Scan.{quoted}

-- the next byte of a string, and what is behind it
pub quoted_at : (z : List ℕ) (at : ℕ) (is_escaped : Bool) → at < length z → quoted is_escaped at (drop at z) ≡ quoted is_escaped at (get_or z at 0 ∷ drop (at + 1) z)
quoted_at z at is_escaped h = ap (quoted is_escaped at) (rw (add-one, drop-cons z at 0))

pub quoted_end : (z : List ℕ) (at : ℕ) (is_escaped : Bool) → length z ≤ at → quoted is_escaped at (drop at z) ≡ (kind.Unclosed, 0)
unfolding quoted
quoted_end z at is_escaped h = ap (quoted is_escaped at) (drop_of_length-le z h)
