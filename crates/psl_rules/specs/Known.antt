-- Names to look up.
use Rattle.std.specs.Prelude.{◌≡◌, Bool, List, bytes_eq}
use Rattle.std.specs.Borrow.{Bor}
use Rattle.std.specs.List.{list_any}
use Rattle.psl_rules.specs.Parts.{Spelling}

-- a set of names that has those which pass the test
abbrev pub Holds : List (Bor Spelling) → (Spelling → Bool) → Type 0
Holds keys test = (name : Spelling) → list_any (λ key. bytes_eq name key.now) keys ≡ test name
