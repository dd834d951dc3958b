-- Steps from model to model, by the model that they lead from.
use Rattle.std.specs.Prelude.{◌≡◌, Bool, List, ◌++◌, bytes_eq}
use Rattle.std.specs.Borrow.{Bor}
use Rattle.psl_rules.specs.Parts.{Spelling}
use Rattle.psl_rules.specs.Updates.{Step}

-- the step leads from the model of this name
abbrev pub leads_from : Spelling → Step → Bool
leads_from model step = bytes_eq step.from model

-- the other list begins with the one
abbrev pub Begins : List (Bor Spelling) → List (Bor Spelling) → Type 0
Begins one other = (more : List (Bor Spelling)) × (other ≡ one ++ more)
