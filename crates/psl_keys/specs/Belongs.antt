-- The members of enums, by the names of both.
use Rattle.std.specs.Prelude.{◌≡◌, Bool, List, ◌&&◌, bytes_eq}
use Rattle.std.specs.Borrow.{Bor}
use Rattle.std.specs.List.{list_any}
use Rattle.std.specs.HashSet.{HashSet, contains}
use Rattle.psl_text.specs.declared.tree.Block.{Block}
use Rattle.psl_rules.specs.Parts.{Spelling, Member, members}

abbrev pub same_pair : (Bor Spelling × Bor Spelling) → (Bor Spelling × Bor Spelling) → Bool
same_pair one other = bytes_eq one.0.now other.0.now && bytes_eq one.1.now other.1.now

-- a member of that name is among these
abbrev pub named : Spelling → List Member → Bool
named name members = list_any (λ member. bytes_eq member.name.text name) members

-- the enum is called so, and has a member of that name
abbrev pub has_member : Spelling → Spelling → Block → Bool
has_member enum name block = bytes_eq block.name.text enum && named name (members block)

-- a set of pairs that has those which pass the test
abbrev pub HoldsPairs : {S : Type 0} → HashSet (Bor Spelling × Bor Spelling) S → (Spelling → Spelling → Bool) → Type 0
HoldsPairs pairs test = (pair : Bor Spelling × Bor Spelling) → contains same_pair pairs pair ≡ test pair.0.now pair.1.now
