-- The fields of keys, gathered in sets.
use Rattle.std.specs.Prelude.{◌≡◌, List}
use Rattle.std.specs.Ordering.{nat_cmp}
use Rattle.std.specs.Borrow.{Bor}
use Rattle.std.specs.declared.cmp.Ordering.{Ordering}
use Rattle.std.specs.Cmp.Lexicographic.{slice_cmp}
use Rattle.std.specs.BTreeSet.{BTreeSet, IsOrdered, contains}
use Rattle.psl_rules.specs.Parts.{Spelling}
use Rattle.qe_text.specs.Lists.{is_among}

-- the order of names
abbrev pub by_bytes : Bor Spelling → Bor Spelling → Ordering
by_bytes one other = slice_cmp nat_cmp one.now other.now

-- a set that has these names and no others
abbrev pub Gathers : BTreeSet (Bor Spelling) → List Spelling → Type 0
Gathers set names = IsOrdered by_bytes set × ((name : Bor Spelling) → contains by_bytes set name ≡ is_among name.now names)
