-- The schema of a text, and why a text is refused.
use Rattle.std.specs.Prelude.{◌≡◌, ℕ, List, ◌++◌, Some, codes, decimal}
use Rattle.qe_base.specs.Schemas.{Schema}
use Rattle.psl_text.specs.declared.fault.TextFault.{TextFault}
use Rattle.psl_text.specs.declared.fault.TextFault.TheVariants as fault
use Rattle.psl_text.specs.declared.tree.Tree.{Tree}
use Rattle.psl_text.specs.Derives.{HasTree}
use Rattle.psl_text.specs.Faults.{HasFault}
use Rattle.psl_rules.specs.Accepted.{first_breach, IsAccepted}
use Rattle.psl_sound.specs.SchemaOf.{schema_of}
use Rattle.qe_cli.specs.declared.End.{End}
use Rattle.qe_cli.specs.declared.End.TheVariants as end
use Rattle.qe_cli.specs.declared.refusal.Refusal.{Refusal}
use Rattle.qe_cli.specs.declared.refusal.Refusal.TheVariants as refusal

-- the text has a tree that is accepted, and the schema is its value
abbrev pub HasSchema : List ℕ → Schema → Type 0
HasSchema text schema = (tree : Tree) × HasTree text tree × IsAccepted tree × (schema ≡ schema_of tree)

-- the text has this fault, or a tree that first breaks this rule there
abbrev pub Refuses : Refusal → List ℕ → Type 0
Refuses (refusal.NotUtf8 at) text = HasFault text (fault.NotUtf8 at)
Refuses (refusal.BadCharacter at) text = HasFault text (fault.BadCharacter at)
Refuses (refusal.Unclosed at) text = HasFault text (fault.Unclosed at)
Refuses (refusal.Unexpected at) text = HasFault text (fault.Unexpected at)
Refuses (refusal.TooLong at) text = HasFault text (fault.TooLong at)
Refuses (refusal.Broken rule at) text = (tree : Tree) × HasTree text tree × (first_breach tree ≡ Some (record { rule = rule; at = at }))

-- how a command ends over a text that has this fault
abbrev pub end_at : TextFault → End
end_at (fault.NotUtf8 at) = end.Refused (refusal.NotUtf8 at)
end_at (fault.BadCharacter at) = end.Refused (refusal.BadCharacter at)
end_at (fault.Unclosed at) = end.Refused (refusal.Unclosed at)
end_at (fault.Unexpected at) = end.Refused (refusal.Unexpected at)
end_at (fault.TooLong at) = end.Refused (refusal.TooLong at)
end_at fault.Memory = end.Memory

-- how a command may end over a text without its schema: by a refusal, or for want of memory
abbrev pub Unread : End → List ℕ → Type 0
Unread end.Done text = ⊥
Unread end.Usage text = ⊥
Unread (end.Refused refusal) text = Refuses refusal text
Unread end.FetchFault text = ⊥
Unread end.ReadFault text = ⊥
Unread end.WriteFault text = ⊥
Unread end.Memory text = Unit {0}
Unread (end.ConnectorFault first last) text = ⊥
Unread end.LayoutDiffers text = ⊥
Unread end.LongInput text = ⊥

-- the line of a fault of this kind, at a place
abbrev pub line_at : List ℕ → ℕ → List ℕ
line_at kind at = codes "P1012 " ++ (kind ++ (codes " at " ++ (decimal at ++ codes "\n")))

-- the line of a broken rule, at a place
abbrev pub broken_line : ℕ → ℕ → List ℕ
broken_line rule at = codes "P1012 V" ++ (decimal rule ++ (codes " at " ++ (decimal at ++ codes "\n")))

-- the line that says why a text is refused
abbrev pub refusal_line : Refusal → List ℕ
refusal_line (refusal.NotUtf8 at) = line_at (codes "T1") at
refusal_line (refusal.BadCharacter at) = line_at (codes "T2") at
refusal_line (refusal.Unclosed at) = line_at (codes "T3") at
refusal_line (refusal.Unexpected at) = line_at (codes "T4") at
refusal_line (refusal.TooLong at) = line_at (codes "T5") at
refusal_line (refusal.Broken rule at) = broken_line rule at
