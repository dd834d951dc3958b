-- The lines of an input.
use Rattle.std.specs.Prelude.{ℕ, List, [], ◌∷◌, Bool, ◌||◌, ◌==◌, not, if◌then◌else◌, filter}
use Rattle.std.specs.List.{list_all}

-- before the first piece
abbrev pub ahead : ℕ → List (List ℕ) → List (List ℕ)
ahead byte [] = (byte ∷ []) ∷ []
ahead byte (piece ∷ pieces) = (byte ∷ piece) ∷ pieces

-- the pieces between newlines, with the one before the first and the one after the last
abbrev pub cut : List ℕ → List (List ℕ)
cut [] = [] ∷ []
cut (byte ∷ bytes) = if byte == 10 then [] ∷ cut bytes else ahead byte (cut bytes)

-- spaces, tabs and carriage returns alone
abbrev pub is_blank : List ℕ → Bool
is_blank line = list_all (λ byte. byte == 32 || byte == 9 || byte == 13) line

-- all but the last
abbrev pub all_but_last : {A : Type 0} → List A → List A
all_but_last [] = []
all_but_last (last ∷ []) = []
all_but_last (first ∷ second ∷ rest) = first ∷ all_but_last (second ∷ rest)

-- the lines that end with a newline and aren't blank
abbrev pub whole_lines_of : List ℕ → List (List ℕ)
whole_lines_of bytes = filter (λ line. not (is_blank line)) (all_but_last (cut bytes))

-- the lines that aren't blank; a last line needs no newline
abbrev pub lines_of : List ℕ → List (List ℕ)
lines_of bytes = filter (λ line. not (is_blank line)) (cut bytes)
