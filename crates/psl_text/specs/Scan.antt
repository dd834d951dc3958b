-- What stands at the front of a text, and how long it is. Past its end a text reads as 0.
use Rattle.std.specs.Prelude.{◌≡◌, ◌<◌, ◌≤◌, ℕ, ◌+◌, ◌-◌, length, Bool, true, false, not, ◌||◌, if◌then◌else◌, ◌==◌, nat_lt, List, [], ◌∷◌, drop, slice_index}
use Rattle.std.specs.Char.{is_ascii_digit, is_ascii_alphabetic, is_ascii_alphanumeric}
use Rattle.std.specs.List.{prefix_len, suffix_len}
use Rattle.psl_text.specs.declared.token.Kind.{Kind}
use Rattle.psl_text.specs.declared.token.Kind.TheVariants as kind

-- ---- classes of bytes

-- space, tab and carriage return
abbrev pub is_blank : ℕ → Bool
is_blank b = b == 32 || b == 9 || b == 13

-- what a name goes on with: letters, digits and the low line
abbrev pub is_word : ℕ → Bool
is_word b = is_ascii_alphanumeric b || b == 95

abbrev pub is_digit : ℕ → Bool
is_digit = is_ascii_digit

abbrev pub is_in_line : ℕ → Bool
is_in_line b = not (b == 10)

-- what may stand behind a backslash: a quote, a backslash, n, r and t
abbrev pub is_escape : ℕ → Bool
is_escape b = b == 34 || b == 92 || b == 110 || b == 114 || b == 116

-- how many bytes at the front pass a test, and how many at the end
abbrev pub run : (ℕ → Bool) → List ℕ → ℕ
run = prefix_len

abbrev pub last_run : (ℕ → Bool) → List ℕ → ℕ
last_run = suffix_len

abbrev pub behind : ℕ → List ℕ → List ℕ
behind = drop

-- ---- what stands at the front: its kind, and its length or how far behind the front its fault is

-- a character that no string has: a newline leaves the string open, from its quote on
abbrev pub broken : ℕ → ℕ → Kind × ℕ
broken b at = if b == 10 then (kind.Unclosed, 0) else (kind.BadCharacter, at)

-- a string, of which so many bytes were passed, the last of them a backslash or not
unfoldable pub quoted : Bool → ℕ → List ℕ → Kind × ℕ
quoted is_escaped at [] = (kind.Unclosed, 0)
quoted true at (b ∷ z) = if is_escape b then quoted false (at + 1) z else broken b at
quoted false at (b ∷ z) =
    if b == 34 then (kind.Text, at + 1) else (if b == 92 then quoted true (at + 1) z else (if nat_lt b 32 then broken b at else quoted false (at + 1) z))

abbrev pub minus : List ℕ → Kind × ℕ
minus z = if is_digit (slice_index z 1) then (kind.Number, 1 + run is_digit (drop 1 z)) else (kind.BadCharacter, 0)

abbrev pub slash : List ℕ → Kind × ℕ
slash z = if slice_index z 1 == 47 then (kind.Comment, run is_in_line z) else (kind.BadCharacter, 0)

abbrev pub at_sign : List ℕ → Kind × ℕ
at_sign z = if slice_index z 1 == 64 then (kind.AtAt, 2) else (kind.At, 1)

-- the signs { } ( ) [ ] , : = ? . @ and the newline
unfoldable pub sign : ℕ → Kind × ℕ
sign b =
    if b == 123 then (kind.OpenBrace, 1) else (if b == 125 then (kind.CloseBrace, 1) else (if b == 40 then (kind.OpenParen, 1) else (if b == 41 then (kind.CloseParen, 1)
    else (if b == 91 then (kind.OpenBracket, 1) else (if b == 93 then (kind.CloseBracket, 1) else (if b == 44 then (kind.Comma, 1) else (if b == 58 then (kind.Colon, 1)
    else (if b == 61 then (kind.Equals, 1) else (if b == 63 then (kind.Question, 1) else (if b == 46 then (kind.Dot, 1) else (if b == 64 then (kind.At, 1)
    else (if b == 10 then (kind.Newline, 1) else (kind.BadCharacter, 0)))))))))))))

unfoldable pub front : List ℕ → Kind × ℕ
front z =
    let b = slice_index z 0 in
    if is_blank b then (kind.Blank, run is_blank z) else (if is_ascii_alphabetic b then (kind.Name, run is_word z) else (if is_digit b then (kind.Number, run is_digit z)
    else (if b == 45 then minus z else (if b == 47 then slash z else (if b == 34 then quoted false 1 (drop 1 z) else (if b == 64 then at_sign z else sign b))))))

-- ---- how far it goes

-- no token but a fault
abbrev pub is_fault : Kind → Bool
is_fault kind.BadCharacter = true
is_fault kind.Unclosed = true
is_fault _ = false

-- what has a text of its own
abbrev pub has_text : Kind → Bool
has_text kind.Name = true
has_text kind.Number = true
has_text kind.Text = true
has_text _ = false

-- It lies within the text and is not empty. A name, a number and a string begin and end with an ASCII character, and
-- a comment ends at its line's end.
pub record IsSpan (z : List ℕ) (k : Kind) (n : ℕ) : Type 0 where
  pub within : n ≤ length z
  pub moves : is_fault k ≡ false → 1 ≤ n
  pub begins : has_text k ≡ true → slice_index z 0 < 128
  pub ends : has_text k ≡ true → slice_index z (n - 1) < 128
  pub quotes : k ≡ kind.Text → 2 ≤ n
  pub stops : k ≡ kind.Comment → n < length z → slice_index z n ≡ 10
