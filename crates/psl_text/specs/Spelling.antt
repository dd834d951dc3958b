-- How the pieces of a text are spelled: tokens, blanks, comments and newlines. A text is its bytes: 34 is the quote, 92
-- the backslash, 47 the slash, 45 the minus, 64 the sign @, 10 the newline.
use Rattle.std.specs.Prelude.{◌≡◌, ◌≢◌, ◌<◌, ◌≤◌, ℕ, ◌+◌, ◌-◌, Bool, true, false, ◌==◌, List, [], ◌∷◌, ◌++◌, length, take, drop, slice_index}
use Rattle.std.specs.Char.{is_ascii_alphabetic}
use Rattle.psl_text.specs.declared.token.Kind.{Kind}
use Rattle.psl_text.specs.declared.token.Kind.TheVariants as kind
use Rattle.psl_text.specs.Scan.{is_blank, is_word, is_digit, is_in_line, last_run}

-- ---- spellings

-- each character passes the test
pub data Every (passes : ℕ → Bool) : List ℕ → Type 0 where
  none : Every passes []
  more : {b : ℕ} {z : List ℕ} → passes b ≡ true → Every passes z → Every passes (b ∷ z)

-- what may stand behind a backslash, " \ n r t, and what it stands for there
pub data IsEscape : ℕ → ℕ → Type 0 where
  quote : IsEscape 34 34
  backslash : IsEscape 92 92
  newline : IsEscape 110 10
  carriage_return : IsEscape 114 13
  tab : IsEscape 116 9

-- what stands between the quotes of a string, and what it stands for
pub data IsContent : List ℕ → List ℕ → Type 0 where
  none : IsContent [] []
  plain : {b : ℕ} {z meaning : List ℕ} → 32 ≤ b → b ≢ 34 → b ≢ 92 → IsContent z meaning → IsContent (b ∷ z) (b ∷ meaning)
  escape : {b c : ℕ} {z meaning : List ℕ} → IsEscape b c → IsContent z meaning → IsContent (92 ∷ b ∷ z) (c ∷ meaning)

-- the signs of one character: { } ( ) [ ] , : = ? . @
pub data IsSign : ℕ → Kind → Type 0 where
  open_brace : IsSign 123 kind.OpenBrace
  close_brace : IsSign 125 kind.CloseBrace
  open_parenthesis : IsSign 40 kind.OpenParen
  close_parenthesis : IsSign 41 kind.CloseParen
  open_bracket : IsSign 91 kind.OpenBracket
  close_bracket : IsSign 93 kind.CloseBracket
  comma : IsSign 44 kind.Comma
  colon : IsSign 58 kind.Colon
  equals : IsSign 61 kind.Equals
  question_mark : IsSign 63 kind.Question
  dot : IsSign 46 kind.Dot
  at : IsSign 64 kind.At

-- the spellings of each kind, and the text that each has as a token
pub data Spells : Kind → List ℕ → List ℕ → Type 0 where
  blanks : {b : ℕ} {z : List ℕ} → is_blank b ≡ true → Every is_blank z → Spells kind.Blank (b ∷ z) []
  comment : {z : List ℕ} → Every is_in_line z → Spells kind.Comment (47 ∷ 47 ∷ z) []
  newline : Spells kind.Newline (10 ∷ []) []
  name : {b : ℕ} {z : List ℕ} → is_ascii_alphabetic b ≡ true → Every is_word z → Spells kind.Name (b ∷ z) (b ∷ z)
  number : {b : ℕ} {z : List ℕ} → is_digit b ≡ true → Every is_digit z → Spells kind.Number (b ∷ z) (b ∷ z)
  negative : {b : ℕ} {z : List ℕ} → is_digit b ≡ true → Every is_digit z → Spells kind.Number (45 ∷ b ∷ z) (45 ∷ b ∷ z)
  string : {content meaning : List ℕ} → IsContent content meaning → Spells kind.Text (34 ∷ content ++ 34 ∷ []) meaning
  sign : {b : ℕ} {k : Kind} → IsSign b k → Spells k (b ∷ []) []
  two_at : Spells kind.AtAt (64 ∷ 64 ∷ []) []

-- ---- documentation

-- a comment that begins with three slashes
abbrev pub is_doc_comment : List ℕ → Bool
is_doc_comment z = slice_index z 2 == 47

-- what stands behind the three slashes, without white space at its end
abbrev pub doc_of : List ℕ → List ℕ
doc_of z = take (length (drop 3 z) - last_run is_blank (drop 3 z)) (drop 3 z)

-- ---- the longest spelling

-- the characters that a piece of this kind goes on with
abbrev pub goes_on : Kind → ℕ → Bool
goes_on kind.Blank = is_blank
goes_on kind.Comment = is_in_line
goes_on kind.Name = is_word
goes_on kind.Number = is_digit
goes_on kind.At = λ b. b == 64
goes_on _ = λ b. false

-- at the front stands no character that passes the test
pub data BeginsWithout (passes : ℕ → Bool) : List ℕ → Type 0 where
  at_end : BeginsWithout passes []
  other : {b : ℕ} {z : List ℕ} → passes b ≡ false → BeginsWithout passes (b ∷ z)

-- A piece of this kind that has this behind it could not have been longer.
abbrev pub EndsBefore : Kind → List ℕ → Type 0
EndsBefore k z = BeginsWithout (goes_on k) z

-- ---- no spelling

-- Nothing is spelled at the front of a text: why, and how far behind the front the fault is.
pub data Breaks : List ℕ → Kind → ℕ → Type 0 where
  -- the line of a string ends
  unclosed : {content meaning z : List ℕ} → IsContent content meaning → BeginsWithout is_in_line z → Breaks (34 ∷ content ++ z) kind.Unclosed 0
  -- it ends behind a backslash
  unclosed_escape : {content meaning z : List ℕ} → IsContent content meaning → BeginsWithout is_in_line z → Breaks (34 ∷ content ++ 92 ∷ z) kind.Unclosed 0
  -- a control character in a string
  control : {content meaning : List ℕ} {b : ℕ} (z : List ℕ) → IsContent content meaning → b < 32 → is_in_line b ≡ true → Breaks (34 ∷ content ++ b ∷ z) kind.BadCharacter (1 + length content)
  -- a character behind a backslash that is no escape
  bad_escape : {content meaning : List ℕ} {b : ℕ} (z : List ℕ) → IsContent content meaning → ((c : ℕ) → IsEscape b c → ⊥) → is_in_line b ≡ true
      → Breaks (34 ∷ content ++ 92 ∷ b ∷ z) kind.BadCharacter (2 + length content)
  -- a character, but the quote, with which no spelling begins here
  bad_character : {b : ℕ} {z : List ℕ} → b ≢ 34 → ((k : Kind) (spelling rest meaning : List ℕ) → b ∷ z ≡ spelling ++ rest → Spells k spelling meaning → ⊥) → Breaks (b ∷ z) kind.BadCharacter 0
