-- The tokens of a text. The text is cut into pieces, each as long as can be; which token a piece is depends on the
-- pieces before it. Those are always given as one meets them going back, the nearest first.
use Rattle.std.specs.Prelude.{ℕ, zero, suc, ◌+◌, Bool, true, false, ◌&&◌, if◌then◌else◌, List, [], ◌∷◌, ◌++◌, length, Option, Some, None}
use Rattle.psl_text.specs.declared.token.Kind.{Kind}
use Rattle.psl_text.specs.declared.token.Kind.TheVariants as kind
use Rattle.psl_text.specs.declared.token.Token.{Token}
use Rattle.psl_text.specs.declared.lexer.Bracket.{Bracket}
use Rattle.psl_text.specs.Spelling.{Spells, EndsBefore, Breaks, is_doc_comment, doc_of}

-- ---- pieces

-- a spelling, its kind, and the text that it has as a token
pub record Piece : Type 0 where
  pub kind : Kind
  pub spelling : List ℕ
  pub text : List ℕ

-- A text begins with these pieces, each as long as can be. Behind them the rest is left.
pub data IsCut : List ℕ → List Piece → List ℕ → Type 0 where
  none : {z : List ℕ} → IsCut z [] z
  more : {p : Piece} {ps : List Piece} {z rest : List ℕ} → Spells p.kind p.spelling p.text → EndsBefore p.kind z → IsCut z ps rest → IsCut (p.spelling ++ z) (p ∷ ps) rest

-- how long the pieces before are: the place of the next one
unfoldable pub place : List Piece → ℕ
place [] = 0
place (p ∷ before) = place before + length p.spelling

-- ---- brackets

-- Going back over a piece, when so many closing brackets were met whose opening ones are still to come: an opening bracket
-- belongs to the last of them, or else it is open. A closing bracket closes the nearest open one, whatever its form.
abbrev pub back_over : Kind → ℕ → (ℕ → Option Bracket) → ℕ → Option Bracket
back_over kind.OpenBrace at further zero = Some (record { is_brace = true; at = at })
back_over kind.OpenParen at further zero = Some (record { is_brace = false; at = at })
back_over kind.OpenBracket at further zero = Some (record { is_brace = false; at = at })
back_over kind.OpenBrace at further (suc closing) = further closing
back_over kind.OpenParen at further (suc closing) = further closing
back_over kind.OpenBracket at further (suc closing) = further closing
back_over kind.CloseBrace at further closing = further (suc closing)
back_over kind.CloseParen at further closing = further (suc closing)
back_over kind.CloseBracket at further closing = further (suc closing)
back_over _ at further closing = further closing

-- the first open bracket that one meets going back, when so many closing ones were met
unfoldable pub open_before : List Piece → ℕ → Option Bracket
open_before [] = λ closing. None
open_before (p ∷ before) = back_over p.kind (place before) (open_before before)

-- the innermost open bracket
abbrev pub innermost_open : List Piece → Option Bracket
innermost_open before = open_before before 0

-- ---- lines

-- a newline begins a line, and any other piece is on the line of those before it
abbrev pub on_line : Kind → Piece → List Piece → List Piece
on_line kind.Newline p line = []
on_line _ p line = p ∷ line

-- the pieces on the last line
unfoldable pub line_of : List Piece → List Piece
line_of [] = []
line_of (p ∷ before) = on_line p.kind p (line_of before)

-- behind a newline the line before it is one more above
abbrev pub one_above : Kind → List Piece → List (List Piece) → List (List Piece)
one_above kind.Newline line lines = line ∷ lines
one_above _ line lines = lines

-- the lines above the last one, the nearest first
unfoldable pub lines_above : List Piece → List (List Piece)
lines_above [] = []
lines_above (p ∷ before) = one_above p.kind (line_of before) (lines_above before)

-- a blank
abbrev pub is_white : Kind → Bool
is_white kind.Blank = true
is_white _ = false

-- nothing but blanks
unfoldable pub is_empty : List Piece → Bool
is_empty [] = true
is_empty (p ∷ line) = is_white p.kind && is_empty line

-- ---- documentation

-- the documentation in a comment of three slashes that stands alone on its line
abbrev pub doc_in : Kind → List ℕ → Bool → Option (List ℕ)
doc_in kind.Comment spelling true = if is_doc_comment spelling then Some (doc_of spelling) else None
doc_in _ spelling is_alone = None

-- the documentation on a line: such a comment, with nothing but blanks before it
unfoldable pub doc_on : List Piece → Option (List ℕ)
doc_on [] = None
doc_on (p ∷ line) = doc_in p.kind p.spelling (is_empty line)

-- a line without documentation ends the run of lines that have it
abbrev pub below : Option (List ℕ) → List (List ℕ) → List (List ℕ)
below None docs = []
below (Some doc) docs = docs ++ doc ∷ []

-- the documentation on the unbroken run of lines that have it, from the nearest line upwards, in the order of the text
unfoldable pub docs_on : List (List Piece) → List (List ℕ)
docs_on [] = []
docs_on (line ∷ lines) = below (doc_on line) (docs_on lines)

-- the documentation directly above what stands first on its line; what stands behind something else has none
abbrev pub docs_before : List Piece → List (List ℕ)
docs_before before = if is_empty (line_of before) then docs_on (lines_above before) else []

-- ---- tokens

-- a token without text and documentation
abbrev pub mark : Kind → ℕ → Token
mark kind at = record { kind = kind; at = at; text = []; docs = [] }

-- a newline is a token, but within parentheses and square brackets it is white space
abbrev pub newline_in : Option Bracket → ℕ → List Token
newline_in None at = mark kind.Newline at ∷ []
newline_in (Some bracket) at = if bracket.is_brace then mark kind.Newline at ∷ [] else []

-- the token that a piece is; blanks and comments are none
abbrev pub token_by : Kind → List Piece → Piece → List Token
token_by kind.Blank before p = []
token_by kind.Comment before p = []
token_by kind.Newline before p = newline_in (innermost_open before) (place before)
token_by k before p = record { kind = k; at = place before; text = p.text; docs = docs_before before } ∷ []

-- the tokens that some pieces are, behind others; then the last token, which depends on all that stands before it
unfoldable pub tokens_among : (List Piece → Token) → List Piece → List Piece → List Token
tokens_among last before [] = last before ∷ []
tokens_among last before (p ∷ ps) = token_by p.kind before p ++ tokens_among last (p ∷ before) ps

-- the end of a text, in which no bracket or this one is open
abbrev pub end_in : Option Bracket → ℕ → Token
end_in None at = mark kind.End at
end_in (Some bracket) at = mark kind.Unclosed bracket.at

-- the end behind these pieces
abbrev pub end_behind : List Piece → Token
end_behind before = end_in (innermost_open before) (place before)

-- a fault, so many bytes behind these pieces
abbrev pub fault_behind : Kind → ℕ → List Piece → Token
fault_behind k n before = mark k (place before + n)

-- A text is pieces to its end, or up to a fault, which is then the last token.
pub data HasTokens (text : List ℕ) : List Token → Type 0 where
  whole : {ps : List Piece} → IsCut text ps [] → HasTokens text (tokens_among end_behind [] ps)
  broken : {ps : List Piece} {rest : List ℕ} {k : Kind} {n : ℕ} → IsCut text ps rest → Breaks rest k n → HasTokens text (tokens_among (fault_behind k n) [] ps)
