-- The tokens of a text.
use Rattle.std.specs.Prelude.{◌≡◌, ◌<◌, ◌≤◌, ℕ, zero, suc, ◌+◌, ◌-◌, Bool, true, false, not, if◌then◌else◌, ◌==◌, List, [], ◌∷◌, ◌++◌, length, take, drop, slice_get, Option, Some, None}
use Rattle.psl_text.specs.declared.token.Kind.{Kind}
use Rattle.psl_text.specs.declared.token.Kind.TheVariants as kind
use Rattle.psl_text.specs.declared.token.Token.{Token}
use Rattle.psl_text.specs.declared.lexer.Bracket.{Bracket}
use Rattle.psl_text.specs.declared.lexer.Line.{Line}
use Rattle.psl_text.specs.declared.lexer.Line.TheVariants as line
use Rattle.psl_text.specs.declared.lexer.Cursor.{Cursor}
use Rattle.psl_text.specs.Scan.{front, is_fault}
pub use Rattle.psl_text.specs.Spelling.{is_doc_comment, doc_of}
pub use Rattle.psl_text.specs.Tokens.{mark}

-- ---- brackets: those that are open, the innermost last

abbrev pub opened : Kind → ℕ → List Bracket → List Bracket
opened kind.OpenBrace at brackets = brackets ++ record { is_brace = true; at = at } ∷ []
opened kind.OpenParen at brackets = brackets ++ record { is_brace = false; at = at } ∷ []
opened kind.OpenBracket at brackets = brackets ++ record { is_brace = false; at = at } ∷ []
opened kind.CloseBrace at brackets = take (length brackets - 1) brackets
opened kind.CloseParen at brackets = take (length brackets - 1) brackets
opened kind.CloseBracket at brackets = take (length brackets - 1) brackets
opened _ at brackets = brackets

abbrev pub innermost : List Bracket → Option Bracket
innermost brackets = slice_get brackets (length brackets - 1)

abbrev pub is_inside_of : Option Bracket → Bool
is_inside_of None = false
is_inside_of (Some bracket) = not bracket.is_brace

-- in parentheses or brackets, where a newline is white space
abbrev pub is_inside : List Bracket → Bool
is_inside brackets = is_inside_of (innermost brackets)

-- ---- strings

-- what stands for itself or for a control character behind a backslash
abbrev pub escaped : ℕ → ℕ
escaped b = if b == 110 then 10 else (if b == 114 then 13 else (if b == 116 then 9 else b))

-- what a string stands for, by what stands between its quotes, behind a backslash or not
unfoldable pub unescaped : Bool → List ℕ → List ℕ
unescaped is_escaped [] = []
unescaped true (b ∷ z) = escaped b ∷ unescaped false z
unescaped false (b ∷ z) = if b == 92 then unescaped true z else b ∷ unescaped false z

-- ---- documentation

-- A comment is documentation where its line has nothing before it.
abbrev pub is_doc : Line → List ℕ → Bool
is_doc line.Fresh comment = is_doc_comment comment
is_doc line.Doc comment = false
is_doc line.Used comment = false

-- a line without documentation breaks the run of such lines
abbrev pub docs_below : Line → List (List ℕ) → List (List ℕ)
docs_below line.Fresh docs = []
docs_below line.Doc docs = docs
docs_below line.Used docs = []

abbrev pub behind_comment : ℕ → List ℕ → Cursor → Cursor
behind_comment n comment c =
    if is_doc c.line comment then record c { at = c.at + n; docs = c.docs ++ doc_of comment ∷ []; line = line.Doc } else record c { at = c.at + n; line = line.Used }

-- ---- one token

abbrev pub text_of : Kind → List ℕ → List ℕ
text_of kind.Name spelling = spelling
text_of kind.Number spelling = spelling
text_of kind.Text spelling = unescaped false (take (length spelling - 2) (drop 1 spelling))
text_of _ spelling = []

abbrev pub newline : Cursor → Option Token
newline c = if is_inside c.brackets then None else Some (mark kind.Newline c.at)

abbrev pub behind_newline : ℕ → Cursor → Cursor
behind_newline n c = record c { at = c.at + n; docs = docs_below c.line c.docs; line = line.Fresh }

abbrev pub whole_token : Kind → ℕ → List ℕ → Cursor → Token
whole_token kind n z c = record { kind = kind; at = c.at; text = text_of kind (take n z); docs = c.docs }

abbrev pub behind_token : Kind → ℕ → Cursor → Cursor
behind_token kind n c = record { at = c.at + n; brackets = opened kind c.at c.brackets; docs = []; line = line.Used }

-- the token at the front, whose kind and length are given
abbrev pub token_by : Kind → ℕ → List ℕ → Cursor → Option Token
token_by kind.Blank n z c = None
token_by kind.Comment n z c = None
token_by kind.Newline n z c = newline c
token_by kind.BadCharacter n z c = Some (mark kind.BadCharacter (c.at + n))
token_by kind.Unclosed n z c = Some (mark kind.Unclosed (c.at + n))
token_by kind n z c = Some (whole_token kind n z c)

abbrev pub cursor_by : Kind → ℕ → List ℕ → Cursor → Cursor
cursor_by kind.Blank n z c = record c { at = c.at + n }
cursor_by kind.Comment n z c = behind_comment n (take n z) c
cursor_by kind.Newline n z c = behind_newline n c
cursor_by kind.BadCharacter n z c = c
cursor_by kind.Unclosed n z c = c
cursor_by kind n z c = behind_token kind n c

unfoldable pub token_at : List ℕ → Cursor → Option Token
token_at z c = token_by (front z).0 (front z).1 z c

unfoldable pub cursor_at : List ℕ → Cursor → Cursor
cursor_at z c = cursor_by (front z).0 (front z).1 z c

-- how a step moves the cursor
pub record Moves (text : List ℕ) (old new : Cursor) : Type 0 where
  pub forth : old.at < new.at
  pub within : new.at ≤ length text
  pub by : new.at ≡ old.at + (front (drop old.at text)).1

-- ---- all tokens. The last one is the end, or the first fault.

abbrev pub end_by : Option Bracket → ℕ → Token
end_by None at = mark kind.End at
end_by (Some bracket) at = mark kind.Unclosed bracket.at

unfoldable pub end_of : Cursor → Token
end_of c = end_by (innermost c.brackets) c.at

-- a fault is the last token
abbrev pub is_last : Option Token → Bool
is_last None = false
is_last (Some token) = is_fault token.kind

abbrev pub before : Option Token → List Token → List Token
before None more = more
before (Some token) more = if is_fault token.kind then token ∷ [] else token ∷ more

-- The number counts the bytes that are left of the last token.
unfoldable pub tokens_from : ℕ → Cursor → List ℕ → List Token
tokens_from left c [] = end_of c ∷ []
tokens_from (suc left) c (b ∷ z) = tokens_from left c z
tokens_from zero c (b ∷ z) = before (token_at (b ∷ z) c) (tokens_from ((front (b ∷ z)).1 - 1) (cursor_at (b ∷ z) c) z)

abbrev pub start : Cursor
start = record { at = 0; brackets = []; docs = []; line = line.Fresh }

unfoldable pub tokens_of : List ℕ → List Token
tokens_of text = tokens_from 0 start text
