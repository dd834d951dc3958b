-- The grammar, over the tokens of a text.
use Rattle.std.specs.Prelude.{◌≡◌, ◌≢◌, ℕ, zero, suc, if◌then◌else◌, List, [], ◌∷◌, ◌++◌, length, Option, Some, None, Result, Ok, Err, codes, nat_lt, bytes_eq}
use Rattle.std.specs.Str.Lossy.{utf8_valid_len}
use Rattle.psl_text.specs.declared.fault.TextFault.{TextFault}
use Rattle.psl_text.specs.declared.fault.TextFault.TheVariants as fault
use Rattle.psl_text.specs.declared.token.Kind.{Kind}
use Rattle.psl_text.specs.declared.token.Kind.TheVariants as kind
use Rattle.psl_text.specs.declared.tree.Name.{Name}
use Rattle.psl_text.specs.declared.tree.Term.{Term}
use Rattle.psl_text.specs.declared.tree.Term.TheVariants as term
use Rattle.psl_text.specs.declared.tree.Argument.{Argument, roll-Argument}
use Rattle.psl_text.specs.declared.tree.Attribute.{Attribute}
use Rattle.psl_text.specs.declared.tree.Mark.{Mark}
use Rattle.psl_text.specs.declared.tree.Mark.TheVariants as mark
use Rattle.psl_text.specs.declared.tree.Entry.{Entry}
use Rattle.psl_text.specs.declared.tree.Entry.TheVariants as entry
use Rattle.psl_text.specs.declared.tree.Word.{Word}
use Rattle.psl_text.specs.declared.tree.Word.TheVariants as word
use Rattle.psl_text.specs.declared.tree.Block.{Block}
use Rattle.psl_text.specs.declared.tree.Tree.{Tree}
use Rattle.psl_text.specs.Lex.{tokens_of}
use Rattle.psl_text.specs.Parser.{Outcome, Parser, ◌>>=◌, ◌>>◌, pure, refuse, refusal, kind_of, text_of, rest_of, sees, docs, peek, eat, expect, spelled, name, separated}

-- ---- terms

-- how deep terms nest
abbrev pub max_depth : ℕ
max_depth = 16

-- by the token behind a name, which is read before the name is judged: the name of an argument, or none
abbrev pub named_by : Kind → Parser (Option Name)
named_by kind.Colon = do
  named ← name
  expect kind.Colon
  pure (Some named)
named_by kind.BadCharacter = λ ts. Err (refusal (rest_of ts))
named_by kind.Unclosed = λ ts. Err (refusal (rest_of ts))
named_by _ = pure None

unfoldable pub argument_name : Parser (Option Name)
argument_name = λ ts. if sees kind.Name ts then named_by (kind_of (rest_of ts)) ts else Ok (None, ts)

-- Below, `value` is a term one level deeper.
unfoldable pub argument : Parser Term → Parser Argument
argument value = do
  named ← argument_name
  given ← value
  pure (roll-Argument (record { name = named; value = given }))

-- behind the opening parenthesis
unfoldable pub arguments : Parser Term → Parser (List Argument)
arguments value = λ ts. separated (argument value) kind.CloseParen (length ts) [] ts

-- behind the opening bracket
unfoldable pub items : Parser Term → Parser (List Term)
items value = λ ts. separated value kind.CloseBracket (length ts) [] ts

-- a name, or one with arguments
unfoldable pub named_term : Parser Term → Parser Term
named_term value = do
  called ← name
  opens ← eat kind.OpenParen
  if opens then (do given ← arguments value; pure (term.Call called given)) else pure (term.Name called)

abbrev pub term_by : Parser Term → Kind → Parser Term
term_by value kind.Text = do
  t ← spelled kind.Text
  pure (term.Text t.text t.at)
term_by value kind.Number = do
  t ← spelled kind.Number
  pure (term.Number t.text t.at)
term_by value kind.Name = named_term value
term_by value kind.OpenBracket = do
  bracket ← spelled kind.OpenBracket
  given ← items value
  pure (term.List given bracket.at)
term_by value _ = refuse

unfoldable pub level : Parser Term → Parser Term
level value = peek >>= term_by value

-- a term with at most so many levels, itself among them
unfoldable pub term_of : ℕ → Parser Term
term_of zero = refuse
term_of (suc depth) = level (term_of depth)

abbrev pub whole_term : Parser Term
whole_term = term_of max_depth

-- ---- attributes

-- a name, or two with a dot between them
unfoldable pub attribute_name : Parser Name
attribute_name = do
  first ← name
  is_dotted ← eat kind.Dot
  if is_dotted then (do second ← name; pure (record { text = first.text ++ 46 ∷ second.text; at = first.at })) else pure first

unfoldable pub arguments_if_any : Parser (List Argument)
arguments_if_any = do
  opens ← eat kind.OpenParen
  if opens then arguments whole_term else pure []

-- behind the sign @
unfoldable pub attribute : Parser Attribute
attribute = do
  called ← attribute_name
  given ← arguments_if_any
  pure (record { name = called; arguments = given })

-- behind the sign @@
unfoldable pub block_attribute : Parser Attribute
block_attribute = do
  called ← name
  given ← arguments_if_any
  pure (record { name = called; arguments = given })

unfoldable pub attributes_from : ℕ → List Attribute → Parser (List Attribute)
attributes_from zero found = pure found
attributes_from (suc n) found = do
  more ← eat kind.At
  if more then (do next ← attribute; attributes_from n (found ++ next ∷ [])) else pure found

unfoldable pub attributes : Parser (List Attribute)
attributes = λ ts. attributes_from (length ts) [] ts

-- ---- entries

unfoldable pub mark_of : Parser Mark
mark_of = do
  optional ← eat kind.Question
  if optional then pure mark.Optional else (do
    opens ← eat kind.OpenBracket
    if opens then expect kind.CloseBracket >> pure mark.Many else pure mark.One)

unfoldable pub setting : Parser Entry
setting = do
  called ← name
  expect kind.Equals
  value ← whole_term
  pure (entry.Setting called value)

unfoldable pub field : List (List ℕ) → Parser Entry
field above = do
  called ← name
  type ← name
  how_many ← mark_of
  found ← attributes
  pure (entry.Field called type how_many found above)

unfoldable pub member : List (List ℕ) → Parser Entry
member above = do
  called ← name
  found ← attributes
  pure (entry.Member called found above)

-- an attribute of the whole block, or what else the block has
unfoldable pub of_block : (List (List ℕ) → Parser Entry) → Parser Entry
of_block other = do
  above ← docs
  is_attribute ← eat kind.AtAt
  if is_attribute then (do found ← block_attribute; pure (entry.Block found above)) else other above

-- an entry of a block that begins with this word
unfoldable pub entry_of : Word → Parser Entry
entry_of word.Datasource = setting
entry_of word.Generator = setting
entry_of word.Model = of_block field
entry_of word.Enum = of_block member

-- an entry ends at a newline or before the closing brace
unfoldable pub ending : Parser (Unit {0})
ending = λ ts. if sees kind.CloseBrace ts then Ok (tt, ts) else expect kind.Newline ts

unfoldable pub entries_from : Word → ℕ → List Entry → Parser (List Entry)
entries_from w zero found = refuse
entries_from w (suc n) found = do
  closes ← eat kind.CloseBrace
  if closes then pure found else (do
    is_blank ← eat kind.Newline
    if is_blank then entries_from w n found else (do
      next ← entry_of w
      ending
      entries_from w n (found ++ next ∷ [])))

-- behind the opening brace
unfoldable pub entries : Word → Parser (List Entry)
entries w = λ ts. entries_from w (length ts) [] ts

-- ---- blocks

abbrev pub word_named : List ℕ → Option Word
word_named text =
    if bytes_eq text (codes "datasource") then Some word.Datasource else (if bytes_eq text (codes "generator") then Some word.Generator
    else (if bytes_eq text (codes "model") then Some word.Model else (if bytes_eq text (codes "enum") then Some word.Enum else None)))

abbrev pub word_by : Option Word → Parser Word
word_by None = refuse
word_by (Some w) = λ ts. Ok (w, rest_of ts)

unfoldable pub word_of : Parser Word
word_of = λ ts. if sees kind.Name ts then word_by (word_named (text_of ts)) ts else refuse ts

unfoldable pub block : Parser Block
block = do
  above ← docs
  begins ← word_of
  called ← name
  expect kind.OpenBrace
  found ← entries begins
  pure (record { word = begins; name = called; docs = above; entries = found })

unfoldable pub blocks_from : ℕ → List Block → Parser (List Block)
blocks_from zero found = λ ts. if sees kind.End ts then Ok (found, ts) else refuse ts
blocks_from (suc n) found = λ ts. if sees kind.End ts then Ok (found, ts) else (do
  is_blank ← eat kind.Newline
  if is_blank then blocks_from n found else (do next ← block; blocks_from n (found ++ next ∷ []))) ts

-- the whole text, up to its end
unfoldable pub blocks : Parser (List Block)
blocks = λ ts. blocks_from (length ts) [] ts

-- ---- the tree of a text, or its first fault

-- how many bytes a text may have
abbrev pub max_length : ℕ
max_length = 1048576

abbrev pub with_length : ℕ → Outcome (List Block) → Result Tree TextFault
with_length n (Ok p) = Ok (record { blocks = p.0; length = n })
with_length n (Err e) = Err e

unfoldable pub tree_of : List ℕ → Result Tree TextFault
tree_of text =
    if nat_lt max_length (length text) then Err (fault.TooLong max_length)
    else (if nat_lt (utf8_valid_len text) (length text) then Err (fault.NotUtf8 (utf8_valid_len text)) else with_length (length text) (blocks (tokens_of text)))

-- what a text is answered by: its tree, or its fault unless memory runs out
abbrev pub Answers : Result Tree TextFault → Result Tree TextFault → Type 0
Answers reading (Ok tree) = reading ≡ Ok tree
Answers reading (Err e) = e ≢ fault.Memory → reading ≡ Err e
