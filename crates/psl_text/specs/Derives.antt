-- The grammar by its rules: of some tokens the first ones derive a value, and the others are left. A rule says
-- nothing of how a text is read.
use Rattle.std.specs.Prelude.{◌≡◌, ◌≤◌, ℕ, zero, suc, List, [], ◌∷◌, ◌++◌, length, Some, None, IsUtf8}
use Rattle.psl_text.specs.declared.token.Kind.{Kind}
use Rattle.psl_text.specs.declared.token.Kind.TheVariants as kind
use Rattle.psl_text.specs.declared.token.Token.{Token}
use Rattle.psl_text.specs.declared.tree.Name.{Name}
use Rattle.psl_text.specs.declared.tree.Term.{Term}
use Rattle.psl_text.specs.declared.tree.Term.TheVariants as term
use Rattle.psl_text.specs.declared.tree.Argument.{Argument, roll-Argument}
use Rattle.psl_text.specs.declared.tree.Attribute.{Attribute}
use Rattle.psl_text.specs.declared.tree.Mark.{Mark}
use Rattle.psl_text.specs.declared.tree.Mark.TheVariants as mark
use Rattle.psl_text.specs.declared.tree.Entry.{Entry}
use Rattle.psl_text.specs.declared.tree.Entry.TheVariants as entry
use Rattle.psl_text.specs.declared.tree.Word.{Word}
use Rattle.psl_text.specs.declared.tree.Word.TheVariants as word
use Rattle.psl_text.specs.declared.tree.Block.{Block}
use Rattle.psl_text.specs.declared.tree.Tree.{Tree}
use Rattle.psl_text.specs.Tokens.{HasTokens}
use Rattle.psl_text.specs.Parser.{kind_of, docs_of}
use Rattle.psl_text.specs.Grammar.{max_depth, max_length, word_named}

-- ---- tokens

-- a token of this kind
pub data Sign (k : Kind) : List Token → List Token → Type 0 where
  sign : {t : Token} {rest : List Token} → t.kind ≡ k → Sign k (t ∷ rest) rest

-- a token of this kind with its text and its place
pub data Spelled (k : Kind) : List Token → Name → List Token → Type 0 where
  spelled : {t : Token} {rest : List Token} → t.kind ≡ k → Spelled k (t ∷ rest) (record { text = t.text; at = t.at }) rest

-- ---- terms

-- items with commas between them, and the closing token; a comma may stand behind the last item
pub data Separated {A : Type 0} (Item : List Token → A → List Token → Type 0) (close : Kind) : List Token → List A → List Token → Type 0 where
  closed : {ts rest : List Token} → Sign close ts rest → Separated Item close ts [] rest
  last : {ts us rest : List Token} {x : A} → Item ts x us → Sign close us rest → Separated Item close ts (x ∷ []) rest
  more : {ts us vs rest : List Token} {x : A} {xs : List A} → Item ts x us → Sign kind.Comma us vs → Separated Item close vs xs rest → Separated Item close ts (x ∷ xs) rest

-- a value, with a name and a colon or without
pub data IsArgument (Value : List Token → Term → List Token → Type 0) : List Token → Argument → List Token → Type 0 where
  plain : {ts rest : List Token} {v : Term} → Value ts v rest → IsArgument Value ts (roll-Argument (record { name = None; value = v })) rest
  named : {ts us vs rest : List Token} {n : Name} {v : Term} → Spelled kind.Name ts n us → Sign kind.Colon us vs → Value vs v rest → IsArgument Value ts (roll-Argument (record { name = Some n; value = v })) rest

-- a term, whose parts are values
pub data IsTermOf (Value : List Token → Term → List Token → Type 0) : List Token → Term → List Token → Type 0 where
  text : {ts rest : List Token} {n : Name} → Spelled kind.Text ts n rest → IsTermOf Value ts (term.Text n.text n.at) rest
  number : {ts rest : List Token} {n : Name} → Spelled kind.Number ts n rest → IsTermOf Value ts (term.Number n.text n.at) rest
  name : {ts rest : List Token} {n : Name} → Spelled kind.Name ts n rest → IsTermOf Value ts (term.Name n) rest
  call : {ts us vs rest : List Token} {n : Name} {given : List Argument} → Spelled kind.Name ts n us → Sign kind.OpenParen us vs → Separated (IsArgument Value) kind.CloseParen vs given rest → IsTermOf Value ts (term.Call n given) rest
  list : {ts us rest : List Token} {n : Name} {given : List Term} → Spelled kind.OpenBracket ts n us → Separated Value kind.CloseBracket us given rest → IsTermOf Value ts (term.List given n.at) rest

-- a term with at most so many levels, itself among them
unfoldable pub IsTerm : ℕ → List Token → Term → List Token → Type 0
IsTerm zero = λ ts v rest. ⊥
IsTerm (suc depth) = IsTermOf (IsTerm depth)

-- ---- attributes

-- a name, or two with a dot between them
pub data IsAttributeName : List Token → Name → List Token → Type 0 where
  plain : {ts rest : List Token} {n : Name} → Spelled kind.Name ts n rest → IsAttributeName ts n rest
  dotted : {ts us vs rest : List Token} {n m : Name} → Spelled kind.Name ts n us → Sign kind.Dot us vs → Spelled kind.Name vs m rest → IsAttributeName ts (record { text = n.text ++ 46 ∷ m.text; at = n.at }) rest

-- arguments in parentheses, or nothing
pub data MayHaveArguments : List Token → List Argument → List Token → Type 0 where
  none : {ts : List Token} → MayHaveArguments ts [] ts
  some : {ts us rest : List Token} {given : List Argument} → Sign kind.OpenParen ts us → Separated (IsArgument (IsTerm max_depth)) kind.CloseParen us given rest → MayHaveArguments ts given rest

-- a name of this form, and what arguments it has
pub data IsAttribute (Called : List Token → Name → List Token → Type 0) : List Token → Attribute → List Token → Type 0 where
  attribute : {ts us rest : List Token} {n : Name} {given : List Argument} → Called ts n us → MayHaveArguments us given rest → IsAttribute Called ts (record { name = n; arguments = given }) rest

pub data AreAttributes : List Token → List Attribute → List Token → Type 0 where
  none : {ts : List Token} → AreAttributes ts [] ts
  more : {ts us vs rest : List Token} {a : Attribute} {as' : List Attribute} → Sign kind.At ts us → IsAttribute IsAttributeName us a vs → AreAttributes vs as' rest → AreAttributes ts (a ∷ as') rest

-- ---- entries

pub data IsMark : List Token → Mark → List Token → Type 0 where
  one : {ts : List Token} → IsMark ts mark.One ts
  optional : {ts rest : List Token} → Sign kind.Question ts rest → IsMark ts mark.Optional rest
  many : {ts us rest : List Token} → Sign kind.OpenBracket ts us → Sign kind.CloseBracket us rest → IsMark ts mark.Many rest

-- what may stand in a block that begins with this word
pub data IsEntry : Word → List Token → Entry → List Token → Type 0 where
  source_setting : {ts us vs rest : List Token} {n : Name} {v : Term} → Spelled kind.Name ts n us → Sign kind.Equals us vs → IsTerm max_depth vs v rest → IsEntry word.Datasource ts (entry.Setting n v) rest
  generator_setting : {ts us vs rest : List Token} {n : Name} {v : Term} → Spelled kind.Name ts n us → Sign kind.Equals us vs → IsTerm max_depth vs v rest → IsEntry word.Generator ts (entry.Setting n v) rest
  field : {ts us vs ws rest : List Token} {n k : Name} {m : Mark} {found : List Attribute} → Spelled kind.Name ts n us → Spelled kind.Name us k vs → IsMark vs m ws → AreAttributes ws found rest
      → IsEntry word.Model ts (entry.Field n k m found (docs_of ts)) rest
  member : {ts us rest : List Token} {n : Name} {found : List Attribute} → Spelled kind.Name ts n us → AreAttributes us found rest → IsEntry word.Enum ts (entry.Member n found (docs_of ts)) rest
  of_model : {ts us rest : List Token} {a : Attribute} → Sign kind.AtAt ts us → IsAttribute (Spelled kind.Name) us a rest → IsEntry word.Model ts (entry.Block a (docs_of ts)) rest
  of_enum : {ts us rest : List Token} {a : Attribute} → Sign kind.AtAt ts us → IsAttribute (Spelled kind.Name) us a rest → IsEntry word.Enum ts (entry.Block a (docs_of ts)) rest

-- an entry ends at a newline or before the closing brace
pub data Ends : List Token → List Token → Type 0 where
  newline : {ts rest : List Token} → Sign kind.Newline ts rest → Ends ts rest
  brace : {ts us : List Token} → Sign kind.CloseBrace ts us → Ends ts ts

-- up to the closing brace
pub data AreEntries (w : Word) : List Token → List Entry → List Token → Type 0 where
  closed : {ts rest : List Token} → Sign kind.CloseBrace ts rest → AreEntries w ts [] rest
  blank : {ts us rest : List Token} {es : List Entry} → Sign kind.Newline ts us → AreEntries w us es rest → AreEntries w ts es rest
  more : {ts us vs rest : List Token} {e : Entry} {es : List Entry} → IsEntry w ts e us → Ends us vs → AreEntries w vs es rest → AreEntries w ts (e ∷ es) rest

-- ---- blocks

pub data IsBlock : List Token → Block → List Token → Type 0 where
  block : {ts us vs ws rest : List Token} {b n : Name} {w : Word} {es : List Entry} → Spelled kind.Name ts b us → word_named b.text ≡ Some w → Spelled kind.Name us n vs → Sign kind.OpenBrace vs ws → AreEntries w ws es rest
      → IsBlock ts (record { word = w; name = n; docs = docs_of ts; entries = es }) rest

-- up to the end of the text
pub data AreBlocks : List Token → List Block → List Token → Type 0 where
  done : {ts : List Token} → kind_of ts ≡ kind.End → AreBlocks ts [] ts
  blank : {ts us rest : List Token} {bs : List Block} → Sign kind.Newline ts us → AreBlocks us bs rest → AreBlocks ts bs rest
  more : {ts us rest : List Token} {b : Block} {bs : List Block} → IsBlock ts b us → AreBlocks us bs rest → AreBlocks ts (b ∷ bs) rest

-- a text that is short enough and is UTF-8
pub record IsText (text : List ℕ) : Type 0 where
  pub short : length text ≤ max_length
  pub utf8 : IsUtf8 text

-- a text whose tokens, up to the end, derive the blocks of the tree
pub record HasTree (text : List ℕ) (tree : Tree) : Type 0 where
  pub is : IsText text
  pub size : tree.length ≡ length text
  pub derived : (tokens : List Token) × (rest : List Token) × HasTokens text tokens × AreBlocks tokens tree.blocks rest
