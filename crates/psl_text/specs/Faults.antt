-- Why a text has no tree: the first fault from the left, by the rules of the grammar.
use Rattle.std.specs.Prelude.{◌≡◌, ◌≢◌, ◌<◌, ◌≤◌, ℕ, List, length, Some, None}
use Rattle.std.specs.Str.{IsValidUpTo}
use Rattle.psl_text.specs.declared.fault.TextFault.{TextFault}
use Rattle.psl_text.specs.declared.fault.TextFault.TheVariants as fault
use Rattle.psl_text.specs.declared.token.Kind.TheVariants as kind
use Rattle.psl_text.specs.declared.token.Token.{Token}
use Rattle.psl_text.specs.declared.tree.Name.{Name}
use Rattle.psl_text.specs.declared.tree.Mark.{Mark}
use Rattle.psl_text.specs.declared.tree.Entry.{Entry}
use Rattle.psl_text.specs.declared.tree.Word.{Word}
use Rattle.psl_text.specs.declared.tree.Word.TheVariants as word
use Rattle.psl_text.specs.declared.tree.Block.{Block}
use Rattle.psl_text.specs.Parser.{kind_of, refusal}
use Rattle.psl_text.specs.Grammar.{max_depth, max_length, word_named}
use Rattle.psl_text.specs.Derives.{Sign, Spelled, IsMark, IsEntry, IsBlock, IsText}
use Rattle.psl_text.specs.Tokens.{HasTokens}
use Rattle.psl_text.specs.Stops.{Misses, Whole, TermStops, AttributeStops, AttributesStop}

-- ---- entries

-- behind the opening bracket of a mark
pub data MarkStops : List Token → List Token → Type 0 where
  many : {ts us vs : List Token} → Sign kind.OpenBracket ts us → Misses kind.CloseBracket us vs → MarkStops ts vs

-- where the name or the equals sign is wanted, or in the value
pub data SettingStops : List Token → List Token → Type 0 where
  name : {ts us : List Token} → Misses kind.Name ts us → SettingStops ts us
  equals : {ts us vs : List Token} → Sign kind.Name ts us → Misses kind.Equals us vs → SettingStops ts vs
  value : {ts us vs ws : List Token} → Sign kind.Name ts us → Sign kind.Equals us vs → TermStops max_depth vs ws → SettingStops ts ws

-- where the name or the type is wanted, in the mark or in the attributes
pub data FieldStops : List Token → List Token → Type 0 where
  name : {ts us : List Token} → Misses kind.Name ts us → FieldStops ts us
  type : {ts us vs : List Token} → Sign kind.Name ts us → Misses kind.Name us vs → FieldStops ts vs
  mark : {ts us vs ws : List Token} → Sign kind.Name ts us → Sign kind.Name us vs → MarkStops vs ws → FieldStops ts ws
  attributes : {ts us vs ws rest : List Token} {m : Mark} → Sign kind.Name ts us → Sign kind.Name us vs → IsMark vs m ws → AttributesStop ws rest → FieldStops ts rest

-- where the name is wanted, or in the attributes
pub data MemberStops : List Token → List Token → Type 0 where
  name : {ts us : List Token} → Misses kind.Name ts us → MemberStops ts us
  attributes : {ts us vs : List Token} → Sign kind.Name ts us → AttributesStop us vs → MemberStops ts vs

-- in an attribute of the whole block, or in what else the block has
pub data OfBlockStops (OtherStops : List Token → List Token → Type 0) : List Token → List Token → Type 0 where
  attribute : {ts us vs : List Token} → Sign kind.AtAt ts us → AttributeStops (Spelled kind.Name) (Misses kind.Name) us vs → OfBlockStops OtherStops ts vs
  other : {ts us : List Token} → kind_of ts ≢ kind.AtAt → OtherStops ts us → OfBlockStops OtherStops ts us

-- in what may stand in a block that begins with this word
unfoldable pub EntryStops : Word → List Token → List Token → Type 0
EntryStops word.Datasource = SettingStops
EntryStops word.Generator = SettingStops
EntryStops word.Model = OfBlockStops FieldStops
EntryStops word.Enum = OfBlockStops MemberStops

-- in an entry, or behind one, where neither a newline nor the closing brace stands
pub data EntriesStop (w : Word) : List Token → List Token → Type 0 where
  entry : {ts us : List Token} → kind_of ts ≢ kind.CloseBrace → kind_of ts ≢ kind.Newline → EntryStops w ts us → EntriesStop w ts us
  behind : {ts us : List Token} {e : Entry} → Whole (IsEntry w) (EntryStops w) ts e us → kind_of us ≢ kind.Newline → kind_of us ≢ kind.CloseBrace → EntriesStop w ts us
  blank : {ts us vs : List Token} → Sign kind.Newline ts us → EntriesStop w us vs → EntriesStop w ts vs
  later : {ts us vs ws : List Token} {e : Entry} → IsEntry w ts e us → Sign kind.Newline us vs → EntriesStop w vs ws → EntriesStop w ts ws

-- ---- blocks

-- where the word, the name or the opening brace is wanted, or behind the brace
pub data BlockStops : List Token → List Token → Type 0 where
  no_word : {ts us : List Token} → Misses kind.Name ts us → BlockStops ts us
  other_word : {ts us : List Token} {b : Name} → Spelled kind.Name ts b us → word_named b.text ≡ None → BlockStops ts ts
  name : {ts us vs : List Token} {b : Name} {w : Word} → Spelled kind.Name ts b us → word_named b.text ≡ Some w → Misses kind.Name us vs → BlockStops ts vs
  brace : {ts us vs ws : List Token} {b : Name} {w : Word} → Spelled kind.Name ts b us → word_named b.text ≡ Some w → Sign kind.Name us vs → Misses kind.OpenBrace vs ws → BlockStops ts ws
  entries : {ts us vs ws rest : List Token} {b : Name} {w : Word} → Spelled kind.Name ts b us → word_named b.text ≡ Some w → Sign kind.Name us vs → Sign kind.OpenBrace vs ws → EntriesStop w ws rest → BlockStops ts rest

-- in one of the blocks up to the end of the text
pub data BlocksStop : List Token → List Token → Type 0 where
  block : {ts us : List Token} → kind_of ts ≢ kind.End → kind_of ts ≢ kind.Newline → BlockStops ts us → BlocksStop ts us
  blank : {ts us vs : List Token} → Sign kind.Newline ts us → BlocksStop us vs → BlocksStop ts vs
  later : {ts us vs : List Token} {b : Block} → IsBlock ts b us → BlocksStop us vs → BlocksStop ts vs

-- ---- texts

-- It has too many bytes; or else it is UTF-8 only up to some byte; or else its tokens stop at one.
pub data HasFault (text : List ℕ) : TextFault → Type 0 where
  too_long : max_length < length text → HasFault text (fault.TooLong max_length)
  not_utf8 : {n : ℕ} → length text ≤ max_length → IsValidUpTo text n → HasFault text (fault.NotUtf8 n)
  stops : {tokens us : List Token} → IsText text → HasTokens text tokens → BlocksStop tokens us → HasFault text (refusal us)
