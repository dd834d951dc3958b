-- Where tokens stop fitting the grammar, by its rules: of some tokens others are left, the first of which fits no more. A
-- rule says nothing of how a text is read.
use Rattle.std.specs.Prelude.{◌≡◌, ◌≢◌, ◌≤◌, ℕ, zero, suc, false, true, List, length}
use Rattle.psl_text.specs.declared.token.Kind.{Kind}
use Rattle.psl_text.specs.declared.token.Kind.TheVariants as kind
use Rattle.psl_text.specs.declared.token.Token.{Token}
use Rattle.psl_text.specs.declared.tree.Name.{Name}
use Rattle.psl_text.specs.declared.tree.Term.{Term}
use Rattle.psl_text.specs.declared.tree.Attribute.{Attribute}
use Rattle.psl_text.specs.Scan.{is_fault}
use Rattle.psl_text.specs.Parser.{kind_of}
use Rattle.psl_text.specs.Grammar.{max_depth}
use Rattle.psl_text.specs.Derives.{Sign, Spelled, IsArgument, IsTerm, IsAttributeName, IsAttribute}

-- ---- tokens

-- where a token of this kind is wanted, and another one comes next
pub data Misses (k : Kind) : List Token → List Token → Type 0 where
  misses : {ts : List Token} → kind_of ts ≢ k → Misses k ts ts

-- an item in its full length: none is longer, and none stops
pub record Whole {A : Type 0} (Item : List Token → A → List Token → Type 0) (ItemStops : List Token → List Token → Type 0) (ts : List Token) (x : A) (us : List Token) : Type 0 where
  pub is : Item ts x us
  pub longest : (y : A) (vs : List Token) → Item ts y vs → length us ≤ length vs
  pub goes : (vs : List Token) → ItemStops ts vs → ⊥

-- ---- terms

-- in an item, or behind one, where neither a comma nor the closing token stands
pub data SeparatedStops {A : Type 0} (Item : List Token → A → List Token → Type 0) (ItemStops : List Token → List Token → Type 0) (close : Kind) : List Token → List Token → Type 0 where
  item : {ts us : List Token} → kind_of ts ≢ close → ItemStops ts us → SeparatedStops Item ItemStops close ts us
  behind : {ts us : List Token} {x : A} → Whole Item ItemStops ts x us → kind_of us ≢ kind.Comma → kind_of us ≢ close → SeparatedStops Item ItemStops close ts us
  later : {ts us vs ws : List Token} {x : A} → Item ts x us → Sign kind.Comma us vs → SeparatedStops Item ItemStops close vs ws → SeparatedStops Item ItemStops close ts ws

-- in the value of an argument, or behind a name at what is no token, which comes before the name is judged
pub data ArgumentStops (ValueStops : List Token → List Token → Type 0) : List Token → List Token → Type 0 where
  plain : {ts us : List Token} → ((n : Name) (vs : List Token) → Spelled kind.Name ts n vs → (kind_of vs ≢ kind.Colon) × (is_fault (kind_of vs) ≡ false)) → ValueStops ts us → ArgumentStops ValueStops ts us
  named : {ts us vs ws : List Token} → Sign kind.Name ts us → Sign kind.Colon us vs → ValueStops vs ws → ArgumentStops ValueStops ts ws
  no_token : {ts us : List Token} → Sign kind.Name ts us → is_fault (kind_of us) ≡ true → ArgumentStops ValueStops ts us

-- where no term begins, or within the parentheses or the brackets of one
pub data TermStopsOf (Value : List Token → Term → List Token → Type 0) (ValueStops : List Token → List Token → Type 0) : List Token → List Token → Type 0 where
  begins : {ts : List Token} → kind_of ts ≢ kind.Text → kind_of ts ≢ kind.Number → kind_of ts ≢ kind.Name → kind_of ts ≢ kind.OpenBracket → TermStopsOf Value ValueStops ts ts
  call : {ts us vs ws : List Token} → Sign kind.Name ts us → Sign kind.OpenParen us vs → SeparatedStops (IsArgument Value) (ArgumentStops ValueStops) kind.CloseParen vs ws → TermStopsOf Value ValueStops ts ws
  list : {ts us vs : List Token} → Sign kind.OpenBracket ts us → SeparatedStops Value ValueStops kind.CloseBracket us vs → TermStopsOf Value ValueStops ts vs

-- a term with at most so many levels; with none every token is too deep
unfoldable pub TermStops : ℕ → List Token → List Token → Type 0
TermStops zero = λ ts us. ts ≡ us
TermStops (suc depth) = TermStopsOf (IsTerm depth) (TermStops depth)

-- ---- attributes

-- where a name is wanted
pub data AttributeNameStops : List Token → List Token → Type 0 where
  name : {ts us : List Token} → Misses kind.Name ts us → AttributeNameStops ts us
  dotted : {ts us vs ws : List Token} → Sign kind.Name ts us → Sign kind.Dot us vs → Misses kind.Name vs ws → AttributeNameStops ts ws

-- in a name of this form, or in the arguments
pub data AttributeStops (Called : List Token → Name → List Token → Type 0) (CalledStops : List Token → List Token → Type 0) : List Token → List Token → Type 0 where
  name : {ts us : List Token} → CalledStops ts us → AttributeStops Called CalledStops ts us
  arguments : {ts us vs ws : List Token} {n : Name} → Called ts n us → Sign kind.OpenParen us vs → SeparatedStops (IsArgument (IsTerm max_depth)) (ArgumentStops (TermStops max_depth)) kind.CloseParen vs ws
      → AttributeStops Called CalledStops ts ws

-- in one of some attributes
pub data AttributesStop : List Token → List Token → Type 0 where
  here : {ts us vs : List Token} → Sign kind.At ts us → AttributeStops IsAttributeName AttributeNameStops us vs → AttributesStop ts vs
  later : {ts us vs ws : List Token} {a : Attribute} → Sign kind.At ts us → IsAttribute IsAttributeName us a vs → AttributesStop vs ws → AttributesStop ts ws
