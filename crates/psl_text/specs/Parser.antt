-- What every rule of the grammar is made of: steps over the tokens that are left.
use Rattle.std.specs.Prelude.{◌≡◌, ◌≢◌, ℕ, zero, suc, Bool, true, false, if◌then◌else◌, List, [], ◌∷◌, ◌++◌, Result, Ok, Err}
use denote.Enum.Bare.{sameb}
use Rattle.psl_text.specs.contracts.token.Kind.{the_type}
use Rattle.psl_text.specs.declared.fault.TextFault.{TextFault}
use Rattle.psl_text.specs.declared.fault.TextFault.TheVariants as fault
use Rattle.psl_text.specs.declared.token.Kind.{Kind}
use Rattle.psl_text.specs.declared.token.Kind.TheVariants as kind
use Rattle.psl_text.specs.declared.token.Token.{Token}
use Rattle.psl_text.specs.declared.tree.Name.{Name}

-- ---- the next token. Past the last one there is the end.

unfoldable pub kind_of : List Token → Kind
kind_of [] = kind.End
kind_of (t ∷ ts) = t.kind

unfoldable pub place_of : List Token → ℕ
place_of [] = 0
place_of (t ∷ ts) = t.at

unfoldable pub text_of : List Token → List ℕ
text_of [] = []
text_of (t ∷ ts) = t.text

unfoldable pub docs_of : List Token → List (List ℕ)
docs_of [] = []
docs_of (t ∷ ts) = t.docs

unfoldable pub rest_of : List Token → List Token
rest_of [] = []
rest_of (t ∷ ts) = ts

unfoldable pub same_kind : Kind → Kind → Bool
same_kind = sameb the_type

unfoldable pub sees : Kind → List Token → Bool
sees k ts = same_kind (kind_of ts) k

-- ---- parsers

abbrev pub Outcome : Type 0 → Type 0
Outcome A = Result (A × List Token) TextFault

abbrev pub Parser : Type 0 → Type 0
Parser A = List Token → Outcome A

abbrev pub and_then : {A B : Type 0} → Outcome A → (A → Parser B) → Outcome B
and_then (Ok p) f = f p.0 p.1
and_then (Err e) f = Err e

infixl 10 ◌>>=◌
abbrev pub ◌>>=◌ : {A B : Type 0} → Parser A → (A → Parser B) → Parser B
p >>= f = λ ts. and_then (p ts) f

infixl 10 ◌>>◌
abbrev pub ◌>>◌ : {A B : Type 0} → Parser A → Parser B → Parser B
p >> q = p >>= (λ _. q)

abbrev pub pure : {A : Type 0} → A → Parser A
pure a = λ ts. Ok (a, ts)

-- why a token doesn't fit: its own fault, or that it is unexpected
abbrev pub fault_by : Kind → ℕ → TextFault
fault_by kind.BadCharacter at = fault.BadCharacter at
fault_by kind.Unclosed at = fault.Unclosed at
fault_by _ at = fault.Unexpected at

unfoldable pub refusal : List Token → TextFault
refusal ts = fault_by (kind_of ts) (place_of ts)

abbrev pub refuse : {A : Type 0} → Parser A
refuse = λ ts. Err (refusal ts)

abbrev pub peek : Parser Kind
peek = λ ts. Ok (kind_of ts, ts)

abbrev pub docs : Parser (List (List ℕ))
docs = λ ts. Ok (docs_of ts, ts)

-- takes a token of this kind, if it comes next
abbrev pub eat : Kind → Parser Bool
eat k = λ ts. if sees k ts then Ok (true, rest_of ts) else Ok (false, ts)

unfoldable pub expect : Kind → Parser (Unit {0})
expect k = λ ts. if sees k ts then Ok (tt, rest_of ts) else refuse ts

-- the text and the place of a token of this kind
unfoldable pub spelled : Kind → Parser Name
spelled k = λ ts. if sees k ts then Ok (record { text = text_of ts; at = place_of ts }, rest_of ts) else refuse ts

abbrev pub name : Parser Name
name = spelled kind.Name

-- Items with commas between them, up to the closing token. A comma may stand behind the last one.
-- The number bounds the turns, and each turn takes a token, so that their count is enough.
unfoldable pub separated : {A : Type 0} → Parser A → Kind → ℕ → List A → Parser (List A)
separated item close zero found = refuse
separated item close (suc n) found = do
  closes ← eat close
  if closes then pure found else (do
    x ← item
    goes_on ← eat kind.Comma
    if goes_on then separated item close n (found ++ x ∷ []) else expect close >> pure (found ++ x ∷ []))

-- ---- what a function that parses ensures: the parser's outcome, unless memory runs out

abbrev pub Reads : {A : Type 0} → Outcome A → Result A TextFault → List Token → Type 0
Reads outcome (Ok a) new = outcome ≡ Ok (a, new)
Reads outcome (Err e) new = e ≢ fault.Memory → outcome ≡ Err e
