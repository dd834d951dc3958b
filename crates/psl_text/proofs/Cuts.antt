-- Where a text is cut into tokens: between characters.
use Rattle.std.proofs.Common.{◌≡◌, ℕ, ◌+◌, ◌-◌, ◌<◌, ◌≤◌, true, List, length, get_or, take, drop, sym, ◌∙◌, subst, ap, refl, arith, length-drop, get_or-drop, ◌⊎◌, inl, inr}
use Rattle.std.proofs.lemmas.List.{drop-drop, drop-take, take-take, length-take-le}
use Rattle.std.proofs.lemmas.Str.{IsCharBoundary-before_ascii, IsCharBoundary-after_ascii}
use Rattle.std.specs.Str.{IsUtf8, IsCharBoundary}
use Rattle.psl_text.specs.declared.token.Kind.{Kind}
use Rattle.psl_text.specs.declared.token.Kind.TheVariants as kind
use Rattle.psl_text.specs.Scan.{IsSpan, has_text, is_fault}

-- a byte of what stands behind a place
pub byte_behind : (text : List ℕ) (at k place : ℕ) → at + k ≡ place → get_or (drop at text) k 0 < 128 → get_or text place 0 < 128
byte_behind text at k place e low = subst (λ p. get_or text p 0 < 128) e (rw (← get_or-drop at text k 0) low)

-- such a place lies in the text
pub fits : (text : List ℕ) (at n : ℕ) → 1 ≤ n → n ≤ length (drop at text) → at + n ≤ length text
fits text at n some within = omega (arith, length-drop at text)

pub cut_before : (text : List ℕ) (at : ℕ) (k : Kind) (n : ℕ) → IsSpan (drop at text) k n → has_text k ≡ true → 1 ≤ n → IsCharBoundary text at
cut_before text at k n span some moves =
    let within = fits text at n moves span.within in
    IsCharBoundary-before_ascii text at (omega arith) (byte_behind text at 0 at (omega arith) (span.begins some))

pub cut_after : (text : List ℕ) (at : ℕ) (k : Kind) (n : ℕ) → IsUtf8 text → IsSpan (drop at text) k n → has_text k ≡ true → 1 ≤ n → IsCharBoundary text (at + n)
cut_after text at k n u span some moves =
    let within = fits text at n moves span.within in
    let place : at + n - 1 + 1 ≡ at + n = omega arith in
    subst (IsCharBoundary text) place (IsCharBoundary-after_ascii text (at + n - 1) u (omega arith) (byte_behind text at (n - 1) (at + n - 1) (omega arith) (span.ends some)))

-- behind a name or a number
pub word_end : (text : List ℕ) (at : ℕ) (k : Kind) (n : ℕ) → IsUtf8 text → IsSpan (drop at text) k n → (k ≡ kind.Name) ⊎ (k ≡ kind.Number) → IsCharBoundary text (at + n)
word_end text at k n u span (inl e) = cut_after text at k n u span (ap has_text e) (span.moves (ap is_fault e))
word_end text at k n u span (inr e) = cut_after text at k n u span (ap has_text e) (span.moves (ap is_fault e))

-- behind the opening quote of a string, and before its closing quote
pub cut_behind_quote : (text : List ℕ) (at n : ℕ) → IsUtf8 text → IsSpan (drop at text) kind.Text n → IsCharBoundary text (at + 1)
cut_behind_quote text at n u span =
    let long : 2 ≤ n = span.quotes refl in
    let within : at + n ≤ length text = fits text at n (omega arith) span.within in
    IsCharBoundary-after_ascii text at u (omega arith) (byte_behind text at 0 at (omega arith) (span.begins refl))

pub cut_before_quote : (text : List ℕ) (at n : ℕ) → IsSpan (drop at text) kind.Text n → IsCharBoundary text (at + n - 1)
cut_before_quote text at n span =
    let long : 2 ≤ n = span.quotes refl in
    let within : at + n ≤ length text = fits text at n (omega arith) span.within in
    IsCharBoundary-before_ascii text (at + n - 1) (omega arith) (byte_behind text at (n - 1) (at + n - 1) (omega arith) (span.ends refl))

inner_of : (z : List ℕ) (m : ℕ) → m + 2 ≤ length z → take m (drop 1 z) ≡ take (length (take (m + 2) z) - 2) (drop 1 (take (m + 2) z))
inner_of z m within =
    let whole : length (take (m + 2) z) ≡ m + 2 = length-take-le (m + 2) z within in
    let count : length (take (m + 2) z) - 2 ≡ m = omega arith in
    let turned : m + 2 ≡ 1 + (m + 1) = omega arith in
    let rest : drop 1 (take (m + 2) z) ≡ take (m + 1) (drop 1 z) = ap (λ k. drop 1 (take k z)) turned ∙ drop-take 1 (m + 1) z in
    sym (ap (λ k. take k (drop 1 (take (m + 2) z))) count ∙ ap (take m) rest ∙ take-take m (m + 1) (drop 1 z) (omega arith))

-- what stands between the quotes
pub inner : (text : List ℕ) (at n : ℕ) → IsSpan (drop at text) kind.Text n → take (at + n - 1 - (at + 1)) (drop (at + 1) text) ≡ take (length (take n (drop at text)) - 2) (drop 1 (take n (drop at text)))
inner text at n span =
    let long : 2 ≤ n = span.quotes refl in
    let size : n ≡ n - 2 + 2 = omega arith in
    let count : at + n - 1 - (at + 1) ≡ n - 2 = omega arith in
    let within : n - 2 + 2 ≤ length (drop at text) = subst (λ k. k ≤ length (drop at text)) size span.within in
    ap (λ k. take k (drop (at + 1) text)) count ∙ ap (take (n - 2)) (sym (drop-drop 1 at text)) ∙ inner_of (drop at text) (n - 2) within
    ∙ ap (λ k. take (length (take k (drop at text)) - 2) (drop 1 (take k (drop at text)))) (sym size)

-- ---- documentation

-- what stands behind the three slashes
pub doc_content : (text : List ℕ) (at n : ℕ) → 3 ≤ n → take (at + n - (at + 3)) (drop (at + 3) text) ≡ drop 3 (take n (drop at text))
doc_content text at n long =
    let count : at + n - (at + 3) ≡ n - 3 = omega arith in
    let size : 3 + (n - 3) ≡ n = omega arith in
    ap (λ k. take k (drop (at + 3) text)) count ∙ ap (take (n - 3)) (sym (drop-drop 3 at text)) ∙ sym (drop-take 3 (n - 3) (drop at text)) ∙ ap (λ k. drop 3 (take k (drop at text))) size
