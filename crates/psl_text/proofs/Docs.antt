-- Documentation: where its text begins and ends.
use Rattle.std.proofs.Common.{◌≡◌, ℕ, ◌+◌, ◌-◌, ◌<◌, ◌≤◌, true, List, length, get_or, take, drop, sym, ◌∙◌, subst, ap, refl, arith, length-drop, get_or-drop, inl, inr, reverse}
use Rattle.std.proofs.Math.ListN.{get_or-eq_default}
use Rattle.std.proofs.lemmas.Bool.{cases_lt, eqb-true}
use Rattle.std.proofs.lemmas.Bool.Decides.{nat_tests}
use Rattle.std.proofs.lemmas.List.{take-take, length-take-le, get_or-reverse, get_or-take}
use Rattle.std.proofs.lemmas.List.Sums.{prefix_len_passes, suffix_len-le-length}
use Rattle.std.proofs.lemmas.Str.{IsCharBoundary-before_ascii, IsCharBoundary-after_ascii, IsCharBoundary-end}
use Rattle.std.specs.Str.{IsUtf8, IsCharBoundary}
use Rattle.psl_text.specs.declared.token.Kind.TheVariants as kind
use Rattle.psl_text.specs.Scan.{IsSpan, is_blank, last_run}
use Rattle.psl_text.specs.Lex.{is_doc_comment, doc_of}
use Rattle.psl_text.proofs.Cuts.{fits, byte_behind, doc_content}

-- the third byte of a comment that is documentation
third : (z : List ℕ) (n : ℕ) → n ≤ length z → is_doc_comment (take n z) ≡ true → (3 ≤ n) × (get_or z 2 0 ≡ 47)
third z n within doc =
    let byte : get_or (take n z) 2 0 ≡ 47 = eqb-true (get_or (take n z) 2 0) 47 doc in
    elim (cases_lt 2 n) [
      | inl long ↦ (omega arith, sym (get_or-take n z 2 0 long) ∙ byte)
      | inr short ↦ let few : length (take n z) ≤ 2 = omega (arith, length-take-le n z within) in let beyond : get_or (take n z) 2 0 ≡ 0 = get_or-eq_default (take n z) 0 few in absurd (omega (arith, beyond))
    ]

pub doc_long : (text : List ℕ) (at n : ℕ) → IsSpan (drop at text) kind.Comment n → is_doc_comment (take n (drop at text)) ≡ true → (3 ≤ n) × (at + n ≤ length text)
doc_long text at n span doc = let moves : 1 ≤ n = span.moves refl in ((third (drop at text) n span.within doc).0, fits text at n moves span.within)

pub doc_start : (text : List ℕ) (at n : ℕ) → IsUtf8 text → IsSpan (drop at text) kind.Comment n → is_doc_comment (take n (drop at text)) ≡ true → IsCharBoundary text (at + 3)
doc_start text at n u span doc =
    let long = doc_long text at n span doc in
    let byte : get_or (drop at text) 2 0 ≡ 47 = (third (drop at text) n span.within doc).1 in
    let place : at + 2 + 1 ≡ at + 3 = omega arith in
    subst (IsCharBoundary text) place (IsCharBoundary-after_ascii text (at + 2) u (omega arith) (byte_behind text at 2 (at + 2) (omega arith) (omega arith)))

blank_low : (b : ℕ) → is_blank b ≡ true → b < 128
blank_low b h = grind (arith, nat_tests)

-- the first of the blanks at the end
pub last_blank_low : (z : List ℕ) → 0 < last_run is_blank z → get_or z (length z - last_run is_blank z) 0 < 128
last_blank_low z some =
    let n = last_run is_blank z in
    let within : last_run is_blank z ≤ length z = suffix_len-le-length is_blank z in
    let passes = prefix_len_passes is_blank (reverse z) (last_run is_blank z - 1) 0 (omega arith) in
    let same = get_or-reverse z (last_run is_blank z - 1) 0 (omega arith) in
    let place : length z - 1 - (last_run is_blank z - 1) ≡ length z - last_run is_blank z = omega arith in
    subst (λ k. get_or z k 0 < 128) place (subst (λ b. b < 128) same (blank_low _ passes))

-- how many blanks the content ends with
abbrev blanks : List ℕ → ℕ → ℕ → ℕ
blanks text at n = last_run is_blank (take (at + n - (at + 3)) (drop (at + 3) text))

-- behind the content, or before the blanks at its end
end_of_line : (text : List ℕ) (at n : ℕ) → IsSpan (drop at text) kind.Comment n → at + n ≤ length text → IsCharBoundary text (at + n)
end_of_line text at n span within =
    elim (cases_lt (at + n) (length text)) [
      | inl more ↦
          let below : n < length (drop at text) = omega (arith, length-drop at text) in
          let newline : get_or (drop at text) n 0 ≡ 10 = span.stops refl below in
          IsCharBoundary-before_ascii text (at + n) more (byte_behind text at n (at + n) refl (omega arith))
      | inr done ↦ let same : length text ≡ at + n = omega arith in subst (IsCharBoundary text) same (IsCharBoundary-end text)
    ]

low_in_content : (z : List ℕ) (n s : ℕ) → n ≤ length z → 3 ≤ n → 0 < s → s ≤ n - 3 → get_or (drop 3 (take n z)) (n - 3 - s) 0 < 128 → get_or z (n - s) 0 < 128
low_in_content z n s within long some small low =
    let place : 3 + (n - 3 - s) ≡ n - s = omega arith in
    let read : get_or (drop 3 (take n z)) (n - 3 - s) 0 ≡ get_or z (n - s) 0 = get_or-drop 3 (take n z) (n - 3 - s) 0 ∙ ap (λ k. get_or (take n z) k 0) place ∙ get_or-take n z (n - s) 0 (omega arith) in
    subst (λ b. b < 128) read low

before_blanks : (text z : List ℕ) (at n : ℕ) → z ≡ drop 3 (take n (drop at text)) → n ≤ length (drop at text) → 3 ≤ n → at + n ≤ length text → 0 < last_run is_blank z → IsCharBoundary text (at + n - last_run is_blank z)
before_blanks text z at n e within long inside some =
    let size : length z ≡ n - 3 = ap length e ∙ length-drop 3 (take n (drop at text)) ∙ ap (λ k. k - 3) (length-take-le n (drop at text) within) in
    let small : last_run is_blank z ≤ length z = suffix_len-le-length is_blank z in
    let low : get_or z (n - 3 - last_run is_blank z) 0 < 128 = subst (λ k. get_or z (k - last_run is_blank z) 0 < 128) size (last_blank_low z some) in
    let there : get_or (drop at text) (n - last_run is_blank z) 0 < 128 = low_in_content (drop at text) n (last_run is_blank z) within long some (omega arith) (subst (λ xs. get_or xs (n - 3 - last_run is_blank z) 0 < 128) e low) in
    IsCharBoundary-before_ascii text (at + n - last_run is_blank z) (omega arith) (byte_behind text at (n - last_run is_blank z) (at + n - last_run is_blank z) (omega arith) there)

pub doc_end : (text : List ℕ) (at n : ℕ) → IsSpan (drop at text) kind.Comment n → is_doc_comment (take n (drop at text)) ≡ true → IsCharBoundary text (at + n - blanks text at n)
doc_end text at n span doc =
    let long = doc_long text at n span doc in
    elim (cases_lt 0 (blanks text at n)) [
      | inl some ↦ before_blanks text _ at n (doc_content text at n long.0) span.within long.0 long.1 some
      | inr none ↦ let same : at + n ≡ at + n - blanks text at n = omega arith in subst (IsCharBoundary text) same (end_of_line text at n span long.1)
    ]

-- the blanks lie in the content
pub doc_order : (text : List ℕ) (at n : ℕ) → IsSpan (drop at text) kind.Comment n → is_doc_comment (take n (drop at text)) ≡ true → at + 3 ≤ at + n - blanks text at n
doc_order text at n span doc =
    let long = doc_long text at n span doc in
    let content = doc_content text at n long.0 in
    let small = suffix_len-le-length is_blank (take (at + n - (at + 3)) (drop (at + 3) text)) in
    let size : length (take (at + n - (at + 3)) (drop (at + 3) text)) ≡ n - 3 = ap length content ∙ length-drop 3 (take n (drop at text)) ∙ ap (λ k. k - 3) (length-take-le n (drop at text) span.within) in
    omega arith

pub doc_text : (text : List ℕ) (at n : ℕ) → IsSpan (drop at text) kind.Comment n → is_doc_comment (take n (drop at text)) ≡ true → take (at + n - blanks text at n - (at + 3)) (drop (at + 3) text) ≡ doc_of (take n (drop at text))
doc_text text at n span doc =
    let long = doc_long text at n span doc in
    let content = doc_content text at n long.0 in
    let size : length (take (at + n - (at + 3)) (drop (at + 3) text)) ≡ n - 3 = ap length content ∙ length-drop 3 (take n (drop at text)) ∙ ap (λ k. k - 3) (length-take-le n (drop at text) span.within) in
    let small = suffix_len-le-length is_blank (take (at + n - (at + 3)) (drop (at + 3) text)) in
    let count : at + n - blanks text at n - (at + 3) ≡ length (take (at + n - (at + 3)) (drop (at + 3) text)) - blanks text at n = omega arith in
    ap (λ k. take k (drop (at + 3) text)) count
    ∙ sym (take-take (length (take (at + n - (at + 3)) (drop (at + 3) text)) - blanks text at n) (at + n - (at + 3)) (drop (at + 3) text) (omega arith))
    ∙ ap (λ z. take (length z - last_run is_blank z) z) content
