-- What is spelled at the front of a text is what the lexer finds there.
use Rattle.std.proofs.Common.{◌≡◌, ◌≢◌, ℕ, ◌+◌, ◌-◌, ◌<◌, ◌≤◌, ◌==◌, Bool, true, false, cond, List, [], ◌∷◌, ◌++◌, length, take, refl, ap, ◌∙◌, arith, append_assoc}
use Rattle.std.proofs.lemmas.Bool.Decides.{nat_tests}
use Rattle.std.proofs.lemmas.List.{length-append, take_at}
use Rattle.std.specs.Prelude.{nat_lt}
use Rattle.std.specs.Char.{is_ascii_alphabetic}
use Rattle.psl_text.specs.declared.token.Kind.{Kind}
use Rattle.psl_text.specs.declared.token.Kind.TheVariants as kind
use Rattle.psl_text.specs.Scan.{is_blank, is_word, is_digit, is_in_line, run, quoted, sign, front, is_fault}
use Rattle.psl_text.specs.Lex.{unescaped, text_of}
use Rattle.psl_text.specs.Spelling.{Every, IsEscape, IsContent, IsSign, Spells, BeginsWithout, EndsBefore}

-- ---- runs

pub run_none : (p : ℕ → Bool) (z : List ℕ) → BeginsWithout p z → run p z ≡ 0
run_none p z BeginsWithout.at_end = refl
run_none p z (BeginsWithout.other {b} {z = w} e) = ap (λ t. cond t (1 + run p w) 0) e

pub run_every : (p : ℕ → Bool) (s z : List ℕ) → Every p s → BeginsWithout p z → run p (s ++ z) ≡ length s
run_every p s z Every.none w = run_none p z w
run_every p s z (Every.more {b} {z = t} e es) w =
    let more : run p (t ++ z) ≡ length t = run_every p t z es w in
    ap (λ x. cond x (1 + run p (t ++ z)) 0) e ∙ omega arith

run_on : (p : ℕ → Bool) (b : ℕ) (s z : List ℕ) → Every p s → BeginsWithout p z → 1 + run p (s ++ z) ≡ length (b ∷ s)
run_on p b s z every ends = let more : run p (s ++ z) ≡ length s = run_every p s z every ends in omega arith

-- ---- strings

quoted_plain : (b at : ℕ) (z : List ℕ) → 32 ≤ b → b ≢ 34 → b ≢ 92 → quoted false at (b ∷ z) ≡ quoted false (at + 1) z
unfolding quoted
quoted_plain b at z high no_quote no_slash =
    let first : (b == 34) ≡ false = grind (arith, nat_tests) in
    let second : (b == 92) ≡ false = grind (arith, nat_tests) in
    let third : nat_lt b 32 ≡ false = grind (arith, nat_tests) in
    rw (first, second, third) refl

quoted_escape : (b c at : ℕ) (z : List ℕ) → IsEscape b c → quoted true at (b ∷ z) ≡ quoted false (at + 1) z
unfolding quoted
quoted_escape b c at z IsEscape.quote = refl
quoted_escape b c at z IsEscape.backslash = refl
quoted_escape b c at z IsEscape.newline = refl
quoted_escape b c at z IsEscape.carriage_return = refl
quoted_escape b c at z IsEscape.tab = refl

pub quoted_backslash : (at : ℕ) (z : List ℕ) → quoted false at (92 ∷ z) ≡ quoted true (at + 1) z
unfolding quoted
quoted_backslash at z = refl

pub quoted_content : (content meaning z : List ℕ) (at end : ℕ) → IsContent content meaning → end ≡ at + length content → quoted false at (content ++ z) ≡ quoted false end z
quoted_content content meaning z at end IsContent.none e = let same : at ≡ end = omega arith in ap (λ n. quoted false n z) same
quoted_content content meaning z at end (IsContent.plain {b} {z = w} high no_quote no_slash more) e =
    quoted_plain b at (w ++ z) high no_quote no_slash ∙ quoted_content w _ z (at + 1) end more (omega arith)
quoted_content content meaning z at end (IsContent.escape {b} {c} {z = w} means more) e =
    quoted_backslash at (b ∷ w ++ z) ∙ quoted_escape b c (at + 1) (w ++ z) means ∙ quoted_content w _ z (at + 1 + 1) end more (omega arith)

quoted_quote : (at : ℕ) (z : List ℕ) → quoted false at (34 ∷ z) ≡ (kind.Text, at + 1)
unfolding quoted
quoted_quote at z = refl

pub front_quote : (z : List ℕ) → front (34 ∷ z) ≡ quoted false 1 z
unfolding front
front_quote z = refl

unescaped_escape : (b c : ℕ) (z : List ℕ) → IsEscape b c → unescaped false (92 ∷ b ∷ z) ≡ c ∷ unescaped false z
unfolding unescaped
unescaped_escape b c z IsEscape.quote = refl
unescaped_escape b c z IsEscape.backslash = refl
unescaped_escape b c z IsEscape.newline = refl
unescaped_escape b c z IsEscape.carriage_return = refl
unescaped_escape b c z IsEscape.tab = refl

unescaped_content : (content meaning : List ℕ) → IsContent content meaning → unescaped false content ≡ meaning
unfolding unescaped
unescaped_content content meaning IsContent.none = refl
unescaped_content content meaning (IsContent.plain {b} {z} {meaning = m} high no_quote no_slash more) =
    let other : (b == 92) ≡ false = grind (arith, nat_tests) in
    rw other (ap (λ t. b ∷ t) (unescaped_content z m more))
unescaped_content content meaning (IsContent.escape {b} {c} {z} {meaning = m} means more) = unescaped_escape b c z means ∙ ap (λ t. c ∷ t) (unescaped_content z m more)

-- ---- what is spelled at the front

-- the lexer finds this piece at the front
pub record IsFound (k : Kind) (s t z : List ℕ) : Type 0 where
  pub found : front (s ++ z) ≡ (k, length s)
  pub text : text_of k s ≡ t
  pub some : 0 < length s
  pub no_fault : is_fault k ≡ false

found_blanks : (b : ℕ) (s z : List ℕ) → is_blank b ≡ true → Every is_blank s → BeginsWithout is_blank z → IsFound kind.Blank (b ∷ s) [] z
unfolding front
found_blanks b s z first every ends =
    let all : 1 + run is_blank (s ++ z) ≡ length (b ∷ s) = run_on is_blank b s z every ends in
    record { found = rw first (ap (λ n. (kind.Blank, n)) all); text = refl; some = omega arith; no_fault = refl }

found_name : (b : ℕ) (s z : List ℕ) → is_ascii_alphabetic b ≡ true → Every is_word s → BeginsWithout is_word z → IsFound kind.Name (b ∷ s) (b ∷ s) z
unfolding front
found_name b s z first every ends =
    let no_blank : is_blank b ≡ false = grind (arith, nat_tests) in
    let word : is_word b ≡ true = grind (arith, nat_tests) in
    let all : run is_word (b ∷ s ++ z) ≡ length (b ∷ s) = run_every is_word (b ∷ s) z (Every.more word every) ends in
    record { found = rw (no_blank, first) (ap (λ n. (kind.Name, n)) all); text = refl; some = omega arith; no_fault = refl }

found_number : (b : ℕ) (s z : List ℕ) → is_digit b ≡ true → Every is_digit s → BeginsWithout is_digit z → IsFound kind.Number (b ∷ s) (b ∷ s) z
unfolding front
found_number b s z first every ends =
    let no_blank : is_blank b ≡ false = grind (arith, nat_tests) in
    let no_letter : is_ascii_alphabetic b ≡ false = grind (arith, nat_tests) in
    let all : 1 + run is_digit (s ++ z) ≡ length (b ∷ s) = run_on is_digit b s z every ends in
    record { found = rw (no_blank, no_letter, first) (ap (λ n. (kind.Number, n)) all); text = refl; some = omega arith; no_fault = refl }

found_negative : (b : ℕ) (s z : List ℕ) → is_digit b ≡ true → Every is_digit s → BeginsWithout is_digit z → IsFound kind.Number (45 ∷ b ∷ s) (45 ∷ b ∷ s) z
unfolding front
found_negative b s z first every ends =
    let all : 1 + run is_digit (s ++ z) ≡ length (b ∷ s) = run_on is_digit b s z every ends in
    record { found = rw first (ap (λ n. (kind.Number, 1 + n)) all ∙ ap (λ n. (kind.Number, n)) (omega arith)); text = refl; some = omega arith; no_fault = refl }

found_comment : (s z : List ℕ) → Every is_in_line s → BeginsWithout is_in_line z → IsFound kind.Comment (47 ∷ 47 ∷ s) [] z
unfolding front
found_comment s z every ends =
    let all : run is_in_line (47 ∷ 47 ∷ s ++ z) ≡ length (47 ∷ 47 ∷ s) = run_every is_in_line (47 ∷ 47 ∷ s) z (Every.more refl (Every.more refl every)) ends in
    record { found = ap (λ n. (kind.Comment, n)) all; text = refl; some = omega arith; no_fault = refl }

found_newline : (z : List ℕ) → IsFound kind.Newline (10 ∷ []) [] z
unfolding front sign
found_newline z = record { found = refl; text = refl; some = omega arith; no_fault = refl }

found_two_at : (z : List ℕ) → IsFound kind.AtAt (64 ∷ 64 ∷ []) [] z
unfolding front
found_two_at z = record { found = refl; text = refl; some = omega arith; no_fault = refl }

found_at : (z : List ℕ) → BeginsWithout (λ b. b == 64) z → IsFound kind.At (64 ∷ []) [] z
unfolding front
found_at z BeginsWithout.at_end = record { found = refl; text = refl; some = omega arith; no_fault = refl }
found_at z (BeginsWithout.other e) = record { found = rw e refl; text = refl; some = omega arith; no_fault = refl }

found_sign : (b : ℕ) (k : Kind) (z : List ℕ) → IsSign b k → EndsBefore k z → IsFound k (b ∷ []) [] z
unfolding front sign
found_sign b k z IsSign.open_brace ends = record { found = refl; text = refl; some = omega arith; no_fault = refl }
found_sign b k z IsSign.close_brace ends = record { found = refl; text = refl; some = omega arith; no_fault = refl }
found_sign b k z IsSign.open_parenthesis ends = record { found = refl; text = refl; some = omega arith; no_fault = refl }
found_sign b k z IsSign.close_parenthesis ends = record { found = refl; text = refl; some = omega arith; no_fault = refl }
found_sign b k z IsSign.open_bracket ends = record { found = refl; text = refl; some = omega arith; no_fault = refl }
found_sign b k z IsSign.close_bracket ends = record { found = refl; text = refl; some = omega arith; no_fault = refl }
found_sign b k z IsSign.comma ends = record { found = refl; text = refl; some = omega arith; no_fault = refl }
found_sign b k z IsSign.colon ends = record { found = refl; text = refl; some = omega arith; no_fault = refl }
found_sign b k z IsSign.equals ends = record { found = refl; text = refl; some = omega arith; no_fault = refl }
found_sign b k z IsSign.question_mark ends = record { found = refl; text = refl; some = omega arith; no_fault = refl }
found_sign b k z IsSign.dot ends = record { found = refl; text = refl; some = omega arith; no_fault = refl }
found_sign b k z IsSign.at ends = found_at z ends

found_string : (content meaning z : List ℕ) → IsContent content meaning → IsFound kind.Text (34 ∷ content ++ 34 ∷ []) meaning z
found_string content meaning z c =
    let size : length (content ++ 34 ∷ []) ≡ length content + 1 = length-append content (34 ∷ []) in
    let whole : (content ++ 34 ∷ []) ++ z ≡ content ++ 34 ∷ z = append_assoc content (34 ∷ []) z in
    let count : length (34 ∷ content ++ 34 ∷ []) - 2 ≡ length content = omega arith in
    let inner : take (length (34 ∷ content ++ 34 ∷ []) - 2) (content ++ 34 ∷ []) ≡ content = ap (λ n. take n (content ++ 34 ∷ [])) count ∙ take_at content (34 ∷ []) (length content) refl in
    let end : 1 + length content + 1 ≡ length (34 ∷ content ++ 34 ∷ []) = omega arith in
    record {
      found = front_quote ((content ++ 34 ∷ []) ++ z) ∙ ap (quoted false 1) whole ∙ quoted_content content meaning (34 ∷ z) 1 (1 + length content) c refl
          ∙ quoted_quote (1 + length content) z ∙ ap (λ n. (kind.Text, n)) end;
      text = ap (unescaped false) inner ∙ unescaped_content content meaning c;
      some = omega arith;
      no_fault = refl;
    }

-- what is spelled at the front, as long as can be, is found
pub spelled_found : (k : Kind) (s t z : List ℕ) → Spells k s t → EndsBefore k z → IsFound k s t z
spelled_found k s t z (Spells.blanks {b} {z = w} first every) ends = found_blanks b w z first every ends
spelled_found k s t z (Spells.comment {z = w} every) ends = found_comment w z every ends
spelled_found k s t z Spells.newline ends = found_newline z
spelled_found k s t z (Spells.name {b} {z = w} first every) ends = found_name b w z first every ends
spelled_found k s t z (Spells.number {b} {z = w} first every) ends = found_number b w z first every ends
spelled_found k s t z (Spells.negative {b} {z = w} first every) ends = found_negative b w z first every ends
spelled_found k s t z (Spells.string {content} {meaning} c) ends = found_string content meaning z c
spelled_found k s t z (Spells.sign {b} {k = l} is) ends = found_sign b l z is ends
spelled_found k s t z Spells.two_at ends = found_two_at z
