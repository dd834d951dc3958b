-- At the front of a text stands a piece, or nothing that is spelled.
use Rattle.std.proofs.Common.{◌≡◌, ◌≢◌, ℕ, ◌+◌, ◌<◌, ◌≤◌, ◌==◌, Bool, true, false, List, [], ◌∷◌, ◌++◌, length, inl, inr, refl, sym, ap, subst, ◌∙◌, ◌⊎◌, arith, append_assoc}
use Rattle.std.proofs.lemmas.Bool.{cases_eq, cases_lt}
use Rattle.std.proofs.lemmas.Bool.Decides.{nat_tests}
use Rattle.std.specs.Prelude.{nat_lt}
use Rattle.std.specs.Char.{is_ascii_alphabetic}
use Rattle.psl_text.specs.declared.token.Kind.{Kind}
use Rattle.psl_text.specs.declared.token.Kind.TheVariants as kind
use Rattle.psl_text.specs.Scan.{is_blank, is_word, is_digit, is_in_line, is_escape, quoted, sign, front, is_fault}
use Rattle.psl_text.specs.Spelling.{Every, IsEscape, IsContent, IsSign, Spells, goes_on, BeginsWithout, EndsBefore, Breaks}
use Rattle.psl_text.proofs.Runs.{in_line_not}
use Rattle.psl_text.proofs.Spelled.{quoted_content, quoted_backslash, front_quote}

cases_bool : (b : Bool) → (b ≡ true) ⊎ (b ≡ false)
cases_bool true = inl refl
cases_bool false = inr refl

first_same : (b c : ℕ) (z w : List ℕ) → b ∷ z ≡ c ∷ w → b ≡ c
first_same b c z w e = cc

rest_same : (b c : ℕ) (z w : List ℕ) → b ∷ z ≡ c ∷ w → z ≡ w
rest_same b c z w e = cc

-- ---- runs

record IsRun (p : ℕ → Bool) (z : List ℕ) : Type 0 where
  run : List ℕ
  rest : List ℕ
  is : run ++ rest ≡ z
  every : Every p run
  ends : BeginsWithout p rest

run_of : (p : ℕ → Bool) (z : List ℕ) → IsRun p z
run_of p [] = record { run = []; rest = []; is = refl; every = Every.none; ends = BeginsWithout.at_end }
run_of p (b ∷ z) = elim (cases_bool (p b)) [
  | inl e ↦ let more = run_of p z in record { run = b ∷ more.run; rest = more.rest; is = ap (λ w. b ∷ w) more.is; every = Every.more e more.every; ends = more.ends }
  | inr e ↦ record { run = []; rest = b ∷ z; is = refl; every = Every.none; ends = BeginsWithout.other e }
]

-- a character that passes the test stands at the front, or none
begins_with : (p : ℕ → Bool) (z : List ℕ) → ((b : ℕ) × (w : List ℕ) × (z ≡ b ∷ w) × (p b ≡ true)) ⊎ BeginsWithout p z
begins_with p [] = inr BeginsWithout.at_end
begins_with p (b ∷ z) = elim (cases_bool (p b)) [
  | inl e ↦ inl (b, z, refl, e)
  | inr e ↦ inr (BeginsWithout.other e)
]

-- ---- strings

escape_or_none : (b : ℕ) → ((c : ℕ) × IsEscape b c) ⊎ ((c : ℕ) → IsEscape b c → ⊥)
escape_or_none b = elim (cases_eq b 34) [
  | inl e ↦ inl (34, subst (λ x. IsEscape x 34) (sym e) IsEscape.quote)
  | inr quote ↦ elim (cases_eq b 92) [
    | inl e ↦ inl (92, subst (λ x. IsEscape x 92) (sym e) IsEscape.backslash)
    | inr backslash ↦ elim (cases_eq b 110) [
      | inl e ↦ inl (10, subst (λ x. IsEscape x 10) (sym e) IsEscape.newline)
      | inr newline ↦ elim (cases_eq b 114) [
        | inl e ↦ inl (13, subst (λ x. IsEscape x 13) (sym e) IsEscape.carriage_return)
        | inr carriage_return ↦ elim (cases_eq b 116) [
          | inl e ↦ inl (9, subst (λ x. IsEscape x 9) (sym e) IsEscape.tab)
          | inr tab ↦ inr (λ c is. none b c quote backslash newline carriage_return tab is)
        ]
      ]
    ]
  ]
]
  where
    none : (b c : ℕ) → b ≢ 34 → b ≢ 92 → b ≢ 110 → b ≢ 114 → b ≢ 116 → IsEscape b c → ⊥
    none b c quote backslash newline carriage_return tab IsEscape.quote = quote refl
    none b c quote backslash newline carriage_return tab IsEscape.backslash = backslash refl
    none b c quote backslash newline carriage_return tab IsEscape.newline = newline refl
    none b c quote backslash newline carriage_return tab IsEscape.carriage_return = carriage_return refl
    none b c quote backslash newline carriage_return tab IsEscape.tab = tab refl

no_escape : (b : ℕ) → ((c : ℕ) → IsEscape b c → ⊥) → is_escape b ≡ false
no_escape b never =
    let quote : b ≢ 34 = λ e. never 34 (subst (λ x. IsEscape x 34) (sym e) IsEscape.quote) in
    let backslash : b ≢ 92 = λ e. never 92 (subst (λ x. IsEscape x 92) (sym e) IsEscape.backslash) in
    let newline : b ≢ 110 = λ e. never 10 (subst (λ x. IsEscape x 10) (sym e) IsEscape.newline) in
    let carriage_return : b ≢ 114 = λ e. never 13 (subst (λ x. IsEscape x 13) (sym e) IsEscape.carriage_return) in
    let tab : b ≢ 116 = λ e. never 9 (subst (λ x. IsEscape x 9) (sym e) IsEscape.tab) in
    grind (arith, nat_tests)

-- where the content of a string stops
data Stops : List ℕ → Type 0 where
  closes : {z : List ℕ} → Stops (34 ∷ z)
  line_end : {z : List ℕ} → BeginsWithout is_in_line z → Stops z
  ends_escape : {z : List ℕ} → BeginsWithout is_in_line z → Stops (92 ∷ z)
  control : {b : ℕ} {z : List ℕ} → b < 32 → is_in_line b ≡ true → Stops (b ∷ z)
  bad_escape : {b : ℕ} {z : List ℕ} → ((c : ℕ) → IsEscape b c → ⊥) → is_in_line b ≡ true → Stops (92 ∷ b ∷ z)

-- what stands behind the quote
record IsString (z : List ℕ) : Type 0 where
  content : List ℕ
  meaning : List ℕ
  rest : List ℕ
  is : content ++ rest ≡ z
  means : IsContent content meaning
  stops : Stops rest

stop_here : (z : List ℕ) → Stops z → IsString z
stop_here z stops = record { content = []; meaning = []; rest = z; is = refl; means = IsContent.none; stops = stops }

escaped_here : (b c : ℕ) (z : List ℕ) → IsEscape b c → IsString z → IsString (92 ∷ b ∷ z)
escaped_here b c z is more = record { content = 92 ∷ b ∷ more.content; meaning = c ∷ more.meaning; rest = more.rest; is = ap (λ w. 92 ∷ b ∷ w) more.is; means = IsContent.escape is more.means; stops = more.stops }

plain_here : (b : ℕ) (z : List ℕ) → 32 ≤ b → b ≢ 34 → b ≢ 92 → IsString z → IsString (b ∷ z)
plain_here b z high no_quote no_slash more = record { content = b ∷ more.content; meaning = b ∷ more.meaning; rest = more.rest; is = ap (λ w. b ∷ w) more.is; means = IsContent.plain high no_quote no_slash more.means; stops = more.stops }

-- behind a backslash
behind_slash : (b : ℕ) (z : List ℕ) → IsString z → IsString (92 ∷ b ∷ z)
behind_slash b z more = elim (escape_or_none b) [
  | inl is ↦ escaped_here b is.0 z is.1 more
  | inr never ↦ elim (cases_bool (is_in_line b)) [
    | inl inside ↦ stop_here (92 ∷ b ∷ z) (Stops.bad_escape never inside)
    | inr newline ↦ stop_here (92 ∷ b ∷ z) (Stops.ends_escape (BeginsWithout.other newline))
  ]
]

-- another character
not_slash : (b : ℕ) (z : List ℕ) → b ≢ 92 → IsString z → IsString (b ∷ z)
not_slash b z no_slash more = elim (cases_eq b 34) [
  | inl e ↦ subst (λ x. IsString (x ∷ z)) (sym e) (stop_here (34 ∷ z) Stops.closes)
  | inr no_quote ↦ elim (cases_lt b 32) [
    | inr high ↦ plain_here b z high no_quote no_slash more
    | inl low ↦ elim (cases_bool (is_in_line b)) [
      | inl inside ↦ stop_here (b ∷ z) (Stops.control low inside)
      | inr newline ↦ stop_here (b ∷ z) (Stops.line_end (BeginsWithout.other newline))
    ]
  ]
]

string_of : (z : List ℕ) → IsString z
string_of [] = stop_here [] (Stops.line_end BeginsWithout.at_end)
string_of (b ∷ []) = elim (cases_eq b 92) [
  | inl e ↦ subst (λ x. IsString (x ∷ [])) (sym e) (stop_here (92 ∷ []) (Stops.ends_escape BeginsWithout.at_end))
  | inr no_slash ↦ not_slash b [] no_slash (stop_here [] (Stops.line_end BeginsWithout.at_end))
]
string_of (b ∷ c ∷ z) = elim (cases_eq b 92) [
  | inl e ↦ subst (λ x. IsString (x ∷ c ∷ z)) (sym e) (behind_slash c z (string_of z))
  | inr no_slash ↦ not_slash b (c ∷ z) no_slash (string_of (c ∷ z))
]

-- ---- the lexer at a string that is broken

quoted_ends : (at : ℕ) (z : List ℕ) → BeginsWithout is_in_line z → quoted false at z ≡ (kind.Unclosed, 0)
unfolding quoted
quoted_ends at z BeginsWithout.at_end = refl
quoted_ends at z (BeginsWithout.other {b} {z = w} e) = let same : b ≡ 10 = in_line_not b e in rw same refl

quoted_ends_escape : (at : ℕ) (z : List ℕ) → BeginsWithout is_in_line z → quoted true at z ≡ (kind.Unclosed, 0)
unfolding quoted
quoted_ends_escape at z BeginsWithout.at_end = refl
quoted_ends_escape at z (BeginsWithout.other {b} {z = w} e) = let same : b ≡ 10 = in_line_not b e in rw same refl

quoted_control : (b at : ℕ) (z : List ℕ) → b < 32 → is_in_line b ≡ true → quoted false at (b ∷ z) ≡ (kind.BadCharacter, at)
unfolding quoted
quoted_control b at z low inside =
    let first : (b == 34) ≡ false = grind (arith, nat_tests) in
    let second : (b == 92) ≡ false = grind (arith, nat_tests) in
    let third : nat_lt b 32 ≡ true = grind (arith, nat_tests) in
    let fourth : (b == 10) ≡ false = grind (arith, nat_tests) in
    rw (first, second, third, fourth) refl

quoted_bad_escape : (b at : ℕ) (z : List ℕ) → is_escape b ≡ false → is_in_line b ≡ true → quoted true at (b ∷ z) ≡ (kind.BadCharacter, at)
unfolding quoted
quoted_bad_escape b at z never inside =
    let other : (b == 10) ≡ false = grind (arith, nat_tests) in
    rw (never, other) refl

-- ---- the front

-- a character with which nothing begins
record IsLone (b : ℕ) (z : List ℕ) : Type 0 where
  no_blank : is_blank b ≡ false
  no_letter : is_ascii_alphabetic b ≡ false
  no_digit : is_digit b ≡ false
  no_minus : b ≡ 45 → BeginsWithout is_digit z
  no_slash : b ≡ 47 → BeginsWithout (λ c. c == 47) z
  no_quote : b ≢ 34
  no_newline : b ≢ 10
  no_sign : (k : Kind) → IsSign b k → ⊥

test_clash : (t : Bool) → t ≡ true → t ≡ false → ⊥
test_clash t yes_it e = absurd (cc)

without_clash : (p : ℕ → Bool) (b : ℕ) (z w : List ℕ) → z ≡ b ∷ w → p b ≡ true → BeginsWithout p z → ⊥
without_clash p b z w e passes BeginsWithout.at_end = absurd (cc)
without_clash p b z w e passes (BeginsWithout.other {b = c} {z = v} fails) = test_clash (p b) passes (subst (λ x. p x ≡ false) (first_same c b v w e) fails)

lone_clash : (b : ℕ) (z : List ℕ) (k : Kind) (spelling rest meaning : List ℕ) → IsLone b z → b ∷ z ≡ spelling ++ rest → Spells k spelling meaning → ⊥
lone_clash b z k spelling rest meaning lone e (Spells.blanks {b = c} {z = w} first every) = test_clash (is_blank b) (subst (λ x. is_blank x ≡ true) (sym (first_same b c z (w ++ rest) e)) first) lone.no_blank
lone_clash b z k spelling rest meaning lone e (Spells.comment {z = w} every) =
    without_clash (λ c. c == 47) 47 z (w ++ rest) (rest_same b 47 z (47 ∷ w ++ rest) e) refl (lone.no_slash (first_same b 47 z (47 ∷ w ++ rest) e))
lone_clash b z k spelling rest meaning lone e Spells.newline = lone.no_newline (first_same b 10 z rest e)
lone_clash b z k spelling rest meaning lone e (Spells.name {b = c} {z = w} first every) =
    test_clash (is_ascii_alphabetic b) (subst (λ x. is_ascii_alphabetic x ≡ true) (sym (first_same b c z (w ++ rest) e)) first) lone.no_letter
lone_clash b z k spelling rest meaning lone e (Spells.number {b = c} {z = w} first every) = test_clash (is_digit b) (subst (λ x. is_digit x ≡ true) (sym (first_same b c z (w ++ rest) e)) first) lone.no_digit
lone_clash b z k spelling rest meaning lone e (Spells.negative {b = c} {z = w} first every) =
    without_clash is_digit c z (w ++ rest) (rest_same b 45 z (c ∷ w ++ rest) e) first (lone.no_minus (first_same b 45 z (c ∷ w ++ rest) e))
lone_clash b z k spelling rest meaning lone e (Spells.string {content} c) = lone.no_quote (first_same b 34 z ((content ++ 34 ∷ []) ++ rest) e)
lone_clash b z k spelling rest meaning lone e (Spells.sign {b = c} {k = l} is) = lone.no_sign l (subst (λ x. IsSign x l) (sym (first_same b c z rest e)) is)
lone_clash b z k spelling rest meaning lone e Spells.two_at = lone.no_sign kind.At (subst (λ x. IsSign x kind.At) (sym (first_same b 64 z (64 ∷ rest) e)) IsSign.at)

-- what stands at the front
data Begins : List ℕ → Type 0 where
  spelled : {k : Kind} {s t : List ℕ} (z : List ℕ) → Spells k s t → EndsBefore k z → Begins (s ++ z)
  broken_string : {z : List ℕ} {k : Kind} {n : ℕ} → Breaks (34 ∷ z) k n → Begins (34 ∷ z)
  bad_character : {b : ℕ} {z : List ℕ} → IsLone b z → front (b ∷ z) ≡ (kind.BadCharacter, 0) → Begins (b ∷ z)

begins_blank : (b : ℕ) (z : List ℕ) → is_blank b ≡ true → Begins (b ∷ z)
begins_blank b z e = let r = run_of is_blank z in subst (λ w. Begins (b ∷ w)) r.is (Begins.spelled r.rest (Spells.blanks e r.every) r.ends)

begins_name : (b : ℕ) (z : List ℕ) → is_ascii_alphabetic b ≡ true → Begins (b ∷ z)
begins_name b z e = let r = run_of is_word z in subst (λ w. Begins (b ∷ w)) r.is (Begins.spelled r.rest (Spells.name e r.every) r.ends)

begins_number : (b : ℕ) (z : List ℕ) → is_digit b ≡ true → Begins (b ∷ z)
begins_number b z e = let r = run_of is_digit z in subst (λ w. Begins (b ∷ w)) r.is (Begins.spelled r.rest (Spells.number e r.every) r.ends)

front_minus : (z : List ℕ) → BeginsWithout is_digit z → front (45 ∷ z) ≡ (kind.BadCharacter, 0)
unfolding front
front_minus z BeginsWithout.at_end = refl
front_minus z (BeginsWithout.other e) = rw e refl

front_slash : (z : List ℕ) → BeginsWithout (λ c. c == 47) z → front (47 ∷ z) ≡ (kind.BadCharacter, 0)
unfolding front
front_slash z BeginsWithout.at_end = refl
front_slash z (BeginsWithout.other e) = rw e refl

no_sign_45 : (k : Kind) → IsSign 45 k → ⊥
no_sign_45 k is = elim is [ ]

no_sign_47 : (k : Kind) → IsSign 47 k → ⊥
no_sign_47 k is = elim is [ ]

begins_minus : (z : List ℕ) → Begins (45 ∷ z)
begins_minus z = elim (begins_with is_digit z) [
  | inl has ↦ let r = run_of is_digit has.1 in
      subst (λ w. Begins (45 ∷ w)) (ap (λ w. has.0 ∷ w) r.is ∙ sym has.2) (Begins.spelled r.rest (Spells.negative has.3 r.every) r.ends)
  | inr without ↦ Begins.bad_character (record { no_blank = refl; no_letter = refl; no_digit = refl; no_minus = λ e. without; no_slash = λ e. absurd (omega arith); no_quote = omega arith; no_newline = omega arith; no_sign = no_sign_45 }) (front_minus z without)
]

begins_slash : (z : List ℕ) → Begins (47 ∷ z)
begins_slash z = elim (begins_with (λ c. c == 47) z) [
  | inl has ↦
      let r = run_of is_in_line has.1 in
      let same : has.0 ≡ 47 = grind (arith, nat_tests, has.3) in
      subst (λ w. Begins (47 ∷ w)) (ap (λ w. 47 ∷ w) r.is ∙ ap (λ x. x ∷ has.1) (sym same) ∙ sym has.2) (Begins.spelled r.rest (Spells.comment r.every) r.ends)
  | inr without ↦ Begins.bad_character (record { no_blank = refl; no_letter = refl; no_digit = refl; no_minus = λ e. absurd (omega arith); no_slash = λ e. without; no_quote = omega arith; no_newline = omega arith; no_sign = no_sign_47 }) (front_slash z without)
]

begins_at : (z : List ℕ) → Begins (64 ∷ z)
begins_at z = elim (begins_with (λ c. c == 64) z) [
  | inl has ↦
      let same : has.0 ≡ 64 = grind (arith, nat_tests, has.3) in
      subst (λ w. Begins (64 ∷ w)) (ap (λ x. x ∷ has.1) (sym same) ∙ sym has.2) (Begins.spelled has.1 Spells.two_at (nothing_goes_on has.1))
  | inr without ↦ Begins.spelled z (Spells.sign IsSign.at) without
]
  where
    nothing_goes_on : (z : List ℕ) → BeginsWithout (λ b. false) z
    nothing_goes_on [] = BeginsWithout.at_end
    nothing_goes_on (b ∷ z) = BeginsWithout.other refl

begins_string : (z : List ℕ) → Begins (34 ∷ z)
begins_string z = let found = string_of z in subst (λ w. Begins (34 ∷ w)) found.is (by_stop found.content found.meaning found.rest found.means found.stops)
  where
    nothing_goes_on : (z : List ℕ) → BeginsWithout (λ b. false) z
    nothing_goes_on [] = BeginsWithout.at_end
    nothing_goes_on (b ∷ z) = BeginsWithout.other refl

    by_stop : (content meaning rest : List ℕ) → IsContent content meaning → Stops rest → Begins (34 ∷ content ++ rest)
    by_stop content meaning rest c (Stops.closes {z}) = subst (λ w. Begins (34 ∷ w)) (append_assoc content (34 ∷ []) z) (Begins.spelled z (Spells.string c) (nothing_goes_on z))
    by_stop content meaning rest c (Stops.line_end w) = Begins.broken_string (Breaks.unclosed c w)
    by_stop content meaning rest c (Stops.ends_escape w) = Begins.broken_string (Breaks.unclosed_escape c w)
    by_stop content meaning rest c (Stops.control {b} {z} low inside) = Begins.broken_string (Breaks.control z c low inside)
    by_stop content meaning rest c (Stops.bad_escape {b} {z} never inside) = Begins.broken_string (Breaks.bad_escape z c never inside)

-- a character that is no sign and no newline
record IsNoSign (b : ℕ) : Type 0 where
  not_open_brace : b ≢ 123
  not_close_brace : b ≢ 125
  not_open_parenthesis : b ≢ 40
  not_close_parenthesis : b ≢ 41
  not_open_bracket : b ≢ 91
  not_close_bracket : b ≢ 93
  not_comma : b ≢ 44
  not_colon : b ≢ 58
  not_equals : b ≢ 61
  not_question_mark : b ≢ 63
  not_dot : b ≢ 46
  not_at : b ≢ 64
  not_newline : b ≢ 10

no_sign : (b : ℕ) (k : Kind) → IsNoSign b → IsSign b k → ⊥
no_sign b k is IsSign.open_brace = is.not_open_brace refl
no_sign b k is IsSign.close_brace = is.not_close_brace refl
no_sign b k is IsSign.open_parenthesis = is.not_open_parenthesis refl
no_sign b k is IsSign.close_parenthesis = is.not_close_parenthesis refl
no_sign b k is IsSign.open_bracket = is.not_open_bracket refl
no_sign b k is IsSign.close_bracket = is.not_close_bracket refl
no_sign b k is IsSign.comma = is.not_comma refl
no_sign b k is IsSign.colon = is.not_colon refl
no_sign b k is IsSign.equals = is.not_equals refl
no_sign b k is IsSign.question_mark = is.not_question_mark refl
no_sign b k is IsSign.dot = is.not_dot refl
no_sign b k is IsSign.at = is.not_at refl

no_test : (b n : ℕ) → b ≢ n → (b == n) ≡ false
no_test b n h = grind (arith, nat_tests)

sign_other : (b : ℕ) → IsNoSign b → sign b ≡ (kind.BadCharacter, 0)
unfolding sign
sign_other b is =
    rw (no_test b 123 is.not_open_brace, no_test b 125 is.not_close_brace, no_test b 40 is.not_open_parenthesis, no_test b 41 is.not_close_parenthesis, no_test b 91 is.not_open_bracket, no_test b 93 is.not_close_bracket, no_test b 44 is.not_comma, no_test b 58 is.not_colon, no_test b 61 is.not_equals, no_test b 63 is.not_question_mark, no_test b 46 is.not_dot, no_test b 64 is.not_at, no_test b 10 is.not_newline) refl

-- the sign that a character is, a newline or neither
data IsSignOrNone : ℕ → Type 0 where
  some : {b : ℕ} {k : Kind} → IsSign b k → IsSignOrNone b
  newline : IsSignOrNone 10
  none : {b : ℕ} → IsNoSign b → IsSignOrNone b

unless : (b n : ℕ) → IsSignOrNone n → (b ≢ n → IsSignOrNone b) → IsSignOrNone b
unless b n is otherwise = elim (cases_eq b n) [
  | inl e ↦ subst IsSignOrNone (sym e) is
  | inr other ↦ otherwise other
]

sign_found : (b : ℕ) → IsSignOrNone b
sign_found b =
    unless b 123 (IsSignOrNone.some IsSign.open_brace) (λ not_open_brace.
    unless b 125 (IsSignOrNone.some IsSign.close_brace) (λ not_close_brace.
    unless b 40 (IsSignOrNone.some IsSign.open_parenthesis) (λ not_open_parenthesis.
    unless b 41 (IsSignOrNone.some IsSign.close_parenthesis) (λ not_close_parenthesis.
    unless b 91 (IsSignOrNone.some IsSign.open_bracket) (λ not_open_bracket.
    unless b 93 (IsSignOrNone.some IsSign.close_bracket) (λ not_close_bracket.
    unless b 44 (IsSignOrNone.some IsSign.comma) (λ not_comma.
    unless b 58 (IsSignOrNone.some IsSign.colon) (λ not_colon.
    unless b 61 (IsSignOrNone.some IsSign.equals) (λ not_equals.
    unless b 63 (IsSignOrNone.some IsSign.question_mark) (λ not_question_mark.
    unless b 46 (IsSignOrNone.some IsSign.dot) (λ not_dot.
    unless b 64 (IsSignOrNone.some IsSign.at) (λ not_at.
    unless b 10 IsSignOrNone.newline (λ not_newline.
    IsSignOrNone.none (record { not_open_brace = not_open_brace; not_close_brace = not_close_brace; not_open_parenthesis = not_open_parenthesis; not_close_parenthesis = not_close_parenthesis; not_open_bracket = not_open_bracket; not_close_bracket = not_close_bracket; not_comma = not_comma; not_colon = not_colon; not_equals = not_equals; not_question_mark = not_question_mark; not_dot = not_dot; not_at = not_at; not_newline = not_newline }))))))))))))))

nothing_more : (k : Kind) → goes_on k ≡ (λ b. false) → (z : List ℕ) → EndsBefore k z
nothing_more k e [] = BeginsWithout.at_end
nothing_more k e (b ∷ z) = BeginsWithout.other (ap (λ f. f b) e)

-- a sign is as long as can be, but for @, which may be doubled
sign_alone : (b : ℕ) (k : Kind) (z : List ℕ) → IsSign b k → b ≢ 64 → EndsBefore k z
sign_alone b k z IsSign.open_brace other = nothing_more kind.OpenBrace refl z
sign_alone b k z IsSign.close_brace other = nothing_more kind.CloseBrace refl z
sign_alone b k z IsSign.open_parenthesis other = nothing_more kind.OpenParen refl z
sign_alone b k z IsSign.close_parenthesis other = nothing_more kind.CloseParen refl z
sign_alone b k z IsSign.open_bracket other = nothing_more kind.OpenBracket refl z
sign_alone b k z IsSign.close_bracket other = nothing_more kind.CloseBracket refl z
sign_alone b k z IsSign.comma other = nothing_more kind.Comma refl z
sign_alone b k z IsSign.colon other = nothing_more kind.Colon refl z
sign_alone b k z IsSign.equals other = nothing_more kind.Equals refl z
sign_alone b k z IsSign.question_mark other = nothing_more kind.Question refl z
sign_alone b k z IsSign.dot other = nothing_more kind.Dot refl z
sign_alone b k z IsSign.at other = absurd (other refl)

-- a character that is none of the others
record IsRest (b : ℕ) : Type 0 where
  no_blank : is_blank b ≡ false
  no_letter : is_ascii_alphabetic b ≡ false
  no_digit : is_digit b ≡ false
  no_minus : b ≢ 45
  no_slash : b ≢ 47
  no_quote : b ≢ 34
  no_at : b ≢ 64

front_rest : (b : ℕ) (z : List ℕ) → IsRest b → front (b ∷ z) ≡ sign b
unfolding front
front_rest b z is =
    let blank = is.no_blank in
    let letter = is.no_letter in
    let digit = is.no_digit in
    let minus : (b == 45) ≡ false = no_test b 45 is.no_minus in
    let slash : (b == 47) ≡ false = no_test b 47 is.no_slash in
    let quote : (b == 34) ≡ false = no_test b 34 is.no_quote in
    let at : (b == 64) ≡ false = no_test b 64 is.no_at in
    rw (blank, letter, digit, minus, slash, quote, at) refl

begins_sign : (b : ℕ) (z : List ℕ) → IsRest b → Begins (b ∷ z)
begins_sign b z is = by_sign b is (sign_found b)
  where
    by_sign : (b : ℕ) → IsRest b → IsSignOrNone b → Begins (b ∷ z)
    by_sign b is (IsSignOrNone.some {k} found) = Begins.spelled z (Spells.sign found) (sign_alone b k z found is.no_at)
    by_sign b is IsSignOrNone.newline = Begins.spelled z Spells.newline (nothing_more kind.Newline refl z)
    by_sign b is (IsSignOrNone.none other) = Begins.bad_character (record {
      no_blank = is.no_blank;
      no_letter = is.no_letter;
      no_digit = is.no_digit;
      no_minus = λ e. absurd (is.no_minus e);
      no_slash = λ e. absurd (is.no_slash e);
      no_quote = is.no_quote;
      no_newline = other.not_newline;
      no_sign = λ k found. no_sign b k other found;
    }) (front_rest b z is ∙ sign_other b other)

begins : (b : ℕ) (z : List ℕ) → Begins (b ∷ z)
begins b z = elim (cases_bool (is_blank b)) [
  | inl e ↦ begins_blank b z e
  | inr no_blank ↦ elim (cases_bool (is_ascii_alphabetic b)) [
    | inl e ↦ begins_name b z e
    | inr no_letter ↦ elim (cases_bool (is_digit b)) [
      | inl e ↦ begins_number b z e
      | inr no_digit ↦ elim (cases_eq b 45) [
        | inl e ↦ subst (λ x. Begins (x ∷ z)) (sym e) (begins_minus z)
        | inr no_minus ↦ elim (cases_eq b 47) [
          | inl e ↦ subst (λ x. Begins (x ∷ z)) (sym e) (begins_slash z)
          | inr no_slash ↦ elim (cases_eq b 34) [
            | inl e ↦ subst (λ x. Begins (x ∷ z)) (sym e) (begins_string z)
            | inr no_quote ↦ elim (cases_eq b 64) [
              | inl e ↦ subst (λ x. Begins (x ∷ z)) (sym e) (begins_at z)
              | inr no_at ↦ begins_sign b z (record { no_blank = no_blank; no_letter = no_letter; no_digit = no_digit; no_minus = no_minus; no_slash = no_slash; no_quote = no_quote; no_at = no_at })
            ]
          ]
        ]
      ]
    ]
  ]
]

-- a piece stands at the front, or nothing that is spelled
pub data HasFront : List ℕ → Type 0 where
  piece : {k : Kind} {s t : List ℕ} (z : List ℕ) → Spells k s t → EndsBefore k z → HasFront (s ++ z)
  breaks : {z : List ℕ} {k : Kind} {n : ℕ} → Breaks z k n → HasFront z

front_of_begin : (z : List ℕ) → Begins z → HasFront z
front_of_begin z (Begins.spelled w s e) = HasFront.piece w s e
front_of_begin z (Begins.broken_string b) = HasFront.breaks b
front_of_begin z (Begins.bad_character {b} {z = w} lone is) = HasFront.breaks (Breaks.bad_character lone.no_quote (λ k s r t e p. lone_clash b w k s r t lone e p))

pub has_front : (b : ℕ) (z : List ℕ) → HasFront (b ∷ z)
has_front b z = front_of_begin (b ∷ z) (begins b z)

-- ---- where nothing is spelled, the lexer finds that fault

nothing_begins : (b : ℕ) (z w : List ℕ) → b ≢ 34 → ((k : Kind) (spelling rest meaning : List ℕ) → b ∷ z ≡ spelling ++ rest → Spells k spelling meaning → ⊥) → w ≡ b ∷ z → Begins w → front w ≡ (kind.BadCharacter, 0)
nothing_begins b z w no_quote never e (Begins.spelled {k} {s} {t} rest spells ends) = absurd (never k s rest t (sym e) spells)
nothing_begins b z w no_quote never e (Begins.broken_string {z = v} fault) = absurd (no_quote (sym (first_same 34 b v z e)))
nothing_begins b z w no_quote never e (Begins.bad_character lone is) = is

pub breaks_found : (z : List ℕ) (k : Kind) (n : ℕ) → Breaks z k n → front z ≡ (k, n)
breaks_found z k n (Breaks.unclosed {content} {meaning} {z = w} c ends) = front_quote (content ++ w) ∙ quoted_content content meaning w 1 (1 + length content) c refl ∙ quoted_ends (1 + length content) w ends
breaks_found z k n (Breaks.unclosed_escape {content} {meaning} {z = w} c ends) =
    front_quote (content ++ 92 ∷ w) ∙ quoted_content content meaning (92 ∷ w) 1 (1 + length content) c refl ∙ quoted_backslash (1 + length content) w ∙ quoted_ends_escape (1 + length content + 1) w ends
breaks_found z k n (Breaks.control {content} {meaning} {b} w c low inside) =
    front_quote (content ++ b ∷ w) ∙ quoted_content content meaning (b ∷ w) 1 (1 + length content) c refl ∙ quoted_control b (1 + length content) w low inside
breaks_found z k n (Breaks.bad_escape {content} {meaning} {b} w c never inside) =
    front_quote (content ++ 92 ∷ b ∷ w) ∙ quoted_content content meaning (92 ∷ b ∷ w) 1 (1 + length content) c refl ∙ quoted_backslash (1 + length content) (b ∷ w)
    ∙ quoted_bad_escape b (1 + length content + 1) w (no_escape b never) inside ∙ ap (λ m. (kind.BadCharacter, m)) (omega arith)
breaks_found z k n (Breaks.bad_character {b} {z = w} no_quote never) = nothing_begins b w (b ∷ w) no_quote never refl (begins b w)

pub breaks_fault : (z : List ℕ) (k : Kind) (n : ℕ) → Breaks z k n → is_fault k ≡ true
breaks_fault z k n (Breaks.unclosed c ends) = refl
breaks_fault z k n (Breaks.unclosed_escape c ends) = refl
breaks_fault z k n (Breaks.control w c low inside) = refl
breaks_fault z k n (Breaks.bad_escape w c never inside) = refl
breaks_fault z k n (Breaks.bad_character no_quote never) = refl

pub breaks_some : (z : List ℕ) (k : Kind) (n : ℕ) → Breaks z k n → 0 < length z
breaks_some z k n (Breaks.unclosed c ends) = omega arith
breaks_some z k n (Breaks.unclosed_escape c ends) = omega arith
breaks_some z k n (Breaks.control w c low inside) = omega arith
breaks_some z k n (Breaks.bad_escape w c never inside) = omega arith
breaks_some z k n (Breaks.bad_character no_quote never) = omega arith
