-- What a string stands for is UTF-8.
use Rattle.std.proofs.Common.{◌≡◌, ℕ, zero, suc, ◌+◌, ◌<◌, ◌≤◌, ◌==◌, Bool, true, false, cond, List, [], ◌∷◌, ◌++◌, length, get_or, drop, inl, inr, refl, ap, sym, subst, ◌∙◌, ◌≢◌, arith, add-one, drop-cons, append_assoc}
use Rattle.std.proofs.Math.ListN.{drop_of_length-le}
use Rattle.std.proofs.lemmas.Bool.Decides.{nat_tests}
use Rattle.std.proofs.lemmas.Bool.{and_parts, cases_lt}
use Rattle.std.proofs.lemmas.List.{append-nil}
use Rattle.std.proofs.lemmas.Str.{IsUtf8-append, IsUtf8-encode, IsUtf8-nil, IsUtf8-from_ascii, encode_ascii, inside_one, length-encode, len_utf8_bounds}
use Rattle.std.specs.Str.{IsUtf8}
use Rattle.std.proofs.Math.Utf8.{encode, encodes, scalar, scalars}
use Rattle.psl_text.specs.Lex.{unescaped, escaped}

-- the next byte, and those behind it
pub unescaped_at : (z : List ℕ) (at : ℕ) (is_escaped : Bool) → at < length z → unescaped is_escaped (drop at z) ≡ unescaped is_escaped (get_or z at 0 ∷ drop (at + 1) z)
unescaped_at z at is_escaped h = ap (unescaped is_escaped) (rw (add-one, drop-cons z at 0))

pub unescaped_end : (z : List ℕ) (at : ℕ) (is_escaped : Bool) → length z ≤ at → unescaped is_escaped (drop at z) ≡ []
unfolding unescaped
unescaped_end z at is_escaped h = ap (unescaped is_escaped) (drop_of_length-le z h)

-- bytes that are no ASCII characters
record AreHigh (bs : List ℕ) : Type 0 where
  pub each : (k : ℕ) → k < length bs → 128 ≤ get_or bs k 0

tail_high : (b : ℕ) (bs : List ℕ) → AreHigh (b ∷ bs) → AreHigh bs
tail_high b bs h = record { each = λ k below. h.each (suc k) (omega arith) }

-- such bytes stand for themselves
high_stand : (bs rest : List ℕ) → AreHigh bs → unescaped false (bs ++ rest) ≡ bs ++ unescaped false rest
unfolding unescaped
high_stand [] rest h = refl
high_stand (b ∷ bs) rest h =
    let high : 128 ≤ b = h.each 0 (omega arith) in
    let other : (b == 92) ≡ false = grind (arith, nat_tests) in
    rw other (ap (λ z. b ∷ z) (high_stand bs rest (tail_high b bs h)))

escaped_high : (b : ℕ) → 128 ≤ b → escaped b ≡ b
escaped_high b high =
    let n : (b == 110) ≡ false = grind (arith, nat_tests) in
    let r : (b == 114) ≡ false = grind (arith, nat_tests) in
    let t : (b == 116) ≡ false = grind (arith, nat_tests) in
    rw (n, r, t) refl

high_stand_escaped : (bs rest : List ℕ) → 0 < length bs → AreHigh bs → unescaped true (bs ++ rest) ≡ bs ++ unescaped false rest
unfolding unescaped
high_stand_escaped [] rest some h = absurd (omega arith)
high_stand_escaped (b ∷ bs) rest some h =
    let same : escaped b ≡ b = escaped_high b (h.each 0 (omega arith)) in
    ap (λ x. x ∷ unescaped false (bs ++ rest)) same ∙ ap (λ z. b ∷ z) (high_stand bs rest (tail_high b bs h))

escaped_low : (b : ℕ) → b < 128 → escaped b < 128
escaped_low b low = grind (arith, nat_tests)

one_low : (b : ℕ) → b < 128 → (i : ℕ) → get_or (b ∷ []) i 0 < 128
one_low b low zero = low
one_low b low (suc i) = omega arith

low_then : (b : ℕ) (rest : List ℕ) → b < 128 → IsUtf8 rest → IsUtf8 (b ∷ rest)
low_then b rest low u = IsUtf8-append (b ∷ []) rest (IsUtf8-from_ascii (b ∷ []) (one_low b low)) u

high_byte : (c k : ℕ) → 128 ≤ c → k < length (encode c) → 128 ≤ get_or (encode c) k 0
high_byte c k high below =
    elim (cases_lt (get_or (encode c) k 0) 128) [
      | inl low ↦ let same : c ≡ get_or (encode c) k 0 = inside_one c [] (encode c) k (sym (append-nil (encode c))) below low in absurd (omega arith)
      | inr h ↦ h
    ]

-- the bytes of a character that is not ASCII
encode_high : (c : ℕ) → 128 ≤ c → AreHigh (encode c)
encode_high c high = record { each = λ k below. high_byte c k high below }

encode_some : (c : ℕ) → 0 < length (encode c)
encode_some c = omega (arith, length-encode c, len_utf8_bounds c)

either_utf8 : (b : Bool) (xs ys : List ℕ) → IsUtf8 xs → IsUtf8 ys → IsUtf8 (cond b xs ys)
either_utf8 true xs ys u v = u
either_utf8 false xs ys u v = v

low_step : (b : ℕ) (rest : List ℕ) → b < 128 → ((e : Bool) → IsUtf8 (unescaped e rest)) → (e : Bool) → IsUtf8 (unescaped e (b ∷ rest))
unfolding unescaped
low_step b rest low u true = low_then (escaped b) (unescaped false rest) (escaped_low b low) (u false)
low_step b rest low u false = either_utf8 (b == 92) (unescaped true rest) (b ∷ unescaped false rest) (u true) (low_then b (unescaped false rest) low (u false))

high_step : (bs rest : List ℕ) → 0 < length bs → AreHigh bs → IsUtf8 bs → ((e : Bool) → IsUtf8 (unescaped e rest)) → (e : Bool) → IsUtf8 (unescaped e (bs ++ rest))
high_step bs rest some high b u true = subst IsUtf8 (sym (high_stand_escaped bs rest some high)) (IsUtf8-append bs (unescaped false rest) b (u false))
high_step bs rest some high b u false = subst IsUtf8 (sym (high_stand bs rest high)) (IsUtf8-append bs (unescaped false rest) b (u false))

unescaped_encodes : (cs : List ℕ) → scalars cs ≡ true → (e : Bool) → IsUtf8 (unescaped e (encodes cs))
unfolding unescaped
unescaped_encodes [] h true = IsUtf8-nil
unescaped_encodes [] h false = IsUtf8-nil
unescaped_encodes (c ∷ cs) h e =
    let parts = and_parts (scalar c) (scalars cs) h in
    elim (cases_lt c 128) [
      | inl low ↦ subst (λ bs. IsUtf8 (unescaped e (bs ++ encodes cs))) (sym (encode_ascii c low)) (low_step c (encodes cs) low (unescaped_encodes cs parts.1) e)
      | inr high ↦ high_step (encode c) (encodes cs) (encode_some c) (encode_high c high) (IsUtf8-encode c parts.0) (unescaped_encodes cs parts.1) e
    ]

-- what a string stands for is text, since what stands between its quotes is
pub unescaped_is_utf8 : (z : List ℕ) → IsUtf8 z → IsUtf8 (unescaped false z)
unescaped_is_utf8 z u = subst (λ bs. IsUtf8 (unescaped false bs)) u.1.1 (unescaped_encodes u.0 u.1.0 false)

-- ---- the steps of a loop over what stands between the quotes

pub step_escaped : (xs z whole : List ℕ) (at : ℕ) → at < length z → xs ++ unescaped true (drop at z) ≡ whole → (xs ++ escaped (get_or z at 0) ∷ []) ++ unescaped false (drop (at + 1) z) ≡ whole
unfolding unescaped
step_escaped xs z whole at below e = append_assoc xs (escaped (get_or z at 0) ∷ []) (unescaped false (drop (at + 1) z)) ∙ ap (λ r. xs ++ r) (sym (unescaped_at z at true below)) ∙ e

pub step_backslash : (xs z whole : List ℕ) (at : ℕ) → at < length z → get_or z at 0 ≡ 92 → xs ++ unescaped false (drop at z) ≡ whole → xs ++ unescaped true (drop (at + 1) z) ≡ whole
unfolding unescaped
step_backslash xs z whole at below slash e =
    let test : (get_or z at 0 == 92) ≡ true = grind (arith, nat_tests) in
    let now : unescaped false (drop at z) ≡ unescaped true (drop (at + 1) z) = unescaped_at z at false below ∙ rw test refl in
    ap (λ r. xs ++ r) (sym now) ∙ e

pub step_plain : (xs z whole : List ℕ) (at : ℕ) → at < length z → get_or z at 0 ≢ 92 → xs ++ unescaped false (drop at z) ≡ whole → (xs ++ get_or z at 0 ∷ []) ++ unescaped false (drop (at + 1) z) ≡ whole
unfolding unescaped
step_plain xs z whole at below other e =
    let test : (get_or z at 0 == 92) ≡ false = grind (arith, nat_tests) in
    let now : unescaped false (drop at z) ≡ get_or z at 0 ∷ unescaped false (drop (at + 1) z) = unescaped_at z at false below ∙ rw test refl in
    append_assoc xs (get_or z at 0 ∷ []) (unescaped false (drop (at + 1) z)) ∙ ap (λ r. xs ++ r) (sym now) ∙ e

pub all_stand : (xs z whole : List ℕ) (at : ℕ) (e : Bool) → length z ≤ at → xs ++ unescaped e (drop at z) ≡ whole → xs ≡ whole
all_stand xs z whole at is_escaped done e = sym (append-nil xs) ∙ ap (λ r. xs ++ r) (sym (unescaped_end z at is_escaped done)) ∙ e
