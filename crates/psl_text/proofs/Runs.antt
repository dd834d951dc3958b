-- Runs of bytes at the front of a text.
use Rattle.std.proofs.Common.{◌≡◌, ℕ, ◌-◌, ◌<◌, ◌≤◌, Bool, true, false, List, [], ◌∷◌, length, get_or, arith, refl}
use Rattle.std.proofs.lemmas.Bool.Decides.{nat_tests}
use Rattle.std.proofs.lemmas.List.Sums.{prefix_len_passes, prefix_len_stops}
use Rattle.psl_text.specs.Scan.{is_blank, is_word, is_digit, is_in_line, run}

-- what passes at the front is a run of one byte or more
run_moves : (p : ℕ → Bool) (z : List ℕ) → p 0 ≡ false → p (get_or z 0 0) ≡ true → 1 ≤ run p z
run_moves p [] none some = grind arith
run_moves p (b ∷ z) none some = rw some (omega arith)

word_ascii : (b : ℕ) → is_word b ≡ true → b < 128
word_ascii b h = grind (arith, nat_tests)

digit_ascii : (b : ℕ) → is_digit b ≡ true → b < 128
digit_ascii b h = grind (arith, nat_tests)

pub words_move : (z : List ℕ) → is_word (get_or z 0 0) ≡ true → 1 ≤ run is_word z
words_move z h = run_moves is_word z refl h

pub words_ascii : (z : List ℕ) → 1 ≤ run is_word z → get_or z (run is_word z - 1) 0 < 128
words_ascii z h = word_ascii _ (prefix_len_passes is_word z (run is_word z - 1) 0 (omega arith))

pub digits_move : (z : List ℕ) → is_digit (get_or z 0 0) ≡ true → 1 ≤ run is_digit z
digits_move z h = run_moves is_digit z refl h

pub digits_ascii : (z : List ℕ) → 1 ≤ run is_digit z → get_or z (run is_digit z - 1) 0 < 128
digits_ascii z h = digit_ascii _ (prefix_len_passes is_digit z (run is_digit z - 1) 0 (omega arith))

pub blanks_move : (z : List ℕ) → is_blank (get_or z 0 0) ≡ true → 1 ≤ run is_blank z
blanks_move z h = run_moves is_blank z refl h

pub line_moves : (z : List ℕ) → get_or z 0 0 ≡ 47 → 1 ≤ run is_in_line z
line_moves [] h = omega arith
line_moves (b ∷ z) h = rw h (omega arith)

pub in_line_not : (b : ℕ) → is_in_line b ≡ false → b ≡ 10
in_line_not b h = grind (arith, nat_tests)

pub line_stops : (z : List ℕ) → run is_in_line z < length z → get_or z (run is_in_line z) 0 ≡ 10
line_stops z h = in_line_not _ (prefix_len_stops is_in_line z 0 h)
