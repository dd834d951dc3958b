-- A text that is short enough and is UTF-8.
use Rattle.std.proofs.Common.{◌≡◌, ℕ, ◌≤◌, false, List, length, arith}
use Rattle.std.proofs.lemmas.Bool.Decides.{nat_tests}
use Rattle.std.proofs.lemmas.Str.{utf8_valid_len-IsUtf8}
use Rattle.std.specs.Prelude.{nat_lt}
use Rattle.std.specs.Str.{IsUtf8}
use Rattle.std.specs.Str.Lossy.{utf8_valid_len}
use Rattle.psl_text.specs.Lex.{tokens_of}
use Rattle.psl_text.specs.Grammar.{tree_of, with_length, blocks, max_length}

pub tree_of_text : (text : List ℕ) → length text ≤ max_length → IsUtf8 text → tree_of text ≡ with_length (length text) (blocks (tokens_of text))
unfolding tree_of
tree_of_text text short u =
    let whole : utf8_valid_len text ≡ length text = utf8_valid_len-IsUtf8 text u in
    let first : nat_lt max_length (length text) ≡ false = grind (arith, nat_tests) in
    let second : nat_lt (utf8_valid_len text) (length text) ≡ false = grind (arith, nat_tests) in
    simp (first, second)
