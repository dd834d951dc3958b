-- Lines cut from bytes.
use Rattle.std.proofs.Common.{◌≡◌, ℕ, List, [], ◌∷◌, ◌++◌, Bool, true, false, cond, not, ◌||◌, if◌then◌else◌, refl, sym, ap, ◌∙◌, append_assoc, true≢false}
use Rattle.qe_history.specs.Lines.{ahead, all_but_last, cut, is_blank}
use Rattle.qe_node.specs.Taking.{filled, has_newline}

or_left : (a b : Bool) → a || b ≡ false → a ≡ false
or_left true b is = is
or_left false b is = refl

or_right : (a b : Bool) → a || b ≡ false → b ≡ false
or_right true b is = absurd (true≢false is)
or_right false b is = is

pub both_one : (pending line : List ℕ) → has_newline pending ≡ false → has_newline line ≡ false → has_newline (pending ++ line) ≡ false
both_one [] line first second = second
both_one (byte ∷ pending) line first second = ap (λ b. b || has_newline (pending ++ line)) (or_left _ _ first) ∙ both_one pending line (or_right _ _ first) second

-- a line before a newline is cut off
pub cut_line : (line later : List ℕ) → has_newline line ≡ false → cut (line ++ 10 ∷ later) ≡ line ∷ cut later
cut_line [] later one = refl
cut_line (byte ∷ line) later one =
    ap (λ (b : Bool). if b then [] ∷ cut (line ++ 10 ∷ later) else ahead byte (cut (line ++ 10 ∷ later))) (or_left _ _ one) ∙ ap (ahead byte) (cut_line line later (or_right _ _ one))

pub cut_last : (line : List ℕ) → has_newline line ≡ false → cut line ≡ line ∷ []
cut_last [] one = refl
cut_last (byte ∷ line) one = ap (λ (b : Bool). if b then [] ∷ cut line else ahead byte (cut line)) (or_left _ _ one) ∙ ap (ahead byte) (cut_last line (or_right _ _ one))

kept_more : (b : Bool) (line : List ℕ) (lines more : List (List ℕ)) → cond b (line ∷ (lines ++ more)) (lines ++ more) ≡ cond b (line ∷ lines) lines ++ more
kept_more true line lines more = refl
kept_more false line lines more = refl

pub filled_more : (lines more : List (List ℕ)) → filled (lines ++ more) ≡ filled lines ++ filled more
filled_more [] more = refl
filled_more (line ∷ lines) more = ap (λ (l : List (List ℕ)). cond (not (is_blank line)) (line ∷ l) l) (filled_more lines more) ∙ kept_more (not (is_blank line)) line (filled lines) (filled more)

pub filled_blank : (line : List ℕ) → is_blank line ≡ true → filled (line ∷ []) ≡ []
filled_blank line is = ap (λ (b : Bool). cond (not b) (line ∷ []) []) is

pub filled_other : (line : List ℕ) → is_blank line ≡ false → filled (line ∷ []) ≡ line ∷ []
filled_other line is = ap (λ (b : Bool). cond (not b) (line ∷ []) []) is

pub all_but_this : (pieces : List (List ℕ)) (last : List ℕ) → all_but_last (pieces ++ last ∷ []) ≡ pieces
all_but_this [] last = refl
all_but_this (piece ∷ []) last = refl
all_but_this (piece ∷ second ∷ rest) last = ap (λ l. piece ∷ l) (all_but_this (second ∷ rest) last)

-- one line more is cut off what is left
pub cut_on : (pending line later rest more : List ℕ) (whole : List ℕ) → has_newline pending ≡ false → has_newline line ≡ false → whole ≡ pending ++ line → rest ≡ line ++ 10 ∷ later → cut ((pending ++ rest) ++ more) ≡ whole ∷ cut (later ++ more)
cut_on pending line later rest more whole first second whole_is rest_is =
    ap (λ r. cut ((pending ++ r) ++ more)) rest_is ∙ ap (λ l. cut (l ++ more)) (sym (append_assoc pending line (10 ∷ later))) ∙ ap cut (append_assoc (pending ++ line) (10 ∷ later) more)
    ∙ cut_line (pending ++ line) (later ++ more) (both_one pending line first second) ∙ ap (λ w. w ∷ cut (later ++ more)) (sym whole_is)
