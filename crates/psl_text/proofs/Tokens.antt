-- The steps of the lexer.
use Rattle.std.proofs.Common.{◌≡◌, ℕ, zero, suc, ◌-◌, ◌<◌, ◌≤◌, true, false, List, [], ◌∷◌, ◌++◌, length, drop, sym, ◌∙◌, ap, refl, arith, cond, append_assoc, length-drop, Some, None}
use Rattle.std.proofs.Math.ListN.{drop_of_length-le}
use Rattle.std.proofs.lemmas.List.{drop-drop}
use Rattle.psl_text.specs.declared.token.Token.{Token}
use Rattle.psl_text.specs.declared.lexer.Cursor.{Cursor}
use Rattle.psl_text.specs.Scan.{front, is_fault}
use Rattle.psl_text.specs.Lex.{tokens_from, token_at, cursor_at, end_of, before, Moves}

passed : (n : ℕ) (c : Cursor) (z : List ℕ) → tokens_from n c z ≡ tokens_from 0 c (drop n z)
unfolding tokens_from
passed zero c z = refl
passed (suc n) c [] = refl
passed (suc n) c (b ∷ z) = passed n c z

drop_cons : (n b : ℕ) (z : List ℕ) → 1 ≤ n → drop (n - 1) z ≡ drop n (b ∷ z)
drop_cons zero b z h = absurd (omega arith)
drop_cons (suc n) b z h = let e : suc n - 1 ≡ n = omega arith in ap (λ k. drop k z) e

pub one_step : (z : List ℕ) (c : Cursor) → 0 < length z → 1 ≤ (front z).1 → tokens_from 0 c z ≡ before (token_at z c) (tokens_from 0 (cursor_at z c) (drop (front z).1 z))
unfolding tokens_from
one_step [] c some moves = absurd (omega arith)
one_step (b ∷ z) c some moves = ap (before (token_at (b ∷ z) c)) (passed ((front (b ∷ z)).1 - 1) (cursor_at (b ∷ z) c) z ∙ ap (tokens_from 0 (cursor_at (b ∷ z) c)) (drop_cons (front (b ∷ z)).1 b z moves))

-- what is left of the text behind a step
pub moved : (text : List ℕ) (old new : Cursor) → old.at < length text → Moves text old new → new ≡ cursor_at (drop old.at text) old
    → tokens_from 0 old (drop old.at text) ≡ before (token_at (drop old.at text) old) (tokens_from 0 new (drop new.at text))
moved text old new below moves e =
    let some : 0 < length (drop old.at text) = omega (arith, length-drop old.at text) in
    let forth : 1 ≤ (front (drop old.at text)).1 = omega (arith, moves.forth, moves.by) in
    let rest : drop (front (drop old.at text)).1 (drop old.at text) ≡ drop new.at text = drop-drop (front (drop old.at text)).1 old.at text ∙ ap (λ k. drop k text) (sym moves.by) in
    one_step (drop old.at text) old some forth ∙ ap (before (token_at (drop old.at text) old)) (ap (λ c. tokens_from 0 c (drop (front (drop old.at text)).1 (drop old.at text))) (sym e) ∙ ap (tokens_from 0 new) rest)

pub more_none : (text : List ℕ) (xs whole : List Token) (old new : Cursor) → xs ++ tokens_from 0 old (drop old.at text) ≡ whole → old.at < length text → Moves text old new
    → new ≡ cursor_at (drop old.at text) old → None ≡ token_at (drop old.at text) old → xs ++ tokens_from 0 new (drop new.at text) ≡ whole
more_none text xs whole old new h below moves e t =
    ap (λ r. xs ++ r) (sym (moved text old new below moves e ∙ ap (λ o. before o (tokens_from 0 new (drop new.at text))) (sym t))) ∙ h

pub more_some : (text : List ℕ) (xs whole : List Token) (token : Token) (old new : Cursor) → xs ++ tokens_from 0 old (drop old.at text) ≡ whole → old.at < length text → Moves text old new
    → new ≡ cursor_at (drop old.at text) old → Some token ≡ token_at (drop old.at text) old → is_fault token.kind ≡ false → (xs ++ token ∷ []) ++ tokens_from 0 new (drop new.at text) ≡ whole
more_some text xs whole token old new h below moves e t other =
    let now : tokens_from 0 old (drop old.at text) ≡ token ∷ tokens_from 0 new (drop new.at text) =
    moved text old new below moves e ∙ ap (λ o. before o (tokens_from 0 new (drop new.at text))) (sym t) ∙ ap (λ b. cond b (token ∷ []) (token ∷ tokens_from 0 new (drop new.at text))) other in
    append_assoc xs (token ∷ []) (tokens_from 0 new (drop new.at text)) ∙ ap (λ r. xs ++ r) (sym now) ∙ h

pub last_of : (z : List ℕ) (c : Cursor) (token : Token) → 0 < length z → Some token ≡ token_at z c → is_fault token.kind ≡ true → tokens_from 0 c z ≡ token ∷ []
unfolding tokens_from
last_of [] c token some t fault = absurd (omega arith)
last_of (b ∷ z) c token some t fault =
    let rest = tokens_from ((front (b ∷ z)).1 - 1) (cursor_at (b ∷ z) c) z in
    ap (λ o. before o rest) (sym t) ∙ ap (λ f. cond f (token ∷ []) (token ∷ rest)) fault

pub last_some : (text : List ℕ) (xs whole : List Token) (token : Token) (c : Cursor) → xs ++ tokens_from 0 c (drop c.at text) ≡ whole → c.at < length text
    → Some token ≡ token_at (drop c.at text) c → is_fault token.kind ≡ true → xs ++ token ∷ [] ≡ whole
last_some text xs whole token c h below t fault =
    let some : 0 < length (drop c.at text) = omega (arith, length-drop c.at text) in
    ap (λ r. xs ++ r) (sym (last_of (drop c.at text) c token some t fault)) ∙ h

pub at_end : (text : List ℕ) (xs whole : List Token) (c : Cursor) → xs ++ tokens_from 0 c (drop c.at text) ≡ whole → length text ≤ c.at → xs ++ end_of c ∷ [] ≡ whole
unfolding tokens_from
at_end text xs whole c h done = ap (λ z. xs ++ tokens_from 0 c z) (sym (drop_of_length-le text done)) ∙ h
