-- The lexer goes from piece to piece: what it keeps is what one finds going back over the pieces.
use Rattle.std.proofs.Common.{◌≡◌, ℕ, zero, suc, ◌+◌, ◌-◌, ◌<◌, ◌≤◌, Bool, true, false, cond, List, [], ◌∷◌, ◌++◌, length, take, drop, Option, Some, None, refl, sym, ap, subst, ◌∙◌, arith}
use Rattle.std.proofs.lemmas.Bool.Decides.{nat_tests}
use Rattle.std.proofs.lemmas.List.{length-append, take_at, drop_at}
use Rattle.std.specs.Prelude.{slice_get, not, ◌&&◌}
use Rattle.std.specs.Char.{is_ascii_alphabetic}
use Rattle.psl_text.specs.declared.token.Kind.{Kind}
use Rattle.psl_text.specs.declared.token.Kind.TheVariants as kind
use Rattle.psl_text.specs.declared.token.Token.{Token}
use Rattle.psl_text.specs.declared.lexer.Bracket.{Bracket}
use Rattle.psl_text.specs.declared.lexer.Line.{Line}
use Rattle.psl_text.specs.declared.lexer.Line.TheVariants as line
use Rattle.psl_text.specs.declared.lexer.Cursor.{Cursor}
use Rattle.psl_text.specs.Scan.{is_blank, is_digit, is_in_line, front, is_fault}
use Rattle.psl_text.specs.Lex as lex
use Rattle.psl_text.specs.Spelling.{IsSign, Spells, BeginsWithout, EndsBefore, Breaks}
use Rattle.psl_text.specs.Tokens.{Piece, IsCut, place, back_over, open_before, innermost_open, on_line, one_above, line_of, lines_above, is_white, is_empty, doc_in, doc_on, below, docs_on, docs_before, newline_in, token_by, tokens_among, end_in, end_behind, fault_behind, HasTokens}
use Rattle.psl_text.proofs.Spelled.{IsFound, spelled_found}
use Rattle.psl_text.proofs.Fronts.{HasFront, has_front, breaks_found, breaks_fault, breaks_some}
use Rattle.psl_text.proofs.Tokens.{one_step, last_of}

-- ---- the brackets that are open, the innermost first

turned : List Bracket → List Bracket
turned [] = []
turned (b ∷ stack) = turned stack ++ b ∷ []

nth : List Bracket → ℕ → Option Bracket
nth [] n = None
nth (b ∷ stack) zero = Some b
nth (b ∷ stack) (suc n) = nth stack n

record IsStack (brackets : List Bracket) (found : ℕ → Option Bracket) : Type 0 where
  stack : List Bracket
  is : brackets ≡ turned stack
  each : (n : ℕ) → nth stack n ≡ found n

last_one : (xs : List Bracket) (b : Bracket) → slice_get (xs ++ b ∷ []) (length xs) ≡ Some b
last_one [] b = refl
last_one (x ∷ xs) b = last_one xs b

innermost_turned : (stack : List Bracket) → lex.innermost (turned stack) ≡ nth stack 0
unfolding turned nth
innermost_turned [] = refl
innermost_turned (b ∷ stack) =
    let size : length (turned stack ++ b ∷ []) ≡ length (turned stack) + 1 = length-append (turned stack) (b ∷ []) in
    let place : length (turned stack ++ b ∷ []) - 1 ≡ length (turned stack) = omega arith in
    ap (slice_get (turned stack ++ b ∷ [])) place ∙ last_one (turned stack) b

innermost_is : (brackets : List Bracket) (found : ℕ → Option Bracket) → IsStack brackets found → lex.innermost brackets ≡ found 0
innermost_is brackets found s = ap lex.innermost s.is ∙ innermost_turned s.stack ∙ s.each 0

pushed_each : (b : Bracket) (stack : List Bracket) (found more : ℕ → Option Bracket) → ((n : ℕ) → nth stack n ≡ found n) → Some b ≡ more 0 → ((n : ℕ) → found n ≡ more (suc n)) → (n : ℕ) → nth (b ∷ stack) n ≡ more n
unfolding nth
pushed_each b stack found more each first rest zero = first
pushed_each b stack found more each first rest (suc n) = each n ∙ rest n

pushed : (b : Bracket) (brackets : List Bracket) (found more : ℕ → Option Bracket) → IsStack brackets found → Some b ≡ more 0 → ((n : ℕ) → found n ≡ more (suc n)) → IsStack (brackets ++ b ∷ []) more
unfolding turned
pushed b brackets found more s first rest = record { stack = b ∷ s.stack; is = ap (λ bs. bs ++ b ∷ []) s.is; each = pushed_each b s.stack found more s.each first rest }

without_last : (stack : List Bracket) (b : Bracket) → take (length (turned (b ∷ stack)) - 1) (turned (b ∷ stack)) ≡ turned stack
unfolding turned
without_last stack b =
    let size : length (turned stack ++ b ∷ []) ≡ length (turned stack) + 1 = length-append (turned stack) (b ∷ []) in
    let place : length (turned stack ++ b ∷ []) - 1 ≡ length (turned stack) = omega arith in
    ap (λ n. take n (turned stack ++ b ∷ [])) place ∙ take_at (turned stack) (b ∷ []) (length (turned stack)) refl

popped_stack : (stack brackets : List Bracket) (found : ℕ → Option Bracket) → brackets ≡ turned stack → ((n : ℕ) → nth stack n ≡ found n) → IsStack (take (length brackets - 1) brackets) (λ n. found (suc n))
unfolding turned nth
popped_stack [] brackets found is each = record { stack = []; is = ap (λ bs. take (length bs - 1) bs) is; each = λ n. each (suc n) }
popped_stack (b ∷ stack) brackets found is each = record { stack = stack; is = ap (λ bs. take (length bs - 1) bs) is ∙ without_last stack b; each = λ n. each (suc n) }

popped : (brackets : List Bracket) (found : ℕ → Option Bracket) → IsStack brackets found → IsStack (take (length brackets - 1) brackets) (λ n. found (suc n))
popped brackets found s = popped_stack s.stack brackets found s.is s.each

stack_step : (k : Kind) (at : ℕ) (brackets : List Bracket) (found : ℕ → Option Bracket) → IsStack brackets found → IsStack (lex.opened k at brackets) (back_over k at found)
stack_step kind.OpenBrace at brackets found s = pushed (record { is_brace = true; at = at }) brackets found (back_over kind.OpenBrace at found) s refl (λ n. refl)
stack_step kind.OpenParen at brackets found s = pushed (record { is_brace = false; at = at }) brackets found (back_over kind.OpenParen at found) s refl (λ n. refl)
stack_step kind.OpenBracket at brackets found s = pushed (record { is_brace = false; at = at }) brackets found (back_over kind.OpenBracket at found) s refl (λ n. refl)
stack_step kind.CloseBrace at brackets found s = popped brackets found s
stack_step kind.CloseParen at brackets found s = popped brackets found s
stack_step kind.CloseBracket at brackets found s = popped brackets found s
stack_step _ at brackets found s = s

-- ---- the line and its documentation

-- a character that goes on a line stands at the front
record IsInside (z : List ℕ) : Type 0 where
  byte : ℕ
  rest : List ℕ
  is : z ≡ byte ∷ rest
  inside : is_in_line byte ≡ true

heads : (b c : ℕ) (z w : List ℕ) → b ∷ z ≡ c ∷ w → b ≡ c
heads b c z w e = cc

inside_clash : (z : List ℕ) → IsInside z → BeginsWithout is_in_line z → ⊥
inside_clash z i BeginsWithout.at_end = let e = i.is in absurd (cc)
inside_clash z i (BeginsWithout.other {b} {z = w} fails) =
    let same : b ≡ i.byte = heads b i.byte w i.rest i.is in
    let passes : is_in_line b ≡ true = subst (λ x. is_in_line x ≡ true) (sym same) i.inside in
    clash (is_in_line b) passes fails
  where
    clash : (t : Bool) → t ≡ true → t ≡ false → ⊥
    clash t yes_it e = absurd (cc)

-- what the lexer keeps of a line and of the documentation above, before what is left
data IsLine : Line → List (List ℕ) → List Piece → List (List Piece) → List ℕ → Type 0 where
  fresh : {docs : List (List ℕ)} {here : List Piece} {above : List (List Piece)} {left : List ℕ} → is_empty here ≡ true → doc_on here ≡ None → docs ≡ docs_on above → IsLine line.Fresh docs here above left
  doc : {docs : List (List ℕ)} {here : List Piece} {above : List (List Piece)} {left : List ℕ} → docs ≡ docs_on (here ∷ above) → BeginsWithout is_in_line left → IsLine line.Doc docs here above left
  used : {docs : List (List ℕ)} {here : List Piece} {above : List (List Piece)} {left : List ℕ} → docs ≡ [] → is_empty here ≡ false → doc_on here ≡ None → IsLine line.Used docs here above left
  plain : {docs : List (List ℕ)} {here : List Piece} {above : List (List Piece)} {left : List ℕ} → doc_on here ≡ None → BeginsWithout is_in_line left → IsLine line.Used docs here above left

token_docs : (l : Line) (docs : List (List ℕ)) (here : List Piece) (above : List (List Piece)) (left : List ℕ) → IsLine l docs here above left → IsInside left → docs ≡ cond (is_empty here) (docs_on above) []
token_docs l docs here above left (IsLine.fresh empty none e) i = e ∙ sym (ap (λ b. cond b (docs_on above) []) empty)
token_docs l docs here above left (IsLine.doc e ends) i = absurd (inside_clash left i ends)
token_docs l docs here above left (IsLine.used e some none) i = e ∙ sym (ap (λ b. cond b (docs_on above) []) some)
token_docs l docs here above left (IsLine.plain none ends) i = absurd (inside_clash left i ends)

abbrev blank_piece : List ℕ → Piece
blank_piece s = record { kind = kind.Blank; spelling = s; text = [] }

abbrev comment_piece : List ℕ → Piece
comment_piece s = record { kind = kind.Comment; spelling = s; text = [] }

blank_line : (s : List ℕ) (l : Line) (docs : List (List ℕ)) (here : List Piece) (above : List (List Piece)) (left z : List ℕ) → IsLine l docs here above left → IsInside left → IsLine l docs (blank_piece s ∷ here) above z
unfolding is_empty doc_on
blank_line s l docs here above left z (IsLine.fresh empty none e) i = IsLine.fresh empty refl e
blank_line s l docs here above left z (IsLine.doc e ends) i = absurd (inside_clash left i ends)
blank_line s l docs here above left z (IsLine.used e some none) i = IsLine.used e some refl
blank_line s l docs here above left z (IsLine.plain none ends) i = absurd (inside_clash left i ends)

doc_line : (s : List ℕ) (l : Line) (docs : List (List ℕ)) (here : List Piece) (above : List (List Piece)) (left z : List ℕ) → IsLine l docs here above left → IsInside left
    → lex.is_doc l s ≡ true → BeginsWithout is_in_line z → IsLine line.Doc (docs ++ lex.doc_of s ∷ []) (comment_piece s ∷ here) above z
unfolding doc_on docs_on
doc_line s l docs here above left z (IsLine.fresh empty none e) i is ends =
    let found : doc_on (comment_piece s ∷ here) ≡ Some (lex.doc_of s) = ap (doc_in kind.Comment s) empty ∙ ap (λ b. cond b (Some (lex.doc_of s)) None) is in
    IsLine.doc (ap (λ ds. ds ++ lex.doc_of s ∷ []) e ∙ sym (ap (λ d. below d (docs_on above)) found)) ends
doc_line s l docs here above left z (IsLine.doc e before) i is ends = absurd (cc)
doc_line s l docs here above left z (IsLine.used e some none) i is ends = absurd (cc)
doc_line s l docs here above left z (IsLine.plain none before) i is ends = absurd (cc)

comment_line : (s : List ℕ) (l : Line) (docs : List (List ℕ)) (here : List Piece) (above : List (List Piece)) (left z : List ℕ) → IsLine l docs here above left → IsInside left
    → lex.is_doc l s ≡ false → BeginsWithout is_in_line z → IsLine line.Used docs (comment_piece s ∷ here) above z
unfolding doc_on
comment_line s l docs here above left z (IsLine.fresh empty none e) i is ends =
    IsLine.plain (ap (doc_in kind.Comment s) empty ∙ ap (λ b. cond b (Some (lex.doc_of s)) None) is) ends
comment_line s l docs here above left z (IsLine.doc e before) i is ends = absurd (inside_clash left i before)
comment_line s l docs here above left z (IsLine.used e some none) i is ends = IsLine.plain (ap (doc_in kind.Comment s) some) ends
comment_line s l docs here above left z (IsLine.plain none before) i is ends = absurd (inside_clash left i before)

newline_line : (l : Line) (docs : List (List ℕ)) (here : List Piece) (above : List (List Piece)) (left z : List ℕ) → IsLine l docs here above left → IsLine line.Fresh (lex.docs_below l docs) [] (here ∷ above) z
unfolding is_empty doc_on docs_on
newline_line l docs here above left z (IsLine.fresh empty none e) = IsLine.fresh refl refl (sym (ap (λ d. below d (docs_on above)) none))
newline_line l docs here above left z (IsLine.doc e ends) = IsLine.fresh refl refl e
newline_line l docs here above left z (IsLine.used e some none) = IsLine.fresh refl refl (sym (ap (λ d. below d (docs_on above)) none))
newline_line l docs here above left z (IsLine.plain none ends) = IsLine.fresh refl refl (sym (ap (λ d. below d (docs_on above)) none))

-- ---- the lexer between two pieces

record Stands (c : Cursor) (before : List Piece) (left : List ℕ) : Type 0 where
  at : c.at ≡ place before
  brackets : IsStack c.brackets (open_before before)
  on : IsLine c.line c.docs (line_of before) (lines_above before) left

-- over one piece: the token that it is, and where the lexer then stands
record Passes (c : Cursor) (before : List Piece) (p : Piece) (z : List ℕ) : Type 0 where
  token : (more : List Token) → lex.before (lex.token_at (p.spelling ++ z) c) more ≡ token_by p.kind before p ++ more
  stands : Stands (lex.cursor_at (p.spelling ++ z) c) (p ∷ before) z

token_found : (k : Kind) (s t z : List ℕ) (c : Cursor) → IsFound k s t z → lex.token_at (s ++ z) c ≡ lex.token_by k (length s) (s ++ z) c
unfolding lex.token_at
token_found k s t z c found = ap (λ f. lex.token_by f.0 f.1 (s ++ z) c) found.found

cursor_found : (k : Kind) (s t z : List ℕ) (c : Cursor) → IsFound k s t z → lex.cursor_at (s ++ z) c ≡ lex.cursor_by k (length s) (s ++ z) c
unfolding lex.cursor_at
cursor_found k s t z c found = ap (λ f. lex.cursor_by f.0 f.1 (s ++ z) c) found.found

further : (at n : ℕ) (before : List Piece) (p : Piece) → at ≡ place before → n ≡ length p.spelling → at + n ≡ place (p ∷ before)
unfolding place
further at n before p e same = omega arith

-- ---- over blanks

pass_blanks : (s t z : List ℕ) (c : Cursor) (before : List Piece) → IsFound kind.Blank s t z → IsInside (s ++ z) → Stands c before (s ++ z) → Passes c before (record { kind = kind.Blank; spelling = s; text = [] }) z
unfolding open_before line_of lines_above
pass_blanks s t z c before found inside stands = record {
  token = λ more. ap (λ o. lex.before o more) (token_found kind.Blank s t z c found);
  stands = subst (λ d. Stands d (blank_piece s ∷ before) z) (sym (cursor_found kind.Blank s t z c found)) (record {
    at = further c.at (length s) before (blank_piece s) stands.at refl;
    brackets = record { stack = stands.brackets.stack; is = stands.brackets.is; each = stands.brackets.each };
    on = blank_line s c.line c.docs (line_of before) (lines_above before) (s ++ z) z stands.on inside;
  });
}

-- ---- over a comment

behind_comment : (s z : List ℕ) (b : Bool) (c : Cursor) (before : List Piece) → lex.is_doc c.line s ≡ b → BeginsWithout is_in_line z → IsInside (s ++ z) → Stands c before (s ++ z)
    → Stands (cond b (record c { at = c.at + length s; docs = c.docs ++ lex.doc_of s ∷ []; line = line.Doc }) (record c { at = c.at + length s; line = line.Used })) (comment_piece s ∷ before) z
unfolding open_before line_of lines_above
behind_comment s z true c before is ends inside stands = record {
  at = further c.at (length s) before (comment_piece s) stands.at refl;
  brackets = record { stack = stands.brackets.stack; is = stands.brackets.is; each = stands.brackets.each };
  on = doc_line s c.line c.docs (line_of before) (lines_above before) (s ++ z) z stands.on inside is ends;
}
behind_comment s z false c before is ends inside stands = record {
  at = further c.at (length s) before (comment_piece s) stands.at refl;
  brackets = record { stack = stands.brackets.stack; is = stands.brackets.is; each = stands.brackets.each };
  on = comment_line s c.line c.docs (line_of before) (lines_above before) (s ++ z) z stands.on inside is ends;
}

pass_comment : (s t z : List ℕ) (c : Cursor) (before : List Piece) → IsFound kind.Comment s t z → BeginsWithout is_in_line z → IsInside (s ++ z) → Stands c before (s ++ z) → Passes c before (comment_piece s) z
pass_comment s t z c before found ends inside stands =
    let whole : take (length s) (s ++ z) ≡ s = take_at s z (length s) refl in
    record {
      token = λ more. ap (λ o. lex.before o more) (token_found kind.Comment s t z c found);
      stands = subst (λ d. Stands d (comment_piece s ∷ before) z) (sym (cursor_found kind.Comment s t z c found ∙ ap (λ w. lex.behind_comment (length s) w c) whole))
          (behind_comment s z (lex.is_doc c.line s) c before refl ends inside stands);
    }

-- ---- over a newline

abbrev newline_piece : Piece
newline_piece = record { kind = kind.Newline; spelling = 10 ∷ []; text = [] }

newline_more : (o : Option Bracket) (at : ℕ) (more : List Token) → lex.before (cond (lex.is_inside_of o) None (Some (lex.mark kind.Newline at))) more ≡ newline_in o at ++ more
newline_more None at more = refl
newline_more (Some b) at more = by_form b.is_brace
  where
    by_form : (is_brace : Bool) → lex.before (cond (not is_brace) None (Some (lex.mark kind.Newline at))) more ≡ cond is_brace (lex.mark kind.Newline at ∷ []) [] ++ more
    by_form true = refl
    by_form false = refl

pass_newline : (z : List ℕ) (c : Cursor) (before : List Piece) → IsFound kind.Newline (10 ∷ []) [] z → Stands c before (10 ∷ z) → Passes c before newline_piece z
unfolding open_before line_of lines_above
pass_newline z c before found stands =
    let innermost : lex.is_inside c.brackets ≡ lex.is_inside_of (innermost_open before) = ap lex.is_inside_of (innermost_is c.brackets (open_before before) stands.brackets) in
    record {
      token = λ more. ap (λ o. lex.before o more) (token_found kind.Newline (10 ∷ []) [] z c found)
          ∙ ap (λ b. lex.before (cond b None (Some (lex.mark kind.Newline c.at))) more) innermost
          ∙ newline_more (innermost_open before) c.at more
          ∙ ap (λ n. newline_in (innermost_open before) n ++ more) stands.at;
      stands = subst (λ d. Stands d (newline_piece ∷ before) z) (sym (cursor_found kind.Newline (10 ∷ []) [] z c found)) (record {
        at = further c.at 1 before newline_piece stands.at refl;
        brackets = record { stack = stands.brackets.stack; is = stands.brackets.is; each = stands.brackets.each };
        on = newline_line c.line c.docs (line_of before) (lines_above before) (10 ∷ z) z stands.on;
      });
    }

-- ---- over any other piece

-- a kind that is a token wherever it stands
record IsSolid (k : Kind) : Type 0 where
  token : (n : ℕ) (z : List ℕ) (c : Cursor) → lex.token_by k n z c ≡ Some (lex.whole_token k n z c)
  cursor : (n : ℕ) (z : List ℕ) (c : Cursor) → lex.cursor_by k n z c ≡ lex.behind_token k n c
  here : (p : Piece) (here : List Piece) → on_line k p here ≡ p ∷ here
  above : (here : List Piece) (above : List (List Piece)) → one_above k here above ≡ above
  white : is_white k ≡ false
  doc : (s : List ℕ) (b : Bool) → doc_in k s b ≡ None
  mine : (before : List Piece) (p : Piece) → token_by k before p ≡ record { kind = k; at = place before; text = p.text; docs = docs_before before } ∷ []
  no_fault : is_fault k ≡ false

abbrev is_solid : Kind → Bool
is_solid kind.Blank = false
is_solid kind.Comment = false
is_solid kind.Newline = false
is_solid kind.BadCharacter = false
is_solid kind.Unclosed = false
is_solid _ = true

solid : (k : Kind) → is_solid k ≡ true → IsSolid k
solid kind.Blank e = absurd (cc)
solid kind.Comment e = absurd (cc)
solid kind.Newline e = absurd (cc)
solid kind.BadCharacter e = absurd (cc)
solid kind.Unclosed e = absurd (cc)
solid _ e = record { token = λ n z c. refl; cursor = λ n z c. refl; here = λ p here. refl; above = λ here above. refl; white = refl; doc = λ s b. refl; mine = λ before p. refl; no_fault = refl }

solid_line : (k : Kind) (p : Piece) (here : List Piece) (above : List (List Piece)) (z : List ℕ) → IsSolid k → p.kind ≡ k → IsLine line.Used [] (on_line k p here) (one_above k here above) z
unfolding is_empty doc_on
solid_line k p here above z is same =
    let white : is_white p.kind ≡ false = ap is_white same ∙ is.white in
    let some : is_empty (p ∷ here) ≡ false = ap (λ b. b && is_empty here) white in
    let none : doc_on (p ∷ here) ≡ None = ap (λ l. doc_in l p.spelling (is_empty here)) same ∙ is.doc p.spelling (is_empty here) in
    subst (λ w. IsLine line.Used [] w (one_above k here above) z) (sym (is.here p here)) (IsLine.used refl some none)

pass_solid : (k : Kind) (s t z : List ℕ) (c : Cursor) (before : List Piece) → IsSolid k → IsFound k s t z → IsInside (s ++ z) → Stands c before (s ++ z) → Passes c before (record { kind = k; spelling = s; text = t }) z
unfolding open_before line_of lines_above
pass_solid k s t z c before is found inside stands =
    let p : Piece = record { kind = k; spelling = s; text = t } in
    let whole : take (length s) (s ++ z) ≡ s = take_at s z (length s) refl in
    let docs : c.docs ≡ docs_before before = token_docs c.line c.docs (line_of before) (lines_above before) (s ++ z) stands.on inside in
    let token : lex.token_at (s ++ z) c ≡ Some (record { kind = k; at = place before; text = t; docs = docs_before before }) =
    token_found k s t z c found ∙ is.token (length s) (s ++ z) c
    ∙ ap (λ w. Some (record { kind = k; at = c.at; text = lex.text_of k w; docs = c.docs })) whole
    ∙ ap (λ w. Some (record { kind = k; at = c.at; text = w; docs = c.docs })) found.text
    ∙ ap (λ n. Some (record { kind = k; at = n; text = t; docs = c.docs })) stands.at
    ∙ ap (λ ds. Some (record { kind = k; at = place before; text = t; docs = ds })) docs in
    record {
      token = λ more. ap (λ o. lex.before o more) token
          ∙ ap (λ f. cond f (record { kind = k; at = place before; text = t; docs = docs_before before } ∷ []) (record { kind = k; at = place before; text = t; docs = docs_before before } ∷ more)) is.no_fault
          ∙ sym (ap (λ ts. ts ++ more) (is.mine before p));
      stands = subst (λ d. Stands d (p ∷ before) z) (sym (cursor_found k s t z c found ∙ is.cursor (length s) (s ++ z) c)) (record {
        at = further c.at (length s) before p stands.at refl;
        brackets = subst (λ n. IsStack (lex.opened k c.at c.brackets) (back_over k n (open_before before))) stands.at (stack_step k c.at c.brackets (open_before before) stands.brackets);
        on = solid_line k p (line_of before) (lines_above before) z is refl;
      });
    }

-- ---- over whichever piece

inside_by : (b : ℕ) (z : List ℕ) → is_in_line b ≡ true → IsInside (b ∷ z)
inside_by b z e = record { byte = b; rest = z; is = refl; inside = e }

blank_inside : (b : ℕ) → is_blank b ≡ true → is_in_line b ≡ true
blank_inside b e = grind (arith, nat_tests)

letter_inside : (b : ℕ) → is_ascii_alphabetic b ≡ true → is_in_line b ≡ true
letter_inside b e = grind (arith, nat_tests)

digit_inside : (b : ℕ) → is_digit b ≡ true → is_in_line b ≡ true
digit_inside b e = grind (arith, nat_tests)

-- what a sign is
record IsPlain (b : ℕ) (k : Kind) : Type 0 where
  inside : is_in_line b ≡ true
  solid : is_solid k ≡ true

sign_plain : (b : ℕ) (k : Kind) → IsSign b k → IsPlain b k
sign_plain b k IsSign.open_brace = record { inside = refl; solid = refl }
sign_plain b k IsSign.close_brace = record { inside = refl; solid = refl }
sign_plain b k IsSign.open_parenthesis = record { inside = refl; solid = refl }
sign_plain b k IsSign.close_parenthesis = record { inside = refl; solid = refl }
sign_plain b k IsSign.open_bracket = record { inside = refl; solid = refl }
sign_plain b k IsSign.close_bracket = record { inside = refl; solid = refl }
sign_plain b k IsSign.comma = record { inside = refl; solid = refl }
sign_plain b k IsSign.colon = record { inside = refl; solid = refl }
sign_plain b k IsSign.equals = record { inside = refl; solid = refl }
sign_plain b k IsSign.question_mark = record { inside = refl; solid = refl }
sign_plain b k IsSign.dot = record { inside = refl; solid = refl }
sign_plain b k IsSign.at = record { inside = refl; solid = refl }

pass_piece : (k : Kind) (s t z : List ℕ) (c : Cursor) (before : List Piece) → Spells k s t → EndsBefore k z → IsFound k s t z → Stands c before (s ++ z) → Passes c before (record { kind = k; spelling = s; text = t }) z
pass_piece k s t z c before (Spells.blanks {b} {z = w} first every) ends found stands = pass_blanks (b ∷ w) [] z c before found (inside_by b (w ++ z) (blank_inside b first)) stands
pass_piece k s t z c before (Spells.comment {z = w} every) ends found stands = pass_comment (47 ∷ 47 ∷ w) [] z c before found ends (inside_by 47 (47 ∷ w ++ z) refl) stands
pass_piece k s t z c before Spells.newline ends found stands = pass_newline z c before found stands
pass_piece k s t z c before (Spells.name {b} {z = w} first every) ends found stands =
    pass_solid kind.Name (b ∷ w) (b ∷ w) z c before (solid kind.Name refl) found (inside_by b (w ++ z) (letter_inside b first)) stands
pass_piece k s t z c before (Spells.number {b} {z = w} first every) ends found stands =
    pass_solid kind.Number (b ∷ w) (b ∷ w) z c before (solid kind.Number refl) found (inside_by b (w ++ z) (digit_inside b first)) stands
pass_piece k s t z c before (Spells.negative {b} {z = w} first every) ends found stands =
    pass_solid kind.Number (45 ∷ b ∷ w) (45 ∷ b ∷ w) z c before (solid kind.Number refl) found (inside_by 45 (b ∷ w ++ z) refl) stands
pass_piece k s t z c before (Spells.string {content} {meaning} means) ends found stands =
    pass_solid kind.Text (34 ∷ content ++ 34 ∷ []) meaning z c before (solid kind.Text refl) found (inside_by 34 ((content ++ 34 ∷ []) ++ z) refl) stands
pass_piece k s t z c before (Spells.sign {b} {k = l} is) ends found stands =
    let plain = sign_plain b l is in
    pass_solid l (b ∷ []) [] z c before (solid l plain.solid) found (inside_by b z plain.inside) stands
pass_piece k s t z c before Spells.two_at ends found stands = pass_solid kind.AtAt (64 ∷ 64 ∷ []) [] z c before (solid kind.AtAt refl) found (inside_by 64 (64 ∷ z) refl) stands

-- ---- over all pieces

-- the lexer on a text whose front is found
tokens_step : (p : Piece) (z : List ℕ) (c : Cursor) → IsFound p.kind p.spelling p.text z
    → lex.tokens_from 0 c (p.spelling ++ z) ≡ lex.before (lex.token_at (p.spelling ++ z) c) (lex.tokens_from 0 (lex.cursor_at (p.spelling ++ z) c) z)
tokens_step p z c found =
    let count : (front (p.spelling ++ z)).1 ≡ length p.spelling = ap (λ f. f.1) found.found in
    let more : 0 < length (p.spelling ++ z) = omega (arith, found.some, length-append p.spelling z) in
    one_step (p.spelling ++ z) c more (omega (arith, found.some, count))
    ∙ ap (λ w. lex.before (lex.token_at (p.spelling ++ z) c) (lex.tokens_from 0 (lex.cursor_at (p.spelling ++ z) c) w)) (ap (λ n. drop n (p.spelling ++ z)) count ∙ drop_at p.spelling z (length p.spelling) refl)

cut_tokens : (last : List Piece → Token) (text rest : List ℕ) (ps : List Piece) → IsCut text ps rest → ((c : Cursor) (before : List Piece) → Stands c before rest → lex.tokens_from 0 c rest ≡ last before ∷ [])
    → (c : Cursor) (before : List Piece) → Stands c before text → lex.tokens_from 0 c text ≡ tokens_among last before ps
unfolding tokens_among
cut_tokens last text rest ps IsCut.none at_end c before stands = at_end c before stands
cut_tokens last text rest ps (IsCut.more {p} {ps = qs} {z} spells ends cut) at_end c before stands =
    let found = spelled_found p.kind p.spelling p.text z spells ends in
    let passes = pass_piece p.kind p.spelling p.text z c before spells ends found stands in
    tokens_step p z c found ∙ passes.token (lex.tokens_from 0 (lex.cursor_at (p.spelling ++ z) c) z)
    ∙ ap (λ ts. token_by p.kind before p ++ ts) (cut_tokens last z rest qs cut at_end (lex.cursor_at (p.spelling ++ z) c) (p ∷ before) passes.stands)

-- ---- the last token

end_same : (c : Cursor) (before : List Piece) → Stands c before [] → lex.tokens_from 0 c [] ≡ end_behind before ∷ []
unfolding lex.tokens_from lex.end_of
end_same c before stands =
    ap (λ o. lex.end_by o c.at ∷ []) (innermost_is c.brackets (open_before before) stands.brackets) ∙ ap (λ n. lex.end_by (innermost_open before) n ∷ []) stands.at
    ∙ ap (λ t. t ∷ []) (by_bracket (innermost_open before) (place before))
  where
    by_bracket : (o : Option Bracket) (n : ℕ) → lex.end_by o n ≡ end_in o n
    by_bracket None n = refl
    by_bracket (Some b) n = refl

fault_token : (k : Kind) (n : ℕ) (z : List ℕ) (c : Cursor) → is_fault k ≡ true → lex.token_by k n z c ≡ Some (lex.mark k (c.at + n))
fault_token kind.BadCharacter n z c e = refl
fault_token kind.Unclosed n z c e = refl
fault_token _ n z c e = absurd (cc)

fault_same : (z : List ℕ) (k : Kind) (n : ℕ) → Breaks z k n → (c : Cursor) (before : List Piece) → Stands c before z → lex.tokens_from 0 c z ≡ fault_behind k n before ∷ []
unfolding lex.token_at
fault_same z k n breaks c before stands =
    let fault = breaks_fault z k n breaks in
    let is : lex.token_at z c ≡ Some (lex.mark k (place before + n)) =
    ap (λ f. lex.token_by f.0 f.1 z c) (breaks_found z k n breaks) ∙ fault_token k n z c fault ∙ ap (λ m. Some (lex.mark k (m + n))) stands.at in
    last_of z c (lex.mark k (place before + n)) (breaks_some z k n breaks) (sym is) fault

-- ---- the tokens of a text

start_stands : (text : List ℕ) → Stands lex.start [] text
unfolding place open_before line_of lines_above is_empty doc_on docs_on nth turned
start_stands text = record { at = refl; brackets = record { stack = []; is = refl; each = λ n. refl }; on = IsLine.fresh refl refl refl }

-- no other tokens are those of a text
pub tokens_only : (text : List ℕ) (ts : List Token) → HasTokens text ts → ts ≡ lex.tokens_of text
unfolding lex.tokens_of
tokens_only text ts (HasTokens.whole {ps} cut) = sym (cut_tokens end_behind text [] ps cut end_same lex.start [] (start_stands text))
tokens_only text ts (HasTokens.broken {ps} {rest} {k} {n} cut breaks) = sym (cut_tokens (fault_behind k n) text rest ps cut (fault_same rest k n breaks) lex.start [] (start_stands text))

-- a text is cut to its end, or up to a fault
data IsCuttable : List ℕ → Type 0 where
  whole : {z : List ℕ} {ps : List Piece} → IsCut z ps [] → IsCuttable z
  broken : {z rest : List ℕ} {ps : List Piece} {k : Kind} {n : ℕ} → IsCut z ps rest → Breaks rest k n → IsCuttable z

one_more : (k : Kind) (s t z : List ℕ) → Spells k s t → EndsBefore k z → IsCuttable z → IsCuttable (s ++ z)
one_more k s t z spells ends (IsCuttable.whole {ps} cut) = IsCuttable.whole (IsCut.more {p = record { kind = k; spelling = s; text = t }} spells ends cut)
one_more k s t z spells ends (IsCuttable.broken cut breaks) = IsCuttable.broken (IsCut.more {p = record { kind = k; spelling = s; text = t }} spells ends cut) breaks

cut_front : (n : ℕ) (z : List ℕ) → HasFront z → length z ≤ suc n → ((w : List ℕ) → length w ≤ n → IsCuttable w) → IsCuttable z
cut_front n z (HasFront.piece {k} {s} {t} w spells ends) small again =
    let found = spelled_found k s t w spells ends in
    one_more k s t w spells ends (again w (omega (arith, found.some, length-append s w)))
cut_front n z (HasFront.breaks breaks) small again = IsCuttable.broken IsCut.none breaks

cut_within : (n : ℕ) (z : List ℕ) → length z ≤ n → IsCuttable z
cut_within n [] small = IsCuttable.whole IsCut.none
cut_within zero (b ∷ z) small = absurd (omega arith)
cut_within (suc n) (b ∷ z) small = cut_front n (b ∷ z) (has_front b z) small (λ w few. cut_within n w few)

has_tokens : (text : List ℕ) → IsCuttable text → HasTokens text (lex.tokens_of text)
has_tokens text (IsCuttable.whole {ps} cut) = subst (HasTokens text) (tokens_only text (tokens_among end_behind [] ps) (HasTokens.whole cut)) (HasTokens.whole cut)
has_tokens text (IsCuttable.broken {ps} {k} {n} cut breaks) = subst (HasTokens text) (tokens_only text (tokens_among (fault_behind k n) [] ps) (HasTokens.broken cut breaks)) (HasTokens.broken cut breaks)

-- the tokens that the lexer finds are those of the text
pub tokens_are : (text : List ℕ) → HasTokens text (lex.tokens_of text)
tokens_are text = has_tokens text (cut_within (length text) text (omega arith))
