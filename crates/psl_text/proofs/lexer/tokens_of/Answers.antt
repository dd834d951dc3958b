use Rattle.std.proofs.Common.{◌≡◌, false, true, List, ◌++◌, ◌∷◌, [], drop, sym, ◌∙◌, ap, Some, None}
use Rattle.psl_text.specs.declared.token.Token.{Token}
use Rattle.psl_text.specs.Scan.{is_fault}
use Rattle.psl_text.specs.Lex.{tokens_from, tokens_of, token_at, is_last}
use Rattle.psl_text.proofs.Tokens.{more_none, more_some, last_some, at_end}
use Rattle.psl_text.proofs.lexer.tokens_of.Goals as goal

pub returns-then-is_last : goal.returns-then-is_last
returns-then-is_last c =
    let t : Some c.in-Some.token ≡ token_at (drop c.text.cursor.at c.args.text.now) c.text.cursor = sym c.in-Some.is ∙ c.in_ok-token.ensures.token in
    let fault : is_fault c.in-Some.token.kind ≡ true = sym c.is_fault-is_last.ensures ∙ c.if-is_last.true in
    c.in_ok-push.ensures.ok ∙ last_some c.args.text.now c.text.tokens (tokens_of c.args.text.now) c.in-Some.token c.text.cursor c.text.invariant.0 c.text-test.true t fault

pub text-preserved-else-is_last : goal.text-preserved-else-is_last
text-preserved-else-is_last c =
    let t : Some c.in-Some.token ≡ token_at (drop c.text.cursor.at c.args.text.now) c.text.cursor = sym c.in-Some.is ∙ c.in_ok-token.ensures.token in
    let other : is_fault c.in-Some.token.kind ≡ false = sym c.is_fault-is_last.ensures ∙ c.if-is_last.false in
    let more : is_last c.in_ok-token.field-0 ≡ false = ap is_last c.in-Some.is ∙ other in
    let moves = c.in_ok-token.ensures.moves more in
    let now = more_some c.args.text.now c.text.tokens (tokens_of c.args.text.now) c.in-Some.token c.text.cursor c.step.new.self c.text.invariant.0 c.text-test.true moves (c.in_ok-token.ensures.cursor more) t other in
    (ap (λ (ts : List Token). ts ++ tokens_from 0 c.step.new.self (drop c.step.new.self.at c.args.text.now)) c.in_ok-push.ensures.ok ∙ now, moves.within)

pub text-preserved : goal.text-preserved
text-preserved c =
    let t : None ≡ token_at (drop c.text.cursor.at c.args.text.now) c.text.cursor = sym c.in_default.is ∙ c.in_ok-token.ensures.token in
    let more : is_last c.in_ok-token.field-0 ≡ false = ap is_last c.in_default.is in
    let moves = c.in_ok-token.ensures.moves more in
    (more_none c.args.text.now c.text.tokens (tokens_of c.args.text.now) c.text.cursor c.step.new.self c.text.invariant.0 c.text-test.true moves (c.in_ok-token.ensures.cursor more) t, moves.within)

pub returns : goal.returns
returns c = c.in_ok-push-2.ensures.ok ∙ ap (λ t. c.text.tokens ++ t ∷ []) c.in_ok-end.ensures ∙ at_end c.args.text.now c.text.tokens (tokens_of c.args.text.now) c.text.cursor c.text.invariant.0 c.text-test.false
