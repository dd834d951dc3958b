use Rattle.std.proofs.Common.{◌≡◌, ◌-◌, sym, subst, ◌∙◌, rules, arith}
use Rattle.std.proofs.lemmas.Grind.{common_steps}
use Rattle.psl_text.specs.declared.token.Kind.TheVariants as kind
use Rattle.psl_text.specs.Parser.{Reads, separated}
use Rattle.psl_text.specs.Grammar.{argument, arguments, items, term_of}
use Rattle.psl_text.proofs.Turns.{one_more, deeper, level_name, level_bracket}
use Rattle.psl_text.proofs.term.+term.Goals as goal

pub arguments-loop-turn-preserved : goal.arguments-loop-turn-preserved
unfolding separated
arguments-loop-turn-preserved t c =
    let e = one_more (arguments (term_of c.args.depth) c.args.parser.now) (argument (term_of c.args.depth)) kind.CloseParen c.left-turn-end.result c.loop-turn._turn c.loop-turn.found c.loop-turn.parser c.loop-turn-test.true c.loop-turn.invariant in
    first_of (search rules, grind (arith, common_steps))

pub items-loop-turn-preserved : goal.items-loop-turn-preserved
unfolding separated
items-loop-turn-preserved t c =
    let e = one_more (items (term_of c.args.depth) c.args.parser.now) (term_of c.args.depth) kind.CloseBracket c.left-turn-end.result c.loop-turn._turn c.loop-turn.found c.loop-turn.parser c.loop-turn-test.true c.loop-turn.invariant in
    first_of (search rules, grind (arith, common_steps))

pub term-returns-in_err-items-in-OpenBracket : goal.term-returns-in_err-items-in-OpenBracket
term-returns-in_err-items-in-OpenBracket t c =
    let e : term_of c.args.depth c.args.parser.now ≡ _ = deeper c.args.depth c.args.parser.now (omega arith) ∙ level_bracket (term_of (c.args.depth - 1)) c.args.parser.now (sym c.peek.ensures ∙ c.in-OpenBracket.is) in
    first_of (search rules, grind (arith, common_steps))

pub term-returns-in-Name : goal.term-returns-in-Name
term-returns-in-Name t c =
    let e = deeper c.args.depth c.args.parser.now (omega arith) ∙ level_name (term_of (c.args.depth - 1)) c.args.parser.now (sym c.peek.ensures ∙ c.in-Name.is) in
    subst (λ o. Reads o c.named_term.result c.named_term.new.parser) (sym e) c.named_term.ensures
