use Rattle.std.proofs.Common.{◌≡◌, ◌+◌, ◌*◌, ◌-◌}
use Rattle.psl_text.specs.declared.token.Kind.TheVariants as kind
use Rattle.psl_text.specs.Parser.{separated}
use Rattle.psl_text.specs.Grammar.{argument, arguments, items, term_of}
use Rattle.psl_text.proofs.term.+term.Given as goal

abbrev pub decreases-argument : goal.decreases-argument
decreases-argument l = 4 * l.depth + 1

abbrev pub decreases-arguments : goal.decreases-arguments
decreases-arguments l = 4 * l.depth + 2

abbrev pub decreases-items : goal.decreases-items
decreases-items l = 4 * l.depth + 1

abbrev pub decreases-named_term : goal.decreases-named_term
decreases-named_term l = 4 * l.depth + 3

abbrev pub decreases-term : goal.decreases-term
decreases-term l = 4 * l.depth

abbrev pub invariant-arguments-loop-turn : goal.invariant-arguments-loop-turn
invariant-arguments-loop-turn l = arguments (term_of l.depth) l.fn.parser ≡ separated (argument (term_of l.depth)) kind.CloseParen (l._turn-end - l._turn) l.found l.parser

abbrev pub invariant-items-loop-turn : goal.invariant-items-loop-turn
invariant-items-loop-turn l = items (term_of l.depth) l.fn.parser ≡ separated (term_of l.depth) kind.CloseBracket (l._turn-end - l._turn) l.found l.parser
