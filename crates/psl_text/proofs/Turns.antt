-- A recursion on a count of turns, beside a loop that counts up.
use Rattle.std.proofs.Common.{◌≡◌, ℕ, zero, suc, ◌+◌, ◌-◌, ◌<◌, ◌≤◌, ap, ◌∙◌, arith, List}
use Rattle.psl_text.specs.declared.token.Kind.{Kind}
use Rattle.psl_text.specs.declared.token.Token.{Token}
use Rattle.psl_text.specs.declared.token.Kind.TheVariants as kind
use Rattle.psl_text.specs.declared.tree.Term.{Term}
use Rattle.psl_text.specs.declared.tree.Attribute.{Attribute}
use Rattle.psl_text.specs.declared.tree.Entry.{Entry}
use Rattle.psl_text.specs.declared.tree.Word.{Word}
use Rattle.psl_text.specs.declared.tree.Block.{Block}
use Rattle.psl_text.specs.Parser.{Parser, Outcome, separated, kind_of}
use Rattle.psl_text.specs.Grammar.{term_of, level, named_term, term_by, attributes_from, entries_from, blocks_from}

-- where a turn is left, and where none is
pub one_more : {A : Type 0} (x : Outcome (List A)) (item : Parser A) (close : Kind) (n at : ℕ) (found : List A) (ts : List Token)
    → at < n → x ≡ separated item close (n - at) found ts → x ≡ separated item close (suc (n - (at + 1))) found ts
one_more x item close n at found ts below e = let turn : n - at ≡ suc (n - (at + 1)) = omega arith in e ∙ ap (λ k. separated item close k found ts) turn

pub no_more : {A : Type 0} (x : Outcome (List A)) (item : Parser A) (close : Kind) (n at : ℕ) (found : List A) (ts : List Token)
    → n ≤ at → x ≡ separated item close (n - at) found ts → x ≡ separated item close zero found ts
no_more x item close n at found ts done e = let none : n - at ≡ zero = omega arith in e ∙ ap (λ k. separated item close k found ts) none

-- a term that may have levels
pub deeper : (n : ℕ) (ts : List Token) → 0 < n → term_of n ts ≡ level (term_of (n - 1)) ts
unfolding term_of
deeper zero ts some = absurd (omega arith)
deeper (suc n) ts some = let same : n ≡ suc n - 1 = omega arith in ap (λ k. level (term_of k) ts) same

pub level_name : (value : Parser Term) (ts : List Token) → kind_of ts ≡ kind.Name → level value ts ≡ named_term value ts
unfolding level
level_name value ts e = ap (λ k. term_by value k ts) e

pub level_bracket : (value : Parser Term) (ts : List Token) → kind_of ts ≡ kind.OpenBracket → level value ts ≡ term_by value kind.OpenBracket ts
unfolding level
level_bracket value ts e = ap (λ k. term_by value k ts) e

pub attributes_more : (x : Outcome (List Attribute)) (n at : ℕ) (found : List Attribute) (ts : List Token) → at < n → x ≡ attributes_from (n - at) found ts → x ≡ attributes_from (suc (n - (at + 1))) found ts
attributes_more x n at found ts below e = let turn : n - at ≡ suc (n - (at + 1)) = omega arith in e ∙ ap (λ k. attributes_from k found ts) turn

pub attributes_done : (x : Outcome (List Attribute)) (n at : ℕ) (found : List Attribute) (ts : List Token) → n ≤ at → x ≡ attributes_from (n - at) found ts → x ≡ attributes_from zero found ts
attributes_done x n at found ts done e = let none : n - at ≡ zero = omega arith in e ∙ ap (λ k. attributes_from k found ts) none

pub entries_more : (w : Word) (x : Outcome (List Entry)) (n at : ℕ) (found : List Entry) (ts : List Token) → at < n → x ≡ entries_from w (n - at) found ts → x ≡ entries_from w (suc (n - (at + 1))) found ts
entries_more w x n at found ts below e = let turn : n - at ≡ suc (n - (at + 1)) = omega arith in e ∙ ap (λ k. entries_from w k found ts) turn

pub entries_done : (w : Word) (x : Outcome (List Entry)) (n at : ℕ) (found : List Entry) (ts : List Token) → n ≤ at → x ≡ entries_from w (n - at) found ts → x ≡ entries_from w zero found ts
entries_done w x n at found ts done e = let none : n - at ≡ zero = omega arith in e ∙ ap (λ k. entries_from w k found ts) none

pub blocks_more : (x : Outcome (List Block)) (n at : ℕ) (found : List Block) (ts : List Token) → at < n → x ≡ blocks_from (n - at) found ts → x ≡ blocks_from (suc (n - (at + 1))) found ts
blocks_more x n at found ts below e = let turn : n - at ≡ suc (n - (at + 1)) = omega arith in e ∙ ap (λ k. blocks_from k found ts) turn

pub blocks_done : (x : Outcome (List Block)) (n at : ℕ) (found : List Block) (ts : List Token) → n ≤ at → x ≡ blocks_from (n - at) found ts → x ≡ blocks_from zero found ts
blocks_done x n at found ts done e = let none : n - at ≡ zero = omega arith in e ∙ ap (λ k. blocks_from k found ts) none
