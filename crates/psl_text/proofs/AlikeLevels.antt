-- Terms of any depth, of tokens that begin alike.
use Rattle.std.proofs.Common.{◌≡◌, ℕ, zero, suc, ◌≤◌, cond, List, [], ◌∷◌, ◌++◌, length, Err, refl, ap, ◌∙◌, arith}
use Rattle.psl_text.specs.declared.fault.TextFault.{TextFault}
use Rattle.psl_text.specs.declared.token.Kind.{Kind}
use Rattle.psl_text.specs.declared.token.Kind.TheVariants as kind
use Rattle.psl_text.specs.declared.token.Token.{Token}
use Rattle.psl_text.specs.declared.tree.Name.{Name}
use Rattle.psl_text.specs.declared.tree.Term.{Term}
use Rattle.psl_text.specs.declared.tree.Term.TheVariants as term
use Rattle.psl_text.specs.Parser.{Parser, ◌>>=◌, pure, kind_of, eat, spelled, name, refusal}
use Rattle.psl_text.specs.Grammar.{arguments, items, named_term, term_by, level, term_of}
use Rattle.psl_text.specs.Derives.{Sign, IsTermOf, IsTerm}
use Rattle.psl_text.specs.Stops.{TermStopsOf, TermStops}
use Rattle.psl_text.proofs.Steps.{sign_shrinks}
use Rattle.psl_text.proofs.TermRules.{IsValue, sign_kind, name_inside, name_self, text_inside, text_self, number_inside, number_self, bracket_inside, bracket_self, paren_inside, paren_self}
use Rattle.psl_text.proofs.LevelRules.{term_value}
use Rattle.psl_text.proofs.FaultSteps.{sign_spelled}
use Rattle.psl_text.proofs.FaultTerms.{Judges}
use Rattle.psl_text.proofs.FaultLevels.{level_judges, term_judges}
use Rattle.psl_text.proofs.Alike.{alike_kind, kind_again, Lost, Keeps, Loses, keeps_pure, keeps_bind, keeps_spelled, keeps_when, taken_spelled, lost_here, lost_later, lost_yes}
use Rattle.psl_text.proofs.AlikeTerms.{Local, arguments_keep, arguments_lose, items_keep, items_lose}

pub no_longer : (front us : List Token) → length us ≤ length (front ++ us)
no_longer [] us = omega arith
no_longer (t ∷ front) us = omega (arith, no_longer front us)

module _ (value : Parser Term) (Value : List Token → Term → List Token → Type 0) (ValueStops : List Token → List Token → Type 0) (is : IsValue value Value) (judges : Judges value Value ValueStops)
    (local : Local value Value ValueStops) where
  abbrev call_of : Name → Parser Term
  call_of n = arguments value >>= λ given. pure (term.Call n given)

  -- behind a name
  abbrev behind_name : Name → Parser Term
  behind_name n = eat kind.OpenParen >>= λ opens. cond opens (call_of n) (pure (term.Name n))

  abbrev list_of : Name → Parser Term
  list_of n = items value >>= λ xs. pure (term.List xs n.at)

  term_keeps : (k : Kind) → Keeps (term_by value k)
  unfolding named_term
  term_keeps kind.Text = keeps_bind (spelled kind.Text) (λ n. pure (term.Text n.text n.at)) (keeps_spelled kind.Text text_inside text_self) (λ n. keeps_pure (term.Text n.text n.at))
  term_keeps kind.Number = keeps_bind (spelled kind.Number) (λ n. pure (term.Number n.text n.at)) (keeps_spelled kind.Number number_inside number_self) (λ n. keeps_pure (term.Number n.text n.at))
  term_keeps kind.Name = keeps_bind name behind_name (keeps_spelled kind.Name name_inside name_self) (λ n. keeps_when kind.OpenParen paren_inside paren_self (call_of n) (pure (term.Name n))
      (keeps_bind (arguments value) (λ given. pure (term.Call n given)) (arguments_keep value Value ValueStops is judges local) (λ given. keeps_pure (term.Call n given))) (keeps_pure (term.Name n)))
  term_keeps kind.OpenBracket = keeps_bind (spelled kind.OpenBracket) list_of (keeps_spelled kind.OpenBracket bracket_inside bracket_self)
      (λ n. keeps_bind (items value) (λ xs. pure (term.List xs n.at)) (items_keep value Value ValueStops is judges local) (λ xs. keeps_pure (term.List xs n.at)))
  term_keeps _ = λ ts v us e. absurd (cc)

  level_keeps : Keeps (level value)
  unfolding level
  level_keeps ts v us e =
      let t = term_keeps (kind_of ts) ts v us e in
      record { front = t.front; split = t.split; again = λ vs a. ap (λ k. term_by value k (t.front ++ vs)) (kind_again ts t.front us vs t.split a) ∙ t.again vs a }

  level_lost : (k : Kind) (ts us : List Token) → kind_of ts ≡ k → Lost (term_by value k) ts us → Lost (level value) ts us
  unfolding level
  level_lost k ts us e l = record {
    front = l.front;
    split = l.split;
    again = λ vs a. let h = l.again vs a in (h.0, ap (λ j. term_by value j (l.front ++ vs)) (kind_again ts l.front us vs l.split a ∙ e) ∙ h.1);
  }

  level_loses : Loses (level value) (TermStopsOf Value ValueStops)
  unfolding named_term
  level_loses ts us (TermStopsOf.begins a b c d) = record {
    front = [];
    split = refl;
    again = λ vs al.
        let same = alike_kind ts vs al in
        (refusal vs, (level_judges value Value ValueStops is judges).refuses.stops vs vs (TermStopsOf.begins (λ e. a (same ∙ e)) (λ e. b (same ∙ e)) (λ e. c (same ∙ e)) (λ e. d (same ∙ e))));
  }
  level_loses ts us (TermStopsOf.call {us = mid} {vs = next} s p d) =
      let n = sign_spelled kind.Name ts mid s in
      level_lost kind.Name ts us (sign_kind kind.Name ts mid s) (lost_later name behind_name ts n.0 mid us (taken_spelled kind.Name name_inside name_self ts n.0 mid n.1)
      (lost_yes kind.OpenParen paren_inside paren_self (call_of n.0) (pure (term.Name n.0)) mid next us p
      (lost_here (arguments value) (λ given. pure (term.Call n.0 given)) next us (arguments_lose value Value ValueStops is judges local next us d))))
  level_loses ts us (TermStopsOf.list {us = mid} s d) =
      let n = sign_spelled kind.OpenBracket ts mid s in
      level_lost kind.OpenBracket ts us (sign_kind kind.OpenBracket ts mid s) (lost_later (spelled kind.OpenBracket) list_of ts n.0 mid us (taken_spelled kind.OpenBracket bracket_inside bracket_self ts n.0 mid n.1)
      (lost_here (items value) (λ xs. pure (term.List xs n.0.at)) mid us (items_lose value Value ValueStops is judges local mid us d)))

  level_deep : (ts us zs : List Token) → TermStopsOf Value ValueStops ts us → ts ≡ us → Sign kind.Name ts zs → (qs : List Token) → (e : TextFault) × (level value qs ≡ Err e)
  level_deep ts us zs (TermStopsOf.begins a b c d) same s qs = absurd (c (sign_kind kind.Name ts zs s))
  level_deep ts us zs (TermStopsOf.call {us = mid} {vs = next} t p d) same s qs =
      let l = arguments_lose value Value ValueStops is judges local next us d in
      let split : length next ≡ length (l.front ++ us) = ap (λ ws. length ws) l.split in
      let whole : length ts ≡ length us = ap (λ ws. length ws) same in
      absurd (omega (arith, split, whole, no_longer l.front us, sign_shrinks kind.Name ts mid t, sign_shrinks kind.OpenParen mid next p))
  level_deep ts us zs (TermStopsOf.list {us = mid} t d) same s qs = let a = sign_kind kind.OpenBracket ts mid t in let b = sign_kind kind.Name ts zs s in absurd (cc)

  pub level_local : Local (level value) (IsTermOf Value) (TermStopsOf Value ValueStops)
  level_local = record { keeps = level_keeps; loses = level_loses; deep = level_deep }

-- a term of any depth
pub term_local : (depth : ℕ) → Local (term_of depth) (IsTerm depth) (TermStops depth)
unfolding term_of IsTerm TermStops
term_local zero = record {
  keeps = λ ts v us e. absurd (cc);
  loses = λ ts us s. record { front = []; split = s; again = λ vs a. (refusal vs, refl) };
  deep = λ ts us zs s same n qs. (refusal qs, refl);
}
term_local (suc depth) = level_local (term_of depth) (IsTerm depth) (TermStops depth) (term_value depth) (term_judges depth) (term_local depth)
