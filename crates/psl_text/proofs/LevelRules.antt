-- Terms of any depth: what is read is derived, and what is derived is read.
use Rattle.std.proofs.Common.{◌≡◌, ℕ, zero, suc, ◌<◌, false, cond, List, length, None, Ok, inl, inr, refl, ap, subst, ◌∙◌, arith}
use Rattle.psl_text.specs.declared.token.Kind.{Kind}
use Rattle.psl_text.specs.declared.token.Kind.TheVariants as kind
use Rattle.psl_text.specs.declared.token.Token.{Token}
use Rattle.psl_text.specs.declared.tree.Term.{Term}
use Rattle.psl_text.specs.declared.tree.Term.TheVariants as term
use Rattle.psl_text.specs.Scan.{is_fault}
use Rattle.psl_text.specs.Parser.{Parser, and_then, ◌>>=◌, pure, sees, same_kind, kind_of, eat, spelled, name}
use Rattle.psl_text.specs.Grammar.{argument_name, arguments, items, named_term, term_by, level, term_of}
use Rattle.psl_text.specs.Derives.{Sign, Separated, IsArgument, IsTermOf, IsTerm}
use Rattle.psl_text.proofs.Steps.{bind_ok, ok_value, ok_rest, when_ok, when_yes, when_no, spelled_ok, spelled_is, spelled_sees, sign_other, sign_shrinks}
use Rattle.psl_text.proofs.Separate.{Stops}
use Rattle.psl_text.proofs.TermRules.{IsValue, sign_kind, unnamed_name, unnamed_other, arguments_ok, arguments_is, items_ok, items_is, argument_shrinks, name_inside, name_self, text_inside, text_self, number_inside, number_self, bracket_inside, bracket_self, paren_inside, paren_self}

pub separated_shrinks : {A : Type 0} (Item : List Token → A → List Token → Type 0) (close : Kind) → ((ts : List Token) (x : A) (us : List Token) → Item ts x us → length us < length ts)
    → (ts : List Token) (xs : List A) (rest : List Token) → Separated Item close ts xs rest → length rest < length ts
separated_shrinks Item close shrinks ts xs rest (Separated.closed s) = sign_shrinks close ts rest s
separated_shrinks Item close shrinks ts xs rest (Separated.last {us} {x} i s) = omega (arith, shrinks ts x us i, sign_shrinks close us rest s)
separated_shrinks Item close shrinks ts xs rest (Separated.more {us} {vs} {x} {xs = ys} i s d) =
    omega (arith, shrinks ts x us i, sign_shrinks kind.Comma us vs s, separated_shrinks Item close shrinks vs ys rest d)

module _ (value : Parser Term) (Value : List Token → Term → List Token → Type 0) (is : IsValue value Value) where
  -- ---- what is read is derived

  named_term_ok : (ts : List Token) (v : Term) (rest : List Token) → named_term value ts ≡ Ok (v, rest) → IsTermOf Value ts v rest
  unfolding named_term
  named_term_ok ts v rest e =
      let first = bind_ok (name ts) (λ n. eat kind.OpenParen >>= λ opens. cond opens (arguments value >>= λ given. pure (term.Call n given)) (pure (term.Name n))) v rest e in
      let called = spelled_ok kind.Name ts first.1 first.0 name_inside first.2 in
      elim (when_ok kind.OpenParen first.1 (arguments value >>= λ given. pure (term.Call first.0 given)) (pure (term.Name first.0)) v rest paren_inside first.3) [
        | inl opens ↦
            let given = bind_ok (arguments value opens.0) (λ xs. pure (term.Call first.0 xs)) v rest opens.2 in
            let whole = IsTermOf.call called opens.1 (arguments_ok value Value is opens.0 given.0 given.1 given.2) in
            subst (λ zs. IsTermOf Value ts v zs) (ok_rest (term.Call first.0 given.0) v given.1 rest given.3) (subst (λ x. IsTermOf Value ts x given.1) (ok_value (term.Call first.0 given.0) v given.1 rest given.3) whole)
        | inr other ↦
            subst (λ zs. IsTermOf Value ts v zs) (ok_rest (term.Name first.0) v first.1 rest other.1) (subst (λ x. IsTermOf Value ts x first.1) (ok_value (term.Name first.0) v first.1 rest other.1) (IsTermOf.name called))
      ]

  term_by_ok : (k : Kind) (ts : List Token) (v : Term) (rest : List Token) → term_by value k ts ≡ Ok (v, rest) → IsTermOf Value ts v rest
  term_by_ok kind.Text ts v rest e =
      let first = bind_ok (spelled kind.Text ts) (λ n. pure (term.Text n.text n.at)) v rest e in
      let whole = IsTermOf.text (spelled_ok kind.Text ts first.1 first.0 text_inside first.2) in
      subst (λ zs. IsTermOf Value ts v zs) (ok_rest (term.Text first.0.text first.0.at) v first.1 rest first.3) (subst (λ x. IsTermOf Value ts x first.1) (ok_value (term.Text first.0.text first.0.at) v first.1 rest first.3) whole)
  term_by_ok kind.Number ts v rest e =
      let first = bind_ok (spelled kind.Number ts) (λ n. pure (term.Number n.text n.at)) v rest e in
      let whole = IsTermOf.number (spelled_ok kind.Number ts first.1 first.0 number_inside first.2) in
      subst (λ zs. IsTermOf Value ts v zs) (ok_rest (term.Number first.0.text first.0.at) v first.1 rest first.3) (subst (λ x. IsTermOf Value ts x first.1) (ok_value (term.Number first.0.text first.0.at) v first.1 rest first.3) whole)
  term_by_ok kind.Name ts v rest e = named_term_ok ts v rest e
  term_by_ok kind.OpenBracket ts v rest e =
      let first = bind_ok (spelled kind.OpenBracket ts) (λ n. items value >>= λ xs. pure (term.List xs n.at)) v rest e in
      let second = bind_ok (items value first.1) (λ xs. pure (term.List xs first.0.at)) v rest first.3 in
      let whole = IsTermOf.list (spelled_ok kind.OpenBracket ts first.1 first.0 bracket_inside first.2) (items_ok value Value is first.1 second.0 second.1 second.2) in
      subst (λ zs. IsTermOf Value ts v zs) (ok_rest (term.List second.0 first.0.at) v second.1 rest second.3) (subst (λ x. IsTermOf Value ts x second.1) (ok_value (term.List second.0 first.0.at) v second.1 rest second.3) whole)
  term_by_ok _ ts v rest e = absurd (cc)

  level_ok : (ts : List Token) (v : Term) (rest : List Token) → level value ts ≡ Ok (v, rest) → IsTermOf Value ts v rest
  unfolding level
  level_ok ts v rest e = term_by_ok (kind_of ts) ts v rest e

  -- ---- what is derived is read

  pub by_kind : (k : Kind) (ts us : List Token) → Sign k ts us → level value ts ≡ term_by value k ts
  unfolding level
  by_kind k ts us s = ap (λ l. term_by value l ts) (sign_kind k ts us s)

  level_is : (ts : List Token) (v : Term) (rest : List Token) → IsTermOf Value ts v rest → Stops rest → level value ts ≡ Ok (v, rest)
  unfolding named_term
  level_is ts v rest (IsTermOf.text {n} s) stop =
      by_kind kind.Text ts rest (spelled_sees kind.Text ts n rest s) ∙ ap (λ o. and_then o (λ m. pure (term.Text m.text m.at))) (spelled_is kind.Text ts rest n text_self s)
  level_is ts v rest (IsTermOf.number {n} s) stop =
      by_kind kind.Number ts rest (spelled_sees kind.Number ts n rest s) ∙ ap (λ o. and_then o (λ m. pure (term.Number m.text m.at))) (spelled_is kind.Number ts rest n number_self s)
  level_is ts v rest (IsTermOf.name {n} s) stop =
      by_kind kind.Name ts rest (spelled_sees kind.Name ts n rest s)
      ∙ ap (λ o. and_then o (λ m. eat kind.OpenParen >>= λ opens. cond opens (arguments value >>= λ given. pure (term.Call m given)) (pure (term.Name m)))) (spelled_is kind.Name ts rest n name_self s)
      ∙ when_no kind.OpenParen rest (arguments value >>= λ given. pure (term.Call n given)) (pure (term.Name n)) stop.no_arguments
  level_is ts v rest (IsTermOf.call {us} {vs} {n} {given} s p d) stop =
      by_kind kind.Name ts us (spelled_sees kind.Name ts n us s)
      ∙ ap (λ o. and_then o (λ m. eat kind.OpenParen >>= λ opens. cond opens (arguments value >>= λ xs. pure (term.Call m xs)) (pure (term.Name m)))) (spelled_is kind.Name ts us n name_self s)
      ∙ when_yes kind.OpenParen us vs (arguments value >>= λ xs. pure (term.Call n xs)) (pure (term.Name n)) paren_self p
      ∙ ap (λ o. and_then o (λ xs. pure (term.Call n xs))) (arguments_is value Value is vs given rest d)
  level_is ts v rest (IsTermOf.list {us} {n} {given} s d) stop =
      by_kind kind.OpenBracket ts us (spelled_sees kind.OpenBracket ts n us s)
      ∙ ap (λ o. and_then o (λ m. items value >>= λ xs. pure (term.List xs m.at))) (spelled_is kind.OpenBracket ts us n bracket_self s)
      ∙ ap (λ o. and_then o (λ xs. pure (term.List xs n.at))) (items_is value Value is us given rest d)

  -- ---- how a term begins

  begins_not : (l : Kind) (ts : List Token) (v : Term) (rest : List Token) → same_kind kind.Text l ≡ false → same_kind kind.Number l ≡ false → same_kind kind.Name l ≡ false → same_kind kind.OpenBracket l ≡ false
      → IsTermOf Value ts v rest → sees l ts ≡ false
  begins_not l ts v rest a b c d (IsTermOf.text {n} s) = sign_other kind.Text l ts rest a (spelled_sees kind.Text ts n rest s)
  begins_not l ts v rest a b c d (IsTermOf.number {n} s) = sign_other kind.Number l ts rest b (spelled_sees kind.Number ts n rest s)
  begins_not l ts v rest a b c d (IsTermOf.name {n} s) = sign_other kind.Name l ts rest c (spelled_sees kind.Name ts n rest s)
  begins_not l ts v rest a b c d (IsTermOf.call {us} {n} s p x) = sign_other kind.Name l ts us c (spelled_sees kind.Name ts n us s)
  begins_not l ts v rest a b c d (IsTermOf.list {us} {n} s x) = sign_other kind.OpenBracket l ts us d (spelled_sees kind.OpenBracket ts n us s)

  level_no_paren : (ts : List Token) (v : Term) (rest : List Token) → IsTermOf Value ts v rest → sees kind.CloseParen ts ≡ false
  unfolding same_kind
  level_no_paren ts v rest h = begins_not kind.CloseParen ts v rest refl refl refl refl h

  level_no_bracket : (ts : List Token) (v : Term) (rest : List Token) → IsTermOf Value ts v rest → sees kind.CloseBracket ts ≡ false
  unfolding same_kind
  level_no_bracket ts v rest h = begins_not kind.CloseBracket ts v rest refl refl refl refl h

  level_unnamed : (ts : List Token) (v : Term) (rest : List Token) → IsTermOf Value ts v rest → Stops rest → argument_name ts ≡ Ok (None, ts)
  unfolding same_kind sees
  level_unnamed ts v rest (IsTermOf.text {n} s) stop = unnamed_other kind.Text ts rest refl (spelled_sees kind.Text ts n rest s)
  level_unnamed ts v rest (IsTermOf.number {n} s) stop = unnamed_other kind.Number ts rest refl (spelled_sees kind.Number ts n rest s)
  level_unnamed ts v rest (IsTermOf.name {n} s) stop = unnamed_name ts rest n s stop.no_name stop.no_fault
  level_unnamed ts v rest (IsTermOf.call {us} {vs} {n} s p d) stop =
      let k = sign_kind kind.OpenParen us vs p in
      unnamed_name ts us n s (ap (λ l. same_kind l kind.Colon) k) (ap is_fault k)
  level_unnamed ts v rest (IsTermOf.list {us} {n} s d) stop = unnamed_other kind.OpenBracket ts us refl (spelled_sees kind.OpenBracket ts n us s)

  level_shrinks : (ts : List Token) (v : Term) (rest : List Token) → IsTermOf Value ts v rest → length rest < length ts
  level_shrinks ts v rest (IsTermOf.text {n} s) = sign_shrinks kind.Text ts rest (spelled_sees kind.Text ts n rest s)
  level_shrinks ts v rest (IsTermOf.number {n} s) = sign_shrinks kind.Number ts rest (spelled_sees kind.Number ts n rest s)
  level_shrinks ts v rest (IsTermOf.name {n} s) = sign_shrinks kind.Name ts rest (spelled_sees kind.Name ts n rest s)
  level_shrinks ts v rest (IsTermOf.call {us} {vs} {n} {given} s p d) =
      omega (arith, sign_shrinks kind.Name ts us (spelled_sees kind.Name ts n us s), sign_shrinks kind.OpenParen us vs p, separated_shrinks (IsArgument Value) kind.CloseParen (argument_shrinks value Value is) vs given rest d)
  level_shrinks ts v rest (IsTermOf.list {us} {n} {given} s d) =
      omega (arith, sign_shrinks kind.OpenBracket ts us (spelled_sees kind.OpenBracket ts n us s), separated_shrinks Value kind.CloseBracket is.shrinks us given rest d)

  pub level_value : IsValue (level value) (IsTermOf Value)
  level_value = record {
    read = level_ok;
    found = level_is;
    no_paren = level_no_paren;
    no_bracket = level_no_bracket;
    unnamed = level_unnamed;
    shrinks = level_shrinks;
  }

-- a term of any depth
pub term_value : (depth : ℕ) → IsValue (term_of depth) (IsTerm depth)
unfolding term_of IsTerm
term_value zero = record {
  read = λ ts v us e. absurd (cc);
  found = λ ts v us h stop. absurd h;
  no_paren = λ ts v us h. absurd h;
  no_bracket = λ ts v us h. absurd h;
  unnamed = λ ts v us h stop. absurd h;
  shrinks = λ ts v us h. absurd h;
}
term_value (suc depth) = level_value (term_of depth) (IsTerm depth) (term_value depth)
