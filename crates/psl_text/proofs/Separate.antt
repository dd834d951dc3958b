-- Items with commas between them: what is read is derived, and what is derived is read.
use Rattle.std.proofs.Common.{◌≡◌, ℕ, zero, suc, ◌<◌, ◌≤◌, true, false, cond, List, [], ◌∷◌, ◌++◌, length, Ok, inl, inr, refl, sym, ap, subst, ◌∙◌, arith, append_assoc}
use Rattle.std.proofs.lemmas.List.{append-nil}
use Rattle.psl_text.specs.declared.token.Kind.{Kind}
use Rattle.psl_text.specs.declared.token.Kind.TheVariants as kind
use Rattle.psl_text.specs.declared.token.Token.{Token}
use Rattle.psl_text.specs.Scan.{is_fault}
use Rattle.psl_text.specs.Parser.{kind_of, Parser, and_then, ◌>>=◌, ◌>>◌, pure, sees, same_kind, eat, expect, separated}
use Rattle.psl_text.specs.Derives.{Sign, Separated}
use Rattle.psl_text.proofs.Steps.{bind_ok, ok_value, ok_rest, IsInside, when_ok, when_yes, when_no, expect_ok, expect_sign, sign_other, sign_shrinks}

pub comma_inside : IsInside kind.Comma
unfolding same_kind
comma_inside = record { other = refl }

pub comma_self : same_kind kind.Comma kind.Comma ≡ true
unfolding same_kind
comma_self = refl

-- ---- what is read is derived

module _ {A : Type 0} (Item : List Token → A → List Token → Type 0) (item : Parser A) (close : Kind) (inside : IsInside close)
    (item_ok : (ts : List Token) (x : A) (us : List Token) → item ts ≡ Ok (x, us) → Item ts x us) where
  -- behind an item
  abbrev after : ℕ → List A → A → Parser (List A)
  after n found x = eat kind.Comma >>= λ goes_on. cond goes_on (separated item close n (found ++ x ∷ [])) (expect close >> pure (found ++ x ∷ []))

  pub separated_ok : (n : ℕ) (found : List A) (ts : List Token) (xs : List A) (rest : List Token) → separated item close n found ts ≡ Ok (xs, rest)
      → (ys : List A) × (xs ≡ found ++ ys) × Separated Item close ts ys rest
  unfolding separated
  separated_ok zero found ts xs rest e = absurd (cc)
  separated_ok (suc n) found ts xs rest e =
      elim (when_ok close ts (pure found) (item >>= after n found) xs rest inside e) [
        | inl closes ↦
            let same : closes.0 ≡ rest = ok_rest found xs closes.0 rest closes.2 in
            ([], sym (ok_value found xs closes.0 rest closes.2) ∙ sym (append-nil found), Separated.closed (subst (Sign close ts) same closes.1))
        | inr other ↦
            let step = bind_ok (item ts) (after n found) xs rest other.1 in
            let x = step.0 in
            let read : Item ts step.0 step.1 = item_ok ts step.0 step.1 step.2 in
            elim (when_ok kind.Comma step.1 (separated item close n (found ++ step.0 ∷ [])) (expect close >> pure (found ++ step.0 ∷ [])) xs rest comma_inside step.3) [
              | inl goes ↦
                  let later = separated_ok n (found ++ step.0 ∷ []) goes.0 xs rest goes.2 in
                  (step.0 ∷ later.0, later.1 ∙ append_assoc found (step.0 ∷ []) later.0, Separated.more read goes.1 later.2)
              | inr stops ↦
                  let closing = bind_ok (expect close step.1) (λ _. pure (found ++ step.0 ∷ [])) xs rest stops.1 in
                  let same : closing.1 ≡ rest = ok_rest (found ++ step.0 ∷ []) xs closing.1 rest closing.3 in
                  (step.0 ∷ [], sym (ok_value (found ++ step.0 ∷ []) xs closing.1 rest closing.3), Separated.last read (subst (Sign close step.1) same (expect_ok close step.1 closing.1 closing.0 inside closing.2)))
            ]
      ]

-- ---- what is derived is read

-- what a term or an item doesn't go on with
pub record Stops (ts : List Token) : Type 0 where
  pub no_arguments : sees kind.OpenParen ts ≡ false
  pub no_name : sees kind.Colon ts ≡ false
  pub no_dot : sees kind.Dot ts ≡ false
  pub no_fault : is_fault (kind_of ts) ≡ false

module _ {A : Type 0} (Item : List Token → A → List Token → Type 0) (item : Parser A) (close : Kind) (self : same_kind close close ≡ true) (other : same_kind close kind.Comma ≡ false)
    (closes : (ts us : List Token) → Sign close ts us → Stops ts)
    (commas : (ts us : List Token) → Sign kind.Comma ts us → Stops ts)
    (item_is : (ts : List Token) (x : A) (us : List Token) → Item ts x us → Stops us → item ts ≡ Ok (x, us))
    (begins : (ts : List Token) (x : A) (us : List Token) → Item ts x us → sees close ts ≡ false)
    (shrinks : (ts : List Token) (x : A) (us : List Token) → Item ts x us → length us < length ts) where
  abbrev then_on : ℕ → List A → A → Parser (List A)
  then_on n found x = eat kind.Comma >>= λ goes_on. cond goes_on (separated item close n (found ++ x ∷ [])) (expect close >> pure (found ++ x ∷ []))

  pub separated_is : (n : ℕ) (found : List A) (ts : List Token) (xs : List A) (rest : List Token) → Separated Item close ts xs rest → length ts ≤ n
      → separated item close n found ts ≡ Ok (found ++ xs, rest)
  unfolding separated
  separated_is zero found ts xs rest (Separated.closed s) small = absurd (omega (arith, sign_shrinks close ts rest s))
  separated_is zero found ts xs rest (Separated.last {us} {x} i s) small = absurd (omega (arith, shrinks ts x us i))
  separated_is zero found ts xs rest (Separated.more {us} {x} i s d) small = absurd (omega (arith, shrinks ts x us i))
  separated_is (suc n) found ts xs rest (Separated.closed s) small =
      when_yes close ts rest (pure found) (item >>= then_on n found) self s ∙ ap (λ zs. Ok (zs, rest)) (sym (append-nil found))
  separated_is (suc n) found ts xs rest (Separated.last {us} {x} i s) small =
      when_no close ts (pure found) (item >>= then_on n found) (begins ts x us i) ∙ ap (λ o. and_then o (then_on n found)) (item_is ts x us i (closes us rest s))
      ∙ when_no kind.Comma us (separated item close n (found ++ x ∷ [])) (expect close >> pure (found ++ x ∷ [])) (sign_other close kind.Comma us rest other s)
      ∙ ap (λ o. and_then o (λ _. pure (found ++ x ∷ []))) (expect_sign close us rest self s)
  separated_is (suc n) found ts xs rest (Separated.more {us} {vs} {x} {xs = ys} i s d) small =
      when_no close ts (pure found) (item >>= then_on n found) (begins ts x us i) ∙ ap (λ o. and_then o (then_on n found)) (item_is ts x us i (commas us vs s))
      ∙ when_yes kind.Comma us vs (separated item close n (found ++ x ∷ [])) (expect close >> pure (found ++ x ∷ [])) comma_self s
      ∙ separated_is n (found ++ x ∷ []) vs ys rest d (omega (arith, shrinks ts x us i, sign_shrinks kind.Comma us vs s))
      ∙ ap (λ zs. Ok (zs, rest)) (append_assoc found (x ∷ []) ys)
