-- Items with commas between them: what is refused stops so, and what stops is refused so.
use Rattle.std.proofs.Common.{◌≡◌, ◌≢◌, ℕ, zero, suc, ◌<◌, ◌≤◌, false, cond, List, [], ◌∷◌, ◌++◌, length, Ok, Err, inl, inr, refl, sym, ap, subst, ◌∙◌, arith}
use Rattle.psl_text.specs.declared.fault.TextFault.{TextFault}
use Rattle.psl_text.specs.declared.token.Kind.{Kind}
use Rattle.psl_text.specs.declared.token.Kind.TheVariants as kind
use Rattle.psl_text.specs.declared.token.Token.{Token}
use Rattle.psl_text.specs.Parser.{Parser, ◌>>=◌, ◌>>◌, pure, kind_of, sees, eat, expect, separated, refusal}
use Rattle.psl_text.specs.Derives.{Sign}
use Rattle.psl_text.specs.Stops.{Misses, SeparatedStops}
use Rattle.psl_text.proofs.Steps.{IsInside, when_yes, when_no, sign_shrinks}
use Rattle.psl_text.proofs.Separate.{Stops, comma_inside, comma_self}
use Rattle.psl_text.proofs.FaultSteps.{refused, ok_not_err, faults_same, bind_err, bind_stops, bind_goes, sees_misses, misses_sees, when_split, expect_err, expect_misses, Refuses, Reaches, whole_read, whole_is}

pub empty_of : (ts : List Token) → length ts ≤ 0 → ts ≡ []
empty_of [] small = refl
empty_of (t ∷ ts) small = absurd (omega arith)

-- no kind within the tokens is that of their end
pub end_misses : (k : Kind) → IsInside k → kind_of [] ≢ k
unfolding sees kind_of
end_misses k inside = sees_misses k [] inside.other

module _ {A : Type 0} (Item : List Token → A → List Token → Type 0) (ItemStops : List Token → List Token → Type 0) (Left : List Token → Type 0) (item : Parser A) (close : Kind) (inside : IsInside close)
    (item_ok : (ts : List Token) (x : A) (us : List Token) → item ts ≡ Ok (x, us) → Item ts x us) (refuses : Refuses item ItemStops) (reaches : Reaches item Left Item)
    (item_is : (ts : List Token) (x : A) (us : List Token) → Item ts x us → Stops us → item ts ≡ Ok (x, us)) (commas : (ts us : List Token) → Sign kind.Comma ts us → Stops ts)
    (begins : (ts : List Token) (x : A) (us : List Token) → Item ts x us → sees close ts ≡ false)
    (shrinks : (ts : List Token) (x : A) (us : List Token) → Item ts x us → length us < length ts) (none : item [] ≡ refused []) where
  -- behind an item
  abbrev then_on : ℕ → List A → A → Parser (List A)
  then_on n found x = eat kind.Comma >>= λ goes_on. cond goes_on (separated item close n (found ++ x ∷ [])) (expect close >> pure (found ++ x ∷ []))

  nothing_left : (ts : List Token) (e : TextFault) → length ts ≤ 0 → refused {A = List A} ts ≡ Err e → (us : List Token) × SeparatedStops Item ItemStops close ts us × (e ≡ refusal us)
  nothing_left [] e small h =
      let s = refuses.found [] (refusal []) none in
      let same : e ≡ refusal [] = faults_same (refused {A = List A} []) e (refusal []) h refl in
      (s.0, SeparatedStops.item (end_misses close inside) s.1, same ∙ s.2)
  nothing_left (t ∷ ts) e small h = absurd (omega arith)

  pub separated_found : (n : ℕ) (found : List A) (ts : List Token) (e : TextFault) → length ts ≤ n → separated item close n found ts ≡ Err e → (us : List Token) × SeparatedStops Item ItemStops close ts us × (e ≡ refusal us)
  unfolding separated
  separated_found zero found ts e small h = nothing_left ts e small h
  separated_found (suc n) found ts e small h =
      elim (when_split close ts (pure found) (item >>= then_on n found) (Err e) inside h) [
        | inl closes ↦ absurd (ok_not_err (pure found closes.0) found closes.0 e refl closes.2)
        | inr other ↦ elim (bind_err (item ts) (then_on n found) e other.1) [
          | inl bad ↦ let s = refuses.found ts e bad in (s.0, SeparatedStops.item (sees_misses close ts other.0) s.1, s.2)
          | inr step ↦
              let read : Item ts step.0 step.1 = item_ok ts step.0 step.1 step.2 in
              elim (when_split kind.Comma step.1 (separated item close n (found ++ step.0 ∷ [])) (expect close >> pure (found ++ step.0 ∷ [])) (Err e) comma_inside step.3) [
                | inl goes ↦
                    let later = separated_found n (found ++ step.0 ∷ []) goes.0 e (omega (arith, shrinks ts step.0 step.1 read, sign_shrinks kind.Comma step.1 goes.0 goes.1)) goes.2 in
                    (later.0, SeparatedStops.later read goes.1 later.1, later.2)
                | inr stops ↦ elim (bind_err (expect close step.1) (λ _. pure (found ++ step.0 ∷ [])) e stops.1) [
                  | inl bad ↦ close_missed ts step.0 step.1 e step.2 stops.0 (expect_err close step.1 e bad)
                  | inr closing ↦ absurd (ok_not_err (pure (found ++ step.0 ∷ []) closing.1) (found ++ step.0 ∷ []) closing.1 e refl closing.3)
                ]
              ]
        ]
      ]
    where
      close_missed : (ts : List Token) (x : A) (us : List Token) (e : TextFault) → item ts ≡ Ok (x, us) → sees kind.Comma us ≡ false → ((vs : List Token) × Misses close us vs × (e ≡ refusal vs)) → (vs : List Token) × SeparatedStops Item ItemStops close ts vs × (e ≡ refusal vs)
      close_missed ts x us e read no_comma (vs, Misses.misses differs, same) = (us, SeparatedStops.behind (whole_read Item ItemStops Left item item_ok refuses reaches ts x us read) (sees_misses kind.Comma us no_comma) differs, same)

  nothing_stops : (ts us : List Token) → length ts ≤ 0 → SeparatedStops Item ItemStops close ts us → refused {A = List A} ts ≡ Err (refusal us)
  nothing_stops ts us small (SeparatedStops.item differs s) =
      let e : ts ≡ [] = empty_of ts small in
      let first : item ts ≡ refused ts = subst (λ zs. item zs ≡ refused zs) (sym e) none in
      ap (λ f. Err f) (faults_same (item ts) (refusal ts) (refusal us) first (refuses.stops ts us s))
  nothing_stops ts us small (SeparatedStops.behind {x} w a b) = absurd (omega (arith, shrinks ts x us w.is))
  nothing_stops ts us small (SeparatedStops.later {us = vs} {x} i s d) = absurd (omega (arith, shrinks ts x vs i))

  pub separated_stops : (n : ℕ) (found : List A) (ts us : List Token) → length ts ≤ n → SeparatedStops Item ItemStops close ts us → separated item close n found ts ≡ Err (refusal us)
  unfolding separated
  separated_stops zero found ts us small d = nothing_stops ts us small d
  separated_stops (suc n) found ts us small (SeparatedStops.item differs s) =
      when_no close ts (pure found) (item >>= then_on n found) (misses_sees close ts differs) ∙ bind_stops (item ts) (then_on n found) (refusal us) (refuses.stops ts us s)
  separated_stops (suc n) found ts us small (SeparatedStops.behind {x} w no_comma no_close) =
      when_no close ts (pure found) (item >>= then_on n found) (begins ts x us w.is)
      ∙ bind_goes (item ts) (then_on n found) x us (whole_is Item ItemStops Left item item_ok refuses reaches ts x us w)
      ∙ when_no kind.Comma us (separated item close n (found ++ x ∷ [])) (expect close >> pure (found ++ x ∷ [])) (misses_sees kind.Comma us no_comma)
      ∙ bind_stops (expect close us) (λ _. pure (found ++ x ∷ [])) (refusal us) (expect_misses close us us (Misses.misses no_close))
  separated_stops (suc n) found ts rest small (SeparatedStops.later {us} {vs} {x} i s d) =
      when_no close ts (pure found) (item >>= then_on n found) (begins ts x us i)
      ∙ bind_goes (item ts) (then_on n found) x us (item_is ts x us i (commas us vs s))
      ∙ when_yes kind.Comma us vs (separated item close n (found ++ x ∷ [])) (expect close >> pure (found ++ x ∷ [])) comma_self s
      ∙ separated_stops n (found ++ x ∷ []) vs rest (omega (arith, shrinks ts x us i, sign_shrinks kind.Comma us vs s)) d
