-- Taking some lines, and then more.
use Rattle.std.proofs.Common.{◌≡◌, ℕ, List, [], ◌∷◌, ◌++◌, Bool, true, false, refl, sym, ap, ◌∙◌, subst, append_assoc}
use Rattle.std.specs.Prelude.{Result, Ok, Err, IfErr, IsErrAnd, OnOk}
use Rattle.qe_base.specs.Outside.{Seen}
use Rattle.qe_base.specs.Schemas.{Schema}
use Rattle.qe_history.specs.Exchange.{LineOutcome, ComeOf, bytes_of}
use Rattle.qe_history.specs.Lines.{cut}
use Rattle.qe_node.specs.declared.take.Stop.{Stop}
use Rattle.qe_node.specs.declared.take.Stop.TheVariants as stop
use Rattle.qe_node.specs.Taking.{Takes, TakesSome, TakesWhole, cuts, filled, has_newline}
use Rattle.qe_node.proofs.Cutting.{cut_on, filled_more}
use Rattle.qe_node.proofs.Led.{leads_more, leads_none, stood_on}
use Rattle.qe_node.proofs.Wrote.{appends_nothing, appends_still, lines_written}
use Rattle.qe_view.specs.Attached.{Connected}

pub come_more : (schema : Schema) (lines more : List (List ℕ)) (outcomes others : List LineOutcome) → ComeOf schema lines outcomes → ComeOf schema more others → ComeOf schema (lines ++ more) (outcomes ++ others)
come_more schema [] more [] others first second = second
come_more schema [] more (outcome ∷ outcomes) others first second = absurd first
come_more schema (line ∷ lines) more [] others first second = absurd first
come_more schema (line ∷ lines) more (outcome ∷ outcomes) others first second = (first.0, come_more schema lines more outcomes others first.1 second)

-- no line
pub takes_none : (schema : Schema) (below : Connected) (place : ℕ) (before now : Seen) → now.taken ≡ before.taken → Takes false schema [] below below place place before now
takes_none schema below place before now same = record { outcomes = []; come = tt; leads = leads_none schema below place; wrote = λ stood. appends_nothing before now same }

-- some lines, and then more
abbrev pub takes_more : (short : Bool) (schema : Schema) (lines more : List (List ℕ)) (a b c : Connected) (i j k : ℕ) (s t u : Seen) → Takes false schema lines a b i j s t → Takes short schema more b c j k t u → Takes short schema (lines ++ more) a c i k s u
takes_more short schema lines more a b c i j k s t u first second = record {
  outcomes = first.outcomes ++ second.outcomes;
  come = come_more schema lines more first.outcomes second.outcomes first.come second.come;
  leads = leads_more schema first.outcomes second.outcomes a i b j c k first.leads second.leads;
  wrote = λ stood. lines_written short schema first.outcomes second.outcomes s t u (first.wrote stood) (second.wrote (stood_on schema first.outcomes a i b j stood first.leads));
}

-- what isn't seen of the output makes no difference
abbrev pub takes_still : (schema : Schema) (lines : List (List ℕ)) (a b : Connected) (i j : ℕ) (s t u : Seen) → Takes false schema lines a b i j s t → u.taken ≡ t.taken → Takes false schema lines a b i j s u
takes_still schema lines a b i j s t u takes same = record { outcomes = takes.outcomes; come = takes.come; leads = takes.leads; wrote = λ stood. appends_still s t u (bytes_of schema takes.outcomes) same (takes.wrote stood) }

-- the lines of some pieces, and then of more
abbrev pub pieces_more : (short : Bool) (schema : Schema) (pieces more : List (List ℕ)) (a b c : Connected) (i j k : ℕ) (s t u : Seen) → Takes false schema (filled pieces) a b i j s t → Takes short schema (filled more) b c j k t u
    → Takes short schema (filled (pieces ++ more)) a c i k s u
pieces_more short schema pieces more a b c i j k s t u first second =
    let both = takes_more short schema (filled pieces) (filled more) a b c i j k s t u first second in record {
      outcomes = first.outcomes ++ second.outcomes;
      come = subst (λ (l : List (List ℕ)). ComeOf schema l (first.outcomes ++ second.outcomes)) (sym (filled_more pieces more)) both.come;
      leads = both.leads;
      wrote = both.wrote;
    }

-- before anything is taken
pub whole_none : (schema : Schema) (bytes : List ℕ) (below : Connected) (place : ℕ) (before : Seen) → TakesWhole schema bytes bytes below below place place before before
whole_none schema bytes below place before = record { pieces = []; cut_is = λ later. refl; takes = takes_none schema below place before before refl }

-- one line more is taken
pub whole_line : (schema : Schema) (bytes pending line whole rest later : List ℕ) (a b c : Connected) (i j k : ℕ) (s t u : Seen) → has_newline pending ≡ false → has_newline line ≡ false → whole ≡ pending ++ line → rest ≡ line ++ 10 ∷ later
    → TakesWhole schema bytes (pending ++ rest) a b i j s t → Takes false schema (filled (whole ∷ [])) b c j k t u → TakesWhole schema bytes later a c i k s u
whole_line schema bytes pending line whole rest later a b c i j k s t u first second whole_is rest_is taken one = record {
  pieces = taken.pieces ++ whole ∷ [];
  cut_is = λ more. taken.cut_is more ∙ ap (λ l. taken.pieces ++ l) (cut_on pending line later rest more whole first second whole_is rest_is) ∙ sym (append_assoc taken.pieces (whole ∷ []) (cut (later ++ more)));
  takes = pieces_more false schema taken.pieces (whole ∷ []) a b c i j k s t u taken.takes one;
}

-- the answer to the next line is cut short
pub some_line : (schema : Schema) (bytes pending line whole rest later : List ℕ) (a b c : Connected) (i j k : ℕ) (s t u : Seen) → has_newline pending ≡ false → has_newline line ≡ false → whole ≡ pending ++ line → rest ≡ line ++ 10 ∷ later
    → TakesWhole schema bytes (pending ++ rest) a b i j s t → Takes true schema (filled (whole ∷ [])) b c j k t u → TakesSome true schema bytes a c i k s u
some_line schema bytes pending line whole rest later a b c i j k s t u first second whole_is rest_is taken one = record {
  pieces = taken.pieces ++ whole ∷ [];
  cut_is = λ more. (
    cut (later ++ more),
    taken.cut_is more ∙ ap (λ l. taken.pieces ++ l) (cut_on pending line later rest more whole first second whole_is rest_is) ∙ sym (append_assoc taken.pieces (whole ∷ []) (cut (later ++ more))),
  );
  takes = pieces_more true schema taken.pieces (whole ∷ []) a b c i j k s t u taken.takes one;
}

-- memory was short before the next line
pub some_short : (schema : Schema) (bytes pending : List ℕ) (a b : Connected) (i j : ℕ) (s t : Seen) → TakesWhole schema bytes pending a b i j s t → TakesSome false schema bytes a b i j s t
some_short schema bytes pending a b i j s t taken = record { pieces = taken.pieces; cut_is = λ more. (cut (pending ++ more), taken.cut_is more); takes = taken.takes }

-- the same by what the steps of the loop give
pub short_append : {T : Type 0} (result : Result T Stop) (schema : Schema) (bytes pending : List ℕ) (a b : Connected) (i j : ℕ) (s t : Seen) → TakesWhole schema bytes pending a b i j s t → IfErr result (λ why. why ≡ stop.Memory)
    → IfErr result (λ why. TakesSome (cuts why) schema bytes a b i j s t)
short_append (Ok done) schema bytes pending a b i j s t taken is = tt
short_append (Err why) schema bytes pending a b i j s t taken is = subst (λ w. TakesSome (cuts w) schema bytes a b i j s t) (sym is) (some_short schema bytes pending a b i j s t taken)

pub whole_append : {T : Type 0} (result : Result T Stop) (schema : Schema) (bytes pending later : List ℕ) (a b : Connected) (i j : ℕ) (s t : Seen) → TakesWhole schema bytes pending a b i j s t → OnOk result (later ≡ pending)
    → OnOk result (TakesWhole schema bytes later a b i j s t)
whole_append (Ok done) schema bytes pending later a b i j s t taken is = subst (λ p. TakesWhole schema bytes p a b i j s t) (sym is) taken
whole_append (Err why) schema bytes pending later a b i j s t taken is = tt

-- an error that was handed on
pub on_err : {T : Type 0} (result : Result T Stop) (e : Stop) (P : Stop → Type 0) → IsErrAnd result (λ why. why ≡ e) → P e → IfErr result P
on_err (Ok x) e P is holds = absurd is
on_err (Err why) e P is holds = subst P (sym is) holds
