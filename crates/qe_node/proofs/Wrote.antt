-- Writing a piece, part by part.
use Rattle.std.proofs.Common.{◌≡◌, ℕ, ◌<◌, List, [], ◌∷◌, ◌++◌, length, take, drop, refl, sym, ap, ◌∙◌, subst, Option, Some, None, arith, append_assoc, length-append, append-nil, Bool, true, false, is_err, IsErrAnd, IfSome, IsSomeAnd}
use Rattle.std.specs.Prelude.{Result, Ok, Err}
use Rattle.std.proofs.Math.Seq.{take-append_seam}
use Rattle.std.proofs.lemmas.Grind.{flat_map-append}
use Rattle.std.proofs.lemmas.List.{take-append-drop}
use Rattle.qe_base.specs.Outside.{Seen}
use Rattle.qe_base.specs.Schemas.{Schema}
use Rattle.qe_base.specs.declared.outside.Failed.{Failed}
use Rattle.qe_history.specs.Exchange.{LineOutcome, bytes_of, outcome_line}
use Rattle.qe_node.specs.Port.{Appends, AppendsPart, WritesAll, Wrote}
use Rattle.qe_node.specs.Run.{AllWritten}
use Rattle.qe_node.specs.Taking.{WroteLines}

-- some first part of the piece was taken, and the rest is to come
pub record IsWriting (piece rest : List ℕ) (before now : Seen) : Type 0 where
  pub part : List ℕ
  pub whole : part ++ rest ≡ piece
  pub taken : Appends before now part

told_more : (a b c : Option (List ℕ)) (x y : List ℕ) → IfSome b (λ all. IsSomeAnd a (λ old. all ≡ old ++ x)) → IfSome c (λ all. IsSomeAnd b (λ old. all ≡ old ++ y)) → IfSome c (λ all. IsSomeAnd a (λ old. all ≡ old ++ (x ++ y)))
told_more a b None x y first second = tt
told_more a None (Some all) x y first second = absurd second
told_more None (Some mid) (Some all) x y first second = absurd first
told_more (Some old) (Some mid) (Some all) x y first second = second ∙ ap (λ m. m ++ y) first ∙ append_assoc old x y

told_nothing : (a : Option (List ℕ)) → IfSome a (λ all. IsSomeAnd a (λ old. all ≡ old ++ []))
told_nothing None = tt
told_nothing (Some old) = sym (append-nil old)

-- one part, and then another
pub appends_more : (a b c : Seen) (x y : List ℕ) → Appends a b x → Appends b c y → Appends a c (x ++ y)
appends_more a b c x y first second = told_more a.taken b.taken c.taken x y first second

pub appends_nothing : (a b : Seen) → b.taken ≡ a.taken → Appends a b []
appends_nothing a b same = subst (λ t. IfSome t (λ all. IsSomeAnd a.taken (λ old. all ≡ old ++ []))) (sym same) (told_nothing a.taken)

pub appends_still : (a b c : Seen) (x : List ℕ) → c.taken ≡ b.taken → Appends a b x → Appends a c x
appends_still a b c x same appends = subst (λ t. IfSome t (λ all. IsSomeAnd a.taken (λ old. all ≡ old ++ x))) (sym same) appends

written_part : (part rest piece : List ℕ) → part ++ rest ≡ piece → take (length part) piece ≡ part
written_part part rest piece whole = subst (λ p. take (length part) p ≡ part) whole (take-append_seam part rest)

shorter : (part rest piece : List ℕ) → part ++ rest ≡ piece → 0 < length rest → length part < length piece
shorter part rest piece whole some = subst (λ p. length part < length p) whole (omega (arith, length-append part rest))

-- where the next write fails, not all was taken
pub part_taken : (piece rest : List ℕ) (before now next : Seen) → IsWriting piece rest before now → 0 < length rest → next.taken ≡ now.taken → AppendsPart before next piece
part_taken piece rest before now next writing some same = (
  length writing.part,
  shorter writing.part rest piece writing.whole some,
  subst (Appends before next) (sym (written_part writing.part rest piece writing.whole)) (subst (Appends before next) (append-nil writing.part) (appends_more before now next writing.part [] writing.taken (appends_nothing now next same))),
)

-- the next part is taken
pub writing_more : (piece rest : List ℕ) (before now next : Seen) (count : ℕ) → IsWriting piece rest before now → Appends now next (take count rest) → IsWriting piece (drop count rest) before next
writing_more piece rest before now next count writing more = record {
  part = writing.part ++ take count rest;
  whole = append_assoc writing.part (take count rest) (drop count rest) ∙ ap (λ r. writing.part ++ r) (take-append-drop count rest) ∙ writing.whole;
  taken = appends_more before now next writing.part (take count rest) writing.taken more;
}

-- a fault that was handed on
pub failed_writes : (result : Result (Unit {0}) Failed) (why : Failed) (before now : Seen) (piece : List ℕ) → IsErrAnd result (λ e. e ≡ why) → AppendsPart before now piece → Wrote before now (true ≡ true) → WritesAll before now piece result
failed_writes (Ok done) why before now piece is part wrote = absurd is
failed_writes (Err other) why before now piece is part wrote = record { ok = tt; err = part; wrote = wrote }

bytes_more : (schema : Schema) (outcomes others : List LineOutcome) → bytes_of schema (outcomes ++ others) ≡ bytes_of schema outcomes ++ bytes_of schema others
bytes_more schema outcomes others = flat_map-append (outcome_line schema) outcomes others

-- the lines of some outcomes, and then of more
pub lines_written : (short : Bool) (schema : Schema) (outcomes others : List LineOutcome) (a b c : Seen) → AllWritten schema outcomes a b → WroteLines short schema others b c → WroteLines short schema (outcomes ++ others) a c
lines_written false schema outcomes others a b c first second = subst (Appends a c) (sym (bytes_more schema outcomes others)) (appends_more a b c (bytes_of schema outcomes) (bytes_of schema others) first second)
lines_written true schema outcomes others a b c first second = record {
  front = outcomes ++ second.front;
  last = second.last;
  all = ap (λ o. outcomes ++ o) second.all ∙ sym (append_assoc outcomes second.front (second.last ∷ []));
  count = second.count;
  part = second.part;
  written = subst (λ b. Appends a c (b ++ take second.count (outcome_line schema second.last))) (sym (bytes_more schema outcomes second.front))
      (subst (Appends a c) (sym (append_assoc (bytes_of schema outcomes) (bytes_of schema second.front) _)) (appends_more a b c (bytes_of schema outcomes) _ first second.written));
}

-- the line of one outcome
pub line_written : (result : Result (Unit {0}) Failed) (schema : Schema) (outcome : LineOutcome) (before now : Seen) (bytes : List ℕ) → bytes ≡ outcome_line schema outcome → WritesAll before now bytes result → WroteLines (is_err result) schema (outcome ∷ []) before now
line_written (Ok done) schema outcome before now bytes is writes = subst (Appends before now) (is ∙ sym (append-nil (outcome_line schema outcome))) writes.ok
line_written (Err why) schema outcome before now bytes is writes =
    let part : AppendsPart before now (outcome_line schema outcome) = subst (AppendsPart before now) is writes.err in
    record { front = []; last = outcome; all = refl; count = part.0; part = part.1; written = part.2 }
