-- Faults and other things seen, over several calls.
use Rattle.std.proofs.Common.{refl, ap, ◌∙◌, subst, le_trans, le_refl}
use Rattle.qe_base.specs.Causes.{Faults, HasCause, Rose}
use Rattle.qe_base.specs.Outside.{Seen, OnlyRead, OnlyWrote}
use Rattle.qe_node.specs.Port.{OnlyMoved, Wrote}

pub cause_none : (a : Faults) → HasCause a a ⊥
cause_none a = record {
  counted = record { later = le_refl a.count; rose = λ failed. absurd failed; still = λ none. refl };
  never = λ sure. (λ failed. failed, refl);
}

-- no fault, and then more
pub cause_more : (a b c : Faults) (F : Type 0) → HasCause a b ⊥ → HasCause b c F → HasCause a c F
cause_more a b c F first second = record {
  counted = record {
    later = le_trans first.counted.later second.counted.later;
    rose = λ failed. subst (λ n. Rose n c.count) (first.counted.still (λ none. none)) (second.counted.rose failed);
    still = λ none. second.counted.still none ∙ first.counted.still (λ failed. failed);
  };
  never = λ sure.
      let same = (first.never sure).1 in
      let then = second.never (ap (λ (f : Faults). f.may_fail) same ∙ sure) in
      (then.0, then.1 ∙ same);
}

-- of the same failure under another name
pub cause_as : (a b : Faults) (F G : Type 0) → (F → G) → (G → F) → HasCause a b F → HasCause a b G
cause_as a b F G as_well back cause = record {
  counted = record {
    later = cause.counted.later;
    rose = λ failed. cause.counted.rose (back failed);
    still = λ none. cause.counted.still (λ failed. none (as_well failed));
  };
  never = λ sure. let then = cause.never sure in (λ failed. then.0 (back failed), then.1);
}

pub only_wrote_more : (a b c : Seen) → OnlyWrote a b → OnlyWrote b c → OnlyWrote a c
only_wrote_more a b c first second = second ∙ ap (λ (x : Seen). record x { taken = c.taken; writes = c.writes }) first

pub moved_none : (a : Seen) → OnlyMoved a a
moved_none a = refl

pub moved_more : (a b c : Seen) → OnlyMoved a b → OnlyMoved b c → OnlyMoved a c
moved_more a b c first second = second ∙ ap (λ (x : Seen). record x { left = c.left; taken = c.taken; turns = c.turns; reads = c.reads; writes = c.writes }) first

pub moved_read : (a b c : Seen) → OnlyMoved a b → OnlyRead b c → OnlyMoved a c
moved_read a b c first second = moved_more a b c first (ap (λ (x : Seen). record x { left = c.left; taken = c.taken; turns = c.turns; reads = c.reads; writes = c.writes }) second)

pub moved_wrote : (a b c : Seen) → OnlyMoved a b → OnlyWrote b c → OnlyMoved a c
moved_wrote a b c first second = moved_more a b c first (ap (λ (x : Seen). record x { left = c.left; taken = c.taken; turns = c.turns; reads = c.reads; writes = c.writes }) second)

pub wrote_none : (a : Seen) → Wrote a a ⊥
wrote_none a = record { cause = cause_none a.writes; others = refl }

pub wrote_more : (a b c : Seen) (F : Type 0) → Wrote a b ⊥ → Wrote b c F → Wrote a c F
wrote_more a b c F first second = record { cause = cause_more a.writes b.writes c.writes F first.cause second.cause; others = only_wrote_more a b c first.others second.others }

pub wrote_as : (a b : Seen) (F G : Type 0) → (F → G) → (G → F) → Wrote a b F → Wrote a b G
wrote_as a b F G as_well back wrote = record { cause = cause_as a.writes b.writes F G as_well back wrote.cause; others = wrote.others }
