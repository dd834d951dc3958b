-- Faults of the host, and at which end they come.
use Rattle.std.proofs.Common.{◌≡◌, ℕ, false, refl, sym, ap, subst, ◌∙◌, arith}
use Rattle.qe_base.specs.Causes.{CountsFaults, Faults, HasCause}
use Rattle.qe_base.specs.Outside.{Seen, OnlyFetched, OnlyWrote}
use Rattle.qe_cli.specs.Ends.{EndsFor, IsFetchFault, IsReadFault, IsWriteFault, end_from}
use Rattle.qe_cli.specs.declared.End.{End}
use Rattle.qe_node.specs.Port.{OnlyMoved}
use Rattle.qe_node.specs.declared.LinesEnd.{LinesEnd}
use Rattle.qe_node.specs.declared.LinesEnd.TheVariants as lines

pub counts_as : (before now : ℕ) (failed other : Type 0) → (failed → other) → (other → failed) → CountsFaults before now failed → CountsFaults before now other
counts_as before now failed other to from counts = record { later = counts.later; rose = λ is. counts.rose (from is); still = λ never. counts.still (λ is. never (to is)) }

pub cause_as : (before now : Faults) (failed other : Type 0) → (failed → other) → (other → failed) → HasCause before now failed → HasCause before now other
cause_as before now failed other to from cause = record {
  counted = counts_as before.count now.count failed other to from cause.counted;
  never = λ sure. ((λ is. (cause.never sure).0 (from is)), (cause.never sure).1);
}

pub counts_same : (before now : ℕ) (failed : Type 0) → now ≡ before → (failed → ⊥) → CountsFaults before now failed
counts_same before now failed same never = record { later = omega (arith, same); rose = λ is. absurd (never is); still = λ no. same }

pub cause_same : (before now : Faults) (failed : Type 0) → now ≡ before → (failed → ⊥) → HasCause before now failed
cause_same before now failed same never = record { counted = counts_same before.count now.count failed (ap (λ (f : Faults). f.count) same) never; never = λ sure. (never, same) }

-- no call failed, and then one may have
pub counts_then : (before mid now : ℕ) (failed : Type 0) → mid ≡ before → CountsFaults mid now failed → CountsFaults before now failed
counts_then before mid now failed same counts = subst (λ n. CountsFaults n now failed) same counts

pub cause_then : (before mid now : Faults) (failed : Type 0) → HasCause before mid ⊥ → HasCause mid now failed → HasCause before now failed
cause_then before mid now failed first second = record {
  counted = counts_then before.count mid.count now.count failed (first.counted.still (λ f. f)) second.counted;
  never = λ sure.
      let same = (first.never sure).1 in
      let next = second.never (ap (λ (f : Faults). f.may_fail) same ∙ sure) in
      (next.0, next.1 ∙ same);
}

-- ---- what stays

pub same_ends : (e : End) (before after : Seen) → after ≡ before → (IsFetchFault e → ⊥) → (IsReadFault e → ⊥) → (IsWriteFault e → ⊥) → EndsFor e before after
same_ends e before after same fetch read write = record {
  fetch = counts_same before.fetches.count after.fetches.count (IsFetchFault e) (ap (λ (s : Seen). s.fetches.count) same) fetch;
  read = cause_same before.reads after.reads (IsReadFault e) (ap (λ (s : Seen). s.reads) same) read;
  write = cause_same before.writes after.writes (IsWriteFault e) (ap (λ (s : Seen). s.writes) same) write;
  sure = λ never. ap (λ (s : Seen). s.fetches.may_fail) same ∙ never;
}

pub wrote_ends : (e : End) (before after : Seen) → OnlyWrote before after → HasCause before.writes after.writes (IsWriteFault e) → (IsFetchFault e → ⊥) → (IsReadFault e → ⊥) → EndsFor e before after
wrote_ends e before after others cause fetch read = record {
  fetch = counts_same before.fetches.count after.fetches.count (IsFetchFault e) (ap (λ (s : Seen). s.fetches.count) others) fetch;
  read = cause_same before.reads after.reads (IsReadFault e) (ap (λ (s : Seen). s.reads) others) read;
  write = cause;
  sure = λ never. ap (λ (s : Seen). s.fetches.may_fail) others ∙ never;
}

pub moved_by_writing : (before after : Seen) → OnlyWrote before after → OnlyMoved before after
moved_by_writing before after others = subst (OnlyMoved before) (sym others) refl

pub moved_by_nothing : (before after : Seen) → after ≡ before → OnlyMoved before after
moved_by_nothing before after same = subst (OnlyMoved before) (sym same) refl

-- ---- a run's lines

read_back : (l : LinesEnd) → IsReadFault (end_from l) → l ≡ lines.ReadFault
read_back lines.Done is = absurd is
read_back lines.LongInput is = absurd is
read_back lines.ReadFault is = refl
read_back lines.WriteFault is = absurd is
read_back lines.Memory is = absurd is

write_back : (l : LinesEnd) → IsWriteFault (end_from l) → l ≡ lines.WriteFault
write_back lines.Done is = absurd is
write_back lines.LongInput is = absurd is
write_back lines.ReadFault is = absurd is
write_back lines.WriteFault is = refl
write_back lines.Memory is = absurd is

no_fetch : (l : LinesEnd) → IsFetchFault (end_from l) → ⊥
no_fetch lines.Done is = is
no_fetch lines.LongInput is = is
no_fetch lines.ReadFault is = is
no_fetch lines.WriteFault is = is
no_fetch lines.Memory is = is

pub lines_ends : (e : End) (l : LinesEnd) (before after : Seen) → e ≡ end_from l → OnlyMoved before after → HasCause before.reads after.reads (l ≡ lines.ReadFault) → HasCause before.writes after.writes (l ≡ lines.WriteFault) → EndsFor e before after
lines_ends e l before after is others reads writes = subst (λ x. EndsFor x before after) (sym is) (record {
  fetch = counts_same before.fetches.count after.fetches.count (IsFetchFault (end_from l)) (ap (λ (s : Seen). s.fetches.count) others) (no_fetch l);
  read = cause_as before.reads after.reads (l ≡ lines.ReadFault) (IsReadFault (end_from l)) (λ same. subst (λ x. IsReadFault (end_from x)) (sym same) tt) (read_back l) reads;
  write = cause_as before.writes after.writes (l ≡ lines.WriteFault) (IsWriteFault (end_from l)) (λ same. subst (λ x. IsWriteFault (end_from x)) (sym same) tt) (write_back l) writes;
  sure = λ never. ap (λ (s : Seen). s.fetches.may_fail) others ∙ never;
})

-- ---- behind a fetch

-- a fetch that didn't fail, and an end after it
pub fetched_ends : (e : End) (before mid after : Seen) → OnlyFetched before mid → mid.fetches.count ≡ before.fetches.count → (before.fetches.may_fail ≡ false → mid.fetches.may_fail ≡ false) → EndsFor e mid after → EndsFor e before after
fetched_ends e before mid after others same sure ends = record {
  fetch = counts_then before.fetches.count mid.fetches.count after.fetches.count (IsFetchFault e) same ends.fetch;
  read = subst (λ f. HasCause f after.reads (IsReadFault e)) (ap (λ (s : Seen). s.reads) others) ends.read;
  write = subst (λ f. HasCause f after.writes (IsWriteFault e)) (ap (λ (s : Seen). s.writes) others) ends.write;
  sure = λ never. ends.sure (sure never);
}

-- the end of a fetch itself
pub fetch_ends : (e : End) (before after : Seen) → OnlyFetched before after → CountsFaults before.fetches.count after.fetches.count (IsFetchFault e) → (before.fetches.may_fail ≡ false → after.fetches.may_fail ≡ false) → (IsReadFault e → ⊥) → (IsWriteFault e → ⊥) → EndsFor e before after
fetch_ends e before after others counted sure read write = record {
  fetch = counted;
  read = cause_same before.reads after.reads (IsReadFault e) (ap (λ (s : Seen). s.reads) others) read;
  write = cause_same before.writes after.writes (IsWriteFault e) (ap (λ (s : Seen). s.writes) others) write;
  sure = sure;
}
