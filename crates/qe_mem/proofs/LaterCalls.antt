-- Whether later calls are to fail, when a call is counted.
use Rattle.std.proofs.Common.{◌≡◌, ℕ, ◌+◌, ◌-◌, ◌^◌, ◌≤◌, Bool, true, false, ◌==◌, List, [], ◌∷◌, refl, sym, ap, ◌∙◌, subst, arith, nat_lt, if◌then◌else◌}
use Rattle.std.specs.List.{list_any}
use Rattle.std.proofs.lemmas.Bool.{and_parts, eqb-true, lt-ltb}
use Rattle.qe_base.specs.Causes.{HasCause}
use Rattle.qe_mem.specs.Counts.{rank, made, with_call, with_fault, is_listed, fails_next, may_fail, faults_of, after_call}
use Rattle.qe_mem.specs.declared.counts.Counts.{Counts}
use Rattle.qe_mem.specs.declared.counts.FailAt.{FailAt}
use Rattle.qe_mem.specs.declared.counts.CallKind.{CallKind}
use Rattle.qe_mem.specs.declared.counts.CallKind.TheVariants.{Attach, Load, Scan, Page, Last, Apply}

same_kind : (a b : CallKind) → (rank a == rank b) ≡ true → a ≡ b
same_kind Attach Attach is = refl
same_kind Attach Load is = cc
same_kind Attach Scan is = cc
same_kind Attach Page is = cc
same_kind Attach Last is = cc
same_kind Attach Apply is = cc
same_kind Load Attach is = cc
same_kind Load Load is = refl
same_kind Load Scan is = cc
same_kind Load Page is = cc
same_kind Load Last is = cc
same_kind Load Apply is = cc
same_kind Scan Attach is = cc
same_kind Scan Load is = cc
same_kind Scan Scan is = refl
same_kind Scan Page is = cc
same_kind Scan Last is = cc
same_kind Scan Apply is = cc
same_kind Page Attach is = cc
same_kind Page Load is = cc
same_kind Page Scan is = cc
same_kind Page Page is = refl
same_kind Page Last is = cc
same_kind Page Apply is = cc
same_kind Last Attach is = cc
same_kind Last Load is = cc
same_kind Last Scan is = cc
same_kind Last Page is = cc
same_kind Last Last is = refl
same_kind Last Apply is = cc
same_kind Apply Attach is = cc
same_kind Apply Load is = cc
same_kind Apply Scan is = cc
same_kind Apply Page is = cc
same_kind Apply Last is = cc
same_kind Apply Apply is = refl

listed_is_later : (call : CallKind) (counts : Counts) (fail : FailAt) → is_listed call (made call counts + 1) fail ≡ true → nat_lt (made fail.call counts) fail.number ≡ true
listed_is_later call counts fail listed =
    let parts = and_parts (rank fail.call == rank call) (fail.number == made call counts + 1) listed in
    let kind = same_kind fail.call call parts.0 in
    let number = eqb-true fail.number (made call counts + 1) parts.1 in
    lt-ltb (made fail.call counts) fail.number (omega (arith, number, ap (λ k. made k counts) kind))

any_later : (call : CallKind) (counts : Counts) (fails : List FailAt) → list_any (is_listed call (made call counts + 1)) fails ≡ true → list_any (λ fail. nat_lt (made fail.call counts) fail.number) fails ≡ true
any_later call counts [] listed = listed
any_later call counts (fail ∷ fails) listed = grind (arith, listed_is_later call counts fail, any_later call counts fails)

pub fails_is_later : (call : CallKind) (counts : Counts) → fails_next call counts ≡ true → may_fail counts ≡ true
fails_is_later call counts fails = any_later call counts counts.fail (and_parts (nat_lt (made call counts) (2 ^ 64 - 1)) _ fails).1

none_later : (before now : Counts) (fails : List FailAt) → ((call : CallKind) → made call before ≤ made call now) → list_any (λ fail. nat_lt (made fail.call before) fail.number) fails ≡ false → list_any (λ fail. nat_lt (made fail.call now) fail.number) fails ≡ false
none_later before now [] grown none = refl
none_later before now (fail ∷ fails) grown none = let le = grown fail.call in grind (arith, none_later before now fails grown)

same_by : (n : ℕ) → n ≤ n
same_by n = omega arith

-- a call lowers no count, where it doesn't lower its own
abbrev pub Grows : CallKind → Counts → Type 0
Grows call counts = made call counts ≤ made call (with_call call counts)

counted_grows : (kind call : CallKind) (counts : Counts) → Grows call counts → made kind counts ≤ made kind (with_call call counts)
counted_grows Attach Attach counts le = le
counted_grows Attach Load counts le = same_by counts.attaches
counted_grows Attach Scan counts le = same_by counts.attaches
counted_grows Attach Page counts le = same_by counts.attaches
counted_grows Attach Last counts le = same_by counts.attaches
counted_grows Attach Apply counts le = same_by counts.attaches
counted_grows Load Attach counts le = same_by counts.loads
counted_grows Load Load counts le = le
counted_grows Load Scan counts le = same_by counts.loads
counted_grows Load Page counts le = same_by counts.loads
counted_grows Load Last counts le = same_by counts.loads
counted_grows Load Apply counts le = same_by counts.loads
counted_grows Scan Attach counts le = same_by counts.scans
counted_grows Scan Load counts le = same_by counts.scans
counted_grows Scan Scan counts le = le
counted_grows Scan Page counts le = same_by counts.scans
counted_grows Scan Last counts le = same_by counts.scans
counted_grows Scan Apply counts le = same_by counts.scans
counted_grows Page Attach counts le = same_by counts.pages
counted_grows Page Load counts le = same_by counts.pages
counted_grows Page Scan counts le = same_by counts.pages
counted_grows Page Page counts le = le
counted_grows Page Last counts le = same_by counts.pages
counted_grows Page Apply counts le = same_by counts.pages
counted_grows Last Attach counts le = same_by counts.lasts
counted_grows Last Load counts le = same_by counts.lasts
counted_grows Last Scan counts le = same_by counts.lasts
counted_grows Last Page counts le = same_by counts.lasts
counted_grows Last Last counts le = le
counted_grows Last Apply counts le = same_by counts.lasts
counted_grows Apply Attach counts le = same_by counts.applies
counted_grows Apply Load counts le = same_by counts.applies
counted_grows Apply Scan counts le = same_by counts.applies
counted_grows Apply Page counts le = same_by counts.applies
counted_grows Apply Last counts le = same_by counts.applies
counted_grows Apply Apply counts le = le

fault_leaves : (kind : CallKind) (counts : Counts) → made kind (with_fault counts) ≡ made kind counts
fault_leaves Attach counts = refl
fault_leaves Load counts = refl
fault_leaves Scan counts = refl
fault_leaves Page counts = refl
fault_leaves Last counts = refl
fault_leaves Apply counts = refl

grows : (b : Bool) (call kind : CallKind) (counts : Counts) → Grows call counts → made kind counts ≤ made kind (if b then with_fault (with_call call counts) else with_call call counts)
grows true call kind counts le = subst (λ n. made kind counts ≤ n) (sym (fault_leaves kind (with_call call counts))) (counted_grows kind call counts le)
grows false call kind counts le = counted_grows kind call counts le

same_list : (call : CallKind) (counts : Counts) → (with_call call counts).fail ≡ counts.fail
same_list Attach counts = refl
same_list Load counts = refl
same_list Scan counts = refl
same_list Page counts = refl
same_list Last counts = refl
same_list Apply counts = refl

same_fails : (b : Bool) (call : CallKind) (counts : Counts) → (if b then with_fault (with_call call counts) else with_call call counts).fail ≡ counts.fail
same_fails true call counts = same_list call counts
same_fails false call counts = same_list call counts

-- what may not fail may not fail after a call
pub stays_sure : (call : CallKind) (counts : Counts) → Grows call counts → may_fail counts ≡ false → may_fail (after_call call counts) ≡ false
stays_sure call counts le sure =
    ap (list_any (λ fail. nat_lt (made fail.call (after_call call counts)) fail.number)) (same_fails (fails_next call counts) call counts)
    ∙ none_later counts (after_call call counts) counts.fail (λ kind. grows (fails_next call counts) call kind counts le) sure

same_faults : (call : CallKind) (counts : Counts) → (with_call call counts).faults ≡ counts.faults
same_faults Attach counts = refl
same_faults Load counts = refl
same_faults Scan counts = refl
same_faults Page counts = refl
same_faults Last counts = refl
same_faults Apply counts = refl

-- a call that passes raises no count of faults
pub passes : (call : CallKind) (counts now : Counts) (failed : Type 0) → (failed → ⊥) → now ≡ with_call call counts → (may_fail counts ≡ false → may_fail now ≡ false) → HasCause (faults_of counts) (faults_of now) failed
passes call counts now failed passed is sure =
    let same = ap (λ (c : Counts). c.faults) is ∙ same_faults call counts in
    record {
      counted = record { later = subst (λ n. counts.faults ≤ n) (sym same) (same_by counts.faults); rose = λ fails. absurd (passed fails); still = λ _. same };
      never = λ none. (passed, λ i. record { count = same i; may_fail = (sure none ∙ sym none) i });
    }
