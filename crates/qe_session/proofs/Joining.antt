-- What was run over a view and then told is what an event does.
use Rattle.std.proofs.Common.{◌≡◌, ◌⊎◌, inl, inr, ℕ, true, false, [], refl, sym, ap, subst, ◌∙◌, arith, Option, Some, None, is_some, List, Result, Ok, Err, IsOk}
use Rattle.std.proofs.Math.Seq.{take-length}
use Rattle.qe_base.specs.Causes.{Faults, HasCause, Rose}
use Rattle.qe_base.specs.Schemas.{Schema}
use Rattle.qe_base.specs.declared.answer.OpFault.TheVariants as fault
use Rattle.qe_base.specs.declared.answer.Outside.{Outside}
use Rattle.qe_base.specs.declared.event.Reply.{Reply}
use Rattle.qe_base.specs.declared.event.Reply.TheVariants as replies
use Rattle.qe_base.specs.declared.event.What.{What}
use Rattle.qe_history.specs.History.{IsGreeting}
use Rattle.qe_history.specs.State.{FailsAt, Outcome, batch_reply}
use Rattle.qe_ops.specs.Leaves.{IsFailed, IsMisfitFault, Leaves}
use Rattle.qe_schema.specs.Tables.{Tables}
use Rattle.qe_writing.specs.Batch.{Refusal, plain_all}
use Rattle.qe_base.specs.declared.answer.Answer.{Answer}
use Rattle.qe_base.specs.declared.write.Op.{Op}
use Rattle.qe_view.specs.Attached.{Connected}
use Rattle.qe_view.specs.Calls.{CallCounts, MakesAtMost, more, with_apply}
use Rattle.qe_view.specs.Versions.{Viewed, recounted}
use Rattle.qe_view.specs.declared.changes.ConnFault.{ConnFault}
use Rattle.qe_ops.specs.Bounds.{both_calls}
use Rattle.qe_base.specs.declared.event.What.TheVariants as what
use Rattle.qe_session.specs.Handling.{Calls, Does, DoesAs, HasCauses, IsFault, IsMisfit, TellsCounts, one_apply}
use Rattle.qe_session.specs.Performing.{AppliesOnce, Calm, IsAnswer, IsRefusal, IsStill, IsTellable, Keeps, Outcomes, Runs, TellsOf, calls_for, fault_of, misfit_in, only_reads}
use Rattle.qe_session.specs.declared.run.Ran.{Ran}
use Rattle.qe_session.specs.declared.run.Ran.TheVariants.{Answered, Refused, Failed, Memory}

-- ---- faults

pub calm : {failed : Type 0} (before after : Faults) → HasCause before after failed → (failed → ⊥) → Calm before after
calm before after cause none = (cause.counted.still none, λ sure. ap (λ (f : Faults). f.may_fail) (cause.never sure).1 ∙ sure)

pub then_calm : (a b c : Faults) → Calm a b → Calm b c → Calm a c
then_calm a b c one other = (other.0 ∙ one.0, λ sure. other.1 (one.1 sure))

same_faults : (before after : Faults) → Calm before after → before.may_fail ≡ false → after ≡ before
same_faults before after still sure = λ i. record { count = still.0 i; may_fail = (still.1 sure ∙ sym sure) i }

-- no fault came, and none is told
pub no_fault : {failed : Type 0} (before after : Faults) → Calm before after → (failed → ⊥) → HasCause before after failed
no_fault before after still none = record {
  counted = record { later = grind (arith, still.0); rose = λ failed. absurd (none failed); still = λ _. still.0 };
  never = λ sure. (none, same_faults before after still sure);
}

-- a fault came after none
one_fault : (a b c : Faults) → Calm a b → HasCause b c (Unit {0}) → HasCause a c (Unit {0})
one_fault a b c still cause = record {
  counted = record { later = grind (arith, still.0, cause.counted.later); rose = λ failed. subst (λ count. Rose count c.count) still.0 (cause.counted.rose tt); still = λ none. absurd (none tt) };
  never = λ sure. absurd ((cause.never (still.1 sure)).0 tt);
}

pub to_unit : {failed : Type 0} (a b : Faults) → HasCause a b failed → failed → HasCause a b (Unit {0})
to_unit a b cause failed = record {
  counted = record { later = cause.counted.later; rose = λ _. cause.counted.rose failed; still = λ none. absurd (none tt) };
  never = λ sure. absurd ((cause.never sure).0 failed);
}

-- ---- replies

answer_no_fault : (reply : Reply) → IsAnswer reply → IsFault reply → ⊥
answer_no_fault (replies.Answer answer) h f = f
answer_no_fault (replies.Answers answers) h f = f
answer_no_fault (replies.Refused index refused) h f = h
answer_no_fault _ h f = h

answer_no_misfit : (reply : Reply) → IsAnswer reply → IsMisfit reply → ⊥
answer_no_misfit (replies.Answer answer) h f = f
answer_no_misfit (replies.Answers answers) h f = f
answer_no_misfit (replies.Refused index refused) h f = h
answer_no_misfit _ h f = h

refusal_no_fault : (reply : Reply) → IsRefusal reply → IsFault reply → ⊥
refusal_no_fault (replies.Refused index (fault.Rule broken)) h f = f
refusal_no_fault (replies.Refused index (fault.Connector first last)) h f = h
refusal_no_fault (replies.Refused index (fault.Misfit table column)) h f = f
refusal_no_fault (replies.Refused index fault.Memory) h f = f
refusal_no_fault _ h f = h

no_failure : (reply : Reply) → IsFailed (misfit_in reply) → ⊥
no_failure (replies.Refused index (fault.Misfit table column)) h = cc
no_failure (replies.Refused index (fault.Rule broken)) h = h
no_failure (replies.Refused index (fault.Connector first last)) h = h
no_failure (replies.Refused index fault.Memory) h = h
no_failure _ h = h

is_misfit_fault : (reply : Reply) → IsMisfit reply → IsMisfitFault (misfit_in reply)
is_misfit_fault (replies.Refused index (fault.Misfit table column)) h = refl
is_misfit_fault (replies.Refused index (fault.Rule broken)) h = absurd h
is_misfit_fault (replies.Refused index (fault.Connector first last)) h = absurd h
is_misfit_fault (replies.Refused index fault.Memory) h = absurd h
is_misfit_fault _ h = absurd h

no_counts : (reply : Reply) (before after : ℕ) → (IsFault reply → ⊥) → TellsCounts reply before after
no_counts (replies.Refused index (fault.Connector first last)) before after none = absurd (none tt)
no_counts (replies.Refused index (fault.Rule broken)) before after none = tt
no_counts (replies.Refused index (fault.Misfit table column)) before after none = tt
no_counts (replies.Refused index fault.Memory) before after none = tt
no_counts _ before after none = tt

-- ---- what is below, at the beginning, after the run and in the end

abbrev Below : Type 0
Below = Connected

-- the view shows what is below
pub record AtRest (before : Viewed) : Type 0 where
  pub now : before.now ≡ before.below.told
  pub past : before.past ≡ []

told_same : (before mid : Viewed) → mid.below ≡ recounted before.below mid.below → mid.below.told ≡ before.below.told
told_same before mid is = ap (λ (below : Connected). below.told) is

attached_same : (before mid : Viewed) → mid.below ≡ recounted before.below mid.below → mid.below.attached ≡ before.below.attached
attached_same before mid is = ap (λ (below : Connected). below.attached) is

-- causes where no fault came
calm_causes : (reply : Reply) (before after : Connected) → Calm before.faults after.faults → (IsFault reply → ⊥) → (IsMisfit reply → Rose before.misfits after.misfits) → (is_some before.told ≡ true → IsMisfit reply → ⊥) → HasCauses reply before after
calm_causes reply before after still none misfit tells = record {
  failed = no_fault before.faults after.faults still none;
  counts = no_counts reply before.faults.count after.faults.count none;
  misfit = misfit;
  tells = tells;
}

memory_causes : (reply : Reply) (before after : Connected) → Calm before.faults after.faults → reply ≡ replies.Memory → HasCauses reply before after
memory_causes reply before after still is = subst (λ (r : Reply). HasCauses r before after) (sym is) (calm_causes replies.Memory before after still (λ f. f) (λ m. absurd m) (λ t m. m))

fault_causes : (reply : Reply) (index : Option ℕ) (before after : Connected) → reply ≡ replies.Refused index (fault.Connector before.faults.count after.faults.count) → HasCause before.faults after.faults (Unit {0}) → HasCauses reply before after
fault_causes reply index before after is cause = subst (λ (r : Reply). HasCauses r before after) (sym is) (record { failed = cause; counts = (refl, refl); misfit = λ m. absurd m; tells = λ t m. m })

-- ---- calls

most : (a b c need : CallCounts) → MakesAtMost need a b → b.applies ≡ a.applies → (c ≡ b) ⊎ (c ≡ with_apply b) → MakesAtMost (both_calls need one_apply) a c
most a b c need within none (inl same) = subst (λ (calls : CallCounts). MakesAtMost (both_calls need one_apply) a calls) (sym same)
    (record { loads = grind (arith, within.loads); scans = grind (arith, within.scans); pages = grind (arith, within.pages); lasts = grind (arith, within.lasts); applies = grind (arith, within.applies) })
most a b c need within none (inr one) = subst (λ (calls : CallCounts). MakesAtMost (both_calls need one_apply) a calls) (sym one)
    (record { loads = grind (arith, within.loads); scans = grind (arith, within.scans); pages = grind (arith, within.pages); lasts = grind (arith, within.lasts); applies = grind (arith, none) })

applied : (before mid : Viewed) (after : Connected) → mid.below.told ≡ before.below.told → mid.below.calls.applies ≡ before.below.calls.applies
    → ((after.calls ≡ mid.below.calls) × (after.told ≡ mid.below.told)) ⊎ (after.calls ≡ with_apply mid.below.calls)
    → ((after.calls.applies ≡ before.below.calls.applies) × (after.told ≡ before.below.told)) ⊎ (after.calls.applies ≡ more before.below.calls.applies)
applied before mid after told none (inl same) = inl (ap (λ (calls : CallCounts). calls.applies) same.0 ∙ none, same.1 ∙ told)
applied before mid after told none (inr one) = inr (ap (λ (calls : CallCounts). calls.applies) one ∙ ap more none)

either : {A B C : Type 0} → (A × B) ⊎ C → A ⊎ C
either (inl both) = inl both.0
either (inr one) = inr one

calls_made : (schema : Schema) (asked : What) (before mid : Viewed) (after : Connected) (fault : Option ConnFault) → (IsGreeting asked → ⊥) → AtRest before → Leaves (calls_for schema asked) before mid fault
    → (only_reads asked ≡ true → mid.past ≡ before.past) → AppliesOnce mid after → Calls schema asked before.below after
calls_made schema asked before mid after fault none rest leaves reads once = record {
  most = most before.below.calls mid.below.calls after.calls (calls_for schema asked) leaves.calls leaves.applies (either once.applied);
  applied = applied before mid after (told_same before mid leaves.below) leaves.applies once.applied;
  reads = λ only. ap (λ (calls : CallCounts). calls.applies) (once.idle (reads only ∙ rest.past)) ∙ leaves.applies;
  greeting = λ h. absurd (none h);
}

-- ---- what was done

answered_all : (answers : Result (List Answer) Refusal) (reply : Reply) → IsAnswer reply → reply ≡ batch_reply answers → IsOk answers
answered_all (Ok all) reply is same = refl
answered_all (Err refusal) reply is same = absurd (subst IsAnswer same is)

-- a fault that came when the changes of answers were applied
fails_late : (schema : Schema) (asked : What) (told live : Option Tables) (reply : Reply) → IsAnswer reply → Outcomes schema asked told reply live → (outside : Outside) → FailsAt schema told outside asked None
fails_late schema (what.Single op) told live reply is outcomes outside = tt
fails_late schema (what.Batch ops) None live reply is outcomes outside = tt
fails_late schema (what.Batch ops) (Some tables) live reply is outcomes outside =
    subst (λ (all : List Op). IsOk (plain_all schema all outside tables).answers) (sym (take-length ops)) (answered_all (plain_all schema ops outside tables).answers reply is (ap (λ (outcome : Outcome). outcome.reply) (outcomes outside)))
fails_late schema what.Hello told live reply is outcomes outside = absurd (outcomes outside)
fails_late schema (what.Start timeout) told live reply is outcomes outside = absurd (outcomes outside)
fails_late schema (what.Step number op) told live reply is outcomes outside = absurd (outcomes outside)
fails_late schema (what.Commit number) told live reply is outcomes outside = absurd (outcomes outside)
fails_late schema (what.Rollback number) told live reply is outcomes outside = absurd (outcomes outside)

-- an outcome over other equal tables
same_outcomes : (schema : Schema) (asked : What) (told other live left : Option Tables) (reply replied : Reply) → other ≡ told → left ≡ live → replied ≡ reply → Outcomes schema asked told reply live → Outcomes schema asked other replied left
same_outcomes schema asked told other live left reply replied same after is outcomes =
    subst (λ (t : Option Tables). Outcomes schema asked t replied left) (sym same) (subst (λ (l : Option Tables). Outcomes schema asked told replied l) (sym after) (subst (λ (r : Reply). Outcomes schema asked told r live) (sym is) outcomes))

answer_done : (schema : Schema) (asked : What) (before mid : Viewed) (after : Connected) (reply told : Reply) → AtRest before → Runs schema asked before mid (Answered reply) → TellsOf (Answered reply) told mid after → (after.misfits ≡ mid.below.misfits)
    → DoesAs schema asked told before.below after × HasCauses told before.below after
answer_done schema asked before mid after reply told rest runs (inl done) misfits =
    let still = then_calm before.below.faults mid.below.faults after.faults (calm before.below.faults mid.below.faults runs.leaves.failed (λ f. f)) done.1.1 in (
      inl (same_outcomes schema asked before.now before.below.told mid.now after.told reply told (sym rest.now) done.1.0 done.0 runs.comes.0, still),
      calm_causes told before.below after still (λ f. answer_no_fault reply runs.orderly (subst IsFault done.0 f)) (λ m. absurd (answer_no_misfit reply runs.orderly (subst IsMisfit done.0 m))) (λ t m. answer_no_misfit reply runs.orderly (subst IsMisfit done.0 m)),
    )
answer_done schema asked before mid after reply told rest runs (inr (inl short)) misfits =
    let still = then_calm before.below.faults mid.below.faults after.faults (calm before.below.faults mid.below.faults runs.leaves.failed (λ f. f)) short.1.1 in
    (inr (inl (short.0, (short.1.0 ∙ told_same before mid runs.leaves.below, still))), memory_causes told before.below after still short.0)
answer_done schema asked before mid after reply told rest runs (inr (inr failed)) misfits =
    let still = calm before.below.faults mid.below.faults runs.leaves.failed (λ f. f) in
    let is = failed.0 ∙ ap (λ count. replies.Refused None (fault.Connector count after.faults.count)) still.0 in
    let cause = one_fault before.below.faults mid.below.faults after.faults still failed.2 in (
      inr (inr (record {
        index = None;
        replied = is;
        fails = λ outside. subst (λ t. FailsAt schema t outside asked None) rest.now (fails_late schema asked before.now mid.now reply runs.orderly runs.comes.0 outside);
        told = failed.1 ∙ told_same before mid runs.leaves.below;
        cause = cause;
      })),
      fault_causes told None before.below after is cause,
    )

refusal_done : (schema : Schema) (asked : What) (before mid : Viewed) (after : Connected) (reply told : Reply) → AtRest before → Runs schema asked before mid (Refused reply) → TellsOf (Refused reply) told mid after → (after.misfits ≡ mid.below.misfits)
    → DoesAs schema asked told before.below after × HasCauses told before.below after
refusal_done schema asked before mid after reply told rest runs (inl done) misfits =
    let still = then_calm before.below.faults mid.below.faults after.faults (calm before.below.faults mid.below.faults runs.leaves.failed (no_failure reply)) done.1.1 in (
      inl (same_outcomes schema asked before.now before.below.told before.now after.told reply told (sym rest.now) (done.1.0 ∙ told_same before mid runs.leaves.below ∙ sym rest.now) done.0 runs.comes, still),
      calm_causes told before.below after still (λ f. refusal_no_fault reply runs.orderly (subst IsFault done.0 f))
          (λ m. subst (λ count. Rose before.below.misfits count) (sym misfits) (runs.leaves.misfit.rose (is_misfit_fault reply (subst IsMisfit done.0 m)))) (λ t m. runs.leaves.tells t (is_misfit_fault reply (subst IsMisfit done.0 m))),
    )
refusal_done schema asked before mid after reply told rest runs (inr short) misfits =
    let still = then_calm before.below.faults mid.below.faults after.faults (calm before.below.faults mid.below.faults runs.leaves.failed (no_failure reply)) short.1.1 in
    (inr (inl (short.0, (short.1.0 ∙ told_same before mid runs.leaves.below, still))), memory_causes told before.below after still short.0)

-- no fault came after one
fault_then : (a b c : Faults) → HasCause a b (Unit {0}) → Calm b c → HasCause a c (Unit {0})
fault_then a b c cause still = record {
  counted = record { later = grind (arith, still.0, cause.counted.later); rose = λ failed. subst (λ count. Rose a.count count) (sym still.0) (cause.counted.rose tt); still = λ none. absurd (none tt) };
  never = λ sure. absurd ((cause.never sure).0 tt);
}

failure_done : (schema : Schema) (asked : What) (before mid : Viewed) (after : Connected) (index : Option ℕ) (first last : ℕ) (told : Reply) → AtRest before → Runs schema asked before mid (Failed index first last)
    → TellsOf (Failed index first last) told mid after → DoesAs schema asked told before.below after × HasCauses told before.below after
failure_done schema asked before mid after index first last told rest runs done =
    let is = done.0 ∙ (λ i. replies.Refused index (fault.Connector (runs.comes.1 i) ((runs.comes.2 ∙ sym done.1.1.0) i))) in
    let cause = fault_then before.below.faults mid.below.faults after.faults (to_unit before.below.faults mid.below.faults runs.leaves.failed refl) done.1.1 in (
      inr (inr (record {
        index = index;
        replied = is;
        fails = λ outside. subst (λ t. FailsAt schema t outside asked index) rest.now (runs.comes.0 outside);
        told = done.1.0 ∙ told_same before mid runs.leaves.below;
        cause = cause;
      })),
      fault_causes told index before.below after is cause,
    )

shortage_done : (schema : Schema) (asked : What) (before mid : Viewed) (after : Connected) (told : Reply) → AtRest before → Runs schema asked before mid Memory → TellsOf Memory told mid after
    → DoesAs schema asked told before.below after × HasCauses told before.below after
shortage_done schema asked before mid after told rest runs short =
    let still = then_calm before.below.faults mid.below.faults after.faults (calm before.below.faults mid.below.faults runs.leaves.failed (λ f. f)) short.1.1 in
    (inr (inl (short.0, (short.1.0 ∙ told_same before mid runs.leaves.below, still))), memory_causes told before.below after still short.0)

done_by : (schema : Schema) (asked : What) (before mid : Viewed) (after : Connected) (ran : Ran) (told : Reply) → AtRest before → Runs schema asked before mid ran → TellsOf ran told mid after → (after.misfits ≡ mid.below.misfits)
    → DoesAs schema asked told before.below after × HasCauses told before.below after
done_by schema asked before mid after (Answered reply) told rest runs tells misfits = answer_done schema asked before mid after reply told rest runs tells misfits
done_by schema asked before mid after (Refused reply) told rest runs tells misfits = refusal_done schema asked before mid after reply told rest runs tells misfits
done_by schema asked before mid after (Failed index first last) told rest runs tells misfits = failure_done schema asked before mid after index first last told rest runs tells
done_by schema asked before mid after Memory told rest runs tells misfits = shortage_done schema asked before mid after told rest runs tells

pub joined : (schema : Schema) (asked : What) (before mid : Viewed) (after : Connected) (ran : Ran) (told : Reply) → (IsGreeting asked → ⊥) → AtRest before → Runs schema asked before mid ran → TellsOf ran told mid after → AppliesOnce mid after
    → Does schema asked told before.below after
joined schema asked before mid after ran told none rest runs tells once =
    let done = done_by schema asked before mid after ran told rest runs tells once.misfits in
    record {
      done = done.0;
      causes = done.1;
      calls = calls_made schema asked before mid after (fault_of ran) none rest runs.leaves runs.reads once;
      attached = once.attached ∙ attached_same before mid runs.leaves.below;
    }

-- without changes the view shows what is below
still : (before mid : Viewed) → AtRest before → Keeps before mid → mid.below.told ≡ before.below.told → IsStill mid
still before mid rest kept told past = (kept past).1 ∙ rest.now ∙ sym told

pub tellable : (schema : Schema) (asked : What) (before mid : Viewed) (ran : Ran) → AtRest before → Runs schema asked before mid ran → IsTellable ran mid
tellable schema asked before mid (Answered reply) rest runs = (runs.orderly, still before mid rest runs.comes.1 (told_same before mid runs.leaves.below))
tellable schema asked before mid (Refused reply) rest runs = tt
tellable schema asked before mid (Failed index first last) rest runs = tt
tellable schema asked before mid Memory rest runs = tt

-- nothing was done, for want of memory
pub nothing : (schema : Schema) (asked : What) (told : Reply) (before after : Connected) → (IsGreeting asked → ⊥) → told ≡ replies.Memory → after ≡ before → Does schema asked told before after
nothing schema asked told before after none is same = subst (λ (below : Connected). Does schema asked told before below) (sym same) (record {
  done = inr (inl (is, (refl, (refl, λ sure. sure))));
  causes = memory_causes told before before (refl, λ sure. sure) is;
  calls = record { most = record { loads = grind arith; scans = grind arith; pages = grind arith; lasts = grind arith; applies = grind arith }; applied = inl (refl, refl); reads = λ only. refl; greeting = λ h. refl };
  attached = refl;
})
