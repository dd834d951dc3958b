-- A batch: what its front came to, and what the whole of it comes to.
use Rattle.std.proofs.Common.{◌≡◌, ℕ, ◌+◌, ◌<◌, ◌≤◌, suc, take, drop, get_or, true, [], ◌∷◌, ◌++◌, List, length, refl, sym, ap, subst, ◌∙◌, arith, rules, Option, Some, None, option_map, is_some, is_ok, Result, Ok, Err, IfSome, IsOk}
use Rattle.std.proofs.Math.ListN.{length-append}
use Rattle.std.proofs.Math.Seq.{drop-cons, take-append_seam, take-suc}
use Rattle.std.proofs.lemmas.List.{length-take-le, take-append-drop, take_all}
use Rattle.std.proofs.lemmas.Bool.{and_parts}
use Rattle.std.proofs.lemmas.List.Folds.{list_all-append}
use Rattle.std.specs.List.{list_all}
use Rattle.qe_base.specs.Causes.{CountsFaults, Faults, HasCause, Rose}
use Rattle.qe_base.specs.Schemas.{Schema}
use Rattle.qe_base.specs.declared.answer.Answer.{Answer}
use Rattle.qe_base.specs.declared.answer.Outside.{Outside}
use Rattle.qe_base.specs.declared.answer.Rule.{Rule}
use Rattle.qe_base.specs.declared.write.Op.{Op}
use Rattle.qe_overlay.specs.Fits.{viewed}
use Rattle.qe_overlay.specs.Held.{Held}
use Rattle.qe_overlay.specs.Layers.{seen}
use Rattle.qe_session.specs.declared.run.Ran.{Ran}
use Rattle.qe_ops.specs.Bounds.{both_calls, calls_of, reads_alone}
use Rattle.qe_ops.specs.Leaves.{IsFailed, IsMisfitFault, Leaves}
use Rattle.qe_schema.specs.Tables.{Tables}
use Rattle.qe_view.specs.Answers.{NamesColumn}
use Rattle.qe_view.specs.Attached.{Connected}
use Rattle.qe_view.specs.Calls.{CallCounts, MakesAtMost}
use Rattle.qe_view.specs.Versions.{Viewed, recounted}
use Rattle.qe_view.specs.declared.changes.ConnFault.{ConnFault}
use Rattle.qe_session.specs.Performing.{Runs, all_calls}
use Rattle.qe_session.proofs.Joining.{calm}
use Rattle.qe_base.specs.declared.answer.OpFault.{OpFault}
use Rattle.qe_base.specs.declared.answer.OpFault.TheVariants as fault
use Rattle.qe_base.specs.declared.event.Reply.TheVariants as replies
use Rattle.qe_base.specs.declared.event.What.TheVariants as what
use Rattle.qe_base.specs.declared.value.TableId.{TableId}
use Rattle.qe_history.specs.State.{ComesOfAll, FailsAt, Outcome, batch_outcome}
use Rattle.qe_view.specs.declared.changes.ConnFault.TheVariants as conn
use Rattle.qe_writing.specs.Batch.{AllAnswered, Refusal, all_done, all_from, or_refusal, outside_of, plain_all, with_answer}
use Rattle.qe_writing.specs.Plain.{Done, plain}
use Rattle.qe_session.specs.Batches.{Accepts, Ends, refused_at}
use Rattle.qe_session.specs.declared.run.Ran.TheVariants.{Answered, Memory}
use Rattle.qe_session.proofs.Running.{any, kept}

abbrev Answers : Type 0
Answers = Result AllAnswered Refusal

-- these answers first
abbrev prepend : List Answer → Answers → Answers
prepend front (Ok rest) = Ok (record { answers = front ++ rest.answers; tables = rest.tables })
prepend front (Err refusal) = Err refusal

-- the rest is run on the tables after the front, if that is accepted
abbrev then : Answers → (Tables → Answers) → Answers
then (Ok front) next = prepend front.answers (next front.tables)
then (Err refusal) next = Err refusal

with_prepended : (answer : Answer) (front : List Answer) (rest : Answers) → with_answer answer (prepend front rest) ≡ prepend (answer ∷ front) rest
with_prepended answer front (Ok rest) = refl
with_prepended answer front (Err refusal) = refl

with_then : (answer : Answer) (front : Answers) (next : Tables → Answers) → with_answer answer (then front next) ≡ then (with_answer answer front) next
with_then answer (Ok front) next = with_prepended answer front.answers (next front.tables)
with_then answer (Err refusal) next = refl

or_then : (number : ℕ) (result : Result Answer Rule) (front : Answers) (next : Tables → Answers) → or_refusal number result (λ answer. with_answer answer (then front next)) ≡ then (or_refusal number result (λ answer. with_answer answer front)) next
or_then number (Ok answer) front next = with_then answer front next
or_then number (Err broken) front next = refl

empty_first : (rest : Answers) → rest ≡ prepend [] rest
empty_first (Ok rest) = refl
empty_first (Err refusal) = refl

plus_zero : (n : ℕ) → n + 0 ≡ n
plus_zero n = grind arith

later_number : (n m : ℕ) → (n + 1) + m ≡ n + suc m
later_number n m = grind arith

all_after : (schema : Schema) (front back : List Op) (outside : Outside) (number : ℕ) (tables : Tables)
    → all_from schema (front ++ back) outside number tables ≡ then (all_from schema front outside number tables) (λ after. all_from schema back outside (number + length front) after)
all_after schema [] back outside number tables = empty_first (all_from schema back outside number tables) ∙ ap (λ (n : ℕ). prepend [] (all_from schema back outside n tables)) (sym (plus_zero number))
all_after schema (op ∷ front) back outside number tables =
    let done = plain schema op (outside_of outside number) tables in
    ap (λ rest. or_refusal number done.answer (λ answer. with_answer answer rest)) (all_after schema front back outside (number + 1) done.tables
    ∙ ap (λ (n : ℕ). then (all_from schema front outside (number + 1) done.tables) (λ after. all_from schema back outside n after)) (later_number number (length front)))
    ∙ or_then number done.answer (all_from schema front outside (number + 1) done.tables) (λ after. all_from schema back outside (number + suc (length front)) after)

-- the front is accepted, and so is the next operation
accepts_next : (schema : Schema) (front : List Op) (op : Op) (outside : Outside) (answers : List Answer) (answer : Answer) (before mid : Tables) → all_from schema front outside 0 before ≡ Ok (record { answers = answers; tables = mid })
    → (plain schema op (outside_of outside (length front)) mid).answer ≡ Ok answer
    → all_from schema (front ++ op ∷ []) outside 0 before ≡ Ok (record { answers = answers ++ answer ∷ []; tables = (plain schema op (outside_of outside (length front)) mid).tables })
accepts_next schema front op outside answers answer before mid all one =
    all_after schema front (op ∷ []) outside 0 before ∙ ap (λ (r : Answers). then r (λ after. all_from schema (op ∷ []) outside (0 + length front) after)) all
    ∙ ap (λ (n : ℕ). prepend answers (all_from schema (op ∷ []) outside n mid)) (zero_first (length front))
    ∙ ap (λ (r : Result Answer Rule). prepend answers (or_refusal (length front) r (λ answer. with_answer answer (Ok (record { answers = []; tables = (plain schema op (outside_of outside (length front)) mid).tables }))))) one
  where
    zero_first : (n : ℕ) → 0 + n ≡ n
    zero_first n = grind arith

-- the front is accepted, and the next operation breaks a rule
breaks_next : (schema : Schema) (front back : List Op) (op : Op) (outside : Outside) (answers : List Answer) (broken : Rule) (before mid : Tables) → all_from schema front outside 0 before ≡ Ok (record { answers = answers; tables = mid })
    → (plain schema op (outside_of outside (length front)) mid).answer ≡ Err broken → all_from schema (front ++ op ∷ back) outside 0 before ≡ Err (record { index = length front; broken = broken })
breaks_next schema front back op outside answers broken before mid all one =
    all_after schema front (op ∷ back) outside 0 before ∙ ap (λ (r : Answers). then r (λ after. all_from schema (op ∷ back) outside (0 + length front) after)) all
    ∙ ap (λ (n : ℕ). prepend answers (all_from schema (op ∷ back) outside n mid)) (zero_first (length front))
    ∙ ap (λ (r : Result Answer Rule). prepend answers (or_refusal (length front) r (λ answer. with_answer answer (all_from schema back outside (length front + 1) (plain schema op (outside_of outside (length front)) mid).tables)))) one
  where
    zero_first : (n : ℕ) → 0 + n ≡ n
    zero_first n = grind arith

-- ---- what is left, call after call

none_failed : {failed : Type 0} (a b c : Faults) → HasCause a b (IsFailed None) → HasCause b c failed → HasCause a c failed
none_failed a b c one other =
    let still = calm a b one (λ f. f) in
    record {
      counted = record {
        later = grind (arith, still.0, other.counted.later);
        rose = λ failed. subst (λ count. Rose count c.count) still.0 (other.counted.rose failed);
        still = λ none. other.counted.still none ∙ still.0;
      };
      never = λ sure. ((other.never (still.1 sure)).0, (other.never (still.1 sure)).1 ∙ (one.never sure).1);
    }

none_counted : {failed : Type 0} (a b c : ℕ) → CountsFaults a b (IsMisfitFault None) → CountsFaults b c failed → CountsFaults a c failed
none_counted a b c one other =
    let same : b ≡ a = one.still (λ f. f) in
    record { later = grind (arith, same, other.later); rose = λ failed. subst (λ count. Rose count c) same (other.rose failed); still = λ none. other.still none ∙ same }

both_made : (a b c one other : CallCounts) → MakesAtMost one a b → MakesAtMost other b c → MakesAtMost (both_calls one other) a c
both_made a b c one other h k = record { loads = grind (arith, h.loads, k.loads); scans = grind (arith, h.scans, k.scans); pages = grind (arith, h.pages, k.pages); lasts = grind (arith, h.lasts, k.lasts); applies = grind (arith, h.applies, k.applies) }

told_by : (a b : Viewed) → b.below ≡ recounted a.below b.below → is_some a.below.told ≡ true → is_some b.below.told ≡ true
told_by a b is told = ap (λ (below : Connected). is_some below.told) is ∙ told

then_leaves : (one other : CallCounts) (a b c : Viewed) (fault : Option ConnFault) → Leaves one a b None → Leaves other b c fault → Leaves (both_calls one other) a c fault
then_leaves one other a b c fault h k = record {
  schema = k.schema ∙ h.schema;
  below = k.below ∙ ap (λ (below : Connected). recounted below c.below) h.below;
  failed = none_failed a.below.faults b.below.faults c.below.faults h.failed k.failed;
  misfit = none_counted a.below.misfits b.below.misfits c.below.misfits h.misfit k.misfit;
  tells = λ told. k.tells (told_by a b h.below told);
  column = subst (λ (s : Schema). IfSome fault (NamesColumn s)) h.schema k.column;
  calls = both_made a.below.calls b.below.calls c.below.calls one other h.calls k.calls;
  applies = k.applies ∙ h.applies;
}

-- ---- sums of calls

front_calls : (schema : Schema) (front back : List Op) → all_calls schema (front ++ back) ≡ both_calls (all_calls schema front) (all_calls schema back)
front_calls schema [] back = λ i. record { loads = zero (all_calls schema back).loads i; scans = zero (all_calls schema back).scans i; pages = zero (all_calls schema back).pages i; lasts = zero (all_calls schema back).lasts i; applies = zero (all_calls schema back).applies i }
  where
    zero : (n : ℕ) → n ≡ 0 + n
    zero n = grind arith
front_calls schema (op ∷ front) back = ap (both_calls (calls_of schema op)) (front_calls schema front back) ∙ grouped (calls_of schema op) (all_calls schema front) (all_calls schema back)
  where
    sums : (a b c : ℕ) → a + (b + c) ≡ (a + b) + c
    sums a b c = grind arith

    grouped : (a b c : CallCounts) → both_calls a (both_calls b c) ≡ both_calls (both_calls a b) c
    grouped a b c = λ i. record { loads = sums a.loads b.loads c.loads i; scans = sums a.scans b.scans c.scans i; pages = sums a.pages b.pages c.pages i; lasts = sums a.lasts b.lasts c.lasts i; applies = sums a.applies b.applies c.applies i }

within : (a b x y z : CallCounts) → MakesAtMost (both_calls x y) a b → MakesAtMost (both_calls x (both_calls y z)) a b
within a b x y z h = record { loads = grind (arith, h.loads); scans = grind (arith, h.scans); pages = grind (arith, h.pages); lasts = grind (arith, h.lasts); applies = grind (arith, h.applies) }

-- what a front and one operation more leave is within what all may
of_all : (schema : Schema) (front back : List Op) (op : Op) (a c : Viewed) (fault : Option ConnFault) → Leaves (both_calls (all_calls schema front) (calls_of schema op)) a c fault → Leaves (all_calls schema (front ++ op ∷ back)) a c fault
of_all schema front back op a c fault leaves = record {
  schema = leaves.schema;
  below = leaves.below;
  failed = leaves.failed;
  misfit = leaves.misfit;
  tells = leaves.tells;
  column = leaves.column;
  calls = subst (λ (most : CallCounts). MakesAtMost most a.below.calls c.below.calls) (sym (front_calls schema front (op ∷ back))) (within a.below.calls c.below.calls (all_calls schema front) (calls_of schema op) (all_calls schema back) leaves.calls);
  applies = leaves.applies;
}

-- ---- the front, one operation more

told_next : (schema : Schema) (front : List Op) (op : Op) (outside : Outside) (answers : List Answer) (answer : Answer) (told mid after : Option Tables)
    → IfSome told (λ tables. (now : Tables) × (all_from schema front outside 0 tables ≡ Ok (record { answers = answers; tables = now })) × (mid ≡ Some now))
    → IfSome mid (λ tables. (plain schema op (outside_of outside (length front)) tables).answer ≡ Ok answer)
    → after ≡ option_map (λ tables. (plain schema op (outside_of outside (length front)) tables).tables) mid
    → IfSome told (λ tables. (now : Tables) × (all_from schema (front ++ op ∷ []) outside 0 tables ≡ Ok (record { answers = answers ++ answer ∷ []; tables = now })) × (after ≡ Some now))
told_next schema front op outside answers answer None mid after h k is = tt
told_next schema front op outside answers answer (Some tables) mid after h k is =
    let one : (plain schema op (outside_of outside (length front)) h.0).answer ≡ Ok answer = subst (λ m. IfSome m (λ t. (plain schema op (outside_of outside (length front)) t).answer ≡ Ok answer)) h.2 k in (
      (plain schema op (outside_of outside (length front)) h.0).tables,
      accepts_next schema front op outside answers answer tables h.0 h.1 one,
      is ∙ ap (option_map (λ t. (plain schema op (outside_of outside (length front)) t).tables)) h.2,
    )

longer : (answers : List Answer) (front : List Op) (answer : Answer) (op : Op) → length answers ≡ length front → length (answers ++ answer ∷ []) ≡ length (front ++ op ∷ [])
longer answers front answer op is = length-append answers (answer ∷ []) ∙ ap (λ (n : ℕ). n + 1) is ∙ sym (length-append front (op ∷ []))

all_reads : (front back : List Op) (op : Op) → list_all reads_alone (front ++ op ∷ back) ≡ true → (list_all reads_alone front ≡ true) × (reads_alone op ≡ true)
all_reads front back op h =
    let both = and_parts (list_all reads_alone front) (list_all reads_alone (op ∷ back)) (sym (list_all-append reads_alone front (op ∷ back)) ∙ h) in
    (both.0, (and_parts (reads_alone op) (list_all reads_alone back) both.1).0)

pub accepted : (schema : Schema) (front : List Op) (op : Op) (answers : List Answer) (answer : Answer) (before mid after : Viewed) → Accepts schema front answers before mid → Ends schema op mid after (Ok answer)
    → Accepts schema (front ++ op ∷ []) (answers ++ answer ∷ []) before after
accepted schema front op answers answer before mid after so ends = record {
  told = λ outside. told_next schema front op outside answers answer before.now mid.now after.now (so.told outside) (ends.performs (outside_of outside (length front))).answer (ends.performs (outside_of outside (length front))).ok.now;
  untold = λ none. (ends.performs any).ok.now ∙ ap (option_map (λ tables. (plain schema op any tables).tables)) (so.untold none);
  count = longer answers front answer op so.count;
  kept = λ past. (let one = kept mid after (ends.performs any).ok.back past in let other = so.kept one.0 in (other.0, one.1 ∙ other.1));
  leaves = of_all schema front [] op before after None (then_leaves (all_calls schema front) (calls_of schema op) before mid after None so.leaves ends.leaves);
  reads = λ only. (let both = all_reads front [] op only in ends.reads both.1 ∙ so.reads both.0);
}

-- ---- the whole

all_told : (schema : Schema) (ops : List Op) (outside : Outside) (answers : List Answer) (told after : Option Tables) → length answers ≡ length ops → (told ≡ None → after ≡ None)
    → IfSome told (λ tables. (now : Tables) × (all_from schema ops outside 0 tables ≡ Ok (record { answers = answers; tables = now })) × (after ≡ Some now))
    → ComesOfAll schema outside ops told (record { reply = replies.Answers answers; live = after })
all_told schema ops outside answers None after count none h = (count, none refl)
all_told schema ops outside answers (Some tables) after count none h =
    ap (λ (live : Option Tables). let o : Outcome = record { reply = replies.Answers answers; live = live } in o) h.2 ∙ sym (ap (λ (r : Answers). batch_outcome (all_done tables r)) h.1)

pub all_ran : (schema : Schema) (ops : List Op) (answers : List Answer) (before after : Viewed) → Accepts schema ops answers before after → Runs schema (what.Batch ops) before after (Answered (replies.Answers answers))
all_ran schema ops answers before after so = record {
  orderly = tt;
  comes = (λ outside. all_told schema ops outside answers before.now after.now so.count so.untold (so.told outside), so.kept);
  leaves = so.leaves;
  reads = so.reads;
}

-- memory was short for an answer
pub short_ran : (schema : Schema) (front back : List Op) (op : Op) (answers : List Answer) (answer : Answer) (before mid after : Viewed) → Accepts schema front answers before mid → Ends schema op mid after (Ok answer)
    → Runs schema (what.Batch (front ++ op ∷ back)) before after Memory
short_ran schema front back op answers answer before mid after so ends = record {
  orderly = tt;
  comes = tt;
  leaves = of_all schema front back op before after None (then_leaves (all_calls schema front) (calls_of schema op) before mid after None so.leaves ends.leaves);
  reads = λ only. (let both = all_reads front back op only in ends.reads both.1 ∙ so.reads both.0);
}

within_all : (front back : List Op) (op : Op) → length front < length (front ++ op ∷ back)
within_all front back op = grind (arith, length-append front (op ∷ back))

broke_at : (schema : Schema) (front back : List Op) (op : Op) (outside : Outside) (answers : List Answer) (broken : Rule) (told mid : Option Tables)
    → IfSome told (λ tables. (now : Tables) × (all_from schema front outside 0 tables ≡ Ok (record { answers = answers; tables = now })) × (mid ≡ Some now))
    → IfSome mid (λ tables. plain schema op (outside_of outside (length front)) tables ≡ record { answer = Err broken; tables = tables })
    → ComesOfAll schema outside (front ++ op ∷ back) told (record { reply = replies.Refused (Some (length front)) (fault.Rule broken); live = told })
broke_at schema front back op outside answers broken None mid h k = ((within_all front back op, tt), refl)
broke_at schema front back op outside answers broken (Some tables) mid h k =
    let one : plain schema op (outside_of outside (length front)) h.0 ≡ record { answer = Err broken; tables = h.0 } = subst (λ m. IfSome m (λ t. plain schema op (outside_of outside (length front)) t ≡ record { answer = Err broken; tables = t })) h.2 k in
    sym (ap (λ (r : Answers). batch_outcome (all_done tables r)) (breaks_next schema front back op outside answers broken tables h.0 h.1 (ap (λ (d : Done). d.answer) one)))

unfit_at : (schema : Schema) (front back : List Op) (op : Op) (outside : Outside) (told : Option Tables) (table : TableId) (column : ℕ) → (is_some told ≡ true → ⊥)
    → ComesOfAll schema outside (front ++ op ∷ back) told (record { reply = replies.Refused (Some (length front)) (fault.Misfit table column); live = told })
unfit_at schema front back op outside None table column untold = ((within_all front back op, tt), refl)
unfit_at schema front back op outside (Some tables) table column untold = absurd (untold refl)

front_accepted : (schema : Schema) (front : List Op) (outside : Outside) (answers : List Answer) (told mid : Option Tables)
    → IfSome told (λ tables. (now : Tables) × (all_from schema front outside 0 tables ≡ Ok (record { answers = answers; tables = now })) × (mid ≡ Some now)) → IfSome told (λ tables. IsOk (plain_all schema front outside tables).answers)
front_accepted schema front outside answers None mid h = tt
front_accepted schema front outside answers (Some tables) mid h = ap (λ (r : Answers). is_ok (all_done tables r).answers) h.1

fails_at : (schema : Schema) (front back : List Op) (op : Op) (outside : Outside) (answers : List Answer) (before mid : Viewed) → Accepts schema front answers before mid → FailsAt schema before.now outside (what.Batch (front ++ op ∷ back)) (Some (length front))
fails_at schema front back op outside answers before mid so = (
  within_all front back op,
  subst (λ (ops : List Op). IfSome before.now (λ tables. IsOk (plain_all schema ops outside tables).answers)) (sym (take-append_seam front (op ∷ back))) (front_accepted schema front outside answers before.now mid.now (so.told outside)),
)

-- the operation behind the front was refused
pub refused_ran : (schema : Schema) (front back : List Op) (op : Op) (answers : List Answer) (before mid after : Viewed) (refused : OpFault) → (is_some before.now ≡ true → is_some before.below.told ≡ true) → Accepts schema front answers before mid
    → Ends schema op mid after (Err refused) → Runs schema (what.Batch (front ++ op ∷ back)) before after (refused_at (length front) refused)
refused_ran schema front back op answers before mid after (fault.Rule broken) shown so ends = record {
  orderly = tt;
  comes = λ outside. broke_at schema front back op outside answers broken before.now mid.now (so.told outside) (ends.performs (outside_of outside (length front))).answer;
  leaves = of_all schema front back op before after None (then_leaves (all_calls schema front) (calls_of schema op) before mid after None so.leaves ends.leaves);
  reads = λ only. (let both = all_reads front back op only in ends.reads both.1 ∙ so.reads both.0);
}
refused_ran schema front back op answers before mid after (fault.Misfit table column) shown so ends = record {
  orderly = tt;
  comes = λ outside. unfit_at schema front back op outside before.now table column (λ told. ends.leaves.tells (told_by before mid so.leaves.below (shown told)) refl);
  leaves = of_all schema front back op before after _ (then_leaves (all_calls schema front) (calls_of schema op) before mid after _ so.leaves ends.leaves);
  reads = λ only. (let both = all_reads front back op only in ends.reads both.1 ∙ so.reads both.0);
}
refused_ran schema front back op answers before mid after (fault.Connector first last) shown so ends = record {
  orderly = tt;
  comes = (λ outside. fails_at schema front back op outside answers before mid so, ends.counts.0 ∙ so.leaves.failed.counted.still (λ f. f), ends.counts.1);
  leaves = of_all schema front back op before after _ (then_leaves (all_calls schema front) (calls_of schema op) before mid after _ so.leaves ends.leaves);
  reads = λ only. (let both = all_reads front back op only in ends.reads both.1 ∙ so.reads both.0);
}
refused_ran schema front back op answers before mid after fault.Memory shown so ends = record {
  orderly = tt;
  comes = tt;
  leaves = of_all schema front back op before after None (then_leaves (all_calls schema front) (calls_of schema op) before mid after None so.leaves (no_fault_of_memory ends.leaves));
  reads = λ only. (let both = all_reads front back op only in ends.reads both.1 ∙ so.reads both.0);
}
  where
    no_fault_of_memory : Leaves (calls_of schema op) mid after (Some conn.Memory) → Leaves (calls_of schema op) mid after None
    no_fault_of_memory leaves = search (rules, leaves)

-- ---- the turns of the loop

split : (ops : List Op) (i : ℕ) (op : Op) → i < length ops → op ≡ get_or ops i op → ops ≡ take i ops ++ op ∷ drop (suc i) ops
split ops i op within is = sym (take-append-drop i ops) ∙ ap (λ back. take i ops ++ back) (drop-cons ops i op within ∙ ap (λ one. one ∷ drop (suc i) ops) (sym is))

front_length : (ops : List Op) (i : ℕ) → i < length ops → length (take i ops) ≡ i
front_length ops i within = length-take-le i ops (omega arith)

taken : (ops : List Op) (i : ℕ) (op : Op) → i < length ops → op ≡ get_or ops i op → take (i + 1) ops ≡ take i ops ++ op ∷ []
taken ops i op within is = ap (λ n. take n ops) (next i) ∙ take-suc ops i op within ∙ ap (λ one. take i ops ++ one ∷ []) (sym is)
  where
    next : (i : ℕ) → i + 1 ≡ suc i
    next i = omega arith

pub turn_accepted : (schema : Schema) (ops : List Op) (i : ℕ) (op : Op) (answers : List Answer) (answer : Answer) (before mid after : Viewed) (result : Result Answer OpFault) → i < length ops → op ≡ get_or ops i op
    → Accepts schema (take i ops) answers before mid → Ends schema op mid after result → result ≡ Ok answer → Accepts schema (take (i + 1) ops) (answers ++ answer ∷ []) before after
turn_accepted schema ops i op answers answer before mid after result within is so ends ok =
    subst (λ (front : List Op). Accepts schema front (answers ++ answer ∷ []) before after) (sym (taken ops i op within is))
    (accepted schema (take i ops) op answers answer before mid after so (subst (λ (r : Result Answer OpFault). Ends schema op mid after r) ok ends))

pub turn_short : (schema : Schema) (ops : List Op) (i : ℕ) (op : Op) (answers : List Answer) (answer : Answer) (before mid after : Viewed) (result : Result Answer OpFault) → i < length ops → op ≡ get_or ops i op
    → Accepts schema (take i ops) answers before mid → Ends schema op mid after result → result ≡ Ok answer → Runs schema (what.Batch ops) before after Memory
turn_short schema ops i op answers answer before mid after result within is so ends ok =
    subst (λ (all : List Op). Runs schema (what.Batch all) before after Memory) (sym (split ops i op within is))
    (short_ran schema (take i ops) (drop (suc i) ops) op answers answer before mid after so (subst (λ (r : Result Answer OpFault). Ends schema op mid after r) ok ends))

shown : (schema : Schema) (held : Held) (below : Connected) → is_some (viewed schema held below).now ≡ true → is_some below.told ≡ true
shown schema held below = by_told below.told
  where
    by_told : (told : Option Tables) → is_some (option_map (seen schema held.layers) told) ≡ true → is_some told ≡ true
    by_told None h = h
    by_told (Some tables) h = refl

pub turn_refused : (schema sees : Schema) (held : Held) (below : Connected) (ops : List Op) (i : ℕ) (op : Op) (answers : List Answer) (mid after : Viewed) (result : Result Answer OpFault) (refused : OpFault) (ran : Ran) → i < length ops
    → op ≡ get_or ops i op → Accepts schema (take i ops) answers (viewed sees held below) mid → Ends schema op mid after result → result ≡ Err refused → ran ≡ refused_at (length answers) refused
    → Runs schema (what.Batch ops) (viewed sees held below) after ran
turn_refused schema sees held below ops i op answers mid after result refused ran within is so ends err came =
    subst (λ (r : Ran). Runs schema (what.Batch ops) (viewed sees held below) after r) (ap (λ n. refused_at n refused) (sym so.count) ∙ sym came)
    (subst (λ (all : List Op). Runs schema (what.Batch all) (viewed sees held below) after (refused_at (length (take i ops)) refused)) (sym (split ops i op within is))
    (refused_ran schema (take i ops) (drop (suc i) ops) op answers (viewed sees held below) mid after refused (shown sees held below) so (subst (λ (r : Result Answer OpFault). Ends schema op mid after r) err ends)))

pub all_turned : (schema : Schema) (ops : List Op) (i : ℕ) (answers : List Answer) (before after : Viewed) → length ops ≤ i → Accepts schema (take i ops) answers before after → Runs schema (what.Batch ops) before after (Answered (replies.Answers answers))
all_turned schema ops i answers before after end so = all_ran schema ops answers before after (subst (λ (front : List Op). Accepts schema front answers before after) (take_all i ops end) so)
