-- Steps of a history.
use Rattle.std.proofs.Common.{◌≡◌, ◌⊎◌, inl, inr, ℕ, Bool, true, false, refl, sym, subst, ◌∙◌, Option}
use Rattle.qe_base.specs.Schemas.{Schema}
use Rattle.qe_base.specs.declared.event.Event.{Event}
use Rattle.qe_base.specs.declared.event.Reply.{Reply}
use Rattle.qe_base.specs.declared.event.Reply.TheVariants as replies
use Rattle.qe_base.specs.declared.event.What.{What}
use Rattle.qe_base.specs.declared.event.What.TheVariants as what
use Rattle.qe_history.specs.History.{Entered, IsGreeting}
use Rattle.qe_history.specs.State.{Clears, ComesOf, Fails, FailsAt, State, Step, has_seen}
use Rattle.qe_schema.specs.Tables.{Tables}
use Rattle.qe_view.specs.Attached.{Connected}
use Rattle.qe_session.specs.Handling.{Does, DoesAs, DoesFail, GoesOn, GreetsBack, Moves, TellsUnseen}
use Rattle.qe_session.specs.Standing.{StandsForState}

-- a history goes on where each state moves
pub goes_on : (schema : Schema) (place : ℕ) (event : Event) (reply : Reply) (before after : Connected) → Moves schema place event reply before after → GoesOn schema place event reply before after
goes_on schema place event reply before after moves opening history caller stood at may =
    let moved = moves stood.after stood.stands in
    record {
      after = moved.0;
      legal = Entered stood.legal (record { caller = may; step = subst (λ place. Step stood.after place event reply moved.0) at moved.2 });
      stands = moved.1;
    }

-- nothing below changed that a state speaks of
stays : (schema : Schema) (before after : Connected) (state : State) → after ≡ before → StandsForState schema before state → StandsForState schema after state
stays schema before after state same stands = subst (λ below. StandsForState schema below state) (sym same) stands

-- an event with this in it
abbrev with_what : Event → What → Event
with_what event asked = record event { what = asked }

-- what moves with one event moves with an equal one
as_asked : (schema : Schema) (place : ℕ) (event : Event) (asked : What) (reply : Reply) (before after : Connected) → event.what ≡ asked → Moves schema place (with_what event asked) reply before after → Moves schema place event reply before after
as_asked schema place event asked reply before after is moves = subst (λ (w : What). Moves schema place (with_what event w) reply before after) (sym is) moves

pub greeted : (schema : Schema) (place : ℕ) (event : Event) (reply : Reply) (before after : Connected) → event.what ≡ what.Hello → reply ≡ replies.Hello → after ≡ before → Moves schema place event reply before after
greeted schema place event reply before after asked replied same = as_asked schema place event what.Hello reply before after asked
    (λ state stands. (state, stays schema before after state same stands, inl (replied, refl)))

-- what is no greeting needs no greeting back
pub no_greeting : (asked other : What) (reply : Reply) → asked ≡ other → (IsGreeting other → ⊥) → GreetsBack asked reply
no_greeting asked other reply is none = λ greets. absurd (none (subst IsGreeting is greets))

-- an event that has operations
abbrev pub HasOperations : What → Type 0
HasOperations (what.Single op) = Unit {0}
HasOperations (what.Batch ops) = Unit {0}
HasOperations _ = ⊥

-- its three cases, where it is no greeting
abbrev Works : State → ℕ → Event → Reply → State → Type 0
Works before place event reply after =
    Clears (has_seen event.seen place) before place event reply after ⊎ (((reply ≡ replies.Memory) × (after ≡ before)) ⊎ Fails before place event reply after)

works : (before : State) (place : ℕ) (event : Event) (asked : What) (reply : Reply) (after : State) → HasOperations asked → Works before place (with_what event asked) reply after → Step before place (with_what event asked) reply after
works before place event (what.Single op) reply after has done = inr done
works before place event (what.Batch ops) reply after has done = inr done
works before place event what.Hello reply after has done = absurd has
works before place event (what.Start timeout) reply after has done = absurd has
works before place event (what.Step number op) reply after has done = absurd has
works before place event (what.Commit number) reply after has done = absurd has
works before place event (what.Rollback number) reply after has done = absurd has

refused : (state : State) (place : ℕ) (event : Event) (reply : Reply) → has_seen event.seen place ≡ false → TellsUnseen place event.seen reply → Works state place event reply state
refused state place event reply unseen (inl told) = inl (subst (λ (b : Bool). Clears b state place event reply state) (sym unseen) (told, refl))
refused state place event reply unseen (inr short) = inr (inl (short, refl))

pub told_unseen : (schema : Schema) (place : ℕ) (event : Event) (asked : What) (reply : Reply) (before after : Connected) → event.what ≡ asked → HasOperations asked
    → has_seen event.seen place ≡ false → TellsUnseen place event.seen reply → after ≡ before → Moves schema place event reply before after
told_unseen schema place event asked reply before after is has unseen told same = as_asked schema place event asked reply before after is
    (λ state stands. (state, stays schema before after state same stands, works state place event asked reply state has (refused state place (with_what event asked) reply unseen told)))

pub short : (schema : Schema) (place : ℕ) (event : Event) (asked : What) (reply : Reply) (before after : Connected) → event.what ≡ asked → HasOperations asked → reply ≡ replies.Memory → after ≡ before
    → Moves schema place event reply before after
short schema place event asked reply before after is has replied same = as_asked schema place event asked reply before after is
    (λ state stands. (state, stays schema before after state same stands, works state place event asked reply state has (inr (inl (replied, refl)))))

-- ---- operations

not_steady : (b : Bool) → (b ≡ true → ⊥) → b ≡ false
not_steady true h = absurd (h refl)
not_steady false h = refl

came : (state : State) (place : ℕ) (event : Event) (asked : What) (reply : Reply) (live : Option Tables) → has_seen event.seen place ≡ true → ComesOf state.schema state.live event.outside asked (record { reply = reply; live = live })
    → Works state place (with_what event asked) reply (record state { live = live })
came state place event asked reply live seen comes =
    inl (subst (λ (b : Bool). Clears b state place (with_what event asked) reply (record state { live = live })) (sym seen) (record { reply = reply; live = live }, comes, refl, refl))

failed : (schema : Schema) (state : State) (place : ℕ) (event : Event) (asked : What) (reply : Reply) (before after : Connected) → has_seen event.seen place ≡ true → StandsForState schema before state → DoesFail schema asked reply before after
    → Fails state place (with_what event asked) reply (record state { faults = after.faults.count })
failed schema state place event asked reply before after seen stands fails =
    let at : FailsAt state.schema state.live event.outside asked fails.index =
    subst (λ (s : Schema). FailsAt s state.live event.outside asked fails.index) (sym stands.schema_is) (subst (λ (t : Option Tables). FailsAt schema t event.outside asked fails.index) (sym stands.live) (fails.fails event.outside)) in
    subst (λ (r : Reply). Fails state place (with_what event asked) r (record state { faults = after.faults.count })) (sym fails.replied)
    (not_steady state.steady (λ steady. (fails.cause.never (stands.steady steady)).0 tt), seen, at, sym stands.faults, fails.cause.counted.rose tt, refl)

moved : (schema : Schema) (place : ℕ) (event : Event) (asked : What) (reply : Reply) (before after : Connected) → HasOperations asked → has_seen event.seen place ≡ true → DoesAs schema asked reply before after → (state : State)
    → StandsForState schema before state → (next : State) × StandsForState schema after next × Step state place (with_what event asked) reply next
moved schema place event asked reply before after has seen (inl done) state stands =
    let comes : ComesOf state.schema state.live event.outside asked (record { reply = reply; live = after.told }) =
    subst (λ (s : Schema). ComesOf s state.live event.outside asked (record { reply = reply; live = after.told })) (sym stands.schema_is)
    (subst (λ (t : Option Tables). ComesOf schema t event.outside asked (record { reply = reply; live = after.told })) (sym stands.live) (done.0 event.outside)) in (
      record state { live = after.told },
      record { schema_is = stands.schema_is; live = refl; faults = stands.faults ∙ sym done.1.0; steady = λ steady. done.1.1 (stands.steady steady) },
      works state place event asked reply (record state { live = after.told }) has (came state place event asked reply after.told seen comes),
    )
moved schema place event asked reply before after has seen (inr (inl short)) state stands = (
  state,
  record { schema_is = stands.schema_is; live = stands.live ∙ sym short.1.0; faults = stands.faults ∙ sym short.1.1.0; steady = λ steady. short.1.1.1 (stands.steady steady) },
  works state place event asked reply state has (inr (inl (short.0, refl))),
)
moved schema place event asked reply before after has seen (inr (inr fails)) state stands = (
  record state { faults = after.faults.count },
  record { schema_is = stands.schema_is; live = stands.live ∙ sym fails.told; faults = refl; steady = λ steady. absurd ((fails.cause.never (stands.steady steady)).0 tt) },
  works state place event asked reply (record state { faults = after.faults.count }) has (inr (inr (failed schema state place event asked reply before after seen stands fails))),
)

pub did : (schema : Schema) (place : ℕ) (event : Event) (asked : What) (reply : Reply) (before after : Connected) → event.what ≡ asked → HasOperations asked → has_seen event.seen place ≡ true → Does schema asked reply before after
    → Moves schema place event reply before after
did schema place event asked reply before after is has seen does = as_asked schema place event asked reply before after is (λ state stands. moved schema place event asked reply before after has seen does.done state stands)
