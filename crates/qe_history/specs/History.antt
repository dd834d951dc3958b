-- The history of all entries, and when it is legal.
use Rattle.std.specs.Prelude.{◌≡◌, ◌⊎◌, ℕ, List, [], ◌∷◌, ◌++◌, length, slice_get, Some}
use Rattle.qe_base.specs.declared.event.What.{What}
use Rattle.qe_base.specs.declared.event.What.TheVariants as what
use Rattle.qe_base.specs.declared.event.Entry.{Entry}
use Rattle.qe_history.specs.State.{State, Step}

abbrev pub IsGreeting : What → Type 0
IsGreeting what.Hello = Unit {0}
IsGreeting _ = ⊥

-- the caller of this number greeted at the place that is its number
pub record HasGreeted (history : List Entry) (caller : ℕ) : Type 0 where
  pub greeting : Entry
  pub at : slice_get history caller ≡ Some greeting
  pub own : greeting.caller ≡ caller
  pub greets : IsGreeting greeting.event.what

-- who may call next: one that has greeted, or by a greeting a new one
abbrev pub MayCall : List Entry → ℕ → What → Type 0
MayCall history caller asked = HasGreeted history caller ⊎ ((caller ≡ length history) × IsGreeting asked)

-- An entry is allowed after a history: its caller may call, and it is a step from the state so far.
pub record Follows (history : List Entry) (one : Entry) (before after : State) : Type 0 where
  pub caller : MayCall history one.caller one.event.what
  pub step : Step before (length history) one.event one.reply after

-- The entries, each allowed after those before it, are one legal history from the opening, which leaves this state.
pub data Legal (opening : State) : List Entry → State → Type 0 where
  Opened : Legal opening [] opening
  Entered : {history : List Entry} {one : Entry} {before after : State} → Legal opening history before → Follows history one before after → Legal opening (history ++ one ∷ []) after
