-- In a legal history a greeting replies to each greeting, and to no operation by itself.
use Rattle.std.proofs.Common.{◌≡◌, ℕ, List, [], ◌∷◌, ◌++◌, Bool, true, false, refl, subst, Option, Some, None, inl, inr}
use Rattle.std.specs.Prelude.{Result, Ok, Err}
use Rattle.qe_base.specs.Schemas.{Schema}
use Rattle.qe_base.specs.declared.answer.Answer.{Answer}
use Rattle.qe_base.specs.declared.answer.OpFault.TheVariants as fault
use Rattle.qe_base.specs.declared.answer.Outside.{Outside}
use Rattle.qe_base.specs.declared.answer.Rule.{Rule}
use Rattle.qe_base.specs.declared.event.Entry.{Entry}
use Rattle.qe_base.specs.declared.event.Event.{Event}
use Rattle.qe_base.specs.declared.event.Reply.{Reply}
use Rattle.qe_base.specs.declared.event.Reply.TheVariants as replies
use Rattle.qe_base.specs.declared.event.What.{What}
use Rattle.qe_base.specs.declared.event.What.TheVariants as what
use Rattle.qe_base.specs.declared.write.Op.{Op}
use Rattle.qe_forms.specs.Reply.{told_text, text_of}
use Rattle.qe_history.specs.History.{Legal, Opened, Entered}
use Rattle.qe_history.specs.State.{State, Outcome, single_reply, MayReply, ComesOf, ComesOfOne, Clears, Fails, RefusesUnseen, Step, has_seen}
use Rattle.qe_node.specs.Serving.{text_or_memory}
use Rattle.qe_writing.specs.Plain.{plain}

abbrev pub IsHello : Reply → Type 0
IsHello replies.Hello = Unit {0}
IsHello _ = ⊥

abbrev pub Right : What → Reply → Type 0
Right what.Hello reply = reply ≡ replies.Hello
Right (what.Single op) reply = IsHello reply → ⊥
Right _ reply = Unit {0}

abbrev pub AllRight : List Entry → Type 0
AllRight [] = Unit {0}
AllRight (one ∷ rest) = Right one.event.what one.reply × AllRight rest

unseen_right : (place : ℕ) (seen : Option ℕ) (reply : Reply) → RefusesUnseen place seen reply → IsHello reply → ⊥
unseen_right place None reply is hello = is
unseen_right place (Some seen) reply is hello = subst IsHello is hello

may_right : (reply : Reply) → MayReply reply → IsHello reply → ⊥
may_right replies.Hello may hello = may
may_right _ may hello = hello

single_right : (answer : Result Answer Rule) → IsHello (single_reply answer) → ⊥
single_right (Ok answer) hello = hello
single_right (Err broken) hello = hello

one_right : (schema : Schema) (outside : Outside) (op : Op) (live : Option _) (outcome : Outcome) → ComesOfOne schema outside op live outcome → IsHello outcome.reply → ⊥
one_right schema outside op (Some live) outcome is hello = single_right (plain schema op outside live).answer (subst (λ (o : Outcome). IsHello o.reply) is hello)
one_right schema outside op None outcome is hello = may_right outcome.reply is.0 hello

clear_right : (seen : Bool) (before : State) (place : ℕ) (event : Event) (reply : Reply) (after : State) (op : Op) → event.what ≡ what.Single op → Clears seen before place event reply after → IsHello reply → ⊥
clear_right false before place event reply after op is clears hello = unseen_right place event.seen reply clears.0 hello
clear_right true before place event reply after op is clears hello =
    one_right before.schema event.outside op before.live clears.0 (subst (λ w. ComesOf before.schema before.live event.outside w clears.0) is clears.1) (subst IsHello clears.2 hello)

single_step : (before : State) (place : ℕ) (seen : Option ℕ) (outside : Outside) (op : Op) (reply : Reply) (after : State)
    → Step before place (record { seen = seen; outside = outside; what = what.Single op }) reply after → IsHello reply → ⊥
single_step before place seen outside op replies.Hello after (inl greets) hello = greets
single_step before place seen outside op replies.Hello after (inr (inl clear)) hello = clear_right (has_seen seen place) before place _ replies.Hello after op refl clear hello
single_step before place seen outside op replies.Hello after (inr (inr (inl wants))) hello = subst IsHello wants.0 hello
single_step before place seen outside op replies.Hello after (inr (inr (inr fails))) hello = fails
single_step before place seen outside op _ after step hello = hello

hello_fails : (before : State) (place : ℕ) (seen : Option ℕ) (outside : Outside) (reply : Reply) (after : State) → Fails before place (record { seen = seen; outside = outside; what = what.Hello }) reply after → ⊥
hello_fails before place seen outside (replies.Refused None (fault.Connector first last)) after fails = fails.2
hello_fails before place seen outside (replies.Refused (Some index) (fault.Connector first last)) after fails = fails.2
hello_fails before place seen outside _ after fails = fails

hello_step : (before : State) (place : ℕ) (seen : Option ℕ) (outside : Outside) (reply : Reply) (after : State)
    → Step before place (record { seen = seen; outside = outside; what = what.Hello }) reply after → reply ≡ replies.Hello
hello_step before place seen outside reply after (inl greets) = greets.0
hello_step before place seen outside reply after (inr (inl clear)) = absurd clear
hello_step before place seen outside reply after (inr (inr (inl wants))) = absurd wants
hello_step before place seen outside reply after (inr (inr (inr fails))) = absurd (hello_fails before place seen outside reply after fails)

step_right : (before : State) (place : ℕ) (seen : Option ℕ) (outside : Outside) (asked : What) (reply : Reply) (after : State)
    → Step before place (record { seen = seen; outside = outside; what = asked }) reply after → Right asked reply
step_right before place seen outside what.Hello reply after step = hello_step before place seen outside reply after step
step_right before place seen outside (what.Single op) reply after step = single_step before place seen outside op reply after step
step_right before place seen outside _ reply after step = tt

right_more : (history : List Entry) (one : Entry) → AllRight history → Right one.event.what one.reply → AllRight (history ++ one ∷ [])
right_more [] one all right = (right, tt)
right_more (first ∷ history) one all right = (all.0, right_more history one all.1 right)

pub right_last : (history : List Entry) (one : Entry) → AllRight (history ++ one ∷ []) → Right one.event.what one.reply
right_last [] one all = all.0
right_last (first ∷ history) one all = right_last history one all.1

pub legal_right : (opening : State) (history : List Entry) (after : State) → Legal opening history after → AllRight history
legal_right opening _ _ Opened = tt
legal_right opening _ _ (Entered {history} {one} {before} {after} legal follows) =
    right_more history one (legal_right opening history before legal) (step_right before _ one.event.seen one.event.outside one.event.what one.reply after follows.step)

-- so where it has no text, it is want of memory
pub right_text : (schema : Schema) (reply : Reply) → (IsHello reply → ⊥) → text_or_memory (told_text schema reply) ≡ text_of schema reply
right_text schema replies.Hello right = absurd (right tt)
right_text schema _ right = refl
