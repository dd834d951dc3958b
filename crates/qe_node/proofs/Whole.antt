-- A run behind its greeting, and the whole of it.
use Rattle.std.proofs.Common.{◌≡◌, ℕ, [], refl, subst}
use Rattle.qe_base.specs.Outside.{Seen}
use Rattle.qe_base.specs.Schemas.{Schema}
use Rattle.qe_history.specs.Exchange.{history_of}
use Rattle.qe_history.specs.Lines.{lines_of}
use Rattle.qe_history.specs.State.{State}
use Rattle.qe_node.specs.Run.{IsPrompt, Ran}
use Rattle.qe_node.specs.Serving.{IsStood, lines_calls}
use Rattle.qe_node.specs.Taking.{RunsOn}
use Rattle.qe_node.specs.declared.LinesEnd.{LinesEnd}
use Rattle.qe_node.specs.declared.LinesEnd.TheVariants as ends
use Rattle.qe_node.proofs.Led.{leads_none}
use Rattle.qe_node.proofs.Prompt.{no_turn}
use Rattle.qe_node.proofs.Reading.{itself}
use Rattle.qe_node.proofs.Wrote.{appends_nothing}
use Rattle.qe_session.specs.Standing.{StandsFor}
use Rattle.qe_view.specs.Attached.{Connected}
use Rattle.qe_view.specs.Calls.{CallCounts, MakesAtMost}

-- memory was short before anything was read
runs_short : (schema : Schema) (below : Connected) (place : ℕ) (before : Seen) → RunsOn ends.Memory schema below below place place before before
runs_short schema below place before = record {
  read = [];
  outcomes = [];
  source = itself before.left;
  ends = λ stood. (([], lines_of [], refl, tt), appends_nothing before before refl);
  prompt = λ stood. no_turn (IsPrompt schema [] [] before) before;
  leads = leads_none schema below place;
}

pub ran_of : (end : LinesEnd) (schema : Schema) (opening : State) (before now : Seen) (given below after : Connected) (next : ℕ) → StandsFor schema below opening (history_of []) → below.calls ≡ given.calls → RunsOn end schema below after 1 next before now
    → Ran end schema opening before now given after
ran_of end schema opening before now given below after next stands calls runs =
    let stood : IsStood schema below 1 = record { opening = opening; done = []; stands = stands; length_is = refl } in record {
      read = runs.read;
      outcomes = runs.outcomes;
      source = runs.source;
      ends = runs.ends stood;
      prompt = runs.prompt stood;
      stands = (runs.leads.stands opening [] stands refl).0;
      calls = subst (λ (c : CallCounts). MakesAtMost (lines_calls schema runs.outcomes) c after.calls) calls runs.leads.calls;
    }

pub ran_short : (schema : Schema) (opening : State) (before : Seen) (given below : Connected) → StandsFor schema below opening (history_of []) → below.calls ≡ given.calls → Ran ends.Memory schema opening before before given below
ran_short schema opening before given below stands calls = ran_of ends.Memory schema opening before before given below below 1 stands calls (runs_short schema below 1 before)
