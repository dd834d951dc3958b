-- What an operation by itself comes to.
use Rattle.std.proofs.Common.{◌≡◌, ℕ, pos, ◌≤◌, true, List, [], ◌∷◌, ◌++◌, length, slice_get, arith, refl, ap, sym, subst, rules, Option, Some, None, option_map, is_some, Result, Ok, Err, IfSome}
use Rattle.qe_base.specs.Schemas.{Schema}
use Rattle.qe_base.specs.declared.answer.Answer.{Answer}
use Rattle.qe_base.specs.declared.answer.OpFault.{OpFault}
use Rattle.qe_base.specs.declared.answer.OpFault.TheVariants as fault
use Rattle.qe_base.specs.declared.answer.Outside.{Outside}
use Rattle.qe_base.specs.declared.answer.Rule.{Rule}
use Rattle.qe_base.specs.declared.event.Reply.TheVariants as replies
use Rattle.qe_base.specs.declared.event.What.TheVariants as what
use Rattle.qe_base.specs.declared.write.Op.{Op}
use Rattle.qe_history.specs.State.{ComesOfOne, single_outcome, single_reply}
use Rattle.qe_ops.specs.Bounds.{calls_of, reads_alone}
use Rattle.qe_ops.specs.Leaves.{CanGoBack, Leaves}
use Rattle.qe_ops.specs.Performs.{Performs}
use Rattle.qe_ops.specs.Refusals.{TellsCounts, fault_told}
use Rattle.qe_overlay.specs.Fits.{viewed}
use Rattle.qe_base.specs.declared.value.TableId.{TableId}
use Rattle.qe_overlay.specs.Held.{Held}
use Rattle.qe_overlay.specs.Layers.{Layers, seen}
use Rattle.qe_schema.specs.Tables.{Tables}
use Rattle.qe_view.specs.Attached.{Connected}
use Rattle.qe_view.specs.Versions.{Viewed}
use Rattle.qe_writing.specs.Plain.{plain}
use Rattle.qe_session.specs.Performing.{Keeps, Runs, ran_of}

pub any : Outside
any = record { moment = pos 0; seed = 0 }

-- an answer, and the tables after it
answered : (schema : Schema) (op : Op) (outside : Outside) (told now : Option Tables) (answer : Answer) → IfSome told (λ tables. (plain schema op outside tables).answer ≡ Ok answer)
    → now ≡ option_map (λ tables. (plain schema op outside tables).tables) told → ComesOfOne schema outside op told (record { reply = replies.Answer answer; live = now })
answered schema op outside None now answer h is = (tt, is)
answered schema op outside (Some tables) now answer h is = λ i. record { reply = single_reply (sym h i); live = is i }

-- a broken rule
broke : (schema : Schema) (op : Op) (outside : Outside) (told : Option Tables) (broken : Rule) → IfSome told (λ tables. plain schema op outside tables ≡ record { answer = Err broken; tables = tables })
    → ComesOfOne schema outside op told (record { reply = replies.Refused None (fault.Rule broken); live = told })
broke schema op outside None broken h = (tt, refl)
broke schema op outside (Some tables) broken h = ap single_outcome (sym h)

-- a kept row that doesn't fit comes of tables that aren't told
unfit : (schema shown : Schema) (op : Op) (outside : Outside) (layers : Layers) (told : Option Tables) (table : TableId) (column : ℕ) → (is_some told ≡ true → ⊥)
    → ComesOfOne schema outside op (option_map (seen shown layers) told) (record { reply = replies.Refused None (fault.Misfit table column); live = option_map (seen shown layers) told })
unfit schema shown op outside layers None table column untold = (tt, refl)
unfit schema shown op outside layers (Some tables) table column untold = absurd (untold refl)

no_fewer : (past : List (Option Tables)) → length past ≤ 0 → past ≡ []
no_fewer [] h = refl
no_fewer (one ∷ past) h = absurd (grind (arith, h))

-- what can go back to its beginning, and has nothing to take back, made no change
pub kept : (before after : Viewed) → CanGoBack before after → Keeps before after
kept before after back past =
    let none : before.past ≡ [] = no_fewer before.past (subst (λ (p : List (Option Tables)). length before.past ≤ length p) past back.made) in
    let first : slice_get (after.past ++ after.now ∷ []) 0 ≡ Some before.now = subst (λ (p : List (Option Tables)). slice_get (after.past ++ after.now ∷ []) (length p) ≡ Some before.now) none back.now in
    let alone : slice_get (after.now ∷ []) 0 ≡ Some before.now = subst (λ (p : List (Option Tables)). slice_get (p ++ after.now ∷ []) 0 ≡ Some before.now) past first in
    (none, search (rules, alone))

pub single_runs : (schema shown : Schema) (op : Op) (held : Held) (below : Connected) (after : Viewed) (result : Result Answer OpFault)
    → ((outside : Outside) → Performs (plain schema op outside) (viewed shown held below) after result) → Leaves (calls_of schema op) (viewed shown held below) after (fault_told result)
    → TellsCounts below.faults.count after.below.faults.count result → (reads_alone op ≡ true → after.past ≡ (viewed shown held below).past)
    → Runs schema (what.Single op) (viewed shown held below) after (ran_of result)
single_runs schema shown op held below after (Ok answer) performs leaves counts reads = record {
  orderly = tt;
  comes = (λ outside. answered schema op outside (viewed shown held below).now after.now answer (performs outside).answer (performs outside).ok.now, kept _ _ (performs any).ok.back);
  leaves = leaves;
  reads = reads;
}
single_runs schema shown op held below after (Err (fault.Rule broken)) performs leaves counts reads = record {
  orderly = tt;
  comes = λ outside. broke schema op outside (viewed shown held below).now broken (performs outside).answer;
  leaves = leaves;
  reads = reads;
}
single_runs schema shown op held below after (Err (fault.Connector first last)) performs leaves counts reads = record {
  orderly = tt;
  comes = (λ outside. tt, counts.0, counts.1);
  leaves = leaves;
  reads = reads;
}
single_runs schema shown op held below after (Err (fault.Misfit table column)) performs leaves counts reads = record {
  orderly = tt;
  comes = λ outside. unfit schema shown op outside held.layers below.told table column (λ told. leaves.tells told refl);
  leaves = leaves;
  reads = reads;
}
single_runs schema shown op held below after (Err fault.Memory) performs leaves counts reads = record {
  orderly = tt;
  comes = tt;
  leaves = search rules;
  reads = reads;
}
