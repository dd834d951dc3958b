-- How a run comes to its end.
use Rattle.std.proofs.Common.{◌≡◌, [], refl, sym, ap, ◌∙◌, subst, inl, inr}
use Rattle.std.specs.Prelude.{Ok, Result, option_map}
use Rattle.qe_base.specs.Outside.{Seen}
use Rattle.qe_base.specs.Schemas.{Schema}
use Rattle.qe_history.specs.State.{State}
use Rattle.qe_cli.specs.Command.{RunComes, RunsOver, StaysUnused}
use Rattle.qe_cli.specs.Connected.{AttachesFor}
use Rattle.qe_cli.specs.Ends.{EndsFor, end_from}
use Rattle.qe_cli.specs.declared.End.{End}
use Rattle.qe_cli.specs.declared.End.TheVariants as end
use Rattle.qe_cli.proofs.Causes.{same_ends}
use Rattle.qe_node.specs.Port.{OnlyMoved}
use Rattle.qe_node.specs.Run.{Ran}
use Rattle.qe_node.specs.declared.LinesEnd.{LinesEnd}
use Rattle.qe_node.specs.declared.LinesEnd.TheVariants as lines
use Rattle.qe_overlay.specs.Fits.{HasLayout}
use Rattle.qe_session.specs.Standing.{StandsFor, first_state}
use Rattle.qe_view.specs.Attached.{Attached, Attaches, Connected}
use Rattle.qe_view.specs.Layouts.{Layout, layout_of}
use Rattle.qe_view.specs.declared.changes.AttachFault.{AttachFault}

over : (l : LinesEnd) (schema : Schema) (before after : Seen) (given opened back : Connected) → AttachesFor schema given opened (Ok tt) → Ran l schema (first_state schema opened) before after opened back → OnlyMoved before after → back.attached ≡ opened.attached → RunsOver l schema before after given back
over l schema before after given opened back opens ran others attached = record { opened = opened; opens = opens; ran = ran; others = others; attached = attached ∙ opens.opened }

over_comes : (l : LinesEnd) (schema : Schema) (before after : Seen) (given back : Connected) → RunsOver l schema before after given back → RunComes (end_from l) schema before after given back
over_comes lines.Done schema before after given back runs = runs
over_comes lines.LongInput schema before after given back runs = runs
over_comes lines.ReadFault schema before after given back runs = runs
over_comes lines.WriteFault schema before after given back runs = runs
over_comes lines.Memory schema before after given back runs = inr runs

-- the lines were answered
pub lines_come : (e : End) (l : LinesEnd) (schema : Schema) (before after : Seen) (given opened back : Connected) → e ≡ end_from l → AttachesFor schema given opened (Ok tt) → Ran l schema (first_state schema opened) before after opened back → OnlyMoved before after → back.attached ≡ opened.attached → RunComes e schema before after given back
lines_come e l schema before after given opened back is opens ran others attached =
    subst (λ x. RunComes x schema before after given back) (sym is) (over_comes l schema before after given back (over l schema before after given opened back opens ran others attached))

-- no core was had for them
pub idle_comes : (schema : Schema) (seen : Seen) (given opened back : Connected) → back ≡ opened → AttachesFor schema given opened (Ok tt) → RunComes end.Memory schema seen seen given back
idle_comes schema seen given opened back same opens = inl (inr (Ok tt, subst (λ b. AttachesFor schema given b (Ok tt)) (sym same) opens), refl)

-- memory was short before the connector was touched
pub short_comes : (schema : Schema) (seen : Seen) (given : Connected) → RunComes end.Memory schema seen seen given given
short_comes schema seen given = inl (inl refl, refl)

-- what is attached for a schema has its layout
pub has_layout : (schema : Schema) (given opened : Connected) → AttachesFor schema given opened (Ok tt) → HasLayout opened (layout_of schema)
has_layout schema given opened opens = ap (option_map (λ (attached : Attached). attached.layout)) opens.opened

-- the connector wasn't used
pub unused_comes : (e : End) (schema : Schema) (seen : Seen) (given back : Connected) → StaysUnused e schema given back → RunComes e schema seen seen given back
unused_comes end.Done schema seen given back stays = absurd stays
unused_comes end.Usage schema seen given back stays = absurd stays
unused_comes (end.Refused why) schema seen given back stays = absurd stays
unused_comes end.FetchFault schema seen given back stays = absurd stays
unused_comes end.ReadFault schema seen given back stays = absurd stays
unused_comes end.WriteFault schema seen given back stays = absurd stays
unused_comes end.Memory schema seen given back stays = inl (stays, refl)
unused_comes (end.ConnectorFault first last) schema seen given back stays = (stays, refl)
unused_comes end.LayoutDiffers schema seen given back stays = (stays, refl)
unused_comes end.LongInput schema seen given back stays = absurd stays

pub unused_ends : (e : End) (schema : Schema) (seen : Seen) (given back : Connected) → StaysUnused e schema given back → EndsFor e seen seen
unused_ends end.Done schema seen given back stays = absurd stays
unused_ends end.Usage schema seen given back stays = absurd stays
unused_ends (end.Refused why) schema seen given back stays = absurd stays
unused_ends end.FetchFault schema seen given back stays = absurd stays
unused_ends end.ReadFault schema seen given back stays = absurd stays
unused_ends end.WriteFault schema seen given back stays = absurd stays
unused_ends end.Memory schema seen given back stays = same_ends end.Memory seen seen refl (λ f. f) (λ f. f) (λ f. f)
unused_ends (end.ConnectorFault first last) schema seen given back stays = same_ends (end.ConnectorFault first last) seen seen refl (λ f. f) (λ f. f) (λ f. f)
unused_ends end.LayoutDiffers schema seen given back stays = same_ends end.LayoutDiffers seen seen refl (λ f. f) (λ f. f) (λ f. f)
unused_ends end.LongInput schema seen given back stays = absurd stays

-- attaching with the layout of a schema
pub attached_for : (schema : Schema) (layout : Layout) (given back : Connected) (result : Result (Unit {0}) AttachFault) → layout ≡ layout_of schema → Attaches [] layout given back result → AttachesFor schema given back result
attached_for schema layout given back result is attaches = subst (λ l. Attaches [] l given back result) is attaches

-- the lines went from the state that the core stood for first
pub ran_over : (owner schema : Schema) (l : LinesEnd) (before after : Seen) (opened below back : Connected) → owner ≡ schema → below ≡ opened → StandsFor owner below (first_state owner opened) []
    → ((opening : State) → StandsFor schema below opening [] → Ran l schema opening before after below back) → Ran l schema (first_state schema opened) before after opened back
ran_over owner schema l before after opened below back same is stood ran =
    subst (λ b. Ran l schema (first_state schema opened) before after b back) is (ran (first_state schema opened) (subst (λ s. StandsFor s below (first_state s opened) []) same stood))
