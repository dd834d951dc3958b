use Rattle.std.proofs.Common.{rules, arith, ◌≡◌, ◌<◌, ◌≤◌, ◌-◌, ◌++◌, ◌∷◌, [], refl, sym, ap, subst, Some, false, true, true≢false, IfSome, is_ok, is_err}
use Rattle.std.proofs.lemmas.Bool.{false≢true}
use Rattle.std.proofs.lemmas.Bool.Decides.{nat_tests}
use Rattle.qe_base.specs.Causes.{Faults, HasCause}
use Rattle.qe_base.specs.Outside.{Seen}
use Rattle.qe_node.specs.Run.{longest_input}
use Rattle.qe_node.specs.Taking.{RunsOn, Takes, TakesSome, TakesWhole, cuts, filled, has_newline}
use Rattle.qe_node.proofs.Causes.{cause_as, cause_more, cause_none, moved_read, moved_wrote}
use Rattle.qe_node.proofs.Reading.{reading_fault, reading_last, reading_long, reading_more, reading_none, reading_stops}
use Rattle.qe_node.proofs.input.take_pieces.Goals as goal
use Rattle.qe_node.proofs.input.take_pieces.Goals.{then-room-eq0, else-room-eq0}

pub pieces-init : goal.pieces-init
pieces-init g c =
    let before = g.P.Outer.seen c.args.port.now in record {
      reading = reading_none longest_input c.args.schema.now c.new-pending.result.items (g.C.Connector.seen c.args.core.now.view.below) c.args.place.now before c.new-pending.ensures.items;
      some = c.requires.some;
      one_line = ap has_newline c.new-pending.ensures.items;
      few = omega (arith, c.requires.first);
      read_cause = cause_none before.reads;
      write_cause = cause_none before.writes;
      moved = refl;
      attached = refl;
      schema = c.requires.schema;
      ready = c.requires.ready;
    }

pub returns-in-Err-clause-ran : goal.returns-in-Err-clause-ran
returns-in-Err-clause-ran g c =
    let some : 0 < c.pieces.room = search rules in
    reading_fault longest_input c.args.schema.now c.pieces.pending.items c.pieces.room (g.C.Connector.seen c.args.core.now.view.below) (g.C.Connector.seen c.pieces.core.view.below) c.args.place.now c.pieces.place
    (g.P.Outer.seen c.args.port.now) (g.P.Outer.seen c.pieces.port) (g.P.Outer.seen c.read_front.new.port) some c.pieces.invariant.one_line c.in-Err.ensures.failed c.read_front.ensures.others c.read_front.ensures.turn c.pieces.invariant.reading

pub returns-then-count-eq0-clause-ran : goal.returns-then-count-eq0-clause-ran
returns-then-count-eq0-clause-ran g c =
    let schema = c.args.schema.now in
    let below = g.C.Connector.seen c.args.core.now.view.below in
    let middle = g.C.Connector.seen c.pieces.core.view.below in
    let after = g.C.Connector.seen c.take_line-last.new.core.view.below in
    let before = g.P.Outer.seen c.args.port.now in
    let now = g.P.Outer.seen c.pieces.port in
    let then = g.P.Outer.seen c.read_front.new.port in
    let next = g.P.Outer.seen c.take_line-last.new.port in
    let last = c.take_line-last.result in
    let some : 0 < c.pieces.room = search rules in
    let most_some : 0 < c.min-most.result = search rules in
    subst (λ e. RunsOn e schema below after c.args.place.now c.take_line-last.new.place before next) (sym c.end_after.ensures)
    (reading_last last schema c.pieces.pending.items c.read_front.new.piece c.in-Ok.count c.pieces.room below middle after c.args.place.now c.pieces.place c.take_line-last.new.place before now then next some c.if-count-eq0.true
    c.pieces.invariant.one_line c.pieces.invariant.reading c.read_front.ensures.others c.read_front.ensures.turn c.in-Ok.ensures.bytes (c.in-Ok.ensures.end most_some)
    (subst (λ p. Takes (is_err last) schema (filled (p ∷ [])) middle after c.pieces.place c.take_line-last.new.place then next) c.as_slice.ensures.value c.take_line-last.ensures.takes) (ap (λ (x : Seen). x.left) c.take_line-last.ensures.wrote.others) (ap (λ (x : Seen). x.turns) c.take_line-last.ensures.wrote.others))

pub pieces-preserved : goal.pieces-preserved
pieces-preserved g c =
    let schema = c.args.schema.now in
    let below = g.C.Connector.seen c.args.core.now.view.below in
    let middle = g.C.Connector.seen c.pieces.core.view.below in
    let after = g.C.Connector.seen c.take_lines.new.core.view.below in
    let before = g.P.Outer.seen c.args.port.now in
    let now = g.P.Outer.seen c.pieces.port in
    let then = g.P.Outer.seen c.read_front.new.port in
    let next = g.P.Outer.seen c.take_lines.new.port in
    let pending = c.pieces.pending.items in
    let later = c.take_lines.new.pending.items in
    let less = c.pieces.room - c.in-Ok.count in
    let front = c.split_at.result.0.now in
    let within = c.if-room-eq0.within in
    let some : 0 < c.pieces.room = search rules in
    let read : c.in-Ok.count ≤ c.pieces.room = omega (arith, c.in-Ok.ensures.within, c.min-most.ensures) in
    let shorter : within ≤ c.in-Ok.count = elim c.if-room-eq0.branch [ then-room-eq0 w ↦ omega (arith, w.within-is) | else-room-eq0 w ↦ omega (arith, w.within-is) ] in record {
      reading = reading_more longest_input schema pending later front within c.pieces.room less below middle after c.args.place.now c.pieces.place c.take_lines.new.place before now then next some c.pieces.invariant.one_line (omega (arith, c.split_at.ensures.front_len, read))
          (λ more. elim c.if-room-eq0.branch [ then-room-eq0 w ↦ absurd (omega arith) | else-room-eq0 w ↦ omega (arith, c.split_at.ensures.front_len, w.within-is) ])
          (λ none. elim c.if-room-eq0.branch [ then-room-eq0 w ↦ omega (arith, c.split_at.ensures.front_len, w.within-is, c.if-count-eq0.false) | else-room-eq0 w ↦ absurd (omega arith) ])
          c.pieces.invariant.reading c.read_front.ensures.others c.read_front.ensures.turn (subst (λ f. IfSome then.left (λ rest. now.left ≡ Some (f ++ rest))) (sym c.split_at.ensures.front) c.in-Ok.ensures.bytes)
          (subst (λ b. TakesWhole schema (pending ++ b) later middle after c.pieces.place c.take_lines.new.place then next) c.split_at-in-pieces.ensures.front c.in-Ok-take_lines.ensures.ok)
          (ap (λ (x : Seen). x.left) c.take_lines.ensures.wrote.others) (ap (λ (x : Seen). x.turns) c.take_lines.ensures.wrote.others);
      some = search rules;
      one_line = c.in-Ok-take_lines.ensures.one_line;
      few = omega (arith, c.take_lines.ensures.room, c.split_at-in-pieces.ensures.front_len, shorter, read, c.pieces.invariant.few);
      read_cause = subst (λ (f : Faults). HasCause before.reads f ⊥) (sym (ap (λ (x : Seen). x.reads) c.take_lines.ensures.wrote.others))
          (cause_more before.reads now.reads then.reads ⊥ c.pieces.invariant.read_cause (cause_as now.reads then.reads (false ≡ true) ⊥ (λ failed. false≢true failed) (λ none. absurd none) c.in-Ok.ensures.cause));
      write_cause = cause_more before.writes then.writes next.writes ⊥ (subst (λ (f : Faults). HasCause before.writes f ⊥) (sym (ap (λ (x : Seen). x.writes) c.read_front.ensures.others)) c.pieces.invariant.write_cause)
          (cause_as then.writes next.writes _ ⊥ (λ failed. true≢false (ap is_ok failed)) (λ none. absurd none) c.in-Ok-take_lines.ensures.wrote.cause);
      moved = moved_wrote before then next (moved_read before now then c.pieces.invariant.moved c.read_front.ensures.others) c.take_lines.ensures.wrote.others;
      attached = search rules;
      schema = search rules;
      ready = search rules;
    }

pub returns-in-Err-take_lines-clause-ran : goal.returns-in-Err-take_lines-clause-ran
returns-in-Err-take_lines-clause-ran g c =
    let schema = c.args.schema.now in
    let below = g.C.Connector.seen c.args.core.now.view.below in
    let middle = g.C.Connector.seen c.pieces.core.view.below in
    let after = g.C.Connector.seen c.take_lines.new.core.view.below in
    let before = g.P.Outer.seen c.args.port.now in
    let now = g.P.Outer.seen c.pieces.port in
    let then = g.P.Outer.seen c.read_front.new.port in
    let next = g.P.Outer.seen c.take_lines.new.port in
    let pending = c.pieces.pending.items in
    let front = c.split_at.result.0.now in
    let why = c.in-Err-take_lines.why in
    let some : 0 < c.pieces.room = search rules in
    subst (λ e. RunsOn e schema below after c.args.place.now c.take_lines.new.place before next) (sym c.end_of.ensures)
    (reading_stops why schema pending front c.if-room-eq0.within c.pieces.room below middle after c.args.place.now c.pieces.place c.take_lines.new.place before now then next some c.pieces.invariant.one_line c.pieces.invariant.reading c.read_front.ensures.others c.read_front.ensures.turn
    (subst (λ f. IfSome then.left (λ rest. now.left ≡ Some (f ++ rest))) (sym c.split_at.ensures.front) c.in-Ok.ensures.bytes)
    (subst (λ b. TakesSome (cuts why) schema (pending ++ b) middle after c.pieces.place c.take_lines.new.place then next) c.split_at-in-pieces.ensures.front c.in-Err-take_lines.ensures.stops)
    (ap (λ (x : Seen). x.left) c.take_lines.ensures.wrote.others) (ap (λ (x : Seen). x.turns) c.take_lines.ensures.wrote.others))

pub returns-clause-ran : goal.returns-clause-ran
returns-clause-ran g c =
    let none : c.pieces.room ≡ 0 = grind (arith, nat_tests) in
    reading_long c.args.schema.now c.pieces.pending.items c.pieces.room (g.C.Connector.seen c.args.core.now.view.below) (g.C.Connector.seen c.pieces.core.view.below) c.args.place.now c.pieces.place
    (g.P.Outer.seen c.args.port.now) (g.P.Outer.seen c.pieces.port) none c.pieces.invariant.one_line c.pieces.invariant.reading
