use Rattle.std.proofs.Common.{rules, arith, ◌≡◌, ◌+◌, ◌++◌, ◌∷◌, ◌∙◌, length, length-append, ap, false, refl, sym, subst}
use Rattle.std.proofs.lemmas.Bool.{false≢true}
use Rattle.qe_node.specs.Taking.{TakesSome, TakesWhole, cuts, has_newline}
use Rattle.qe_node.specs.declared.take.Stop.{Stop}
use Rattle.qe_node.proofs.Causes.{wrote_as, wrote_more, wrote_none}
use Rattle.qe_node.proofs.Taken.{on_err, short_append, some_line, some_short, whole_line, whole_none}
use Rattle.qe_node.proofs.take.take_lines.Goals as goal

pub lines-init : goal.lines-init
lines-init g c = record {
  takes = whole_none c.args.schema.now (c.args.pending.now.items ++ c.args.bytes.now) (g.C.Connector.seen c.args.core.now.view.below) c.args.place.now (g.P.Outer.seen c.args.port.now);
  one_line = c.requires.one_line;
  room = omega arith;
  wrote = wrote_none (g.P.Outer.seen c.args.port.now);
  attached = refl;
  schema = c.requires.schema;
  ready = c.requires.ready;
}

pub returns-in_err-append-clause-stops : goal.returns-in_err-append-clause-stops
returns-in_err-append-clause-stops g c =
    let bytes = c.args.pending.now.items ++ c.args.bytes.now in
    let below = g.C.Connector.seen c.args.core.now.view.below in
    let now = g.C.Connector.seen c.lines.core.view.below in
    let before = g.P.Outer.seen c.args.port.now in
    let seen = g.P.Outer.seen c.lines.port in
    on_err c.from_residual.result c.in_err-append.field-0.0 (λ (why : Stop). TakesSome (cuts why) c.args.schema.now bytes below now c.args.place.now c.lines.place before seen) c.from_residual.ensures.1
    (subst (λ (why : Stop). TakesSome (cuts why) c.args.schema.now bytes below now c.args.place.now c.lines.place before seen) (sym c.in_err-append.ensures.err)
    (some_short c.args.schema.now bytes (c.lines.pending.items ++ c.lines.rest.now) below now c.args.place.now c.lines.place before seen c.lines.invariant.takes))

pub returns-in-Err-clause-stops : goal.returns-in-Err-clause-stops
returns-in-Err-clause-stops g c =
    some_line c.args.schema.now (c.args.pending.now.items ++ c.args.bytes.now) c.lines.pending.items c.in-Some.line.now c.as_slice.result.now c.lines.rest.now c.in-Some.later.now
    (g.C.Connector.seen c.args.core.now.view.below) (g.C.Connector.seen c.lines.core.view.below) (g.C.Connector.seen c.take_line.new.core.view.below) c.args.place.now c.lines.place c.take_line.new.place
    (g.P.Outer.seen c.args.port.now) (g.P.Outer.seen c.lines.port) (g.P.Outer.seen c.take_line.new.port) c.lines.invariant.one_line c.in-Some.ensures.1 (c.as_slice.ensures.value ∙ c.in_ok-append.ensures.ok) c.in-Some.ensures.0
    c.lines.invariant.takes c.in-Err.ensures.takes

pub lines-preserved : goal.lines-preserved
lines-preserved g c =
    let bytes = c.args.pending.now.items ++ c.args.bytes.now in
    let below = g.C.Connector.seen c.args.core.now.view.below in
    let now = g.C.Connector.seen c.lines.core.view.below in
    let next = g.C.Connector.seen c.take_line.new.core.view.below in
    let before = g.P.Outer.seen c.args.port.now in
    let seen = g.P.Outer.seen c.lines.port in
    let then = g.P.Outer.seen c.take_line.new.port in
    let longer : length c.lines.rest.now ≡ length c.in-Some.line.now + (1 + length c.in-Some.later.now) = ap length c.in-Some.ensures.0 ∙ length-append c.in-Some.line.now (10 ∷ c.in-Some.later.now) ∙ omega arith in record {
      takes = subst (λ p. TakesWhole c.args.schema.now bytes (p ++ c.in-Some.later.now) below next c.args.place.now c.take_line.new.place before then) (sym c.clear.ensures.items)
          (whole_line c.args.schema.now bytes c.lines.pending.items c.in-Some.line.now c.as_slice.result.now c.lines.rest.now c.in-Some.later.now below now next c.args.place.now c.lines.place c.take_line.new.place before seen then
          c.lines.invariant.one_line c.in-Some.ensures.1 (c.as_slice.ensures.value ∙ c.in_ok-append.ensures.ok) c.in-Some.ensures.0 c.lines.invariant.takes c.in-Ok.ensures.takes);
      one_line = ap has_newline c.clear.ensures.items;
      room = omega (arith, longer, c.in-Ok.ensures.room, c.lines.invariant.room);
      wrote = wrote_more before seen then ⊥ c.lines.invariant.wrote (wrote_as seen then (false ≡ _) ⊥ (λ failed. false≢true failed) (λ none. absurd none) c.in-Ok.ensures.wrote);
      attached = search rules;
      schema = search rules;
      ready = search rules;
    }

pub returns-clause-stops : goal.returns-clause-stops
returns-clause-stops g c =
    short_append c.append-2.result c.args.schema.now (c.args.pending.now.items ++ c.args.bytes.now) (c.lines.pending.items ++ c.lines.rest.now) (g.C.Connector.seen c.args.core.now.view.below) (g.C.Connector.seen c.lines.core.view.below)
    c.args.place.now c.lines.place (g.P.Outer.seen c.args.port.now) (g.P.Outer.seen c.lines.port) c.lines.invariant.takes c.append-2.ensures.err
