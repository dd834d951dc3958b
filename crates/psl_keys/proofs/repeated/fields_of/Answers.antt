use Rattle.psl_keys.proofs.Sets.{turn_field}
use Rattle.psl_keys.proofs.repeated.fields_of.Goals as goal

pub loop-field-preserved : goal.loop-field-preserved
loop-field-preserved c = (
  c.in_ok-insert.ensures.ordered,
  λ name. turn_field c.as_slice-field-items.result.now c.loop-field.field-index c.field-item.result c.as_str.result name c.loop-field.fields c.insert.new.self _
      c.loop-field-test.true c.field-item.is c.as_str.ensures.text (c.in_ok-insert.ensures.updates.0 name) (c.loop-field.invariant.1 name),
)
