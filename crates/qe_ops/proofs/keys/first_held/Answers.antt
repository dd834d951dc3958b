use Rattle.std.proofs.Common.{ap, sym, subst, ◌∙◌, Some}
use Rattle.std.proofs.lemmas.Option.{slice_get-get_or}
use Rattle.qe_schema.proofs.Members.{in_place}
use Rattle.qe_schema.specs.Keys.{KeyStands}
use Rattle.qe_schema.specs.Tables.{table_at}
use Rattle.qe_ops.proofs.keys.first_held.Goals as goal

pub is_held-requires-clause-key : goal.is_held-requires-clause-key
is_held-requires-clause-key g c =
    let key = c.index-keys-number.result in
    let keys = c.args.keys.now in
    subst (λ schema. KeyStands (table_at schema c.args.table.0) key) (sym c.loop-number.invariant.leaves.schema)
    (c.requires.keys key (in_place keys c.loop-number.number key (slice_get-get_or keys c.loop-number.number key c.loop-number-test.true ∙ ap Some (sym c.index-keys-number.is))))
