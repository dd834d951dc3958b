use Rattle.qe_cli.specs.Connected.{IsAttached}
use Rattle.cases.proofs.told.answers.Given as goal

-- the connector stays attached for the schema
abbrev pub invariant-loop-question : goal.invariant-loop-question
invariant-loop-question g l = IsAttached l.schema (g.C.Connector.seen l.tables)
