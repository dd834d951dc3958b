use Rattle.std.proofs.Common.{◌≡◌, map, string_bytes, ap, refl, subst, sym}
use Rattle.qe_base.specs.Outside.{Seen}
use Rattle.qe_cli.specs.Refused.{HasSchema, Unread}
use Rattle.qe_cli.proofs.Asking.{asks_name, asks_still}
use Rattle.qe_cli.proofs.Fetched.{obeyed, unread}
use Rattle.qe_cli.proofs.commands.carry_out.Goals as goal

pub returns-in-Ok-read_schema-clause-comes : goal.returns-in-Ok-read_schema-clause-comes
returns-in-Ok-read_schema-clause-comes g c =
    let schema = c.in-Ok-read_schema.schema in
    let seen = g.H.Outer.seen in
    obeyed c.obey.result.0 (map string_bytes c.args.words.now) (seen c.args.host.now) (seen c.obey.new.host) (g.C.Connector.seen c.args.connector) (g.C.Connector.seen c.obey.result.1) (c.obey.result.1 ≡ c.args.connector)
    c.in-Some.name.now c.in-Ok.text c.in-Some.command schema (seen c.fetch.new.self) (sym c.in-Some.ensures) c.in-Ok.ensures.bytes (subst (λ t. HasSchema t schema) c.as_slice.ensures c.in-Ok-read_schema.ensures.ok) c.fetch.ensures.others c.obey.ensures.comes

pub returns-clause-comes : goal.returns-clause-comes
returns-clause-comes g c =
    let seen = g.H.Outer.seen in
    let given = g.C.Connector.seen c.args.connector in
    unread c.in-Err.end (map string_bytes c.args.words.now) (seen c.args.host.now) (seen c.fetch.new.self) given given (c.args.connector ≡ c.args.connector) c.in-Some.name.now c.in-Ok.text c.in-Some.command
    (sym c.in-Some.ensures) c.in-Ok.ensures.bytes (subst (Unread c.in-Err.end) c.as_slice.ensures c.in-Err.ensures.err) c.fetch.ensures.others refl

pub returns-in-Ok-read_schema-clause-asked : goal.returns-in-Ok-read_schema-clause-asked
returns-in-Ok-read_schema-clause-asked g c =
    let words = map string_bytes c.args.words.now in
    let before = g.H.Outer.seen c.args.host.now in
    let fetched = g.H.Outer.seen c.fetch.new.self in
    asks_still words before fetched (g.H.Outer.seen c.obey.new.host) (ap (λ (s : Seen). s.asked) c.obey.ensures.others) (asks_name words c.in-Some.command c.in-Some.name.now before fetched (sym c.in-Some.ensures) c.fetch.ensures.asks)
