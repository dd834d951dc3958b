use Rattle.std.proofs.Common.{ap, map, string_bytes}
use Rattle.qe_base.specs.Outside.{Seen}
use Rattle.qe_cli.proofs.Asking.{asks_still}
use Rattle.qe_cli.proofs.Follows.{accepts, answered, apart, calm, fault, laid, limit, opened, opens, printed_causes, printed_comes, refused, refuses, shut, steady, still, usage, validated}
use Rattle.qe_cli.proofs.Prompting.{prompt}
use Rattle.qe_cli.proofs.commands.offline_over.Goals as goal

pub returns-clause-ends : goal.returns-clause-ends
returns-clause-ends g c = record {
  ended = c.print_end-printed.result;
  mid = g.H.Outer.seen c.carry_out-end.new.host;
  status_is = c.status.ensures;
  comes = printed_comes _ _ _ _ _ _ _ _ c.print_end-printed.ensures.end c.carry_out-end.ensures.comes;
  prints = c.print_end-printed.ensures.prints;
  causes = printed_causes _ _ _ _ c.print_end-printed.ensures.end c.carry_out-end.ensures.causes;
}

pub returns-clause-usage : goal.returns-clause-usage
returns-clause-usage g c = usage _ _ _ _ _ _ _ (returns-clause-ends g c)

pub returns-clause-refused : goal.returns-clause-refused
returns-clause-refused g c = refused _ _ _ _ _ _ _ (returns-clause-ends g c)

pub returns-clause-answered : goal.returns-clause-answered
returns-clause-answered g c = answered _ _ _ _ _ _ _ (returns-clause-ends g c)

pub returns-clause-validated : goal.returns-clause-validated
returns-clause-validated g c = validated _ _ _ _ _ _ _ (returns-clause-ends g c)

pub returns-clause-laid : goal.returns-clause-laid
returns-clause-laid g c = laid _ _ _ _ _ _ _ (returns-clause-ends g c)

pub returns-clause-opened : goal.returns-clause-opened
returns-clause-opened g c = opened _ _ _ _ _ _ _ (returns-clause-ends g c)

pub returns-clause-still : goal.returns-clause-still
returns-clause-still g c = still _ _ _ _ _ _ _ (returns-clause-ends g c)

pub returns-clause-apart : goal.returns-clause-apart
returns-clause-apart g c = apart _ _ _ _ _ _ _ (returns-clause-ends g c)

pub returns-clause-limit : goal.returns-clause-limit
returns-clause-limit g c = limit _ _ _ _ _ _ _ (returns-clause-ends g c)

pub returns-clause-calm : goal.returns-clause-calm
returns-clause-calm g c = calm _ _ _ _ _ _ _ (returns-clause-ends g c)

pub returns-clause-fault : goal.returns-clause-fault
returns-clause-fault g c = fault _ _ _ _ _ _ _ (returns-clause-ends g c)

pub returns-clause-steady : goal.returns-clause-steady
returns-clause-steady g c = steady _ _ _ _ _ _ _ (returns-clause-ends g c)

pub returns-clause-shut : goal.returns-clause-shut
returns-clause-shut g c = shut _ _ _ _ _ _ _ (returns-clause-ends g c)

pub returns-clause-accepts : goal.returns-clause-accepts
returns-clause-accepts g c = accepts _ _ _ _ _ _ _ (returns-clause-ends g c)

pub returns-clause-opens : goal.returns-clause-opens
returns-clause-opens g c = opens _ _ _ _ _ _ _ (returns-clause-ends g c)

pub returns-clause-refuses : goal.returns-clause-refuses
returns-clause-refuses g c = refuses _ _ _ _ _ _ _ (returns-clause-ends g c)

pub returns-clause-prompt : goal.returns-clause-prompt
returns-clause-prompt g c = prompt _ _ _ _ _ _ _ (returns-clause-ends g c)

pub returns-clause-asked : goal.returns-clause-asked
returns-clause-asked g c =
    let seen = g.H.Outer.seen in
    let printed = c.print_end-printed in
    asks_still (map string_bytes c.args.words.now) (seen c.args.host.now) (seen c.carry_out-end.new.host) (seen printed.new.host) (ap (λ (s : Seen). s.asked) printed.ensures.prints.others) c.carry_out-end.ensures.asked
