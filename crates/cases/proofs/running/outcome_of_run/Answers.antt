use Rattle.std.proofs.Common.{◌≡◌, Some, ap, ◌∙◌, map, string_bytes}
use Rattle.qe_base.specs.MemHost.{host_seen}
use Rattle.cases.proofs.Attached.{usual_words, one_file, attached_of, asks_run}
use Rattle.cases.proofs.running.outcome_of_run.Goals as goal

pub told_of-requires : goal.told_of-requires
told_of-requires g c = λ well schema has.
    let text = c.args.case.now.schema.items in
    let usual : map string_bytes c.as_slice.result.now ≡ usual_words = ap (λ words. map string_bytes words) c.as_slice.ensures.value ∙ c.in_ok-words.ensures in
    let one : (host_seen c.in_ok-host.host).files ≡ one_file text = ap Some c.in_ok-host.ensures in
    attached_of (map string_bytes c.as_slice.result.now) (host_seen c.in_ok-host.host) text _ schema usual one (c.command-status.ensures.opened well (asks_run (map string_bytes c.as_slice.result.now) usual)) has
