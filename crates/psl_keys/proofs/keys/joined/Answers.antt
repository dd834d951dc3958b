use Rattle.std.proofs.Common.{◌≡◌, ◌++◌, ◌-◌, List, ℕ, Bor, [], map, take, drop, length, sym, ap, ◌∙◌, append-nil}
use Rattle.std.specs.Prelude.{string_bytes}
use Rattle.std.proofs.Math.ListN.{drop_of_length-le}
use Rattle.psl_keys.proofs.Joins.{behind, joined_slice}
use Rattle.psl_keys.proofs.keys.joined.Goals as goal

pub returns-after-loop-name : goal.returns-after-loop-name
returns-after-loop-name c =
    let names = c.args.names.now in
    let others = take (length names - 1) (drop 1 names) in
    let end = ap (λ rest. string_bytes c.loop-name.text ++ behind (map (λ (name : Bor (List ℕ)). name.now) rest)) (drop_of_length-le others c.loop-name-test.false) in
    c.from_string.ensures ∙ sym (append-nil (string_bytes c.loop-name.text)) ∙ sym end ∙ c.loop-name.invariant
    ∙ ap (λ text. text ++ behind (map (λ (name : Bor (List ℕ)). name.now) others)) c.in_ok-text-in-len1-up.ensures.ok ∙ joined_slice names _ c.in-len1-up.len_at_least
