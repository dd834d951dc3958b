use Rattle.std.proofs.Common.{◌∙◌, ap, sym, map, filter, ℕ, List, Bor}
use Rattle.psl_text.specs.declared.tree.Tree.{Tree}
use Rattle.psl_rules.specs.Parts.{first, earlier, failing}
use Rattle.psl_rules.specs.Relations.{End, Pair, ends, end_place, has_fields, pairs, pairs_among, pair_place}
use Rattle.psl_rules.specs.Foreign.{is_once, holders, links_single_ids}
use Rattle.psl_parts.proofs.Firsts.{first_append}
use Rattle.psl_relations.proofs.foreign.one_to_one_is_unique.Goals as goal

pub returns : goal.returns
returns c =
    let tree : Tree = c.args.models.now in
    let ends_are = c.as_slice-ends.ensures.value ∙ c.in_ok-ends.ensures in
    let held_are = ap (map (λ (end : Bor End). end.now)) c.as_slice.ensures.value ∙ c.in_ok-held.ensures ∙ ap (filter has_fields) ends_are in
    let pairs_are = c.as_slice-2.ensures.value ∙ c.in_ok-pairs.ensures ∙ ap pairs_among ends_are in
    let not_once : List ℕ = failing (is_once (ends tree)) end_place (holders tree) in
    let longer : List ℕ = failing links_single_ids pair_place (pairs tree) in
    c.earlier.ensures
    ∙ ap (λ found. earlier found c.first_of_longer_ids-linked.result)
    (c.in_ok-one_to_one.ensures ∙ ap (λ (all : List End). first (failing (is_once all) end_place (map (λ (end : Bor End). end.now) c.as_slice.result.now))) ends_are
    ∙ ap (λ (all : List End). first (failing (is_once (ends tree)) end_place all)) held_are)
    ∙ ap (earlier (first not_once)) (c.first_of_longer_ids-linked.ensures ∙ ap (λ (all : List Pair). first (failing links_single_ids pair_place all)) pairs_are)
    ∙ sym (first_append not_once longer)
