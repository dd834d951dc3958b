use Rattle.std.proofs.Common.{rules, ◌≡◌, ◌∙◌, ℕ, List, ap, take, drop, min, length, Option, ℤ}
use Rattle.std.specs.Prelude.{option_and_then}
use Rattle.std.proofs.lemmas.List.{take_min, drop_min}
use Rattle.qe_scalars.specs.Moments as spec
use Rattle.qe_scalars.proofs.moment_text.moment_in.Goals as goal

abbrev of_parts : List ℕ → List ℕ → Option ℤ
of_parts civil ending = option_and_then (λ seconds. option_and_then (spec.moment_from seconds) (spec.ending_of ending)) (spec.seconds_of civil)

pub returns : goal.returns
returns c =
    let bytes : List ℕ = c.as_bytes-bytes.result.now in
    let at : c.min.result ≡ min 19 (length bytes) = search rules in
    let civil = c.split_at.ensures.front ∙ ap (λ n. take n bytes) at ∙ take_min 19 bytes ∙ ap (take 19) c.as_bytes-bytes.ensures.value in
    let ending = c.split_at.ensures.back ∙ ap (λ n. drop n bytes) at ∙ drop_min 19 bytes ∙ ap (drop 19) c.as_bytes-bytes.ensures.value in
    c.moment_of.ensures ∙ ap (λ one. of_parts one c.split_at.result.1.now) civil ∙ ap (of_parts (take 19 c.args.text.now)) ending
