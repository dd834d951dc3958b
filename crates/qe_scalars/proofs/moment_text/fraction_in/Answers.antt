use Rattle.std.proofs.Common.{◌∙◌, ap, take}
use Rattle.std.specs.Char.{is_ascii_digit}
use Rattle.std.specs.List.{list_all}
use Rattle.qe_scalars.proofs.Digits.{begun}
use Rattle.qe_scalars.proofs.moment_text.fraction_in.Goals as goal

pub thousandths-requires : goal.thousandths-requires
thousandths-requires c =
    ap (list_all is_ascii_digit) (c.split_at.ensures.front ∙ ap (λ count. take count c.args.text.now) c.digits_before-count.ensures.value) ∙ begun c.args.text.now
