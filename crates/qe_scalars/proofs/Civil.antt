-- Dates that the calendar has.
use Rattle.std.proofs.Common.{◌≡◌, ℕ, ◌<◌, Bool, true, pos, Some, None, if◌then◌else◌, sym, ap, subst, ◌∙◌, arith, w8, w16, to_z}
use Rattle.std.proofs.Math.Facts.{to_z_pos}
use Rattle.jiff_core.specs.declared.civil.date.Date.{Date}
use Rattle.jiff_core.specs.Calendar.{IsDate, days_from_civil}
use Rattle.jiff_core.specs.Date.{IsYmd, epoch_day}
use Rattle.qe_scalars.specs.Moments.{is_civil}

exact : (y m d : ℕ) (date : Date) → IsDate (pos y) (pos m) (pos d) → IsYmd (pos y) (pos m) (pos d) date
    → Some (epoch_day date) ≡ (if is_civil y m d then Some (days_from_civil (pos y) m d) else None)
exact y m d date exists is =
    let civil : is_civil y m d ≡ true = grind arith in
    let month : date.month ≡ m = grind arith in
    let day : date.day ≡ d = grind arith in
    ap (λ n. Some (days_from_civil n date.month date.day)) is.0 ∙ ap (λ n. Some (days_from_civil (pos y) n date.day)) month ∙ ap (λ n. Some (days_from_civil (pos y) m n)) day
    ∙ sym (ap (λ (b : Bool). if b then Some (days_from_civil (pos y) m d) else None) civil)

-- by the numbers that a date is made of
pub day_is : (y m d : ℕ) (date : Date) → y < 10000 → m < 100 → d < 100 → IsDate (to_z w16 y) (to_z w8 m) (to_z w8 d) → IsYmd (to_z w16 y) (to_z w8 m) (to_z w8 d) date
    → Some (epoch_day date) ≡ (if is_civil y m d then Some (days_from_civil (pos y) m d) else None)
day_is y m d date year month day exists is =
    let y_is : to_z w16 y ≡ pos y = to_z_pos w16 (omega arith) in
    let m_is : to_z w8 m ≡ pos m = to_z_pos w8 (omega arith) in
    let d_is : to_z w8 d ≡ pos d = to_z_pos w8 (omega arith) in
    exact y m d date
    (subst (λ n. IsDate n (pos m) (pos d)) y_is (subst (λ n. IsDate (to_z w16 y) n (pos d)) m_is (subst (IsDate (to_z w16 y) (to_z w8 m)) d_is exists)))
    (subst (λ n. IsYmd n (pos m) (pos d) date) y_is (subst (λ n. IsYmd (to_z w16 y) n (pos d) date) m_is (subst (λ n. IsYmd (to_z w16 y) (to_z w8 m) n date) d_is is)))
