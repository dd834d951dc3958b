-- Moments as text: a date, the letter T, a time, a fraction of a second or none, and a zone, as RFC 3339
-- has them, in milliseconds since 1970-01-01T00:00:00Z. What is finer than a millisecond is dropped.
use Rattle.std.specs.Prelude.{ℕ, ◌+◌, ◌*◌, ℤ, pos, negsuc, neg_ℤ, ◌+ℤ◌, ◌-ℤ◌, ◌*ℤ◌, Bool, true, false, ◌&&◌, ◌||◌, ◌==◌, not, nat_le, int_lt, List, [], ◌∷◌, ◌++◌, take, drop, Option, Some, None, option_and_then, option_map, if◌then◌else◌, codes, bytes_eq}
use Rattle.std.specs.Char.{is_ascii_digit}
use Rattle.std.specs.List.{prefix_len}
use Rattle.std.specs.Str.Parse.{digits_value}
use Rattle.jiff.specs.Words.{days_in_month}
use Rattle.jiff_core.specs.Calendar.{days_from_civil}

-- the milliseconds of the first and the last moment, in the years 0000 and 9999
abbrev pub first_moment : ℤ
first_moment = negsuc 62167219199999

abbrev pub last_moment : ℤ
last_moment = pos 253402300799999

-- a moment that can be kept
abbrev pub is_moment : ℤ → Bool
is_moment moment = not (int_lt moment first_moment) && not (int_lt last_moment moment)

-- a text of this form, in which 0 stands for any digit and all else for itself
abbrev pub has_form : List ℕ → List ℕ → Bool
has_form [] [] = true
has_form [] (byte ∷ text) = false
has_form (one ∷ form) [] = false
has_form (one ∷ form) (byte ∷ text) = (if one == 48 then is_ascii_digit byte else one == byte) && has_form form text

-- the number that so many digits write, from a place on
abbrev pub digits_at : ℕ → ℕ → List ℕ → ℕ
digits_at at count text = digits_value 10 (take count (drop at text))

-- ---- date and time: YYYY-MM-DDTHH:MM:SS

abbrev pub is_civil : ℕ → ℕ → ℕ → Bool
is_civil year month day = nat_le 1 month && nat_le month 12 && nat_le 1 day && nat_le day (days_in_month (pos year) month)

abbrev pub is_clock : ℕ → ℕ → ℕ → Bool
is_clock hour minute second = nat_le hour 23 && nat_le minute 59 && nat_le second 59

-- the seconds of a date and a time, since 1970-01-01T00:00:00
abbrev pub seconds : ℕ → ℕ → ℕ → ℕ → ℕ → ℕ → ℤ
seconds year month day hour minute second = days_from_civil (pos year) month day *ℤ pos 86400 +ℤ pos (hour * 3600 + minute * 60 + second)

-- the seconds of a date and a time that exist
abbrev pub seconds_if : Bool → List ℕ → Option ℤ
seconds_if false text = None
seconds_if true text = Some (seconds (digits_at 0 4 text) (digits_at 5 2 text) (digits_at 8 2 text) (digits_at 11 2 text) (digits_at 14 2 text) (digits_at 17 2 text))

abbrev pub exists : List ℕ → Bool
exists text = is_civil (digits_at 0 4 text) (digits_at 5 2 text) (digits_at 8 2 text) && is_clock (digits_at 11 2 text) (digits_at 14 2 text) (digits_at 17 2 text)

abbrev pub seconds_of : List ℕ → Option ℤ
seconds_of text = seconds_if (has_form (codes "0000-00-00T00:00:00") text && exists text) text

-- ---- zone

-- how many seconds a zone is before UTC: `Z`, or hours to 23 and minutes to 59 with a sign
abbrev pub is_offset : List ℕ → Bool
is_offset text = (has_form (codes "+00:00") text || has_form (codes "-00:00") text) && nat_le (digits_at 1 2 text) 23 && nat_le (digits_at 4 2 text) 59

abbrev pub offset_seconds : List ℕ → ℤ
offset_seconds [] = pos 0
offset_seconds (sign ∷ text) = if sign == 45 then neg_ℤ (pos (digits_at 0 2 text * 3600 + digits_at 3 2 text * 60)) else pos (digits_at 0 2 text * 3600 + digits_at 3 2 text * 60)

abbrev pub zone_of : List ℕ → Option ℤ
zone_of text = if bytes_eq text (codes "Z") then Some (pos 0) else (if is_offset text then Some (offset_seconds text) else None)

-- ---- fraction

-- how many digits a text begins with
abbrev pub digits_before : List ℕ → ℕ
digits_before text = prefix_len is_ascii_digit text

-- the milliseconds that the digits of a fraction stand for
abbrev pub thousandths : List ℕ → ℕ
thousandths digits = digits_value 10 (take 3 (digits ++ codes "00"))

-- what follows the seconds: milliseconds, and the zone
abbrev pub fraction_by : ℕ → List ℕ → Option (ℕ × ℤ)
fraction_by count text = if nat_le 1 count && nat_le count 9 then option_map (λ zone. (thousandths (take count text), zone)) (zone_of (drop count text)) else None

abbrev pub ending_of : List ℕ → Option (ℕ × ℤ)
ending_of [] = None
ending_of (byte ∷ text) = if byte == 46 then fraction_by (digits_before text) text else option_map (λ zone. (0, zone)) (zone_of (byte ∷ text))

-- ---- the whole

abbrev pub only_moment : ℤ → Option ℤ
only_moment moment = if is_moment moment then Some moment else None

abbrev pub moment_from : ℤ → (ℕ × ℤ) → Option ℤ
moment_from seconds ending = only_moment ((seconds -ℤ ending.1) *ℤ pos 1000 +ℤ pos ending.0)

-- the moment that a text stands for
abbrev pub moment_of : List ℕ → Option ℤ
moment_of text = option_and_then (λ seconds. option_and_then (moment_from seconds) (ending_of (drop 19 text))) (seconds_of (take 19 text))
