-- Whole numbers.
use Rattle.std.specs.Prelude.{ℕ, ℤ, pos, negsuc, Bool, ◌&&◌, ◌||◌, not, nat_lt, int_lt, List, length, drop, Option, Some, None, if◌then◌else◌}
use Rattle.std.specs.Char.{is_ascii_digit}
use Rattle.std.specs.List.{list_all}
use Rattle.std.specs.Str.Parse.{signed_digits_value, starts_with_minus}

-- within 32 bits, signed
abbrev pub is_small : ℤ → Bool
is_small number = not (int_lt number (negsuc 2147483647)) && int_lt number (pos 2147483648)

-- within 64 bits, signed
abbrev pub is_big : ℤ → Bool
is_big number = not (int_lt number (negsuc 9223372036854775807)) && int_lt number (pos 9223372036854775808)

-- one digit or more
abbrev pub are_digits : List ℕ → Bool
are_digits text = nat_lt 0 (length text) && list_all is_ascii_digit text

-- digits, with a minus before them or without
abbrev pub is_number : List ℕ → Bool
is_number text = are_digits text || (starts_with_minus text && are_digits (drop 1 text))

-- what such a text stands for
abbrev pub number_of : List ℕ → ℤ
number_of text = signed_digits_value 10 text

-- the same, where it passes a test
abbrev pub number_within : (ℤ → Bool) → List ℕ → Option ℤ
number_within holds text = if is_number text && holds (number_of text) then Some (number_of text) else None
