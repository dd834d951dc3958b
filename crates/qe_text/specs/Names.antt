-- Names, as schema texts write them and as databases store them.
use Rattle.std.specs.Prelude.{ℕ, List, [], ◌∷◌, Bool, false, ◌&&◌, ◌||◌, ◌==◌, not, nat_lt, nat_le, length, codes}
use Rattle.std.specs.List.{list_any, list_all, starts_with}
use Rattle.std.specs.Str.{str_to_ascii_lowercase}

abbrev pub is_letter : ℕ → Bool
is_letter c = (nat_le 65 c && nat_le c 90) || (nat_le 97 c && nat_le c 122)

abbrev pub is_word : ℕ → Bool
is_word c = is_letter c || (nat_le 48 c && nat_le c 57) || c == 95

-- a letter, then letters, digits and low lines
abbrev pub is_name : List ℕ → Bool
is_name [] = false
is_name (c ∷ cs) = is_letter c && list_all is_word cs

-- the names of types, which no model may have
abbrev pub reserved_names : List (List ℕ)
reserved_names =
    codes "String" ∷ codes "Boolean" ∷ codes "Int" ∷ codes "BigInt" ∷ codes "Float" ∷ codes "Decimal" ∷ codes "DateTime" ∷ codes "Json" ∷ codes "Bytes" ∷ codes "Unsupported" ∷ []

-- the names that filters take, which no field may have
abbrev pub filter_names : List (List ℕ)
filter_names = codes "AND" ∷ codes "OR" ∷ codes "NOT" ∷ []

-- a name that the database can store: 1 to 128 bytes, no NUL and no quote, and none of its own
abbrev pub is_stored_name : List ℕ → Bool
is_stored_name name =
    nat_lt 0 (length name) && nat_le (length name) 128 && not (list_any (λ c. c == 0 || c == 34) name)
    && not (starts_with (λ a b. a == b) (str_to_ascii_lowercase name) (codes "sqlite_"))
    && not (starts_with (λ a b. a == b) (str_to_ascii_lowercase name) (codes "_qe_"))
