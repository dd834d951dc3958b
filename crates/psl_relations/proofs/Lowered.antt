-- Names in lower-case letters.
use Rattle.std.proofs.Common.{◌≡◌, ◌==◌, ◌↔◌, ℕ, Bool, List, length, take, map, ◌∙◌, sym}
use Rattle.std.specs.Prelude.{bytes_eq, IsTrue}
use Rattle.std.specs.Char.{to_ascii_lowercase}
use Rattle.std.specs.List.{starts_with}
use Rattle.std.proofs.lemmas.List.{take-map}
use Rattle.std.proofs.lemmas.Slice.Eq.{bytes_eq-Decides}
use Rattle.std.proofs.lemmas.Bool.Decides.{same_from_decides, Decides-like}

-- whether a name begins so, in any case
pub prefixed : (name prefix : List ℕ) (r : Bool) → (IsTrue r ↔ (map to_ascii_lowercase (take (length prefix) name) ≡ map to_ascii_lowercase prefix)) → map to_ascii_lowercase prefix ≡ prefix → r ≡ starts_with (λ a b. a == b) (map to_ascii_lowercase name) prefix
prefixed name prefix r same low =
    let cut = take-map to_ascii_lowercase (length prefix) name in
    let here = Decides-like r (λ e. sym (cut ∙ e ∙ low)) (λ e. sym cut ∙ sym e ∙ sym low) (same.0, same.1) in
    same_from_decides r (bytes_eq prefix (take (length prefix) (map to_ascii_lowercase name))) here (bytes_eq-Decides prefix (take (length prefix) (map to_ascii_lowercase name)))
