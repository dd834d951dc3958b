-- A set of names, filled name by name.
use Rattle.std.proofs.Common.{◌≡◌, ℕ, ◌+◌, ◌<◌, Bool, true, false, cond, ◌||◌, List, [], ◌∷◌, ◌++◌, map, length, drop, get_or, refl, sym, ap, ◌∙◌, Bor}
use Rattle.std.proofs.lemmas.List.{drop_more}
use Rattle.std.specs.Prelude.{bytes_eq}
use Rattle.std.specs.List.{list_any}
use Rattle.psl_text.specs.declared.tree.Block.{Block}
use Rattle.psl_text.specs.declared.tree.Name.{Name}
use Rattle.psl_rules.specs.Parts.{ModelField, fields}
use Rattle.psl_rules.specs.Names.{field_names}
use Rattle.psl_rules.specs.Keys.{names_field}
use Rattle.psl_parts.proofs.Lookups.{has, inserted}

abbrev now_of : List (Bor Name) → List Name
now_of = map (λ name. name.now)

abbrev pub names_text : List ℕ → List Name → Bool
names_text text names = list_any (λ name. bytes_eq text name.text) names

pub turn : (names : List (Bor Name)) (i : ℕ) (name : Bor Name) (keys new : List (Bor (List ℕ))) (key : Bor (List ℕ)) (text : List ℕ) (whole : Bool) → i < length names → name ≡ get_or names i name → key.now ≡ name.now.text
    → new ≡ cond (has key.now keys) keys (keys ++ key ∷ []) → (has text keys || names_text text (now_of (drop i names))) ≡ whole → (has text new || names_text text (now_of (drop (i + 1) names))) ≡ whole
turn names i name keys new key text whole within is key_is new_is before =
    let rest = names_text text (now_of (drop (i + 1) names)) in
    ap (λ keys. has text keys || rest) new_is ∙ inserted keys key text rest (has key.now keys) refl
    ∙ ap (λ other. has text keys || (bytes_eq text other || rest)) key_is
    ∙ ap (λ (one : Bor Name). has text keys || (bytes_eq text one.now.text || rest)) is
    ∙ ap (λ names. has text keys || names_text text (now_of names)) (sym (drop_more names i name within))
    ∙ before

of_fields : (text : List ℕ) (all : List ModelField) → names_text text (map (λ field. field.name) all) ≡ list_any (λ field. bytes_eq text field.name.text) all
of_fields text [] = refl
of_fields text (field ∷ all) = ap (λ b. bytes_eq text field.name.text || b) (of_fields text all)

-- the names of a model's fields
pub known : (keys : List (Bor (List ℕ))) (names : List (Bor Name)) (model : Block) (text : List ℕ) → has text keys ≡ names_text text (now_of names) → now_of names ≡ field_names model → has text keys ≡ names_field model text
known keys names model text held same = held ∙ ap (names_text text) same ∙ of_fields text (fields model)
