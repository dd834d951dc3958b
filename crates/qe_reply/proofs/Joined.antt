-- The pieces of a failed connector's text are its text.
use Rattle.std.proofs.Common.{◌≡◌, ℕ, List, [], ◌∷◌, ◌++◌, Option, Some, None, codes, decimal, ap, sym, ◌∙◌, append_assoc}
use Rattle.serde_json.specs.Written.{compact_text}
use Rattle.serde_json.proofs.OnLiterals.{serde_json_on_literals}
use Rattle.qe_forms.specs.Reply.{connector_data}
use Rattle.qe_reply.specs.Room.{index_text}

abbrev pub front : List ℕ
front = codes "{\"error\":{\"cause\":\"connector\",\"code\":\"E1\","

abbrev pub after_is : List ℕ
after_is = codes "\"meta\":{\"after\":"

abbrev pub before_is : List ℕ
before_is = codes ",\"before\":"

abbrev pub end : List ℕ
end = codes "}}}"

counts : (m e a b : List ℕ) → ((a ++ m) ++ b) ++ e ≡ a ++ (m ++ (b ++ e))
counts m e a b = append_assoc (a ++ m) b e ∙ append_assoc a m (b ++ e)

indexed : (c d m e i a b : List ℕ) → ((((((i ++ c) ++ d) ++ a) ++ m) ++ b) ++ e) ≡ i ++ (c ++ (d ++ (a ++ (m ++ (b ++ e)))))
indexed c d m e i a b =
    counts m e (((i ++ c) ++ d) ++ a) b ∙ (append_assoc ((i ++ c) ++ d) a (m ++ (b ++ e)) ∙ (append_assoc (i ++ c) d (a ++ (m ++ (b ++ e))) ∙ append_assoc i c (d ++ (a ++ (m ++ (b ++ e))))))

-- a closing brace, two and three of them
abbrev one : List ℕ
one = 125 ∷ []

-- the counts' own brace, and the two behind it
closed : (m a b : List ℕ) → a ++ (m ++ (b ++ 125 ∷ 125 ∷ 125 ∷ [])) ≡ ((a ++ (m ++ (b ++ one))) ++ one) ++ one
closed m a b =
    ap (λ (t : List ℕ). a ++ (m ++ t)) (sym (append_assoc b one (125 ∷ one))) ∙ (ap (λ (t : List ℕ). a ++ t) (sym (append_assoc m (b ++ one) (125 ∷ one)))
    ∙ (sym (append_assoc a (m ++ (b ++ one)) (125 ∷ one)) ∙ sym (append_assoc (a ++ (m ++ (b ++ one))) one one)))

-- the last brace stands behind all
outside : (i c x : List ℕ) → i ++ (c ++ (x ++ one)) ≡ (i ++ (c ++ x)) ++ one
outside i c x = ap (λ (t : List ℕ). i ++ t) (sym (append_assoc c x one)) ∙ sym (append_assoc i (c ++ x) one)

pub joined : (index : Option ℕ) (before after : ℕ)
    → ((((((([] ++ front) ++ index_text index) ++ after_is) ++ decimal after) ++ before_is) ++ decimal before) ++ end) ≡ compact_text (connector_data index before after)
unfolding serde_json_on_literals
joined None before after =
    ap (λ rest. front ++ (after_is ++ rest)) (counts before_is end (decimal after) (decimal before) ∙ closed before_is (decimal after) (decimal before))
joined (Some index) before after =
    ap (λ rest. front ++ (codes "\"index\":" ++ rest)) (indexed (codes ",") after_is before_is end (decimal index) (decimal after) (decimal before)
    ∙ (ap (λ rest. decimal index ++ (codes "," ++ (after_is ++ rest))) (closed before_is (decimal after) (decimal before))
    ∙ outside (decimal index) (codes "," ++ after_is) ((decimal after ++ (before_is ++ (decimal before ++ one))) ++ one)))
