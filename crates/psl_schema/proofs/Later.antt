-- Rules one group after another.
use Rattle.std.proofs.Common.{◌≡◌, ℕ, suc, ◌+◌, List, [], ◌∷◌, ◌++◌, length, Option, Some, None, refl, sym, ap, ◌∙◌, arith}
use Rattle.psl_text.specs.declared.tree.Tree.{Tree}
use Rattle.psl_rules.specs.Accepted.{Rule, Breach, breach_of, breach_from, or_later, first_breach}
use Rattle.psl_schema.specs.Groups.{block_rules, type_rules, attribute_rules, key_rules, pair_rules, reference_rules, stored_rules, relation_rules}

pub or_later_assoc : (one two three : Option Breach) → or_later (or_later one two) three ≡ or_later one (or_later two three)
or_later_assoc None two three = refl
or_later_assoc (Some breach) two three = refl

-- those of one list, then those of the next
pub breach_append : (number next : ℕ) (rules others : List Rule) (tree : Tree) → next ≡ number + length rules → breach_from number (rules ++ others) tree ≡ or_later (breach_from number rules tree) (breach_from next others tree)
breach_append number next [] others tree is = ap (λ n. breach_from n others tree) (none number next is)
  where
    none : (number next : ℕ) → next ≡ number + 0 → number ≡ next
    none number next is = omega (arith, is)
breach_append number next (rule ∷ rules) others tree is =
    ap (or_later (breach_of number (rule tree))) (breach_append (number + 1) next rules others tree (behind number next (length rules) is))
    ∙ sym (or_later_assoc (breach_of number (rule tree)) (breach_from (number + 1) rules tree) (breach_from next others tree))
  where
    behind : (number next count : ℕ) → next ≡ number + suc count → next ≡ (number + 1) + count
    behind number next count is = omega (arith, is)

-- the rules on relations and on what is stored, group by group
pub relations_grouped : (tree : Tree) → breach_from 16 relation_rules tree ≡ or_later (breach_from 16 pair_rules tree) (or_later (breach_from 21 reference_rules tree) (breach_from 25 stored_rules tree))
relations_grouped tree =
    breach_append 16 21 pair_rules (reference_rules ++ stored_rules) tree refl ∙ ap (or_later (breach_from 16 pair_rules tree)) (breach_append 21 25 reference_rules stored_rules tree refl)

-- all rules, group by group
pub grouped : (tree : Tree) → first_breach tree
    ≡ or_later (breach_from 1 block_rules tree) (or_later (breach_from 4 type_rules tree) (or_later (breach_from 8 attribute_rules tree) (or_later (breach_from 12 key_rules tree) (breach_from 16 relation_rules tree))))
grouped tree =
    breach_append 1 4 block_rules (type_rules ++ attribute_rules ++ key_rules ++ relation_rules) tree refl
    ∙ ap (or_later (breach_from 1 block_rules tree)) (breach_append 4 8 type_rules (attribute_rules ++ key_rules ++ relation_rules) tree refl
    ∙ ap (or_later (breach_from 4 type_rules tree)) (breach_append 8 12 attribute_rules (key_rules ++ relation_rules) tree refl
    ∙ ap (or_later (breach_from 8 attribute_rules tree)) (breach_append 12 16 key_rules relation_rules tree refl)))
