-- What follows for the value of an accepted tree.
use Rattle.std.proofs.Common.{◌≡◌, ◌⊎◌, inl, inr, ℕ, ◌<◌, ◌≤◌, Bool, true, false, cond, not, ◌&&◌, ◌||◌, nat_lt, List, map, length, Option, Some, None, unwrap_or, refl, sym, ap, subst, ◌∙◌, arith, true≢false, codes}
use Rattle.std.specs.Prelude.{bytes_eq, ◌==◌}
use Rattle.std.specs.List.{list_all, flat_map, enumerate_from, position_or_len}
use Rattle.std.proofs.lemmas.Bool.{and_parts, eqb-true, leb-true, ltb-true}
use Rattle.std.proofs.lemmas.List.{length-map}
use Rattle.psl_text.specs.declared.tree.Block.{Block}
use Rattle.psl_text.specs.declared.tree.Tree.{Tree}
use Rattle.psl_rules.specs.Accepted.{IsAccepted}
use Rattle.psl_rules.specs.Parts.{Spelling, models, fields}
use Rattle.qe_text.specs.Lists.{is_among, In}
use Rattle.psl_rules.specs.Names.{is_column, is_optional}
use Rattle.psl_rules.specs.Attributes.{name_columns}
use Rattle.psl_rules.specs.Relations.{End, Standing, standing_in, leading_of, end_at, ends, end_place, has_fields, own_names, other_names, partners_among}
use Rattle.psl_rules.specs.Foreign.{holders, references_are_columns, names_columns, refers_to_columns, actions_are_known, acts_rightly, may_be_action, action, action_names}
use Rattle.psl_rules.specs.Stored.{linked}
use Rattle.qe_base.specs.declared.schema.Action.{Action}
use Rattle.qe_base.specs.declared.schema.Action.TheVariants.{Cascade, Restrict, SetNull}
use Rattle.qe_base.specs.declared.schema.Relation.{Relation}
use Rattle.qe_base.specs.declared.schema.Table.{Table}
use Rattle.psl_sound.specs.SchemaOf.{action_or, default_on_delete, number_among, model_number, block_name, column_of, column_fields, table_of, tables_of, link_table, relation_between, relations_held, relations_of, fields_of}
use Rattle.psl_sound.proofs.Limits.{fewer, fields_within}
use Rattle.qe_schema.proofs.Members.{From, from_map, from_numbers, in_either, from_flat_map, from_filter, passes, some_items}
use Rattle.psl_sound.proofs.Unbroken.{unbroken, all_pass}
use Rattle.psl_sound.proofs.Rules.{actions_are_known_is_in, references_are_columns_is_in}

-- ---- numbers by names

pub number_within : (names : List Spelling) (name : Spelling) → 0 < length names → number_among names name < length names
number_within names name some = by_test (nat_lt (position_or_len (bytes_eq name) names) (length names)) refl
  where
    at : ℕ
    at = position_or_len (bytes_eq name) names

    by_test : (b : Bool) → nat_lt (position_or_len (bytes_eq name) names) (length names) ≡ b → number_among names name < length names
    by_test true is = subst (λ c. unwrap_or (cond c (Some (position_or_len (bytes_eq name) names)) None) 0 < length names) (sym is) (ltb-true (position_or_len (bytes_eq name) names) (length names) is)
    by_test false is = subst (λ c. unwrap_or (cond c (Some (position_or_len (bytes_eq name) names)) None) 0 < length names) (sym is) some

-- ---- tables

-- columns and fields are fields of the model
pub few_columns : (tree : Tree) → IsAccepted tree → (table : Table) → In table (tables_of tree) → (length table.columns ≤ 128) × (length table.fields ≤ 128)
few_columns tree accepted table is_in = by_kind (in_either (map (table_of tree) (models tree)) (map (link_table tree) (linked tree)) table is_in)
  where
    of_model : From (table_of tree) (models tree) table → (length table.columns ≤ 128) × (length table.fields ≤ 128)
    of_model found =
        let most : length (fields found.item) ≤ 128 = fields_within tree accepted found.item found.member in
        let columns : length table.columns ≡ length (column_fields tree found.item) = ap (λ (t : Table). length t.columns) found.gives ∙ length-map (column_fields tree found.item) (column_of tree) in
        let some : length (column_fields tree found.item) ≤ length (fields found.item) = fewer (is_column tree) (fields found.item) in
        let whole : length table.fields ≡ length (fields_of tree found.item) = ap (λ (t : Table). length t.fields) found.gives in
        let counted : length (fields_of tree found.item) ≡ length (fields found.item) = length-map (fields found.item) _ in
        (omega arith, omega arith)

    of_link : From (link_table tree) (linked tree) table → (length table.columns ≤ 128) × (length table.fields ≤ 128)
    of_link found =
        let columns : length table.columns ≡ 2 = ap (λ (t : Table). length t.columns) found.gives in
        let whole : length table.fields ≡ 2 = ap (λ (t : Table). length t.fields) found.gives in
        (omega arith, omega arith)

    by_kind : In table (map (table_of tree) (models tree)) ⊎ In table (map (link_table tree) (linked tree)) → (length table.columns ≤ 128) × (length table.fields ≤ 128)
    by_kind (inl is_model) = of_model (from_map (table_of tree) (models tree) table is_model)
    by_kind (inr is_link) = of_link (from_map (link_table tree) (linked tree) table is_link)

-- ---- relations

-- a relation, as what its holder and target make it
pub record Between (tree : Tree) (relation : Relation) : Type 0 where
  pub holder : End
  pub target : End
  pub holds : In holder (holders tree)
  pub pairs : In target (partners_among (ends tree) holder)
  pub gives : relation ≡ relation_between tree holder target

pub between : (tree : Tree) (relation : Relation) → In relation (relations_of tree) → Between tree relation
between tree relation is_in =
    let held = from_flat_map (relations_held tree) (holders tree) relation is_in in
    let made = from_map (relation_between tree held.item) (partners_among (ends tree) held.item) relation held.part in
    record { holder = held.item; target = made.item; holds = held.member; pairs = made.member; gives = made.gives }

-- the model of an end is one of the tree
pub own_model : (tree : Tree) (end : End) → In end (ends tree) → In end.model (models tree)
own_model tree end is_in =
    let numbered = from_map end_at (enumerate_from 0 (flat_map (leading_of tree) (models tree))) end is_in in
    let each = from_flat_map (leading_of tree) (models tree) numbered.item.1 (from_numbers 0 (flat_map (leading_of tree) (models tree)) numbered.item numbered.member) in
    let made = from_map (standing_in each.item) _ numbered.item.1 each.part in
    subst (λ (model : Block). In model (models tree)) (sym (ap (λ (e : End). e.model) numbered.gives ∙ ap (λ (s : Standing). s.model) made.gives)) each.member

model_within : (tree : Tree) (name : Spelling) → 0 < length (models tree) → model_number tree name < length (models tree)
model_within tree name some =
    let counted : length (map block_name (models tree)) ≡ length (models tree) = length-map (models tree) block_name in
    let found : number_among (map block_name (models tree)) name < length (map block_name (models tree)) = number_within (map block_name (models tree)) name (omega arith) in
    omega arith

-- child and parent are models
pub relation_tables : (tree : Tree) → IsAccepted tree → (relation : Relation) → In relation (relations_of tree) → (relation.child.0 < length (models tree)) × (relation.parent.0 < length (models tree))
relation_tables tree accepted relation is_in =
    let all = between tree relation is_in in
    let some : 0 < length (models tree) = some_items (models tree) all.holder.model (own_model tree all.holder (from_filter has_fields (ends tree) all.holder all.holds).0) in
    let child : relation.child.0 ≡ model_number tree all.holder.model.name.text = ap (λ (r : Relation). r.child.0) all.gives in
    let parent : relation.parent.0 ≡ model_number tree all.target.model.name.text = ap (λ (r : Relation). r.parent.0) all.gives in
    (subst (λ n. n < length (models tree)) (sym child) (model_within tree all.holder.model.name.text some), subst (λ n. n < length (models tree)) (sym parent) (model_within tree all.target.model.name.text some))

-- as many columns refer as are referred to, and one at least
pub reference_lengths : (tree : Tree) → IsAccepted tree → (relation : Relation) → In relation (relations_of tree) → (length relation.child_columns ≡ length relation.parent_columns) × (1 ≤ length relation.child_columns)
reference_lengths tree accepted relation is_in =
    let all = between tree relation is_in in
    let kept : list_all (names_columns tree (models tree)) (holders tree) ≡ true = all_pass (names_columns tree (models tree)) end_place (holders tree) (unbroken tree accepted references_are_columns references_are_columns_is_in) in
    let right : names_columns tree (models tree) all.holder ≡ true = passes (names_columns tree (models tree)) (holders tree) all.holder kept all.holds in
    let parts = and_parts (name_columns tree all.holder.model (own_names all.holder) && refers_to_columns tree (models tree) all.holder) (length (own_names all.holder) == length (other_names all.holder)) right in
    let own : name_columns tree all.holder.model (own_names all.holder) ≡ true = (and_parts _ _ parts.0).0 in
    let some : 1 ≤ length (own_names all.holder) = leb-true 1 (length (own_names all.holder)) (and_parts _ _ (and_parts _ _ own).0).0 in
    let same : length (own_names all.holder) ≡ length (other_names all.holder) = eqb-true (length (own_names all.holder)) (length (other_names all.holder)) parts.1 in
    let child : length relation.child_columns ≡ length (own_names all.holder) = ap (λ (r : Relation). length r.child_columns) all.gives ∙ length-map (own_names all.holder) _ in
    let parent : length relation.parent_columns ≡ length (other_names all.holder) = ap (λ (r : Relation). length r.parent_columns) all.gives ∙ length-map (other_names all.holder) _ in
    (omega arith, omega arith)

abbrev is_cascading : Action → Bool
is_cascading Cascade = true
is_cascading Restrict = false
is_cascading SetNull = false

abbrev is_restricting : Action → Bool
is_restricting Cascade = false
is_restricting Restrict = true
is_restricting SetNull = false

-- where an action nulls the reference, the relation is optional
nulls_optional : (end : End) (given : Option Spelling) (otherwise : Action) → may_be_action end given ≡ true → (otherwise ≡ SetNull → is_optional end.field.mark ≡ true) → action_or otherwise given ≡ SetNull → is_optional end.field.mark ≡ true
nulls_optional end None otherwise may default is = default is
nulls_optional end (Some name) otherwise may default is = by_name (bytes_eq name (codes "Cascade")) refl (bytes_eq name (codes "Restrict")) refl (bytes_eq name (codes "SetNull")) refl
  where
    parts : (is_among name action_names ≡ true) × ((not (bytes_eq name (codes "SetNull")) || is_optional end.field.mark) ≡ true)
    parts = and_parts (is_among name action_names) (not (bytes_eq name (codes "SetNull")) || is_optional end.field.mark) may

    whole : (a b : Bool) → bytes_eq name (codes "Cascade") ≡ a → bytes_eq name (codes "Restrict") ≡ b → action_or otherwise (Some name) ≡ cond a Cascade (cond b Restrict SetNull)
    whole a b one two = ap (λ c. cond c Cascade (cond (bytes_eq name (codes "Restrict")) Restrict SetNull)) one ∙ ap (λ c. cond a Cascade (cond c Restrict SetNull)) two

    listed : (a b c : Bool) → bytes_eq name (codes "Cascade") ≡ a → bytes_eq name (codes "Restrict") ≡ b → bytes_eq name (codes "SetNull") ≡ c → is_among name action_names ≡ (a || (b || (c || false)))
    listed a b c one two three =
        ap (λ x. x || (bytes_eq name (codes "Restrict") || (bytes_eq name (codes "SetNull") || false))) one ∙ ap (λ x. a || (x || (bytes_eq name (codes "SetNull") || false))) two ∙ ap (λ x. a || (b || (x || false))) three

    not_cascade : Cascade ≡ SetNull → ⊥
    not_cascade same = true≢false (ap is_cascading same)

    not_restrict : Restrict ≡ SetNull → ⊥
    not_restrict same = true≢false (ap is_restricting same)

    by_name : (a : Bool) → bytes_eq name (codes "Cascade") ≡ a → (b : Bool) → bytes_eq name (codes "Restrict") ≡ b → (c : Bool) → bytes_eq name (codes "SetNull") ≡ c → is_optional end.field.mark ≡ true
    by_name true one b two c three = absurd (not_cascade (sym (whole true b one two) ∙ is))
    by_name false one true two c three = absurd (not_restrict (sym (whole false true one two) ∙ is))
    by_name false one false two false three = absurd (true≢false (sym parts.0 ∙ listed false false false one two three))
    by_name false one false two true three = sym (ap (λ x. not x || is_optional end.field.mark) three) ∙ parts.1

default_optional : (optional : Bool) → default_on_delete optional ≡ SetNull → optional ≡ true
default_optional true is = refl
default_optional false is = absurd (true≢false (ap is_restricting is))

-- only an optional relation sets its references to null
pub nulls_are_optional : (tree : Tree) → IsAccepted tree → (relation : Relation) → In relation (relations_of tree) → (relation.on_delete ≡ SetNull → relation.optional ≡ true) × (relation.on_update ≡ SetNull → relation.optional ≡ true)
nulls_are_optional tree accepted relation is_in =
    let all = between tree relation is_in in
    let kept : list_all acts_rightly (ends tree) ≡ true = all_pass acts_rightly end_place (ends tree) (unbroken tree accepted actions_are_known actions_are_known_is_in) in
    let right : acts_rightly all.holder ≡ true = passes acts_rightly (ends tree) all.holder kept (from_filter has_fields (ends tree) all.holder all.holds).0 in
    let parts = and_parts (may_be_action all.holder (action (codes "onDelete") all.holder)) (may_be_action all.holder (action (codes "onUpdate") all.holder)) right in
    let optional : relation.optional ≡ is_optional all.holder.field.mark = ap (λ (r : Relation). r.optional) all.gives in
    let deletes : relation.on_delete ≡ action_or (default_on_delete (is_optional all.holder.field.mark)) (action (codes "onDelete") all.holder) = ap (λ (r : Relation). r.on_delete) all.gives in
    let updates : relation.on_update ≡ action_or Cascade (action (codes "onUpdate") all.holder) = ap (λ (r : Relation). r.on_update) all.gives in (
      λ is. optional ∙ nulls_optional all.holder (action (codes "onDelete") all.holder) (default_on_delete (is_optional all.holder.field.mark)) parts.0 (default_optional (is_optional all.holder.field.mark)) (sym deletes ∙ is),
      λ is. optional ∙ nulls_optional all.holder (action (codes "onUpdate") all.holder) Cascade parts.1 (λ same. absurd (true≢false (ap is_cascading same))) (sym updates ∙ is),
    )
