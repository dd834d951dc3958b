-- In the value of an accepted tree, the field that holds a relation is one of its child, and the field on the other
-- side one of its parent.
use Rattle.std.proofs.Common.{◌≡◌, ◌⊎◌, inl, inr, ℕ, zero, suc, Bool, true, false, not, ◌&&◌, ◌||◌, ◌==◌, List, [], ◌∷◌, ◌++◌, map, length, get_or, Option, Some, None, option_map, unwrap_or, refl, sym, ap, subst, ◌∙◌, arith, true≢false}
use Rattle.std.specs.Prelude.{bytes_eq, slice_get, position, if◌then◌else◌}
use Rattle.std.specs.Option.{option_or}
use Rattle.std.specs.List.{list_any, flat_map}
use Rattle.std.specs.Str.{str_to_ascii_lowercase}
use Rattle.std.proofs.lemmas.Bool.{and_parts, eqb-true}
use Rattle.std.proofs.lemmas.List.{length-map}
use Rattle.std.proofs.lemmas.List.Quantifiers.{position-Some}
use Rattle.std.proofs.lemmas.Option.{slice_get-get_or, slice_get-map}
use Rattle.std.proofs.lemmas.Slice.Eq.{bytes_eq-Decides}
use Rattle.psl_text.specs.declared.tree.Block.{Block}
use Rattle.psl_text.specs.declared.tree.Tree.{Tree}
use Rattle.psl_rules.specs.Accepted.{IsAccepted}
use Rattle.psl_rules.specs.Parts.{Spelling, ModelField, models, fields}
use Rattle.qe_text.specs.Lists.{repeats_behind, In}
use Rattle.psl_rules.specs.Names.{is_column}
use Rattle.psl_rules.specs.Relations.{End, Pair, ends, end_place, has_fields, leads_to, relation_name, same_relation, is_partner, partners_among, has_one_partner, ends_are_paired}
use Rattle.psl_rules.specs.Foreign.{holders}
use Rattle.psl_rules.specs.Stored.{linked}
use Rattle.qe_base.specs.declared.value.RelId.{RelId}
use Rattle.qe_base.specs.declared.schema.Field.{Field}
use Rattle.qe_base.specs.declared.schema.Field.TheVariants.{Scalar, Holder, Target, SideA, SideB}
use Rattle.qe_base.specs.declared.schema.Table.{Table}
use Rattle.psl_sound.specs.SchemaOf.{number_among, column_names, model_number, is_same_end, side_a_field, side_b_field, relation_field, end_of, field_in, table_of, link_table, tables_of, relation_between, relations_held, relations_of, schema_of}
use Rattle.psl_sound.proofs.Follows.{own_model}
use Rattle.qe_schema.proofs.Members.{From, from_map, in_either, from_filter, passes, some_same, not_some, in_place}
use Rattle.psl_sound.proofs.Unbroken.{unbroken, all_pass}
use Rattle.qe_schema.specs.Fields.{LeadsRightly, FieldsLeadRightly}
use Rattle.qe_schema.specs.Tables.{no_table, field_at}
use Rattle.psl_sound.proofs.Ids.{names_differ_in}
use Rattle.psl_sound.proofs.Named.{table_at_number}
use Rattle.psl_sound.proofs.Unique.{first_apart}
use Rattle.qe_schema.proofs.Tests.{any_append_left, any_append_right}
use Rattle.psl_sound.proofs.Rules.{ends_are_paired_is_in}

-- ---- places in lists without repeats

bytes_same : (x : Spelling) → bytes_eq x x ≡ true
bytes_same x = (bytes_eq-Decides x x).1 refl

none_before : (before : List Spelling) (x y : Spelling) → list_any (bytes_eq x) (before ++ y ∷ []) ≡ false → list_any (bytes_eq x) before ≡ false
none_before before x y apart = by_test (list_any (bytes_eq x) before) refl
  where
    by_test : (b : Bool) → list_any (bytes_eq x) before ≡ b → list_any (bytes_eq x) before ≡ false
    by_test true is = absurd (true≢false (sym (any_append_left (bytes_eq x) before (y ∷ []) is) ∙ apart))
    by_test false is = is

-- what stands behind is like none before
behind_apart : (before xs : List Spelling) → repeats_behind bytes_eq before xs ≡ [] → (place : ℕ) (x : Spelling) → slice_get xs place ≡ Some x → list_any (bytes_eq x) before ≡ false
behind_apart before [] apart place x at = absurd (not_some x at)
behind_apart before (y ∷ ys) apart zero x at = ap (λ z. list_any (bytes_eq z) before) (sym (some_same y x at)) ∙ (first_apart bytes_eq before y ys apart).0
behind_apart before (y ∷ ys) apart (suc place) x at = none_before before x y (behind_apart (before ++ y ∷ []) ys (first_apart bytes_eq before y ys apart).1 place x at)

not_behind : (before ys : List Spelling) (x y : Spelling) (place : ℕ) → repeats_behind bytes_eq before (y ∷ ys) ≡ [] → slice_get ys place ≡ Some x → y ≡ x → ⊥
not_behind before ys x y place apart at same =
    true≢false (sym (any_append_right (bytes_eq x) before (y ∷ []) (ap (λ b. b || false) (ap (bytes_eq x) same ∙ bytes_same x))) ∙ behind_apart (before ++ y ∷ []) ys (first_apart bytes_eq before y ys apart).1 place x at)

one_place : (before xs : List Spelling) → repeats_behind bytes_eq before xs ≡ [] → (one other : ℕ) (x : Spelling) → slice_get xs one ≡ Some x → slice_get xs other ≡ Some x → one ≡ other
one_place before [] apart one other x at also = absurd (not_some x at)
one_place before (y ∷ ys) apart zero zero x at also = refl
one_place before (y ∷ ys) apart zero (suc other) x at also = absurd (not_behind before ys x y other apart also (some_same y x at))
one_place before (y ∷ ys) apart (suc one) zero x at also = absurd (not_behind before ys x y one apart at (some_same y x also))
one_place before (y ∷ ys) apart (suc one) (suc other) x at also = ap suc (one_place (before ++ y ∷ []) ys (first_apart bytes_eq before y ys apart).1 one other x at also)

-- the table of a model stands at the model's number alone
pub table_number : (tree : Tree) → IsAccepted tree → (model : Block) → In model (models tree) → (place : ℕ) → slice_get (tables_of tree) place ≡ Some (table_of tree model) → model_number tree model.name.text ≡ place
table_number tree accepted model is_in place at =
    one_place [] names (names_differ_in tree accepted) (model_number tree model.name.text) place (name (table_of tree model)) (named (model_number tree model.name.text) (table_at_number tree accepted model is_in)) (named place at)
  where
    name : Table → Spelling
    name table = str_to_ascii_lowercase table.stored

    names : List Spelling
    names = map (λ (table : Table). str_to_ascii_lowercase table.stored) (tables_of tree)

    named : (n : ℕ) → slice_get (tables_of tree) n ≡ Some (table_of tree model) → slice_get (map (λ (table : Table). str_to_ascii_lowercase table.stored) (tables_of tree)) n ≡ Some (str_to_ascii_lowercase (table_of tree model).stored)
    named n here = slice_get-map (λ (table : Table). str_to_ascii_lowercase table.stored) (tables_of tree) n ∙ ap (option_map (λ (table : Table). str_to_ascii_lowercase table.stored)) here

-- ---- relations by the numbers of their holders

many : (n : ℕ) → suc (suc n) ≡ 1 → ⊥
many n is = omega arith

single : {A : Type 0} (xs : List A) → (length xs == 1) ≡ true → (x : A) × (xs ≡ x ∷ [])
single [] is = absurd (true≢false (sym is))
single (x ∷ []) is = (x, refl)
single (x ∷ y ∷ xs) is = absurd (many (length xs) (eqb-true (length (x ∷ y ∷ xs)) 1 is))

-- where each item gives one, they stand at the places of the items
at_each : {A B : Type 0} (f : A → List B) (xs : List A) → ((x : A) → In x xs → (length (f x) == 1) ≡ true) → (place : ℕ) (x : A) → slice_get xs place ≡ Some x → slice_get (flat_map f xs) place ≡ slice_get (f x) 0
unfolding In
at_each f [] ones place x at = absurd (not_some x at)
at_each {A = A} {B = B} f (y ∷ ys) ones place x at = by_first place at (single (f y) (ones y (inl refl))) (at_each f ys (λ z is_in. ones z (inr is_in)))
  where
    by_first : (place : ℕ) → slice_get (y ∷ ys) place ≡ Some x → (b : B) × (f y ≡ b ∷ []) → ((place : ℕ) (x : A) → slice_get ys place ≡ Some x → slice_get (flat_map f ys) place ≡ slice_get (f x) 0) → slice_get (f y ++ flat_map f ys) place ≡ slice_get (f x) 0
    by_first zero at one rest = ap (λ all. slice_get (all ++ flat_map f ys) 0) one.1 ∙ sym (ap (λ all. slice_get all 0) one.1) ∙ ap (λ z. slice_get (f z) 0) (some_same y x at)
    by_first (suc place) at one rest = ap (λ all. slice_get (all ++ flat_map f ys) (suc place)) one.1 ∙ rest place x at

-- the relation of a holder's number, with the one partner that it has
pub record Numbered (tree : Tree) (number : ℕ) (holder : End) : Type 0 where
  pub target : End
  pub pairs : is_partner holder target ≡ true
  pub is : slice_get (relations_of tree) number ≡ Some (relation_between tree holder target)

one_partner : (tree : Tree) → IsAccepted tree → (holder : End) → In holder (holders tree) → (length (partners_among (ends tree) holder) == 1) ≡ true
one_partner tree accepted holder is_in = passes (has_one_partner (ends tree)) (ends tree) holder (all_pass (has_one_partner (ends tree)) end_place (ends tree) (unbroken tree accepted ends_are_paired ends_are_paired_is_in)) (from_filter has_fields (ends tree) holder is_in).0

first_in : {A : Type 0} (xs : List A) (x : A) → xs ≡ x ∷ [] → In x xs
unfolding In
first_in xs x same = subst (In x) (sym same) (inl refl)

numbered : (tree : Tree) → IsAccepted tree → (number : ℕ) (holder : End) → slice_get (holders tree) number ≡ Some holder → Numbered tree number holder
numbered tree accepted number holder at =
    let partner = single (partners_among (ends tree) holder) (one_partner tree accepted holder (in_place (holders tree) number holder at)) in
    record {
      target = partner.0;
      pairs = (from_filter (is_partner holder) (ends tree) partner.0 (first_in (partners_among (ends tree) holder) partner.0 partner.1)).1;
      is = at_each (relations_held tree) (holders tree) ones number holder at ∙ ap (λ all. slice_get (map (relation_between tree holder) all) 0) partner.1;
    }
  where
    ones : (other : End) → In other (holders tree) → (length (relations_held tree other) == 1) ≡ true
    ones other is_in = ap (λ n. n == 1) (length-map (partners_among (ends tree) other) (relation_between tree other)) ∙ one_partner tree accepted other is_in

-- ---- what a field of a relation is

is_holding : Field → Bool
is_holding (Scalar column) = false
is_holding (Holder relation) = true
is_holding (Target relation) = false
is_holding (SideA table) = false
is_holding (SideB table) = false

is_reaching : Field → Bool
is_reaching (Scalar column) = false
is_reaching (Holder relation) = false
is_reaching (Target relation) = true
is_reaching (SideA table) = false
is_reaching (SideB table) = false

abbrev is_scalar : Field → Bool
is_scalar (Scalar column) = true
is_scalar (Holder relation) = false
is_scalar (Target relation) = false
is_scalar (SideA table) = false
is_scalar (SideB table) = false

relation_number : Field → ℕ
relation_number (Scalar column) = 0
relation_number (Holder relation) = relation.0
relation_number (Target relation) = relation.0
relation_number (SideA table) = 0
relation_number (SideB table) = 0

abbrev choice_of : Option ℕ → Option ℕ → Option Field → Option Field → Field
choice_of held reached a b = unwrap_or (option_or (option_map (λ number. Holder (record { 0 = number })) held) (option_or (option_map (λ number. Target (record { 0 = number })) reached) (option_or a b))) (Scalar 0)

abbrev is_side : Option Field → Type 0
is_side field = (relation : RelId) → (field ≡ Some (Holder relation) → ⊥) × (field ≡ Some (Target relation) → ⊥)

side_a : (n : Option ℕ) (f : ℕ → ℕ) → is_side (option_map (λ number. SideA (record { 0 = f number })) n)
unfolding is_holding is_reaching
side_a None f relation = (not_some (Holder relation), not_some (Target relation))
side_a (Some n) f relation = (λ same. true≢false (sym (ap is_holding (some_same _ _ same))), λ same. true≢false (sym (ap is_reaching (some_same _ _ same))))

side_b : (n : Option ℕ) (f : ℕ → ℕ) → is_side (option_map (λ number. SideB (record { 0 = f number })) n)
unfolding is_holding is_reaching
side_b None f relation = (not_some (Holder relation), not_some (Target relation))
side_b (Some n) f relation = (λ same. true≢false (sym (ap is_holding (some_same _ _ same))), λ same. true≢false (sym (ap is_reaching (some_same _ _ same))))

held_choice : (held reached : Option ℕ) (a b : Option Field) → is_side a → is_side b → (relation : RelId) → choice_of held reached a b ≡ Holder relation → held ≡ Some relation.0
unfolding is_holding relation_number
held_choice (Some number) reached a b sa sb relation same = ap Some (ap relation_number same)
held_choice None (Some number) a b sa sb relation same = absurd (true≢false (sym (ap is_holding same)))
held_choice None None (Some field) b sa sb relation same = absurd ((sa relation).0 (ap Some same))
held_choice None None None (Some field) sa sb relation same = absurd ((sb relation).0 (ap Some same))
held_choice None None None None sa sb relation same = absurd (true≢false (sym (ap is_holding same)))

reached_choice : (held reached : Option ℕ) (a b : Option Field) → is_side a → is_side b → (relation : RelId) → choice_of held reached a b ≡ Target relation → reached ≡ Some relation.0
unfolding is_reaching relation_number
reached_choice (Some number) reached a b sa sb relation same = absurd (true≢false (sym (ap is_reaching same)))
reached_choice None (Some number) a b sa sb relation same = ap Some (ap relation_number same)
reached_choice None None (Some field) b sa sb relation same = absurd ((sa relation).1 (ap Some same))
reached_choice None None None (Some field) sa sb relation same = absurd ((sb relation).1 (ap Some same))
reached_choice None None None None sa sb relation same = absurd (true≢false (sym (ap is_reaching same)))

-- an end at the place of the first that passes
pub record At (p : End → Bool) (xs : List End) (place : ℕ) : Type 0 where
  pub end : End
  pub at : slice_get xs place ≡ Some end
  pub passes : p end ≡ true

at_position : (p : End → Bool) (xs : List End) (place : ℕ) (otherwise : End) → position p xs ≡ Some place → At p xs place
at_position p xs place otherwise is = let first = position-Some p xs place otherwise is in record { end = get_or xs place otherwise; at = slice_get-get_or xs place otherwise first.0; passes = first.1 }

holder_model : (tree : Tree) (holder : End) → In holder (holders tree) → In holder.model (models tree)
holder_model tree holder is_in = own_model tree holder (from_filter has_fields (ends tree) holder is_in).0

relation_choice : (tree : Tree) (model : Block) (field : ModelField) (other : Field) → is_scalar other ≡ false → field_in tree model field ≡ other → relation_field tree (end_of tree model field) ≡ other
relation_choice tree model field other not_scalar is = by_column (is_column tree field) refl
  where
    by_column : (b : Bool) → is_column tree field ≡ b → relation_field tree (end_of tree model field) ≡ other
    by_column true column = absurd (true≢false (ap is_scalar (sym (ap (λ c. if c then Scalar (number_among (column_names tree model) field.name.text) else relation_field tree (end_of tree model field)) column) ∙ is) ∙ not_scalar))
    by_column false column = sym (ap (λ c. if c then Scalar (number_among (column_names tree model) field.name.text) else relation_field tree (end_of tree model field)) column) ∙ is

-- a field of a model, as it stands in the schema
pub record FieldOf (tree : Tree) (table : ℕ) (is : Field) : Type 0 where
  pub model : Block
  pub member : In model (models tree)
  pub at : slice_get (tables_of tree) table ≡ Some (table_of tree model)
  pub field : ModelField
  pub gives : field_in tree model field ≡ is

holder_leads : (tree : Tree) → IsAccepted tree → (table : ℕ) (relation : RelId) → FieldOf tree table (Holder relation) → LeadsRightly (schema_of tree) table (Holder relation)
holder_leads tree accepted table relation found =
    let end : End = end_of tree found.model found.field in
    let chosen = held_choice (position (is_same_end end) (holders tree)) (position (λ holder. is_partner holder end) (holders tree)) (side_a_field tree end) (side_b_field tree end) (side_a _ _) (side_b _ _) relation (relation_choice tree found.model found.field (Holder relation) refl found.gives) in
    let holder = at_position (is_same_end end) (holders tree) relation.0 end chosen in
    let relation_is = numbered tree accepted relation.0 holder.end holder.at in
    let names : found.model.name.text ≡ holder.end.model.name.text = (bytes_eq-Decides found.model.name.text holder.end.model.name.text).0 (and_parts (bytes_eq found.model.name.text holder.end.model.name.text) _ holder.passes).0 in
    (relation_between tree holder.end relation_is.target, relation_is.is, ap (model_number tree) (sym names) ∙ table_number tree accepted found.model found.member table found.at)

led_name : (holder end : End) → is_partner holder end ≡ true → holder.field.type.text ≡ end.model.name.text
led_name holder end is =
    (bytes_eq-Decides holder.field.type.text end.model.name.text).0
    (and_parts (leads_to holder end.model) (leads_to end holder.model) (and_parts (leads_to holder end.model && leads_to end holder.model) (same_relation (relation_name holder) (relation_name end)) (and_parts (leads_to holder end.model && leads_to end holder.model && same_relation (relation_name holder) (relation_name end)) (not (holder.number == end.number)) is).0).0).0

target_leads : (tree : Tree) → IsAccepted tree → (table : ℕ) (relation : RelId) → FieldOf tree table (Target relation) → LeadsRightly (schema_of tree) table (Target relation)
target_leads tree accepted table relation found =
    let end : End = end_of tree found.model found.field in
    let chosen = reached_choice (position (is_same_end end) (holders tree)) (position (λ holder. is_partner holder end) (holders tree)) (side_a_field tree end) (side_b_field tree end) (side_a _ _) (side_b _ _) relation (relation_choice tree found.model found.field (Target relation) refl found.gives) in
    let holder = at_position (λ holder. is_partner holder end) (holders tree) relation.0 end chosen in
    let relation_is = numbered tree accepted relation.0 holder.end holder.at in
    let names : relation_is.target.model.name.text ≡ found.model.name.text = sym (led_name holder.end relation_is.target relation_is.pairs) ∙ led_name holder.end end holder.passes in
    (relation_between tree holder.end relation_is.target, relation_is.is, ap (model_number tree) names ∙ table_number tree accepted found.model found.member table found.at)

-- ---- fields of tables

scalars_alone : (tree : Tree) (pair : Pair) (number : ℕ) (other : Field) → is_scalar other ≡ false → option_map (λ (field : Spelling × Field). field.1) (slice_get (link_table tree pair).fields number) ≡ Some other → ⊥
scalars_alone tree pair zero other not_scalar is = true≢false (ap is_scalar (some_same _ _ is) ∙ not_scalar)
scalars_alone tree pair (suc zero) other not_scalar is = true≢false (ap is_scalar (some_same _ _ is) ∙ not_scalar)
scalars_alone tree pair (suc (suc number)) other not_scalar is = not_some other is

field_of : (tree : Tree) (table number : ℕ) (other : Field) → is_scalar other ≡ false → field_at (schema_of tree) table number ≡ Some other → FieldOf tree table other
field_of tree table number other not_scalar is = by_table (slice_get (tables_of tree) table) refl
  where
    in_table : (t : Table) → slice_get (tables_of tree) table ≡ Some t → option_map (λ (field : Spelling × Field). field.1) (slice_get t.fields number) ≡ Some other
    in_table t at = sym (ap (λ (o : Option Table). option_map (λ (field : Spelling × Field). field.1) (slice_get (unwrap_or o no_table).fields number)) at) ∙ is

    by_field : (model : Block) → In model (models tree) → slice_get (tables_of tree) table ≡ Some (table_of tree model) → (o : Option ModelField) → option_map (λ (field : Spelling × Field). field.1) (option_map (λ (field : ModelField). (field.name.text, field_in tree model field)) o) ≡ Some other → FieldOf tree table other
    by_field model member at None there = absurd (not_some other there)
    by_field model member at (Some field) there = record { model = model; member = member; at = at; field = field; gives = some_same _ _ there }

    of_model : (t : Table) → slice_get (tables_of tree) table ≡ Some t → From (table_of tree) (models tree) t → FieldOf tree table other
    of_model t at made =
        let here : slice_get (tables_of tree) table ≡ Some (table_of tree made.item) = at ∙ ap Some made.gives in
        by_field made.item made.member here (slice_get (fields made.item) number)
        (ap (option_map (λ (field : Spelling × Field). field.1)) (sym (slice_get-map (λ (field : ModelField). (field.name.text, field_in tree made.item field)) (fields made.item) number)) ∙ in_table (table_of tree made.item) here)

    of_link : (t : Table) → slice_get (tables_of tree) table ≡ Some t → From (link_table tree) (linked tree) t → FieldOf tree table other
    of_link t at made = absurd (scalars_alone tree made.item number other not_scalar (in_table (link_table tree made.item) (at ∙ ap Some made.gives)))

    by_kind : (t : Table) → slice_get (tables_of tree) table ≡ Some t → In t (map (table_of tree) (models tree)) ⊎ In t (map (link_table tree) (linked tree)) → FieldOf tree table other
    by_kind t at (inl model) = of_model t at (from_map (table_of tree) (models tree) t model)
    by_kind t at (inr link) = of_link t at (from_map (link_table tree) (linked tree) t link)

    by_table : (o : Option Table) → slice_get (tables_of tree) table ≡ o → FieldOf tree table other
    by_table None at = absurd (not_some other (sym (ap (λ (o : Option Table). option_map (λ (field : Spelling × Field). field.1) (slice_get (unwrap_or o no_table).fields number)) at) ∙ is))
    by_table (Some t) at = by_kind t at (in_either (map (table_of tree) (models tree)) (map (link_table tree) (linked tree)) t (in_place (tables_of tree) table t at))

pub lead_in : (tree : Tree) → IsAccepted tree → FieldsLeadRightly (schema_of tree)
lead_in tree accepted table number (Scalar column) at = tt
lead_in tree accepted table number (Holder relation) at = holder_leads tree accepted table relation (field_of tree table number (Holder relation) refl at)
lead_in tree accepted table number (Target relation) at = target_leads tree accepted table relation (field_of tree table number (Target relation) refl at)
lead_in tree accepted table number (SideA link) at = tt
lead_in tree accepted table number (SideB link) at = tt
