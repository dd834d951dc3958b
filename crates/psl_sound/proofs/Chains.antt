-- Arrows between tables are arrows between models, which form no cycle.
use Rattle.std.proofs.Common.{◌≡◌, inl, inr, ℕ, Bool, true, false, not, cond, ◌&&◌, ◌||◌, List, [], ◌∷◌, Option, Some, None, unwrap_or, refl, sym, ap, subst, ◌∙◌, true≢false, codes}
use Rattle.std.specs.Prelude.{bytes_eq, slice_get, ◌==◌}
use Rattle.std.specs.List.{list_any}
use Rattle.std.proofs.lemmas.Bool.{and_parts, eqb-true}
use Rattle.std.proofs.lemmas.Slice.Eq.{bytes_eq-Decides}
use Rattle.psl_text.specs.declared.tree.Block.{Block}
use Rattle.psl_text.specs.declared.tree.Tree.{Tree}
use Rattle.psl_rules.specs.Accepted.{IsAccepted}
use Rattle.psl_rules.specs.Parts.{Spelling, models}
use Rattle.qe_text.specs.Lists.{is_among, In}
use Rattle.psl_rules.specs.Attributes.{names_column}
use Rattle.psl_rules.specs.Relations.{End, end_place, own_names, other_names, leads_to}
use Rattle.psl_rules.specs.Foreign.{holders, action}
use Rattle.psl_rules.specs.Updates as updates
use Rattle.psl_rules.specs.Updates.{Leads, here, on, steps, step_of, arrows, cascades, goes_on, leads, is_on_cycle, updates_form_no_cycle}
use Rattle.psl_rules.proofs.Steps.{leads_complete}
use Rattle.qe_base.specs.declared.schema.Action.TheVariants.{Cascade, Restrict, SetNull}
use Rattle.qe_base.specs.declared.schema.Relation.{Relation}
use Rattle.psl_sound.specs.SchemaOf.{number_among, model_number, column_of, columns_of, column_names, table_of, tables_of, action_or, relations_of, schema_of}
use Rattle.psl_sound.proofs.Columns.{column_named}
use Rattle.psl_sound.proofs.Follows.{Between, between}
use Rattle.qe_schema.proofs.Members.{From, from_map, passes, any_of, in_filter, in_map}
use Rattle.psl_sound.proofs.Unbroken.{unbroken, all_pass}
use Rattle.qe_schema.specs.Cycles.{is_cascade, meet, goes_on_by, is_arrow, Chain, one, more, NoCycle}
use Rattle.psl_sound.proofs.Named.{unique_model, table_at_number}
use Rattle.psl_sound.proofs.Relations.{Ends, ends_of_relation, Columns, columns_of_relation}
use Rattle.psl_sound.proofs.Rules.{updates_form_no_cycle_is_in}

-- ---- tests over lists

-- an item of the list that passes
pub record SomeOf {A : Type 0} (p : A → Bool) (xs : List A) : Type 0 where
  pub item : A
  pub member : In item xs
  pub passes_it : p item ≡ true

pub some_of : {A : Type 0} (p : A → Bool) (xs : List A) → list_any p xs ≡ true → SomeOf p xs
unfolding In
some_of p [] some = absurd (true≢false (sym some))
some_of p (x ∷ xs) some = by_test (p x) refl (some_of p xs)
  where
    by_test : (b : Bool) → p x ≡ b → (list_any p xs ≡ true → SomeOf p xs) → SomeOf p (x ∷ xs)
    by_test true is rest = record { item = x; member = inl refl; passes_it = is }
    by_test false is rest = let found = rest (sym (ap (λ b. b || list_any p xs) is) ∙ some) in record { item = found.item; member = inr found.member; passes_it = found.passes_it }

-- ---- numbers tell names apart

same_model : (tree : Tree) → IsAccepted tree → (first second : Block) → In first (models tree) → In second (models tree) → model_number tree first.name.text ≡ model_number tree second.name.text → first.name.text ≡ second.name.text
same_model tree accepted first second in_first in_second same =
    ap (λ o. (unwrap_or o (table_of tree first)).name) (sym (table_at_number tree accepted first in_first) ∙ ap (slice_get (tables_of tree)) same ∙ table_at_number tree accepted second in_second)

same_column : (tree : Tree) (model : Block) (first second : Spelling) → names_column tree model first ≡ true → names_column tree model second ≡ true → number_among (column_names tree model) first ≡ number_among (column_names tree model) second → first ≡ second
same_column tree model first second is_first is_second same =
    let mine = column_named tree model first is_first in
    let yours = column_named tree model second is_second in
    let names : mine.field.name.text ≡ yours.field.name.text = ap (λ o. (unwrap_or o (column_of tree mine.field)).name) (sym mine.at ∙ ap (slice_get (columns_of tree model)) same ∙ yours.at) in
    (bytes_eq-Decides first mine.field.name.text).0 mine.called ∙ names ∙ sym ((bytes_eq-Decides second yours.field.name.text).0 yours.called)

-- ---- an arrow of tables is one of models

cascading : (given : Option Spelling) → is_cascade (action_or Cascade given) ≡ true → cascades given ≡ true
cascading None is = refl
cascading (Some name) is = by_name (bytes_eq name (codes "Cascade")) refl
  where
    whole : (b : Bool) → bytes_eq name (codes "Cascade") ≡ b → is_cascade (cond b Cascade (cond (bytes_eq name (codes "Restrict")) Restrict SetNull)) ≡ true
    whole b same = sym (ap (λ c. is_cascade (cond c Cascade (cond (bytes_eq name (codes "Restrict")) Restrict SetNull))) same) ∙ is

    never : (c : Bool) → is_cascade (cond c Restrict SetNull) ≡ true → ⊥
    never true no_way = true≢false (sym no_way)
    never false no_way = true≢false (sym no_way)

    by_name : (b : Bool) → bytes_eq name (codes "Cascade") ≡ b → bytes_eq name (codes "Cascade") ≡ true
    by_name true same = same
    by_name false same = absurd (never (bytes_eq name (codes "Restrict")) (whole false same))

is_model_arrow : (tree : Tree) → IsAccepted tree → (relation : Relation) → (all : Between tree relation) → is_arrow (schema_of tree) relation ≡ true → In all.holder (arrows tree)
is_model_arrow tree accepted relation all arrow = in_filter (updates.is_arrow (holders tree)) (holders tree) all.holder all.holds (both (cascades (action (codes "onUpdate") all.holder)) (list_any (goes_on all.holder) (holders tree)) cascade further)
  where
    both : (a b : Bool) → a ≡ true → b ≡ true → (a && b) ≡ true
    both a b first second = ap (λ c. c && b) first ∙ second

    parts : (is_cascade relation.on_update ≡ true) × (list_any (goes_on_by relation) (relations_of tree) ≡ true)
    parts = and_parts (is_cascade relation.on_update) (list_any (goes_on_by relation) (relations_of tree)) arrow

    cascade : cascades (action (codes "onUpdate") all.holder) ≡ true
    cascade = cascading (action (codes "onUpdate") all.holder) (sym (ap (λ (r : Relation). is_cascade r.on_update) all.gives) ∙ parts.0)

    next : SomeOf (goes_on_by relation) (relations_of tree)
    next = some_of (goes_on_by relation) (relations_of tree) parts.1

    other : Between tree next.item
    other = between tree next.item next.member

    own_ends : Ends tree all.holder all.target
    own_ends = ends_of_relation tree all.holder all.target all.holds all.pairs

    other_ends : Ends tree other.holder other.target
    other_ends = ends_of_relation tree other.holder other.target other.holds other.pairs

    meets : (next.item.parent.0 == relation.child.0 ≡ true) × (meet relation.child_columns next.item.parent_columns ≡ true)
    meets = and_parts (next.item.parent.0 == relation.child.0) (meet relation.child_columns next.item.parent_columns) next.passes_it

    numbers : model_number tree other.target.model.name.text ≡ model_number tree all.holder.model.name.text
    numbers = sym (ap (λ (r : Relation). r.parent.0) other.gives) ∙ eqb-true next.item.parent.0 relation.child.0 meets.0 ∙ ap (λ (r : Relation). r.child.0) all.gives

    names : other.target.model.name.text ≡ all.holder.model.name.text
    names = same_model tree accepted other.target.model all.holder.model other_ends.other own_ends.own numbers

    model : other.target.model ≡ all.holder.model
    model = unique_model tree accepted other.target.model all.holder.model other_ends.other own_ends.own ((bytes_eq-Decides other.target.model.name.text all.holder.model.name.text).1 names)

    leads_back : leads_to other.holder all.holder.model ≡ true
    leads_back = subst (λ (m : Block). leads_to other.holder m ≡ true) model other_ends.leads

    own_columns : Columns tree all.holder all.target
    own_columns = columns_of_relation tree accepted all.holder all.target all.holds own_ends

    other_columns : Columns tree other.holder other.target
    other_columns = columns_of_relation tree accepted other.holder other.target other.holds other_ends

    met : SomeOf (λ column. list_any (λ second. column == second) next.item.parent_columns) relation.child_columns
    met = some_of (λ column. list_any (λ second. column == second) next.item.parent_columns) relation.child_columns meets.1

    second : SomeOf (λ second. met.item == second) next.item.parent_columns
    second = some_of (λ second. met.item == second) next.item.parent_columns met.passes_it

    mine : From (number_among (column_names tree all.holder.model)) (own_names all.holder) met.item
    mine = from_map (number_among (column_names tree all.holder.model)) (own_names all.holder) met.item (subst (λ (r : Relation). In met.item r.child_columns) all.gives met.member)

    yours : From (number_among (column_names tree other.target.model)) (other_names other.holder) second.item
    yours = from_map (number_among (column_names tree other.target.model)) (other_names other.holder) second.item (subst (λ (r : Relation). In second.item r.parent_columns) other.gives second.member)

    numbers_same : number_among (column_names tree all.holder.model) mine.item ≡ number_among (column_names tree all.holder.model) yours.item
    numbers_same = sym mine.gives ∙ eqb-true met.item second.item second.passes_it ∙ yours.gives ∙ ap (λ (m : Block). number_among (column_names tree m) yours.item) model

    same_text : mine.item ≡ yours.item
    same_text = same_column tree all.holder.model mine.item yours.item (passes (names_column tree all.holder.model) (own_names all.holder) mine.item own_columns.own mine.member)
        (subst (λ (m : Block). names_column tree m yours.item ≡ true) model (passes (names_column tree other.target.model) (other_names other.holder) yours.item other_columns.other yours.member)) numbers_same

    further : list_any (goes_on all.holder) (holders tree) ≡ true
    further = any_of (goes_on all.holder) (holders tree) other.holder other.holds (both (leads_to other.holder all.holder.model) (list_any (λ name. is_among name (other_names other.holder)) (own_names all.holder)) leads_back
        (any_of (λ name. is_among name (other_names other.holder)) (own_names all.holder) mine.item mine.member (any_of (bytes_eq mine.item) (other_names other.holder) yours.item yours.member ((bytes_eq-Decides mine.item yours.item).1 same_text))))

-- ---- a chain of tables is a way between models

-- the models at both ends of a chain, and the steps between them
record Path (tree : Tree) (first last : ℕ) : Type 0 where
  from : Block
  to : Block
  in_from : In from (models tree)
  in_to : In to (models tree)
  from_is : first ≡ model_number tree from.name.text
  to_is : last ≡ model_number tree to.name.text
  leads_on : Leads (steps tree) from.name.text to.name.text

-- the step of an arrow, from the model that it refers to
record Arrow (tree : Tree) (relation : Relation) : Type 0 where
  holder : End
  target : End
  both_ends : Ends tree holder target
  arrow : In holder (arrows tree)
  parent_is : relation.parent.0 ≡ model_number tree target.model.name.text
  child_is : relation.child.0 ≡ model_number tree holder.model.name.text
  from_target : holder.field.type.text ≡ target.model.name.text

arrow_of : (tree : Tree) → IsAccepted tree → (relation : Relation) → In relation (relations_of tree) → is_arrow (schema_of tree) relation ≡ true → Arrow tree relation
arrow_of tree accepted relation is_in arrow =
    let all = between tree relation is_in in
    let two = ends_of_relation tree all.holder all.target all.holds all.pairs in
    record {
      holder = all.holder;
      target = all.target;
      both_ends = two;
      arrow = is_model_arrow tree accepted relation all arrow;
      parent_is = ap (λ (r : Relation). r.parent.0) all.gives;
      child_is = ap (λ (r : Relation). r.child.0) all.gives;
      from_target = (bytes_eq-Decides all.holder.field.type.text all.target.model.name.text).0 two.leads;
    }

-- one step, and then a way on from the model that it leads to
step_on : (tree : Tree) (relation : Relation) (found : Arrow tree relation) (to : Spelling) → Leads (steps tree) found.holder.model.name.text to → Leads (steps tree) found.target.model.name.text to
step_on tree relation found to rest =
    subst (λ name. Leads (steps tree) name to) found.from_target (on (step_of found.holder) (in_map step_of (arrows tree) found.holder found.arrow) rest)

path : (tree : Tree) → IsAccepted tree → {first last : ℕ} → Chain (schema_of tree) first last → Path tree first last
path tree accepted (one relation is_in arrow) =
    let found = arrow_of tree accepted relation is_in arrow in
    record {
      from = found.target.model;
      to = found.holder.model;
      in_from = found.both_ends.other;
      in_to = found.both_ends.own;
      from_is = found.parent_is;
      to_is = found.child_is;
      leads_on = step_on tree relation found found.holder.model.name.text here;
    }
path tree accepted (more relation is_in arrow rest) =
    let found = arrow_of tree accepted relation is_in arrow in
    let behind = path tree accepted rest in
    let same : behind.from.name.text ≡ found.holder.model.name.text = same_model tree accepted behind.from found.holder.model behind.in_from found.both_ends.own (sym behind.from_is ∙ found.child_is) in
    record {
      from = found.target.model;
      to = behind.to;
      in_from = found.both_ends.other;
      in_to = behind.in_to;
      from_is = found.parent_is;
      to_is = behind.to_is;
      leads_on = step_on tree relation found behind.to.name.text (subst (λ name. Leads (steps tree) name behind.to.name.text) same behind.leads_on);
    }

-- no way leads from an arrow's end back to its beginning
not_back : (tree : Tree) → IsAccepted tree → (relation : Relation) (found : Arrow tree relation) → Leads (steps tree) found.holder.model.name.text found.target.model.name.text → ⊥
not_back tree accepted relation found back =
    let kept = all_pass (λ arrow. not (is_on_cycle (steps tree) arrow)) end_place (arrows tree) (unbroken tree accepted updates_form_no_cycle updates_form_no_cycle_is_in) in
    let right : not (leads (steps tree) found.holder.model.name.text found.holder.field.type.text) ≡ true = passes (λ arrow. not (is_on_cycle (steps tree) arrow)) (arrows tree) found.holder kept found.arrow in
    let way : leads (steps tree) found.holder.model.name.text found.holder.field.type.text ≡ true =
    leads_complete (steps tree) found.holder.model.name.text found.holder.field.type.text (subst (λ name. Leads (steps tree) found.holder.model.name.text name) (sym found.from_target) back) in
    true≢false (sym right ∙ ap not way)

no_return : (tree : Tree) → IsAccepted tree → {first last : ℕ} → Chain (schema_of tree) first last → first ≡ last → ⊥
no_return tree accepted (one relation is_in arrow) same =
    let found = arrow_of tree accepted relation is_in arrow in
    let names : found.target.model.name.text ≡ found.holder.model.name.text = same_model tree accepted found.target.model found.holder.model found.both_ends.other found.both_ends.own (sym found.parent_is ∙ same ∙ found.child_is) in
    not_back tree accepted relation found (subst (λ name. Leads (steps tree) found.holder.model.name.text name) (sym names) here)
no_return tree accepted (more relation is_in arrow rest) same =
    let found = arrow_of tree accepted relation is_in arrow in
    let behind = path tree accepted rest in
    let begins : behind.from.name.text ≡ found.holder.model.name.text = same_model tree accepted behind.from found.holder.model behind.in_from found.both_ends.own (sym behind.from_is ∙ found.child_is) in
    let ends_at : behind.to.name.text ≡ found.target.model.name.text = same_model tree accepted behind.to found.target.model behind.in_to found.both_ends.other (sym behind.to_is ∙ sym same ∙ found.parent_is) in
    not_back tree accepted relation found (subst (λ name. Leads (steps tree) found.holder.model.name.text name) ends_at (subst (λ name. Leads (steps tree) name behind.to.name.text) begins behind.leads_on))

pub no_cycle_in : (tree : Tree) → IsAccepted tree → NoCycle (schema_of tree)
no_cycle_in tree accepted table chain = no_return tree accepted chain refl
