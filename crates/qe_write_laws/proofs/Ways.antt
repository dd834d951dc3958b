-- What each change keeps, attaching and detaching rows keeps.
use Rattle.std.proofs.Common.{◌≡◌, ℕ, ◌+◌, Bool, true, false, not, List, [], ◌∷◌, map, filter, length, zip, Option, Some, None, option_map, option_and_then, slice_get, unwrap_or, is_some, IfSome, Result, Ok, Err, IfOk, refl, sym, ap, ◌∙◌, true≢false}
use Rattle.std.specs.Prelude.{if◌then◌else◌}
use Rattle.std.specs.List.{list_all}
use Rattle.qe_text.specs.Lists.{In}
use Rattle.qe_base.specs.declared.value.RelId.{RelId}
use Rattle.qe_base.specs.declared.value.Row.{Row}
use Rattle.qe_base.specs.declared.value.TableId.{TableId}
use Rattle.qe_base.specs.declared.value.Value.{Value}
use Rattle.qe_base.specs.declared.schema.Field.TheVariants.{Target, SideA, SideB}
use Rattle.qe_base.specs.declared.schema.Link.{Link}
use Rattle.qe_base.specs.declared.schema.Relation.{Relation}
use Rattle.qe_base.specs.declared.answer.Rule.{Rule}
use Rattle.qe_base.specs.declared.answer.Rule.TheVariants as rule
use Rattle.qe_base.specs.Schemas.{Schema, link_of}
use Rattle.qe_schema.proofs.Members.{passes}
use Rattle.qe_schema.specs.Columns.{Values, at_columns}
use Rattle.qe_schema.specs.Tables.{Tables, table_at, id_of, field_at}
use Rattle.qe_reading.specs.Related.{led_to_by}
use Rattle.qe_writing.specs.WriteState.{WriteState, Followed, ◌>>=◌, row_with_id, row_of, row_followed, follow_all, or_absent, present}
use Rattle.qe_writing.specs.Delete.{nulls, relation_id}
use Rattle.qe_writing.specs.Ways.{Way, no_relation, relation_at, children_of, refer, let_go, on_row, each_followed, each_row, make_room_for_child, is_row, attach_child, to_children, no_link, link_at, own_side, other_side, link_rows, unlink_row, to_linked}
use Rattle.qe_writing.specs.Numbers.{is_one_of}
use Rattle.qe_writing.specs.WriteFits.{value_fits, handed_columns}
use Rattle.qe_write_laws.specs.Keeps.{Keeps, row_fits, StillHolds}
use Rattle.qe_schema.specs.Sound.{IsSound}
use Rattle.qe_write_laws.proofs.Lists.{in_find, firsts}
use Rattle.qe_write_laws.proofs.Columns.{with_columns_fit, hands_on, counts_right, lets_go, is_of_parent}
use Rattle.qe_write_laws.proofs.Results.{bind_ok}

-- ---- rows that are there

by_id_there : (schema : Schema) (table : ℕ) (state : WriteState) (id : Option Values) → IfSome (option_and_then (λ id. row_with_id schema table id state) id) (λ row. In row (state.tables.rows table))
by_id_there schema table state None = tt
by_id_there schema table state (Some id) = in_find _ (state.tables.rows table)

row_of_there : (schema : Schema) (table : ℕ) (state : WriteState) (one : Option Followed) → IfSome (row_of schema table state one) (λ row. In row (state.tables.rows table))
row_of_there schema table state None = tt
row_of_there schema table state (Some one) = by_id_there schema table state one.id

-- the row that is followed at a place
pub followed_there : (schema : Schema) (table place : ℕ) (state : WriteState) → IfSome (row_followed schema table place state) (λ row. In row (state.tables.rows table))
followed_there schema table place state = row_of_there schema table state (slice_get state.followed place)

pub or_absent_ok : (P : Row → Type 0) (table : ℕ) (row : Option Row) → IfSome row P → IfOk (or_absent table row) P
or_absent_ok P table None is = tt
or_absent_ok P table (Some row) is = is

pub present_there : (schema : Schema) (table place : ℕ) (state : WriteState) → IfOk (present schema table place state) (λ row. In row (state.tables.rows table))
present_there schema table place state = or_absent_ok (λ row. In row (state.tables.rows table)) table (row_followed schema table place state) (followed_there schema table place state)

-- values that are given for a row of a table, for all of these columns
pub record GivenFit (schema : Schema) (table : ℕ) (columns : List ℕ) (given : List (ℕ × Value)) : Type 0 where
  pub fit : list_all (value_fits schema table) given ≡ true
  pub enough : (column : ℕ) → is_one_of columns column ≡ true → is_one_of (map (λ one. one.0) given) column ≡ true

pub nothing_given : (schema : Schema) (table : ℕ) (columns : List ℕ) → columns ≡ [] → GivenFit schema table columns []
nothing_given schema table columns none = record { fit = refl; enough = λ column is. sym (ap (λ all. is_one_of all column) none) ∙ is }

-- ---- the changes

module _ (schema : Schema) (Fact : Tables → Type 0) where
  abbrev pub Holds : WriteState → Type 0
  Holds state = Fact state.tables

  pub then_keeps : (r : Result WriteState Rule) (f : WriteState → Result WriteState Rule) → StillHolds Fact r → ((state : WriteState) → Holds state → StillHolds Fact (f state)) → StillHolds Fact (r >>= f)
  then_keeps r f = bind_ok r f Holds Holds

  -- a step with each row that is there
  abbrev pub RowStep : ℕ → (Row → WriteState → Result WriteState Rule) → Type 0
  RowStep table step = (row : Row) (state : WriteState) → Holds state → In row (state.tables.rows table) → StillHolds Fact (step row state)

  -- what a way keeps, of rows of its field's table
  pub record WayKeeps (way : Way) (table field : ℕ) : Type 0 where
    pub leads : led_to_by schema (field_at schema table field) ≡ Some way.other
    pub attach : (own place : ℕ) (state : WriteState) → Holds state → StillHolds Fact (way.attach own place state)
    pub make_room : (stays : Row → Bool) (own : ℕ) (state : WriteState) → Holds state → StillHolds Fact (way.make_room stays own state)
    pub detach : (own : ℕ) → RowStep way.other (way.detach own)
    pub given : (parent : Row) → row_fits schema table parent ≡ true → GivenFit schema way.other (handed_columns schema (field_at schema table field)) (way.given parent)
    pub settle : (own place : ℕ) (state : WriteState) → Holds state → StillHolds Fact (way.settle own place state)

  on_row_keeps : (table : ℕ) (step : Row → WriteState → Result WriteState Rule) → RowStep table step → (row : Option Row) (state : WriteState) → Holds state → IfSome row (λ row. In row (state.tables.rows table)) → StillHolds Fact (on_row step row state)
  on_row_keeps table step each None state holds there = holds
  on_row_keeps table step each (Some row) state holds there = each row state holds there

  each_followed_keeps : (table : ℕ) (step : Row → WriteState → Result WriteState Rule) → RowStep table step → (rows : List Row) (place : ℕ) (state : WriteState) → Holds state → StillHolds Fact (each_followed schema table step rows place state)
  each_followed_keeps table step each [] place state holds = holds
  each_followed_keeps table step each (row ∷ rows) place state holds =
      then_keeps (on_row step (row_followed schema table place state) state) _ (on_row_keeps table step each (row_followed schema table place state) state holds (followed_there schema table place state)) (each_followed_keeps table step each rows (place + 1))

  pub each_row_keeps : (table : ℕ) (step : Row → WriteState → Result WriteState Rule) → RowStep table step → (rows : List Row) (state : WriteState) → Holds state → StillHolds Fact (each_row schema table step rows state)
  each_row_keeps table step each rows state holds =
      then_keeps (each_followed schema table step rows (length state.followed) (follow_all schema table rows state)) _ (each_followed_keeps table step each rows (length state.followed) (follow_all schema table rows state) holds) (λ after holds. holds)

  module _ (sound : IsSound schema) (keeps : Keeps schema Fact) where
    pub fits_there : (table : ℕ) (state : WriteState) (row : Row) → Holds state → In row (state.tables.rows table) → row_fits schema table row ≡ true
    fits_there table state row holds there = passes (row_fits schema table) (state.tables.rows table) row (keeps.rows state.tables holds table) there

    -- ---- references

    pub refer_keeps : (number : ℕ) (values : Values) (child : Row) (state : WriteState) → Holds state → In child (state.tables.rows (relation_at schema number).child.0) → list_all (value_fits schema (relation_at schema number).child.0) (zip (relation_at schema number).child_columns values) ≡ true
        → StillHolds Fact (refer schema (relation_at schema number) values child state)
    refer_keeps number values child state holds there fit =
        let relation : Relation = relation_at schema number in
        keeps.change relation.child.0 (id_of (table_at schema relation.child.0) child) _ state (with_columns_fit schema relation.child.0 relation.child_columns values child (fits_there relation.child.0 state child holds there) fit) holds

    let_go_keeps : (number : ℕ) → RowStep (relation_at schema number).child.0 (let_go schema number)
    let_go_keeps number child state holds there = by_optional (relation_at schema number).optional refl
      where
        by_optional : (b : Bool) → (relation_at schema number).optional ≡ b → StillHolds Fact (if b then refer schema (relation_at schema number) (nulls (relation_at schema number).child_columns) child state else Err (rule.Required (relation_id number)))
        by_optional true is = refer_keeps number (nulls (relation_at schema number).child_columns) child state holds there (lets_go schema sound number is)
        by_optional false is = tt

    make_room_keeps : (number : ℕ) (stays : Row → Bool) (own : ℕ) (state : WriteState) → Holds state → StillHolds Fact (make_room_for_child schema number stays own state)
    make_room_keeps number stays own state holds = by_many (relation_at schema number).many
      where
        by_many : (b : Bool) → StillHolds Fact (if b then Ok state else (present schema (relation_at schema number).parent.0 own state >>= λ parent. each_row schema (relation_at schema number).child.0 (let_go schema number) (filter (λ child. not (stays child)) (children_of (relation_at schema number) parent state)) state))
        by_many true = holds
        by_many false =
            bind_ok (present schema (relation_at schema number).parent.0 own state) _ (λ parent. In parent (state.tables.rows (relation_at schema number).parent.0)) Holds (present_there schema (relation_at schema number).parent.0 own state)
            (λ parent there. each_row_keeps (relation_at schema number).child.0 (let_go schema number) (let_go_keeps number) (filter (λ child. not (stays child)) (children_of (relation_at schema number) parent state)) state holds)

    attach_child_keeps : (number own place : ℕ) (state : WriteState) → Holds state → StillHolds Fact (attach_child schema number own place state)
    attach_child_keeps number own place state holds =
        let relation : Relation = relation_at schema number in
        bind_ok (present schema relation.parent.0 own state) _ (λ parent. In parent (state.tables.rows relation.parent.0)) Holds (present_there schema relation.parent.0 own state) (λ parent there.
        bind_ok (present schema relation.child.0 place state) _ (λ child. In child (state.tables.rows relation.child.0)) Holds (present_there schema relation.child.0 place state) (λ child there.
        then_keeps (make_room_for_child schema number (is_row schema relation.child.0 child) own state) _ (make_room_keeps number (is_row schema relation.child.0 child) own state holds) (λ after holds.
        bind_ok (present schema relation.parent.0 own after) _ (λ parent. In parent (after.tables.rows relation.parent.0)) Holds (present_there schema relation.parent.0 own after) (λ parent its.
        bind_ok (present schema relation.child.0 place after) _ (λ child. In child (after.tables.rows relation.child.0)) Holds (present_there schema relation.child.0 place after) (λ child there.
        refer_keeps number (at_columns relation.parent_columns parent) child after holds there (hands_on schema sound number parent (fits_there relation.parent.0 after parent holds its)))))))

    children_given : (number : ℕ) (parent : Row) → row_fits schema (relation_at schema number).parent.0 parent ≡ true → (columns : List ℕ) → columns ≡ (relation_at schema number).child_columns
        → GivenFit schema (relation_at schema number).child.0 columns (zip (relation_at schema number).child_columns (at_columns (relation_at schema number).parent_columns parent))
    children_given number parent fits columns same = record {
      fit = hands_on schema sound number parent fits;
      enough = λ column is. ap (λ all. is_one_of all column) (firsts (relation_at schema number).child_columns (at_columns (relation_at schema number).parent_columns parent) (counts_right schema sound number parent) ∙ sym same) ∙ is;
    }

    found_relation : (o : Option Relation) → is_some (option_map (λ (relation : Relation). relation.child.0) o) ≡ true → option_map (λ (relation : Relation). relation.child.0) o ≡ Some (unwrap_or o no_relation).child.0
    found_relation None is = absurd (true≢false (sym is))
    found_relation (Some relation) is = refl

    pub children_way : (relation : RelId) (table field : ℕ) → field_at schema table field ≡ Some (Target relation) → is_some (led_to_by schema (field_at schema table field)) ≡ true → WayKeeps (to_children schema relation.0) table field
    children_way relation table field at led = record {
      leads = ap (led_to_by schema) at ∙ found_relation (slice_get schema.relations relation.0) (ap (λ o. is_some (led_to_by schema o)) (sym at) ∙ led);
      attach = attach_child_keeps relation.0;
      make_room = make_room_keeps relation.0;
      detach = λ own. let_go_keeps relation.0;
      given = λ parent fits. children_given relation.0 parent (ap (λ t. row_fits schema t parent) (is_of_parent schema sound table field relation at) ∙ fits) (handed_columns schema (field_at schema table field)) (ap (handed_columns schema) at);
      settle = λ own place state holds. holds;
    }

    -- ---- links

    link_a_keeps : (link own place : ℕ) → is_some (link_of link schema.links) ≡ true → (state : WriteState) → Holds state → StillHolds Fact (link_rows schema link true own place state)
    link_a_keeps link own place is state holds =
        bind_ok (present schema (link_at schema link).a.0 own state) _ (λ row. In row (state.tables.rows (link_at schema link).a.0)) Holds (present_there schema (link_at schema link).a.0 own state) (λ row its.
        bind_ok (present schema (link_at schema link).b.0 place state) _ (λ other. In other (state.tables.rows (link_at schema link).b.0)) Holds (present_there schema (link_at schema link).b.0 place state) (λ other there.
        keeps.link link row other state.tables is its there holds))

    link_b_keeps : (link own place : ℕ) → is_some (link_of link schema.links) ≡ true → (state : WriteState) → Holds state → StillHolds Fact (link_rows schema link false own place state)
    link_b_keeps link own place is state holds =
        bind_ok (present schema (link_at schema link).b.0 own state) _ (λ row. In row (state.tables.rows (link_at schema link).b.0)) Holds (present_there schema (link_at schema link).b.0 own state) (λ row its.
        bind_ok (present schema (link_at schema link).a.0 place state) _ (λ other. In other (state.tables.rows (link_at schema link).a.0)) Holds (present_there schema (link_at schema link).a.0 place state) (λ other there.
        keeps.link link other row state.tables is there its holds))

    unlink_keeps : (link : ℕ) (is_a : Bool) (own : ℕ) → RowStep (other_side is_a (link_at schema link)) (unlink_row schema link is_a own)
    unlink_keeps link is_a own other state holds there =
        bind_ok (present schema (own_side is_a (link_at schema link)) own state) _ (λ row. In row (state.tables.rows (own_side is_a (link_at schema link)))) Holds (present_there schema (own_side is_a (link_at schema link)) own state) (λ row its.
        keeps.unlink link _ state.tables holds)

    found_link : (f : Link → ℕ) (o : Option Link) → is_some (option_map f o) ≡ true → option_map f o ≡ Some (f (unwrap_or o no_link))
    found_link f None is = absurd (true≢false (sym is))
    found_link f (Some link) is = refl

    link_there : (f : Link → ℕ) (o : Option Link) → is_some (option_map f o) ≡ true → is_some o ≡ true
    link_there f None is = is
    link_there f (Some link) is = refl

    pub linked_way_a : (link : TableId) (table field : ℕ) → field_at schema table field ≡ Some (SideA link) → is_some (led_to_by schema (field_at schema table field)) ≡ true → WayKeeps (to_linked schema link.0 true) table field
    linked_way_a link table field at led =
        let is : is_some (option_map (λ (found : Link). found.b.0) (link_of link.0 schema.links)) ≡ true = ap (λ o. is_some (led_to_by schema o)) (sym at) ∙ led in
        let there = link_there (λ found. found.b.0) (link_of link.0 schema.links) is in
        record {
          leads = ap (led_to_by schema) at ∙ found_link (λ found. found.b.0) (link_of link.0 schema.links) is;
          attach = λ own place. link_a_keeps link.0 own place there;
          make_room = λ stays own state holds. holds;
          detach = unlink_keeps link.0 true;
          given = λ parent fits. nothing_given schema _ (handed_columns schema (field_at schema table field)) (ap (handed_columns schema) at);
          settle = λ own place. link_a_keeps link.0 own place there;
        }

    pub linked_way_b : (link : TableId) (table field : ℕ) → field_at schema table field ≡ Some (SideB link) → is_some (led_to_by schema (field_at schema table field)) ≡ true → WayKeeps (to_linked schema link.0 false) table field
    linked_way_b link table field at led =
        let is : is_some (option_map (λ (found : Link). found.a.0) (link_of link.0 schema.links)) ≡ true = ap (λ o. is_some (led_to_by schema o)) (sym at) ∙ led in
        let there = link_there (λ found. found.a.0) (link_of link.0 schema.links) is in
        record {
          leads = ap (led_to_by schema) at ∙ found_link (λ found. found.a.0) (link_of link.0 schema.links) is;
          attach = λ own place. link_b_keeps link.0 own place there;
          make_room = λ stays own state holds. holds;
          detach = unlink_keeps link.0 false;
          given = λ parent fits. nothing_given schema _ (handed_columns schema (field_at schema table field)) (ap (handed_columns schema) at);
          settle = λ own place. link_b_keeps link.0 own place there;
        }
