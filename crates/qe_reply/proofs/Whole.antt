-- The JSON of answers and errors, and that there is no float in it.
use Rattle.std.proofs.Common.{◌≡◌, ℕ, ℤ, pos, negsuc, List, [], ◌∷◌, map, Bool, false, ◌||◌, Option, Some, None, IfSome, slice_get, refl, sym, ap, ◌∙◌, subst, rules, Ordering, Less, Equal, Greater, nat_cmp}
use Rattle.std.specs.Cmp.Lexicographic.{slice_cmp}
use Rattle.std.specs.Ordering.{match_ordering}
use Rattle.serde_json.specs.Data.{Data, Members, no_members, member, put}
use Rattle.serde_json.specs.Find.{is_float, of_integer}
use Rattle.serde_json.specs.View.{items_of}
use Rattle.serde_json.specs.Written.{has_float, members_have_float, items_have_float}
use Rattle.qe_base.specs.declared.value.Value.{Value}
use Rattle.qe_base.specs.declared.value.Value.TheVariants as value
use Rattle.qe_base.specs.declared.schema.Column.{Column}
use Rattle.qe_base.specs.declared.schema.Table.{Table}
use Rattle.qe_base.specs.Schemas.{Schema}
use Rattle.qe_base.specs.declared.answer.Answer.{Answer, Object, the_lemmas, Answer-F, roll-Answer, map-Answer, ind-Answer, fold-roll-Answer}
use Rattle.qe_base.specs.declared.answer.Answer.TheOpen as answer
use Rattle.qe_base.specs.declared.answer.OpFault.{OpFault}
use Rattle.qe_base.specs.declared.answer.OpFault.TheVariants as fault
use Rattle.qe_base.specs.declared.answer.Rule.{Rule}
use Rattle.qe_base.specs.declared.answer.Rule.TheVariants as rule
use Rattle.qe_base.specs.declared.event.Reply.{Reply}
use Rattle.qe_base.specs.declared.event.Reply.TheVariants as reply
use Rattle.qe_schema.specs.Tables.{table_at}
use Rattle.qe_reading.specs.Page.{columns_of}
use Rattle.qe_forms.specs.Reply.{scalar_data, answer_step, answer_data, object_of, put_all, indexed_data, column_name, names_data, rule_data, fault_data, told_data, data_of}

pub answer_object : (members : List (List ℕ × Answer)) → answer_data (Object members) ≡ object_of (map (λ one. (one.0, answer_data one.1)) members)
answer_object members = search (rules, the_lemmas)

scalar_whole : (found : Value) → has_float (scalar_data found) ≡ false
scalar_whole value.Null = refl
scalar_whole (value.Text text) = refl
scalar_whole (value.Bool truth) = refl
scalar_whole (value.Int number) = search rules
scalar_whole (value.Moment moment) = refl
scalar_whole (value.Blob bytes) = refl
scalar_whole (value.Member chosen) = refl

-- the JSON of a member has no float
abbrev MemberWhole : List ℕ × Data → Type 0
MemberWhole one = has_float one.1 ≡ false

or_false : (a b : Bool) → a ≡ false → b ≡ false → (a || b) ≡ false
or_false a b h k = rw h k

left : (a b : Bool) → (a || b) ≡ false → a ≡ false
left false b h = refl
left _ b h = cc

right : (a b : Bool) → (a || b) ≡ false → b ≡ false
right false b h = h
right _ b h = cc

put_at : (o : Ordering) (k l : List ℕ) (d e : Data) (found : Members) → has_float d ≡ false → members_have_float (member l e found) ≡ false → members_have_float (put k d found) ≡ false
    → members_have_float (match_ordering o (member k d (member l e found)) (member l d found) (member l e (put k d found))) ≡ false
put_at Less k l d e found h rest later = or_false _ _ h rest
put_at Equal k l d e found h rest later = or_false _ _ h (right (has_float e) _ rest)
put_at Greater k l d e found h rest later = or_false _ _ (left (has_float e) _ rest) later

put_whole : (k : List ℕ) (d : Data) (found : Members) → has_float d ≡ false → members_have_float found ≡ false → members_have_float (put k d found) ≡ false
put_whole k d no_members h rest = or_false _ _ h refl
put_whole k d (member l e found) h rest = put_at (slice_cmp nat_cmp k l) k l d e found h rest (put_whole k d found h (right (has_float e) _ rest))

abbrev IsWhole : Answer → Type 0
IsWhole answer = has_float (answer_data answer) ≡ false

abbrev Known : Type 0
Known = (answer : Answer) × IsWhole answer

abbrev bare : Answer-F Known → Answer-F Answer
bare = map-Answer Known Answer (λ one. one.0)

members_whole : (members : List (List ℕ × Known)) (found : Members) → members_have_float found ≡ false
    → members_have_float (put_all (map (λ (one : List ℕ × Answer). (one.0, answer_data one.1)) (map (λ (one : List ℕ × Known). (one.0, one.1.0)) members)) found) ≡ false
members_whole [] found h = h
members_whole (one ∷ rest) found h = members_whole rest _ (put_whole one.0 (answer_data one.1.0) found one.1.1 h)

items_whole : (items : List Known) → items_have_float (items_of (map answer_data (map (λ (one : Known). one.0) items))) ≡ false
items_whole [] = refl
items_whole (one ∷ rest) = or_false _ _ one.1 (items_whole rest)

layer_whole : (y : Answer-F Known) → has_float (answer_step (map-Answer Answer Data answer_data (bare y))) ≡ false
layer_whole answer.Null = refl
layer_whole (answer.Scalar kind found) = scalar_whole found
layer_whole (answer.Number count) = refl
layer_whole (answer.Object members) = members_whole members no_members refl
layer_whole (answer.List items) = items_whole items

pub answer_whole : (answer : Answer) → IsWhole answer
answer_whole = ind-Answer IsWhole (λ x y is. subst (λ z. IsWhole (roll-Answer z)) is (ap has_float (fold-roll-Answer Data answer_step (bare y)) ∙ layer_whole y))

indexed_whole : (index : Option ℕ) (cause code : List ℕ) (meta : Members) → members_have_float meta ≡ false → has_float (indexed_data index cause code meta) ≡ false
indexed_whole None cause code meta h = rw h
indexed_whole (Some index) cause code meta h = rw h

column_whole : (column : Option Column) → has_float (column_name column) ≡ false
column_whole None = refl
column_whole (Some column) = refl

names_whole : (table : Table) (columns : List ℕ) → has_float (names_data table columns) ≡ false
names_whole table [] = refl
names_whole table (column ∷ columns) = or_false _ _ (column_whole (slice_get table.columns column)) (names_whole table columns)

rule_whole : (schema : Schema) (index : Option ℕ) (broken : Rule) → has_float (rule_data schema index broken) ≡ false
rule_whole schema index (rule.Unique table key) = indexed_whole index _ _ _ (or_false _ _ (names_whole (table_at schema table.0) (columns_of (slice_get (table_at schema table.0).keys key))) refl)
rule_whole schema index (rule.Required relation) = refl
rule_whole schema index (rule.Unconnected table field) = refl
rule_whole schema index (rule.Range table column why) = refl
rule_whole schema index (rule.Dangling table field) = refl
rule_whole schema index (rule.Absent table) = indexed_whole index _ _ _ refl

fault_whole : (schema : Schema) (index : Option ℕ) (broken : OpFault) → has_float (fault_data schema index broken) ≡ false
fault_whole schema index (fault.Rule broken) = rule_whole schema index broken
fault_whole schema index (fault.Connector before after) = indexed_whole index _ _ _ refl
fault_whole schema index (fault.Misfit table column) = indexed_whole index _ _ _ refl
fault_whole schema index fault.Memory = refl

answers_whole : (answers : List Answer) → items_have_float (items_of (map data_of answers)) ≡ false
answers_whole [] = refl
answers_whole (one ∷ rest) = or_false _ _ (or_false _ _ (answer_whole one) refl) (answers_whole rest)

number_whole : (z : ℤ) → is_float (of_integer z) ≡ false
number_whole (pos n) = refl
number_whole (negsuc n) = refl

whole : (schema : Schema) (found : Reply) → IfSome (told_data schema found) (λ json. has_float json ≡ false)
whole schema reply.Hello = tt
whole schema (reply.Answer found) = or_false _ _ (answer_whole found) refl
whole schema (reply.Answers found) = or_false _ _ (answers_whole found) refl
whole schema (reply.Started session) = refl
whole schema (reply.Committed session) = refl
whole schema (reply.RolledBack session) = refl
whole schema (reply.Refused index broken) = fault_whole schema index broken
whole schema (reply.Unknown asked next) = refl
whole schema (reply.Closed asked next) = refl
whole schema (reply.Expired deadline moment) = rw (number_whole deadline, number_whole moment)
whole schema reply.Full = refl
whole schema (reply.Conflict table start now) = refl
whole schema (reply.Unseen asked place) = refl
whole schema reply.Memory = tt

-- the JSON that is made of a reply has no float
pub reply_whole : (schema : Schema) (found : Reply) (json : Data) → Some json ≡ told_data schema found → has_float json ≡ false
reply_whole schema found json is = subst (λ (told : Option Data). IfSome told (λ json. has_float json ≡ false)) (sym is) (whole schema found)
