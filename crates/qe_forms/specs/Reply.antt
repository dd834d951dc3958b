-- The texts of replies: compact JSON, each object's members in the order of their names' bytes.
use Rattle.std.specs.Prelude.{ℕ, ℤ, List, [], ◌∷◌, Option, Some, None, option_map, unwrap_or, map, slice_get, codes}
use Rattle.serde_json.specs.Data.{Data, null, number, string, array, object, Members, no_members, member, put, unsigned}
use Rattle.serde_json.specs.Find.{of_integer}
use Rattle.serde_json.specs.View.{items_of}
use Rattle.serde_json.specs.Written.{compact_text}
use Rattle.qe_base.specs.declared.value.Value.{Value}
use Rattle.qe_base.specs.declared.value.Value.TheVariants as value
use Rattle.qe_base.specs.declared.schema.Column.{Column}
use Rattle.qe_base.specs.declared.schema.Table.{Table}
use Rattle.qe_base.specs.Schemas.{Schema}
use Rattle.qe_base.specs.declared.answer.Answer.{Answer, fold-Answer}
use Rattle.qe_base.specs.declared.answer.Answer.TheOpen.{Answer-F}
use Rattle.qe_base.specs.declared.answer.Answer.TheOpen as answer
use Rattle.qe_base.specs.declared.answer.Rule.{Rule}
use Rattle.qe_base.specs.declared.answer.Rule.TheVariants as rule
use Rattle.qe_base.specs.declared.answer.OpFault.{OpFault}
use Rattle.qe_base.specs.declared.answer.OpFault.TheVariants as fault
use Rattle.qe_schema.specs.Tables.{table_at}
use Rattle.qe_reading.specs.Page.{columns_of}
use Rattle.qe_base.specs.declared.event.Reply.{Reply}
use Rattle.qe_base.specs.declared.event.Reply.TheVariants as reply

-- no answer has a value of the other kinds yet, and null stands for it
abbrev pub scalar_data : Value → Data
scalar_data value.Null = null
scalar_data (value.Text text) = string text
scalar_data (value.Bool truth) = null
scalar_data (value.Int integer) = number (of_integer integer)
scalar_data (value.Moment moment) = null
scalar_data (value.Blob bytes) = null
scalar_data (value.Member chosen) = null

-- the members, each put at its place
abbrev pub put_all : List (List ℕ × Data) → Members → Members
put_all [] found = found
put_all (one ∷ rest) found = put_all rest (put one.0 one.1 found)

abbrev pub object_of : List (List ℕ × Data) → Data
object_of members = object (put_all members no_members)

-- one level of an answer, with what is inside already as JSON
abbrev pub answer_step : Answer-F Data → Data
answer_step answer.Null = null
answer_step (answer.Scalar kind found) = scalar_data found
answer_step (answer.Number count) = number (unsigned count)
answer_step (answer.Object members) = object_of members
answer_step (answer.List items) = array (items_of items)

abbrev pub answer_data : Answer → Data
answer_data = fold-Answer Data answer_step

-- an object of one member
abbrev pub single : List ℕ → Data → Data
single name json = object (member name json no_members)

-- an error: its cause, its code and what it is about
abbrev pub error_data : List ℕ → List ℕ → Members → Data
error_data cause code meta = single (codes "error") (object (member (codes "cause") (string cause) (member (codes "code") (string code) (member (codes "meta") (object meta) no_members))))

-- an error in the operation of that index, where one is given
abbrev pub indexed_data : Option ℕ → List ℕ → List ℕ → Members → Data
indexed_data None cause code meta = error_data cause code meta
indexed_data (Some index) cause code meta =
    single (codes "error") (object (member (codes "cause") (string cause) (member (codes "code") (string code) (member (codes "index") (number (unsigned index)) (member (codes "meta") (object meta) no_members)))))

abbrev pub column_name : Option Column → Data
column_name None = string []
column_name (Some column) = string column.name

-- the names of these columns
abbrev pub names_data : Table → List ℕ → Data
names_data table columns = array (items_of (map (λ column. column_name (slice_get table.columns column)) columns))

-- no operation breaks the other rules yet, and null stands for their error
abbrev pub rule_data : Schema → Option ℕ → Rule → Data
rule_data schema index (rule.Unique table key) =
    indexed_data index (codes "unique") (codes "P2002")
    (member (codes "model") (string (table_at schema table.0).name) (member (codes "target") (names_data (table_at schema table.0) (columns_of (slice_get (table_at schema table.0).keys key))) no_members))
rule_data schema index (rule.Required relation) = null
rule_data schema index (rule.Unconnected table field) = null
rule_data schema index (rule.Range table column why) = null
rule_data schema index (rule.Absent table) = indexed_data index (codes "absent") (codes "P2025") (member (codes "model") (string (table_at schema table.0).name) no_members)
rule_data schema index (rule.Dangling table field) = null

abbrev pub memory_data : Data
memory_data = error_data (codes "memory") (codes "E0") no_members

-- a fault of the connector, by the counts of its faults
abbrev pub connector_data : Option ℕ → ℕ → ℕ → Data
connector_data index before after = indexed_data index (codes "connector") (codes "E1") (member (codes "after") (number (unsigned after)) (member (codes "before") (number (unsigned before)) no_members))

abbrev pub stored_column : Option Column → List ℕ
stored_column None = []
stored_column (Some column) = column.stored

-- a kept row that doesn't fit, by the stored names of its column and its table
abbrev pub misfit_data : Option ℕ → Table → ℕ → Data
misfit_data index table column =
    indexed_data index (codes "misfit") (codes "P2023") (member (codes "column") (string (stored_column (slice_get table.columns column))) (member (codes "table") (string table.stored) no_members))

abbrev pub fault_data : Schema → Option ℕ → OpFault → Data
fault_data schema index (fault.Rule broken) = rule_data schema index broken
fault_data schema index (fault.Connector before after) = connector_data index before after
fault_data schema index (fault.Misfit table column) = misfit_data index (table_at schema table.0) column
fault_data schema index fault.Memory = memory_data

abbrev pub unseen_data : ℕ → ℕ → Data
unseen_data asked place = error_data (codes "unseen") (codes "E2") (member (codes "asked") (number (unsigned asked)) (member (codes "place") (number (unsigned place)) no_members))

-- an answer of an operation
abbrev pub data_of : Answer → Data
data_of found = single (codes "data") (answer_data found)

-- the answers of a batch
abbrev pub batch_data : List Answer → Data
batch_data found = single (codes "batchResult") (array (items_of (map data_of found)))

-- a transaction that isn't there, by its number and that of the next one
abbrev pub no_transaction_data : List ℕ → ℕ → ℕ → Data
no_transaction_data cause asked next = error_data cause (codes "P2028") (member (codes "asked") (number (unsigned asked)) (member (codes "next") (number (unsigned next)) no_members))

abbrev pub expired_data : ℤ → ℤ → Data
expired_data deadline moment =
    error_data (codes "expired") (codes "P2028") (member (codes "deadline") (number (of_integer deadline)) (member (codes "moment") (number (of_integer moment)) no_members))

-- how many transactions may be open
abbrev pub full_data : Data
full_data = error_data (codes "full") (codes "P2028") (member (codes "limit") (number (unsigned 64)) no_members)

abbrev pub conflict_data : Table → ℕ → ℕ → Data
conflict_data table start now =
    error_data (codes "conflict") (codes "P2034") (member (codes "now") (number (unsigned now)) (member (codes "start") (number (unsigned start)) (member (codes "table") (string table.name) no_members)))

-- the JSON of a reply; a greeting, and want of memory, for which a fixed text stands, have none
abbrev pub told_data : Schema → Reply → Option Data
told_data schema reply.Hello = None
told_data schema (reply.Answer found) = Some (data_of found)
told_data schema (reply.Answers found) = Some (batch_data found)
told_data schema (reply.Started session) = Some (single (codes "id") (number (unsigned session)))
told_data schema (reply.Committed session) = Some (single (codes "committed") (number (unsigned session)))
told_data schema (reply.RolledBack session) = Some (single (codes "rolledBack") (number (unsigned session)))
told_data schema (reply.Refused index broken) = Some (fault_data schema index broken)
told_data schema (reply.Unknown asked next) = Some (no_transaction_data (codes "unknown") asked next)
told_data schema (reply.Closed asked next) = Some (no_transaction_data (codes "closed") asked next)
told_data schema (reply.Expired deadline moment) = Some (expired_data deadline moment)
told_data schema reply.Full = Some full_data
told_data schema (reply.Conflict table start now) = Some (conflict_data (table_at schema table.0) start now)
told_data schema (reply.Unseen asked place) = Some (unseen_data asked place)
told_data schema reply.Memory = None

-- the text that is made of a reply
abbrev pub told_text : Schema → Reply → Option (List ℕ)
told_text schema found = option_map compact_text (told_data schema found)

abbrev pub memory_text : List ℕ
memory_text = compact_text memory_data

-- the text of a reply; a greeting has none
abbrev pub text_of : Schema → Reply → List ℕ
text_of schema reply.Memory = memory_text
text_of schema other = unwrap_or (told_text schema other) []

-- the texts of a line that isn't JSON, and of one that isn't carried out yet
abbrev pub not_json_text : List ℕ
not_json_text = compact_text (error_data (codes "json") (codes "E3") no_members)

abbrev pub unbuilt_text : List ℕ
unbuilt_text = compact_text (error_data (codes "unbuilt") (codes "E9") no_members)
