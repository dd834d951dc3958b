-- How many members an object has.
use Rattle.std.specs.Prelude.{ℕ, Bool, false, ◌==◌, Option, Some, None}
use Rattle.serde_json.specs.Data.{Data, Members}
use Rattle.serde_json.specs.Events.{members_len}
use Rattle.serde_json.specs.Find.{as_object}

abbrev pub has_len : ℕ → Option Members → Bool
has_len count None = false
has_len count (Some members) = members_len members == count

-- an object of so many members
abbrev pub has_count : ℕ → Data → Bool
has_count count json = has_len count (as_object json)
