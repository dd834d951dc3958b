-- A source and a sink as one thing outside.
use Rattle.std.specs.Prelude.{false, None}
use Rattle.qe_base.specs.Outside.{Seen}
use Rattle.qe_base.specs.Schemas.{Schema}
use Rattle.qe_node.specs.Run.{RunsFromAny}
use Rattle.qe_node.specs.declared.LinesEnd.{LinesEnd}
use Rattle.qe_view.specs.Attached.{Connected}

-- what comes in of the one and goes out of the other, without the order of the two, and no files
abbrev pub joined_seen : Seen → Seen → Seen
joined_seen input output = record {
  left = input.left;
  taken = output.taken;
  files = None;
  turns = None;
  asked = None;
  reads = input.reads;
  writes = output.writes;
  fetches = record { count = 0; may_fail = false };
}

-- a run over the two of them, by what is seen of each before and after
abbrev pub RunsOverBoth : LinesEnd → Schema → Seen → Seen → Seen → Seen → Connected → Connected → Type 0
RunsOverBoth end schema input output read written given below = RunsFromAny end schema (joined_seen input output) (joined_seen read written) given below
