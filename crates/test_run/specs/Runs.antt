-- What running a script does: what the source told → the input that it stands for → its text → what
-- was written of it.
use Rattle.std.specs.Prelude.{◌≡◌, ◌≤◌, length, ⊤, Result, Ok, Err}
use Rattle.std.specs.Io.KnownBytes.{Keeps}
use Rattle.pcre_io.specs.Told.{Told, Kept, AppendsPrefix}
use Rattle.pcre_io.specs.Causes.{Rose, CountsRefusals}
use Rattle.pcre_io.specs.declared.traits.IoError.{IoError}
use Rattle.pcre_io.specs.declared.traits.IoError.TheVariants as io
use Rattle.line_feed.specs.Rows.{Input, At, Long, End, Fault, Limit}
use Rattle.line_feed.specs.Hears.{Hears}
use Rattle.line_feed.specs.declared.phase.FeedError.{FeedError}
use Rattle.line_feed.specs.declared.phase.FeedError.TheVariants as feed
use Rattle.tool_io.specs.Writes.{WritesAll}
use Rattle.test_script.specs.declared.entries.Entry.{Entry}
use Rattle.test_script.specs.declared.entries.Entry.TheVariants as entry
use Rattle.test_script.specs.declared.plan.TestPlan.{TestPlan}
use Rattle.test_script.specs.Subjects.{greatest_subject}
use Rattle.test_run.specs.declared.stop.ScriptStop.{ScriptStop}
use Rattle.test_run.specs.declared.stop.ScriptStop.TheVariants.{ReadFault, TooLong, TooMuch, SinkFault, Memory}
use Rattle.test_run.specs.TestText.{Tested, test_text}

abbrev pub stop_of : IoError → ScriptStop
stop_of io.Failed = SinkFault
stop_of io.Memory = Memory

abbrev pub stop_at : FeedError → ScriptStop
stop_at feed.ReadFault = ReadFault
stop_at (feed.TooLong line) = TooLong line
stop_at feed.TooMuch = TooMuch
stop_at feed.Memory = Memory

-- a subject of a script line isn't too long
abbrev pub IsShort : Entry → Type 0
IsShort (entry.Subject s) = length s.subject ≤ greatest_subject
IsShort _ = ⊤

-- What was gathered was sent on, and nothing is written. A fault was counted just where that failed.
pub record Sends (old new : Kept) (result : Result (Unit {0}) IoError) : Type 0 where
  pub kept : Keeps old.held new.held
  pub cause : CountsRefusals old.faults new.faults result

-- All of a script's text was written where its lines were read up to their end. Where a write
-- failed, which is counted, or memory lacked, a part of it was.
abbrev pub RunsTo : Tested → Kept → Kept → Result (Unit {0}) ScriptStop → Type 0
RunsTo t old new (Ok _) = WritesAll t.out old new × (t.finish ≡ At End)
RunsTo t old new (Err ReadFault) = WritesAll t.out old new × (t.finish ≡ At Fault)
RunsTo t old new (Err (TooLong line)) =
    WritesAll t.out old new × (t.finish ≡ Long line)
RunsTo t old new (Err TooMuch) = WritesAll t.out old new × (t.finish ≡ At Limit)
RunsTo t old new (Err SinkFault) =
    AppendsPrefix old.held new.held t.out × Rose old.faults new.faults
RunsTo t old new (Err Memory) =
    AppendsPrefix old.held new.held t.out × (new.faults ≡ old.faults)

-- what is written is the text of the input that the source stands for
pub record RunsScript (plan : TestPlan) (before after : Told) (old new : Kept)
    (result : Result (Unit {0}) ScriptStop) : Type 0 where
  pub heard : Input
  pub hears : Hears before after heard
  pub runs : RunsTo (test_text plan heard) old new result
