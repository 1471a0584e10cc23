-- How scans end, in the code's terms.
use Rattle.std.specs.Prelude.{}
use Rattle.pcre_io.specs.declared.traits.IoError.{IoError}
use Rattle.pcre_io.specs.declared.traits.IoError.TheVariants as io
use Rattle.line_feed.specs.Rows.{At, Long, End, Fault, Limit}
use Rattle.grep_output.specs.declared.ended.Ended.{Ended}
use Rattle.grep_output.specs.declared.ended.Ended.TheVariants as told
use Rattle.grep_output.specs.declared.ended.Stop.{Stop}
use Rattle.grep_output.specs.declared.ended.Stop.TheVariants.{SinkFault, Memory}
use Rattle.grep_output.specs.Scans as meant
use Rattle.grep_output.specs.Scans.{at_finish, early}

abbrev pub ended_of : Ended → meant.Ended
ended_of told.End = at_finish (At End)
ended_of told.Early = early
ended_of told.ReadFault = at_finish (At Fault)
ended_of (told.TooLong line) = at_finish (Long line)
ended_of told.TooMuch = at_finish (At Limit)

abbrev pub stop_of : IoError → Stop
stop_of io.Failed = SinkFault
stop_of io.Memory = Memory
