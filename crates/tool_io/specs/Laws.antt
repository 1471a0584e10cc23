-- What targets stand for over files that are told.
use Rattle.std.specs.Prelude.{◌≡◌, List, Some}
use Rattle.pcre_io.specs.Files.{Contents}
use Rattle.line_feed.specs.Rows.{Input}
use Rattle.tool_io.specs.declared.target.Target.{Target}
use Rattle.tool_io.specs.Asked.{Asked, StandFor, all_asked}

-- over files that are told each target stands for just one input, or for none
abbrev pub ToldStandForOne : Type 0
ToldStandForOne =
    (files : Contents) (standard : Input) (list : List Target) (given : List Asked)
    → StandFor (Some files) standard list given
    → given ≡ all_asked files standard list
