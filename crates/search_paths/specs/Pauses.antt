-- What a machine meets, without the pauses.
use Rattle.ordered_search.specs.Moves.{Moves, stops, pause, stepped, noted, found}

unfoldable pub strip : Moves → Moves
strip (stops e) = stops e
strip (pause x) = strip x
strip (stepped x) = stepped (strip x)
strip (noted n x) = noted n (strip x)
strip (found how s x) = found how s (strip x)
