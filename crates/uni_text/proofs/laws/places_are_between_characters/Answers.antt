use Rattle.std.proofs.lemmas.Str.{IsUtf8-take, IsCharBoundary-from_take}
use Rattle.uni_text.proofs.laws.places_are_between_characters.Goals as goal

pub returns : goal.returns
returns c bytes at checked within = (IsUtf8-take bytes at checked, IsCharBoundary-from_take bytes at checked within)
