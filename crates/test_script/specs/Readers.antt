-- A reader as contracts see it.
use Rattle.test_script.specs.declared.reader.Awaits.{Awaits as Kept}
use Rattle.test_script.specs.declared.reader.Awaits.TheVariants as kept
use Rattle.test_script.specs.Script.{Awaits, anything, closing, subject, skipped}

abbrev pub awaits_of : Kept → Awaits
awaits_of kept.Anything = anything
awaits_of (kept.Closing delimiter text) = closing delimiter text.items
awaits_of (kept.Subject utf) = subject utf
awaits_of kept.Skipped = skipped
