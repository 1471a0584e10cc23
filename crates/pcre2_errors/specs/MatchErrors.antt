-- The numbers and the texts of match errors (pcre2api, "Error return values from pcre2_match()"): error → number, text.
use Rattle.std.specs.Prelude.{ℕ, List, codes, ℤ, pos, neg_ℤ}
use Rattle.pcre2_errors.specs.declared.error.MatchError.{MatchError}
use Rattle.pcre2_errors.specs.declared.error.MatchError.TheVariants as told

abbrev pub minus : ℕ → ℤ
minus n = neg_ℤ (pos n)

abbrev pub number_of : MatchError → ℤ
number_of (told.NoMatch mark) = minus 1
number_of (told.Partial start end mark) = minus 2
number_of (told.BadUtf at) = minus 3
number_of told.BadOffset = minus 33
number_of told.BadUtfOffset = minus 36
number_of (told.Callout n) = minus 37
number_of told.MatchLimit = minus 47
number_of told.Memory = minus 48
number_of told.RecurseLoop = minus 52
number_of told.FrameLimit = minus 63

-- the place of a fault of UTF-8 stands after its text
abbrev pub text_of : MatchError → List ℕ
text_of (told.NoMatch mark) = codes "no match"
text_of (told.Partial start end mark) = codes "partial match"
text_of (told.BadUtf at) = codes "invalid UTF-8 at offset "
text_of told.BadOffset = codes "bad offset"
text_of told.BadUtfOffset = codes "offset is not at a character"
text_of (told.Callout n) = codes "error in callout"
text_of told.MatchLimit = codes "match limit exceeded"
text_of told.Memory = codes "no memory"
text_of told.RecurseLoop = codes "recursion at the same place"
text_of told.FrameLimit = codes "frame limit exceeded"
