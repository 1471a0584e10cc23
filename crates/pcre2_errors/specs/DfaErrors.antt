-- The numbers and the texts of errors of a match by all ends (pcre2api, "Error returns from
-- pcre2_dfa_match()"): error → number, text; refusal of a graph → error.
use Rattle.std.specs.Prelude.{ℕ, List, codes, ℤ}
use Rattle.dfa_graph.specs.declared.making.GraphError.{GraphError}
use Rattle.dfa_graph.specs.declared.making.GraphError.TheVariants as graph
use Rattle.pcre2_errors.specs.MatchErrors.{minus}
use Rattle.pcre2_errors.specs.declared.dfa_error.DfaError.{DfaError}
use Rattle.pcre2_errors.specs.declared.dfa_error.DfaError.TheVariants as told

abbrev pub number_of : DfaError → ℤ
number_of told.NoMatch = minus 1
number_of (told.Partial start end) = minus 2
number_of (told.BadUtf at) = minus 3
number_of told.BadOffset = minus 33
number_of told.BadUtfOffset = minus 36
number_of told.Cond = minus 40
number_of told.Item = minus 42
number_of told.TooLarge = minus 43
number_of told.Memory = minus 48

-- the place of a fault of UTF-8 stands after its text
abbrev pub text_of : DfaError → List ℕ
text_of told.NoMatch = codes "no match"
text_of (told.Partial start end) = codes "partial match"
text_of (told.BadUtf at) = codes "invalid UTF-8 at offset "
text_of told.BadOffset = codes "bad offset"
text_of told.BadUtfOffset = codes "offset is not at a character"
text_of told.Cond = codes "condition not supported by the DFA matcher"
text_of told.Item = codes "item not supported by the DFA matcher"
text_of told.TooLarge = codes "pattern too large for the DFA matcher"
text_of told.Memory = codes "no memory"

abbrev pub error_of : GraphError → DfaError
error_of graph.Item = told.Item
error_of graph.Cond = told.Cond
error_of graph.TooLarge = told.TooLarge
error_of graph.Memory = told.Memory
