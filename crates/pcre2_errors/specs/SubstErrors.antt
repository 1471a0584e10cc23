-- The numbers and the texts of the refusals of substitutions (pcre2api, "Creating a new string with
-- substitutions"): refusal → number, text; refusal of a part of the work → refusal.
use Rattle.std.specs.Prelude.{ℕ, List, codes, ℤ}
use Rattle.subst_plan.specs.declared.faults.PlanError.{PlanError}
use Rattle.subst_plan.specs.declared.faults.PlanError.TheVariants as unread
use Rattle.subst_plan.specs.declared.faults.ExpandError.{ExpandError}
use Rattle.subst_plan.specs.declared.faults.ExpandError.TheVariants as unwritten
use Rattle.pcre2_errors.specs.MatchErrors.{minus}
use Rattle.pcre2_errors.specs.declared.subst_error.SubstError.{SubstError}
use Rattle.pcre2_errors.specs.declared.subst_error.SubstError.TheVariants as refusal

abbrev pub number_of : SubstError → ℤ
number_of (refusal.BadUtf at) = minus 3
number_of (refusal.ReplacementUtf at) = minus 3
number_of refusal.BadOffset = minus 33
number_of refusal.BadReplacement = minus 35
number_of refusal.BadUtfOffset = minus 36
number_of refusal.MatchLimit = minus 47
number_of refusal.Memory = minus 48
number_of refusal.NoGroup = minus 49
number_of refusal.RecurseLoop = minus 52
number_of refusal.Unset = minus 55
number_of refusal.BadEscape = minus 57
number_of refusal.MissingBrace = minus 58
number_of refusal.BadSyntax = minus 59
number_of refusal.FrameLimit = minus 63

-- the place of a fault of UTF-8 stands after its text
abbrev pub text_of : SubstError → List ℕ
text_of (refusal.BadUtf at) = codes "invalid UTF-8 at offset "
text_of (refusal.ReplacementUtf at) = codes "invalid UTF-8 at offset "
text_of refusal.BadOffset = codes "bad offset"
text_of refusal.BadReplacement = codes "bad replacement"
text_of refusal.BadUtfOffset = codes "offset is not at a character"
text_of refusal.MatchLimit = codes "match limit exceeded"
text_of refusal.Memory = codes "no memory"
text_of refusal.NoGroup = codes "no such group"
text_of refusal.RecurseLoop = codes "recursion at the same place"
text_of refusal.Unset = codes "group is unset"
text_of refusal.BadEscape = codes "bad escape in replacement"
text_of refusal.MissingBrace = codes "missing brace in replacement"
text_of refusal.BadSyntax = codes "bad substitution"
text_of refusal.FrameLimit = codes "frame limit exceeded"

-- Why matches aren't replaced, by the refusal of a part of the work.

abbrev pub plan_refusal : PlanError → SubstError
plan_refusal unread.BadReplacement = refusal.BadReplacement
plan_refusal unread.BadEscape = refusal.BadEscape
plan_refusal unread.MissingBrace = refusal.MissingBrace
plan_refusal unread.BadSyntax = refusal.BadSyntax
plan_refusal unread.Memory = refusal.Memory

abbrev pub expand_refusal : ExpandError → SubstError
expand_refusal unwritten.NoGroup = refusal.NoGroup
expand_refusal unwritten.Unset = refusal.Unset
expand_refusal unwritten.Memory = refusal.Memory
