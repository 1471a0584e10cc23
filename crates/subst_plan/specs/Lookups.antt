-- Answers about a group as the code has them.
use Rattle.subst_plan.specs.declared.groups.Lookup.{Lookup}
use Rattle.subst_plan.specs.declared.groups.Lookup.TheVariants as kept
use Rattle.subst_plan.specs.Matched.{Found, text, unset, unknown}

abbrev pub seen : Lookup → Found
seen (kept.Text bytes) = text bytes.now
seen kept.Unset = unset
seen kept.Unknown = unknown
