-- What the search for all ends at a place can do (pcre2matching, "The alternative matching algorithm"; pcre2api, "Error
-- returns from pcre2_dfa_match()").
use Rattle.std.specs.Prelude.{true, false, List, [], ◌∷◌}
use Rattle.pat_tree.specs.Nested.{Nested, Test, look, condition, call, ref, keep_out, verb, any_set, in_call_of}
use Rattle.pat_tree.specs.declared.nodes.Verb.{Verb}
use Rattle.pat_tree.specs.declared.nodes.Verb.TheVariants.{Fail}
use Rattle.pat_lengths.specs.Nodes.{all_nodes}
use Rattle.pat_check.specs.declared.support.DfaSupport.{DfaSupport}
use Rattle.pat_check.specs.declared.support.DfaSupport.TheVariants.{Yes, Item, Cond}

-- of the verbs only FAIL is supported
abbrev pub verb_support : Verb → DfaSupport
verb_support (Fail name) = Yes
verb_support _ = Item

-- a condition on a group or on a recursion of a group isn't
abbrev pub test_support : Test → DfaSupport
test_support (any_set ns) = Cond
test_support (in_call_of ns) = Cond
test_support _ = Yes

-- a node apart from its children
abbrev pub node_support : Nested → DfaSupport
node_support (ref ns caseless) = Item
node_support (call n) = Item
node_support keep_out = Item
node_support (verb v) = verb_support v
node_support (look ahead positive true ts) = Yes
node_support (look ahead positive false ts) = Item
node_support (condition test first second) = test_support test
node_support _ = Yes

-- the first that isn't supported decides
abbrev pub or_later : DfaSupport → DfaSupport → DfaSupport
or_later Yes later = later
or_later Item later = Item
or_later Cond later = Cond

abbrev pub support_of_all : List Nested → DfaSupport
support_of_all [] = Yes
support_of_all (t ∷ ts) = or_later (node_support t) (support_of_all ts)

abbrev pub dfa_support : Nested → DfaSupport
dfa_support t = support_of_all (all_nodes t)
