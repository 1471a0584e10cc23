-- What the nodes of a pattern hold, each apart from its children, as it is kept.
use Rattle.std.specs.Prelude.{◌≡◌, List}
use Rattle.std.specs.List.{list_any}
use Rattle.pat_tree.specs.declared.nodes.ClassSpec.{ClassSpec}
use Rattle.pat_tree.specs.Nested.{Nested}
use Rattle.pat_lengths.specs.Nodes.{node_names, is_lookbehind, looks_before, is_accept}
use Rattle.pat_check.specs.Support.{support_of_all}
use Rattle.pat_check.specs.declared.survey.Survey.{Survey}

pub record IsSurvey (classes : List ClassSpec) (nodes : List Nested) (survey : Survey) : Type 0 where
  pub names : survey.names_crlf ≡ list_any (node_names classes) nodes
  pub lookbehind : survey.has_lookbehind ≡ list_any is_lookbehind nodes
  pub before : survey.tests_before ≡ list_any looks_before nodes
  pub accept : survey.has_accept ≡ list_any is_accept nodes
  pub dfa : survey.dfa ≡ support_of_all nodes
