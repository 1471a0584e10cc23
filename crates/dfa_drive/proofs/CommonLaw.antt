-- The forms that both matchers have.
use Rattle.std.proofs.Common.{◌≡◌, ◌++◌, true, false, List, [], ◌∷◌, refl, ap, ◌∙◌}
use Rattle.std.specs.List.{All}
use Rattle.std.proofs.lemmas.List.Elements.{All-nil, All-cons, All-head, All-tail}
use Rattle.pat_tree.specs.declared.nodes.Verb.{Verb}
use Rattle.pat_tree.specs.declared.nodes.Verb.TheVariants.{Fail}
use Rattle.pat_tree.specs.Nested as tree
use Rattle.pat_tree.specs.Nested.{Nested, Row, Test, Other}
use Rattle.dfa_ends.specs.pat_check.Nodes.{nodes, nodes_in, nodes_of_test, nodes_of_other, all_nodes}
use Rattle.dfa_ends.specs.pat_check.Support.{verb_support, test_support, node_support, or_later, support_of_all}
use Rattle.dfa_ends.specs.pat_check.Support.{dfa_support}
use Rattle.dfa_ends.specs.pat_check.declared.support.DfaSupport.{DfaSupport}
use Rattle.dfa_ends.specs.pat_check.declared.support.DfaSupport.TheVariants.{Yes, Item, Cond}
use Rattle.dfa_ends.specs.TwoMatchers.{IsCommon, AreCommon, IsCommonTest, IsCommonOther, IsCommonVerb}
use Rattle.dfa_drive.specs.Common.{IsFree, CommonLaw}

no_item : Item ≡ Yes → ⊥
no_item e = cc

no_cond : Cond ≡ Yes → ⊥
no_cond e = cc

-- Each node is supported and of the kind.

abbrev IsGood : Nested → Type 0
IsGood t = (node_support t ≡ Yes) × IsFree t

abbrev Each : List Nested → Type 0
Each [] = Unit {0}
Each (t ∷ ts) = IsGood t × Each ts

each_append : (xs ys : List Nested) → Each xs → Each ys → Each (xs ++ ys)
each_append [] ys h k = k
each_append (x ∷ xs) ys h k = (h.0, each_append xs ys h.1 k)

each_parts : (xs ys : List Nested) → Each (xs ++ ys) → Each xs × Each ys
each_parts [] ys h = (tt, h)
each_parts (x ∷ xs) ys h = let r = each_parts xs ys h.1 in ((h.0, r.0), r.1)

both_yes : (a b : DfaSupport) → or_later a b ≡ Yes → (a ≡ Yes) × (b ≡ Yes)
both_yes Yes b e = (refl, e)
both_yes Item b e = absurd (no_item e)
both_yes Cond b e = absurd (no_cond e)

each_of : (ts : List Nested) → support_of_all ts ≡ Yes → All IsFree ts → Each ts
each_of [] e h = tt
each_of (t ∷ ts) e h =
    let r = both_yes (node_support t) (support_of_all ts) e in
    ((r.0, All-head IsFree t ts h), each_of ts r.1 (All-tail IsFree t ts h))

all_of : (ts : List Nested) → Each ts → (support_of_all ts ≡ Yes) × All IsFree ts
all_of [] h = (refl, All-nil IsFree)
all_of (t ∷ ts) h =
    let r = all_of ts h.1 in
    (ap (λ s. or_later s (support_of_all ts)) h.0.0 ∙ r.0, All-cons IsFree t ts h.0.1 r.1)

verb_yes : (v : Verb) → IsCommonVerb v → verb_support v ≡ Yes
verb_yes (Fail name) h = refl
verb_yes _ h = absurd h

test_yes : (test : Test) → IsCommonTest test → test_support test ≡ Yes
unfolding IsCommon
test_yes (tree.any_set ns) h = absurd h
test_yes (tree.in_call_of ns) h = absurd h
test_yes tree.in_call h = refl
test_yes tree.never h = refl
test_yes (tree.assert ahead positive once ts) h = refl
test_yes (tree.called c test) h = refl

mutual
  unfolding nodes IsCommon

  to_common : (t : Nested) → Each (nodes true t) → IsCommon t
  to_common tree.empty h = tt
  to_common (tree.one item) h = tt
  to_common tree.line_break h = tt
  to_common (tree.seq ts) h = to_common_in ts h.1
  to_common (tree.group number ts) h = to_common_in ts h.1
  to_common (tree.repeat body low high lazily) h = (to_common body h.1, h.0.1)
  to_common (tree.one_repeat item low high lazily) h = tt
  to_common (tree.atomic ts) h = absurd h.0.1
  to_common (tree.look ahead positive true ts) h = to_common_in ts h.1
  to_common (tree.look ahead positive false ts) h = absurd (no_item h.0.0)
  to_common (tree.condition test first second) h =
      let r = each_parts (nodes_of_test true test ++ nodes true first) (nodes_of_other true second) h.1 in
      let s = each_parts (nodes_of_test true test) (nodes true first) r.0 in
      (to_common_test test h.0.0 s.0, to_common first s.1, to_common_other second r.1)
  to_common (tree.call n) h = absurd h.0.1
  to_common (tree.ref ns caseless) h = absurd (no_item h.0.0)
  to_common (tree.anchor kind) h = tt
  to_common tree.keep_out h = absurd (no_item h.0.0)
  to_common (tree.verb v) h = h.0.1
  to_common (tree.callout c) h = absurd h.0.1

  to_common_in : (ts : Row) → Each (nodes_in true ts) → AreCommon ts
  to_common_in tree.none h = tt
  to_common_in (tree.more t ts) h =
      let r = each_parts (nodes true t) (nodes_in true ts) h in
      (to_common t r.0, to_common_in ts r.1)

  to_common_test : (test : Test) → test_support test ≡ Yes → Each (nodes_of_test true test) →
      IsCommonTest test
  to_common_test (tree.any_set ns) e h = absurd (no_cond e)
  to_common_test tree.in_call e h = tt
  to_common_test (tree.in_call_of ns) e h = absurd (no_cond e)
  to_common_test tree.never e h = tt
  to_common_test (tree.assert ahead positive true ts) e h = to_common_in ts h.1
  to_common_test (tree.assert ahead positive false ts) e h = absurd (no_item h.0.0)
  to_common_test (tree.called c test) e h = absurd h.1.0.1

  to_common_other : (other : Other) → Each (nodes_of_other true other) → IsCommonOther other
  to_common_other tree.no_other h = tt
  to_common_other (tree.other t) h = to_common t h

mutual
  unfolding nodes IsCommon

  from_common : (t : Nested) → IsCommon t → Each (nodes true t)
  from_common tree.empty h = ((refl, tt), tt)
  from_common (tree.one item) h = ((refl, tt), tt)
  from_common tree.line_break h = ((refl, tt), tt)
  from_common (tree.seq ts) h = ((refl, tt), from_common_in ts h)
  from_common (tree.group number ts) h = ((refl, tt), from_common_in ts h)
  from_common (tree.repeat body low high lazily) h = ((refl, h.1), from_common body h.0)
  from_common (tree.one_repeat item low high lazily) h = ((refl, tt), tt)
  from_common (tree.atomic ts) h = absurd h
  from_common (tree.look ahead positive true ts) h = ((refl, tt), from_common_in ts h)
  from_common (tree.look ahead positive false ts) h = absurd h
  from_common (tree.condition test first second) h = (
    (test_yes test h.0, tt),
    each_append (nodes_of_test true test ++ nodes true first) (nodes_of_other true second)
        (each_append (nodes_of_test true test) (nodes true first) (from_common_test test h.0)
        (from_common first h.1))
        (from_common_other second h.2),
  )
  from_common (tree.call n) h = absurd h
  from_common (tree.ref ns caseless) h = absurd h
  from_common (tree.anchor kind) h = ((refl, tt), tt)
  from_common tree.keep_out h = absurd h
  from_common (tree.verb v) h = ((verb_yes v h, h), tt)
  from_common (tree.callout c) h = absurd h

  from_common_in : (ts : Row) → AreCommon ts → Each (nodes_in true ts)
  from_common_in tree.none h = tt
  from_common_in (tree.more t ts) h =
      each_append (nodes true t) (nodes_in true ts) (from_common t h.0) (from_common_in ts h.1)

  from_common_test : (test : Test) → IsCommonTest test → Each (nodes_of_test true test)
  from_common_test (tree.any_set ns) h = absurd h
  from_common_test tree.in_call h = tt
  from_common_test (tree.in_call_of ns) h = absurd h
  from_common_test tree.never h = tt
  from_common_test (tree.assert ahead positive true ts) h = ((refl, tt), from_common_in ts h)
  from_common_test (tree.assert ahead positive false ts) h = absurd h
  from_common_test (tree.called c test) h = absurd h

  from_common_other : (other : Other) → IsCommonOther other → Each (nodes_of_other true other)
  from_common_other tree.no_other h = tt
  from_common_other (tree.other t) h = from_common t h

pub common_law : CommonLaw
common_law t = (
  λ h. all_of (all_nodes t) (from_common t h),
  λ yes free. to_common t (each_of (all_nodes t) yes free),
)
