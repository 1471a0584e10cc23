-- The alternatives of a group, and the lookarounds that are tested in it.
use Rattle.std.proofs.Common.{◌≡◌, ℕ, ◌+◌, ◌-◌, true, false, List, [], ◌∷◌}
use Rattle.std.proofs.Common.{◌++◌, length, length-append, append_assoc, append-nil, Option, Some}
use Rattle.std.proofs.Common.{None, Ok, refl, ap, ◌∙◌, arith, IsTrue}
use Rattle.pat_tree.specs.Nested.{Nested, Test, group, never, test_of}
use Rattle.pat_tree.specs.Nested as tree
use Rattle.pat_tree.specs.Rules.{is_test}
use Rattle.pat_grammar.specs.declared.alternatives.Bars.{Bars}
use Rattle.pat_grammar.specs.declared.alternatives.Bars.TheVariants.{Free, First, Second, Define}
use Rattle.pat_nodes.specs.declared.frames.Frame.{Frame}
use Rattle.pat_grammar.specs.declared.callouts.Lead.{Lead}
use Rattle.pat_grammar.specs.Leads.{lead_of}
use Rattle.pat_grammar.specs.State.{State, Reference}
use Rattle.pat_grammar.specs.Groups.{Form, grouped, atomically, looks, conditional, defines, asserted, asserting}
use Rattle.pat_grammar.specs.Groups.{Opening, is_tested, bars_in, barred}
use Rattle.pat_grammar.specs.Groups.{branched, tested_by, built, noted}
use Rattle.pat_grammar.specs.Parts.{alternative}
use Rattle.pat_build.specs.Stack.{Opened, ended}
use Rattle.pat_build.specs.Machine.{IsBarred, AreBarred, HaveTests, IsLead, TestsNone}
use Rattle.pat_nodes.specs.Nodes.{IsMany, CanHave, HasTest, form_of}
use Rattle.pat_grammar.proofs.Starting.{positive}
use Rattle.pat_nodes.proofs.Conditions.{has_push}

pub as_branch : (h b x : List ℕ) → (h ++ b) ++ x ≡ h ++ (((b ++ x) ++ []) ++ [])
as_branch h b x = simp (append_assoc, append-nil)

pub as_lead : (h b p : List ℕ) (id : ℕ) → (h ++ (b ++ p)) ++ id ∷ [] ≡ (h ++ b) ++ (p ++ id ∷ [])
as_lead h b p id = simp append_assoc

pub as_test : (h b : List ℕ) (id : ℕ) → (h ++ b) ++ id ∷ [] ≡ h ++ (((b ++ id ∷ []) ++ []) ++ [])
as_test h b id = simp (append_assoc, append-nil)

-- a group has ended
pub state_eq : (st : State) (rs : List Reference) {o o' : Opening} {d d' : ℕ} → o ≡ o' → d ≡ d' →
    record st {
      options = o.around;
      looking = o.looking;
      bars = o.bars;
      numbering = o.numbering;
      depth = d;
      references = rs ++ noted o.form o.at;
    }
    ≡ record st {
      options = o'.around;
      looking = o'.looking;
      bars = o'.bars;
      numbering = o'.numbering;
      depth = d';
      references = rs ++ noted o'.form o'.at;
    }
state_eq st rs {o} {o'} {d} {d'} p q =
    ap (λ (v : Opening). record st {
      options = v.around;
      looking = v.looking;
      bars = v.bars;
      numbering = v.numbering;
      depth = d;
      references = rs ++ noted v.form v.at;
    }) p
    ∙ ap (λ v. record st {
      options = o'.around;
      looking = o'.looking;
      bars = o'.bars;
      numbering = o'.numbering;
      depth = v;
      references = rs ++ noted o'.form o'.at;
    }) q

-- no condition is an item or a lookaround
pub branched_many : (test : Test) (branches : List Nested) → IsMany (branched test branches)
branched_many test [] = record { many = λ low high lazy. refl }
branched_many test (yes' ∷ []) = record { many = λ low high lazy. refl }
branched_many test (yes' ∷ no' ∷ others) = record { many = λ low high lazy. refl }

pub tested_many : (branches : List Nested) → IsMany (tested_by branches)
tested_many [] = branched_many never []
tested_many (t ∷ branches) = branched_many (test_of t) branches

-- a group begins with its first alternative
pub bars_first : (form : Form) → TestsNone form → IsBarred form 0 (bars_in form)
bars_first (grouped number) none = refl
bars_first atomically none = refl
bars_first (looks ahead positive once) none = refl
bars_first (conditional test) none = refl
bars_first defines none = (refl, refl)
bars_first (asserted ahead positive) none = absurd none
bars_first asserting none = absurd none

pub is_untested : (form : Form) → TestsNone form → is_tested form ≡ false
is_untested (asserted ahead positive) none = absurd none
is_untested asserting none = absurd none
is_untested _ none = refl

-- no lookaround was tested yet
pub untested : (form : Form) → TestsNone form → HasTest form []
untested (asserted ahead positive) none = absurd none
untested asserting none = absurd none
untested _ none = tt

pub tests_push : (os : List Opened) (ts : List Nested) (t : Nested) → HaveTests os ts → HaveTests os (ts ++ t ∷ [])
tests_push [] ts t h = tt
tests_push (o ∷ os) ts t h = (has_push o.how.form ts t h.0, h.1, h.2)

-- one lookaround that is tested for another
pub has_other : (form : Form) (ts : List Nested) (t u : Nested) → IsTrue (is_test u) → HasTest form (ts ++ t ∷ [])
    → HasTest form (ts ++ u ∷ [])
has_other asserting [] t u k h = k
has_other asserting (x ∷ ts) t u k h = h
has_other _ ts t u k h = tt

pub tests_other : (os : List Opened) (ts : List Nested) (t u : Nested) → IsTrue (is_test u)
    → HaveTests os (ts ++ t ∷ [])
    → HaveTests os (ts ++ u ∷ [])
tests_other [] ts t u k h = tt
tests_other (o ∷ os) ts t u k h = (has_other o.how.form ts t u k h.0, h.1, h.2)

-- a lookaround that is tested is a test, and so it is with its callout
pub test_made : (form : Form) (branches parts : List Nested) → is_tested form ≡ true → IsLead true parts
    → IsTrue (is_test (alternative (parts ++ built form branches ∷ [])))
test_made (asserted ahead positive) branches [] is h = refl
test_made (asserted ahead positive) branches (tree.callout c ∷ []) is h = refl
test_made (asserted ahead positive) branches _ is h = absurd h
test_made (grouped number) branches parts is h = absurd cc
test_made atomically branches parts is h = absurd cc
test_made (looks ahead positive once) branches parts is h = absurd cc
test_made (conditional test) branches parts is h = absurd cc
test_made defines branches parts is h = absurd cc
test_made asserting branches parts is h = absurd cc

pub lead_is : (lead : Option Lead) → IsLead true (lead_of lead)
lead_is None = tt
lead_is (Some l) = tt

pub free_after : (bars next : Bars) (at : ℕ) → barred bars at ≡ Ok next → bars ≡ Free → next ≡ Free
free_after Free next at found is = cc
free_after First next at found is = absurd cc
free_after Second next at found is = absurd cc
free_after Define next at found is = absurd cc

-- a further alternative begins
pub bars_more : (form : Form) (n : ℕ) (bars next : Bars) (at : ℕ) → barred bars at ≡ Ok next → IsBarred form n bars
    → IsBarred form (n + 1) next
bars_more (grouped number) n bars next at found is = free_after bars next at found is
bars_more atomically n bars next at found is = free_after bars next at found is
bars_more (looks ahead positive once) n bars next at found is = free_after bars next at found is
bars_more (asserted ahead positive) n bars next at found is = free_after bars next at found is
bars_more asserting n Free next at found is = absurd is
bars_more asserting n First Second at found is = omega (arith, is)
bars_more asserting n First Free at found is = absurd cc
bars_more asserting n First First at found is = absurd cc
bars_more asserting n First Define at found is = absurd cc
bars_more asserting n Second next at found is = absurd cc
bars_more asserting n Define next at found is = absurd is
bars_more (conditional test) n Free next at found is = absurd is
bars_more (conditional test) n First Second at found is = omega (arith, is)
bars_more (conditional test) n First Free at found is = absurd cc
bars_more (conditional test) n First First at found is = absurd cc
bars_more (conditional test) n First Define at found is = absurd cc
bars_more (conditional test) n Second next at found is = absurd cc
bars_more (conditional test) n Define next at found is = absurd is
bars_more defines n Free next at found is = absurd cc
bars_more defines n First next at found is = absurd cc
bars_more defines n Second next at found is = absurd cc
bars_more defines n Define next at found is = absurd cc

pub bars_push : (fs : List Frame) (branches : List ℕ) (id : ℕ) (bars next : Bars) (at : ℕ) → barred bars at ≡ Ok next
    → AreBarred fs (length branches) bars → AreBarred fs (length (branches ++ id ∷ [])) next
bars_push [] branches id bars next at found is = free_after bars next at found is
bars_push (f ∷ fs) branches id bars next at found is =
    let more : length (branches ++ id ∷ []) ≡ length branches + 1 = length-append branches (id ∷ []) in
    rw more (bars_more (form_of f.form) (length branches) bars next at found is.0, is.1)

-- a group ends after its last alternative
pub bars_last : (form : Form) (n : ℕ) (bars : Bars) → IsBarred form n bars → CanHave form (n + 1)
bars_last (grouped number) n bars is = tt
bars_last atomically n bars is = tt
bars_last (looks ahead positive once) n bars is = tt
bars_last (conditional test) n Free is = absurd is
bars_last (conditional test) n First is = (omega arith, omega (arith, is))
bars_last (conditional test) n Second is = (omega arith, omega (arith, is))
bars_last (conditional test) n Define is = absurd is
bars_last defines n bars is = omega (arith, is.0)
bars_last (asserted ahead positive) n bars is = tt
bars_last asserting n Free is = absurd is
bars_last asserting n First is = (omega (arith, is), omega (arith, is))
bars_last asserting n Second is = (omega (arith, is), omega (arith, is))
bars_last asserting n Define is = absurd is
