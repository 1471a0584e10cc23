use Rattle.std.proofs.Common.{◌≡◌, ◌∙◌, ◌<◌, ◌∷◌, [], true, All, None, length, get_or, subst, sym}
use Rattle.std.proofs.lemmas.List.{get_or_default}
use Rattle.pat_tree.specs.Newlines.{end_kind, break_kind}
use Rattle.pat_tree.specs.Nested.{tree_at}
use Rattle.pat_tree.specs.Rules.{kids_of, number_in, asserted_by, tests_of, is_test}
use Rattle.char_sets.specs.Sets.{class_has}
use Rattle.pat_lengths.proofs.KeepLemmas.{all_kept, one_kept, branches_all}
use Rattle.pat_check.specs.Lead.{lead}
use Rattle.pat_check.specs.Starts.{IsSomeLead, lead_in, item_lead_in, break_lead_in}
use Rattle.pat_check.proofs.NodeLemmas.{parts_lead, branches_lead, condition_lead, other_lead}
use Rattle.pat_check.proofs.leads.lead_of.Goals as goal

pub one_of_condition-requires : goal.one_of_condition-requires
one_of_condition-requires c =
    let starts = c.args.starts.now in
    branches_all (λ k. k < length starts) c.in-Cond.test c.in-Cond.yes c.in-Cond.no
    (subst (λ n. All (λ k. k < length starts) (kids_of n)) c.in-Cond.is c.requires.below)

pub returns-in-One : goal.returns-in-One
unfolding lead
returns-in-One c fold folds trees tests kept =
    rw c.in-One.is (c.begin.ensures (item_lead_in c.args.tree.now fold c.in-One.item) (c.item_bytes.ensures fold folds))

pub returns-in-Break : goal.returns-in-Break
unfolding lead
returns-in-Break c fold folds trees tests kept =
    let options = c.args.tree.now.options in
    rw c.in-Break.is (c.begin-in-Break.ensures (break_lead_in options.bsr options.utf)
    (rw (c.options.ensures, c.options-in-Break.ensures) at c.break_bytes.ensures))

pub returns-in-Seq : goal.returns-in-Seq
unfolding lead
returns-in-Seq c fold folds trees tests kept =
    let t = c.args.tree.now in
    let utf = t.options.utf in
    let starts = c.args.starts.now in
    let kids = c.in-Seq.kids in
    let below : All (λ k. k < length starts) kids = subst (λ n. All (λ k. k < length starts) (kids_of n)) c.in-Seq.is
    c.requires.below in
    let turn = rw c.as_slice.ensures at (c.in_turn.ensures (λ k. lead_in t fold (tree_at trees k))) in
    rw c.in-Seq.is
    (subst (IsSomeLead c.in_turn.result) (parts_lead utf (end_kind t.options.newline utf)
    (break_kind t.options.bsr utf) (class_has t) fold trees kids)
    (turn (all_kept (λ k. IsSomeLead (get_or starts k None) (lead_in t fold (tree_at trees k))) kids (length starts)
    kept below)))

pub returns-in-Group : goal.returns-in-Group
unfolding lead
returns-in-Group c fold folds trees tests kept =
    let t = c.args.tree.now in
    let utf = t.options.utf in
    let starts = c.args.starts.now in
    let kids = c.in-Group.branches in
    let below : All (λ k. k < length starts) kids = subst (λ n. All (λ k. k < length starts) (kids_of n))
    c.in-Group.is c.requires.below in
    let turn = rw c.as_slice-in-Group.ensures at (c.one_of.ensures (λ k. lead_in t fold (tree_at trees k))) in
    rw c.in-Group.is
    (subst (IsSomeLead c.one_of.result) (branches_lead utf (end_kind t.options.newline utf)
    (break_kind t.options.bsr utf) (class_has t) fold trees kids)
    (turn (all_kept (λ k. IsSomeLead (get_or starts k None) (lead_in t fold (tree_at trees k))) kids (length starts)
    kept below)))

pub returns-in-Atomic : goal.returns-in-Atomic
unfolding lead
returns-in-Atomic c fold folds trees tests kept =
    let t = c.args.tree.now in
    let utf = t.options.utf in
    let starts = c.args.starts.now in
    let kids = c.in-Atomic.branches in
    let below : All (λ k. k < length starts) kids = subst (λ n. All (λ k. k < length starts) (kids_of n))
    c.in-Atomic.is c.requires.below in
    let turn = rw c.as_slice-in-Atomic.ensures at (c.one_of-in-Atomic.ensures (λ k. lead_in t fold (tree_at trees k)))
    in
    rw c.in-Atomic.is
    (subst (IsSomeLead c.one_of-in-Atomic.result)
    (branches_lead utf (end_kind t.options.newline utf) (break_kind t.options.bsr utf) (class_has t) fold trees
    kids)
    (turn (all_kept (λ k. IsSomeLead (get_or starts k None) (lead_in t fold (tree_at trees k))) kids (length starts)
    kept below)))

pub returns-in-Repeat : goal.returns-in-Repeat
unfolding lead
returns-in-Repeat c fold folds trees tests kept =
    let t = c.args.tree.now in
    let starts = c.args.starts.now in
    let body = c.in-Repeat.body in
    let read = c.index-starts-body.result in
    let below : All (λ k. k < length starts) (body ∷ []) =
    subst (λ n. All (λ k. k < length starts) (kids_of n)) c.in-Repeat.is c.requires.below in
    let within : body < length starts = one_kept (λ k. k < length starts) body (length starts) (λ k l. l) below in
    let is : read ≡ get_or starts body None = c.index-starts-body.is ∙ get_or_default starts body read None within in
    rw c.in-Repeat.is
    (c.repeated.ensures (lead_in t fold (tree_at trees body))
    (subst (λ s. IsSomeLead s (lead_in t fold (tree_at trees body))) (sym is) (kept body within)))

pub returns-in-OneRepeat : goal.returns-in-OneRepeat
unfolding lead
returns-in-OneRepeat c fold folds trees tests kept =
    rw c.in-OneRepeat.is
    (c.repeated-in-OneRepeat.ensures _ (c.begin-once.ensures (item_lead_in c.args.tree.now fold c.in-OneRepeat.item)
    (c.item_bytes-in-OneRepeat.ensures fold folds)))

pub returns-in-Cond : goal.returns-in-Cond
returns-in-Cond c fold folds trees tests kept =
    let t = c.args.tree.now in
    let utf = t.options.utf in
    let starts = c.args.starts.now in
    let test = c.in-Cond.test in
    let first = c.in-Cond.yes in
    let second = c.in-Cond.no in
    let below : All (λ k. k < length starts) (first ∷ number_in second) =
    branches_all (λ k. k < length starts) test first second
    (subst (λ n. All (λ k. k < length starts) (kids_of n)) c.in-Cond.is c.requires.below) in
    let tested : All (λ k. is_test (tree_at trees k) ≡ true) (tests_of test) =
    subst (λ n. All (λ k. is_test (tree_at trees k) ≡ true) (asserted_by n)) c.in-Cond.is tests in
    rw c.in-Cond.is
    (subst (IsSomeLead c.one_of_condition.result)
    (condition_lead utf (end_kind t.options.newline utf) (break_kind t.options.bsr utf) (class_has t) fold trees
    test first second tested)
    (c.one_of_condition.ensures (λ k. lead_in t fold (tree_at trees k))
    (all_kept (λ k. IsSomeLead (get_or starts k None) (lead_in t fold (tree_at trees k)))
    (first ∷ number_in second) (length starts) kept below)))

pub returns-in-Call : goal.returns-in-Call
unfolding lead
returns-in-Call c fold folds trees tests kept = rw c.in-Call.is tt

pub returns-in-Ref : goal.returns-in-Ref
unfolding lead
returns-in-Ref c fold folds trees tests kept = rw c.in-Ref.is tt

pub returns-in_default : goal.returns-in_default
returns-in_default c fold folds trees tests kept =
    let n = c.in_default in
    subst (IsSomeLead c.passed.result)
    (sym (other_lead c.args.tree.now fold trees c.args.node.now n.not-One n.not-Break n.not-Seq n.not-Group
    n.not-Repeat n.not-OneRepeat n.not-Atomic n.not-Cond n.not-Call n.not-Ref)) c.passed.ensures
