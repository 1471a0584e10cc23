use Rattle.std.proofs.Common.{◌≡◌, ◌<◌, Bool, true, All, None, length, subst, sym}
use Rattle.std.specs.Prelude.{slice_index_or, IfSome}
use Rattle.pat_tree.specs.Nested.{tree_at}
use Rattle.pat_tree.specs.Rules.{kids_of}
use Rattle.pat_bounds.proofs.pat_lengths.KeepLemmas.{all_kept}
use Rattle.pat_needs.specs.Needs.{TakesOf, IsShort}
use Rattle.pat_needs.specs.NeedTables.{may_of, IsNeed}
use Rattle.pat_needs.proofs.NeedLemmas.{needs_one, needs_turn, needs_group, needs_atomic, needs_look}
use Rattle.pat_needs.proofs.needs.node_need.Goals as goal

pub returns-in-One : goal.returns-in-One
returns-in-One c tree table utf trees kept =
    let told = λ (u : Bool). IfSome c.wanted_of.result
    (λ w. TakesOf (may_of tree) w.text.first c.in-One.item
    × (w.is_short ≡ true → IsShort (may_of tree) u c.in-One.item)) in
    rw c.in-One.is (needs_one (may_of tree) tree.options.utf c.args.anywhere c.in-One.item c.wanted_of.result
    c.wanted_of.ensures.sets
    (subst told (sym utf) (c.wanted_of.ensures.takes (may_of tree) c.in-One.item (c.item_need.ensures tree table utf))))

pub returns-in-Seq : goal.returns-in-Seq
returns-in-Seq c tree table utf trees kept =
    let has = may_of tree in
    let u = tree.options.utf in
    let needs = c.args.needs.now in
    let kids = c.in-Seq.kids in
    let below : All (λ k. k < length needs) kids = subst (λ n. All (λ k. k < length needs) (kids_of n)) c.in-Seq.is
    c.requires.below in
    let all = all_kept (λ k. IsNeed has u c.args.anywhere (tree_at trees k) (slice_index_or needs k None)) kids
    (length needs) kept below in
    rw c.in-Seq.is (needs_turn has u c.args.anywhere _ c.rarest.result
    ((rw c.as_slice.ensures at (c.rarest.ensures has u (tree_at trees))) all))

pub returns-in-Group : goal.returns-in-Group
returns-in-Group c tree table utf trees kept =
    let has = may_of tree in
    let u = tree.options.utf in
    let needs = c.args.needs.now in
    let kids = c.in-Group.branches in
    let below : All (λ k. k < length needs) kids = subst (λ n. All (λ k. k < length needs) (kids_of n)) c.in-Group.is
    c.requires.below in
    let all = all_kept (λ k. IsNeed has u c.args.anywhere (tree_at trees k) (slice_index_or needs k None)) kids
    (length needs) kept below in
    rw c.in-Group.is (needs_group has u c.args.anywhere c.in-Group.number _ c.each_of.result
    ((rw c.as_slice-in-Group.ensures at (c.each_of.ensures has u c.args.anywhere (tree_at trees))) all))

pub returns-in-Atomic : goal.returns-in-Atomic
returns-in-Atomic c tree table utf trees kept =
    let has = may_of tree in
    let u = tree.options.utf in
    let needs = c.args.needs.now in
    let kids = c.in-Atomic.branches in
    let below : All (λ k. k < length needs) kids = subst (λ n. All (λ k. k < length needs) (kids_of n)) c.in-Atomic.is
    c.requires.below in
    let all = all_kept (λ k. IsNeed has u c.args.anywhere (tree_at trees k) (slice_index_or needs k None)) kids
    (length needs) kept below in
    rw c.in-Atomic.is (needs_atomic has u c.args.anywhere _ c.each_of-in-Atomic.result
    ((rw c.as_slice-in-Atomic.ensures at (c.each_of-in-Atomic.ensures has u c.args.anywhere (tree_at trees))) all))

pub returns-in-Look : goal.returns-in-Look
returns-in-Look c tree table utf trees kept =
    let has = may_of tree in
    let u = tree.options.utf in
    let needs = c.args.needs.now in
    let kids = c.in-Look.branches in
    let below : All (λ k. k < length needs) kids = subst (λ n. All (λ k. k < length needs) (kids_of n)) c.in-Look.is
    c.requires.below in
    let all = all_kept (λ k. IsNeed has u c.args.anywhere (tree_at trees k) (slice_index_or needs k None)) kids
    (length needs) kept below in
    rw c.in-Look.is
    (needs_look has u c.args.anywhere c.in-Look.ahead c.in-Look.positive c.in-Look.atomic _ c.each_of-in-Look.result
    c.wanted_if.result
    ((rw c.as_slice-in-Look.ensures at (c.each_of-in-Look.ensures has u c.args.anywhere (tree_at trees))) all)
    c.wanted_if.ensures)
