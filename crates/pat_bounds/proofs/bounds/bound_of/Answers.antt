use Rattle.std.proofs.Common.{◌<◌, All, [], ◌∷◌, length, subst, arith}
use Rattle.pat_tree.specs.Rules.{kids_of}
use Rattle.char_sets.specs.Sets.{class_has}
use Rattle.pat_bounds.specs.Bounds.{bound, closed, grouped, change, repeated}
use Rattle.pat_bounds.specs.BoundTables.{bound_at}
use Rattle.pat_bounds.proofs.BoundLemmas.{refines_on, change_refines, repeated_refines, look_told}
use Rattle.pat_bounds.proofs.bounds.bound_of.Goals as goal

pub returns-in-Seq : goal.returns-in-Seq
unfolding bound
returns-in-Seq c kept = rw c.in-Seq.is ((rw c.as_slice.ensures at c.in_turn.ensures) kept)

pub returns-in-Group : goal.returns-in-Group
unfolding bound
returns-in-Group c kept =
    rw c.in-Group.is
    (refines_on c.grouped.result (change (grouped c.in-Group.number) c.one_of.result) _ c.grouped.ensures
    (change_refines (grouped c.in-Group.number) c.one_of.result _
    ((rw c.as_slice-in-Group.ensures at c.one_of.ensures) kept)))

pub returns-in-Repeat : goal.returns-in-Repeat
unfolding bound
returns-in-Repeat c kept =
    let body = c.in-Repeat.body in
    let low = c.in-Repeat.min in
    let high = c.in-Repeat.max in
    let bounds = c.args.bounds.now in
    let own = bound_at bounds body in
    let below : All (λ k. k < length bounds) (body ∷ []) =
    subst (λ n. All (λ k. k < length bounds) (kids_of n)) c.in-Repeat.is c.requires.below in
    rw c.in-Repeat.is
    (refines_on c.repeated.result (repeated low high own) _ c.repeated.ensures
    (repeated_refines low high own _ (kept body (below 0 0 (omega arith)))))

pub returns-in-Atomic : goal.returns-in-Atomic
unfolding bound
returns-in-Atomic c kept =
    rw c.in-Atomic.is
    (refines_on c.closed.result (change closed c.one_of-in-Atomic.result) _ c.closed.ensures
    (change_refines closed c.one_of-in-Atomic.result _
    ((rw c.as_slice-in-Atomic.ensures at c.one_of-in-Atomic.ensures) kept)))

pub returns-in-Look : goal.returns-in-Look
returns-in-Look c kept =
    let inside = c.one_of-in-Look.result in
    rw c.in-Look.is
    (look_told (class_has c.args.tree.now) c.in-Look.ahead c.in-Look.positive c.in-Look.atomic _
    c.closed-in-Look.result c.bound_if.result
    (refines_on c.closed-in-Look.result (change closed inside) _ c.closed-in-Look.ensures
    (change_refines closed inside _ ((rw c.as_slice-in-Look.ensures at c.one_of-in-Look.ensures) kept)))
    c.bound_if.ensures)
