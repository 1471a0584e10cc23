use Rattle.std.proofs.Common.{◌∷◌, refl}
use Rattle.frame_parts.proofs.BackTurns.{pop_plain, pop_denial, denial_inside, pop_commit, pop_prune, pop_then}
use Rattle.frame_parts.proofs.BackTurns.{pop_skip, pop_unskipped, look_test_sound, denial_test_sound}
use Rattle.frame_machine.proofs.TestsBack.{pop_look_test, pop_denial_test}
use Rattle.frame_machine.proofs.back.look_or_verb.Goals as goal

pub returns-then-kept-eq-KIND_COMMIT_PASSED : goal.returns-then-kept-eq-KIND_COMMIT_PASSED
returns-then-kept-eq-KIND_COMMIT_PASSED g c = λ older caps v. rw c.restore-then-kept-eq-KIND_COMMIT_PASSED.ensures
    (pop_commit (g.S.Searchable.searched c.args.on.now) (g.met.S.Searchable.sound c.args.on.now) c.args.spot.now
    (c.args.kept.now ∷ older) older c.args.kept.now caps _ v refl refl c.if-kept-eq-KIND_COMMIT_PASSED.true)

pub returns-then-kept-eq-KIND_PRUNE_PASSED : goal.returns-then-kept-eq-KIND_PRUNE_PASSED
returns-then-kept-eq-KIND_PRUNE_PASSED g c = λ older caps v. rw c.restore-then-kept-eq-KIND_PRUNE_PASSED.ensures
    (pop_prune (g.S.Searchable.searched c.args.on.now) (g.met.S.Searchable.sound c.args.on.now) c.args.spot.now
    (c.args.kept.now ∷ older) older c.args.kept.now caps _ v refl refl c.if-kept-eq-KIND_PRUNE_PASSED.true)

pub returns-then-kept-eq-KIND_SKIP_PASSED : goal.returns-then-kept-eq-KIND_SKIP_PASSED
returns-then-kept-eq-KIND_SKIP_PASSED g c = λ older caps v. rw c.restore-then-kept-eq-KIND_SKIP_PASSED.ensures
    (pop_skip (g.S.Searchable.searched c.args.on.now) (g.met.S.Searchable.sound c.args.on.now) c.args.spot.now
    (c.args.kept.now ∷ older) older c.args.kept.now caps _ v refl refl c.if-kept-eq-KIND_SKIP_PASSED.true
    c.if-kept-gt0.false)

pub returns-then-kept-gt0 : goal.returns-then-kept-gt0
returns-then-kept-gt0 g c = λ older caps v. pop_unskipped (g.S.Searchable.searched c.args.on.now)
    (g.met.S.Searchable.sound c.args.on.now) c.args.spot.now (c.args.kept.now ∷ older) older c.args.kept.now caps _ v
    refl refl c.if-kept-eq-KIND_SKIP_PASSED.true c.if-kept-gt0.true

pub returns : goal.returns
returns g c = λ older caps v. pop_plain (g.S.Searchable.searched c.args.on.now)
    (g.met.S.Searchable.sound c.args.on.now) c.args.spot.now (c.args.kept.now ∷ older) older c.args.kept.now caps _ v
    refl refl c.requires.other.0 c.requires.other.1 c.requires.other.2 c.requires.other.3 c.requires.other.4
    c.requires.other.5 c.if-kept-eq-KIND_DENIAL_OPEN.false c.if-kept-eq-KIND_LOOK_TEST.false
    c.if-kept-eq-KIND_DENIAL_TEST.false c.if-kept-eq-KIND_COMMIT_PASSED.false c.if-kept-eq-KIND_PRUNE_PASSED.false
    c.if-kept-eq-KIND_SKIP_PASSED.false c.if-kept-eq-KIND_THEN_PASSED.false c.requires.other.6

pub go_on-requires : goal.go_on-requires
go_on-requires g c = denial_inside (g.S.Searchable.searched c.args.on.now) (g.met.S.Searchable.sound c.args.on.now)
    c.args.spot.now (c.args.kept.now ∷ c.requires.newest.older) c.requires.newest.older c.args.kept.now
    c.requires.newest.caps _ c.requires.newest.valid refl refl c.if-kept-eq-KIND_DENIAL_OPEN.true

pub returns-then-kept-eq-KIND_DENIAL_OPEN : goal.returns-then-kept-eq-KIND_DENIAL_OPEN
returns-then-kept-eq-KIND_DENIAL_OPEN g c = λ older caps v. rw (c.go_on.ensures, c.restore.ensures)
    (pop_denial (g.S.Searchable.searched c.args.on.now) (g.met.S.Searchable.sound c.args.on.now) c.args.spot.now
    (c.args.kept.now ∷ older) older c.args.kept.now caps _ v refl refl c.if-kept-eq-KIND_DENIAL_OPEN.true)

pub choose-requires-clause-inside : goal.choose-requires-clause-inside
choose-requires-clause-inside g c =
    (look_test_sound (g.S.Searchable.searched c.args.on.now) (g.met.S.Searchable.sound c.args.on.now) c.args.spot.now
    (c.args.kept.now ∷ c.requires.newest.older) c.requires.newest.older c.args.kept.now c.requires.newest.caps _
    c.requires.newest.valid refl refl c.if-kept-eq-KIND_LOOK_TEST.true).0

pub choose-requires-clause-condition : goal.choose-requires-clause-condition
choose-requires-clause-condition g c =
    (look_test_sound (g.S.Searchable.searched c.args.on.now) (g.met.S.Searchable.sound c.args.on.now) c.args.spot.now
    (c.args.kept.now ∷ c.requires.newest.older) c.requires.newest.older c.args.kept.now c.requires.newest.caps _
    c.requires.newest.valid refl refl c.if-kept-eq-KIND_LOOK_TEST.true).1

pub returns-then-kept-eq-KIND_LOOK_TEST : goal.returns-then-kept-eq-KIND_LOOK_TEST
returns-then-kept-eq-KIND_LOOK_TEST g c = λ older caps v. rw c.restore-then-kept-eq-KIND_LOOK_TEST.ensures
    (pop_look_test (g.S.Searchable.searched c.args.on.now) (g.met.S.Searchable.sound c.args.on.now) c.args.spot.now
    (c.args.kept.now ∷ older) older c.args.kept.now caps _ v refl refl c.if-kept-eq-KIND_LOOK_TEST.true _
    c.choose.ensures)

pub choose-requires-then-kept-eq-KIND_DENIAL_TEST-clause-inside
    : goal.choose-requires-then-kept-eq-KIND_DENIAL_TEST-clause-inside
choose-requires-then-kept-eq-KIND_DENIAL_TEST-clause-inside g c =
    (denial_test_sound (g.S.Searchable.searched c.args.on.now) (g.met.S.Searchable.sound c.args.on.now)
    c.args.spot.now (c.args.kept.now ∷ c.requires.newest.older) c.requires.newest.older c.args.kept.now
    c.requires.newest.caps _ c.requires.newest.valid refl refl c.if-kept-eq-KIND_DENIAL_TEST.true).0

pub choose-requires-then-kept-eq-KIND_DENIAL_TEST-clause-condition
    : goal.choose-requires-then-kept-eq-KIND_DENIAL_TEST-clause-condition
choose-requires-then-kept-eq-KIND_DENIAL_TEST-clause-condition g c =
    (denial_test_sound (g.S.Searchable.searched c.args.on.now) (g.met.S.Searchable.sound c.args.on.now)
    c.args.spot.now (c.args.kept.now ∷ c.requires.newest.older) c.requires.newest.older c.args.kept.now
    c.requires.newest.caps _ c.requires.newest.valid refl refl c.if-kept-eq-KIND_DENIAL_TEST.true).1

pub returns-then-kept-eq-KIND_DENIAL_TEST : goal.returns-then-kept-eq-KIND_DENIAL_TEST
returns-then-kept-eq-KIND_DENIAL_TEST g c = λ older caps v. rw c.restore-then-kept-eq-KIND_DENIAL_TEST.ensures
    (pop_denial_test (g.S.Searchable.searched c.args.on.now) (g.met.S.Searchable.sound c.args.on.now) c.args.spot.now
    (c.args.kept.now ∷ older) older c.args.kept.now caps _ v refl refl c.if-kept-eq-KIND_DENIAL_TEST.true _
    c.choose-then-kept-eq-KIND_DENIAL_TEST.ensures)

pub returns-then-kept-eq-KIND_THEN_PASSED : goal.returns-then-kept-eq-KIND_THEN_PASSED
returns-then-kept-eq-KIND_THEN_PASSED g c = λ older caps v. rw c.restore-then-kept-eq-KIND_THEN_PASSED.ensures
    (pop_then (g.S.Searchable.searched c.args.on.now) (g.met.S.Searchable.sound c.args.on.now) c.args.spot.now
    (c.args.kept.now ∷ older) older c.args.kept.now caps _ v refl refl c.if-kept-eq-KIND_THEN_PASSED.true)
