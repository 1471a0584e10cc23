use Rattle.std.proofs.Common.{sym, subst}
use Rattle.frame_state.specs.Validity.{HasBranch}
use Rattle.frame_state.proofs.BranchTurns.{group_branches, atomic_branches, look_branches, stray_branches}
use Rattle.frame_parts.proofs.repeats.branches_of.Goals as goal

pub returns-in-Group : goal.returns-in-Group
returns-in-Group g c = group_branches (g.S.Searchable.searched c.args.on.now) c.args.part c.requires.inside _
    c.node.ensures _ _ c.in-Group.is

pub returns-in-Atomic : goal.returns-in-Atomic
returns-in-Atomic g c = atomic_branches (g.S.Searchable.searched c.args.on.now) c.args.part c.requires.inside _
    c.node.ensures _ c.in-Atomic.is

pub returns-in-Look : goal.returns-in-Look
returns-in-Look g c = look_branches (g.S.Searchable.searched c.args.on.now) c.args.part c.requires.inside _
    c.node.ensures _ _ _ _ c.in-Look.is

pub unreachable-requires : goal.unreachable-requires
unreachable-requires g c =
    stray_branches (g.S.Searchable.searched c.args.on.now) c.args.index _
    (subst (λ t. HasBranch (g.S.Searchable.searched c.args.on.now) t c.args.index) (sym c.node.ensures.is)
    c.requires.some)
    c.in_default.not-Group c.in_default.not-Atomic c.in_default.not-Look
