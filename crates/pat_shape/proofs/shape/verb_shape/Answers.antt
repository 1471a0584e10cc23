use Rattle.std.proofs.Common.{◌≡◌, sym, subst}
use Rattle.pat_tree.specs.declared.nodes.Verb.{Verb}
use Rattle.pat_tree.specs.Nested as nested
use Rattle.pat_tree.specs.Parts.{TreeParts}
use Rattle.std.proofs.Common.{Bool}
use Rattle.regex_hir.specs.Meaning.{meaning}
use Rattle.regex_hir.specs.declared.hir.Hir.TheVariants.{Empty}
use Rattle.pat_shape.specs.IsShape.{GoesOn, IsShape}
use Rattle.pat_shape.proofs.Kept.{verb_is, fail_is}
use Rattle.pat_shape.proofs.shape.verb_shape.Goals as goal

told : (parts : TreeParts) (lined : Bool) (v v' : Verb) → v ≡ v' → GoesOn v'
    → IsShape parts lined (nested.verb v) (meaning Empty)
told parts lined v v' e h = subst (λ w. IsShape parts lined (nested.verb w) (meaning Empty)) (sym e)
    (verb_is parts lined v' h)

pub returns-in-Fail : goal.returns-in-Fail
returns-in-Fail c =
    subst (λ w. IsShape c.args.tree.now c.args.lined (nested.verb w) (meaning c.nothing.result)) (sym c.in-Fail.is)
    (fail_is c.args.tree.now c.args.lined c.in-Fail.name (meaning c.nothing.result) c.nothing.ensures)

pub returns-in-Commit : goal.returns-in-Commit
returns-in-Commit c = told c.args.tree.now c.args.lined c.args.verb.now _ c.in-Commit.is tt

pub returns-in-Prune : goal.returns-in-Prune
returns-in-Prune c = told c.args.tree.now c.args.lined c.args.verb.now _ c.in-Prune.is tt

pub returns-in-Skip : goal.returns-in-Skip
returns-in-Skip c = told c.args.tree.now c.args.lined c.args.verb.now _ c.in-Skip.is tt

pub returns-in-Then : goal.returns-in-Then
returns-in-Then c = told c.args.tree.now c.args.lined c.args.verb.now _ c.in-Then.is tt

pub returns-in-Mark : goal.returns-in-Mark
returns-in-Mark c = told c.args.tree.now c.args.lined c.args.verb.now _ c.in-Mark.is tt
