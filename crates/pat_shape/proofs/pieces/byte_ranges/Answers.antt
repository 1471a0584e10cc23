use Rattle.std.proofs.Common.{◌≡◌, ◌≢◌, ◌+◌, List, ℕ, Vec, Global, true, sym, ap, subst, arith}
use Rattle.std.specs.Prelude.{IsTrue}
use Rattle.char_sets.specs.Sets.{class_has}
use Rattle.pat_shape.specs.IsShape.{may_take}
use Rattle.pat_shape.proofs.Ranges.{Holds, holds_pushed, holds_passed, Only, only_pushed, only_none}
use Rattle.pat_shape.proofs.pieces.byte_ranges.Goals.{then-is_wanted+in_ok-push, else-is_wanted}
use Rattle.pat_shape.proofs.pieces.byte_ranges.Goals as goal

pub loop-b-init : goal.loop-b-init
loop-b-init c =
    let tree = c.args.tree.now in
    let May : ℕ → Type 0 = λ k. may_take tree.options.utf (class_has tree) c.args.item.now k ≡ true in
    let Q : ℕ → Type 0 = λ k. May k × (IsTrue c.args.lined → k ≢ 10) in
    let P : ℕ → Type 0 = λ k. (IsTrue c.args.lined → k ≢ 10) × May k in
    let low = c.span_of-from.ensures.low in
    subst (λ (l : List (ℕ × ℕ)). Holds P l c.span_of-from.result.0 × Only Q l) (sym c.new-ranges.ensures.items) (
      λ k less p.
          let held = c.span_of-from.ensures.held tree.options.utf (class_has tree) k (omega (arith, less, low)) p.1 in
          absurd (omega (arith, less, held.0)),
      only_none Q,
    )

pub loop-b-preserved : goal.loop-b-preserved
loop-b-preserved c =
    let tree = c.args.tree.now in
    let b = c.loop-b.b in
    let rs = c.loop-b.ranges.items in
    let May : ℕ → Type 0 = λ k. may_take tree.options.utf (class_has tree) c.args.item.now k ≡ true in
    let Q : ℕ → Type 0 = λ k. May k × (IsTrue c.args.lined → k ≢ 10) in
    let P : ℕ → Type 0 = λ k. (IsTrue c.args.lined → k ≢ 10) × May k in
    let utf = ap (λ o. o.utf) c.options.ensures in
    elim c.if-is_wanted.branch [
      | then-is_wanted+in_ok-push w ↦
          let may : Q b = (
            subst (λ u. may_take u (class_has tree) c.args.item.now b ≡ true) utf
                (c.is_wanted.ensures.only tree c.requires.table w.if-is_wanted.true),
            c.is_wanted.ensures.no_lf w.if-is_wanted.true,
          ) in
          subst (λ (v : Vec (ℕ × ℕ) Global). Holds P v.items (b + 1) × Only Q v.items) (sym w.ranges-is)
          (subst (λ (l : List (ℕ × ℕ)). Holds P l (b + 1) × Only Q l) (sym w.in_ok-push.ensures.items)
          (holds_pushed P rs b c.loop-b.invariant.0, only_pushed Q rs b c.loop-b.invariant.1 may))
      | else-is_wanted w ↦
          subst (λ (v : Vec (ℕ × ℕ) Global). Holds P v.items (b + 1) × Only Q v.items) (sym w.ranges-is) (
            holds_passed P rs b
                (λ p.
                let may = subst (λ u. may_take u (class_has tree) c.args.item.now b ≡ true) (sym utf) p.1 in
                let wanted = c.is_wanted.ensures.all tree c.requires.table p.0 may in
                let passed = w.if-is_wanted.false in
                absurd cc)
                c.loop-b.invariant.0,
            c.loop-b.invariant.1,
          )
    ]

pub returns-clause-all : goal.returns-clause-all
returns-clause-all c b low lf may =
    let tree = c.args.tree.now in
    let end = c.loop-b-test.false in
    let held = c.span_of-from.ensures.held tree.options.utf (class_has tree) b low may in
    c.loop-b.invariant.0 b (omega (arith, held.1, end)) (lf, may)

pub returns-clause-only : goal.returns-clause-only
returns-clause-only c b low in' = c.loop-b.invariant.1 b in'
