use Rattle.std.proofs.Common.{ℕ, get_or, eqb, ◌||◌, false, refl, ap, subst, ◌∙◌}
use Rattle.byte_lanes.specs.Members.{AreMembers}
use Rattle.byte_lanes.specs.declared.members.Members.{Members}
use Rattle.byte_lanes.proofs.lemmas.SetLemmas.{two_more, three_more}
use Rattle.byte_lanes.proofs.members.Members.joined.Goals as goal

pub returns-in-Two : goal.returns-in-Two
returns-in-Two c one other both in_one in_other joined =
    let x = c.in-Two.x in
    let y = c.in-Two.y in
    let known = subst (λ (m : Members). AreMembers m other) c.in-Two.is in_other in
    let has = λ (k : ℕ). get_or one k false in
    let first = c.with-in-Two.ensures has (λ k. has k || eqb k x) in_one (λ k. refl) in
    c.with-in-Two-2.ensures _ (λ k. get_or both k false) first
    (λ k. joined k ∙ ap (λ q. has k || q) (known k) ∙ two_more (has k) (eqb k x) (eqb k y))

pub returns-in-Three : goal.returns-in-Three
returns-in-Three c one other both in_one in_other joined =
    let x = c.in-Three.x in
    let y = c.in-Three.y in
    let z = c.in-Three.z in
    let known = subst (λ (m : Members). AreMembers m other) c.in-Three.is in_other in
    let has = λ (k : ℕ). get_or one k false in
    let first = c.with-in-Three.ensures has (λ k. has k || eqb k x) in_one (λ k. refl) in
    let second = c.with-in-Three-2.ensures _ (λ k. (has k || eqb k x) || eqb k y) first (λ k. refl) in
    c.with-in-Three-3.ensures _ (λ k. get_or both k false) second
    (λ k. joined k ∙ ap (λ q. has k || q) (known k) ∙ three_more (has k) (eqb k x) (eqb k y) (eqb k z))
