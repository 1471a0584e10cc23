use Rattle.std.proofs.Common.{◌≡◌, ◌≤◌, ◌∷◌, ◌++◌, [], All, sym, ap, subst, ◌∙◌, arith, ◌||◌}
use Rattle.std.specs.Int.{is_in_range}
use Rattle.char_sets.specs.declared.runs.Run.{Run}
use Rattle.char_sets.specs.Runs.{runs_have, IsRising}
use Rattle.char_sets.proofs.RunLemmas.{joined_has, joined_rises, last_of, last_grown}
use Rattle.char_sets.proofs.runs.add_run.Goals as goal

pub returns-in_ok-push-2-clause-members : goal.returns-in_ok-push-2-clause-members
returns-in_ok-push-2-clause-members c x =
    let before = c.pop.new.self.items in
    let last = c.in-Some.last in
    let next = c.args.next in
    let was : c.args.runs.now.items ≡ before ++ last ∷ [] = c.in-Some.ensures.items in
    let starts : last.from ≤ next.from = last_of (λ r. r.from ≤ next.from) before last
    (subst (All (λ (r : Run). r.from ≤ next.from)) was c.requires.last) in
    ap (λ rs. runs_have rs x) c.in_ok-push-2.ensures.items
    ∙ joined_has before last next c.max.result starts (omega (arith, c.if-next.false))
    (omega (arith, c.if-next-last.true)) c.max.ensures x
    ∙ ap (λ rs. runs_have rs x || is_in_range next.from next.to x) (sym was)

pub returns-in_ok-push-2-clause-rising : goal.returns-in_ok-push-2-clause-rising
returns-in_ok-push-2-clause-rising c =
    let before = c.pop.new.self.items in
    let last = c.in-Some.last in
    let next = c.args.next in
    let was : c.args.runs.now.items ≡ before ++ last ∷ [] = c.in-Some.ensures.items in
    let starts : last.from ≤ next.from = last_of (λ r. r.from ≤ next.from) before last
    (subst (All (λ (r : Run). r.from ≤ next.from)) was c.requires.last) in
    subst IsRising (sym c.in_ok-push-2.ensures.items)
    (joined_rises before last next c.max.result starts (omega (arith, c.if-next.false))
    (omega (arith, c.if-next-last.true)) c.max.ensures (subst IsRising was c.requires.rising))

pub returns-in_ok-push-2-clause-last : goal.returns-in_ok-push-2-clause-last
returns-in_ok-push-2-clause-last c =
    let before = c.pop.new.self.items in
    let last = c.in-Some.last in
    let next = c.args.next in
    let was : c.args.runs.now.items ≡ before ++ last ∷ [] = c.in-Some.ensures.items in
    let all : All (λ (r : Run). r.from ≤ next.from) (before ++ last ∷ []) =
    subst (All (λ (r : Run). r.from ≤ next.from)) was c.requires.last in
    subst (All (λ (r : Run). r.from ≤ next.from)) (sym c.in_ok-push-2.ensures.items)
    (last_grown (λ r. r.from ≤ next.from) before last _ all (last_of (λ r. r.from ≤ next.from) before last all))
