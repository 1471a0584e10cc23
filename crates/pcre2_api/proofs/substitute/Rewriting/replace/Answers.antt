use Rattle.std.proofs.Common.{◌≡◌, ◌∙◌, ◌+◌, false, Err, IfErr, length, refl, sym, subst, arith, rules}
use Rattle.std.specs.Prelude.{◌==◌}
use Rattle.std.proofs.lemmas.Result.{IfOk-weaker}
use Rattle.pat_tree.specs.Pattern.{pattern_of}
use Rattle.pcre2_api.specs.Walks.{answer, matching_at, goes_on, place_behind}
use Rattle.pcre2_api.specs.Substituted.{work_of, all_replaced, IsSearch, Refuses}
use Rattle.pcre2_api.proofs.Replacing.{IsOn, on-first, on-last, on-none, on-found, on-next, on-refused, on-as}
use Rattle.pcre2_api.proofs.Replacing.{is-match, is-none, found-added, none-added, goes-once, goes-past, goes-inside}
use Rattle.pcre2_api.proofs.Starting.{begun-at}
use Rattle.pcre2_api.proofs.Walking.{begun-at-none}
use Rattle.pcre2_api.proofs.substitute.Rewriting.replace.Goals as goal
use Rattle.pcre2_api.proofs.substitute.Rewriting.replace.Goals.{then-again+else-at-self, else-again, in-Replaced}
use Rattle.pcre2_api.proofs.substitute.Rewriting.replace.Goals.{in-Nothing}

pub loop-turn-init : goal.loop-turn-init
loop-turn-init c =
    let r = c.args.self.now in
    let n = c.searches-searches.result in
    record {
      on = subst (λ t. IsOn (work_of r) r.options n c.args.start 0 c.args.start 0 0 false t)
          (sym c.new-text.ensures.items)
          (on-first (work_of r) r.options n c.args.start c.searches-searches.ensures);
      peak = omega arith;
      groups = refl;
      frames = refl;
    }

pub returns-in_err-to-clause-refused : goal.returns-in_err-to-clause-refused
returns-in_err-to-clause-refused c =
    let r = c.args.self.now in
    let t = c.loop-turn in
    let e = c.in_err-to.field-0.0 in
    let same : c.from_residual.result ≡ Err e = search rules in
    subst (λ result. IfErr result (Refuses (all_replaced (work_of r) r.options c.args.start))) (sym same)
    (on-refused (work_of r) r.options c.searches-searches.result c.args.start t._turn t.at t.from t.count t.again
    t.text.items t.invariant.on c.loop-turn-test.true e c.in_err-to.ensures.refused)

pub returns-clause-replaced : goal.returns-clause-replaced
returns-clause-replaced c =
    let r = c.args.self.now in
    let t = c.loop-turn in
    IfOk-weaker c.finish-2.result _ _
    (on-last (work_of r) r.options c.searches-searches.result c.args.start t._turn t.at t.from t.count t.again
    t.text.items t.invariant.on c.loop-turn-test.false)
    c.finish-2.ensures.finished

pub returns-in-Nothing-2-clause-replaced : goal.returns-in-Nothing-2-clause-replaced
returns-in-Nothing-2-clause-replaced c =
    let r = c.args.self.now in
    let w = work_of r in
    let t = c.loop-turn in
    let len = length r.subject.now in
    let here = answer w.pattern r.options r.subject.now t.again t.at in
    let nothing = is-none len here (subst (λ s. IsSearch len s here) c.in-Nothing-2.is c.in_ok-to.ensures.comes) in
    let same = none-added w t.from t.text.items c.replace_next.new.out.items here nothing c.in_ok-to.ensures.added in
    let goes : goes_on w.pattern r.options r.subject.now t.again t.at ≡ false = elim c.if-again.branch [
      | then-again+else-at-self b ↦ goes-past w.pattern r.options r.subject.now t.again t.at b.if-again.true
          b.if-at-self.false
      | else-again b ↦ goes-once w.pattern r.options r.subject.now t.again t.at b.if-again.false
    ] in
    let on = subst (λ out. IsOn w r.options c.searches-searches.result c.args.start t._turn t.at t.from t.count
    t.again out) (sym same) t.invariant.on in
    IfOk-weaker c.finish.result _ _
    (on-none w r.options c.searches-searches.result c.args.start t._turn t.at t.from t.count t.again
    c.replace_next.new.out.items on c.loop-turn-test.true nothing goes)
    c.finish.ensures.finished

pub place_behind-at-requires-clause-place : goal.place_behind-at-requires-clause-place
place_behind-at-requires-clause-place c =
    let r = c.args.self.now in
    let t = c.loop-turn in
    let len = length r.subject.now in
    let p = pattern_of r.code.now.tree in
    let here = answer p r.options r.subject.now t.again t.at in
    let nothing = is-none len here (subst (λ s. IsSearch len s here) c.in-Nothing.is c.in_ok-to.ensures.comes) in
    begun-at r.code.now.tree.options r.subject.now t.at
    (begun-at-none p (matching_at r.options t.again) r.subject.now t.at nothing)

pub loop-turn-preserved : goal.loop-turn-preserved
loop-turn-preserved c =
    let r = c.args.self.now in
    let w = work_of r in
    let t = c.loop-turn in
    let n = c.searches-searches.result in
    let start = c.args.start in
    let len = length r.subject.now in
    let here = answer w.pattern r.options r.subject.now t.again t.at in
    let new = c.replace_next.new.out.items in
    record {
      on = elim c.match-branch-2.branch [
        | in-Replaced b ↦
            let m = is-match len b.in-Replaced.to b.in-Replaced.is_empty here
            (subst (λ s. IsSearch len s here) b.in-Replaced.is c.in_ok-to.ensures.comes) in
            let o = m.outcome in
            let text = found-added w t.from t.text.items new here o m.is c.in_ok-to.ensures.added in
            on-as w r.options n start (t._turn + 1) c.match-branch-2.at o.to c.match-branch-2.from o.to
            c.match-branch-2.count (t.count + 1) c.match-branch-2.again (o.keep == o.to) new
            (b.at-is ∙ m.to_is) (b.from-is ∙ m.to_is) b.count-is (b.again-is ∙ m.empty_is)
            (on-found w r.options n start t._turn t.at t.from t.count t.again t.text.items t.invariant.on
            c.loop-turn-test.true o new text.bytes m.is text.written text.is m.inside)
        | in-Nothing b ↦
            let nothing = is-none len here (subst (λ s. IsSearch len s here) b.in-Nothing.is c.in_ok-to.ensures.comes)
            in
            let same = none-added w t.from t.text.items new here nothing c.in_ok-to.ensures.added in
            let goes = goes-inside w.pattern r.options r.subject.now t.again t.at b.if-again.true b.if-at-self.true in
            on-as w r.options n start (t._turn + 1) c.match-branch-2.at (place_behind w.pattern r.subject.now t.at)
            c.match-branch-2.from t.from c.match-branch-2.count t.count c.match-branch-2.again false new
            (b.at-is ∙ b.place_behind-at.ensures) b.from-is b.count-is b.again-is
            (on-next w r.options n start t._turn t.at t.from t.count t.again t.text.items t.invariant.on
            c.loop-turn-test.true new nothing goes same)
      ];
      peak = omega (arith, t.invariant.peak, c.in_ok-to.ensures.peak);
      groups = c.in_ok-to.ensures.groups ∙ t.invariant.groups;
      frames = c.in_ok-to.ensures.frames ∙ t.invariant.frames;
    }
