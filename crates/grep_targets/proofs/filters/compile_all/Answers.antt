use Rattle.std.proofs.Common.{◌≡◌, ◌+◌, ◌<◌, ◌∷◌, length, drop, get_or, sym, subst, ap, ◌∙◌, arith}
use Rattle.std.proofs.lemmas.List.{drop_more}
use Rattle.grep_targets.specs.Filters.{compiled_from, patterns_in, with_patterns}
use Rattle.grep_targets.proofs.Filtering.{one_more, one_bad}
use Rattle.grep_targets.proofs.filters.compile_all.Goals as goal

pub loop-text-preserved : goal.loop-text-preserved
loop-text-preserved c =
    let texts = c.args.texts.now in
    let codes = c.loop-text.codes.items in
    let i = c.loop-text.text-index in
    let below : i < length texts = rw c.as_slice-text-items.ensures at c.loop-text-test.true in
    let is : c.text-item.result ≡ get_or texts i c.text-item.result =
    rw c.as_slice-text-items.ensures at c.text-item.is in
    let rest : drop i texts ≡ c.text-item.result ∷ drop (i + 1) texts = drop_more texts i c.text-item.result below
    ∙ ap (λ t. t ∷ drop (i + 1) texts) (sym is) in
    one_more c.args.option texts c.text-item.result (drop (i + 1) texts) codes
    (subst (λ l. with_patterns (patterns_in codes) (compiled_from c.args.option (length codes + 1) l) ≡ compiled_from
    c.args.option 1 texts) rest c.loop-text.invariant)
    c.in-Ok.code c.push.new.codes.items (c.len.result + 1) (omega (arith, c.len.ensures, c.loop-text.codes.ok.0))
    c.in_ok-push-in-Ok.ensures (rw c.bytes.ensures at c.in-Ok.ensures.compiled)

pub returns-in-Err-clause-refused : goal.returns-in-Err-clause-refused
returns-in-Err-clause-refused c =
    let texts = c.args.texts.now in
    let codes = c.loop-text.codes.items in
    let i = c.loop-text.text-index in
    let below : i < length texts = rw c.as_slice-text-items.ensures at c.loop-text-test.true in
    let is : c.text-item.result ≡ get_or texts i c.text-item.result =
    rw c.as_slice-text-items.ensures at c.text-item.is in
    let rest : drop i texts ≡ c.text-item.result ∷ drop (i + 1) texts = drop_more texts i c.text-item.result below
    ∙ ap (λ t. t ∷ drop (i + 1) texts) (sym is) in
    one_bad c.args.option texts c.text-item.result (drop (i + 1) texts) codes
    (subst (λ l. with_patterns (patterns_in codes) (compiled_from c.args.option (length codes + 1) l) ≡ compiled_from
    c.args.option 1 texts) rest c.loop-text.invariant)
    c.in-Err.e (c.len.result + 1) (omega (arith, c.len.ensures, c.loop-text.codes.ok.0))
    (rw c.bytes.ensures at c.in-Err.ensures.refused)
