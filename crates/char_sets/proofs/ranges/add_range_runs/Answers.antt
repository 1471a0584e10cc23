use Rattle.std.proofs.Common.{◌≡◌, ℕ, ◌||◌, false, sym, ap, ap₂, subst, ◌∙◌}
use Rattle.std.proofs.Math.Bool.{or_assoc}
use Rattle.std.specs.Int.{is_in_range}
use Rattle.std.specs.List.Sorted.{IsNonDecreasingBy}
use Rattle.ucd_case.specs.CaseFolding.{fold_pairs}
use Rattle.char_sets.specs.declared.runs.Run.{Run}
use Rattle.char_sets.specs.Runs.{runs_have, partner_has, letters_have}
use Rattle.char_sets.specs.Sets.{range_has}
use Rattle.char_sets.proofs.PairLemmas.{fold_pairs-rise}
use Rattle.char_sets.proofs.PartLemmas.{partners_added, pushed_has, in_utf, outside_utf}
use Rattle.char_sets.proofs.ranges.add_range_runs.Goals as goal

pub add_partners-requires : goal.add_partners-requires
add_partners-requires c = subst (IsNonDecreasingBy (λ (pair : ℕ × ℕ). pair.0)) (sym c.fold_pairs.ensures.table)
    fold_pairs-rise

pub returns-in_ok-add_partners : goal.returns-in_ok-add_partners
returns-in_ok-add_partners c x =
    let old = c.args.runs.now.items in
    let from = c.args.from in
    let to = c.args.to in
    let run : Run = record { from = from; to = to } in
    let pushed : runs_have c.push.new.self.items x ≡ (runs_have old x || is_in_range from to x) =
    ap (λ rs. runs_have rs x) c.in_ok-push.ensures.items ∙ pushed_has old run x in
    let more : is_in_range from to x ≡ false → runs_have c.add_partners.new.runs.items
    x ≡ (runs_have c.push.new.self.items x || partner_has fold_pairs from to x) =
    λ out. c.in_ok-add_partners.ensures.more x out
    ∙ ap (λ ps. runs_have c.push.new.self.items x || partner_has ps from to x) c.fold_pairs.ensures.table in
    partners_added (runs_have old x) _ _ (is_in_range from to x) (partner_has fold_pairs from to x) pushed more
    (c.in_ok-add_partners.ensures.kept x)
    ∙ ap (λ b. runs_have old x || b) (sym (in_utf from to x)
    ∙ sym (ap₂ (λ u k. range_has u k from to x) c.if-utf.true c.if-not-caseless.false))

pub returns-in_ok-add_letters : goal.returns-in_ok-add_letters
returns-in_ok-add_letters c x =
    let old = c.args.runs.now.items in
    let from = c.args.from in
    let to = c.args.to in
    let run : Run = record { from = from; to = to } in
    let pushed : runs_have c.push.new.self.items x ≡ (runs_have old x || is_in_range from to x) =
    ap (λ rs. runs_have rs x) c.in_ok-push.ensures.items ∙ pushed_has old run x in
    c.in_ok-add_letters.ensures x ∙ ap (λ b. b || letters_have from to x) pushed
    ∙ or_assoc (runs_have old x) (is_in_range from to x) (letters_have from to x)
    ∙ ap (λ b. runs_have old x || b) (sym (outside_utf from to x)
    ∙ sym (ap₂ (λ u k. range_has u k from to x) c.if-utf.false c.if-not-caseless.false))
