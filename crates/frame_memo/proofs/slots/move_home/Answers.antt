use Rattle.std.proofs.Common.{◌≡◌, inl, inr, refl, arith}
use Rattle.std.proofs.lemmas.Bool.{cases_lt}
use Rattle.std.proofs.lemmas.List.Elements.{All-contains_itself}
use Rattle.frame_memo.specs.Slots.{kept, IsAtHome}
use Rattle.frame_memo.proofs.KeptLemmas.{All-through}
use Rattle.frame_memo.proofs.slots.move_home.Goals as goal

pub slots-init : goal.slots-init
slots-init c =
    record { same_length = refl; no_other = All-contains_itself (kept c.args.slots.now); at_home = c.requires.blank }

pub slots-preserved : goal.slots-preserved
slots-preserved c = record {
  same_length = omega arith;
  no_other = All-through _ _ _ c.slots.invariant.no_other c.move_one.ensures.no_other;
  at_home = λ k l.
      elim (cases_lt k c.slots.i) as (λ _. IsAtHome c.move_one.new.slots k) [
        | inl below ↦ c.move_one.ensures.at_home k (inl (omega arith))
        | inr past ↦ c.move_one.ensures.at_home k (inr (c.slots.invariant.at_home k past))
      ];
}

pub returns-clause-no_other : goal.returns-clause-no_other
returns-clause-no_other c = c.slots.invariant.no_other
