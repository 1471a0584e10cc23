-- Bytes taken, piece by piece.
use Rattle.std.proofs.Common.{◌≡◌, ℕ, ◌+◌, ◌^◌, ◌<◌, [], ◌++◌, length, refl, sym, ap, subst, ◌∙◌, ⊎_elim}
use Rattle.std.proofs.Common.{append_assoc, append-nil, length-append}
use Rattle.std.proofs.KnownBytes.{Consumes-nil, Consumes-trans}
use Rattle.pcre_io.specs.Told.{Told}
use Rattle.line_feed.specs.declared.phase.Phase.{Phase}
use Rattle.line_feed.specs.declared.phase.Phase.TheVariants.{Open, Ended, Missed, Full, Closed}
use Rattle.line_feed.specs.View.{Feed}
use Rattle.line_feed.specs.Steps.{StopFell, Met, Moves}
use Rattle.line_feed.proofs.Stops.{StopFell-nil, StopFell-trans}
use Rattle.line_feed.proofs.Given.{met-then, phase-open}

-- 1 where more may be read
abbrev pub going : Phase → ℕ
going Open = 1
going Ended = 0
going Missed = 0
going Full = 0
going Closed = 0

pub Moves-none : (f : Feed) (t : Told) → (f.phase ≡ Open → f.offset + length f.held < 2 ^ 40) → Moves f f t t
Moves-none f t few = record {
  taken = [];
  held = sym (append-nil f.held);
  left = Consumes-nil t.left;
  stop = StopFell-nil t.stop;
  number = refl;
  offset = refl;
  kind = refl;
  max = refl;
  met = λ opened. subst (λ p. Met t t p 0 (f.offset + length f.held)) (sym opened) (refl, few opened);
  idle = λ _. (refl, refl, refl);
}

-- a feed that may read on could do so before
pub was-open : (a b : Feed) (s t : Told) → Moves a b s t → b.phase ≡ Open → a.phase ≡ Open
was-open a b s t moves opened = ⊎_elim (λ e. e) (λ shut. absurd (shut (sym (moves.idle shut).1 ∙ opened)))
    (phase-open a.phase)

pub Moves-trans : (a b c : Feed) (s t u : Told) → Moves a b s t → b.phase ≡ Open → Moves b c t u → Moves a c s u
Moves-trans a b c s t u first opened then =
    let from = was-open a b s t first opened in
    let long = length-append first.taken then.taken in
    record {
      taken = first.taken ++ then.taken;
      held = then.held ∙ ap (λ l. l ++ then.taken) first.held ∙ append_assoc a.held first.taken then.taken;
      left = Consumes-trans _ _ _ _ _ first.left then.left;
      stop = subst (StopFell s.stop u.stop) (sym long) (StopFell-trans _ _ _ _ _ first.stop then.stop);
      number = then.number ∙ first.number;
      offset = then.offset ∙ first.offset;
      kind = then.kind ∙ first.kind;
      max = then.max ∙ first.max;
      met = λ _. (let here = subst (λ p. Met s t p (length first.taken) (b.offset + length b.held)) opened
          (first.met from) in
          subst (λ n. Met s u c.phase n (c.offset + length c.held)) (sym long)
          (met-then s t u c.phase _ _ _ (then.met opened) here.0 first.stop));
      idle = λ shut. absurd (shut from);
    }
