-- Bytes that were taken, over several reads, and the input that they show.
use Rattle.std.proofs.Common.{◌≡◌, ◌∙◌, ℕ, zero, suc, Option, Some, None, ◌+◌, ◌<◌, ◌≤◌, List, [], ◌++◌, length, take}
use Rattle.std.proofs.Common.{refl, sym, ap, subst, arith, append-nil, append_assoc, length-append}
use Rattle.std.specs.Io.KnownBytes.{Consumes}
use Rattle.std.proofs.KnownBytes.{Consumes-nil, Consumes-trans}
use Rattle.pcre_io.specs.Told.{Told, StopFalls}
use Rattle.line_feed.specs.declared.phase.Phase.{Phase}
use Rattle.line_feed.specs.declared.phase.Phase.TheVariants as phase
use Rattle.line_feed.specs.Steps.{StopFell, StopsPast, Met}
use Rattle.line_feed.proofs.Splices.{spliced}
use Rattle.line_feed.proofs.Stops.{StopFell-nil, StopFell-trans}
use Rattle.line_feed.proofs.Given.{met-then, Stands, stands-for}
use Rattle.grep_multi.specs.Taken.{Takes}

pub takes-none : (t : Told) → Takes [] [] t t phase.Open
takes-none t = record {
  taken = [];
  all = refl;
  left = Consumes-nil t.left;
  stop = StopFell-nil t.stop;
  met = (refl, omega arith);
}

pub takes-then : (xs ys zs : List ℕ) (before now after : Told) (p : Phase) → Takes xs ys before now phase.Open
    → Takes ys zs now after p → Takes xs zs before after p
takes-then xs ys zs before now after p first next =
    let long = length-append first.taken next.taken in
    record {
      taken = first.taken ++ next.taken;
      all = next.all ∙ ap (λ l. l ++ next.taken) first.all ∙ append_assoc xs first.taken next.taken;
      left = Consumes-trans _ _ _ first.taken next.taken first.left next.left;
      stop = subst (StopFell before.stop after.stop) (sym long)
          (StopFell-trans _ _ _ _ _ first.stop next.stop);
      met = subst (λ n. Met before after p n (length zs)) (sym long)
          (met-then before now after p (length first.taken) (length next.taken) (length zs) next.met first.met.0
          first.stop);
    }

-- one read
pub fell : (a b : Option (Option ℕ)) (n room : ℕ) → StopFalls a b n room → StopFell a b n
fell None b n room h = tt
fell (Some None) b n room h = h
fell (Some (Some k)) b n room h = (h.0, h.1)

pub fell-short : (a b : Option (Option ℕ)) (room : ℕ) → 0 < room → StopFalls a b 0 room → StopsPast a 0
fell-short None b room some h = tt
fell-short (Some None) b room some h = tt
fell-short (Some (Some zero)) b room some h = let none = h.2 refl in absurd (omega (arith, none, some))
fell-short (Some (Some (suc k))) b room some h = omega arith

-- a buffer of which nothing is kept behind its first part
pub spliced-none : (k m : ℕ) (p fresh post junk : List ℕ) → length p ≡ k → k ≤ m
    → take k (take m (p ++ (fresh ++ post) ++ junk)) ≡ p
spliced-none k m p fresh post junk is within =
    ap (λ i. take i (take m (p ++ (fresh ++ post) ++ junk))) {x = k} {y = k + 0} (omega arith)
    ∙ spliced k 0 m p fresh post junk is (omega arith) (omega (arith, within)) ∙ append-nil p

-- what was taken from the begin on
pub takes-all : (bytes : List ℕ) (before after : Told) (p : Phase) → (t : Takes [] bytes before after p)
    → t.taken ≡ bytes
takes-all bytes before after p t = sym t.all

-- the input that the source stands for
pub takes-stands : (bytes : List ℕ) (before after : Told) (p : Phase) → Takes [] bytes before after p
    → Stands before after p bytes
takes-stands bytes before after p t =
    let is = sym t.all in
    stands-for before after p bytes (subst (Consumes before.left after.left) is t.left)
    (subst (λ l. StopFell before.stop after.stop (length l)) is t.stop)
    (subst (λ l. Met before after p (length l) (length bytes)) is t.met)
