-- The ranges and the sets of a class, apart.
use Rattle.std.proofs.Common.{◌≡◌, ℕ, ◌+◌, ◌<◌, ◌≤◌, Bool, true, false, ◌||◌, ◌&&◌, ◌==◌, List, [], ◌∷◌, ◌++◌}
use Rattle.std.proofs.Common.{length, take, drop, get_or, cond, refl, sym, ap, ap₂, ◌∙◌, arith, inl, inr, Contains}
use Rattle.std.proofs.lemmas.Bool.{cases_lt, and_parts, lt-ltb, le-ltb}
use Rattle.std.proofs.Math.Bool.{or-true}
use Rattle.std.proofs.lemmas.Bool.Decides.{nat_tests}
use Rattle.std.proofs.lemmas.List.{take-append-drop, get_or-drop, get_or-take, length-take, length-drop}
use Rattle.std.proofs.lemmas.List.Folds.{list_any-append, list_any_none}
use Rattle.std.specs.Cmp.{both_ways}
use Rattle.std.specs.Int.{is_in_range}
use Rattle.std.specs.List.{list_any}
use Rattle.byte_lanes.specs.Sets.{has_byte}
use Rattle.pat_tree.specs.declared.nodes.Part.{Part}
use Rattle.pat_tree.specs.declared.nodes.Part.TheVariants.{Range, Set}
use Rattle.pat_tree.specs.declared.nodes.ClassSpec.{ClassSpec}
use Rattle.ucd_case.specs.CaseFolding.{fold_pairs}
use Rattle.ucd_case.proofs.FoldPairsLemmas.{IsFoldPairs-fold_pairs}
use Rattle.char_sets.specs.declared.named.NamedSet.{NamedSet}
use Rattle.char_sets.specs.declared.runs.Run.{Run}
use Rattle.char_sets.specs.Named.{set_in, set_part_has}
use Rattle.char_sets.specs.Runs.{runs_have, range_part_has, partner_has, letters_have}
use Rattle.char_sets.specs.Sets.{part_has, range_has, folded_has, other_has, takes}
use Rattle.char_sets.specs.Table.{char_in, inside, turned_if}
use Rattle.char_sets.proofs.PairLemmas.{pair_has, some_of, contained}
use Rattle.char_sets.proofs.RunLemmas.{run_has, before_it, after_it}

interchange : (a b c d : Bool) → ((a || b) || (c || d)) ≡ ((a || c) || (b || d))
interchange true b c d = refl
interchange false true true d = refl
interchange false true false d = refl
interchange false false true d = refl
interchange false false false d = refl

pub or_none : (b : Bool) → b ≡ (b || false)
or_none true = refl
or_none false = refl

part_apart : (utf caseless : Bool) (c : ℕ) (part : Part)
    → part_has utf caseless part c ≡ (range_part_has utf caseless c part || set_part_has caseless c part)
part_apart utf caseless c (Range from to) = or_none (range_has utf caseless from to c)
part_apart utf caseless c (Set set reversed ucp) = refl

-- some part holds of c where a range or a set does
parts_apart : (utf caseless : Bool) (c : ℕ) (parts : List Part) →
    list_any (λ part. part_has utf caseless part c)
    parts ≡ (list_any (λ part. range_part_has utf caseless c part) parts || list_any
    (λ part. set_part_has caseless c part) parts)
parts_apart utf caseless c [] = refl
parts_apart utf caseless c (p ∷ ps) =
    ap₂ ◌||◌ (part_apart utf caseless c p) (parts_apart utf caseless c ps)
    ∙ interchange (range_part_has utf caseless c p) (set_part_has caseless c p)
    (list_any (λ part. range_part_has utf caseless c part) ps)
    (list_any (λ part. set_part_has caseless c part) ps)

-- the runs and the sets of a class answer as the class does
pub inside-takes : (utf : Bool) (class : ClassSpec) (runs : List Run) (sets : List NamedSet) (c : ℕ) →
    runs_have runs c ≡ list_any (λ part. range_part_has utf class.caseless c part) class.parts →
    list_any (λ set. set_in set c) sets ≡ list_any (λ part. set_part_has class.caseless c part) class.parts →
    turned_if class.negated (inside runs sets c) ≡ takes utf class c
inside-takes utf class runs sets c ranges named =
    ap (turned_if class.negated) (ap₂ ◌||◌ ranges named ∙ sym (parts_apart utf class.caseless c class.parts))

-- and so does their table
pub char_in-takes : (utf : Bool) (class : ClassSpec) (bytes : List Bool) (runs : List Run) (sets : List NamedSet) →
    ((k : ℕ) → k < 256 → has_byte bytes k ≡ turned_if class.negated (inside runs sets k)) →
    ((c : ℕ) → turned_if class.negated (inside runs sets c) ≡ takes utf class c) →
    (c : ℕ) → char_in (record { bytes = bytes; runs = runs; sets = sets; negated = class.negated }) c ≡ takes utf
    class c
char_in-takes utf class bytes runs sets low all c = elim (cases_lt c 256) [
  | inl byte ↦ ap (λ b. cond b (has_byte bytes c) (turned_if class.negated (inside runs sets c))) (lt-ltb c 256 byte)
      ∙ low c byte ∙ all c
  | inr past ↦ ap (λ b. cond b (has_byte bytes c) (turned_if class.negated (inside runs sets c))) (le-ltb c 256 past)
      ∙ all c
]

-- the pair has a character of the range first, and c after it
abbrev pub partner : ℕ → ℕ → ℕ → ℕ × ℕ → Bool
partner from to c pair = is_in_range from to pair.0 && pair.1 == c

-- a pair is there both ways round
turned : (a b : ℕ) → Contains fold_pairs (a, b) → Contains fold_pairs (b, a)
turned a b at =
    let alike = (IsFoldPairs-fold_pairs a b).0 at in
    (IsFoldPairs-fold_pairs b a).1 (λ e. alike.0 (sym e), sym alike.1)

and_both : (x y : Bool) → x ≡ true → y ≡ true → (x && y) ≡ true
and_both true y a b = b
and_both false y a b = absurd (grind arith)

other_is_partner : (from to c : ℕ) → other_has fold_pairs from to c ≡ partner_has fold_pairs from to c
other_is_partner from to c = both_ways (other_has fold_pairs from to c) (partner_has fold_pairs from to c)
    (λ h.
    let some = some_of (pair_has from to c) fold_pairs h in
    let parts = and_parts (some.0.0 == c) (is_in_range from to some.0.1) some.2 in
    contained (partner from to c) fold_pairs (some.0.1, some.0.0) (turned some.0.0 some.0.1 some.1)
    (and_both (is_in_range from to some.0.1) (some.0.0 == c) parts.1 parts.0))
    (λ h.
    let some = some_of (partner from to c) fold_pairs h in
    let parts = and_parts (is_in_range from to some.0.0) (some.0.1 == c) some.2 in
    contained (pair_has from to c) fold_pairs (some.0.1, some.0.0) (turned some.0.0 some.0.1 some.1)
    (and_both (some.0.1 == c) (is_in_range from to some.0.0) parts.1 parts.0))

pub in_utf : (from to c : ℕ) → folded_has true from to c ≡ (is_in_range from to c || partner_has fold_pairs from to c)
in_utf from to c = ap (λ b. is_in_range from to c || b) (other_is_partner from to c)

pub outside_utf : (from to c : ℕ) → folded_has false from to c ≡ (is_in_range from to c || letters_have from to c)
outside_utf from to c = grind (arith, nat_tests)

-- a run, and then the partners of its characters that lie outside it
pub partners_added : (old pushed new within part : Bool) → pushed ≡ (old || within)
    → (within ≡ false → new ≡ (pushed || part)) → (pushed ≡ true → new ≡ true) → new ≡ (old || (within || part))
partners_added old pushed new true part push more kept = kept (push ∙ or-true old) ∙ sym (or-true old)
partners_added old pushed new false part push more kept = more refl ∙ ap (λ b. b || part) (push ∙ sym (or_none old))

pub pushed_has : (runs : List Run) (run : Run) (c : ℕ)
    → runs_have (runs ++ run ∷ []) c ≡ (runs_have runs c || is_in_range run.from run.to c)
pushed_has runs run c =
    list_any-append (run_has c) runs (run ∷ []) ∙ ap (λ b. runs_have runs c || b) (sym (or_none (run_has c run)))

module _ (pairs : List (ℕ × ℕ)) (from to c : ℕ) where
  too_low : (pair : ℕ × ℕ) → pair.0 < from → partner from to c pair ≡ false
  too_low pair low = ap (λ b. b && pair.1 == c) (before_it from to pair.0 low)

  too_high : (pair : ℕ × ℕ) → to < pair.0 → partner from to c pair ≡ false
  too_high pair high = ap (λ b. b && pair.1 == c) (after_it from to pair.0 high)

  -- pairs that begin before the range have no partner
  pub none_before : (first : ℕ) → ((k : ℕ) (d : ℕ × ℕ) → k < first → (get_or pairs k d).0 < from)
      → partner_has (take first pairs) from to c ≡ false
  none_before first below = list_any_none (partner from to c) (take first pairs) (λ k d lt.
      let short : k < first = omega (arith, lt, length-take first pairs) in
      ap (partner from to c) (get_or-take first pairs k d short) ∙ too_low _ (below k d short))

  -- nor do those that begin past it
  pub none_after : (i : ℕ) → ((k : ℕ) (d : ℕ × ℕ) → i ≤ k → k < length pairs → to < (get_or pairs k d).0)
      → partner_has pairs from to c ≡ partner_has (take i pairs) from to c
  none_after i above =
      ap (λ ps. partner_has ps from to c) (sym (take-append-drop i pairs))
      ∙ list_any-append (partner from to c) (take i pairs) (drop i pairs)
      ∙ ap (λ b. partner_has (take i pairs) from to c || b)
      (list_any_none (partner from to c) (drop i pairs)
      (λ k d lt. ap (partner from to c) (get_or-drop i pairs k d)
      ∙ too_high _ (above (i + k) d (omega arith) (omega (arith, lt, length-drop i pairs)))))
      ∙ sym (or_none (partner_has (take i pairs) from to c))
