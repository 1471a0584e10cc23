-- The numbers of groups, as groups begin and end and alternatives follow each other.
use Rattle.std.proofs.Common.{Bool, true, false, ◌||◌, ◌==◌, max, ◌≡◌, ℕ, zero, suc, ◌+◌, ◌≤◌, List, [], ◌∷◌, ◌++◌}
use Rattle.std.proofs.Common.{Option, Some, None, refl, sym, ap, ◌∙◌, arith, All}
use Rattle.std.proofs.lemmas.Bool.Decides.{nat_tests}
use Rattle.std.proofs.lemmas.List.Folds.{list_any-append}
use Rattle.std.proofs.lemmas.List.Elements.{All-push, All-pop, All-nil, All-weaker}
use Rattle.pat_tree.specs.declared.nodes.Placed.{Placed}
use Rattle.pat_tree.specs.declared.names.NameEntry.{NameEntry}
use Rattle.pat_tree.specs.Parts.{DraftParts}
use Rattle.pat_tree.specs.Refs.{has_group}
use Rattle.pat_tree.specs.Rules.{number_in}
use Rattle.pat_nodes.specs.declared.frames.Frame.{Frame}
use Rattle.pat_grammar.specs.declared.alternatives.Numbering.{Numbering}
use Rattle.pat_grammar.specs.declared.alternatives.Numbering.TheVariants.{Onward, Reset}
use Rattle.pat_grammar.specs.Groups.{is_opened, next_numbering, groups_before, groups_after}
use Rattle.pat_nodes.specs.Nodes.{Adds, is_number}
use Rattle.pat_build.specs.Machine.{number_in_frame, is_open, greatest_of, greatest_in, greatest_given, IsFair}
use Rattle.pat_build.specs.Machine.{outermost, Numbers, IsGiven, Numbered}
use Rattle.pat_nodes.proofs.References.{or_false}

or_assoc : (a b c : Bool) → ((a || b) || c) ≡ (a || (b || c))
or_assoc true b c = refl
or_assoc false b c = refl

or_swap : (b c : Bool) → (b || c) ≡ (c || b)
or_swap true true = refl
or_swap true false = refl
or_swap false true = refl
or_swap false false = refl

open_push : (fs : List Frame) (f : Frame) (n : ℕ) → is_open (fs ++ f ∷ [])
    n ≡ (is_open fs n || is_number (number_in_frame f) n)
open_push fs f n = list_any-append (λ g. is_number (number_in_frame g) n) fs (f ∷ [])
    ∙ ap (λ b. is_open fs n || b) (or_false (is_number (number_in_frame f) n))

greatest_push : (fs : List Frame) (f : Frame) → greatest_in (fs ++ f ∷ []) ≡ max (greatest_in fs)
    (greatest_of f.numbering)
greatest_push [] f = omega arith
greatest_push (g ∷ fs) f = omega (arith, greatest_push fs f)

outermost_push : (fs : List Frame) (f : Frame) (inner : Numbering)
    → outermost (fs ++ f ∷ []) inner ≡ outermost fs f.numbering
outermost_push [] f inner = refl
outermost_push (g ∷ fs) f inner = refl

-- the greatest number that was given, where the next alternative begins
pub greatest_next : (fs : List Frame) (numbering : Numbering) (groups : ℕ) → IsFair numbering →
    greatest_given fs numbering groups ≡ greatest_given fs (next_numbering numbering groups)
    (groups_before numbering groups)
greatest_next fs Onward groups fair = refl
greatest_next fs (Reset base greatest) groups fair = omega (arith, fair)

-- where a group begins
pub greatest_enter : (fs after_fs : List Frame) (f : Frame) (inner : Numbering) (groups after : ℕ) (number : Option ℕ)
    → after_fs ≡ fs ++ f ∷ [] → Numbered groups number inner after →
    greatest_given fs f.numbering groups ≤ greatest_given after_fs inner after
greatest_enter fs after_fs f Onward groups after None pushed numbered =
    omega (arith, ap greatest_in pushed, greatest_push fs f, numbered)
greatest_enter fs after_fs f (Reset base greatest) groups after None pushed numbered =
    omega (arith, ap greatest_in pushed, greatest_push fs f, numbered.0, numbered.1, numbered.2)
greatest_enter fs after_fs f Onward groups after (Some m) pushed numbered =
    omega (arith, ap greatest_in pushed, greatest_push fs f, numbered.1)
greatest_enter fs after_fs f (Reset base greatest) groups after (Some m) pushed numbered = absurd numbered

-- where a group ends
pub greatest_close : (fs front : List Frame) (f : Frame) (numbering : Numbering) (groups : ℕ) → fs ≡ front ++ f ∷ [] →
    greatest_given fs numbering groups ≡ greatest_given front f.numbering (groups_after numbering groups)
greatest_close fs front f Onward groups popped = omega (arith, ap greatest_in popped, greatest_push front f)
greatest_close fs front f (Reset base greatest) groups popped =
    omega (arith, ap greatest_in popped, greatest_push front f)

-- names that were given stay so
pub given_on : (a b : ℕ) (names : List NameEntry) → a ≤ b → All (IsGiven a) names → All (IsGiven b) names
given_on a b names more all = All-weaker (IsGiven a) (IsGiven b) (λ e h. (h.0, omega (arith, more, h.1))) names all

none_opened : (n : ℕ) → false ≡ is_opened 0 n
none_opened n = grind (arith, nat_tests)

opened_more : (t u g n : ℕ) → u ≡ max t (g + 1) → g ≤ t → (is_opened t n || ((g + 1) == n)) ≡ is_opened u n
opened_more t u g n e h = grind (arith, nat_tests)

-- the draft has the same groups
pub numbers_on : {a b : List Placed} {fs : List Frame} {numbering : Numbering} {groups : ℕ}
    → ((n : ℕ) → has_group b n ≡ has_group a n) → Numbers a fs numbering groups → Numbers b fs numbering groups
numbers_on {a} {b} {fs} same s = record {
  each = λ n. ap (λ x. x || is_open fs n) (same n) ∙ s.each n;
  fair = s.fair;
  all_fair = s.all_fair;
  onward = s.onward;
}

-- nodes that are no group leave the numbers as they are
pub numbers_kept : {old new : DraftParts} {fs : List Frame} {numbering : Numbering} {groups : ℕ} → Adds old new
    → Numbers old.nodes fs numbering groups → Numbers new.nodes fs numbering groups
numbers_kept adds s = numbers_on adds.groups s

fair_next : (numbering : Numbering) (groups : ℕ) → IsFair numbering → IsFair (next_numbering numbering groups)
fair_next Onward groups fair = tt
fair_next (Reset base greatest) groups fair = omega (arith, fair)

outermost_next : (fs : List Frame) (numbering : Numbering) (groups : ℕ) → outermost fs numbering ≡ Onward
    → outermost fs (next_numbering numbering groups) ≡ Onward
outermost_next [] Onward groups h = refl
outermost_next [] (Reset base greatest) groups h = absurd cc
outermost_next (f ∷ fs) numbering groups h = h

-- the next alternative begins
pub numbers_next : {a : List Placed} {fs : List Frame} {numbering : Numbering} {groups : ℕ}
    → Numbers a fs numbering groups → Numbers a fs (next_numbering numbering groups) (groups_before numbering groups)
numbers_next {a} {fs} {numbering} {groups} s = record {
  each = λ n. s.each n ∙ ap (λ t. is_opened t n) (greatest_next fs numbering groups s.fair);
  fair = fair_next numbering groups s.fair;
  all_fair = s.all_fair;
  onward = outermost_next fs numbering groups s.onward;
}

fair_enter : (groups : ℕ) (number : Option ℕ) (inner : Numbering) (after : ℕ) → Numbered groups number inner after
    → IsFair inner
fair_enter groups number Onward after numbered = tt
fair_enter groups None (Reset base greatest) after numbered = omega (arith, numbered.0, numbered.1)
fair_enter groups (Some m) (Reset base greatest) after numbered = absurd numbered

-- the numbers up to the greatest, where a group begins
opened_enter : (fs : List Frame) (f : Frame) (groups : ℕ) (number : Option ℕ) (inner : Numbering) (after n : ℕ)
    → Numbered groups number inner after →
    (is_opened (greatest_given fs f.numbering groups) n || is_number number n) ≡ is_opened
    (greatest_given (fs ++ f ∷ []) inner after) n
opened_enter fs f groups None Onward after n numbered =
    let e : greatest_given fs f.numbering groups ≡ greatest_given (fs ++ f ∷ []) Onward after =
    omega (arith, greatest_push fs f, numbered) in
    or_false (is_opened (greatest_given fs f.numbering groups) n) ∙ ap (λ t. is_opened t n) e
opened_enter fs f groups None (Reset base greatest) after n numbered =
    let e : greatest_given fs f.numbering groups ≡ greatest_given (fs ++ f ∷ []) (Reset base greatest) after =
    omega (arith, greatest_push fs f, numbered.0, numbered.1, numbered.2) in
    or_false (is_opened (greatest_given fs f.numbering groups) n) ∙ ap (λ t. is_opened t n) e
opened_enter fs f groups (Some m) Onward after n numbered =
    let t : ℕ = greatest_given fs f.numbering groups in
    let u : ℕ = greatest_given (fs ++ f ∷ []) Onward after in
    let e : u ≡ max t (groups + 1) = omega (arith, greatest_push fs f, numbered.1) in
    ap (λ k. is_opened t n || (k == n)) numbered.0 ∙ opened_more t u groups n e (omega arith)
opened_enter fs f groups (Some m) (Reset base greatest) after n numbered = absurd numbered

-- a group begins
pub numbers_enter : {a : List Placed} {fs : List Frame} {groups : ℕ} (f : Frame) (inner : Numbering) (after : ℕ)
    → Numbered groups (number_in_frame f) inner after →
    Numbers a fs f.numbering groups → Numbers a (fs ++ f ∷ []) inner after
numbers_enter {a} {fs} {groups} f inner after numbered s = record {
  each = λ n.
      ap (λ b. has_group a n || b) (open_push fs f n)
      ∙ sym (or_assoc (has_group a n) (is_open fs n) (is_number (number_in_frame f) n))
      ∙ ap (λ b. b || is_number (number_in_frame f) n) (s.each n)
      ∙ opened_enter fs f groups (number_in_frame f) inner after n numbered;
  fair = fair_enter groups (number_in_frame f) inner after numbered;
  all_fair = All-push (λ g. IsFair g.numbering) fs f s.all_fair s.fair;
  onward = outermost_push fs f inner ∙ s.onward;
}

-- a group ends
pub numbers_close : {a b : List Placed} {fs : List Frame} {numbering : Numbering} {groups : ℕ} (front : List Frame)
    (f : Frame) → fs ≡ front ++ f ∷ [] →
    ((n : ℕ) → has_group b n ≡ (has_group a n || is_number (number_in_frame f) n)) → Numbers a fs numbering groups
    → Numbers b front f.numbering (groups_after numbering groups)
numbers_close {a} {b} {fs} {numbering} {groups} front f popped grown s =
    let rest = All-pop (λ g. IsFair g.numbering) fs front (Some f) popped s.all_fair in record {
      each = λ n.
          ap (λ x. x || is_open front n) (grown n) ∙ or_assoc (has_group a n) (is_number (number_in_frame f) n)
          (is_open front n)
          ∙ ap (λ x. has_group a n || x) (or_swap (is_number (number_in_frame f) n) (is_open front n)
          ∙ sym (open_push front f n))
          ∙ ap (λ l. has_group a n || is_open l n) (sym popped) ∙ s.each n
          ∙ ap (λ t. is_opened t n) (greatest_close fs front f numbering groups popped);
      fair = rest.1;
      all_fair = rest.0;
      onward = sym (outermost_push front f numbering) ∙ ap (λ l. outermost l numbering) (sym popped) ∙ s.onward;
    }

-- where no group is open, the greatest number that was given is the last
pub greatest_end : (numbering : Numbering) (groups : ℕ) → numbering ≡ Onward
    → greatest_given [] numbering groups ≡ groups
greatest_end Onward groups h = omega arith
greatest_end (Reset base greatest) groups h = absurd cc

pub numbers_end : {a : List Placed} {numbering : Numbering} {groups : ℕ} → Numbers a [] numbering groups → (n : ℕ)
    → has_group a n ≡ is_opened groups n
numbers_end {a} {numbering} {groups} s n = sym (or_false (has_group a n)) ∙ s.each n
    ∙ ap (λ t. is_opened t n) (greatest_end numbering groups s.onward)

pub numbers_none : Numbers [] [] Onward 0
numbers_none = record {
  each = λ n. none_opened n;
  fair = tt;
  all_fair = All-nil (λ f. IsFair f.numbering);
  onward = refl;
}

not_both : (b : Bool) → b ≡ true → b ≡ false → ⊥
not_both true h k = cc
not_both false h k = cc

or_true : (b : Bool) → (b || true) ≡ true
or_true true = refl
or_true false = refl

-- an open group that captures has a number from 1 on
pub frame_numbered : {a : List Placed} {fs : List Frame} {numbering : Numbering} {groups : ℕ} (front : List Frame)
    (f : Frame) → fs ≡ front ++ f ∷ [] → Numbers a fs numbering groups →
    All (λ n. 1 ≤ n) (number_in (number_in_frame f))
frame_numbered {a} {fs} {numbering} {groups} front f popped s =
    elim (number_in_frame f) as (λ number. number_in_frame f ≡ number → All (λ n. 1 ≤ n) (number_in number)) [
      | None ↦ λ e. All-nil (λ n. 1 ≤ n)
      | Some k ↦ λ e. All-push (λ n. 1 ≤ n) [] k (All-nil (λ n. 1 ≤ n))
          (elim k as (λ j. number_in_frame f ≡ Some j → 1 ≤ j) [
            | zero ↦ λ z. absurd (let open_at : is_open fs 0 ≡ true = ap (λ l. is_open l 0) popped ∙ open_push front f 0
                ∙ ap (λ v. is_open front 0 || is_number v 0) z ∙ or_true (is_open front 0) in
                not_both (has_group a 0 || is_open fs 0) (ap (λ b. has_group a 0 || b) open_at
                ∙ or_true (has_group a 0))
                (s.each 0))
            | suc j ↦ λ z. omega arith
          ] e)
    ] refl
