-- Expressions that take no more than parts make such of what holds them.
use Rattle.std.proofs.Common.{ℕ, zero, suc, ◌-◌, Bool, true, List, [], ◌∷◌, Option, None, ◌⊎◌, inl, inr, sym}
use Rattle.pat_tree.specs.declared.nodes.Item.{Item}
use Rattle.pat_tree.specs.Parts.{TreeParts}
use Rattle.pat_tree.specs.Nested as tree
use Rattle.pat_tree.specs.Nested.{Nested, row}
use Rattle.match_items.specs.Items.{one_less}
use Rattle.ordered_search.specs.Stream.{State, Stream, cut}
use Rattle.ordered_search.specs.Setting.{Setting}
use Rattle.ordered_search.specs.Parts.{in_order, choices, branches}
use Rattle.ordered_search.specs.Run.{level, levels, run}
use Rattle.ordered_search.proofs.ForwardStreams.{IsOnWay}
use Rattle.ordered_search.proofs.ForwardSearch.{forward_level, forward_run}
use Rattle.regex_class.specs.Ranges.{in_ranges}
use Rattle.regex_hir.specs.Re.{Re, empty, byte_in, alt}
use Rattle.regex_hir.specs.Matches.{Matches}
use Rattle.regex_hir.specs.Meaning.{cat_all, alt_all, repeat}
use Rattle.pat_shape.specs.Searches.{IsSearchOf}
use Rattle.pat_shape.specs.IsShape.{IsWider, AreShapes, IsUpTo}
use Rattle.pat_shape.specs.Exact.{Full, IsExact, AreExact, IsExactItem, IsSolid}
use Rattle.pat_shape.proofs.Rounds.{repeat_counted}
use Rattle.pat_shape.proofs.FullStreams.{full_fewer, full_none, full_gives, full_halt}
use Rattle.pat_shape.proofs.WideSearch.{Counted}
use Rattle.pat_shape.proofs.ExactSearch.{Exact, exact_one, exact_many, exact_cat, exact_choice, exact_group}
use Rattle.pat_shape.proofs.ExactSearch.{full_repeat}

module _ (parts : TreeParts) (lined : Bool) where
  abbrev Just : Nested → Re → Type 0
  Just = IsExact parts lined

  abbrev Of : Setting → Type 0
  Of = IsSearchOf parts lined

  module _ (g : Setting) (h : Of g) where
    seq_at : (ts : List Nested) (res : List Re) → AreShapes parts lined ts res → AreExact parts lined ts res → (d : ℕ)
        → Exact g h.text (cat_all res) (in_order (levels g (run g d) (row ts)))
    unfolding level in_order run
    seq_at [] [] k x d = λ s on. full_gives (Matches g.subject empty s.place) s (λ e m. sym m)
    seq_at [] (a ∷ res) k x d = absurd k
    seq_at (t ∷ ts) [] k x d = absurd k
    seq_at (t ∷ ts) (a ∷ res) k x d =
        exact_cat g h.text a (cat_all res) (level g (run g d) t) (in_order (levels g (run g d) (row ts)))
        (forward_level g h.text (run g d) (forward_run g h.text d) None t) (k.0.1 g h (suc d)) (x.0 g h (suc d))
        (seq_at ts res k.1 x.1 d)

    -- no branch matches nothing
    nowhere : (p e : ℕ) → ¬ Matches g.subject (byte_in []) p e
    unfolding in_ranges
    nowhere p e m = let none = m.2 in absurd cc

    choices_at : (ts : List Nested) (res : List Re) → AreExact parts lined ts res → (d : ℕ)
        → Exact g h.text (alt_all res) (choices g (levels g (run g d) (row ts)))
    unfolding level choices run
    choices_at [] [] x d = λ s on. full_none (Matches g.subject (byte_in []) s.place) (nowhere s.place)
    choices_at [] (a ∷ res) x d = absurd x
    choices_at (t ∷ ts) [] x d = absurd x
    choices_at (t ∷ ts) (a ∷ res) x d =
        exact_choice g h.text a (alt_all res) (level g (run g d) t) (levels g (run g d) (row ts)) (x.0 g h (suc d))
        (choices_at ts res x.1 d)

    branches_at : (ts : List Nested) (res : List Re) → AreExact parts lined ts res → (d : ℕ)
        → Exact g h.text (alt_all res) (branches g (levels g (run g d) (row ts)))
    unfolding level branches choices run
    branches_at [] [] x d = λ s on. full_none (Matches g.subject (byte_in []) s.place) (nowhere s.place)
    branches_at [] (a ∷ res) x d = absurd x
    branches_at (t ∷ ts) [] x d = absurd x
    branches_at (t ∷ []) (a ∷ []) x d = λ s on.
        full_fewer (Matches g.subject a s.place) (Matches g.subject (alt a (byte_in [])) s.place)
        (λ e m. first s.place e m) _ (x.0 g h (suc d) s on)
      where
        first : (p e : ℕ) → Matches g.subject a p e ⊎ Matches g.subject (byte_in []) p e → Matches g.subject a p e
        first p e (inl m) = m
        first p e (inr m) = absurd (nowhere p e m)
    branches_at (t ∷ []) (a ∷ b ∷ res) x d = absurd x.1
    branches_at (t ∷ u ∷ ts) (a ∷ res) x d =
        exact_choice g h.text a (alt_all res) (level g (run g d) t) (levels g (run g d) (row (u ∷ ts)))
        (x.0 g h (suc d)) (choices_at (u ∷ ts) res x.1 d)

    repeat_at : (body : Nested) (a : Re) → IsWider parts lined body a → Just body a → IsSolid a
        → (d low : ℕ) (high : Option ℕ) (lazily : Bool) → (s : State) → IsOnWay g None s
        → Full (Counted (Matches g.subject a) low high s.place) (run g d (tree.repeat body low high lazily) s)
    unfolding level run
    repeat_at body a k x solid zero low high lazily s on = full_halt _ cut
    repeat_at body a k x solid (suc d) low high lazily s on =
        full_repeat g h.text (run g d) body lazily (forward_run g h.text d None body) a (k g h d) (x g h d)
        (λ i j m. solid g.subject i j m) low high
        (λ t on'. repeat_at body a k x solid d (low - 1) (one_less high) lazily t on') s on

    as_many : (a : Re) (low : ℕ) (high : Option ℕ) → IsUpTo high low → (s : State) (x : Stream)
        → Full (Counted (Matches g.subject a) low high s.place) x
        → Full (Matches g.subject (repeat low high true a) s.place) x
    as_many a low high le s x k =
        full_fewer (Counted (Matches g.subject a) low high s.place) (Matches g.subject (repeat low high true a) s.place)
        (λ e m. repeat_counted g.subject a low high le s.place e m) x k

  pub just_empty : Just tree.empty empty
  unfolding run level
  just_empty g h zero s on = full_halt _ cut
  just_empty g h (suc d) s on = full_gives (Matches g.subject empty s.place) s (λ e m. sym m)

  pub just_one : (item : Item) (re : Re) → IsExactItem parts lined item re → Just (tree.one item) re
  unfolding run level
  just_one item re k g h zero s on = full_halt _ cut
  just_one item re k g h (suc d) s on = exact_one g h.text item re (k g h) s on

  pub just_many : (item : Item) (a : Re) (low : ℕ) (high : Option ℕ) (lazily : Bool) → IsUpTo high low
      → IsExactItem parts lined item a → Just (tree.one_repeat item low high lazily) (repeat low high true a)
  unfolding run level
  just_many item a low high lazily le k g h zero s on = full_halt _ cut
  just_many item a low high lazily le k g h (suc d) s on =
      as_many g h a low high le s _ (exact_many g h.text item a (k g h) low high lazily s on)

  pub just_seq : (ts : List Nested) (res : List Re) → AreShapes parts lined ts res → AreExact parts lined ts res
      → Just (tree.seq (row ts)) (cat_all res)
  unfolding run level
  just_seq ts res k x g h zero s on = full_halt _ cut
  just_seq ts res k x g h (suc d) s on = seq_at g h ts res k x d s on

  pub just_group : (number : Option ℕ) (ts : List Nested) (res : List Re) → AreExact parts lined ts res
      → Just (tree.group number (row ts)) (alt_all res)
  unfolding run level
  just_group number ts res x g h zero s on = full_halt _ cut
  just_group number ts res x g h (suc d) s on = exact_group g h.text (alt_all res) number _
      (branches_at g h ts res x d) s on

  pub just_repeat : (body : Nested) (a : Re) (low : ℕ) (high : Option ℕ) (lazily : Bool) → IsUpTo high low
      → IsWider parts lined body a → Just body a → IsSolid a
      → Just (tree.repeat body low high lazily) (repeat low high true a)
  just_repeat body a low high lazily le k x solid g h d s on =
      as_many g h a low high le s _ (repeat_at g h body a k x solid d low high lazily s on)
