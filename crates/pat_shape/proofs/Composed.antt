-- Shapes of parts make shapes of what holds them.
use Rattle.std.proofs.Common.{ℕ, zero, suc, Bool, true, false, List, [], ◌∷◌, Option, None, refl, sym, subst, arith}
use Rattle.pat_tree.specs.declared.nodes.Item.{Item}
use Rattle.pat_tree.specs.declared.nodes.AnchorKind.{AnchorKind}
use Rattle.pat_tree.specs.declared.nodes.Verb.{Verb}
use Rattle.pat_tree.specs.declared.nodes.Verb.TheVariants.{Fail}
use Rattle.pat_tree.specs.Parts.{TreeParts}
use Rattle.pat_tree.specs.Nested as tree
use Rattle.pat_tree.specs.Nested.{Nested, Row, Test, Other, Callout, row}
use Rattle.ordered_search.specs.Stream.{State, Stream, exhausted, by_halt, cut}
use Rattle.ordered_search.specs.Setting.{Setting}
use Rattle.ordered_search.specs.Parts.{in_order, choices, branches, some_set, is_called, is_called_of}
use Rattle.ordered_search.specs.Run.{level, levels, levels_behind, level_test, level_other, run}
use Rattle.ordered_search.proofs.ForwardStreams.{IsOnWay}
use Rattle.ordered_search.proofs.ForwardSearch.{forward_level, forward_run}
use Rattle.regex_hir.specs.Re.{Re, empty, byte_in, alt}
use Rattle.regex_hir.specs.Matches.{Matches}
use Rattle.regex_hir.specs.Meaning.{cat_all, alt_all}
use Rattle.pat_shape.specs.Wide.{Only}
use Rattle.pat_shape.specs.Searches.{IsSearchOf}
use Rattle.pat_shape.specs.IsShape.{IsWider, AreShapes, IsItemShape, IsAnchorShape, IsAnyText, IsOtherShape}
use Rattle.pat_shape.specs.IsShape.{IsPlainTest, GoesOn, IsUpTo, AreRounds}
use Rattle.pat_shape.proofs.Turns.{repeat_turns}
use Rattle.pat_shape.proofs.OnlyStreams.{only_end, only_gives, only_wider}
use Rattle.pat_shape.proofs.WideSearch.{Wide, Counted, Anywhere, wide_one, wide_many, wide_cat, wide_left}
use Rattle.pat_shape.proofs.WideSearch.{wide_right, wide_choice, wide_group, only_repeat, wide_atomic, wide_look}
use Rattle.pat_shape.proofs.WideSearch.{wide_anchor, wide_tests, any_break, any_ref, any_call, wide_fail, wide_verb}
use Rattle.pat_shape.proofs.WideSearch.{wide_callout, only_forward}

module _ (parts : TreeParts) (lined : Bool) where
  abbrev Wider : Nested → Re → Type 0
  Wider = IsWider parts lined

  abbrev Of : Setting → Type 0
  Of = IsSearchOf parts lined

  module _ (g : Setting) (h : Of g) where
    seq_at : (ts : List Nested) (res : List Re) → AreShapes parts lined ts res → (d : ℕ)
        → Wide g h.text (cat_all res) (in_order (levels g (run g d) (row ts)))
    unfolding level in_order run
    seq_at [] [] k d = λ s on. only_gives _ s refl
    seq_at [] (a ∷ res) k d = absurd k
    seq_at (t ∷ ts) [] k d = absurd k
    seq_at (t ∷ ts) (a ∷ res) k d =
        wide_cat g h.text a (cat_all res) (level g (run g d) t) (in_order (levels g (run g d) (row ts)))
        (forward_level g h.text (run g d) (forward_run g h.text d) None t) (k.0.1 g h (suc d)) (seq_at ts res k.1 d)

    choices_at : (ts : List Nested) (res : List Re) → AreShapes parts lined ts res → (d : ℕ)
        → Wide g h.text (alt_all res) (choices g (levels g (run g d) (row ts)))
    unfolding level choices run
    choices_at [] [] k d = λ s on. only_end _ exhausted
    choices_at [] (a ∷ res) k d = absurd k
    choices_at (t ∷ ts) [] k d = absurd k
    choices_at (t ∷ ts) (a ∷ res) k d =
        wide_choice g h.text a (alt_all res) (level g (run g d) t) (levels g (run g d) (row ts)) (k.0.1 g h (suc d))
        (choices_at ts res k.1 d)

    branches_at : (ts : List Nested) (res : List Re) → AreShapes parts lined ts res → (d : ℕ)
        → Wide g h.text (alt_all res) (branches g (levels g (run g d) (row ts)))
    unfolding level branches choices run
    branches_at [] [] k d = λ s on. only_end _ exhausted
    branches_at [] (a ∷ res) k d = absurd k
    branches_at (t ∷ ts) [] k d = absurd k
    branches_at (t ∷ []) (a ∷ []) k d = wide_left g h.text a (byte_in []) (level g (run g d) t) (k.0.1 g h (suc d))
    branches_at (t ∷ []) (a ∷ b ∷ res) k d = absurd k.1
    branches_at (t ∷ u ∷ ts) (a ∷ res) k d =
        wide_choice g h.text a (alt_all res) (level g (run g d) t) (levels g (run g d) (row (u ∷ ts)))
        (k.0.1 g h (suc d)) (choices_at (u ∷ ts) res k.1 d)

    repeat_at : (body : Nested) (a : Re) → Wider body a → (d low : ℕ) (high : Option ℕ) (lazily : Bool)
        → IsUpTo high low → (s : State) → IsOnWay g None s
        → Only (Counted (Matches g.subject a) low high s.place) (run g d (tree.repeat body low high lazily) s)
    unfolding level run
    repeat_at body a k zero low high lazily le s on = only_end _ (by_halt cut)
    repeat_at body a k (suc d) low high lazily le s on =
        only_repeat g h.text (run g d) body lazily (forward_run g h.text d None body) a (k g h d) low high le
        (λ n high' le' t on'. repeat_at body a k d n high' lazily le' t on') s on

    -- what matches between a minimum and a maximum of rounds
    rounds_wide : (a re : Re) (low : ℕ) (high : Option ℕ) → AreRounds low high a re → (s : State) (x : Stream)
        → Only (Counted (Matches g.subject a) low high s.place) x → Only (Matches g.subject re s.place) x
    rounds_wide a re low high r s x k =
        let least = r.1.1.1.0 in
        only_wider (Counted (Matches g.subject a) low high s.place) (Matches g.subject re s.place)
        (λ q c. let le = c.1 in
        subst (λ e. Matches g.subject e s.place q) (sym r.1.1.0)
        (repeat_turns g.subject a r.0 r.1.0 c.0 (omega (arith, le, least)) (r.1.1.1.1 c.0 c.2.1) s.place q c.2.0)) x k

    -- what matches any text
    any_wide : (t : Nested) (re : Re) → IsAnyText parts lined re → (d : ℕ) (s : State) → IsOnWay g None s
        → Only (Anywhere g h.text) (level g (run g d) t s) → Only (Matches g.subject re s.place) (level g (run g d) t s)
    any_wide t re any d s on k =
        only_forward g (Matches g.subject re s.place) s.place (λ q from to. any.1 g h s.place q from to) _
        (forward_level g h.text (run g d) (forward_run g h.text d) None t s on) k

  pub shape_empty : Wider tree.empty empty
  unfolding run level
  shape_empty g h zero s on = only_end _ (by_halt cut)
  shape_empty g h (suc d) s on = only_gives _ s refl

  pub shape_keep : Wider tree.keep_out empty
  unfolding run level
  shape_keep g h zero s on = only_end _ (by_halt cut)
  shape_keep g h (suc d) s on = only_gives _ _ refl

  pub shape_one : (item : Item) (re : Re) → IsItemShape parts lined item re → Wider (tree.one item) re
  unfolding run level
  shape_one item re k g h zero s on = only_end _ (by_halt cut)
  shape_one item re k g h (suc d) s on = wide_one g h.text item re (k.wider g h) s on

  pub shape_many : (item : Item) (a re : Re) (low : ℕ) (high : Option ℕ) (lazily : Bool)
      → IsItemShape parts lined item a → AreRounds low high a re → Wider (tree.one_repeat item low high lazily) re
  unfolding run level
  shape_many item a re low high lazily k r g h zero s on = only_end _ (by_halt cut)
  shape_many item a re low high lazily k r g h (suc d) s on =
      rounds_wide g h a re low high r s _ (wide_many g h.text item a (k.wider g h) low high lazily s on)

  pub shape_seq : (ts : List Nested) (res : List Re) → AreShapes parts lined ts res
      → Wider (tree.seq (row ts)) (cat_all res)
  unfolding run level
  shape_seq ts res k g h zero s on = only_end _ (by_halt cut)
  shape_seq ts res k g h (suc d) s on = seq_at g h ts res k d s on

  pub shape_group : (number : Option ℕ) (ts : List Nested) (res : List Re) → AreShapes parts lined ts res
      → Wider (tree.group number (row ts)) (alt_all res)
  unfolding run level
  shape_group number ts res k g h zero s on = only_end _ (by_halt cut)
  shape_group number ts res k g h (suc d) s on = wide_group g h.text (alt_all res) number _
      (branches_at g h ts res k d) s on

  pub shape_atomic : (ts : List Nested) (res : List Re) → AreShapes parts lined ts res
      → Wider (tree.atomic (row ts)) (alt_all res)
  unfolding run level
  shape_atomic ts res k g h zero s on = only_end _ (by_halt cut)
  shape_atomic ts res k g h (suc d) s on = wide_atomic g h.text (alt_all res) _ (branches_at g h ts res k d) s on

  pub shape_repeat : (body : Nested) (a re : Re) (low : ℕ) (high : Option ℕ) (lazily : Bool) → IsUpTo high low
      → Wider body a → AreRounds low high a re → Wider (tree.repeat body low high lazily) re
  shape_repeat body a re low high lazily le k r g h d s on =
      rounds_wide g h a re low high r s _ (repeat_at g h body a k d low high lazily le s on)

  pub shape_look : (ahead positive once : Bool) (ts : Row) → Wider (tree.look ahead positive once ts) empty
  unfolding run level
  shape_look ahead positive once ts g h zero s on = only_end _ (by_halt cut)
  shape_look true positive once ts g h (suc d) s on =
      wide_look g h.text positive once (branches g (levels g (run g d) ts)) s on
  shape_look false positive once ts g h (suc d) s on =
      wide_look g h.text positive once (branches g (levels_behind g (run g d) ts)) s on

  pub shape_anchor : (kind : AnchorKind) (re : Re) → IsAnchorShape parts lined kind re → Wider (tree.anchor kind) re
  unfolding run level
  shape_anchor kind re k g h zero s on = only_end _ (by_halt cut)
  shape_anchor kind re k g h (suc d) s on = wide_anchor g h.text kind re (k.1 g h) s on

  pub shape_break : (re : Re) → IsAnyText parts lined re → Wider tree.line_break re
  unfolding run level
  shape_break re any g h zero s on = only_end _ (by_halt cut)
  shape_break re any g h (suc d) s on = any_wide g h tree.line_break re any d s on (any_break g h.text s)

  pub shape_ref : (ns : List ℕ) (caseless : Bool) (re : Re) → IsAnyText parts lined re → Wider (tree.ref ns caseless) re
  unfolding run level
  shape_ref ns caseless re any g h zero s on = only_end _ (by_halt cut)
  shape_ref ns caseless re any g h (suc d) s on = any_wide g h (tree.ref ns caseless) re any d s on
      (any_ref g h.text ns caseless s)

  pub shape_call : (n : ℕ) (re : Re) → IsAnyText parts lined re → Wider (tree.call n) re
  unfolding run level
  shape_call n re any g h zero s on = only_end _ (by_halt cut)
  shape_call n re any g h (suc d) s on = any_wide g h (tree.call n) re any d s on (any_call g h.text (run g d) n s)

  pub shape_condition : (test : Test) (first : Nested) (second : Other) (a b : Re) → IsPlainTest test → Wider first a
      → IsOtherShape parts lined second b → Wider (tree.condition test first second) (alt a (alt b (byte_in [])))
  unfolding run level
  shape_condition test first second a b plain k k' g h zero s on = only_end _ (by_halt cut)
  shape_condition test first second a b plain k k' g h (suc d) s on = by_test test plain
    where
      yes' : Only (Matches g.subject (alt a (alt b (byte_in []))) s.place) (level g (run g d) first s)
      yes' = wide_left g h.text a (alt b (byte_in [])) _ (k g h (suc d)) s on

      no' : Only (Matches g.subject (alt a (alt b (byte_in []))) s.place) (level_other g (run g d) second s)
      no' = wide_right g h.text a (alt b (byte_in [])) _ (wide_left g h.text b (byte_in []) _ (k'.1 g h d)) s on

      by_test : (test : Test) → IsPlainTest test → Only (Matches g.subject (alt a (alt b (byte_in []))) s.place)
          (level_test g (run g d) test (level g (run g d) first) (level_other g (run g d) second) s)
      by_test (tree.any_set ns) plain = wide_tests g h.text (alt a (alt b (byte_in []))) (some_set s.caps ns) _ _ s
          yes' no'
      by_test tree.in_call plain = wide_tests g h.text (alt a (alt b (byte_in []))) (is_called s.calls) _ _ s yes' no'
      by_test (tree.in_call_of ns) plain = wide_tests g h.text (alt a (alt b (byte_in []))) (is_called_of s.calls ns)
          _ _ s yes' no'
      by_test tree.never plain = no'
      by_test (tree.assert ahead positive once ts) plain = absurd plain
      by_test (tree.called c t) plain = absurd plain

  pub other_none : (g : Setting) → Of g → (d : ℕ) (s : State) → IsOnWay g None s
      → Only (Matches g.subject empty s.place) (level_other g (run g d) tree.no_other s)
  unfolding level
  other_none g h d s on = only_gives _ s refl

  pub other_some : (t : Nested) (b : Re) → Wider t b → (g : Setting) → Of g → (d : ℕ) (s : State) → IsOnWay g None s
      → Only (Matches g.subject b s.place) (level_other g (run g d) (tree.other t) s)
  unfolding level run
  other_some t b k g h d s on = k g h (suc d) s on

  pub shape_fail : (o : Option ℕ) → Wider (tree.verb (Fail o)) (byte_in [])
  unfolding run level
  shape_fail o g h zero s on = only_end _ (by_halt cut)
  shape_fail o g h (suc d) s on = wide_fail g h.text o s on

  pub shape_verb : (v : Verb) → GoesOn v → Wider (tree.verb v) empty
  unfolding run level
  shape_verb v k g h zero s on = only_end _ (by_halt cut)
  shape_verb v k g h (suc d) s on = wide_verb g h.text v k s on

  pub shape_callout : (c : Callout) → Wider (tree.callout c) empty
  unfolding run level
  shape_callout c g h zero s on = only_end _ (by_halt cut)
  shape_callout c g h (suc d) s on = wide_callout g h.text c s on
