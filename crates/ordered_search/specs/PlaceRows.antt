-- Worked rows of a search at one place: a stream, and the limits on both sides.
use Rattle.std.specs.Prelude.{◌≡◌, ℕ, true, false, List, [], ◌∷◌, codes, Some, None}
use Rattle.pat_tree.specs.declared.nodes.Item.TheVariants.{Char}
use Rattle.pat_tree.specs.declared.nodes.AnchorKind.TheVariants.{Caret, Dollar}
use Rattle.pat_tree.specs.Nested.{seq, group, repeat, one_repeat, atomic, look, call, anchor, none}
use Rattle.frame_store.specs.Captures.{Captures}
use Rattle.ordered_search.specs.Stream.{first_state, exhausted, reached, state, step, ends, ◌▸◌}
use Rattle.ordered_search.specs.Setting.{Setting}
use Rattle.ordered_search.specs.Tests.{move_to}
use Rattle.ordered_search.specs.Run.{run}
use Rattle.ordered_search.specs.PlaceAnswer.{PlaceAnswer, Matched, MatchLimit, FrameLimit, place_answer}
use Rattle.ordered_search.specs.Written.{◌&◌, ◌⨾◌, text, search, steps, units, span}

abbrev pub found : ℕ → ℕ → Captures → PlaceAnswer
found p q caps = Matched (record { keep = p; to = q; mark = None; caps = caps })

-- each of these searches gives its answer at its place
abbrev pub Answered : List (Setting × ℕ × PlaceAnswer) → Type 0
Answered [] = Unit {0}
Answered (r ∷ rs) = ((place_answer r.0 r.1).answer ≡ r.2) × Answered rs

-- The match limit counts Steps.

abbrev pub match_limits : List (Setting × ℕ × PlaceAnswer)
match_limits =
    -- `(?:ab)*c` on `ababc` at 0
    (
      steps 3 (search 0 (seq (repeat (group None (text "ab" & none)) 0 None false & "c" ⨾ none) & none)
          (codes "ababc")),
      0,
      found 0 5 [],
    )
    -- `(?:ab)*c` on `ababc` at 0
    ∷ (
      steps 2 (search 0 (seq (repeat (group None (text "ab" & none)) 0 None false & "c" ⨾ none) & none)
          (codes "ababc")),
      0,
      MatchLimit,
    )
    -- `(?:a|b)*c` on `aaac` at 0
    ∷ (
      steps 9 (search 0 (seq (repeat (group None (text "a" & text "b" & none)) 0 None false & "c" ⨾ none) & none)
          (codes "aaac")),
      0,
      found 0 4 [],
    )
    -- `(?:a|b)*c` on `aaac` at 0
    ∷ (
      steps 8 (search 0 (seq (repeat (group None (text "a" & text "b" & none)) 0 None false & "c" ⨾ none) & none)
          (codes "aaac")),
      0,
      MatchLimit,
    )
    -- `(?:a|b)*?c` on `aaac` at 0
    ∷ (
      steps 6 (search 0 (seq (repeat (group None (text "a" & text "b" & none)) 0 None true & "c" ⨾ none) & none)
          (codes "aaac")),
      0,
      found 0 4 [],
    )
    -- `(?:a|b)*?c` on `aaac` at 0
    ∷ (
      steps 5 (search 0 (seq (repeat (group None (text "a" & text "b" & none)) 0 None true & "c" ⨾ none) & none)
          (codes "aaac")),
      0,
      MatchLimit,
    )
    -- `^((?>a(?1)?b))$` on `aaabbb` at 0
    ∷ (
      steps 6 (search 1
          (seq (anchor (Caret false) & group (Some 1)
          (atomic (seq ("a" ⨾ repeat (call 1) 0 (Some 1) false & "b" ⨾ none) & none) & none) & anchor
          (Dollar false false) & none) & none) (codes "aaabbb")),
      0,
      found 0 6 (span 0 6 ∷ []),
    )
    -- `^((?>a(?1)?b))$` on `aaabbb` at 0
    ∷ (
      steps 5 (search 1
          (seq (anchor (Caret false) & group (Some 1)
          (atomic (seq ("a" ⨾ repeat (call 1) 0 (Some 1) false & "b" ⨾ none) & none) & none) & anchor
          (Dollar false false) & none) & none) (codes "aaabbb")),
      0,
      MatchLimit,
    )
    -- `(a(?=(?1)?))` on `aaa` at 0
    ∷ (
      steps 6 (search 1
          (group (Some 1) (seq ("a" ⨾ look true true true (repeat (call 1) 0 (Some 1) false & none) & none) & none)
          & none) (codes "aaa")),
      0,
      found 0 1 (span 0 1 ∷ []),
    )
    -- `(a(?=(?1)?))` on `aaa` at 0
    ∷ (
      steps 5 (search 1
          (group (Some 1) (seq ("a" ⨾ look true true true (repeat (call 1) 0 (Some 1) false & none) & none) & none)
          & none) (codes "aaa")),
      0,
      MatchLimit,
    )
    -- `(a+)*zz` on `aaaaaaaaaaaaaaaaaaaaaaaaaaaaaa` at 0
    ∷ (
      steps 1000
          (search 1 (seq (repeat (group (Some 1) (one_repeat (Char 97 false) 1 None false & none)) 0 None false & "zz"
          ⨾ none) & none) (codes "aaaaaaaaaaaaaaaaaaaaaaaaaaaaaa")),
      0,
      MatchLimit,
    )
    -- `(?<=a{1,2})b` on `aab` at 2
    ∷ (
      steps 2 (search 0 (seq (look false true true (one_repeat (Char 97 false) 1 (Some 2) false & none) & "b" ⨾ none)
          & none) (codes "aab")),
      2,
      found 2 3 [],
    )
    -- `(?<=a{1,2})b` on `aab` at 2
    ∷ (
      steps 1 (search 0 (seq (look false true true (one_repeat (Char 97 false) 1 (Some 2) false & none) & "b" ⨾ none)
          & none) (codes "aab")),
      2,
      MatchLimit,
    )
    ∷ []

-- The frame limit counts the units of a path.

abbrev pub frame_limits : List (Setting × ℕ × PlaceAnswer)
frame_limits =
    -- `(a)` on `a` at 0
    (units 2 (search 1 (group (Some 1) (text "a" & none) & none) (codes "a")), 0, found 0 1 (span 0 1 ∷ []))
    -- `(a)` on `a` at 0
    ∷ (units 1 (search 1 (group (Some 1) (text "a" & none) & none) (codes "a")), 0, FrameLimit)
    -- `(?:b|(a))` on `a` at 0
    ∷ (
      units 2 (search 1 (group None (text "b" & group (Some 1) (text "a" & none) & none) & none) (codes "a")),
      0,
      found 0 1 (span 0 1 ∷ []),
    )
    -- `(?:b|(a))` on `a` at 0
    ∷ (
      units 1 (search 1 (group None (text "b" & group (Some 1) (text "a" & none) & none) & none) (codes "a")),
      0,
      FrameLimit,
    )
    -- `(?<=a{1,2})b` on `aab` at 2
    ∷ (
      units 4 (search 0 (seq (look false true true (one_repeat (Char 97 false) 1 (Some 2) false & none) & "b" ⨾ none)
          & none) (codes "aab")),
      2,
      found 2 3 [],
    )
    -- `(?<=a{1,2})b` on `aab` at 2
    ∷ (
      units 3 (search 0 (seq (look false true true (one_repeat (Char 97 false) 1 (Some 2) false & none) & "b" ⨾ none)
          & none) (codes "aab")),
      2,
      FrameLimit,
    )
    ∷ []

-- `a|b` on `b`
abbrev pub either_letter : Setting
either_letter = search 0 (text "a" & text "b" & none) (codes "b")

pub record WorkedRows : Type 0 where
  -- a stream: the first branch fails, the second one takes the letter
  pub stream : run either_letter 1 either_letter.whole (first_state 0 0) ≡ step ▸
      (step ▸ (state reached (move_to 1 (first_state 0 0)) ▸ ends exhausted))
  pub match_limits_answered : Answered match_limits
  pub frame_limits_answered : Answered frame_limits
