-- What a finished tree and a subject are to the machine.
use Rattle.std.proofs.Common.{◌≡◌, ℕ, ◌<◌, ◌≤◌, ℤ, true, List, Option, Some, None, refl, arith}
use Rattle.pat_tree.specs.declared.nodes.Item.{Item}
use Rattle.pat_tree.specs.declared.options.MatchOptions.{MatchOptions}
use Rattle.pat_tree.specs.Parts.{TreeParts}
use Rattle.char_sets.specs.Table.{CharSet}
use Rattle.pcre_io.specs.declared.callouts.Block.{Block}
use Rattle.match_items.specs.Items.{after_item, after_break, after_ref, place_before}
use Rattle.match_items.specs.Laws.{StandsAlong}
use Rattle.match_items.specs.Subjects.{IsTextPlace}
use Rattle.frame_state.specs.ordered_search.Setting.{lower_of}
use Rattle.frame_state.specs.Behind.{place_back}
use Rattle.frame_board.specs.Standing.{place_of, standing_of, back_stands}
use Rattle.frame_state.specs.Ground.{Ground, IsGround, StandsIf}
use Rattle.frame_board.specs.Ready.{IsBoardSearch, ground_in}

lower_few : (o : Option ℕ) (l : ℕ) → l ≤ 4294967295 → lower_of o l ≤ 4294967295
lower_few None l h = h
lower_few (Some k) l h = omega (arith, h)

-- there is no place, or one that stands
stands_if : (c : Ground) (o : Option ℕ) → ((q : ℕ) → o ≡ Some q → c.stands q ≡ true) → StandsIf c o
stands_if c None h = tt
stands_if c (Some q) h = h q refl

module _ (t : TreeParts) (table : List CharSet) (matching : MatchOptions) (subject : List ℕ) (start : ℕ)
    (answers : Block → ℤ)
    (h : IsBoardSearch t table matching subject) where
  abbrev board : Ground
  board = ground_in t matching subject start answers

  along : StandsAlong board.setting.scene
  along = h.along board.setting.scene h.searched

  at : (p : ℕ) → board.stands p ≡ true → IsTextPlace t.options subject p
  at p e = place_of t.options subject p e

  standing : (p : ℕ) → IsTextPlace t.options subject p → board.stands p ≡ true
  standing p e = standing_of t.options subject p e

  forward : (item : Item) (p q : ℕ) → board.stands p ≡ true → after_item board.setting.scene item p ≡ Some q →
      (p < q) × (board.stands q ≡ true) × (place_before board.setting.scene q ≡ p)
  forward item p q here e = let f = along.forward item p q (at p here) e in (f.0, standing q f.1, f.2)

  backward : (p : ℕ) → board.stands p ≡ true → 0 < p → (place_before board.setting.scene p < p)
      × (board.stands (place_before board.setting.scene p) ≡ true)
  backward p here some = let b = along.backward p (at p here) some in
      (b.0, standing (place_before board.setting.scene p) b.1)

  steps_back : (n p : ℕ) → board.stands p ≡ true → StandsIf board (place_back board.setting.scene n p)
  steps_back n p here =
      stands_if board (place_back board.setting.scene n p)
      (λ q e. back_stands board.setting.scene (λ r. board.stands r ≡ true)
      (λ r there some. (backward r there some).1) n p q here e)

  pub ground_is : IsGround board
  ground_is = record {
    measured = h.measured;
    whole = refl;
    last = h.last;
    whole_under = h.root_under;
    whole_alone = h.branches.whole;
    whole_unlooked = h.look_branches.whole;
    spans = λ q. omega arith;
    chained = λ q p ps le e. h.chained q p ps e;
    few = lower_few t.options.match_limit matching.match_limit h.few;
    registers = h.groups;
    short = h.searched.short;
    within = λ p here. (at p here).within;
    forward = forward;
    breaks = λ p here. stands_if board (after_break board.setting.scene p)
        (λ q e. standing q (along.breaks p q (at p here) e));
    refers = λ from to p caseless a b here.
        stands_if board (after_ref board.setting.scene from to caseless p)
        (λ q e. standing q (along.refers from to p q caseless (at p here) e));
    steps_back = steps_back;
    backward = backward;
  }
