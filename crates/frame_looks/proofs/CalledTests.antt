-- The steps of the machine at a callout before the lookaround of a condition.
use Rattle.std.proofs.Common.{◌≡◌, ◌∙◌, ℕ, ℤ, Bool, true, false, List, [], ◌∷◌, Option, Result, Ok, Err, IfOk, IfErr}
use Rattle.std.proofs.Common.{refl, sym, ap, arith}
use Rattle.pat_tree.specs.declared.nodes.Node.TheVariants as node
use Rattle.pat_tree.specs.Nested as tree
use Rattle.pcre_io.specs.declared.callouts.Block.{Block}
use Rattle.pcre_io.specs.Called.{SeenGrows}
use Rattle.frame_store.specs.Captures.{Captures}
use Rattle.frame_store.specs.Entry.{Entry}
use Rattle.ordered_search.specs.Stream as search
use Rattle.ordered_search.specs.Stream.{shown}
use Rattle.ordered_search.specs.Moves.{Moves, pause, noted}
use Rattle.ordered_search.specs.Paths.{answered}
use Rattle.frame_state.specs.declared.machine.Next.{Next}
use Rattle.frame_state.specs.declared.machine.Next.TheVariants.{Enter, Back}
use Rattle.frame_state.specs.declared.machine.Spot.{Spot}
use Rattle.frame_state.specs.declared.machine.Stop.{Stop}
use Rattle.frame_state.specs.Ground.{Ground, tree_of, IsNode, IsGround}
use Rattle.frame_state.specs.Machine.{Conf, conf}
use Rattle.frame_state.specs.Frames.{fail, ahead}
use Rattle.frame_looks.specs.Conditions.{IsAsserted, IsLook}
use Rattle.frame_state.specs.Shown.{callout_at, block_at, shown_as, IsReplied, IsFollowed, IsCallStop}
use Rattle.frame_state.specs.Stops.{tells, IsStop}
use Rattle.frame_state.specs.Over.{IsStopOver, in_all, AdvancesOver, GoesBy, tested_ahead}
use Rattle.frame_state.specs.Validity.{IsValid}
use Rattle.frame_state.proofs.CalloutTurns.{over_told, over_more, call_stop}
use Rattle.frame_looks.proofs.CondTurns.{calls_first, is_tested, called_is}

module _ (c : Ground) (ok : IsGround c) (q : ℕ) (spot : Spot) (stack : List Entry) (caps : Captures)
    (v : IsValid c (conf (Enter q) spot stack caps)) (answer : Block → ℤ) (replied : IsReplied c.setting answer)
    (p : ℕ) (asserted : IsAsserted c q p) (ks : List ℕ) (i : IsNode c p (node.Seq ks)) (a r : ℕ)
    (is : ks ≡ a ∷ r ∷ []) (number from to at len : ℕ) (j : IsNode c a (node.Callout number from to at len))
    (forward positive : Bool) (bs : List ℕ) (l : IsLook c r forward positive bs) where
  abbrev pub b : search.Block
  b = block_at (callout_at number from to at len) spot

  abbrev z : Moves
  z = tested_ahead c q r positive bs spot stack caps

  abbrev f : Moves
  f = fail c stack caps

  at_test : ahead c (conf (Enter q) spot stack caps) ≡ pause (noted (shown b) (answered (answer (shown_as b)) z f))
  at_test =
      calls_first c ok q spot stack caps v p asserted (callout_at number from to at len) r bs forward positive l
      (called_is c p ks i (is_tested c ok q spot stack caps v p asserted) a r is
      ∙ ap (λ t. tree.seq (tree.more t (tree.more (tree_of c r) tree.none))) (sym j.is))
      ∙ ap (λ n. pause (noted (shown b) (answered n z f))) (replied b)

  -- it stops the machine
  pub stop_called : (old new : Option (List Block)) (x : Stop)
      → IsCallStop x (answer (shown_as b)) old new (shown_as b) →
      IsStopOver x spot caps new (in_all old (tells c.setting spot (ahead c (conf (Enter q) spot stack caps))))
  stop_called old new x h = call_stop c old new b spot caps _ z f (answer (shown_as b)) at_test x h

  module _ (old new : Option (List Block)) (grows : SeenGrows old new (shown_as b)) where
    -- the condition fails
    pub called_fails : IsFollowed (answer (shown_as b)) false
        → AdvancesOver c old new (conf (Enter q) spot stack caps) (conf Back spot stack caps)
    called_fails followed =
        over_more c old new b spot _ f (at_test ∙ ap (λ y. pause (noted (shown b) y)) (followed z f)) grows
        (conf Back spot stack caps) refl (omega arith) _ refl refl
        (record { running = tt; records = v.records; spans = v.spans; slots = v.slots })

    -- the test is run
    module _ (followed : IsFollowed (answer (shown_as b)) true) where
      at_look : ahead c (conf (Enter q) spot stack caps) ≡ pause (noted (shown b) z)
      at_look = at_test ∙ ap (λ y. pause (noted (shown b) y)) (followed z f)

      pub called_goes : (n : Next → Conf) (x : Result Next Stop) → IfOk x (λ next. GoesBy c spot z (n next))
          → IfOk x (λ next. AdvancesOver c old new (conf (Enter q) spot stack caps) (n next))
      called_goes n (Ok next) g = over_more c old new b spot _ z at_look grows (n next) g.answer
          (omega (arith, g.shorter)) _ refl refl g.valid
      called_goes n (Err x) g = g

      pub called_stops : {A : Type 0} (to : Spot) (now : Captures) (x : Result A Stop)
          → IfErr x (λ s. IsStop s to now (tells c.setting spot z)) →
          IfErr x (λ s. IsStopOver s to now new
          (in_all old (tells c.setting spot (ahead c (conf (Enter q) spot stack caps)))))
      called_stops to now (Ok y) h = h
      called_stops to now (Err s) h = record {
        left = tells c.setting spot z;
        whole = over_told c old new b spot _ z at_look grows;
        is = h;
      }
