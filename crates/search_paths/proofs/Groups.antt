-- Without its pauses a path of a group, a repeat, a lookaround or a condition is the search of the
-- definitions before what follows.
use Rattle.std.proofs.Common.{◌≡◌, ℕ, zero, suc, ◌-◌, ◌∙◌, Bool, true, false, List, [], ◌∷◌, drop, reverse, Option}
use Rattle.std.proofs.Common.{Some, None, refl, sym, ap}
use Rattle.std.specs.Prelude.{ℤ, pos, negsuc, ◌==◌}
use Rattle.pat_tree.specs.Nested as tree
use Rattle.pat_tree.specs.Nested.{Nested, Row}
use Rattle.match_items.specs.Items.{one_less, longest_run, places_back}
use Rattle.pat_lengths.specs.Lengths.{SomeLengths}
use Rattle.ordered_search.specs.Stream.{State, How, reached, accepted, Stream, Search, nothing, gives, ◌or_else◌}
use Rattle.ordered_search.specs.Stream.{each, go_on, and_then, catch, is_next_branch, captured, decide, no_ending}
use Rattle.ordered_search.specs.Stream.{fails_alone, fails_inside}
use Rattle.ordered_search.specs.Setting.{Setting, held, hold}
use Rattle.ordered_search.specs.Tests.{run_many}
use Rattle.ordered_search.specs.Parts.{Searches, choices, branches, run_group, is_over, turn, run_repeat, begun_at}
use Rattle.ordered_search.specs.Parts.{ends_at, one_try, tries, tries_within, run_behind, back_to, forget_passed}
use Rattle.ordered_search.specs.Parts.{run_atomic, run_look, asserts, tests, follow}
use Rattle.ordered_search.specs.Run.{level, levels}
use Rattle.ordered_search.specs.Moves.{Moves, pause, stepped, Follow, Handler, Path, before, catching, holding}
use Rattle.ordered_search.specs.Paths.{Paths, close, many_paths, turned, turn_path, repeat_path, choice_paths}
use Rattle.ordered_search.specs.Paths.{branch_paths, try_path, ends_before, tries_path, behind_path, leave, Many}
use Rattle.ordered_search.specs.Paths.{only_many, possessive_path, atomic_path, atomic_over, look_path, tested_path}
use Rattle.ordered_search.specs.Paths.{assert_path, choose_path, answered}
use Rattle.search_paths.proofs.Possessive.{only_is}
use Rattle.search_paths.specs.Pauses.{strip}
use Rattle.search_paths.proofs.Streams.{before_or_else, before_each, before_catch, before_catch_alone}
use Rattle.search_paths.proofs.Streams.{before_first, before_first_alone, before_first_inside, IsStripped}
use Rattle.search_paths.proofs.Streams.{AreStripped, strip_catching, IsSearch, ArePaths, strip_holding, strip_hold}
use Rattle.search_paths.proofs.Streams.{strip_if, strip_many}

module _ (g : Setting) where
  -- Alternatives.

  strip_choices : (ps : List Path) (xs : List Search) → ArePaths ps xs → IsSearch (choice_paths g ps) (choices g xs)
  unfolding before strip choices choice_paths
  strip_choices [] [] a = record { is = λ s k l f h j e r. refl }
  strip_choices [] (x ∷ xs) a = absurd a
  strip_choices (p ∷ ps) [] a = absurd a
  strip_choices (p ∷ []) (x ∷ y ∷ xs) a = absurd a.1
  strip_choices (p ∷ q ∷ ps) (x ∷ []) a = absurd a.1
  strip_choices (p ∷ []) (x ∷ []) (i, is) = record {
    is = λ s k l f h j e r.
        ap stepped
        (i.is s k l f (catching f h) (catching (strip f) j) e (strip_catching f h j r)
        ∙ sym (before_catch (x s) l (strip f) j));
  }
  strip_choices (p ∷ q ∷ ps) (x ∷ y ∷ xs) (i, is) = record {
    is = λ s k l f h j e r.
        let later : Moves = pause (choice_paths g (q ∷ ps) s k f h) in
        let rest : Moves = before (choices g (y ∷ xs) s) l (strip f) j in
        let same : strip later ≡ rest = (strip_choices (q ∷ ps) (y ∷ xs) is).is s k l f h j e r in
        ap stepped
        (strip_holding g 1 s (λ u. p u k later (catching later h)) (λ u. catch is_next_branch (x u)) l rest j
        (λ u.
        i.is u k l later (catching later h) (catching (strip later) j) e (strip_catching later h j r)
        ∙ ap (λ m. before (x u) l m (catching m j)) same
        ∙ sym (before_catch (x u) l rest j))
        ∙ sym (before_or_else (held g 1 s (λ u. catch is_next_branch (x u))) (choices g (y ∷ xs) s) l (strip f) j));
  }

  pub strip_branches : (ps : List Path) (xs : List Search) → ArePaths ps xs
      → IsSearch (branch_paths g ps) (branches g xs)
  unfolding before branches branch_paths
  strip_branches [] [] a = record { is = λ s k l f h j e r. refl }
  strip_branches [] (x ∷ xs) a = absurd a
  strip_branches (p ∷ ps) [] a = absurd a
  strip_branches (p ∷ []) (x ∷ y ∷ xs) a = absurd a.1
  strip_branches (p ∷ q ∷ ps) (x ∷ []) a = absurd a.1
  strip_branches (p ∷ []) (x ∷ []) a = a.0
  strip_branches (p ∷ q ∷ ps) (x ∷ y ∷ xs) a = strip_choices (p ∷ q ∷ ps) (x ∷ y ∷ xs) a

  pub strip_capture : (n : ℕ) (p : Path) (x : Search) → IsSearch p x →
      (s : State) (k l : Follow) (f : Moves) (h j : Handler) → IsStripped k l → AreStripped h j →
      strip (holding g 1 s (λ t. p t (λ how u e. close g n s.place how u k e) (pause f) h)) ≡ before
      (run_group g (Some n) x s) l (strip f) j
  unfolding before strip run_group
  strip_capture n p x i s k l f h j e r =
      strip_holding g 1 s (λ t. p t (λ how u m. close g n s.place how u k m) (pause f) h)
      (λ t. each (x t) (λ how u. hold g how (captured n s.place u))) l (strip f) j
      (λ t.
      i.is t (λ how u m. close g n s.place how u k m) (λ how u m. before (hold g how (captured n s.place u)) l m j)
      (pause f) h j
      (record {
        same = λ how u m.
            strip_hold g how (captured n s.place u) (λ v. k how v (pause m)) l (strip m) j
            (λ v. e.same how v (pause m));
      }) r
      ∙ sym (before_each (x t) (λ how u. hold g how (captured n s.place u)) l (strip f) j))

  -- Repeats of a group.

  strip_exit_first : (p : Path) (x : Search) → IsSearch p x → (s : State) (k l : Follow) (f : Moves) (h j : Handler)
      → IsStripped k l → AreStripped h j →
      strip (holding g 1 s (λ t. k reached t (pause (p s k f h)))) ≡ before (hold g reached s or_else x s) l (strip f) j
  unfolding strip
  strip_exit_first p x i s k l f h j e r =
      strip_hold g reached s (λ t. k reached t (pause (p s k f h))) l (before (x s) l (strip f) j) j
      (λ t. e.same reached t (pause (p s k f h)) ∙ ap (l reached t) (i.is s k l f h j e r))
      ∙ sym (before_or_else (hold g reached s) (x s) l (strip f) j)

  strip_turn_first : (p : Path) (x : Search) → IsSearch p x → (s : State) (k l : Follow) (f : Moves) (h j : Handler)
      → IsStripped k l → AreStripped h j →
      strip (p s k (k reached s f) h) ≡ before (x s or_else gives reached s) l (strip f) j
  unfolding before
  strip_turn_first p x i s k l f h j e r =
      i.is s k l (k reached s f) h j e r
      ∙ ap (λ m. before (x s) l m j) (e.same reached s f)
      ∙ sym (before_or_else (x s) (gives reached s) l (strip f) j)

  module _ (below : Paths) (under : Searches) (same : (t : Nested) → IsSearch (below t) (under t)) (body : Nested) where
    strip_turn : (low : ℕ) (high : Option ℕ) (lazily : Bool)
        → IsSearch (turn_path g below body low high lazily) (turn g under body low high lazily)
    unfolding before strip turn turn_path turned
    strip_turn low high lazily =
        let after : State → Search = λ s u. elim (is_over low high s u) [
          | true ↦ gives reached u
          | false ↦ under (tree.repeat body (low - 1) (one_less high) lazily) u
        ] in
        record {
          is = λ s k l f h j e r.
              ap stepped
              (strip_holding g 1 s (λ t. below body t (turned below body low high lazily s k h) (pause f) h)
              (λ t. and_then (under body t) (after s)) l (strip f) j
              (λ t.
              (same body).is t (turned below body low high lazily s k h)
              (λ how u m. before (go_on (after s) how u) l m j) (pause f) h j
              (record {
                same = elim [
                  | reached ↦ λ u m.
                      strip_if g (is_over low high s u) (k reached u m)
                      (below (tree.repeat body (low - 1) (one_less high) lazily) u k m h)
                      (gives reached u) (under (tree.repeat body (low - 1) (one_less high) lazily) u) l (strip m) j
                      (e.same reached u m) ((same (tree.repeat body (low - 1) (one_less high) lazily)).is u k l m h j
                      e r)
                  | accepted ↦ λ u m. e.same accepted u m
                ];
              }) r
              ∙ sym (before_each (under body t) (go_on (after s)) l (strip f) j)));
        }

    pub strip_repeat : (low : ℕ) (high : Option ℕ) (lazily : Bool) (s : State) (k l : Follow) (f : Moves)
        (h j : Handler) → IsStripped k l → AreStripped h j →
        strip (repeat_path g below body low high lazily s k f h) ≡ before (run_repeat g under body low high lazily s)
        l (strip f) j
    unfolding before strip repeat_path run_repeat
    strip_repeat (suc low) high lazily s k l f h j e r = (strip_turn (suc low) high lazily).is s k l f h j e r
    strip_repeat zero (Some zero) lazily s k l f h j e r = e.same reached s f
    strip_repeat zero None true s k l f h j e r = strip_exit_first _ _ (strip_turn 0 None true) s k l f h j e r
    strip_repeat zero None false s k l f h j e r = strip_turn_first _ _ (strip_turn 0 None false) s k l f h j e r
    strip_repeat zero (Some (suc n)) true s k l f h j e r =
        strip_exit_first _ _ (strip_turn 0 (Some (suc n)) true) s k l f h j e r
    strip_repeat zero (Some (suc n)) false s k l f h j e r =
        strip_turn_first _ _ (strip_turn 0 (Some (suc n)) false) s k l f h j e r

  -- Branches of a lookbehind.

  strip_try : (qs : List ℕ) (p : Path) (x : Search) → IsSearch p x → IsSearch (try_path qs p) (one_try qs x)
  unfolding before try_path one_try
  strip_try [] p x i = record { is = λ s k l f h j e r. refl }
  strip_try (q ∷ qs) p x i = record { is = λ s k l f h j e r. i.is (begun_at q s) k l f h j e r }

  ends_stripped : (place : ℕ) (k l : Follow) (j : Handler) → IsStripped k l →
      IsStripped (ends_before place k) (λ how u m. before (go_on (ends_at place) how u) l m j)
  unfolding before ends_before strip
  ends_stripped place k l j e = record {
    same = elim [
      | reached ↦ λ u m. strip_if g (u.place == place) (k reached u m) m (gives reached u) nothing l (strip m) j
          (e.same reached u m) refl
      | accepted ↦ λ u m. e.same accepted u m
    ];
  }

  strip_tries : (qs : List ℕ) (p : Path) (x : Search) → IsSearch p x → IsSearch (tries_path g qs p) (tries g qs x)
  unfolding before strip tries_path tries
  strip_tries [] p x i = record { is = λ s k l f h j e r. refl }
  strip_tries (q ∷ []) p x i = record {
    is = λ s k l f h j e r.
        ap stepped
        (i.is (begun_at q s) (ends_before s.place k) (λ how u m. before (go_on (ends_at s.place) how u) l m j) f h j
        (ends_stripped s.place k l j e) r
        ∙ sym (before_each (x (begun_at q s)) (go_on (ends_at s.place)) l (strip f) j));
  }
  strip_tries (q ∷ q' ∷ qs) p x i = record {
    is = λ s k l f h j e r.
        let later : Moves = pause (tries_path g (q' ∷ qs) p s k f h) in
        let rest : Moves = before (tries g (q' ∷ qs) x s) l (strip f) j in
        let same : strip later ≡ rest = (strip_tries (q' ∷ qs) p x i).is s k l f h j e r in
        ap stepped
        (strip_holding g 1 s (λ t. p (begun_at q t) (ends_before s.place k) later h)
        (λ t. and_then (x (begun_at q t)) (ends_at s.place)) l rest j
        (λ t.
        i.is (begun_at q t) (ends_before s.place k) (λ how u m. before (go_on (ends_at s.place) how u) l m j) later h
        j (ends_stripped s.place k l j e) r
        ∙ ap (λ m. before (x (begun_at q t)) (λ how u m. before (go_on (ends_at s.place) how u) l m j) m j) same
        ∙ sym (before_each (x (begun_at q t)) (go_on (ends_at s.place)) l rest j))
        ∙ sym (before_or_else (held g 1 s (λ t. and_then (x (begun_at q t)) (ends_at s.place)))
        (tries g (q' ∷ qs) x s) l (strip f) j));
  }

  pub strip_behind : (a : SomeLengths) (p : Path) (x : Search) → IsSearch p x
      → IsSearch (behind_path g a p) (run_behind g a x)
  unfolding before strip behind_path run_behind tries_within
  strip_behind None p x i = record { is = λ s k l f h j e r. refl }
  strip_behind (Some a) p x i = record {
    is = λ s k l f h j e r.
        elim a.most
        as (λ o. strip (elim o [
          | None ↦ f
          | Some most ↦
              let places : List ℕ = reverse (drop a.least (places_back g.scene most s.place)) in
              elim (a.least == most) [ true ↦ try_path places p s k f h | false ↦ tries_path g places p s k f h ]
        ])
        ≡ before (tries_within g a.least o x s) l (strip f) j) [
          | None ↦ refl
          | Some most ↦
              let places : List ℕ = reverse (drop a.least (places_back g.scene most s.place)) in
              strip_if g (a.least == most) (try_path places p s k f h) (tries_path g places p s k f h)
              (one_try places x s) (tries g places x s) l (strip f) j
              ((strip_try places p x i).is s k l f h j e r) ((strip_tries places p x i).is s k l f h j e r)
        ];
  }

  -- Atomic groups, lookarounds, conditions.

  -- an atomic part is left
  left_stripped : (s : State) (to : How → How) (back : State → State) (k l : Follow) (f : Moves) (j : Handler)
      → IsStripped k l →
      IsStripped (λ how u e. leave g s (to how) (back u) k f)
      (λ how u e. before (hold g (to how) (forget_passed s (back u))) l (strip f) j)
  unfolding strip
  left_stripped s to back k l f j e = record {
    same = λ how u m. strip_hold g (to how) (forget_passed s (back u)) (λ t. k (to how) t (pause f)) l (strip f) j
        (λ t. e.same (to how) t (pause f));
  }

  strip_atomic : (p : Path) (x : Search) → IsSearch p x → IsSearch (atomic_path g p) (run_atomic g x)
  unfolding strip run_atomic
  strip_atomic p x i = record {
    is = λ s k l f h j e r.
        strip_holding g 1 s (λ t. p t (λ how u m. leave g s how u k f) (pause f) h)
        (λ t. decide no_ending (x t) (λ how u. hold g how (forget_passed s u)) nothing) l (strip f) j
        (λ t.
        i.is t (λ how u m. leave g s how u k f) (λ how u m. before (hold g how (forget_passed s u)) l (strip f) j)
        (pause f) h j
        (left_stripped s (λ how. how) (λ u. u) k l f j e) r
        ∙ sym (before_first (x t) (λ how u. hold g how (forget_passed s u)) l (strip f) j));
  }

  -- it hands on the first place of a run
  strip_possessive : (m : Many) (x : Search) → ((t : State) → x t ≡ run_many g m.item m.low m.high m.lazily t)
      → IsSearch (possessive_path g m) (run_atomic g x)
  unfolding strip run_atomic
  strip_possessive m x same = record {
    is = λ s k l f h j e r.
        let ends : Follow = λ how u y. holding g 1 (forget_passed s u) (λ v. k how v f) in
        let end : Follow = λ how u y. before (hold g how (forget_passed s u)) l (strip f) j in
        strip_holding g 1 s (λ t. many_paths g m.item m.low m.high m.lazily
        (longest_run g.scene m.item m.high t.place) t ends f)
        (λ t. decide no_ending (x t) (λ how u. hold g how (forget_passed s u)) nothing) l (strip f) j
        (λ t.
        strip_many g m.item m.low m.high m.lazily t ends end f j
        (record {
          same = λ how u y. strip_hold g how (forget_passed s u) (λ v. k how v f) l (strip f) j
              (λ v. e.same how v f);
        })
        ∙ ap (λ y. before y end (strip f) j) (sym (same t))
        ∙ sym (before_first (x t) (λ how u. hold g how (forget_passed s u)) l (strip f) j));
  }

  pub strip_over : (o : Option Many) (p : Path) (x : Search) → IsSearch p x →
      ((m : Many) → o ≡ Some m → (t : State) → x t ≡ run_many g m.item m.low m.high m.lazily t)
      → IsSearch (atomic_over g o p) (run_atomic g x)
  strip_over None p x i same = record { is = (strip_atomic p x i).is }
  strip_over (Some m) p x i same = record { is = (strip_possessive m x (same m refl)).is }

  -- the only branch is run
  pub only_search : (below : Searches) (ts : Row) (m : Many) → only_many ts ≡ Some m → (t : State) →
      branches g (levels g below ts) t ≡ run_many g m.item m.low m.high m.lazily t
  unfolding branches level
  only_search below ts m e t = ap (λ us. branches g (levels g below us) t) (sym (only_is ts m e))

  pub strip_look : (positive once : Bool) (p : Path) (x : Search) → IsSearch p x
      → IsSearch (look_path g positive once p) (run_look g positive once x)
  unfolding before strip run_look look_path
  strip_look true true p x i = record {
    is = λ s k l f h j e r.
        strip_holding g 1 s (λ t. p t (λ how u m. leave g s reached (back_to s u) k f) (pause f) (catching (pause f) h))
        (λ t. decide fails_alone (x t) (λ how u. hold g reached (back_to s (forget_passed s u))) nothing) l (strip f) j
        (λ t.
        i.is t (λ how u m. leave g s reached (back_to s u) k f)
        (λ how u m. before (hold g reached (back_to s (forget_passed s u))) l (strip f) j)
        (pause f) (catching (pause f) h) (catching (strip f) j)
        (left_stripped s (λ how. reached) (λ u. back_to s u) k l f j e) (strip_catching (pause f) h j r)
        ∙ sym (before_first_alone (x t) (λ how u. hold g reached (back_to s (forget_passed s u))) l (strip f) j));
  }
  strip_look true false p x i = record {
    is = λ s k l f h j e r.
        strip_holding g 1 s (λ t. p t (λ how u m. pause (k reached (back_to s u) m)) (pause f) (catching (pause f) h))
        (λ t. catch fails_alone (each (x t) (λ how u. gives reached (back_to s u)))) l (strip f) j
        (λ t.
        i.is t (λ how u m. pause (k reached (back_to s u) m))
        (λ how u m. before (gives reached (back_to s u)) l m (catching (strip f) j))
        (pause f) (catching (pause f) h) (catching (strip f) j)
        (record { same = λ how u m. e.same reached (back_to s u) m }) (strip_catching (pause f) h j r)
        ∙ sym (before_each (x t) (λ how u. gives reached (back_to s u)) l (strip f) (catching (strip f) j))
        ∙ sym (before_catch_alone (each (x t) (λ how u. gives reached (back_to s u))) l (strip f) j));
  }
  strip_look false once p x i = record {
    is = λ s k l f h j e r.
        strip_holding g 1 s (λ t. p t (λ how u m. pause f) (pause (k reached s f)) (λ v. pause (k reached s f)))
        (λ t. decide fails_inside (x t) (λ how u. nothing) (gives reached s)) l (strip f) j
        (λ t.
        i.is t (λ how u m. pause f) (λ how u m. strip f) (pause (k reached s f)) (λ v. pause (k reached s f))
        (λ v. strip (k reached s f))
        (record { same = λ how u m. refl }) (record { same = λ v. refl })
        ∙ ap (λ m. before (x t) (λ how u y. strip f) m (λ v. m)) (e.same reached s f)
        ∙ sym (before_first_inside (x t) (λ how u. nothing) (gives reached s) l (strip f) j));
  }

  -- a test is a test
  strip_tested : (p q q' : Path) (x y y' : Search) → IsSearch p x → IsSearch q y → IsSearch q' y' →
      IsSearch (tested_path g p q q')
      (λ s. held g 1 s (λ t. decide fails_inside (x t) (λ how u. held g 1 (back_to s (forget_passed s u)) y)
      (y' s)))
  unfolding strip
  strip_tested p q q' x y y' i a b = record {
    is = λ s k l f h j e r.
        let follows : Follow = λ how v m. q v k m h in
        let ends : Follow = λ how u m. leave g s reached (back_to s u) follows f in
        let other : Moves = before (y' s) l (strip f) j in
        let same : strip (q' s k f h) ≡ other = b.is s k l f h j e r in
        strip_holding g 1 s (λ t. p t ends (pause (q' s k f h)) (λ v. pause (q' s k f h)))
        (λ t. decide fails_inside (x t) (λ how u. held g 1 (back_to s (forget_passed s u)) y) (y' s)) l (strip f) j
        (λ t.
        i.is t ends (λ how u m. before (held g 1 (back_to s (forget_passed s u)) y) l (strip f) j)
        (pause (q' s k f h)) (λ v. pause (q' s k f h)) (λ v. other)
        (record {
          same = λ how u m.
              strip_holding g 1 (back_to s (forget_passed s u)) (λ v. q v k (pause f) h) y l (strip f) j
              (λ v. a.is v k l (pause f) h j e r);
        })
        (record { same = λ v. same })
        ∙ ap (λ m. before (x t) (λ how u y'. before (held g 1 (back_to s (forget_passed s u)) y) l (strip f) j) m
        (λ v. other)) same
        ∙ sym (before_first_inside (x t) (λ how u. held g 1 (back_to s (forget_passed s u)) y) (y' s) l (strip f) j));
  }

  pub strip_assert : (positive : Bool) (p q q' : Path) (x y y' : Search) → IsSearch p x → IsSearch q y
      → IsSearch q' y' →
      IsSearch (assert_path g positive p q q') (asserts g positive x y y')
  unfolding asserts
  strip_assert true p q q' x y y' i a b = record { is = (strip_tested p q q' x y y' i a b).is }
  strip_assert false p q q' x y y' i a b = record { is = (strip_tested p q' q x y' y i b a).is }

  pub strip_chosen : (b : Bool) (q q' : Path) (y y' : Search) → IsSearch q y → IsSearch q' y'
      → IsSearch (choose_path b q q') (tests b y y')
  unfolding strip tests
  strip_chosen true q q' y y' a b = record { is = λ s k l f h j e r. a.is s k l f h j e r }
  strip_chosen false q q' y y' a b = record { is = λ s k l f h j e r. b.is s k l f h j e r }

  pub strip_answered : (n : ℤ) (x f : Moves) (y : Stream) (l : Follow) (j : Handler)
      → strip x ≡ before y l (strip f) j →
      strip (answered n x f) ≡ before (follow n y) l (strip f) j
  unfolding before strip follow
  strip_answered (pos zero) x f y l j e = e
  strip_answered (pos (suc n)) x f y l j e = refl
  strip_answered (negsuc n) x f y l j e = refl
