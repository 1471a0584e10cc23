-- The ordered search as a machine goes through it: each tree before what follows it. Without its pauses it is the
-- search of the definitions.
use Rattle.std.specs.Prelude.{ℕ, zero, suc, ◌-◌, Bool, true, false, List, [], ◌∷◌, drop, take, reverse, Option, Some}
use Rattle.std.specs.Prelude.{None, option_map, ℤ, pos, negsuc, ◌==◌}
use Rattle.pat_tree.specs.declared.nodes.Item.{Item}
use Rattle.pat_tree.specs.declared.nodes.AnchorKind.{AnchorKind}
use Rattle.pat_tree.specs.declared.nodes.Verb.{Verb}
use Rattle.pat_tree.specs.declared.nodes.Verb.TheVariants.{Accept, Fail, Commit, Prune, Skip, Then, Mark}
use Rattle.pat_tree.specs.Nested as tree
use Rattle.pat_tree.specs.Nested.{Nested, Row, Test, Other}
use Rattle.match_items.specs.Items.{one_less, is_none_left, after_item, item_reaches, longest_run, run_reaches}
use Rattle.match_items.specs.Items.{after_break, break_reaches, after_ref, ref_reaches, holds, anchor_reaches}
use Rattle.match_items.specs.Items.{earliest, places_back}
use Rattle.pat_lengths.specs.Lengths.{SomeLengths}
use Rattle.frame_store.specs.Captures.{capture}
use Rattle.pat_tree.specs.Groups.{group_of}
use Rattle.ordered_search.specs.Stream.{State, next_branch, prune, skip, commit, Ending, exhausted, by_verb, by_halt}
use Rattle.ordered_search.specs.Stream.{cut, loop, abort, changes, name, shown, How, reached, accepted, captured}
use Rattle.ordered_search.specs.Setting.{Setting, branch_lengths}
use Rattle.ordered_search.specs.Tests.{move_to}
use Rattle.ordered_search.specs.Parts.{is_over, begun_at, back_to, forget_passed, some_set, is_called, is_called_of}
use Rattle.ordered_search.specs.Parts.{is_active, block_of, skip_to}
use Rattle.ordered_search.specs.Moves.{Moves, stops, pause, stepped, noted, Follow, Handler, Path, catching, going}
use Rattle.ordered_search.specs.Moves.{holding, reaching}

-- a path of each tree
abbrev pub Paths : Type 0
Paths = Nested → Path

-- Sequences.

-- a path follows where the one before has ended
unfoldable pub go_path : Path → Follow → Handler → Follow
go_path p k h reached u e = p u k e h
go_path p k h accepted u e = k accepted u e

-- one after the other
unfoldable pub parts_path : List Path → Path
parts_path [] s k f h = k reached s f
parts_path (p ∷ ps) s k f h = p s (go_path (parts_path ps) k h) f h

-- the end of a turn of a group repeat that began at s
unfoldable pub turned : Paths → Nested → ℕ → Option ℕ → Bool → State → Follow → Handler → Follow
turned below body low high lazily s k h reached u f =
    pause (elim (is_over low high s u) [
      | true ↦ k reached u f
      | false ↦ below (tree.repeat body (low - 1) (one_less high) lazily) u k f h
    ])
turned below body low high lazily s k h accepted u f = pause (k accepted u f)

-- A branch of a lookbehind, begun at the first of these places.
unfoldable pub try_path : List ℕ → Path → Path
try_path [] p s k f h = f
try_path (q ∷ qs) p s k f h = p (begun_at q s) k f h

-- what follows a try: it counts where it ends at this place
unfoldable pub ends_before : ℕ → Follow → Follow
ends_before place k reached u e = pause (elim (u.place == place) [ true ↦ k reached u e | false ↦ e ])
ends_before place k accepted u e = k accepted u e

-- Conditions.

-- a test that is no lookaround
abbrev pub choose_path : Bool → Path → Path → Path
choose_path true yes' no' s k f h = pause (yes' s k f h)
choose_path false yes' no' s k f h = pause (no' s k f h)

-- Calls.

-- so many pauses: one for each register that is put back
abbrev pub pauses : ℕ → Moves → Moves
pauses zero m = m
pauses (suc n) m = pause (pauses n m)

-- the group that is called, if it is there
abbrev pub called_path : Option Nested → Paths → Path
called_path None below s k f h = f
called_path (Some t) below s k f h = below t s k f h

-- Possessive repeats.

-- A repeat of one item.
pub record Many : Type 0 where
  pub item : Item
  pub low : ℕ
  pub high : Option ℕ
  pub lazily : Bool

abbrev pub many_in : Nested → Option Many
many_in (tree.one_repeat item low high lazily) = Some (record { item = item; low = low; high = high; lazily = lazily })
many_in _ = None

-- the repeat of one item that is the only branch
abbrev pub only_many : Row → Option Many
only_many (tree.more t tree.none) = many_in t
only_many _ = None

-- Callouts.

-- what a callout's answer does
abbrev pub answered : ℤ → Moves → Moves → Moves
answered (pos zero) x f = x
answered (pos (suc n)) x f = f
answered (negsuc n) x f = stops (by_halt (abort (negsuc n)))

-- Verbs.

-- what an ending leads to
abbrev pub ended : Ending → Moves → Handler → Moves
ended exhausted f h = f
ended (by_verb v) f h = h v
ended (by_halt x) f h = stops (by_halt x)

module _ (g : Setting) where
  -- a capture is written, and taken back where the path fails
  abbrev pub close : ℕ → ℕ → How → State → Follow → Moves → Moves
  close n from how s k f = pause (holding g 1 (captured n from s) (λ t. k how t (pause f)))

  -- the first set group of the list
  abbrev pub ref_path : List ℕ → Bool → State → Follow → Moves → Moves
  ref_path [] caseless s k f = elim g.options.match_unset_backref [ true ↦ k reached s f | false ↦ f ]
  ref_path (n ∷ ns) caseless s k f =
      elim (capture s.caps n) [
        | None ↦ ref_path ns caseless s k f
        | Some span ↦
            reaching g (ref_reaches g.scene span.from span.to caseless s.place) s
            (going (after_ref g.scene span.from span.to caseless s.place) s k f)
      ]

  abbrev pub anchor_path : AnchorKind → State → Follow → Moves → Moves
  anchor_path kind s k f =
      let t = record s { early = earliest g.scene kind s.place s.early } in
      reaching g (anchor_reaches g.scene kind s.place) t
      (elim (holds g.scene kind s.place) [ true ↦ k reached t f | false ↦ f ])

  -- Repeats of one item.

  -- the places are handed on in order
  unfoldable pub offer_paths : List ℕ → State → Follow → Moves → Moves
  offer_paths [] s k f = f
  offer_paths (p ∷ []) s k f = stepped (k reached (move_to p s) f)
  offer_paths (p ∷ q ∷ ps) s k f =
      stepped (holding g 1 (move_to p s) (λ t. k reached t (pause (offer_paths (q ∷ ps) s k f))))

  -- a place is handed on, and x follows where a further one may be left
  abbrev pub offer_path : Bool → State → Follow → Moves → Moves → Moves
  offer_path true s k x f = stepped (k reached s f)
  offer_path false s k x f = stepped (holding g 1 s (λ t. k reached t (pause x)))

  -- so many further places at most
  unfoldable pub lazy_paths : Item → Option ℕ → List ℕ → State → Follow → Moves → Moves
  lazy_paths item left [] s k f = f
  lazy_paths item left (p ∷ ps) s k f =
      offer_path (is_none_left left) (move_to p s) k
      (reaching g (item_reaches g.scene item p) s (lazy_paths item (one_less left) ps s k f)) f

  -- ps are the places after one character, after two and so on
  unfoldable pub many_paths : Item → ℕ → Option ℕ → Bool → List ℕ → State → Follow → Moves → Moves
  many_paths item low high false ps s k f =
      reaching g (run_reaches g.scene item high s.place ps) s (offer_paths (reverse (drop low (s.place ∷ ps))) s k f)
  many_paths item low high true ps s k f =
      reaching g (run_reaches g.scene item (Some low) s.place (take low ps)) s
      (lazy_paths item (option_map (λ n. n - low) high) (drop low (s.place ∷ ps)) s k f)

  -- Repeats of a group.

  -- a turn, and what is left where it fails
  unfoldable pub turn_path : Paths → Nested → ℕ → Option ℕ → Bool → Path
  turn_path below body low high lazily s k f h =
      stepped (holding g 1 s (λ t. below body t (turned below body low high lazily s k h) (pause f) h))

  unfoldable pub repeat_path : Paths → Nested → ℕ → Option ℕ → Bool → Path
  repeat_path below body (suc low) high lazily s k f h = pause (turn_path below body (suc low) high lazily s k f h)
  repeat_path below body zero (Some zero) lazily s k f h = pause (k reached s f)
  repeat_path below body zero high true s k f h =
      pause (holding g 1 s (λ t. k reached t (pause (turn_path below body zero high true s k f h))))
  repeat_path below body zero high false s k f h = pause (turn_path below body zero high false s k (k reached s f) h)

  -- Alternatives.

  -- of two branches or more, those that are left
  unfoldable pub choice_paths : List Path → Path
  choice_paths [] s k f h = f
  choice_paths (p ∷ []) s k f h = stepped (p s k f (catching f h))
  choice_paths (p ∷ q ∷ ps) s k f h =
      let later = pause (choice_paths (q ∷ ps) s k f h) in stepped (holding g 1 s (λ u. p u k later (catching later h)))

  unfoldable pub branch_paths : List Path → Path
  branch_paths [] s k f h = f
  branch_paths (p ∷ []) s k f h = p s k f h
  branch_paths (p ∷ q ∷ ps) s k f h = choice_paths (p ∷ q ∷ ps) s k f h

  -- Branches of a lookbehind.

  unfoldable pub tries_path : List ℕ → Path → Path
  tries_path [] p s k f h = f
  tries_path (q ∷ []) p s k f h = stepped (p (begun_at q s) (ends_before s.place k) f h)
  tries_path (q ∷ q' ∷ qs) p s k f h =
      stepped (holding g 1 s (λ t. p (begun_at q t) (ends_before s.place k) (pause (tries_path (q' ∷ qs) p s k f h)) h))

  unfoldable pub behind_path : SomeLengths → Path → Path
  behind_path None p s k f h = f
  behind_path (Some a) p s k f h =
      elim a.most [
        | None ↦ f
        | Some most ↦
            let places : List ℕ = reverse (drop a.least (places_back g.scene most s.place)) in
            elim (a.least == most) [ true ↦ try_path places p s k f h | false ↦ tries_path places p s k f h ]
      ]

  -- Atomic groups, lookarounds, conditions.

  -- an atomic part is left by its first outcome: what else it could do is given up, and f is left
  abbrev pub leave : State → How → State → Follow → Moves → Moves
  leave s how u k f = pause (holding g 1 (forget_passed s u) (λ t. k how t (pause f)))

  abbrev pub atomic_path : Path → Path
  atomic_path p s k f h = pause (holding g 1 s (λ t. p t (λ how u e. leave s how u k f) (pause f) h))

  -- Over a repeat of one item: a place of its run is handed on, and its others are never left.
  abbrev pub possessive_path : Many → Path
  possessive_path m s k f h =
      pause
      (holding g 1 s
      (λ t. many_paths m.item m.low m.high m.lazily (longest_run g.scene m.item m.high t.place) t
      (λ how u e. holding g 1 (forget_passed s u) (λ v. k how v f)) f))

  abbrev pub atomic_over : Option Many → Path → Path
  atomic_over None p s k f h = atomic_path p s k f h
  atomic_over (Some m) p s k f h = possessive_path m s k f h

  -- positive or negative, atomic or not
  unfoldable pub look_path : Bool → Bool → Path → Path
  look_path true true p s k f h =
      pause (holding g 1 s (λ t. p t (λ how u e. leave s reached (back_to s u) k f) (pause f) (catching (pause f) h)))
  look_path true false p s k f h =
      pause (holding g 1 s (λ t. p t (λ how u e. pause (k reached (back_to s u) e)) (pause f) (catching (pause f) h)))
  look_path false once p s k f h =
      pause (holding g 1 s (λ t. p t (λ how u e. pause f) (pause (k reached s f)) (λ v. pause (k reached s f))))

  -- a lookaround as a test: where it has an outcome `then'` goes on from there, and else `else'` from the start
  abbrev pub tested_path : Path → Path → Path → Path
  tested_path p then' else' s k f h =
      pause
      (holding g 1 s
      (λ t. p t (λ how u e. leave s reached (back_to s u) (λ how v m. then' v k m h) f) (pause (else' s k f h))
      (λ v. pause (else' s k f h))))

  abbrev pub assert_path : Bool → Path → Path → Path → Path
  assert_path true p yes' no' = tested_path p yes' no'
  assert_path false p yes' no' = tested_path p no' yes'

  -- Calls.

  -- a call that began at s is left by each outcome: captures and active calls are those of s again
  abbrev pub returned : State → Follow → Follow
  returned s k how u f =
      let count : ℕ = changes u.caps s.caps in
      pause (holding g count (record u { caps = s.caps; calls = s.calls }) (λ t. k reached t (pauses count f)))

  -- A verb in the group leads to f, as the group's failure does.
  unfoldable pub call_path : Paths → ℕ → Path
  call_path below n s k f h =
      stepped
      (elim (is_active n s.place s.calls) [
        | true ↦ stops (by_halt loop)
        | false ↦
            holding g 1 s
            (λ t.
            called_path (group_of g.whole n) below (record t { calls = (n, s.place) ∷ s.calls }) (returned s k)
            (pause f)
            (λ v. pause f))
      ])

  -- Verbs.

  -- a name is met; a noted one is what SKIP looks for
  abbrev pub named_path : Option ℕ → Bool → State → (State → Moves) → Moves
  named_path None is_noted s x = x s
  named_path (Some n) false s x = noted (name n) (x (record s { mark = Some n }))
  named_path (Some n) true s x = noted (name n) (x (record s { mark = Some n; passed = (n, s.place) ∷ s.passed }))

  -- goes on, and ends so when it is backtracked onto
  abbrev pub backs_path : Ending → Path
  backs_path e s k f h = holding g 1 s (λ t. k reached t (pause (pause (ended e f h))))

  abbrev pub verb_path : Verb → Path
  verb_path (Accept None) s k f h = k accepted s f
  verb_path (Accept (Some n)) s k f h = named_path (Some n) true s (λ t. holding g 1 t (λ u. k accepted u (pause f)))
  verb_path (Fail None) s k f h = f
  verb_path (Fail (Some n)) s k f h = named_path (Some n) true s (λ t. holding g 1 t (λ u. f))
  verb_path (Mark n) s k f h = named_path n true s (λ t. holding g 1 t (λ u. k reached u (pause f)))
  verb_path (Commit n) s k f h = named_path n false s (λ t. backs_path (by_verb commit) t k f h)
  verb_path (Prune n) s k f h = named_path n false s (λ t. backs_path (by_verb prune) t k f h)
  verb_path (Then n) s k f h = named_path n false s (λ t. backs_path (by_verb next_branch) t k f h)
  verb_path (Skip None) s k f h = backs_path (by_verb (skip s.place)) s k f h
  verb_path (Skip (Some n)) s k f h = backs_path (skip_to g n s.passed) s k f h

  -- The trees, where d is the depth below.
  module _ (d : ℕ) (below : Paths) where
    unfoldable mutual
      pub path : Paths
      path tree.empty s k f h = pause (k reached s f)
      path (tree.one item) s k f h =
          pause (reaching g (item_reaches g.scene item s.place) s (going (after_item g.scene item s.place) s k f))
      path tree.line_break s k f h =
          pause (reaching g (break_reaches g.scene s.place) s (going (after_break g.scene s.place) s k f))
      path (tree.seq ts) s k f h = pause (parts_path (row_paths ts) s k f h)
      path (tree.group None ts) s k f h = pause (branch_paths (row_paths ts) s k f h)
      path (tree.group (Some n) ts) s k f h =
          pause (holding g 1 s (λ t. branch_paths (row_paths ts) t (λ how u e. close n s.place how u k e) (pause f) h))
      path (tree.repeat body low high lazily) s k f h = repeat_path below body low high lazily s k f h
      path (tree.one_repeat item low high lazily) s k f h =
          pause (many_paths item low high lazily (longest_run g.scene item high s.place) s k f)
      path (tree.ref ns caseless) s k f h = pause (ref_path ns caseless s k f)
      path (tree.anchor kind) s k f h = pause (anchor_path kind s k f)
      path tree.keep_out s k f h = pause (k reached (record s { keep = s.place }) f)
      path (tree.atomic ts) s k f h = atomic_over (only_many ts) (branch_paths (row_paths ts)) s k f h
      path (tree.look true positive once ts) s k f h = look_path positive once (branch_paths (row_paths ts)) s k f h
      path (tree.look false positive once ts) s k f h = look_path positive once (branch_paths (behind_paths ts)) s k f h
      path (tree.condition test first second) s k f h = test_path test (path first) (other_path second) s k f h
      path (tree.call n) s k f h = call_path below n s k f h
      path (tree.verb v) s k f h = pause (verb_path v s k f h)
      path (tree.callout c) s k f h =
          pause (noted (shown (block_of c s)) (answered (g.reply (block_of c s)) (k reached s f) f))

      pub row_paths : Row → List Path
      row_paths tree.none = []
      row_paths (tree.more t ts) = path t ∷ row_paths ts

      -- the branches of a lookbehind
      pub behind_paths : Row → List Path
      behind_paths tree.none = []
      behind_paths (tree.more t ts) = behind_path (branch_lengths g t) (path t) ∷ behind_paths ts

      -- the test, what follows where it is true, and where it is false
      pub test_path : Test → Path → Path → Path
      test_path (tree.any_set ns) p p' s k f h = choose_path (some_set s.caps ns) p p' s k f h
      test_path tree.in_call p p' s k f h = choose_path (is_called s.calls) p p' s k f h
      test_path (tree.in_call_of ns) p p' s k f h = choose_path (is_called_of s.calls ns) p p' s k f h
      test_path tree.never p p' s k f h = choose_path false p p' s k f h
      test_path (tree.assert true positive once ts) p p' s k f h =
          assert_path positive (branch_paths (row_paths ts)) p p' s k f h
      test_path (tree.assert false positive once ts) p p' s k f h =
          assert_path positive (branch_paths (behind_paths ts)) p p' s k f h
      test_path (tree.called c test) p p' s k f h =
          pause (noted (shown (block_of c s)) (answered (g.reply (block_of c s)) (test_path test p p' s k f h) f))

      pub other_path : Other → Path
      other_path tree.no_other s k f h = k reached s f
      other_path (tree.other t) s k f h = path t s k f h

  unfoldable pub paths : ℕ → Paths
  paths zero t s k f h = stops (by_halt cut)
  paths (suc d) t s k f h = path d (paths d) t s k f h
