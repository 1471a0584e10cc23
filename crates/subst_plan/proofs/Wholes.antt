-- Inner texts that are chosen or left out as wholes.
use Rattle.std.proofs.Common.{◌≡◌, ℕ, zero, suc, ◌+◌, ◌-◌, ◌<◌, ◌≤◌, Bool, true, false, cond, ◌==◌, List, [], ◌∷◌}
use Rattle.std.proofs.Common.{◌++◌, Option, Some, None, Result, Ok, Err, ap, sym, ◌∙◌, refl, arith, eq-eqb, ne_eqb}
use Rattle.std.proofs.Common.{append_assoc}
use Rattle.std.specs.Prelude.{IfOk}
use Rattle.std.proofs.lemmas.Bool.{eqb-true}
use Rattle.std.proofs.Math.Dec.{eqb-suc-zero}
use Rattle.subst_plan.specs.declared.faults.ExpandError.{ExpandError}
use Rattle.subst_plan.specs.declared.pieces.Key.{Key}
use Rattle.subst_plan.specs.declared.pieces.Piece.{Piece}
use Rattle.subst_plan.specs.declared.pieces.Piece.TheVariants as piece
use Rattle.subst_plan.specs.declared.expanding.UnsetRules.{UnsetRules}
use Rattle.subst_plan.specs.declared.expanding.State.{State}
use Rattle.subst_plan.specs.Matched.{Matched}
use Rattle.subst_plan.specs.Nested.{depth_after, closes_all, is_whole}
use Rattle.subst_plan.specs.Expansion.{◌>>=◌, after, writing, leaving, left_out_after, default_of, choice_of}
use Rattle.subst_plan.specs.Expansion.{group_text, group_written, piece_written, piece_expanded, expanded_from}

after_nothing : (r : Result (List ℕ) ExpandError) → after [] r ≡ r
after_nothing (Ok bytes) = refl
after_nothing (Err e) = refl

if_ok_cond : {A : Type 0} (b : Bool) (x y : Result A ExpandError) (P : A → Type 0) → (b ≡ true → IfOk x P)
    → (b ≡ false → IfOk y P) → IfOk (cond b x y) P
if_ok_cond true x y P first second = first refl
if_ok_cond false x y P first second = second refl

if_ok_next : {A B : Type 0} (r : Result A ExpandError) (f : A → Result B ExpandError) (P : B → Type 0)
    → ((x : A) → IfOk (f x) P) → IfOk (r >>= f) P
if_ok_next (Ok x) f P each = each x
if_ok_next (Err e) f P each = tt

same_next : {A B : Type 0} (r : Result A ExpandError) (f g : A → Result B ExpandError) (P : A → Type 0) → IfOk r P
    → ((x : A) → P x → f x ≡ g x) → (r >>= f) ≡ (r >>= g)
same_next (Ok x) f g P here each = each x here
same_next (Err e) f g P here each = refl

some_of : (d : Option ℕ) (f : ℕ → Bool) → (elim d [ None ↦ false | Some k ↦ f k ]) ≡ true
    → (k : ℕ) × (d ≡ Some k) × (f k ≡ true)
some_of None f h = cc
some_of (Some k) f h = (k, refl, h)

cond_below : (b : Bool) (j m : ℕ) → j ≤ m → cond b 0 j ≤ m
cond_below true j m below = omega arith
cond_below false j m below = below

-- where a text is left out, so many texts of it are open
open_left_out : (p : Piece) (n k j m : ℕ) → j ≡ n + suc m → depth_after p n ≡ Some k → left_out_after p j ≡ k + suc m
open_left_out (piece.Text from to) n k j m is depth = let e : n ≡ k = cc in omega arith
open_left_out (piece.Byte b) n k j m is depth = let e : n ≡ k = cc in omega arith
open_left_out (piece.Char c) n k j m is depth = let e : n ≡ k = cc in omega arith
open_left_out (piece.Group key) n k j m is depth = let e : n ≡ k = cc in omega arith
open_left_out piece.Mark n k j m is depth = let e : n ≡ k = cc in omega arith
open_left_out (piece.Force forcing) n k j m is depth = let e : n ≡ k = cc in omega arith
open_left_out (piece.Default key) n k j m is depth = let e : suc n ≡ k = cc in omega arith
open_left_out (piece.Choice key) n k j m is depth = let e : suc n ≡ k = cc in omega arith
open_left_out piece.Else zero k j m is depth = cc
open_left_out piece.Else (suc n) k j m is depth =
    let e : suc n ≡ k = cc in
    ap (λ b. cond b 0 j) (ne_eqb j 1 (λ one. omega arith)) ∙ omega arith
open_left_out piece.Close zero k j m is depth = cc
open_left_out piece.Close (suc n) k j m is depth = let e : n ≡ k = cc in omega arith

left_out_below : (p : Piece) (n k j : ℕ) → j ≤ n → depth_after p n ≡ Some k → left_out_after p j ≤ k
left_out_below (piece.Text from to) n k j below depth = let e : n ≡ k = cc in omega arith
left_out_below (piece.Byte b) n k j below depth = let e : n ≡ k = cc in omega arith
left_out_below (piece.Char c) n k j below depth = let e : n ≡ k = cc in omega arith
left_out_below (piece.Group key) n k j below depth = let e : n ≡ k = cc in omega arith
left_out_below piece.Mark n k j below depth = let e : n ≡ k = cc in omega arith
left_out_below (piece.Force forcing) n k j below depth = let e : n ≡ k = cc in omega arith
left_out_below (piece.Default key) n k j below depth = let e : suc n ≡ k = cc in omega arith
left_out_below (piece.Choice key) n k j below depth = let e : suc n ≡ k = cc in omega arith
left_out_below piece.Else zero k j below depth = cc
left_out_below piece.Else (suc n) k j below depth = let e : suc n ≡ k = cc in cond_below (j == 1) j k (omega arith)
left_out_below piece.Close zero k j below depth = cc
left_out_below piece.Close (suc n) k j below depth = let e : n ≡ k = cc in omega arith

module _ (rules : UnsetRules) (m : Matched) (text : List ℕ) where
  abbrev all : State → List Piece → Result (List ℕ) ExpandError
  all s pieces = expanded_from rules m text s pieces

  abbrev follow : List Piece → List ℕ × State → Result (List ℕ) ExpandError
  follow pieces done = after done.0 (all done.1 pieces)

  live_step : (s : State) (p : Piece) (pieces : List Piece) (done : List ℕ × State) → s.left_out ≡ 0
      → piece_written rules m text s p ≡ Ok done → all s (p ∷ pieces) ≡ follow pieces done
  live_step s p pieces done live is =
      ap (λ b. cond b (piece_written rules m text s p) (Ok ([], leaving s (left_out_after p s.left_out))) >>= follow
      pieces) (eq-eqb s.left_out 0 live)
      ∙ ap (λ r. r >>= follow pieces) is

  dead_step : (s : State) (p : Piece) (pieces : List Piece) (n : ℕ)
      → all (leaving s (suc n)) (p ∷ pieces) ≡ all (leaving s (left_out_after p (suc n))) pieces
  dead_step s p pieces n =
      ap (λ b. cond b (piece_written rules m text (leaving s (suc n)) p)
      (Ok ([], leaving s (left_out_after p (suc n)))) >>= follow pieces) (eqb-suc-zero n)
      ∙ after_nothing (all (leaving s (left_out_after p (suc n))) pieces)

  dead_at : (s : State) (p : Piece) (pieces : List Piece) (j : ℕ) → 0 < j
      → all (leaving s j) (p ∷ pieces) ≡ all (leaving s (left_out_after p j)) pieces
  dead_at s p pieces j some =
      let one : j ≡ suc (j - 1) = omega arith in
      ap (λ n. all (leaving s n) (p ∷ pieces)) one
      ∙ dead_step s p pieces (j - 1)
      ∙ sym (ap (λ n. all (leaving s (left_out_after p n)) pieces) one)

  skipped : (s : State) (inner rest : List Piece) (n j k : ℕ) → j ≡ n + suc k → closes_all n inner ≡ true
      → all (leaving s j) (inner ++ rest) ≡ all (leaving s (suc k)) rest
  skipped s [] rest n j k is closed =
      let none = eqb-true n 0 closed in
      let same : j ≡ suc k = omega (arith, none) in
      ap (λ i. all (leaving s i) rest) same
  skipped s (p ∷ inner) rest n j k is closed =
      let next = some_of (depth_after p n) (λ i. closes_all i inner) closed in
      dead_at s p (inner ++ rest) j (omega arith)
      ∙ skipped s inner rest next.0 (left_out_after p j) k (open_left_out p n next.0 j k is next.1) next.2

  group_below : (s : State) (n : ℕ) (found : Option (List ℕ)) → s.left_out ≡ 0
      → IfOk (group_written rules s found) (λ d. d.1.left_out ≤ n)
  group_below s n (Some bytes) live = omega (arith, live)
  group_below s n None live = if_ok_cond rules.unset_empty (Ok ([], s)) _ (λ d. d.1.left_out ≤ n)
      (λ _. omega (arith, live)) (λ _. tt)

  default_below : (s : State) (n : ℕ) (found : Option (List ℕ)) → s.left_out ≡ 0
      → (default_of s found).1.left_out ≤ suc n
  default_below s n (Some bytes) live = omega arith
  default_below s n None live = omega (arith, live)

  choice_below : (s : State) (n : ℕ) (found : Option (List ℕ)) → s.left_out ≡ 0 → (choice_of s found).1.left_out ≤ suc n
  choice_below s n (Some bytes) live = omega (arith, live)
  choice_below s n None live = omega arith

  live_below : (s : State) (p : Piece) (n k : ℕ) → s.left_out ≡ 0 → depth_after p n ≡ Some k
      → IfOk (piece_written rules m text s p) (λ d. d.1.left_out ≤ k)
  live_below s (piece.Text from to) n k live depth = omega (arith, live)
  live_below s (piece.Byte b) n k live depth = omega (arith, live)
  live_below s (piece.Char c) n k live depth = omega (arith, live)
  live_below s (piece.Group key) n k live depth = if_ok_next (group_text rules m text key)
      (λ found. group_written rules s found) (λ d. d.1.left_out ≤ k) (λ found. group_below s k found live)
  live_below s piece.Mark n k live depth = omega (arith, live)
  live_below s (piece.Force forcing) n k live depth = omega (arith, live)
  live_below s (piece.Default key) n k live depth =
      let e : suc n ≡ k = cc in
      if_ok_next (group_text rules m text key) (λ found. Ok (default_of s found)) (λ d. d.1.left_out ≤ k)
      (λ found. omega (arith, e, default_below s n found live))
  live_below s (piece.Choice key) n k live depth =
      let e : suc n ≡ k = cc in
      if_ok_next (group_text rules m text key) (λ found. Ok (choice_of s found)) (λ d. d.1.left_out ≤ k)
      (λ found. omega (arith, e, choice_below s n found live))
  live_below s piece.Else zero k live depth = cc
  live_below s piece.Else (suc n) k live depth = let e : suc n ≡ k = cc in omega (arith, e)
  live_below s piece.Close n k live depth = omega (arith, live)

  below : (s : State) (p : Piece) (n k : ℕ) → s.left_out ≤ n → depth_after p n ≡ Some k
      → IfOk (piece_expanded rules m text s p) (λ d. d.1.left_out ≤ k)
  below s p n k few depth =
      if_ok_cond (s.left_out == 0) (piece_written rules m text s p) (Ok ([], leaving s (left_out_after p s.left_out)))
      (λ d. d.1.left_out ≤ k)
      (λ live. live_below s p n k (eqb-true s.left_out 0 live) depth)
      (λ _. left_out_below p n k s.left_out few depth)

  same_after : (s : State) (inner one other : List Piece) (n : ℕ)
      → ((t : State) → t.left_out ≡ 0 → all t one ≡ all t other) → s.left_out ≤ n → closes_all n inner ≡ true
      → all s (inner ++ one) ≡ all s (inner ++ other)
  same_after s [] one other n same few closed = let none = eqb-true n 0 closed in same s (omega (arith, none, few))
  same_after s (p ∷ inner) one other n same few closed =
      let next = some_of (depth_after p n) (λ i. closes_all i inner) closed in
      same_next (piece_expanded rules m text s p) (follow (inner ++ one)) (follow (inner ++ other))
      (λ d. d.1.left_out ≤ next.0)
      (below s p n next.0 few next.1)
      (λ d fits. ap (after d.0) (same_after d.1 inner one other next.0 same fits next.2))

  back : (s : State) (pieces : List Piece) → s.left_out ≡ 0 → all (leaving s 0) pieces ≡ all s pieces
  back s pieces live = ap (λ n. all (leaving s n) pieces) (sym live)

  -- a text that is left out, and its `}`
  left_out : (s : State) (inner rest : List Piece) → s.left_out ≡ 0 → is_whole inner ≡ true
      → all (leaving s 1) (inner ++ piece.Close ∷ rest) ≡ all s rest
  left_out s inner rest live whole = skipped s inner (piece.Close ∷ rest) 0 1 0 refl whole
      ∙ dead_step s piece.Close rest 0 ∙ back s rest live

  closing : (t : State) (rest : List Piece) → t.left_out ≡ 0 → all t (piece.Close ∷ rest) ≡ all t rest
  closing t rest live = live_step t piece.Close rest ([], t) live refl ∙ after_nothing (all t rest)

  -- the second text is left out after the first
  second_left_out : (second rest : List Piece) → is_whole second ≡ true → (t : State) → t.left_out ≡ 0
      → all t (piece.Else ∷ second ++ piece.Close ∷ rest) ≡ all t rest
  second_left_out second rest whole t live =
      live_step t piece.Else (second ++ piece.Close ∷ rest) ([], leaving t 1) live refl
      ∙ after_nothing (all (leaving t 1) (second ++ piece.Close ∷ rest))
      ∙ left_out t second rest live whole

  pub first_chosen : (s : State) (key : Key) (bytes : List ℕ) (first second rest : List Piece) → s.left_out ≡ 0
      → group_text rules m text key ≡ Ok (Some bytes) → is_whole first ≡ true → is_whole second ≡ true
      → all s (piece.Choice key ∷ first ++ piece.Else ∷ second ++ piece.Close ∷ rest) ≡ all s (first ++ rest)
  first_chosen s key bytes first second rest live found whole_first whole_second =
      let tail = first ++ piece.Else ∷ second ++ piece.Close ∷ rest in
      live_step s (piece.Choice key) tail ([], s) live (ap (λ r. r >>= λ found. Ok (choice_of s found)) found)
      ∙ after_nothing (all s tail)
      ∙ ap (all s) (append_assoc first (piece.Else ∷ second) (piece.Close ∷ rest))
      ∙ same_after s first (piece.Else ∷ second ++ piece.Close ∷ rest) rest 0
      (second_left_out second rest whole_second) (omega (arith, live)) whole_first

  pub second_chosen : (s : State) (key : Key) (first second rest : List Piece) → s.left_out ≡ 0
      → group_text rules m text key ≡ Ok None → is_whole first ≡ true → is_whole second ≡ true
      → all s (piece.Choice key ∷ first ++ piece.Else ∷ second ++ piece.Close ∷ rest) ≡ all s (second ++ rest)
  second_chosen s key first second rest live found whole_first whole_second =
      let tail = first ++ piece.Else ∷ second ++ piece.Close ∷ rest in
      live_step s (piece.Choice key) tail ([], leaving s 1) live (ap (λ r. r >>= λ found. Ok (choice_of s found)) found)
      ∙ after_nothing (all (leaving s 1) tail)
      ∙ ap (all (leaving s 1)) (append_assoc first (piece.Else ∷ second) (piece.Close ∷ rest))
      ∙ skipped s first (piece.Else ∷ second ++ piece.Close ∷ rest) 0 1 0 refl whole_first
      ∙ dead_step s piece.Else (second ++ piece.Close ∷ rest) 0
      ∙ back s (second ++ piece.Close ∷ rest) live
      ∙ same_after s second (piece.Close ∷ rest) rest 0 (λ t. closing t rest) (omega (arith, live)) whole_second

  pub group_chosen : (s : State) (key : Key) (bytes : List ℕ) (inner rest : List Piece) → s.left_out ≡ 0
      → group_text rules m text key ≡ Ok (Some bytes) → is_whole inner ≡ true
      → all s (piece.Default key ∷ inner ++ piece.Close ∷ rest) ≡ all s (piece.Group key ∷ rest)
  group_chosen s key bytes inner rest live found whole =
      let done = writing s bytes in
      live_step s (piece.Default key) (inner ++ piece.Close ∷ rest) (done.0, leaving done.1 1) live
      (ap (λ r. r >>= λ found. Ok (default_of s found)) found)
      ∙ ap (after done.0) (left_out done.1 inner rest live whole)
      ∙ sym (live_step s (piece.Group key) rest done live (ap (λ r. r >>= λ found. group_written rules s found) found))

  pub default_chosen : (s : State) (key : Key) (inner rest : List Piece) → s.left_out ≡ 0
      → group_text rules m text key ≡ Ok None → is_whole inner ≡ true
      → all s (piece.Default key ∷ inner ++ piece.Close ∷ rest) ≡ all s (inner ++ rest)
  default_chosen s key inner rest live found whole =
      let tail = inner ++ piece.Close ∷ rest in
      live_step s (piece.Default key) tail ([], s) live (ap (λ r. r >>= λ found. Ok (default_of s found)) found)
      ∙ after_nothing (all s tail)
      ∙ same_after s inner (piece.Close ∷ rest) rest 0 (λ t. closing t rest) (omega (arith, live)) whole
