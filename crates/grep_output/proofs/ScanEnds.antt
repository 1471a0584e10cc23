-- Where a scan ends, from the lines that were tried so far: by the counts of match errors and of selected lines.
use Rattle.std.proofs.Common.{◌≡◌, ℕ, suc, ◌+◌, ◌-◌, ◌<◌, ◌≤◌, ◌==◌, Bool, true, false, List, [], ◌∷◌, ◌++◌, length}
use Rattle.std.proofs.Common.{take, Option, Some, None, refl, sym, ap, subst, ◌∙◌, ⊎_elim, arith, append_assoc}
use Rattle.std.proofs.Common.{length-append, cond}
use Rattle.std.specs.Prelude.{⊤, filter, option_map}
use Rattle.std.proofs.lemmas.Bool.{cases_Bool, eqb-true, le-ltb, lt-ltb}
use Rattle.std.proofs.lemmas.List.{map-append, length-map}
use Rattle.std.proofs.lemmas.List.Elements.{filter-append}
use Rattle.std.proofs.Math.Seq.{take-append_seam, take-append-add}
use Rattle.line_feed.specs.Rows.{Finish}
use Rattle.grep_match.specs.Matches.{Tried}
use Rattle.grep_output.specs.Scans.{Scan, IsBelow, nth_place, place_of_most, scan_to, whole_scan, early_scan}
use Rattle.grep_output.specs.Scans.{broken_scan, rows_of}

-- it is none of the first lines
abbrev pub IsPast : ℕ → Option ℕ → Type 0
IsPast n None = ⊤
IsPast n (Some k) = n ≤ k

abbrev pub count : (Tried → Bool) → List Tried → ℕ
count holds ts = length (filter holds ts)

module _ (holds : Tried → Bool) where
  count-true : (t : Tried) (ts : List Tried) → holds t ≡ true → count holds (t ∷ ts) ≡ count holds ts + 1
  count-true t ts e = ap (λ b. length (cond b (t ∷ filter holds ts) (filter holds ts))) e
      ∙ (let h : suc (count holds ts) ≡ count holds ts + 1 = omega arith in h)

  count-false : (t : Tried) (ts : List Tried) → holds t ≡ false → count holds (t ∷ ts) ≡ count holds ts
  count-false t ts e = ap (λ b. length (cond b (t ∷ filter holds ts) (filter holds ts))) e

  pub count-more : (ts : List Tried) (t : Tried) → count holds (ts ++ t ∷ []) ≡ count holds ts + count holds (t ∷ [])
  count-more ts t = ap length (filter-append holds ts (t ∷ []))
      ∙ length-append (filter holds ts) (filter holds (t ∷ []))

  pub count-one : (t : Tried) → holds t ≡ true → count holds (t ∷ []) ≡ 1
  count-one t e = count-true t [] e

  pub count-none : (t : Tried) → holds t ≡ false → count holds (t ∷ []) ≡ 0
  count-none t e = count-false t [] e

  by_one : (n : ℕ) (ts : List Tried) → Bool → Option ℕ
  by_one n ts b = elim b [ true ↦ Some 0 | false ↦ option_map suc (nth_place holds (n - 1) ts) ]

  by_test : (n : ℕ) (ts : List Tried) → Bool → Option ℕ
  unfolding by_one
  by_test n ts b = elim b [ true ↦ by_one n ts (n == 1) | false ↦ option_map suc (nth_place holds n ts) ]

  step : (n : ℕ) (t : Tried) (ts : List Tried) → nth_place holds n (t ∷ ts) ≡ by_test n ts (holds t)
  unfolding nth_place by_one by_test
  step n t ts = refl

  step-one : (n : ℕ) (t : Tried) (ts : List Tried) → holds t ≡ true → (n == 1) ≡ true
      → nth_place holds n (t ∷ ts) ≡ Some 0
  unfolding by_one by_test
  step-one n t ts e f = step n t ts ∙ ap (by_test n ts) e ∙ ap (by_one n ts) f

  step-skip : (n : ℕ) (t : Tried) (ts : List Tried) → holds t ≡ true → (n == 1) ≡ false
      → nth_place holds n (t ∷ ts) ≡ option_map suc (nth_place holds (n - 1) ts)
  unfolding by_one by_test
  step-skip n t ts e f = step n t ts ∙ ap (by_test n ts) e ∙ ap (by_one n ts) f

  step-pass : (n : ℕ) (t : Tried) (ts : List Tried) → holds t ≡ false
      → nth_place holds n (t ∷ ts) ≡ option_map suc (nth_place holds n ts)
  unfolding by_test
  step-pass n t ts e = step n t ts ∙ ap (by_test n ts) e

  step-nil : (n : ℕ) → nth_place holds n [] ≡ None
  unfolding nth_place
  step-nil n = refl

  -- there are fewer than n of them
  pub nth-none : (n : ℕ) (ts : List Tried) → count holds ts < n → nth_place holds n ts ≡ None
  nth-none n [] less = step-nil n
  nth-none n (t ∷ ts) less = ⊎_elim
      (λ (e : holds t ≡ true).
      let more : count holds ts + 1 < n = subst (λ k. k < n) (count-true t ts e) less in
      ⊎_elim
      (λ (f : (n == 1) ≡ true). absurd (let one = eqb-true n 1 f in omega arith))
      (λ (f : (n == 1) ≡ false). step-skip n t ts e f ∙ ap (option_map suc) (nth-none (n - 1) ts (omega arith)))
      (cases_Bool (n == 1)))
      (λ (e : holds t ≡ false).
      let more : count holds ts < n = subst (λ k. k < n) (count-false t ts e) less in
      step-pass n t ts e ∙ ap (option_map suc) (nth-none n ts more))
      (cases_Bool (holds t))

  same_place : (o : Option ℕ) → o ≡ option_map (λ k. 0 + k) o
  same_place None = refl
  same_place (Some k) = ap Some (omega arith)

  later_place : (n : ℕ) (o : Option ℕ) → option_map suc (option_map (λ k. n + k) o) ≡ option_map (λ k. suc n + k) o
  later_place n None = refl
  later_place n (Some k) = ap Some (omega arith)

  -- after lines with fewer than n of them, the n-th is the one that is left
  pub nth-after : (n : ℕ) (us vs : List Tried) → count holds us < n
      → nth_place holds n (us ++ vs) ≡ option_map (λ k. length us + k) (nth_place holds (n - count holds us) vs)
  nth-after n [] vs less =
      let none : n - 0 ≡ n = omega arith in
      same_place (nth_place holds n vs) ∙ ap (λ m. option_map (λ k. 0 + k) (nth_place holds m vs)) (sym none)
  nth-after n (u ∷ us) vs less = ⊎_elim
      (λ (e : holds u ≡ true).
      let more : count holds us + 1 < n = subst (λ k. k < n) (count-true u us e) less in
      let is : n - 1 - count holds us ≡ n - count holds (u ∷ us) =
      (let h : n - 1 - count holds us ≡ n - (count holds us + 1) = omega arith in h)
      ∙ ap (λ k. n - k) (sym (count-true u us e)) in
      ⊎_elim
      (λ (f : (n == 1) ≡ true). absurd (let one = eqb-true n 1 f in omega arith))
      (λ (f : (n == 1) ≡ false).
      step-skip n u (us ++ vs) e f
      ∙ ap (option_map suc) (nth-after (n - 1) us vs (omega arith)
      ∙ ap (λ m. option_map (λ k. length us + k) (nth_place holds m vs)) is)
      ∙ later_place (length us) (nth_place holds (n - count holds (u ∷ us)) vs))
      (cases_Bool (n == 1)))
      (λ (e : holds u ≡ false).
      let more : count holds us < n = subst (λ k. k < n) (count-false u us e) less in
      step-pass n u (us ++ vs) e
      ∙ ap (option_map suc) (nth-after n us vs more
      ∙ ap (λ m. option_map (λ k. length us + k) (nth_place holds (n - m) vs)) (sym (count-false u us e)))
      ∙ later_place (length us) (nth_place holds (n - count holds (u ∷ us)) vs))
      (cases_Bool (holds u))

  -- the n-th is this one
  pub nth-here : (n : ℕ) (us : List Tried) (t : Tried) (vs : List Tried) → count holds us + 1 ≡ n → holds t ≡ true
      → nth_place holds n (us ++ t ∷ vs) ≡ Some (length us)
  nth-here n us t vs is here =
      let one : n - count holds us ≡ 1 = omega arith in
      let end : length us + 0 ≡ length us = omega arith in
      nth-after n us (t ∷ vs) (omega arith)
      ∙ ap (λ m. option_map (λ k. length us + k) (nth_place holds m (t ∷ vs))) one
      ∙ ap (option_map (λ k. length us + k)) (step-one 1 t vs here refl)
      ∙ ap Some end

  past : (n : ℕ) (o : Option ℕ) → IsPast n (option_map (λ k. n + k) o)
  past n None = tt
  past n (Some k) = omega arith

  pub nth-past : (n : ℕ) (us vs : List Tried) → count holds us < n → IsPast (length us) (nth_place holds n (us ++ vs))
  nth-past n us vs less = subst (λ o. IsPast (length us) o) (sym (nth-after n us vs less))
      (past (length us) (nth_place holds (n - count holds us) vs))

most-none : (sel : Tried → Bool) (most : Option ℕ) (ts : List Tried) → IsBelow most (count sel ts)
    → place_of_most sel most ts ≡ None
most-none sel None ts below = refl
most-none sel (Some m) ts below = nth-none sel m ts below

most-past : (sel : Tried → Bool) (most : Option ℕ) (us vs : List Tried) → IsBelow most (count sel us)
    → IsPast (length us) (place_of_most sel most (us ++ vs))
most-past sel None us vs below = tt
most-past sel (Some m) us vs below = nth-past sel m us vs below

-- the places are past a line
past-line : (holds : List Tried → Option ℕ) (us : List Tried) (t : Tried) (vs : List Tried)
    → IsPast (length (us ++ t ∷ [])) (holds ((us ++ t ∷ []) ++ vs)) → IsPast (length us + 1) (holds (us ++ t ∷ vs))
past-line holds us t vs h =
    subst (λ l. IsPast (length us + 1) (holds l)) (append_assoc us (t ∷ []) vs)
    (subst (λ n. IsPast n (holds ((us ++ t ∷ []) ++ vs))) (length-append us (t ∷ [])) h)

module _ (sel err : Tried → Bool) (left : ℕ) (most : Option ℕ) (finish : Finish) (following : ℕ) where
  -- the scan of these lines
  abbrev pub scanned : List Tried → Scan
  scanned ts = scan_to ts finish following (nth_place err left ts) (place_of_most sel most ts)

  -- no line ends it
  pub scan-whole : (ts : List Tried) → count err ts < left → IsBelow most (count sel ts)
      → scanned ts ≡ whole_scan ts finish
  scan-whole ts few below =
      ap (λ e. scan_to ts finish following e (place_of_most sel most ts)) (nth-none err left ts few)
      ∙ ap (λ s. scan_to ts finish following None s) (most-none sel most ts below)

  by_error : (ts : List Tried) (k : ℕ) (e : Option ℕ) → IsPast (k + 1) e
      → scan_to ts finish following e (Some k) ≡ early_scan ts finish k following
  by_error ts k None p = refl
  by_error ts k (Some e) p = ap (λ b. cond b (broken_scan ts e) (early_scan ts finish k following))
      (le-ltb e k (omega arith))

  by_most : (ts : List Tried) (k : ℕ) (s : Option ℕ) → IsPast (k + 1) s
      → scan_to ts finish following (Some k) s ≡ broken_scan ts k
  by_most ts k None p = refl
  by_most ts k (Some s) p = ap (λ b. cond b (broken_scan ts k) (early_scan ts finish s following))
      (lt-ltb k s (omega arith))

  -- a line is the last one that may be selected
  pub scan-early : (us : List Tried) (t : Tried) (vs : List Tried) → count err (us ++ t ∷ []) < left
      → most ≡ Some (count sel us + 1) → sel t ≡ true
      → scanned (us ++ t ∷ vs) ≡ early_scan (us ++ t ∷ vs) finish (length us) following
  scan-early us t vs few is here =
      let ts = us ++ t ∷ vs in
      let place : place_of_most sel most ts ≡ Some (length us) = ap (λ m. place_of_most sel m ts) is
      ∙ nth-here sel (count sel us + 1) us t vs refl here in
      ap (λ s. scan_to ts finish following (nth_place err left ts) s) place
      ∙ by_error ts (length us) (nth_place err left ts)
      (past-line (nth_place err left) us t vs (nth-past err left (us ++ t ∷ []) vs few))

  -- a line has the last match error that there may be
  pub scan-broken : (us : List Tried) (t : Tried) (vs : List Tried) → count err us + 1 ≡ left → err t ≡ true
      → sel t ≡ false → IsBelow most (count sel us)
      → scanned (us ++ t ∷ vs) ≡ broken_scan (us ++ t ∷ vs) (length us)
  scan-broken us t vs is here unselected below =
      let ts = us ++ t ∷ vs in
      let same : count sel (us ++ t ∷ []) ≡ count sel us = count-more sel us t
      ∙ ap (λ n. count sel us + n) (count-none sel t unselected)
      ∙ (let h : count sel us + 0 ≡ count sel us = omega arith in h) in
      ap (λ e. scan_to ts finish following e (place_of_most sel most ts)) (nth-here err left us t vs is here)
      ∙ by_most ts (length us) (place_of_most sel most ts)
      (past-line (place_of_most sel most) us t vs
      (most-past sel most (us ++ t ∷ []) vs (subst (λ n. IsBelow most n) (sym same) below)))

-- the lines of a scan that ends early, and those that follow
pub early-tried : (us : List Tried) (t : Tried) (vs : List Tried) → take (length us + 1) (us ++ t ∷ vs) ≡ us ++ t ∷ []
early-tried us t vs = take-append-add us (t ∷ vs) 1

pub early-within : (us : List Tried) (t : Tried) (vs : List Tried) (n : ℕ)
    → take (length us + 1 + n) (rows_of (us ++ t ∷ vs)) ≡ rows_of (us ++ t ∷ []) ++ take n (rows_of vs)
early-within us t vs n =
    let parts : rows_of (us ++ t ∷ vs) ≡ rows_of (us ++ t ∷ []) ++ rows_of vs =
    ap rows_of (sym (append_assoc us (t ∷ []) vs)) ∙ map-append (λ (x : Tried). x.row) (us ++ t ∷ []) vs in
    let size : length us + 1 + n ≡ length (rows_of (us ++ t ∷ [])) + n =
    ap (λ m. m + n) (sym (length-map (us ++ t ∷ []) (λ (x : Tried). x.row) ∙ length-append us (t ∷ []))) in
    (λ i. take (size i) (parts i)) ∙ take-append-add (rows_of (us ++ t ∷ [])) (rows_of vs) n

pub broken-within : (us : List Tried) (t : Tried) (vs : List Tried)
    → take (length us) (rows_of (us ++ t ∷ vs)) ≡ rows_of us
broken-within us t vs =
    ap (λ l. take (length us) l) (map-append (λ (x : Tried). x.row) us (t ∷ vs))
    ∙ ap (λ m. take m (rows_of us ++ rows_of (t ∷ vs))) (sym (length-map us (λ (x : Tried). x.row)))
    ∙ take-append_seam (rows_of us) (rows_of (t ∷ vs))
