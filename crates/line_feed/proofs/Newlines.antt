-- Newlines in bytes to which more is added, or of which the first are taken away.
use Rattle.std.proofs.Common.{◌≡◌, ◌⊎◌, inl, inr, ℕ, suc, ◌+◌, ◌<◌, ◌≤◌, true, false, ◌&&◌, cond, eqb, ltb, max}
use Rattle.std.proofs.Common.{List, [], ◌∷◌, ◌++◌, length, drop, get_or, refl, sym, ap, subst, ◌∙◌, arith, ⊎_elim}
use Rattle.std.proofs.Common.{length-append, length-drop}
use Rattle.std.proofs.lemmas.Bool.{cases_Bool, cases_lt, cases_eq, both_ways, and_parts, eqb-true, ltb-true, lt-ltb}
use Rattle.std.proofs.lemmas.Bool.{le-ltb}
use Rattle.std.proofs.lemmas.List.{get_or_append_left, get_or-drop}
use Rattle.byte_lanes.specs.declared.line_end.EndKind.{EndKind}
use Rattle.byte_lanes.specs.declared.line_end.EndKind.TheVariants.{Cr, Lf, CrLf, AnyCrLf, Any, AnyUtf, Nul}
use Rattle.byte_lanes.specs.Newlines.{stands, longest, newline_texts, newline_len, has_crlf}
use Rattle.byte_lanes.proofs.lemmas.NewlineLemmas.{Heads, longest-head, stands_other, stands_past}

-- a text that stands lies within the bytes, and begins with the byte there
stands-within : (t bytes : List ℕ) (k : ℕ) → k ≤ length bytes → stands t bytes k ≡ true → k + length t ≤ length bytes
unfolding stands
stands-within [] bytes k le h = omega arith
stands-within (b ∷ t) bytes k le h =
    let here = and_parts _ _ h in
    let l = ltb-true k (length bytes) here.0 in
    let next : k + 1 ≤ length bytes = omega arith in
    let more : k + 1 + length t ≤ length bytes = stands-within t bytes (k + 1) next
    (and_parts (eqb (get_or bytes k 0) b) (stands t bytes (k + 1)) here.1).1 in
    omega (arith, more)

stands-head : (b : ℕ) (t bytes : List ℕ) (k : ℕ) → stands (b ∷ t) bytes k ≡ true → get_or bytes k 0 ≡ b
unfolding stands
stands-head b t bytes k h = eqb-true _ _ (and_parts _ _ (and_parts _ _ h).1).0

stands-second : (b x : ℕ) (t bytes : List ℕ) (k : ℕ) → stands (b ∷ x ∷ t) bytes k ≡ true → get_or bytes (k + 1) 0 ≡ x
unfolding stands
stands-second b x t bytes k h = stands-head x t bytes (k + 1) (and_parts _ _ (and_parts _ _ h).1).1

-- more bytes change nothing at a text that lies within
stands_more : (t bytes more : List ℕ) (k : ℕ) → k + length t ≤ length bytes
    → stands t (bytes ++ more) k ≡ stands t bytes k
unfolding stands
stands_more [] bytes more k h = refl
stands_more (b ∷ t) bytes more k h =
    let l : k < length bytes = omega arith in
    let far : ltb k (length (bytes ++ more)) ≡ true = lt-ltb k _ (omega (arith, l, length-append bytes more)) in
    let near : ltb k (length bytes) ≡ true = lt-ltb k _ l in
    let same = get_or_append_left bytes more 0 k l in
    let rest = stands_more t bytes more (k + 1) (omega arith) in
    (λ i. far i && (eqb (same i) b && rest i))
    ∙ sym (λ i. near i && (eqb (get_or bytes k 0) b && stands t bytes (k + 1)))

-- a text of a newline is short, or that of U+2028 or U+2029
abbrev pub Shape : List ℕ → Type 0
Shape t = (length t ≤ 2) ⊎ ((x : ℕ) × (t ≡ 226 ∷ 128 ∷ x ∷ []))

abbrev pub Shapes : List (List ℕ) → Type 0
Shapes [] = Unit {0}
Shapes (t ∷ ts) = Shape t × Shapes ts

short : (t : List ℕ) → ltb 2 (length t) ≡ false → Shape t
short t e = ⊎_elim (λ l. absurd (both_ways _ e (lt-ltb 2 _ l))) (λ l. inl l) (cases_lt 2 (length t))

shapes : (kind : EndKind) → Shapes (newline_texts kind)
shapes Cr = (short _ refl, tt)
shapes Lf = (short _ refl, tt)
shapes CrLf = (short _ refl, tt)
shapes AnyCrLf = (short _ refl, (short _ refl, (short _ refl, tt)))
shapes Any = (short _ refl, (short _ refl, (short _ refl, (short _ refl, (short _ refl, (short _ refl, tt))))))
shapes AnyUtf = (
  inr (168, refl),
  (
    inr (169, refl),
    (short _ refl, (short _ refl, (short _ refl, (short _ refl, (short _ refl, (short _ refl, tt)))))),
  ),
)
shapes Nul = (short _ refl, tt)

shape-most : (t : List ℕ) → Shape t → length t ≤ 3
shape-most t (inl l) = omega arith
shape-most t (inr (x, e)) = let n = ap length e in omega arith

-- a newline lies within the bytes, and has at most 3
within_by : (ts : List (List ℕ)) (bytes : List ℕ) (k : ℕ) → k ≤ length bytes → k + longest ts bytes k ≤ length bytes
within_by [] bytes k le = omega arith
within_by (t ∷ ts) bytes k le =
    let rest = within_by ts bytes k le in
    ⊎_elim (λ yes_is.
    let h = stands-within t bytes k le yes_is in
    let e : max (cond (stands t bytes k) (length t) 0) (longest ts bytes k) ≡ max (length t) (longest ts bytes k) =
    ap (λ q. max (cond q (length t) 0) (longest ts bytes k)) yes_is in
    omega arith)
    (λ no_is.
    let e : max (cond (stands t bytes k) (length t) 0) (longest ts bytes k) ≡ max 0 (longest ts bytes k) =
    ap (λ q. max (cond q (length t) 0) (longest ts bytes k)) no_is in
    omega arith)
    (cases_Bool (stands t bytes k))

pub newline-within : (kind : EndKind) (bytes : List ℕ) (k : ℕ) → k ≤ length bytes
    → k + newline_len kind bytes k ≤ length bytes
newline-within kind bytes k le = within_by (newline_texts kind) bytes k le

most_by : (ts : List (List ℕ)) (bytes : List ℕ) (k : ℕ) → Shapes ts → longest ts bytes k ≤ 3
most_by [] bytes k h = omega arith
most_by (t ∷ ts) bytes k h =
    let rest = most_by ts bytes k h.1 in
    let here = shape-most t h.0 in
    ⊎_elim (λ yes_is. let e : max (cond (stands t bytes k) (length t) 0) (longest ts bytes k) ≡ max (length t)
    (longest ts bytes k) = ap (λ q. max (cond q (length t) 0) (longest ts bytes k)) yes_is in omega arith)
    (λ no_is. let e : max (cond (stands t bytes k) (length t) 0) (longest ts bytes k) ≡ max 0 (longest ts bytes k) =
    ap (λ q. max (cond q (length t) 0) (longest ts bytes k)) no_is in omega arith)
    (cases_Bool (stands t bytes k))

pub newline-most : (kind : EndKind) (bytes : List ℕ) (k : ℕ) → newline_len kind bytes k ≤ 3
newline-most kind bytes k = most_by (newline_texts kind) bytes k (shapes kind)

-- a newline begins with no byte 128, which stands inside those of U+2028 and U+2029
heads : (kind : EndKind) → Heads (λ b. eqb b 128 ≡ false) (newline_texts kind)
heads Cr = (refl, tt)
heads Lf = (refl, tt)
heads CrLf = (refl, tt)
heads AnyCrLf = (refl, (refl, (refl, tt)))
heads Any = (refl, (refl, (refl, (refl, (refl, (refl, tt))))))
heads AnyUtf = (refl, (refl, (refl, (refl, (refl, (refl, (refl, (refl, tt))))))))
heads Nul = (refl, tt)

-- where no newline begins, none begins with more bytes behind, if there are three or a newline begins further on
far_by : (ts : List (List ℕ)) (bytes more : List ℕ) (k : ℕ) → Shapes ts → k + 3 ≤ length bytes
    → longest ts (bytes ++ more) k ≡ longest ts bytes k
far_by [] bytes more k h far = refl
far_by (t ∷ ts) bytes more k h far =
    let here = stands_more t bytes more k (omega (arith, shape-most t h.0)) in
    let rest = far_by ts bytes more k h.1 far in
    λ i. max (cond (here i) (length t) 0) (rest i)

pub newline-far : (kind : EndKind) (bytes more : List ℕ) (k : ℕ) → k + 3 ≤ length bytes
    → newline_len kind (bytes ++ more) k ≡ newline_len kind bytes k
newline-far kind bytes more k far = far_by (newline_texts kind) bytes more k (shapes kind) far

-- a text that may stand over the end of the bytes, at j, doesn't where a newline begins at k
over_end : (t bytes more : List ℕ) (j k : ℕ) → Shape t → j < k → k < length bytes → eqb (get_or bytes k 0) 128 ≡ false
    → length bytes < j + length t → stands t (bytes ++ more) j ≡ false
over_end t bytes more j k (inl l) before within other over = absurd (omega arith)
over_end t bytes more j k (inr (x, e)) before within other over =
    let n = ap length e in
    let next : j + 1 ≡ k = omega arith in
    ⊎_elim (λ yes_is.
    let second : get_or (bytes ++ more) (j + 1) 0 ≡ 128 =
    stands-second 226 128 (x ∷ []) (bytes ++ more) j (subst (λ q. stands q (bytes ++ more) j ≡ true) e yes_is) in
    let there : get_or bytes k 0 ≡ 128 = sym (get_or_append_left bytes more 0 k within)
    ∙ ap (λ q. get_or (bytes ++ more) q 0) (sym next) ∙ second in
    absurd (both_ways _ other (ap (λ q. eqb q 128) there)))
    (λ no_is. no_is)
    (cases_Bool (stands t (bytes ++ more) j))

before_by : (ts : List (List ℕ)) (bytes more : List ℕ) (j k : ℕ) → Shapes ts → j < k → k < length bytes
    → eqb (get_or bytes k 0) 128 ≡ false → longest ts bytes j ≡ 0 → longest ts (bytes ++ more) j ≡ 0
before_by [] bytes more j k h before within other none = refl
before_by (t ∷ ts) bytes more j k h before within other none =
    let first : cond (stands t bytes j) (length t) 0 ≡ 0 = omega arith in
    let rest : longest ts bytes j ≡ 0 = omega arith in
    let rest_more = before_by ts bytes more j k h.1 before within other rest in
    let here : cond (stands t (bytes ++ more) j) (length t) 0 ≡ 0 =
    ⊎_elim (λ over. ap (λ q. cond q (length t) 0) (over_end t bytes more j k h.0 before within other over))
    (λ fits. ap (λ q. cond q (length t) 0) (stands_more t bytes more j fits) ∙ first)
    (cases_lt (length bytes) (j + length t)) in
    omega arith

pub newline-before : (kind : EndKind) (bytes more : List ℕ) (j k : ℕ) → j < k → k < length bytes
    → 0 < newline_len kind bytes k → newline_len kind bytes j ≡ 0 → newline_len kind (bytes ++ more) j ≡ 0
newline-before kind bytes more j k before within here none =
    before_by (newline_texts kind) bytes more j k (shapes kind) before within
    (longest-head (λ b. eqb b 128 ≡ false) (newline_texts kind) bytes k (heads kind) here) none

-- each text that begins with the byte at k lies within the bytes
abbrev pub Fits : ℕ → ℕ → ℕ → List (List ℕ) → Type 0
Fits a k n [] = Unit {0}
Fits a k n ([] ∷ ts) = ⊥
Fits a k n ((b ∷ t) ∷ ts) = (a ≡ b → k + suc (length t) ≤ n) × Fits a k n ts

fit_by : (ts : List (List ℕ)) (bytes more : List ℕ) (k : ℕ) → k < length bytes
    → Fits (get_or bytes k 0) k (length bytes) ts → longest ts (bytes ++ more) k ≡ longest ts bytes k
fit_by [] bytes more k l h = refl
fit_by ([] ∷ ts) bytes more k l h = absurd h
fit_by ((b ∷ t) ∷ ts) bytes more k l h =
    let here : stands (b ∷ t) (bytes ++ more) k ≡ stands (b ∷ t) bytes k =
    ⊎_elim (λ e. stands_more (b ∷ t) bytes more k (h.0 e))
    (λ ne. stands_other b t (bytes ++ more) k (λ e. ne (sym (get_or_append_left bytes more 0 k l) ∙ e))
    ∙ sym (stands_other b t bytes k ne))
    (cases_eq (get_or bytes k 0) b) in
    let rest = fit_by ts bytes more k l h.1 in
    λ i. max (cond (here i) (suc (length t)) 0) (rest i)

-- what each text that stands shows, a newline shows
abbrev pub Each : (List ℕ → Type 0) → List (List ℕ) → Type 0
Each P [] = Unit {0}
Each P (t ∷ ts) = P t × Each P ts

some_stands : (Q : Type 0) (ts : List (List ℕ)) (bytes : List ℕ) (k : ℕ) → Each (λ t. stands t bytes k ≡ true → Q) ts
    → 0 < longest ts bytes k → Q
some_stands Q [] bytes k h there = absurd (omega arith)
some_stands Q (t ∷ ts) bytes k h there =
    ⊎_elim (λ yes_is. h.0 yes_is)
    (λ no_is.
    let e : max (cond (stands t bytes k) (length t) 0) (longest ts bytes k) ≡ max 0 (longest ts bytes k) =
    ap (λ q. max (cond q (length t) 0) (longest ts bytes k)) no_is in
    some_stands Q ts bytes k h.1 (omega arith))
    (cases_Bool (stands t bytes k))

-- the texts of U+2028, U+2029 and U+0085 that begin there lie within, where a newline begins there
abbrev pub LongFit : ℕ → ℕ → ℕ → Type 0
LongFit a k n = (a ≡ 226 → k + 3 ≤ n) × (a ≡ 194 → k + 2 ≤ n)

long_fit : (b : ℕ) (t bytes : List ℕ) (k : ℕ) → k ≤ length bytes → (b ≡ 226 → length t ≡ 2) → (b ≡ 194 → length t ≡ 1)
    → stands (b ∷ t) bytes k ≡ true → LongFit (get_or bytes k 0) k (length bytes)
long_fit b t bytes k le three two h =
    let head = stands-head b t bytes k h in
    let fits = stands-within (b ∷ t) bytes k le h in
    (λ e. (let n = three (sym head ∙ e) in omega arith), λ e. (let n = two (sym head ∙ e) in omega arith))

utf_fit : (bytes : List ℕ) (k : ℕ) → k ≤ length bytes → 0 < newline_len AnyUtf bytes k
    → LongFit (get_or bytes k 0) k (length bytes)
utf_fit bytes k le here =
    some_stands (LongFit (get_or bytes k 0) k (length bytes)) (newline_texts AnyUtf) bytes k (
      long_fit 226 (128 ∷ 168 ∷ []) bytes k le (λ e. refl) (λ e. absurd (omega arith)),
      (
        long_fit 226 (128 ∷ 169 ∷ []) bytes k le (λ e. refl) (λ e. absurd (omega arith)),
        (
          long_fit 13 (10 ∷ []) bytes k le (λ e. absurd (omega arith)) (λ e. absurd (omega arith)),
          (
            long_fit 194 (133 ∷ []) bytes k le (λ e. absurd (omega arith)) (λ e. refl),
            (
              long_fit 10 [] bytes k le (λ e. absurd (omega arith)) (λ e. absurd (omega arith)),
              (
                long_fit 11 [] bytes k le (λ e. absurd (omega arith)) (λ e. absurd (omega arith)),
                (
                  long_fit 12 [] bytes k le (λ e. absurd (omega arith)) (λ e. absurd (omega arith)),
                  (long_fit 13 [] bytes k le (λ e. absurd (omega arith)) (λ e. absurd (omega arith)), tt),
                ),
              ),
            ),
          ),
        ),
      ),
    ) here

crlf_fit : (bytes : List ℕ) (k : ℕ) → k ≤ length bytes → 0 < newline_len CrLf bytes k → k + 2 ≤ length bytes
crlf_fit bytes k le here = some_stands (k + 2 ≤ length bytes) (newline_texts CrLf) bytes k
    (λ h. stands-within (13 ∷ 10 ∷ []) bytes k le h, tt) here

fits : (kind : EndKind) (bytes : List ℕ) (k : ℕ) → k < length bytes → 0 < newline_len kind bytes k
    → (has_crlf kind ≡ true → get_or bytes k 0 ≡ 13 → k + 2 ≤ length bytes)
    → Fits (get_or bytes k 0) k (length bytes) (newline_texts kind)
fits Cr bytes k l here settled = (λ e. omega arith, tt)
fits Lf bytes k l here settled = (λ e. omega arith, tt)
fits CrLf bytes k l here settled = let f = crlf_fit bytes k (omega arith) here in (λ e. omega arith, tt)
fits AnyCrLf bytes k l here settled = (λ e. settled refl e, (λ e. omega arith, (λ e. omega arith, tt)))
fits Any bytes k l here settled = (
  λ e. settled refl e,
  (λ e. omega arith, (λ e. omega arith, (λ e. omega arith, (λ e. omega arith, (λ e. omega arith, tt))))),
)
fits AnyUtf bytes k l here settled =
    let f = utf_fit bytes k (omega arith) here in (
      λ e. f.0 e,
      (
        λ e. f.0 e,
        (
          λ e. settled refl e,
          (λ e. f.1 e, (λ e. omega arith, (λ e. omega arith, (λ e. omega arith, (λ e. omega arith, tt))))),
        ),
      ),
    )
fits Nul bytes k l here settled = (λ e. omega arith, tt)

-- a newline stays as it is, unless it is a CR at the end that an LF would join
pub newline-here : (kind : EndKind) (bytes more : List ℕ) (k : ℕ) → k < length bytes → 0 < newline_len kind bytes k
    → (has_crlf kind ≡ true → get_or bytes k 0 ≡ 13 → k + 2 ≤ length bytes)
    → newline_len kind (bytes ++ more) k ≡ newline_len kind bytes k
newline-here kind bytes more k l here settled = fit_by (newline_texts kind) bytes more k l
    (fits kind bytes k l here settled)

-- a newline of the longer bytes that lies within the shorter is one of them
shorter_by : (ts : List (List ℕ)) (bytes more : List ℕ) (k : ℕ) → k ≤ length bytes
    → k + longest ts (bytes ++ more) k ≤ length bytes → longest ts bytes k ≡ longest ts (bytes ++ more) k
shorter_by [] bytes more k le h = refl
shorter_by (t ∷ ts) bytes more k le h =
    let rest = shorter_by ts bytes more k le (omega arith) in
    let here : cond (stands t bytes k) (length t) 0 ≡ cond (stands t (bytes ++ more) k) (length t) 0 =
    ⊎_elim (λ over.
    let short_no : stands t bytes k ≡ false =
    ⊎_elim (λ s. absurd (let w = stands-within t bytes k le s in omega arith)) (λ n. n)
    (cases_Bool (stands t bytes k)) in
    let long_no : stands t (bytes ++ more) k ≡ false =
    ⊎_elim (λ s. absurd (let w = ap (λ q. cond q (length t) 0) s in omega arith)) (λ n. n)
    (cases_Bool (stands t (bytes ++ more) k)) in
    ap (λ q. cond q (length t) 0) (short_no ∙ sym long_no))
    (λ f. ap (λ q. cond q (length t) 0) (sym (stands_more t bytes more k f)))
    (cases_lt (length bytes) (k + length t)) in
    λ i. max (here i) (rest i)

pub newline-shorter : (kind : EndKind) (bytes more : List ℕ) (k : ℕ) → k ≤ length bytes
    → k + newline_len kind (bytes ++ more) k ≤ length bytes
    → newline_len kind bytes k ≡ newline_len kind (bytes ++ more) k
newline-shorter kind bytes more k le h = shorter_by (newline_texts kind) bytes more k le h

-- newlines behind the first m bytes
stands-drop : (t bytes : List ℕ) (m k : ℕ) → stands t (drop m bytes) k ≡ stands t bytes (m + k)
unfolding stands
stands-drop [] bytes m k = refl
stands-drop (b ∷ t) bytes m k =
    let long = length-drop m bytes in
    let inside : ltb k (length (drop m bytes)) ≡ ltb (m + k) (length bytes) =
    ⊎_elim (λ l. lt-ltb k _ (omega arith) ∙ sym (lt-ltb (m + k) _ l))
    (λ l. le-ltb k _ (omega arith) ∙ sym (le-ltb (m + k) _ l)) (cases_lt (m + k) (length bytes)) in
    let same = get_or-drop m bytes k 0 in
    let rest : stands t (drop m bytes) (k + 1) ≡ stands t bytes (m + k + 1) = stands-drop t bytes m (k + 1)
    ∙ ap (stands t bytes) {x = m + (k + 1)} {y = m + k + 1} (omega arith) in
    λ i. inside i && (eqb (same i) b && rest i)

drop_by : (ts : List (List ℕ)) (bytes : List ℕ) (m k : ℕ) → longest ts (drop m bytes) k ≡ longest ts bytes (m + k)
drop_by [] bytes m k = refl
drop_by (t ∷ ts) bytes m k = let here = stands-drop t bytes m k in let rest = drop_by ts bytes m k in
    λ i. max (cond (here i) (length t) 0) (rest i)

pub newline-drop : (kind : EndKind) (bytes : List ℕ) (m k : ℕ)
    → newline_len kind (drop m bytes) k ≡ newline_len kind bytes (m + k)
newline-drop kind bytes m k = drop_by (newline_texts kind) bytes m k

-- no newline begins at the end
pub newline-end : (kind : EndKind) (bytes : List ℕ) (k : ℕ) → length bytes ≤ k → newline_len kind bytes k ≡ 0
newline-end kind bytes k past = by_shape (newline_texts kind) (filled kind)
  where
    filled : (kind : EndKind) → Heads (λ b. ltb b 256 ≡ true) (newline_texts kind)
    filled Cr = (refl, tt)
    filled Lf = (refl, tt)
    filled CrLf = (refl, tt)
    filled AnyCrLf = (refl, (refl, (refl, tt)))
    filled Any = (refl, (refl, (refl, (refl, (refl, (refl, tt))))))
    filled AnyUtf = (refl, (refl, (refl, (refl, (refl, (refl, (refl, (refl, tt))))))))
    filled Nul = (refl, tt)

    by_shape : (ts : List (List ℕ)) → Heads (λ b. ltb b 256 ≡ true) ts → longest ts bytes k ≡ 0
    by_shape [] h = refl
    by_shape ([] ∷ ts) h = absurd h
    by_shape ((b ∷ t) ∷ ts) h =
        let here = stands_past b t bytes k past in
        let rest = by_shape ts h.1 in
        λ i. max (cond (here i) (suc (length t)) 0) (rest i)
