-- What the undo records of a stretch give back, record by record.
use Rattle.std.proofs.Common.{◌≡◌, ◌≢◌, ◌≤◌, ◌<◌, ℕ, zero, suc, ◌-◌, ◌+◌, ◌∙◌, List, [], ◌∷◌, ◌++◌, length, take}
use Rattle.std.proofs.Common.{drop, set, get_or, reverse, replicate, Option, Some, None, true, false, append_assoc}
use Rattle.std.proofs.Common.{refl, sym, ap, subst, arith}
use Rattle.std.specs.Option.{is_some}
use Rattle.std.proofs.lemmas.Bool.{false≢true}
use Rattle.std.proofs.lemmas.List.{length-set, length-drop, map-append, reverse-append, take-append-drop}
use Rattle.std.proofs.lemmas.List.{take-append-le, length-take-le, take_all, take_more, drop_more, drop-append-le}
use Rattle.std.proofs.lemmas.List.{drop-drop, drop_all, set_past, set-get_or}
use Rattle.frame_store.specs.declared.registers.Span.{Span}
use Rattle.frame_store.specs.declared.records.Record.{Record}
use Rattle.frame_store.specs.declared.kinds.TheConstants.{KIND_UNDO}
use Rattle.frame_store.specs.Captures.{Captures}
use Rattle.frame_store.specs.Entry.{Entry, Undo, entries, entry_of, entry_kind, kept_value}
use Rattle.frame_store.specs.Undo.{undone}
use Rattle.frame_store.specs.Gains.{Values, overlaid, first_of, older_gain, newer_gain, IsGathered, stretch}
use Rattle.frame_store.proofs.EntryLemmas.{entry_of-undo, entry_kind-not}
use Rattle.frame_store.proofs.UndoLemmas.{undone-append}

overlaid_set : (vs : Values) (caps : Captures) (n : ℕ) (v : Option Span) → length caps ≡ length vs
    → overlaid (set vs n (Some v)) caps ≡ set (overlaid vs caps) n v
unfolding overlaid
overlaid_set [] [] n v h = ap (λ (vs : Values). overlaid vs []) (set_past [] n (Some v) (omega arith))
    ∙ sym (set_past [] n v (omega arith))
overlaid_set [] (x ∷ xs) n v h = absurd (omega (arith, h))
overlaid_set (g ∷ gs) [] n v h = absurd (omega (arith, h))
overlaid_set (None ∷ gs) (x ∷ xs) zero v h = refl
overlaid_set (Some w ∷ gs) (x ∷ xs) zero v h = refl
overlaid_set (None ∷ gs) (x ∷ xs) (suc n) v h = ap (λ (ys : Captures). x ∷ ys)
    (overlaid_set gs xs n v (omega (arith, h)))
overlaid_set (Some w ∷ gs) (x ∷ xs) (suc n) v h = ap (λ (ys : Captures). w ∷ ys)
    (overlaid_set gs xs n v (omega (arith, h)))

overlaid_first : (vs : Values) (caps : Captures) (n : ℕ) (old : Option Span) → length caps ≡ length vs →
    overlaid (set vs n (Some (first_of (get_or vs n None) old))) caps ≡ overlaid vs (set caps n old)
unfolding overlaid
overlaid_first [] [] n old h =
    ap (λ (vs : Values). overlaid vs []) (set_past [] n (Some (first_of (get_or [] n None) old)) (omega arith))
    ∙ sym (set_past [] n old (omega arith))
overlaid_first [] (x ∷ xs) n old h = absurd (omega (arith, h))
overlaid_first (g ∷ gs) [] n old h = absurd (omega (arith, h))
overlaid_first (None ∷ gs) (x ∷ xs) zero old h = refl
overlaid_first (Some w ∷ gs) (x ∷ xs) zero old h = refl
overlaid_first (None ∷ gs) (x ∷ xs) (suc n) old h = ap (λ (ys : Captures). x ∷ ys)
    (overlaid_first gs xs n old (omega (arith, h)))
overlaid_first (Some w ∷ gs) (x ∷ xs) (suc n) old h =
    ap (λ (ys : Captures). w ∷ ys) (overlaid_first gs xs n old (omega (arith, h)))

overlaid_none : (n : ℕ) (caps : Captures) → caps ≡ overlaid (replicate n None) caps
unfolding overlaid
overlaid_none zero caps = refl
overlaid_none (suc n) [] = refl
overlaid_none (suc n) (x ∷ xs) = ap (λ (ys : Captures). x ∷ ys) (overlaid_none n xs)

-- one value after the others
abbrev pub placed : Option (Option Span) → ℕ → Captures → Captures
placed None i caps = caps
placed (Some v) i caps = set caps i v

placed_cons : (o : Option (Option Span)) (i : ℕ) (x : Option Span) (caps : Captures)
    → x ∷ placed o i caps ≡ placed o (suc i) (x ∷ caps)
placed_cons None i x caps = refl
placed_cons (Some v) i x caps = refl

overlaid_suc : (vs : Values) (caps : Captures) (i : ℕ) → i < length vs → i < length caps
    → overlaid (take (suc i) vs) caps ≡ placed (get_or vs i None) i (overlaid (take i vs) caps)
unfolding overlaid
overlaid_suc [] caps i h k = absurd (omega (arith, h))
overlaid_suc (g ∷ gs) [] i h k = absurd (omega (arith, k))
overlaid_suc (None ∷ gs) (x ∷ xs) zero h k = refl
overlaid_suc (Some w ∷ gs) (x ∷ xs) zero h k = refl
overlaid_suc (None ∷ gs) (x ∷ xs) (suc i) h k =
    ap (λ (ys : Captures). x ∷ ys) (overlaid_suc gs xs i (omega (arith, h)) (omega (arith, k)))
    ∙ placed_cons (get_or gs i None) i x (overlaid (take i gs) xs)
overlaid_suc (Some w ∷ gs) (x ∷ xs) (suc i) h k =
    ap (λ (ys : Captures). w ∷ ys) (overlaid_suc gs xs i (omega (arith, h)) (omega (arith, k)))
    ∙ placed_cons (get_or gs i None) i w (overlaid (take i gs) xs)

pub overlaid_more : (vs : Values) (caps : Captures) (i : ℕ) (o : Option (Option Span)) → i < length vs
    → i < length caps → get_or vs i None ≡ o →
    placed o i (overlaid (take i vs) caps) ≡ overlaid (take (i + 1) vs) caps
overlaid_more vs caps i o h k is =
    let next : suc i ≡ i + 1 = omega arith in
    ap (λ (x : Option (Option Span)). placed x i (overlaid (take i vs) caps)) (sym is)
    ∙ sym (overlaid_suc vs caps i h k)
    ∙ ap (λ j. overlaid (take j vs) caps) next

pub overlaid_begin : (vs : Values) (caps : Captures) → caps ≡ overlaid (take 0 vs) caps
unfolding overlaid
overlaid_begin vs caps = refl

pub overlaid_end : (vs : Values) (caps : Captures) (i : ℕ) → length vs ≤ i
    → overlaid (take i vs) caps ≡ overlaid vs caps
overlaid_end vs caps i h = ap (λ (ws : Values). overlaid ws caps) (take_all i vs h)

-- One event more.

pub length-older_gain : (e : Entry) (vs : Values) → length (older_gain e vs) ≡ length vs
length-older_gain (Undo at slot old) vs = length-set vs (slot - 1) (Some old)
length-older_gain _ vs = refl

pub length-newer_gain : (e : Entry) (vs : Values) → length (newer_gain e vs) ≡ length vs
length-newer_gain (Undo at slot old) vs = length-set vs (slot - 1) _
length-newer_gain _ vs = refl

pub gathered_none : (n : ℕ) → IsGathered (replicate n None) []
unfolding undone
gathered_none n = λ caps h. overlaid_none n caps

gathered_older : (e : Entry) (vs : Values) (es : List Entry) → IsGathered vs es
    → IsGathered (older_gain e vs) (es ++ e ∷ [])
unfolding undone
gathered_older (Undo at slot old) vs es g = λ caps h.
    let same : length caps ≡ length vs = h ∙ length-set vs (slot - 1) (Some old) in
    undone-append es (Undo at slot old ∷ []) caps ∙ ap (λ (x : Captures). set x (slot - 1) old) (g caps same)
    ∙ sym (overlaid_set vs caps (slot - 1) old same)
gathered_older e vs es g = λ caps h. undone-append es (e ∷ []) caps ∙ g caps h

gathered_newer : (e : Entry) (vs : Values) (es : List Entry) → IsGathered vs es → IsGathered (newer_gain e vs) (e ∷ es)
unfolding undone
gathered_newer (Undo at slot old) vs es g = λ caps h.
    let same : length caps ≡ length vs = h ∙ length-set vs (slot - 1) _ in
    g (set caps (slot - 1) old) (length-set caps (slot - 1) old ∙ same)
    ∙ sym (overlaid_first vs caps (slot - 1) old same)
gathered_newer e vs es g = λ caps h. g caps h

-- One record more.

module _ (records : List Record) (vs : Values) (es : List Entry) (d : Record) where
  pub older_step : (i : ℕ) → 0 < i → i ≤ length records → IsGathered vs (es ++ entries (reverse (drop i records))) →
      IsGathered (older_gain (entry_of (get_or records (i - 1) d)) vs) (es ++ entries (reverse (drop (i - 1) records)))
  older_step i some h g =
      let r : Record = get_or records (i - 1) d in
      let back : i - 1 + 1 ≡ i = omega arith in
      let first : drop (i - 1) records ≡ r ∷ drop i records = drop_more records (i - 1) d (omega arith)
      ∙ ap (λ k. r ∷ drop k records) back in
      let last : entries (reverse (drop (i - 1) records)) ≡ entries (reverse (drop i records)) ++ entry_of r ∷ [] =
      ap (λ (ys : List Record). entries (reverse ys)) first ∙ ap entries (reverse-append (r ∷ []) (drop i records))
      ∙ map-append entry_of (reverse (drop i records)) (r ∷ []) in
      subst (IsGathered (older_gain (entry_of r) vs))
      (append_assoc es (entries (reverse (drop i records))) (entry_of r ∷ [])
      ∙ ap (λ (ys : List Entry). es ++ ys) (sym last))
      (gathered_older (entry_of r) vs (es ++ entries (reverse (drop i records))) g)

  pub newer_step : (i : ℕ) → i < length records → IsGathered vs (entries (reverse (take i records)) ++ es) →
      IsGathered (newer_gain (entry_of (get_or records i d)) vs) (entries (reverse (take (i + 1) records)) ++ es)
  newer_step i h g =
      let r : Record = get_or records i d in
      let first : entries (reverse (take (i + 1) records)) ≡ entry_of r ∷ entries (reverse (take i records)) =
      ap (λ (ys : List Record). entries (reverse ys)) (take_more records i d h)
      ∙ ap entries (reverse-append (take i records) (r ∷ [])) in
      subst (IsGathered (newer_gain (entry_of r) vs)) (ap (λ (ys : List Entry). ys ++ es) (sym first))
      (gathered_newer (entry_of r) vs (entries (reverse (take i records)) ++ es) g)

-- The records past a height are those past a stretch, the stretch, and those before it.

entries-append : (xs ys : List Record) → entries (reverse (xs ++ ys)) ≡ entries (reverse ys) ++ entries (reverse xs)
entries-append xs ys = ap entries (reverse-append xs ys) ∙ map-append entry_of (reverse ys) (reverse xs)

pub stretch_all : (to low high : ℕ) (records : List Record) → to ≤ low → low ≤ high → high ≤ length records →
    (entries (reverse (drop high records)) ++ stretch low high records) ++ entries
    (reverse (take (low - to) (drop to records)))
    ≡ entries (reverse (drop to records))
stretch_all to low high records a b h =
    let within : List Record = take high records in
    let past : List Record = drop high records in
    let len : length within ≡ high = length-take-le high records h in
    let whole : drop to records ≡ drop to within ++ past = ap (drop to) (sym (take-append-drop high records))
    ∙ drop-append-le to within past (omega (arith, a, b, len)) in
    let from : to + (low - to) ≡ low = omega (arith, a) in
    let rest : drop (low - to) (drop to within) ≡ drop low within = drop-drop (low - to) to within
    ∙ ap (λ k. drop k within) from in
    let first : take (low - to) (drop to records) ≡ take (low - to) (drop to within) =
    ap (take (low - to)) whole ∙ take-append-le (low - to) (drop to within) past
    (omega (arith, a, b, len, length-drop to within)) in
    let split : drop to within ≡ take (low - to) (drop to records) ++ drop low within =
    sym (take-append-drop (low - to) (drop to within))
    ∙ ap (λ (ys : List Record). ys ++ drop (low - to) (drop to within)) (sym first)
    ∙ ap (λ (ys : List Record). take (low - to) (drop to records) ++ ys) rest in
    append_assoc (entries (reverse past)) (entries (reverse (drop low within)))
    (entries (reverse (take (low - to) (drop to records))))
    ∙ ap (λ (es : List Entry). entries (reverse past) ++ es)
    (sym (entries-append (take (low - to) (drop to records)) (drop low within)))
    ∙ ap (λ (ys : List Record). entries (reverse past) ++ entries (reverse ys)) (sym split)
    ∙ sym (entries-append (drop to within) past) ∙ ap (λ (ys : List Record). entries (reverse ys)) (sym whole)

pub stretch_end : (to high : ℕ) (records : List Record) → length records ≤ high
    → entries (reverse (drop to records)) ≡ stretch to high records
stretch_end to high records h = ap (λ (ys : List Record). entries (reverse (drop to ys)))
    (sym (take_all high records h))

-- One record.

older_gain-other : (e : Entry) (vs : Values) → entry_kind e ≢ KIND_UNDO → older_gain e vs ≡ vs
older_gain-other (Undo at slot old) vs h = absurd (h refl)
older_gain-other _ vs h = refl

newer_gain-other : (e : Entry) (vs : Values) → entry_kind e ≢ KIND_UNDO → newer_gain e vs ≡ vs
newer_gain-other (Undo at slot old) vs h = absurd (h refl)
newer_gain-other _ vs h = refl

none_there : (o : Option (Option Span)) → is_some o ≡ false → o ≡ None
none_there None h = refl
none_there (Some v) h = absurd (false≢true (sym h))

first_there : (o : Option (Option Span)) (old : Option Span) → is_some o ≡ true → o ≡ Some (first_of o old)
first_there None old h = absurd (false≢true h)
first_there (Some v) old h = refl

module _ (r : Record) (vs : Values) where
  pub older_gain-plain : r.kind ≢ KIND_UNDO → older_gain (entry_of r) vs ≡ vs
  older_gain-plain h = older_gain-other (entry_of r) vs (entry_kind-not r KIND_UNDO (omega arith) h)

  pub newer_gain-plain : r.kind ≢ KIND_UNDO → newer_gain (entry_of r) vs ≡ vs
  newer_gain-plain h = newer_gain-other (entry_of r) vs (entry_kind-not r KIND_UNDO (omega arith) h)

  newer_gain-undo : r.kind ≡ KIND_UNDO → set vs (r.slot - 1)
      (Some (first_of (get_or vs (r.slot - 1) None) (kept_value r))) ≡ newer_gain (entry_of r) vs
  newer_gain-undo is = ap (λ (e : Entry). newer_gain e vs) (sym (entry_of-undo r is))

  pub newer_gain-first : (k : ℕ) → k ≡ r.slot - 1 → r.kind ≡ KIND_UNDO → is_some (get_or vs k None) ≡ false
      → set vs k (Some (kept_value r)) ≡ newer_gain (entry_of r) vs
  newer_gain-first k place is none =
      ap (λ (o : Option (Option Span)). set vs k (Some (first_of o (kept_value r))))
      (sym (none_there (get_or vs k None) none))
      ∙ ap (λ j. set vs j (Some (first_of (get_or vs j None) (kept_value r)))) place ∙ newer_gain-undo is

  pub newer_gain-same : (k : ℕ) → k ≡ r.slot - 1 → r.kind ≡ KIND_UNDO → is_some (get_or vs k None) ≡ true
      → vs ≡ newer_gain (entry_of r) vs
  newer_gain-same k place is some =
      sym (set-get_or vs k None) ∙ ap (set vs k) (first_there (get_or vs k None) (kept_value r) some)
      ∙ ap (λ j. set vs j (Some (first_of (get_or vs j None) (kept_value r)))) place ∙ newer_gain-undo is

-- a stretch at the end holds nothing
pub gathered_begin : (records : List Record) (n : ℕ)
    → IsGathered (replicate n None) (stretch (length records) (length records) records)
gathered_begin records n =
    let none : drop (length records) (take (length records) records) ≡ [] =
    ap (drop (length records)) (take_all (length records) records (omega arith))
    ∙ drop_all (length records) records (omega arith) in
    subst (λ (ys : List Record). IsGathered (replicate n None) (entries (reverse ys))) (sym none) (gathered_none n)
