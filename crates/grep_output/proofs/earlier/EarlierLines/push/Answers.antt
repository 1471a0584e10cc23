use Rattle.std.proofs.Common.{◌≡◌, ◌≢◌, ◌<◌, ◌≤◌, ◌⊎◌, ◌==◌, ◌++◌, ◌∷◌, [], length, take, drop, if◌then◌else◌, ℕ}
use Rattle.std.proofs.Common.{zero, suc, ◌+◌, ◌-◌, min, List, arith, refl, sym, ap, subst, ◌∙◌, ⊎_elim, append_assoc}
use Rattle.std.proofs.Common.{length-append, length-drop}
use Rattle.std.specs.List.{All}
use Rattle.std.proofs.lemmas.Bool.{cases_eq, cond-true, cond-false, cond_both, eq-eqb, ne_eqb}
use Rattle.std.proofs.lemmas.List.Elements.{All-append, All-drop}
use Rattle.std.proofs.lemmas.List.{take-append-drop, drop-append-le}
use Rattle.circular_buffer.specs.Buffer.{Buffer, keep_last, buffer}
use Rattle.line_feed.specs.Rows.{Row}
use Rattle.line_feed.specs.Lines.{row_of}
use Rattle.grep_output.specs.Earlier.{EarlierRows, IsKept, IsShort}
use Rattle.grep_output.proofs.ReachRows.{last_few, last_after}
use Rattle.grep_output.proofs.earlier.EarlierLines.push.Goals as goal

-- the last ones of those kept and one more are the last ones of all
last_kept : (limit count n : ℕ) (xs : List Row) (r : Row) → count ≤ length xs → n ≡ min limit (count + 1)
    → keep_last limit (keep_last count xs ++ r ∷ []) ≡ keep_last n (xs ++ r ∷ [])
last_kept limit count n xs r there e =
    let k = length xs - count in
    let all = xs ++ r ∷ [] in
    let long : length all ≡ length xs + 1 = length-append xs (r ∷ []) in
    let left = length-drop k all in
    ap (λ l. keep_last limit l) (sym (drop-append-le k xs (r ∷ []) (omega arith)))
    ∙ ap (λ m. drop m (drop k all)) {x = length (drop k all) - limit} {y = length (drop k all) - n} (omega arith)
    ∙ sym (last_after n (take k all) (drop k all) (omega arith))
    ∙ ap (λ l. keep_last n l) (take-append-drop k all)

-- the ring, where there is room or as many are kept as may be
pushed : (limit count : ℕ) (xs : List Row) (r : Row) (b there after : Buffer Row) → count ≤ limit → count ≤ length xs
    → limit ≢ 0 → b.items ≡ xs → b.capacity ≤ limit
    → (length b.items < b.capacity) ⊎ (b.capacity ≡ limit)
    → there ≡ (if length b.items == b.capacity then buffer (drop 1 b.items) b.capacity else b)
    → length there.items ≤ there.capacity → after ≡ buffer (keep_last there.capacity (there.items ++ r ∷ []))
    there.capacity
    → (n : ℕ) → n ≡ min count (length there.items) → keep_last (n + 1) after.items ≡ keep_last limit
    (keep_last count xs ++ r ∷ [])
pushed limit count xs r b there after few kept some items within room earliest fits last n e =
    let long = ap length items in
    ⊎_elim
    (λ (full : length b.items ≡ b.capacity).
    let is : there ≡ buffer (drop 1 b.items) b.capacity = earliest
    ∙ cond-true (length b.items == b.capacity) _ _ (eq-eqb (length b.items) b.capacity full) in
    let at : there.items ≡ drop 1 xs = ap (λ (d : Buffer Row). d.items) is ∙ ap (λ l. drop 1 l) items in
    let capacity : there.capacity ≡ b.capacity = ap (λ (d : Buffer Row). d.capacity) is in
    let left = length-drop 1 xs in
    let most : b.capacity ≡ limit = ⊎_elim (λ (less : length b.items < b.capacity). absurd (omega arith))
    (λ (m : b.capacity ≡ limit). m) room in
    let more : length (drop 1 xs ++ r ∷ []) ≡ length (drop 1 xs) + 1 = length-append (drop 1 xs) (r ∷ []) in
    let long_there = ap length at in
    ap (λ (d : Buffer Row). keep_last (n + 1) d.items) last
    ∙ ap (λ l. keep_last (n + 1) (keep_last there.capacity (l ++ r ∷ []))) at
    ∙ ap (λ l. keep_last (n + 1) l) (last_few there.capacity (drop 1 xs ++ r ∷ []) (omega arith))
    ∙ sym (last_after (n + 1) (take 1 xs) (drop 1 xs ++ r ∷ []) (omega arith))
    ∙ ap (λ l. keep_last (n + 1) l) (sym (append_assoc (take 1 xs) (drop 1 xs) (r ∷ []))
    ∙ ap (λ l. l ++ r ∷ []) (take-append-drop 1 xs))
    ∙ sym (last_kept limit count (n + 1) xs r kept (omega arith)))
    (λ (open_yet : length b.items ≢ b.capacity).
    let is : there ≡ b = earliest ∙ cond-false (length b.items == b.capacity) _ _
    (ne_eqb (length b.items) b.capacity open_yet) in
    let at : there.items ≡ xs = ap (λ (d : Buffer Row). d.items) is ∙ items in
    let capacity : there.capacity ≡ b.capacity = ap (λ (d : Buffer Row). d.capacity) is in
    let more : length (xs ++ r ∷ []) ≡ length xs + 1 = length-append xs (r ∷ []) in
    let long_there = ap length at in
    ap (λ (d : Buffer Row). keep_last (n + 1) d.items) last
    ∙ ap (λ l. keep_last (n + 1) (keep_last there.capacity (l ++ r ∷ []))) at
    ∙ ap (λ l. keep_last (n + 1) l) (last_few there.capacity (xs ++ r ∷ []) (omega arith))
    ∙ sym (last_kept limit count (n + 1) xs r kept (omega arith)))
    (cases_eq (length b.items) b.capacity)

-- what holds of all lines still does of those that are left, and of one more
taken_out : (P : Row → Type 0) (xs : List Row) (b there : Buffer Row) → b.items ≡ xs → All P xs
    → there ≡ (if length b.items == b.capacity then buffer (drop 1 b.items) b.capacity else b) → All P there.items
taken_out P xs b there items all earliest =
    let had = subst (λ l. All P l) (sym items) all in
    subst (λ (d : Buffer Row). All P d.items) (sym earliest)
    (cond_both (length b.items == b.capacity) (buffer (drop 1 b.items) b.capacity) b
    (λ (d : Buffer Row). All P d.items) (λ e. All-drop P 1 b.items had) (λ e. had))

only_one : (P : Row → Type 0) (r : Row) → P r → All P (r ∷ [])
only_one P r h zero d lt = h
only_one P r h (suc k) d lt = absurd (omega arith)

pushed_too : (P : Row → Type 0) (r : Row) (there after : Buffer Row) → All P there.items → P r
    → after ≡ buffer (keep_last there.capacity (there.items ++ r ∷ [])) there.capacity → All P after.items
pushed_too P r there after all one last =
    subst (λ (d : Buffer Row). All P d.items) (sym last)
    (All-drop P (length (there.items ++ r ∷ []) - there.capacity) (there.items ++ r ∷ [])
    (All-append P there.items (r ∷ []) all (only_one P r one)))

-- the earliest line is gone where all room was taken
capacity_same : (b there : Buffer Row)
    → there ≡ (if length b.items == b.capacity then buffer (drop 1 b.items) b.capacity else b)
    → there.capacity ≡ b.capacity
capacity_same b there earliest =
    subst (λ (d : Buffer Row). d.capacity ≡ b.capacity) (sym earliest)
    (cond_both (length b.items == b.capacity) (buffer (drop 1 b.items) b.capacity) b
    (λ (d : Buffer Row). d.capacity ≡ b.capacity) (λ e. refl) (λ e. refl))

has_room : (limit : ℕ) (b there : Buffer Row) → limit ≢ 0 → (length b.items < b.capacity) ⊎ (b.capacity ≡ limit)
    → there ≡ (if length b.items == b.capacity then buffer (drop 1 b.items) b.capacity else b)
    → length there.items ≤ there.capacity → length there.items < there.capacity
has_room limit b there some room earliest fits =
    let capacity = capacity_same b there earliest in
    ⊎_elim
    (λ (full : length b.items ≡ b.capacity).
    let is : there ≡ buffer (drop 1 b.items) b.capacity = earliest
    ∙ cond-true (length b.items == b.capacity) _ _ (eq-eqb (length b.items) b.capacity full) in
    let long : length there.items ≡ length (drop 1 b.items) = ap (λ (d : Buffer Row). length d.items) is in
    let left = length-drop 1 b.items in
    let most : b.capacity ≡ limit = ⊎_elim (λ (less : length b.items < b.capacity). absurd (omega arith))
    (λ (m : b.capacity ≡ limit). m) room in
    omega arith)
    (λ (open_yet : length b.items ≢ b.capacity).
    let is : there ≡ b = earliest ∙ cond-false (length b.items == b.capacity) _ _
    (ne_eqb (length b.items) b.capacity open_yet) in
    let long : length there.items ≡ length b.items = ap (λ (d : Buffer Row). length d.items) is in
    omega arith)
    (cases_eq (length b.items) b.capacity)

kept_more : (limit longest count n : ℕ) (r : Row) (b there after : Buffer Row) → limit ≢ 0 → b.capacity ≤ limit
    → All (IsShort longest) b.items → (length b.items < b.capacity) ⊎ (b.capacity ≡ limit)
    → there ≡ (if length b.items == b.capacity then buffer (drop 1 b.items) b.capacity else b)
    → length there.items ≤ there.capacity → after ≡ buffer (keep_last there.capacity (there.items ++ r ∷ []))
    there.capacity
    → n ≡ min count (length there.items) → IsShort longest r → IsKept limit longest (n + 1) after
kept_more limit longest count n r b there after some within short room earliest fits last e one =
    let capacity = capacity_same b there earliest in
    let free = has_room limit b there some room earliest fits in
    let all = there.items ++ r ∷ [] in
    let more : length all ≡ length there.items + 1 = length-append there.items (r ∷ []) in
    let long : length after.items ≡ length (keep_last there.capacity all) =
    ap (λ (d : Buffer Row). length d.items) last in
    let left = length-drop (length all - there.capacity) all in
    let same : after.capacity ≡ there.capacity = ap (λ (d : Buffer Row). d.capacity) last in
    record {
      few = omega arith;
      there = omega arith;
      room = omega arith;
      short = pushed_too (IsShort longest) r there after
          (taken_out (IsShort longest) b.items b there refl short earliest) one last;
    }

pub invariant_of-self-2 : goal.invariant_of-self-2
invariant_of-self-2 c =
    let old = c.self.inside in
    let r = row_of c.args.line.now in
    let b = c.make_room.new.lines in
    let there = c.earliest_if_full-earliest.new.lines in
    let last : c.push_back.new.self ≡ buffer (keep_last there.capacity (there.items ++ r ∷ [])) there.capacity =
    c.push_back.ensures.items
    ∙ ap (λ (x : Row). buffer (keep_last there.capacity (there.items ++ x ∷ [])) there.capacity)
    c.in_ok-kept.ensures in
    let longest : old.longest ≡ c.args.self.now.longest = ap (λ (v : EarlierRows). v.longest) c.self.view_is in
    kept_more old.limit old.longest old.count c.min-self-inside.result r b there c.push_back.new.self
    c.if-self-eq0.false c.make_room.ensures.within
    (subst (λ l. All (IsShort old.longest) l) (sym c.make_room.ensures.items) c.self.invariant.short)
    c.in_ok-make_room.ensures.room c.earliest_if_full-earliest.ensures
    (omega (arith, c.len.ensures.len, c.len.ensures.within)) last
    (c.min-self-inside.ensures ∙ ap (λ k. min old.count k) c.len.ensures.len)
    (subst (λ m. IsShort m r) (sym longest) c.requires)

pub returns : goal.returns
returns c =
    let old = c.self.inside in
    let r = row_of c.args.line.now in
    let there = c.earliest_if_full-earliest.new.lines in
    let last : c.push_back.new.self ≡ buffer (keep_last there.capacity (there.items ++ r ∷ [])) there.capacity =
    c.push_back.ensures.items
    ∙ ap (λ (x : Row). buffer (keep_last there.capacity (there.items ++ x ∷ [])) there.capacity)
    c.in_ok-kept.ensures in
    let rows =
    pushed old.limit old.count old.lines.items r c.make_room.new.lines there c.push_back.new.self c.self.invariant.few
    c.self.invariant.there c.if-self-eq0.false
    c.make_room.ensures.items c.make_room.ensures.within c.in_ok-make_room.ensures.room
    c.earliest_if_full-earliest.ensures (omega (arith, c.len.ensures.len, c.len.ensures.within)) last
    c.min-self-inside.result (c.min-self-inside.ensures ∙ ap (λ k. min old.count k) c.len.ensures.len) in
    let made : List Row → EarlierRows = λ l. record { limit = old.limit; longest = old.longest; rows = l } in
    rw (← c.self.view_is) (ap made rows)
