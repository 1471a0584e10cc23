-- Lines before the first place at which a match of a filter's expression begins.
use Rattle.std.proofs.Common.{◌≡◌, ◌≢◌, ◌∙◌, ℕ, ◌+◌, ◌-◌, ◌<◌, ◌≤◌, Bool, List, [], ◌∷◌, ◌++◌, length}
use Rattle.std.proofs.Common.{take, Option, Some, None, Ok, option_map, ◌⊎◌, inl, inr, refl, sym, ap, subst}
use Rattle.std.proofs.Common.{arith, length-append, append-nil, true, false}
use Rattle.std.specs.Prelude.{slice_index, is_some, IsUtf8}
use Rattle.std.proofs.lemmas.List.{get_or_append_left, get_or-append-add}
use Rattle.std.proofs.lemmas.Option.{none-some, same_Some, slice_get-get_or}
use Rattle.uni_text.specs.Characters.{IsChecked}
use Rattle.regex_hir.specs.Re.{Re}
use Rattle.regex_hir.specs.Find.{Match, find}
use Rattle.regex_hir.specs.Matches.{Matches}
use Rattle.regex_hir.specs.Text.{byte_before}
use Rattle.regex_hir.proofs.TextLemmas.{byte_before-zero, byte_before-add-one}
use Rattle.regex_hir.proofs.OptionLemmas.{value_of_IsSome}
use Rattle.regex_hir.proofs.FindLemmas.{find_sound, find_complete}
use Rattle.regex_vm.specs.Found.{span}
use Rattle.pat_tree.specs.Pattern.{Pattern}
use Rattle.grep_args.specs.declared.plan.GrepPlan.{GrepPlan}
use Rattle.pat_shape.specs.Looks.{IsLine}
use Rattle.grep_match.specs.Matches.{matches}
use Rattle.grep_match.specs.Wider.{HasOne, IsWiderBy, IsExactBy}
use Rattle.grep_match.proofs.Finding.{first_within, alone}
use Rattle.grep_watch.specs.Watched.{AreClear, EndsInLf}
use Rattle.regex_hir.specs.Meaning.{meaning}
use Rattle.grep_watch.specs.declared.filter.Filter.{Filter}
use Rattle.grep_watch.specs.Filtered.{Filters, IsSame, Begins}
use Rattle.grep_watch.proofs.Cutting.{valid-before, valid-behind}

-- What a search answers.

span_of : (found : Option Match) (s : ℕ × ℕ) → Some s ≡ option_map span found
    → (m : Match) × (found ≡ Some m) × (s.0 ≡ m.start)
span_of None s e = absurd (none-some s (sym e))
span_of (Some m) s e = (m, refl, ap (λ (t : ℕ × ℕ). t.0) (same_Some s (span m) e))

no_span : (found : Option Match) → None ≡ option_map span found → found ≡ None
no_span None e = refl
no_span (Some m) e = absurd (none-some (span m) e)

module _ (re : Re) (held : List ℕ) where
  pub begins-at : (s : ℕ × ℕ) → Some s ≡ option_map span (find re held 0) → Begins re held s.0
  begins-at s e =
      let first = span_of (find re held 0) s e in
      let m = first.0 in
      let same = first.2 in
      let within = first_within re held m first.1 in record {
        within = omega (arith, same, within);
        none = λ i j before. (find_sound re held 0 m first.1).2 i j (omega arith) (omega (arith, before, same));
      }

  pub begins-nowhere : None ≡ option_map span (find re held 0) → Begins re held (length held)
  begins-nowhere e = record {
    within = omega arith;
    none = λ i j before is.
        let there = value_of_IsSome (find re held 0)
        (find_complete re held 0 i j (omega arith) (omega (arith, before)) is) in
        none-some there.0 (sym (no_span (find re held 0) e) ∙ there.1);
  }

-- A line whose LF stands before that place.

ends-front : (before rest : List ℕ) → EndsInLf before
    → (byte_before (before ++ rest) (length before) ≡ None) ⊎ (byte_before (before ++ rest) (length before) ≡ Some 10)
ends-front [] rest ends = inl (byte_before-zero rest)
ends-front (b ∷ before) rest ends =
    let front = b ∷ before in
    let last = length before in
    let long = length-append front rest in
    let at : last + 1 ≡ length front = omega arith in
    let byte = get_or_append_left front rest 0 last (omega arith) ∙ ends last at in
    inr (subst (λ n. byte_before (front ++ rest) n ≡ Some 10) at
    (byte_before-add-one (front ++ rest) last ∙ slice_get-get_or (front ++ rest) last 0 (omega (arith, long))
    ∙ ap Some byte))

module _ (before line behind : List ℕ) where
  abbrev text : List ℕ
  text = before ++ (line ++ (10 ∷ behind))

  text-long : length text ≡ length before + (length line + (length behind + 1))
  text-long =
      let all = length-append before (line ++ (10 ∷ behind)) in
      let more = length-append line (10 ∷ behind) in
      omega (arith, all, more)

  is-line : EndsInLf before → IsLine before line (10 ∷ behind)
  is-line ends =
      let long = text-long in
      let at : length line + 0 ≡ length line = omega arith in
      let byte = get_or-append-add before (line ++ (10 ∷ behind)) (length line) 0
      ∙ ap (λ n. slice_index (line ++ (10 ∷ behind)) n) (sym at) ∙ get_or-append-add line (10 ∷ behind) 0 0 in
      record {
        front = ends-front before (line ++ (10 ∷ behind)) ends;
        back = inr (slice_get-get_or text (length before + length line) 0 (omega (arith, long)) ∙ ap Some byte);
      }

  line-small : ((k : ℕ) → k < length text → slice_index text k < 256) → (k : ℕ) → k < length line
      → slice_index line k < 256
  line-small are k l =
      let long = text-long in
      subst (λ b. b < 256) (get_or-append-add before (line ++ (10 ∷ behind)) k 0
      ∙ get_or_append_left line (10 ∷ behind) 0 k l) (are (length before + k) (omega (arith, l, long)))

line-valid : (before line behind : List ℕ) (n : ℕ) → EndsInLf before → length before + length line < n
    → IsUtf8 (take n (before ++ (line ++ (10 ∷ behind)))) → IsUtf8 line
line-valid [] line behind n ends low valid = valid-before line (10 ∷ behind) n (omega (arith, low)) (omega arith)
    (omega arith) valid
line-valid (b ∷ before) line behind n ends low valid =
    let front = b ∷ before in
    let last : length before + 1 ≡ length front = omega arith in
    let at : length front - 1 ≡ length before = omega arith in
    let ascii : slice_index front (length front - 1) < 128 =
    subst (λ x. x < 128) (sym (ap (λ k. slice_index front k) at ∙ ends (length before) last)) (omega arith) in
    valid-before line (10 ∷ behind) (n - length front) (omega (arith, low)) (omega arith) (omega arith)
    (valid-behind front (line ++ (10 ∷ behind)) n (omega arith, ascii) valid)

pub clear-found : (plan : GrepPlan) (patterns : List Pattern) (re : Re) (most : ℕ) (utf : Bool) (held : List ℕ)
    (at n : ℕ) → IsWiderBy plan patterns re most utf
    → ((k : ℕ) → k < length held → slice_index held k < 256) → Begins re held at → n ≤ at → n ≤ length held - 1
    → IsChecked utf (take n held) → AreClear plan patterns most held n
clear-found plan patterns re most utf held at n wider are begins up within checked = record {
  within = within;
  none = λ before line behind is ends plain low short. wider before line (10 ∷ behind) (record {
    short = short;
    small = line-small before line behind (subst (λ (l : List ℕ). (k : ℕ) → k < length l → slice_index l k < 256) is
        are);
    whole = plain;
    is_line = is-line before line behind ends;
    checked = λ on. line-valid before line behind n ends low (subst (λ l. IsUtf8 (take n l)) is (checked on));
    lacks = λ i j from to m. begins.none i j (omega (arith, to, low, up)) (subst (λ l. Matches l re i j) (sym is) m);
  });
}

-- A filter goes on as it was.
same_about : (P : Re → ℕ → Bool → Type 0) (f g : Filter) → IsSame f g
    → P (meaning f.searcher.program.now.hir) f.most f.utf → P (meaning g.searcher.program.now.hir) g.most g.utf
same_about P f g same h =
    subst (λ hir. P (meaning hir) g.most g.utf) (sym same.hir)
    (subst (λ n. P (meaning f.searcher.program.now.hir) n g.utf) (sym same.most)
    (subst (λ u. P (meaning f.searcher.program.now.hir) f.most u) (sym same.utf) h))

pub still-filters : (plan : GrepPlan) (patterns : List Pattern) (f g : Filter) → IsSame f g → Filters plan patterns f
    → Filters plan patterns g
still-filters plan patterns f g same filters =
    record {
      wider = same_about (IsWiderBy plan patterns) f g same filters.wider;
      exact = λ on. same_about (IsExactBy plan patterns) f g same (filters.exact (sym same.exact ∙ on));
    }

-- What is told of a line that stands alone.

module _ (plan : GrepPlan) (patterns : List Pattern) (re : Re) (most : ℕ) (line : List ℕ) (short : length line ≤ most)
    (small : (k : ℕ) → k < length line → slice_index line k < 256)
    (whole : (k : ℕ) → k < length line → slice_index line k ≢ 10) where
  -- it is found in the line
  pub told-match : IsExactBy plan patterns re most false → is_some (find re line 0) ≡ true
      → HasOne plan patterns line
  told-match exact e = by_found (find re line 0) refl e
    where
      by_found : (o : Option Match) → find re line 0 ≡ o → is_some o ≡ true
          → HasOne plan patterns line
      by_found None is e = absurd cc
      by_found (Some m) is e =
          let f = find_sound re line 0 m is in
          exact [] line [] (record {
            short = short;
            small = small;
            whole = whole;
            is_line = alone line;
            checked = λ on. absurd (let both : false ≡ true = on in cc);
            at = m.start;
            to = m.trace.end;
            from = omega arith;
            within = let low = first_within re line m is in omega (arith, low);
            matches = subst (λ hay. Matches hay re m.start m.trace.end) (sym (append-nil line)) f.1;
          })

  -- it is found nowhere there
  pub told-none : IsWiderBy plan patterns re most false → is_some (find re line 0) ≡ false
      → matches plan patterns line ≡ Ok []
  told-none wider e = wider [] line [] (record {
    short = short;
    small = small;
    whole = whole;
    is_line = alone line;
    checked = λ on. absurd (let both : false ≡ true = on in cc);
    lacks = λ i j from to m.
        let there = subst (λ hay. Matches hay re i j) (append-nil line) m in
        let some = find_complete re line 0 i j from (omega (arith, to)) there in
        let v = value_of_IsSome (find re line 0) some in
        let is : is_some (find re line 0) ≡ true = ap is_some v.1 in
        absurd (let both : true ≡ false = sym is ∙ e in cc);
  })
