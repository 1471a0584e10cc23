-- Each token takes the rest of a reading to one that stands for the same reading.
use Rattle.std.proofs.Common.{◌≡◌, ℕ, suc, ◌+◌, ◌-◌, ◌*◌, true, false, Bool, ◌&&◌, List, [], ◌∷◌, ◌++◌, length}
use Rattle.std.proofs.Common.{if◌then◌else◌, Option, Some, None, Result, Ok, Err, refl, sym, ap, ◌∙◌, append_assoc}
use Rattle.std.proofs.Common.{append-nil, ◌⊎◌, inl, inr}
use Rattle.pat_tree.specs.Nested.{Nested, row, group}
use Rattle.token_parts.specs.declared.fault.Fault.{Fault}
use Rattle.token_parts.specs.declared.token.Token.{Token}
use Rattle.token_parts.specs.declared.token.Token.TheVariants.{End, Bar, Close, Quantifier, Passed, QuoteOn, QuoteOff}
use Rattle.token_parts.specs.declared.token.QuantMode.{QuantMode}
use Rattle.token_parts.specs.Tell.{fault, ◌>>=◌}
use Rattle.pat_lex.specs.Tokens.{token_at}
use Rattle.pat_grammar.specs.State.{State, Known, Reads, flags_of, next, passed_over}
use Rattle.pat_grammar.specs.declared.alternatives.Bars.{Bars}
use Rattle.pat_grammar.specs.Groups.{Opening, is_tested, barred, restarted, groups_after, built, noted}
use Rattle.pat_grammar.specs.Callouts.{callout_of, next_item, is_item, is_called, is_due, automatic, led}
use Rattle.pat_grammar.specs.Parts.{atom, bare, inside, asserts, nothing, over, alternative, repeated, beginning}
use Rattle.pat_grammar.specs.Reading.{quantified, closed, part_then, alternatives_from, sequence, sequence_at}
use Rattle.pat_grammar.specs.Reading.{alternatives, whole, reading}
use Rattle.pat_build.specs.Stack.{Layer, Opened, with_part, with_test, resumed, given, ended, resume, IsPlain}

-- one part more in front is one part more behind those before
module _ (before : List Nested) (k : List Nested → State → Reads Nested) where
  prepend : (part : Nested) (r : Reads (List Nested)) →
      (r >>= λ (parts, end). let x : Reads (List Nested) = Ok (part ∷ parts, end) in x) >>=
      (λ (parts, end). k (before ++ parts) end)
      ≡ (r >>= λ (parts, end). k ((before ++ part ∷ []) ++ parts) end)
  prepend part (Ok (parts, end)) = ap (λ all. k all end) (sym (append_assoc before (part ∷ []) parts))
  prepend part (Err f) = refl

assoc : {A B C : Type 0} → (r : Result A Fault) (f : A → Result B Fault) (g : B → Result C Fault)
    → (r >>= f) >>= g ≡ (r >>= λ x. f x >>= g)
assoc (Ok x) f g = refl
assoc (Err e) f g = refl

same : {A B : Type 0} → (r : Result A Fault) (f g : A → Result B Fault) → ((x : A) → f x ≡ g x) → (r >>= f) ≡ (r >>= g)
same (Ok x) f g h = h x
same (Err e) f g h = refl

module _ (known : Known) (text : List ℕ) where
  through : (before : List Nested) (k : List Nested → State → Reads Nested) (rest : State → Reads (List Nested))
      (r : Reads Nested) →
      (part_then text rest r >>= λ (parts, end). k (before ++ parts) end)
      ≡ (r >>= λ (part, end). rest end >>= λ (parts, last). k ((before ++ part ∷ []) ++ parts) last)
  unfolding part_then
  through before k rest (Ok (part, end)) = prepend before k part (rest end)
  through before k rest (Err f) = refl

  -- what a group that has ended is given to
  is_part : (os : List Opened) (how : Opening) (layer : Layer) (found : Nested) (st : State)
      → is_tested how.form ≡ false →
      given known text (ended known text os) (is_tested how.form) layer found
      st ≡ (quantified text layer.n found st >>= λ (part, end). resumed known text (ended known text os)
      (with_part layer part) end)
  unfolding given
  is_part os how layer found st is = rw is refl

  is_branch : (os : List Opened) (how : Opening) (layer : Layer) (found : Nested) (st : State)
      → is_tested how.form ≡ true →
      given known text (ended known text os) (is_tested how.form) layer found st ≡ resumed known text
      (ended known text os) (with_test layer found) st
  unfolding given
  is_branch os how layer found st is = rw is refl

  -- where no automatic callout is due
  sequence_quiet : (st : State) → automatic known.calling text st ≡ None → (n : ℕ)
      → sequence known text (suc n) st ≡ sequence_at known text n (alternatives known text n) (sequence known text n)
      st
  unfolding sequence
  sequence_quiet st quiet n = rw quiet refl

  -- and where one is
  sequence_led : (st : State) (t : Nested) → automatic known.calling text st ≡ Some t → (n : ℕ) →
      sequence known text (suc n) st ≡ led (Some t)
      (sequence_at known text n (alternatives known text n) (sequence known text n)
      (record st { called = Some st.at }))
  unfolding sequence
  sequence_led st t due n = rw due refl

  pub step_automatic : (st : State) (t : Nested) → automatic known.calling text st ≡ Some t
      → automatic known.calling text (record st { called = Some st.at }) ≡ None →
      (os : List Opened) (layer : Layer) (n : ℕ) → layer.n ≡ suc n →
      resume known text os layer None st ≡ resume known text os (with_part layer t) None
      (record st { called = Some st.at })
  unfolding resume resumed
  step_automatic st t due quiet os layer n e =
      let k : List Nested → State → Reads Nested = λ parts end. alternatives_from text
      (alternatives known text layer.k) parts end >>= λ (branches, last). ended known text os
      (layer.branches ++ branches) last in
      let here : State = record st { called = Some st.at } in
      ap (λ (r : Reads (List Nested)). r >>= λ (parts, end). k (layer.parts ++ parts) end)
      (ap (λ m. sequence known text m st) e ∙ sequence_led st t due n)
      ∙ prepend layer.parts k t (sequence_at known text n (alternatives known text n) (sequence known text n) here)
      ∙ ap (λ (r : Reads (List Nested)). r >>= λ (parts, end). k ((layer.parts ++ t ∷ []) ++ parts) end)
      (sym (ap (λ m. sequence known text m here) e ∙ sequence_quiet here quiet n))

  module _ (st : State) (token : Token) (place : ℕ)
      (at : token_at text (flags_of false st) st.at ≡ Ok (token, place)) where
    pub next_is : next text false st ≡ Ok (token, record st { at = place })
    unfolding next
    next_is = rw at

    automatic_is : (calling : Bool) → automatic calling text
        st ≡ (if is_due calling st token then Some (callout_of 255 0 0 (next_item text st)) else None)
    unfolding automatic
    automatic_is calling = rw next_is refl

    pub quiet_due : (calling : Bool) → is_due calling st token ≡ false → automatic calling text st ≡ None
    quiet_due calling h = automatic_is calling
        ∙ ap (λ b. if b then Some (callout_of 255 0 0 (next_item text st)) else None) h

    pub loud_due : (calling : Bool) → is_due calling st token ≡ true
        → automatic calling text st ≡ Some (callout_of 255 0 0 (next_item text st))
    loud_due calling h = automatic_is calling
        ∙ ap (λ b. if b then Some (callout_of 255 0 0 (next_item text st)) else None) h

    -- what is no item
    pub quiet_token : (calling : Bool) → is_item token ≡ false → automatic calling text st ≡ None
    quiet_token calling h =
        quiet_due calling
        (ap (λ b. if b then (if is_called st.called st.at then false else calling && st.options.auto_callout) else
        false) h)

    quantified_plain : IsPlain token → (n : ℕ) (t : Nested) → quantified text (suc n) t st ≡ Ok (t, st)
    unfolding quantified
    quantified_plain plain n t =
        rw next_is (elim token as (λ v. IsPlain v → ◌≡◌ {A = Reads Nested}
        (elim v [
          | Quantifier low high mode ↦ Ok (
            repeated low high mode st.options.ungreedy t,
            record st { at = place },
          )
          | other ↦ elim (passed_over other (record st { at = place }))
              [ Some beyond ↦ quantified text n t beyond | None ↦ Ok (t, st) ]
        ]) (Ok (t, st))) [
          | Quantifier low high mode ↦ λ h. absurd h
          | Passed ↦ λ h. absurd h
          | QuoteOn ↦ λ h. absurd h
          | QuoteOff ↦ λ h. absurd h
          | _ ↦ λ h. refl
        ] plain)

    -- the atom before a token that is no quantifier is a part
    pub step_flush : IsPlain token → (os : List Opened) (layer : Layer) (n : ℕ) (t : Nested) →
        resume known text os layer (Some (suc n, t)) st ≡ resume known text os (with_part layer t) None st
    unfolding resume
    step_flush plain os layer n t = rw (quantified_plain plain n t)

    pub step_atom : automatic known.calling text st ≡ None
        → (os : List Opened) (layer : Layer) (n : ℕ) (t : Nested) (after : State) → layer.n ≡ suc n →
        beginning known text n st token (record st { at = place }) ≡ Ok (atom t after) →
        resume known text os layer None st ≡ resume known text os (record layer { n = n }) (Some (n, t)) after
    unfolding resume resumed sequence_at
    step_atom quiet os layer n t after e begins =
        rw (e, sequence_quiet st quiet n, sequence_at, next_is, begins)
        (through layer.parts (λ parts end. alternatives_from text (alternatives known text layer.k) parts end >>=
        λ (branches, last). ended known text os (layer.branches ++ branches) last) (sequence known text n)
        (quantified text n t after))

    pub step_bare : automatic known.calling text st ≡ None
        → (os : List Opened) (layer : Layer) (n : ℕ) (t : Nested) (after : State) → layer.n ≡ suc n →
        beginning known text n st token (record st { at = place }) ≡ Ok (bare t after) →
        resume known text os layer None st ≡ resume known text os (with_part (record layer { n = n }) t) None after
    unfolding resume resumed sequence_at
    step_bare quiet os layer n t after e begins =
        rw (e, sequence_quiet st quiet n, sequence_at, next_is, begins)
        (through layer.parts (λ parts end. alternatives_from text (alternatives known text layer.k) parts end >>=
        λ (branches, last). ended known text os (layer.branches ++ branches) last) (sequence known text n)
        (Ok (t, after)))

    pub step_nothing : automatic known.calling text st ≡ None
        → (os : List Opened) (layer : Layer) (n : ℕ) (after : State) → layer.n ≡ suc n →
        beginning known text n st token (record st { at = place }) ≡ Ok (nothing after) →
        resume known text os layer None st ≡ resume known text os (record layer { n = n }) None after
    unfolding resume resumed sequence_at
    step_nothing quiet os layer n after e begins = rw (e, sequence_quiet st quiet n, sequence_at, next_is, begins)

    pub step_bad : automatic known.calling text st ≡ None → (os : List Opened) (layer : Layer) (n : ℕ) (f : Fault)
        → layer.n ≡ suc n →
        beginning known text n st token (record st { at = place }) ≡ Err f → resume known text os layer None st ≡ Err f
    unfolding resume resumed sequence_at
    step_bad quiet os layer n f e begins = rw (e, sequence_quiet st quiet n, sequence_at, next_is, begins)

    pub step_open : automatic known.calling text st ≡ None
        → (os : List Opened) (layer : Layer) (n : ℕ) (how : Opening) (after : State) → is_tested how.form ≡ false
        → layer.n ≡ suc (suc n) →
        beginning known text (suc n) st token (record st { at = place }) ≡ Ok (inside how after) →
        resume known text os layer None st
        ≡ resume known text (record { how = how; outer = record layer { n = suc n } } ∷ os)
        (record { n = n; k = n; branches = []; parts = [] }) None after
    unfolding resume resumed sequence_at alternatives ended given
    step_open quiet os layer n how after part e begins =
        let k : List Nested → State → Reads Nested = λ parts end. alternatives_from text
        (alternatives known text layer.k) parts end >>= λ (branches, last). ended known text os
        (layer.branches ++ branches) last in
        let f : List Nested × State → Reads Nested = λ (branches, end). closed text how branches end >>=
        λ (found, last). quantified text (suc n) found last in
        let g : Nested × State → Reads Nested = λ (part, end). sequence known text (suc n) end >>= λ (parts, last). k
        ((layer.parts ++ part ∷ []) ++ parts) last in
        rw (e, sequence_quiet st quiet (suc n), sequence_at, next_is, begins)
        (through layer.parts k (sequence known text (suc n)) (alternatives known text (suc n) after >>= f)
        ∙ assoc (alternatives known text (suc n) after) f g
        ∙ assoc (sequence known text n after) (λ (parts, end). alternatives_from text (alternatives known text n)
        parts end) (λ x. f x >>= g)
        ∙ same (sequence known text n after) _ _
        (λ (parts, end). same (alternatives_from text (alternatives known text n) parts end) _ _
        (λ (branches, last). assoc (closed text how branches last)
        (λ (found, final). quantified text (suc n) found final) g
        ∙ same (closed text how branches last) _ _
        (λ (found, final). sym (is_part os how (record layer { n = suc n }) found final part)))))

    -- a conditional group begins, and the lookaround that it tests
    pub step_asserts : automatic known.calling text st ≡ None
        → (os : List Opened) (layer : Layer) (n : ℕ) (how test : Opening) (lead : List Nested) (after : State)
        → is_tested how.form ≡ false → is_tested test.form ≡ true → layer.n ≡ suc (suc n) →
        beginning known text (suc n) st token (record st { at = place }) ≡ Ok (asserts how lead test after) →
        resume known text os layer None st
        ≡ resume known text (record {
          how = test;
          outer = record { n = n; k = n; branches = []; parts = lead };
        } ∷ record {
          how = how;
          outer = record layer { n = suc n };
        } ∷ os) (record { n = n; k = n; branches = []; parts = [] }) None
        after
    unfolding resume resumed sequence_at alternatives ended given
    step_asserts quiet os layer n how test lead after part tested e begins =
        let k : List Nested → State → Reads Nested = λ parts end. alternatives_from text
        (alternatives known text layer.k) parts end >>= λ (branches, last). ended known text os
        (layer.branches ++ branches) last in
        let whole : List Nested × State → Reads Nested =
        λ (branches, end). closed text how branches end >>= λ (found, last). quantified text (suc n) found last in
        let others : Nested × State → Reads Nested = λ (found, middle). alternatives known text (suc n) middle >>=
        λ (branches, end). whole (alternative (lead ++ found ∷ []) ∷ branches, end) in
        let f : List Nested × State → Reads Nested = λ (branches, end). closed text test branches end >>= others in
        let g : Nested × State → Reads Nested = λ (part, end). sequence known text (suc n) end >>= λ (parts, last). k
        ((layer.parts ++ part ∷ []) ++ parts) last in
        rw (e, sequence_quiet st quiet (suc n), sequence_at, next_is, begins)
        (through layer.parts k (sequence known text (suc n)) (alternatives known text (suc n) after >>= f)
        ∙ assoc (alternatives known text (suc n) after) f g
        ∙ assoc (sequence known text n after) (λ (parts, end). alternatives_from text (alternatives known text n)
        parts end) (λ x. f x >>= g)
        ∙ same (sequence known text n after) _ _
        (λ (parts, end). same (alternatives_from text (alternatives known text n) parts end) _ _
        (λ (branches, last). assoc (closed text test branches last) others g
        ∙ same (closed text test branches last) _ _ (λ (found, middle).
        assoc (alternatives known text (suc n) middle)
        (λ (bs, end). whole (alternative (lead ++ found ∷ []) ∷ bs, end)) g
        ∙ assoc (sequence known text n middle) (λ (parts, end). alternatives_from text (alternatives known text n)
        parts end) (λ (bs, end). whole (alternative (lead ++ found ∷ []) ∷ bs, end) >>= g)
        ∙ same (sequence known text n middle) _ _
        (λ (parts, end). same (alternatives_from text (alternatives known text n) parts end) _ _
        (λ (bs, end). assoc (closed text how (alternative (lead ++ found ∷ []) ∷ bs) end)
        (λ (closing, final). quantified text (suc n) closing final) g
        ∙ same (closed text how (alternative (lead ++ found ∷ []) ∷ bs) end) _ _
        (λ (closing, final). sym (is_part os how (record layer { n = suc n }) closing final part))))
        ∙ sym (is_branch (record { how = how; outer = record layer { n = suc n } } ∷ os) test
        (record { n = n; k = n; branches = []; parts = lead }) found middle tested)))))

    -- an alternative that ends here
    ends_here : automatic known.calling text st ≡ None → (os : List Opened) (layer : Layer) (n : ℕ) → layer.n ≡ suc n
        → beginning known text n st token (record st { at = place }) ≡ Ok over →
        resume known text os layer None st
        ≡ (alternatives_from text (alternatives known text layer.k) layer.parts st >>= λ (branches, last). ended known
        text os (layer.branches ++ branches) last)
    unfolding resume resumed sequence_at
    ends_here quiet os layer n e begins =
        rw (e, sequence_quiet st quiet n, sequence_at, next_is, begins)
        (ap (λ parts. alternatives_from text (alternatives known text layer.k) parts st >>= λ (branches, last). ended
        known text os (layer.branches ++ branches) last) (append-nil layer.parts))

    pub step_bar : automatic known.calling text st ≡ None → token ≡ Bar
        → (os : List Opened) (layer : Layer) (n k : ℕ) (bars : Bars) → layer.n ≡ suc n → layer.k ≡ suc k
        → barred st.bars st.at ≡ Ok bars →
        resume known text os layer None st
        ≡ resume known text os (record {
          n = k;
          k = k;
          branches = layer.branches ++ alternative layer.parts ∷ [];
          parts = [];
        }) None (restarted st bars (record st { at = place }))
    unfolding resume resumed alternatives alternatives_from
    step_bar quiet is os layer n k bars e e' found =
        let after : State = restarted st bars (record st { at = place }) in
        ends_here quiet os layer n e (rw is refl)
        ∙ rw (alternatives_from, next_is, is, found, e')
        (prepend layer.branches (ended known text os) (alternative layer.parts) (alternatives known text (suc k) after)
        ∙ assoc (sequence known text k after) (λ (parts, end). alternatives_from text (alternatives known text k)
        parts end)
        (λ (others, last). ended known text os ((layer.branches ++ alternative layer.parts ∷ []) ++ others) last))

    pub step_barred : automatic known.calling text st ≡ None → token ≡ Bar
        → (os : List Opened) (layer : Layer) (n : ℕ) (f : Fault) → layer.n ≡ suc n → barred st.bars st.at ≡ Err f
        → resume known text os layer None st ≡ Err f
    unfolding alternatives_from
    step_barred quiet is os layer n f e found = ends_here quiet os layer n e (rw is refl)
        ∙ rw (alternatives_from, next_is, is, found)

    -- the last alternative ends
    pub step_over : automatic known.calling text st ≡ None → (token ≡ Close) ⊎ (token ≡ End)
        → (os : List Opened) (layer : Layer) (n : ℕ) → layer.n ≡ suc n →
        resume known text os layer None st ≡ ended known text os (layer.branches ++ alternative layer.parts ∷ []) st
    unfolding alternatives_from
    step_over quiet (inl is) os layer n e = ends_here quiet os layer n e (rw is refl)
        ∙ rw (alternatives_from, next_is, is)
    step_over quiet (inr is) os layer n e = ends_here quiet os layer n e (rw is refl)
        ∙ rw (alternatives_from, next_is, is)

    -- a group ends at its parenthesis, and a quantifier may follow
    pub step_close : token ≡ Close → (o : Opened) (os : List Opened) (branches : List Nested)
        → is_tested o.how.form ≡ false →
        ended known text (o ∷ os) branches st
        ≡ resume known text os o.outer (Some (o.outer.n, built o.how.form branches))
        (record st {
          at = place;
          options = o.how.around;
          looking = o.how.looking;
          bars = o.how.bars;
          numbering = o.how.numbering;
          groups = groups_after st.numbering st.groups;
          depth = st.depth - 1;
          references = st.references ++ noted o.how.form o.how.at;
        })
    unfolding resume ended closed
    step_close is o os branches part = rw (closed, next_is, is) (is_part os o.how o.outer _ _ part)

    -- a lookaround that is tested ends
    pub step_tested : token ≡ Close → (o : Opened) (os : List Opened) (branches : List Nested)
        → is_tested o.how.form ≡ true →
        ended known text (o ∷ os) branches st
        ≡ resume known text os (with_test o.outer (built o.how.form branches)) None
        (record st {
          at = place;
          options = o.how.around;
          looking = o.how.looking;
          bars = o.how.bars;
          numbering = o.how.numbering;
          groups = groups_after st.numbering st.groups;
          depth = st.depth - 1;
          references = st.references ++ noted o.how.form o.how.at;
        })
    unfolding resume ended closed
    step_tested is o os branches tested = rw (closed, next_is, is) (is_branch os o.how o.outer _ _ tested)

    pub step_unclosed : token ≡ End → (o : Opened) (os : List Opened) (branches : List Nested)
        → ended known text (o ∷ os) branches st ≡ fault 114 (length text)
    unfolding ended closed
    step_unclosed is o os branches = rw (closed, next_is, is)

    pub step_unopened : token ≡ Close → (branches : List Nested) → ended known text [] branches st ≡ fault 122 st.at
    unfolding ended whole
    step_unopened is branches = rw (whole, next_is, is)

    pub step_whole : token ≡ End → (branches : List Nested)
        → ended known text [] branches st ≡ Ok (group None (row branches), st)
    unfolding ended whole
    step_whole is branches = rw (whole, next_is, is)

    pub step_quantifier : (low : ℕ) (high : Option ℕ) (mode : QuantMode) → token ≡ Quantifier low high mode →
        (os : List Opened) (layer : Layer) (n : ℕ) (t : Nested) →
        resume known text os layer (Some (suc n, t)) st
        ≡ resume known text os (with_part layer (repeated low high mode st.options.ungreedy t)) None
        (record st { at = place })
    unfolding resume quantified
    step_quantifier low high mode is os layer n t = rw (quantified, next_is, is)

    -- what is passed over leaves the atom waiting
    pub step_passed : token ≡ Passed → (os : List Opened) (layer : Layer) (n : ℕ) (t : Nested) →
        resume known text os layer (Some (suc n, t)) st ≡ resume known text os layer (Some (n, t))
        (record st { at = place })
    unfolding resume quantified
    step_passed is os layer n t = rw (quantified, next_is, is)

    pub step_quote_on : token ≡ QuoteOn → (os : List Opened) (layer : Layer) (n : ℕ) (t : Nested) →
        resume known text os layer (Some (suc n, t)) st ≡ resume known text os layer (Some (n, t))
        (record st { at = place; quoting = true })
    unfolding resume quantified
    step_quote_on is os layer n t = rw (quantified, next_is, is)

    pub step_quote_off : token ≡ QuoteOff → (os : List Opened) (layer : Layer) (n : ℕ) (t : Nested) →
        resume known text os layer (Some (suc n, t)) st ≡ resume known text os layer (Some (n, t))
        (record st { at = place; quoting = false })
    unfolding resume quantified
    step_quote_off is os layer n t = rw (quantified, next_is, is)

  -- a fault of the lexer is the fault of the whole
  module _ (st : State) (f : Fault) (at : token_at text (flags_of false st) st.at ≡ Err f) where
    next_is_err : next text false st ≡ Err f
    unfolding next
    next_is_err = rw at

    silent : automatic known.calling text st ≡ None
    unfolding automatic
    silent = rw next_is_err refl

    pub step_fault : (os : List Opened) (layer : Layer) (n : ℕ) → layer.n ≡ suc n
        → resume known text os layer None st ≡ Err f
    unfolding resume resumed sequence_at
    step_fault os layer n e = rw (e, sequence_quiet st silent n, sequence_at, next_is_err)

    pub step_fault_waiting : (os : List Opened) (layer : Layer) (n : ℕ) (t : Nested)
        → resume known text os layer (Some (suc n, t)) st ≡ Err f
    unfolding resume quantified
    step_fault_waiting os layer n t = rw (quantified, next_is_err)

  -- where a reading begins
  pub begins : (st : State) (n : ℕ) → 2 * length text + 2 ≡ suc n →
      resume known text [] (record { n = n; k = n; branches = []; parts = [] }) None st ≡ reading known text st
  unfolding resume resumed ended alternatives reading
  begins st n e =
      sym (rw e (assoc (sequence known text n st)
      (λ (parts, end). alternatives_from text (alternatives known text n) parts end)
      (λ (branches, end). whole text branches end)))
