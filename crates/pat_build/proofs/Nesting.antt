-- What a bar, and the begin and the end of a group, do to a machine keeps what the machine means.
use Rattle.std.proofs.Common.{◌≡◌, ◌⊎◌, inl, inr, ℕ, suc, ◌+◌, ◌-◌, ◌*◌, ◌<◌, ◌≤◌, true, false, ◌||◌, List, [], ◌∷◌}
use Rattle.std.proofs.Common.{◌++◌, length, length-append, append_assoc, append-nil, map, reverse, Option, Some}
use Rattle.std.proofs.Common.{None, Ok, refl, sym, ap, ◌∙◌, arith, subst}
use Rattle.std.specs.declared.vec.Vec.{Vec}
use Rattle.std.specs.declared.alloc.Global.{Global}
use Rattle.std.proofs.lemmas.List.{reverse-append}
use Rattle.pat_tree.specs.declared.nodes.Placed.{Placed}
use Rattle.pat_tree.specs.Parts.{DraftParts}
use Rattle.pat_tree.specs.Nested.{Nested, row, group, never, tree_at, trees}
use Rattle.pat_tree.specs.Nested as tree
use Rattle.pat_tree.specs.Growing.{Replaces, Makes, Stand, Grows, loose}
use Rattle.pat_tree.proofs.Growing.{stand_made, stand_none, grows_not}
use Rattle.token_parts.specs.declared.token.Token.{Token}
use Rattle.token_parts.specs.declared.token.Token.TheVariants.{End, Bar, Close}
use Rattle.token_parts.specs.Tell.{fault}
use Rattle.pat_lex.specs.Tokens.{token_at}
use Rattle.pat_grammar.specs.declared.alternatives.Bars.{Bars}
use Rattle.pat_grammar.specs.declared.alternatives.Bars.TheVariants.{Free}
use Rattle.pat_grammar.specs.declared.alternatives.Numbering.TheVariants.{Onward}
use Rattle.pat_nodes.specs.declared.frames.Inside.{Inside}
use Rattle.pat_nodes.specs.declared.frames.Form as machine
use Rattle.pat_nodes.specs.declared.frames.Frame.{Frame}
use Rattle.pat_nodes.specs.declared.frames.Level.{Level}
use Rattle.pat_build.specs.declared.machine.Machine.{Machine}
use Rattle.pat_nodes.specs.declared.frames.Form.TheVariants as kept
use Rattle.pat_grammar.specs.declared.cursor.Assertion.{Assertion}
use Rattle.pat_grammar.specs.Leads.{lead_of}
use Rattle.pat_nodes.specs.declared.names.Name.{Name}
use Rattle.pat_grammar.specs.declared.error.ReadError.{ReadError}
use Rattle.pat_grammar.specs.declared.error.ReadError.TheVariants.{Bad, Memory}
use Rattle.pat_grammar.specs.State.{State, Known, Reads, flags_of}
use Rattle.pat_grammar.specs.Groups.{Form, grouped, atomically, looks, conditional, defines, asserted, asserting}
use Rattle.pat_grammar.specs.Groups.{is_look, is_tested, bars_in, barred, number_of, next_numbering}
use Rattle.pat_grammar.specs.Groups.{groups_before, groups_after, built, noted}
use Rattle.pat_nodes.specs.Names.{with_given}
use Rattle.pat_grammar.specs.Parts.{alternative}
use Rattle.pat_build.specs.Stack.{Layer, Opened, with_test, resume, ended}
use Rattle.pat_build.specs.Machine.{IsQuiet, LevelStands, TestsNone, Numbers}
use Rattle.pat_build.specs.Machine.{greatest_given, inside_from, state_of, known_of, whole_of, left, Means, Ready}
use Rattle.pat_build.specs.Machine.{Begins, Took, Numbered, Gives, Ends, asserting_from, tested_frame, opening_of}
use Rattle.pat_build.specs.Machine.{ids_waiting, ids_in, ids_held}
use Rattle.pat_grammar.specs.Places.{Refuses}
use Rattle.pat_nodes.specs.Nodes.{Adds, Closes, IsAtom, HasTest, TestsIn, form_of, atom_of}
use Rattle.pat_nodes.specs.Nodes.{atom_tree, ids_of, references_of}
use Rattle.pat_build.proofs.Numbers.{greatest_next, greatest_enter, greatest_close, greatest_end, given_on}
use Rattle.pat_build.proofs.Numbers.{numbers_kept, numbers_on, numbers_next, numbers_enter, numbers_close}
use Rattle.pat_build.proofs.Numbers.{numbers_end}
use Rattle.pat_build.proofs.Naming.{count_given, given_names}
use Rattle.pat_build.proofs.Steps.{step_open, step_asserts, step_tested, step_bar, step_barred, step_over}
use Rattle.pat_build.proofs.Steps.{step_close, step_unclosed, step_unopened, step_whole}
use Rattle.pat_grammar.proofs.Starting.{positive}
use Rattle.pat_build.proofs.Standing.{level_on, stack_on, Innermost, innermost, none_open}
use Rattle.pat_nodes.proofs.Extending.{closes_later}
use Rattle.pat_build.proofs.States.{state_kept, whole_kept, refs_kept, state_closed, whole_closed, refs_closed}
use Rattle.pat_build.proofs.States.{held_push}
use Rattle.pat_build.proofs.Waiting.{idle_value, loose_idle, to_parts}
use Rattle.pat_build.proofs.Alternatives.{as_branch, as_lead, as_test, state_eq, branched_many, tested_many}
use Rattle.pat_build.proofs.Alternatives.{bars_first, is_untested, untested, tests_push, tests_other, test_made}
use Rattle.pat_build.proofs.Alternatives.{lead_is, bars_push}

-- the group of this node waits for a quantifier
closed_atom : (draft : DraftParts) (form : Form) (id at : ℕ) (branches : List Nested) → id < length draft.nodes
    → tree_at (trees draft.nodes) id ≡ built form branches → IsAtom draft (atom_of form id at)
closed_atom draft (grouped number) id at branches below is = (below, rw is (record { many = λ low high lazy. refl }))
closed_atom draft atomically id at branches below is = (below, rw is (record { many = λ low high lazy. refl }))
closed_atom draft (looks ahead positive once) id at branches below is =
    (below, rw is (record { looks = λ low high lazy. refl }))
closed_atom draft (conditional test) id at branches below is = (below, rw is (branched_many test branches))
closed_atom draft defines id at branches below is = (below, rw is (branched_many never branches))
closed_atom draft (asserted ahead positive) id at branches below is =
    (below, rw is (record { looks = λ low high lazy. refl }))
closed_atom draft asserting id at branches below is = (below, rw is (tested_many branches))

closed_tree : (ps : List Placed) (form : Form) (id at : ℕ) → atom_tree ps (atom_of form id at) ≡ tree_at (trees ps) id
closed_tree ps (grouped number) id at = refl
closed_tree ps atomically id at = refl
closed_tree ps (looks ahead positive once) id at = refl
closed_tree ps (conditional test) id at = refl
closed_tree ps defines id at = refl
closed_tree ps (asserted ahead positive) id at = refl
closed_tree ps asserting id at = refl

closed_ids : (form : Form) (id at : ℕ) → ids_of (atom_of form id at) ≡ id ∷ []
closed_ids (grouped number) id at = refl
closed_ids atomically id at = refl
closed_ids (looks ahead positive once) id at = refl
closed_ids (conditional test) id at = refl
closed_ids defines id at = refl
closed_ids (asserted ahead positive) id at = refl
closed_ids asserting id at = refl

resume_eq : (known : Known) (text : List ℕ) (os : List Opened) (layer : Layer) (n : ℕ) {t u : Nested} {st st' : State}
    → t ≡ u → st ≡ st' → resume known text os layer (Some (n, t)) st ≡ resume known text os layer (Some (n, u)) st'
resume_eq known text os layer n {t} {u} {st} {st'} p q = ap (λ v. resume known text os layer (Some (n, v)) st) p
    ∙ ap (λ v. resume known text os layer (Some (n, u)) v) q

-- the frame of a group that begins
abbrev pub frame_from : Machine → machine.Form → Level → Frame
frame_from m form outer = record {
  form = form;
  around = m.options;
  looking = m.looking;
  bars = m.bars;
  numbering = m.numbering;
  at = m.at;
  outer = outer;
}

module _ (m : Machine) (means : Means m) where
  -- the old level's numbers serve for the new one
  pub bar_means : (id : ℕ) (draft : DraftParts) (branches : List ℕ) (bars : Bars) (after : ℕ) →
      Ready Bar after m → barred m.bars m.at ≡ Ok bars → Makes m.draft.nodes draft.nodes id
      (alternative (map (tree_at (trees m.draft.nodes)) m.level.parts)) → Adds m.draft draft
      → Replaces m.draft.nodes m.level.parts draft.nodes id →
      branches ≡ m.level.branches ++ id ∷ [] → length draft.nodes ≤ length m.draft.nodes + 1 →
      Took m (record m {
        draft = draft;
        level = record { branches = branches; parts = [] };
        bars = bars;
        groups = groups_before m.numbering m.groups;
        numbering = next_numbering m.numbering m.groups;
        at = after;
      })
  bar_means id draft branches bars after ready found makes adds replaces more count =
      let (n, n_is) = positive (left m) means.layer.n means.level.n in
      let (k, k_is) = positive (left m) means.layer.k means.level.k in
      let there = ready.there in
      let u : ℕ = 2 * (length m.text.now - after) in
      let falls : u < left m - 1 = omega (arith, there.goes, there.within) in
      let less : u ≤ left m = omega arith in
      let layer : Layer = record {
        n = k;
        k = k;
        branches = means.layer.branches ++ alternative means.layer.parts ∷ [];
        parts = [];
      } in
      let step = step_bar (known_of m) m.text.now (state_of m) Bar after there.token_is ready.quiet refl means.opens
      means.layer n k bars n_is k_is found in
      let given : ℕ = greatest_given m.stack.items m.numbering m.groups in
      let next : ℕ = greatest_given m.stack.items (next_numbering m.numbering m.groups)
      (groups_before m.numbering m.groups) in
      let same : given ≡ next = greatest_next m.stack.items m.numbering m.groups means.numbers.fair in
      let whole = whole_kept m draft adds in record {
        means = record {
          opens = means.opens;
          layer = layer;
          waiting = None;
          stack = stack_on makes.grows (left m) u less (reverse m.stack.items) means.opens means.stack;
          level = record {
            branches = rw more (stand_made (rw means.level.parts.trees_are at makes) means.level.branches);
            parts = stand_none draft.nodes;
            n = omega (arith, k_is, means.level.k);
            k = omega (arith, k_is, means.level.k);
          };
          pending = rw (ready.idle) refl;
          barred = rw more (bars_push (reverse m.stack.items) m.level.branches id m.bars bars m.at found means.barred);
          tested = tests_push means.opens means.layer.branches (alternative means.layer.parts) means.tested;
          value = ap (λ st. resume (known_of m) m.text.now means.opens layer None
              (record st {
                at = after;
                bars = bars;
                groups = groups_before m.numbering m.groups;
                numbering = next_numbering m.numbering m.groups;
              })) (state_kept m draft adds) ∙ sym step
              ∙ idle_value m means ready.idle ∙ sym whole;
          within = there.within;
          short = means.short;
          depth = means.depth;
          classes = omega (arith, means.classes, there.goes, ap length adds.classes);
          named = rw (adds.names) (given_on given next m.draft.names (omega (arith, same)) means.named);
          names = omega (arith, means.names, there.goes, ap length adds.names);
          verb_names = omega (arith, means.verb_names, there.goes, ap length adds.verb_names);
          refs_are = refs_kept m draft adds means.refs_are;
          turns = adds.turns means.turns;
          loose_is = replaces (ids_held m.stack.items ++ m.level.branches)
              (loose_idle m means ready.idle ∙ to_parts (ids_held m.stack.items) m.level.branches m.level.parts)
              ∙ as_branch (ids_held m.stack.items) m.level.branches (id ∷ [])
              ∙ ap (λ l. ids_held m.stack.items ++ ((l ++ []) ++ [])) (sym more)
              ∙ ap (λ w. ids_held m.stack.items ++ ((branches ++ []) ++ ids_waiting w)) (sym ready.idle);
          numbers = numbers_next (numbers_kept adds means.numbers);
        };
        room = omega (arith, ready.room, there.goes, count);
        goes = there.goes;
        same = record { text = refl; options = adds.options; whole = whole };
      }

  -- a group begins, which may get a name
  pub enter_means : (token : Token) (form : machine.Form) (outer : Level) (stack : Vec Frame Global)
      (given : Option Name) (start : Inside) →
      Ready token start.at m → TestsNone (form_of form) → outer ≡ m.level
      → stack.items ≡ m.stack.items ++ frame_from m form outer ∷ [] → length m.stack.items < 250 →
      Numbered m.groups (number_of (form_of form)) start.numbering start.groups
      → Gives m.text.now m.groups given start.groups → Begins m token start.at
      (Ok (inside_from m (form_of form) given start)) →
      Took m (record m {
        draft = record (m.draft) { names = with_given m.text.now given m.draft.names };
        stack = stack;
        level = record { branches = []; parts = [] };
        options = start.options;
        groups = start.groups;
        looking = is_look (form_of form) || m.looking;
        bars = bars_in (form_of form);
        numbering = start.numbering;
        beyond = start.beyond;
        at = start.at;
      })
  enter_means token form outer stack given start ready none same pushed fits numbered gives begins =
      let f = frame_from m form outer in
      let (n, n_is) = positive (left m) means.layer.n means.level.n in
      let there = ready.there in
      let u : ℕ = 2 * (length m.text.now - start.at) in
      let falls : u < left m - 1 = omega (arith, there.goes, there.within) in
      let less : u ≤ left m = omega arith in
      let (q, q_is) = positive (u + 1) n (omega (arith, n_is, means.level.n)) in
      let above : u < q = omega (arith, q_is, n_is, means.level.n) in
      let enough : u < suc q = omega (arith, above) in
      let plenty : u + 1 < suc q = omega (arith, above) in
      let level = level_on (grows_not m.draft.nodes) (left m) u less means.level in
      let table = with_given m.text.now given m.draft.names in
      let new : Machine = record m {
        draft = record (m.draft) { names = table };
        stack = stack;
        level = record { branches = []; parts = [] };
        options = start.options;
        groups = start.groups;
        looking = is_look (form_of form) || m.looking;
        bars = bars_in (form_of form);
        numbering = start.numbering;
        beyond = start.beyond;
        at = start.at;
      } in
      let begun : State = record (state_of new) { depth = length m.stack.items + 1 } in
      let o : Opened = record { how = opening_of f; outer = record (means.layer) { n = suc q } } in
      let inner : Layer = record { n = q; k = q; branches = []; parts = [] } in
      let turned : reverse stack.items ≡ f ∷ reverse m.stack.items = ap reverse pushed
      ∙ reverse-append m.stack.items (f ∷ []) in
      let deep : length stack.items ≡ length m.stack.items + 1 =
      omega (arith, ap length pushed, length-append m.stack.items (f ∷ [])) in
      let step = step_open (known_of m) m.text.now (state_of m) token start.at there.token_is ready.quiet means.opens
      means.layer q (opening_of f) begun (is_untested (form_of form) none) (n_is ∙ ap suc q_is)
      (begins (suc q) plenty) in record {
        means = record {
          opens = o ∷ means.opens;
          layer = inner;
          waiting = None;
          stack = rw turned (
            record {
              how = refl;
              outer = rw same (record { branches = level.branches; parts = level.parts; n = enough; k = level.k });
            },
            stack_on (grows_not m.draft.nodes) (left m) u less (reverse m.stack.items) means.opens means.stack,
          );
          level = record {
            branches = stand_none m.draft.nodes;
            parts = stand_none m.draft.nodes;
            n = above;
            k = above;
          };
          pending = rw (ready.idle) refl;
          barred = rw (turned, is_untested (form_of form) none) (bars_first (form_of form) none, rw same means.barred);
          tested = rw (is_untested (form_of form) none) (untested (form_of form) none, means.tested, tt);
          value = ap (λ d. resume (known_of m) m.text.now (o ∷ means.opens) inner None
              (record (state_of new) { depth = d })) deep ∙ sym step ∙ idle_value m means ready.idle;
          within = there.within;
          short = means.short;
          depth = omega (arith, deep, fits);
          classes = omega (arith, means.classes, there.goes);
          named = given_names m.text.now given m.draft.names m.groups start.groups (number_of (form_of form))
              start.numbering m.stack.items stack.items f numbered gives pushed means.named;
          names = omega (arith, means.names, there.goes, count_given m.text.now given m.draft.names);
          verb_names = omega (arith, means.verb_names, there.goes);
          refs_are = means.refs_are;
          turns = means.turns;
          loose_is = loose_idle m means ready.idle ∙ ap (λ l. ids_held m.stack.items ++ l)
              (append-nil (ids_in m.level)) ∙ ap (λ l. ids_held m.stack.items ++ ids_in l) (sym same)
              ∙ sym (held_push m.stack.items f) ∙ ap ids_held (sym pushed) ∙ sym (append-nil (ids_held stack.items))
              ∙ ap (λ w. ids_held stack.items ++ ids_waiting w) (sym ready.idle);
          numbers = rw pushed (numbers_enter f start.numbering start.groups numbered means.numbers);
        };
        room = omega (arith, ready.room, there.goes);
        goes = there.goes;
        same = record { text = refl; options = refl; whole = refl };
      }

  -- no further alternative may come
  pub barred_means : (after : ℕ) (e : ReadError) → Ready Bar after m → Refuses (barred m.bars m.at) e
      → Refuses (whole_of m) e
  barred_means after (Bad number at) ready h =
      let n = positive (left m) means.layer.n means.level.n in
      sym (idle_value m means ready.idle) ∙ step_barred (known_of m) m.text.now (state_of m) Bar after
      ready.there.token_is ready.quiet refl means.opens means.layer n.0 _ n.1 h
  barred_means after Memory ready h = tt

  over_value : (token : Token) (after : ℕ) → (token ≡ Close) ⊎ (token ≡ End) → m.waiting ≡ None → IsQuiet m
      → token_at m.text.now (flags_of false (state_of m)) m.at ≡ Ok (token, after) →
      ended (known_of m) m.text.now means.opens (means.layer.branches ++ alternative means.layer.parts ∷ [])
      (state_of m) ≡ whole_of m
  over_value token after ends idle quiet token_is =
      let n = positive (left m) means.layer.n means.level.n in
      sym (step_over (known_of m) m.text.now (state_of m) token after token_is quiet ends means.opens means.layer n.0
      n.1) ∙ idle_value m means idle

  pub unopened_means : (after : ℕ) → Ready Close after m → m.stack.items ≡ [] → whole_of m ≡ fault 122 m.at
  unopened_means after ready none =
      let opens : means.opens ≡ [] = none_open m.draft.nodes (left m) means.opens (rw none at means.stack) in
      sym (over_value Close after (inl refl) ready.idle ready.quiet ready.there.token_is)
      ∙ ap (λ os. ended (known_of m) m.text.now os (means.layer.branches ++ alternative means.layer.parts ∷ [])
      (state_of m)) opens
      ∙ step_unopened (known_of m) m.text.now (state_of m) Close after ready.there.token_is refl
      (means.layer.branches ++ alternative means.layer.parts ∷ [])

  pub unclosed_means : (after : ℕ) (f : Frame) (front : List Frame) → m.waiting ≡ None → IsQuiet m
      → token_at m.text.now (flags_of false (state_of m)) m.at ≡ Ok (End, after) → m.stack.items ≡ front ++ f ∷ [] →
      whole_of m ≡ fault 114 (length m.text.now)
  unclosed_means after f front idle quiet token_is some =
      let turned : reverse m.stack.items ≡ f ∷ reverse front = ap reverse some ∙ reverse-append front (f ∷ []) in
      let i = innermost m.draft.nodes (left m) f (reverse front) means.opens (rw turned at means.stack) in
      sym (over_value End after (inr refl) idle quiet token_is)
      ∙ ap (λ os. ended (known_of m) m.text.now os (means.layer.branches ++ alternative means.layer.parts ∷ [])
      (state_of m)) i.is
      ∙ step_unclosed (known_of m) m.text.now (state_of m) End after token_is refl i.o i.os
      (means.layer.branches ++ alternative means.layer.parts ∷ [])

  pub whole_means : (after id : ℕ) (draft : DraftParts) (level : Level) → m.waiting ≡ None → IsQuiet m
      → token_at m.text.now (flags_of false (state_of m)) m.at ≡ Ok (End, after) → m.stack.items ≡ [] →
      Makes m.draft.nodes draft.nodes id
      (group None (row (map (tree_at (trees m.draft.nodes)) m.level.branches ++ alternative
      (map (tree_at (trees m.draft.nodes)) m.level.parts) ∷ []))) →
      Adds m.draft draft → Ends m (record m { draft = draft; level = level }) id
  whole_means after id draft level idle quiet token_is none makes adds =
      let opens : means.opens ≡ [] = none_open m.draft.nodes (left m) means.opens (rw none at means.stack) in
      let made = rw (means.level.branches.trees_are, means.level.parts.trees_are) at makes in
      let branches : List Nested = means.layer.branches ++ alternative means.layer.parts ∷ [] in
      let numbers : Numbers draft.nodes [] m.numbering m.groups = rw none at (numbers_kept adds means.numbers) in
      let given = rw none at means.named in
      let last : greatest_given [] m.numbering m.groups ≡ m.groups =
      greatest_end m.numbering m.groups numbers.onward in record {
        is = sym (over_value End after (inr refl) idle quiet token_is)
            ∙ ap (λ os. ended (known_of m) m.text.now os branches (state_of m)) opens
            ∙ step_whole (known_of m) m.text.now (state_of m) End after token_is refl branches
            ∙ ap (λ t. let x : Reads Nested = Ok (t, state_of m) in x) (sym made.is)
            ∙ ap (λ st. let x : Reads Nested = Ok (tree_at (trees draft.nodes) id, st) in x)
            (sym (state_kept m draft adds));
        turns = adds.turns means.turns;
        groups = λ n. numbers_end numbers n;
        refs_are = refs_kept m draft adds means.refs_are;
        text = refl;
        named = rw (adds.names) (given_on (greatest_given [] m.numbering m.groups) m.groups m.draft.names
            (omega (arith, last)) given);
        options = adds.options;
      }

  -- a group ends, and waits for a quantifier
  pub close_means : (after id : ℕ) (f : Frame) (stack : Vec Frame Global) (draft : DraftParts) → Ready Close after m
      → is_tested (form_of f.form) ≡ false → m.stack.items ≡ stack.items ++ f ∷ [] →
      Makes m.draft.nodes draft.nodes id
      (built (form_of f.form) (map (tree_at (trees m.draft.nodes)) m.level.branches ++ alternative
      (map (tree_at (trees m.draft.nodes)) m.level.parts) ∷ [])) →
      Closes m.draft draft (form_of f.form) f.at → Replaces m.draft.nodes (m.level.branches ++ m.level.parts)
      draft.nodes id → length draft.nodes ≤ length m.draft.nodes + 2 →
      Took m (record m {
        draft = draft;
        stack = stack;
        level = f.outer;
        waiting = Some (atom_of (form_of f.form) id f.at);
        options = f.around;
        looking = f.looking;
        bars = f.bars;
        groups = groups_after m.numbering m.groups;
        numbering = f.numbering;
        at = after;
      })
  close_means after id f stack draft ready part popped makes closes replaces count =
      let there = ready.there in
      let u : ℕ = 2 * (length m.text.now - after) in
      let falls : u < left m - 1 = omega (arith, there.goes, there.within) in
      let less : u ≤ left m = omega arith in
      let turned : reverse m.stack.items ≡ f ∷ reverse stack.items = ap reverse popped
      ∙ reverse-append stack.items (f ∷ []) in
      let deep : length m.stack.items ≡ length stack.items + 1 =
      omega (arith, ap length popped, length-append stack.items (f ∷ [])) in
      let less_deep : length m.stack.items - 1 ≡ length stack.items = omega (arith, deep) in
      let i = innermost m.draft.nodes (left m) f (reverse stack.items) means.opens (rw turned at means.stack) in
      let made = rw (means.level.branches.trees_are, means.level.parts.trees_are) at makes in
      let level = level_on makes.grows (left m) u less i.frame.outer in
      let branches : List Nested = means.layer.branches ++ alternative means.layer.parts ∷ [] in
      let t : Nested = built i.o.how.form branches in
      let plain : is_tested i.o.how.form ≡ false = ap (λ h. is_tested h.form) i.frame.how ∙ part in
      let tree : tree_at (trees draft.nodes) id ≡ t = rw i.frame.how made.is in
      let step = step_close (known_of m) m.text.now (state_of m) Close after there.token_is refl i.o i.os branches
      plain in
      let last : State = record (state_of m) {
        at = after;
        options = i.o.how.around;
        looking = i.o.how.looking;
        bars = i.o.how.bars;
        groups = groups_after m.numbering m.groups;
        numbering = i.o.how.numbering;
        depth = length m.stack.items - 1;
        references = references_of m.draft.nodes ++ noted i.o.how.form i.o.how.at;
      } in
      let given : ℕ = greatest_given m.stack.items m.numbering m.groups in
      let next : ℕ = greatest_given stack.items f.numbering (groups_after m.numbering m.groups) in
      let same : given ≡ next = greatest_close m.stack.items stack.items f m.numbering m.groups popped in
      let whole = whole_closed m draft closes in
      let value : resume (known_of m) m.text.now i.os i.o.outer (Some (i.o.outer.n, t)) last ≡ whole_of m =
      sym step ∙ ap (λ os. ended (known_of m) m.text.now os branches (state_of m)) (sym i.is)
      ∙ over_value Close after (inl refl) ready.idle ready.quiet there.token_is in
      let new : Machine = record m {
        draft = draft;
        stack = stack;
        level = f.outer;
        waiting = Some (atom_of (form_of f.form) id f.at);
        options = f.around;
        looking = f.looking;
        bars = f.bars;
        groups = groups_after m.numbering m.groups;
        numbering = f.numbering;
        at = after;
      } in
      let state : state_of new ≡ last =
      ap (λ (st : State). let x : State = record st {
        at = after;
        options = f.around;
        looking = f.looking;
        bars = f.bars;
        groups = groups_after m.numbering m.groups;
        numbering = f.numbering;
        depth = length stack.items;
      } in x) (state_closed m draft closes)
      ∙ state_eq (record (state_of m) { at = after; groups = groups_after m.numbering m.groups })
      (references_of m.draft.nodes) (sym i.frame.how) (sym less_deep) in record {
        means = record {
          opens = i.os;
          layer = i.o.outer;
          waiting = Some (i.o.outer.n, tree_at (trees draft.nodes) id);
          stack = stack_on makes.grows (left m) u less (reverse stack.items) i.os i.stack;
          level = level;
          barred = rw part at (rw turned at means.barred).1;
          tested = rw plain at (rw i.is at means.tested).1;
          pending = (
            closed_atom draft (form_of f.form) id f.at branches makes.below made.is,
            (
              i.o.outer.n,
              level.n,
              ap (λ v. Some (i.o.outer.n, v))
                  (sym (closed_tree draft.nodes (form_of f.form) id f.at)),
            ),
          );
          value = resume_eq (known_of m) m.text.now i.os i.o.outer i.o.outer.n tree state ∙ value ∙ sym whole;
          within = there.within;
          short = means.short;
          depth = omega (arith, deep, means.depth);
          classes = omega (arith, means.classes, there.goes, ap length closes.classes);
          named = rw (closes.names) (given_on given next m.draft.names (omega (arith, same)) means.named);
          names = omega (arith, means.names, there.goes, ap length closes.names);
          verb_names = omega (arith, means.verb_names, there.goes, ap length closes.verb_names);
          refs_are = refs_closed m draft closes means.refs_are;
          turns = closes.turns means.turns;
          loose_is = replaces (ids_held m.stack.items) (loose_idle m means ready.idle
              ∙ ap (λ l. ids_held m.stack.items ++ l) (append-nil (ids_in m.level)))
              ∙ ap (λ l. l ++ id ∷ []) (ap ids_held popped ∙ held_push stack.items f)
              ∙ append_assoc (ids_held stack.items) (ids_in f.outer) (id ∷ [])
              ∙ ap (λ w. ids_held stack.items ++ (ids_in f.outer ++ w)) (sym (closed_ids (form_of f.form) id f.at));
          numbers = numbers_close stack.items f popped closes.groups means.numbers;
        };
        room = omega (arith, ready.room, there.goes, count);
        goes = there.goes;
        same = record { text = refl; options = closes.options; whole = whole };
      }

  -- a group that tests a lookaround has it as its first alternative
  pub test_means : (f : Frame) (front : List Frame) → m.stack.items ≡ front ++ f ∷ []
      → HasTest (form_of f.form) (map (tree_at (trees m.draft.nodes)) m.level.branches)
  test_means f front popped =
      let turned : reverse m.stack.items ≡ f ∷ reverse front = ap reverse popped ∙ reverse-append front (f ∷ []) in
      let i = innermost m.draft.nodes (left m) f (reverse front) means.opens (rw turned at means.stack) in
      let first : HasTest i.o.how.form means.layer.branches = (rw i.is at means.tested).0 in
      rw means.level.branches.trees_are (rw i.frame.how at first)

  -- what stands around a lookaround that is tested, where it ends
  module _ (f : Frame) (stack : Vec Frame Global) (popped : m.stack.items ≡ stack.items ++ f ∷ []) where
    pub turned_is : reverse m.stack.items ≡ f ∷ reverse stack.items
    turned_is = ap reverse popped ∙ reverse-append stack.items (f ∷ [])

    pub inside_of : Innermost m.draft.nodes (left m) f (reverse stack.items) means.opens
    inside_of = innermost m.draft.nodes (left m) f (reverse stack.items) means.opens (rw turned_is at means.stack)

    -- the callout before it and itself
    pub lead_stands : (draft : DraftParts) (id : ℕ) (t : Nested) → Makes m.draft.nodes draft.nodes id t
        → Stand draft.nodes (f.outer.parts ++ id ∷ []) (inside_of.o.outer.parts ++ t ∷ [])
    lead_stands draft id t made = stand_made made inside_of.frame.outer.parts

    pub lead_ends : (draft : DraftParts) (id : ℕ) → m.waiting ≡ None
        → Replaces m.draft.nodes (m.level.branches ++ m.level.parts) draft.nodes id →
        loose draft.nodes ≡ (ids_held stack.items ++ f.outer.branches) ++ (f.outer.parts ++ id ∷ [])
    lead_ends draft id idle replaces =
        replaces (ids_held m.stack.items) (loose_idle m means idle
        ∙ ap (λ l. ids_held m.stack.items ++ l) (append-nil (ids_in m.level)))
        ∙ ap (λ l. l ++ id ∷ []) (ap ids_held popped ∙ held_push stack.items f)
        ∙ as_lead (ids_held stack.items) f.outer.branches f.outer.parts id

  -- a lookaround that is tested ends, and is an alternative of the group around it, with the callout before it
  pub close_test_means : (after id : ℕ) (f : Frame) (stack : Vec Frame Global) (middle draft : DraftParts)
      (around : Level) → Ready Close after m → is_tested (form_of f.form) ≡ true
      → m.stack.items ≡ stack.items ++ f ∷ [] →
      Makes m.draft.nodes middle.nodes id
      (built (form_of f.form) (map (tree_at (trees m.draft.nodes)) m.level.branches ++ alternative
      (map (tree_at (trees m.draft.nodes)) m.level.parts) ∷ [])) →
      Closes m.draft middle (form_of f.form) f.at → Replaces m.draft.nodes (m.level.branches ++ m.level.parts)
      middle.nodes id → length middle.nodes ≤ length m.draft.nodes + 2 →
      TestsIn middle.nodes draft.nodes f.outer around id → Adds middle draft
      → length draft.nodes ≤ length middle.nodes + 1 →
      Took m (record m {
        draft = draft;
        stack = stack;
        level = around;
        options = f.around;
        looking = f.looking;
        bars = f.bars;
        groups = groups_after m.numbering m.groups;
        numbering = f.numbering;
        at = after;
      })
  close_test_means after id f stack middle draft around ready tested popped makes closing replaces count tests adds
      more =
      let there = ready.there in
      let u : ℕ = 2 * (length m.text.now - after) in
      let falls : u < left m - 1 = omega (arith, there.goes, there.within) in
      let less : u ≤ left m = omega arith in
      let turned : reverse m.stack.items ≡ f ∷ reverse stack.items = turned_is f stack popped in
      let deep : length m.stack.items ≡ length stack.items + 1 =
      omega (arith, ap length popped, length-append stack.items (f ∷ [])) in
      let less_deep : length m.stack.items - 1 ≡ length stack.items = omega (arith, deep) in
      let i = inside_of f stack popped in
      let branches : List Nested = means.layer.branches ++ alternative means.layer.parts ∷ [] in
      let t : Nested = built i.o.how.form branches in
      let made : Makes m.draft.nodes middle.nodes id t =
      rw i.frame.how (rw (means.level.branches.trees_are, means.level.parts.trees_are) at makes) in
      let lead : Stand middle.nodes (f.outer.parts ++ id ∷ []) (i.o.outer.parts ++ t ∷ []) =
      lead_stands f stack popped middle id t made in
      let test_made_is : Makes middle.nodes draft.nodes tests.test (alternative (i.o.outer.parts ++ t ∷ [])) =
      rw (lead.trees_are) at tests.makes in
      let closes : Closes m.draft draft (form_of f.form) f.at = closes_later closing adds in
      let level = level_on made.grows (left m) u less i.frame.outer in
      let is : is_tested i.o.how.form ≡ true = ap (λ h. is_tested h.form) i.frame.how ∙ tested in
      let step = step_tested (known_of m) m.text.now (state_of m) Close after there.token_is refl i.o i.os branches is
      in
      let last : State = record (state_of m) {
        at = after;
        options = i.o.how.around;
        looking = i.o.how.looking;
        bars = i.o.how.bars;
        groups = groups_after m.numbering m.groups;
        numbering = i.o.how.numbering;
        depth = length m.stack.items - 1;
        references = references_of m.draft.nodes ++ noted i.o.how.form i.o.how.at;
      } in
      let given : ℕ = greatest_given m.stack.items m.numbering m.groups in
      let next : ℕ = greatest_given stack.items f.numbering (groups_after m.numbering m.groups) in
      let same : given ≡ next = greatest_close m.stack.items stack.items f m.numbering m.groups popped in
      let whole = whole_closed m draft closes in
      let value : resume (known_of m) m.text.now i.os (with_test i.o.outer t) None last ≡ whole_of m =
      sym step ∙ ap (λ os. ended (known_of m) m.text.now os branches (state_of m)) (sym i.is)
      ∙ over_value Close after (inl refl) ready.idle ready.quiet there.token_is in
      let new : Machine = record m {
        draft = draft;
        stack = stack;
        level = around;
        options = f.around;
        looking = f.looking;
        bars = f.bars;
        groups = groups_after m.numbering m.groups;
        numbering = f.numbering;
        at = after;
      } in
      let state : state_of new ≡ last =
      ap (λ (st : State). let x : State = record st {
        at = after;
        options = f.around;
        looking = f.looking;
        bars = f.bars;
        groups = groups_after m.numbering m.groups;
        numbering = f.numbering;
        depth = length stack.items;
      } in x) (state_closed m draft closes)
      ∙ state_eq (record (state_of m) { at = after; groups = groups_after m.numbering m.groups })
      (references_of m.draft.nodes) (sym i.frame.how) (sym less_deep) in
      let one_more : length around.branches ≡ length f.outer.branches + 1 =
      omega (arith, ap (λ l. length l.branches) tests.is, length-append f.outer.branches (tests.test ∷ [])) in
      let barred = rw tested at (rw turned at means.barred) in
      let others = rw is at (rw i.is at means.tested).1 in
      let leads = rw is at (rw i.is at means.tested).2 in
      let level_is : LevelStands draft.nodes u (record { branches = f.outer.branches ++ tests.test ∷ []; parts = [] })
      (with_test i.o.outer t) =
      record {
        branches = stand_made test_made_is level.branches;
        parts = stand_none draft.nodes;
        n = level.n;
        k = level.k;
      } in
      record {
        means = record {
          opens = i.os;
          layer = with_test i.o.outer t;
          waiting = None;
          stack = stack_on test_made_is.grows u u (omega arith) (reverse stack.items) i.os
              (stack_on made.grows (left m) u less (reverse stack.items) i.os i.stack);
          level = subst (λ l. LevelStands draft.nodes u l (with_test i.o.outer t)) (sym tests.is) level_is;
          barred = rw one_more barred.1;
          tested = tests_other i.os i.o.outer.branches (tree.look true true true tree.none)
              (alternative (i.o.outer.parts ++ t ∷ [])) (test_made i.o.how.form branches i.o.outer.parts is leads)
              others;
          pending = rw (ready.idle) refl;
          value = ap (resume (known_of m) m.text.now i.os (with_test i.o.outer t) None) state ∙ value ∙ sym whole;
          within = there.within;
          short = means.short;
          depth = omega (arith, deep, means.depth);
          classes = omega (arith, means.classes, there.goes, ap length closes.classes);
          named = rw (closes.names) (given_on given next m.draft.names (omega (arith, same)) means.named);
          names = omega (arith, means.names, there.goes, ap length closes.names);
          verb_names = omega (arith, means.verb_names, there.goes, ap length closes.verb_names);
          refs_are = refs_closed m draft closes means.refs_are;
          turns = closes.turns means.turns;
          loose_is = tests.replaces (ids_held stack.items ++ f.outer.branches)
              (lead_ends f stack popped middle id ready.idle replaces)
              ∙ as_test (ids_held stack.items) f.outer.branches tests.test
              ∙ ap (λ (l : Level). ids_held stack.items ++ ((l.branches ++ l.parts) ++ [])) (sym tests.is)
              ∙ ap (λ w. ids_held stack.items ++ ((around.branches ++ around.parts) ++ ids_waiting w)) (sym ready.idle);
          numbers = numbers_close stack.items f popped closes.groups means.numbers;
        };
        room = omega (arith, ready.room, there.goes, count, more);
        goes = there.goes;
        same = record { text = refl; options = closes.options; whole = whole };
      }

  -- a conditional group begins, and the lookaround that it tests
  pub assert_means : (token : Token) (after : ℕ) (test : Assertion) (stack : Vec Frame Global) (outer : Level)
      (draft : DraftParts) (lead : List ℕ) →
      Ready token after m → after ≤ test.after.at → m.at < test.after.at → test.after.at ≤ length m.text.now
      → outer ≡ m.level →
      stack.items ≡ (m.stack.items ++ frame_from m kept.Asserting outer ∷ []) ++ tested_frame m test lead ∷ []
      → length m.stack.items + 1 < 250 → Begins m token after (Ok (asserting_from m test)) →
      Adds m.draft draft → Grows m.draft.nodes draft.nodes → Stand draft.nodes lead (lead_of test.lead)
      → loose draft.nodes ≡ loose m.draft.nodes ++ lead → length draft.nodes ≤ length m.draft.nodes + 1 →
      Took m (record m {
        draft = draft;
        stack = stack;
        level = record { branches = []; parts = [] };
        looking = true;
        bars = Free;
        numbering = Onward;
        quoting = test.after.quoting;
        at = test.after.at;
      })
  assert_means token after test stack outer draft lead ready later onward within same pushed fits begins adds grows
      stands last count =
      let around = frame_from m kept.Asserting outer in
      let looks = tested_frame m test lead in
      let (n, n_is) = positive (left m) means.layer.n means.level.n in
      let there = ready.there in
      let u : ℕ = 2 * (length m.text.now - test.after.at) in
      let falls : u < left m - 1 = omega (arith, onward, within) in
      let less : u ≤ left m = omega arith in
      let (q, q_is) = positive (u + 1) n (omega (arith, n_is, means.level.n)) in
      let above : u < q = omega (arith, q_is, n_is, means.level.n) in
      let enough : u < suc q = omega (arith, above) in
      let plenty : 2 * (length m.text.now - after) + 1 < suc q =
      omega (arith, q_is, n_is, means.level.n, there.goes, there.within) in
      let level = level_on grows (left m) u less means.level in
      let new : Machine = record m {
        draft = draft;
        stack = stack;
        level = record { branches = []; parts = [] };
        looking = true;
        bars = Free;
        numbering = Onward;
        quoting = test.after.quoting;
        at = test.after.at;
      } in
      let inner : Layer = record { n = q; k = q; branches = []; parts = [] } in
      let o : Opened = record { how = opening_of around; outer = record (means.layer) { n = suc q } } in
      let p : Opened = record { how = opening_of looks; outer = record inner { parts = lead_of test.lead } } in
      let turned : reverse stack.items ≡ looks ∷ around ∷ reverse m.stack.items =
      ap reverse pushed ∙ reverse-append (m.stack.items ++ around ∷ []) (looks ∷ [])
      ∙ ap (λ fs. looks ∷ fs) (reverse-append m.stack.items (around ∷ [])) in
      let deep : length stack.items ≡ length m.stack.items + 2 =
      omega (
        arith,
        ap length pushed,
        length-append (m.stack.items ++ around ∷ []) (looks ∷ []),
        length-append m.stack.items (around ∷ []),
      ) in
      let given : ℕ = greatest_given m.stack.items m.numbering m.groups in
      let between : ℕ = greatest_given (m.stack.items ++ around ∷ []) Onward m.groups in
      let next : ℕ = greatest_given stack.items Onward m.groups in
      let first : given ≤ between = greatest_enter m.stack.items (m.stack.items ++ around ∷ []) around Onward m.groups
      m.groups None refl refl in
      let second : between ≤ next = greatest_enter (m.stack.items ++ around ∷ []) stack.items looks Onward m.groups
      m.groups None pushed refl in
      let start : State = record (state_of m) {
        at = test.after.at;
        quoting = test.after.quoting;
        depth = length m.stack.items + 2;
        looking = true;
        bars = Free;
        numbering = Onward;
      } in
      let step = step_asserts (known_of m) m.text.now (state_of m) token after there.token_is ready.quiet means.opens
      means.layer q (opening_of around) (opening_of looks) (lead_of test.lead) start refl refl
      (n_is ∙ ap suc q_is) (begins (suc q) plenty) in record {
        means = record {
          opens = p ∷ o ∷ means.opens;
          layer = inner;
          waiting = None;
          stack = rw turned (
            record {
              how = refl;
              outer = record {
                branches = stand_none draft.nodes;
                parts = stands;
                n = above;
                k = above;
              };
            },
            (
              record {
                how = refl;
                outer = rw same (record { branches = level.branches; parts = level.parts; n = enough; k = level.k });
              },
              stack_on grows (left m) u less (reverse m.stack.items) means.opens means.stack,
            ),
          );
          level = record { branches = stand_none draft.nodes; parts = stand_none draft.nodes; n = above; k = above };
          pending = rw (ready.idle) refl;
          barred = rw turned (refl, (refl, rw same means.barred));
          tested = (tt, (refl, means.tested, tt), lead_is test.lead);
          value = ap (λ d. resume (known_of m) m.text.now (p ∷ o ∷ means.opens) inner None
              (record (state_of new) { depth = d })) deep
              ∙ ap (λ (st : State). resume (known_of m) m.text.now (p ∷ o ∷ means.opens) inner None
              (record st {
                at = test.after.at;
                quoting = test.after.quoting;
                depth = length m.stack.items + 2;
                looking = true;
                bars = Free;
                numbering = Onward;
              })) (state_kept m draft adds)
              ∙ sym step ∙ idle_value m means ready.idle ∙ sym (whole_kept m draft adds);
          within = within;
          short = means.short;
          depth = omega (arith, deep, fits);
          classes = omega (arith, means.classes, onward, ap length adds.classes);
          named = rw (adds.names) (given_on given next m.draft.names (omega (arith, first, second)) means.named);
          names = omega (arith, means.names, onward, ap length adds.names);
          verb_names = omega (arith, means.verb_names, onward, ap length adds.verb_names);
          refs_are = refs_kept m draft adds means.refs_are;
          turns = adds.turns means.turns;
          loose_is = last
              ∙ ap (λ l. l ++ lead) (loose_idle m means ready.idle
              ∙ ap (λ l. ids_held m.stack.items ++ l) (append-nil (ids_in m.level))
              ∙ ap (λ l. ids_held m.stack.items ++ ids_in l) (sym same) ∙ sym (held_push m.stack.items around))
              ∙ sym (held_push (m.stack.items ++ around ∷ []) looks) ∙ ap ids_held (sym pushed)
              ∙ sym (append-nil (ids_held stack.items)) ∙ ap (λ w. ids_held stack.items ++ ids_waiting w)
              (sym ready.idle);
          numbers = rw pushed (numbers_enter looks Onward m.groups refl
              (numbers_enter around Onward m.groups refl (numbers_on adds.groups means.numbers)));
        };
        room = omega (arith, ready.room, onward, count);
        goes = onward;
        same = record { text = refl; options = adds.options; whole = whole_kept m draft adds };
      }
