-- Where the references and the tests of a whole reading stand, and how deep its tree is nested.
use Rattle.std.proofs.Common.{◌≡◌, ◌⊎◌, inl, inr, ℕ, zero, suc, ◌+◌, ◌-◌, ◌*◌, ◌<◌, ◌≤◌, max, Bool, true, false, not}
use Rattle.std.proofs.Common.{◌&&◌, nat_lt, negsuc, List, [], ◌∷◌, ◌++◌, length, map, Option, Some, None, IfSome}
use Rattle.std.proofs.Common.{Result, Ok, Err, refl, sym, ap, ◌∙◌, subst, arith, if◌then◌else◌}
use Rattle.std.specs.List.{AllByRecursion}
use Rattle.pat_tree.specs.Nested.{Nested, Row, Test, Other, empty, one, line_break, seq, group, repeat, one_repeat}
use Rattle.pat_tree.specs.Nested.{atomic, look, condition, call, ref, anchor, keep_out, verb, callout, none, more}
use Rattle.pat_tree.specs.Nested.{never, no_other, other, row, test_of}
use Rattle.std.specs.Str.{is_utf8}
use Rattle.std.specs.Str.Lossy.{utf8_valid_len}
use Rattle.pat_tree.specs.declared.options.Options.{Options}
use Rattle.token_parts.specs.declared.fault.Fault.{Fault}
use Rattle.token_parts.specs.declared.token.QuantMode.{QuantMode}
use Rattle.token_parts.specs.declared.token.QuantMode.TheVariants.{Greedy, Lazy, Possessive}
use Rattle.token_parts.specs.declared.token.Token.{Token}
use Rattle.token_parts.specs.declared.token.Token.TheVariants as token
use Rattle.token_parts.specs.Tell.{fault, ◌>>=◌}
use Rattle.pat_grammar.specs.State.{State, Known, Reference, Reads, next, passed_over}
use Rattle.pat_grammar.specs.Callouts.{automatic, automatic_by, callout_of, is_due, next_item, called_after, led}
use Rattle.pat_grammar.specs.Groups.{Form, grouped, atomically, looks, conditional, defines, asserted, asserting}
use Rattle.pat_grammar.specs.Groups.{Opening, barred, restarted, groups_after, missing, branched, tested_by, built}
use Rattle.pat_grammar.specs.Groups.{noted}
use Rattle.pat_grammar.specs.Parts.{Beginning, atom, bare, inside, asserts, nothing, over, alternative, repeat_of}
use Rattle.pat_grammar.specs.Parts.{once_more, is_lazy, held, repeated, beginning}
use Rattle.pat_grammar.specs.declared.callouts.NextItem.{NextItem}
use Rattle.pat_grammar.specs.Options.{with_item}
use Rattle.pat_grammar.specs.Reading.{Parsed, characters, width, before_item, spelt, spelling, literal_parts}
use Rattle.pat_grammar.specs.Reading.{literally, checked, read_from, in_utf8, read_with, read, begins_limit}
use Rattle.pat_grammar.specs.Reading.{started_by, started, start, quantified, closed, part_then, parts_from}
use Rattle.pat_grammar.specs.Reading.{alternatives_from, sequence_at, sequence, alternatives, whole, reading}
use Rattle.pat_grammar.specs.Laws.{IsBounded}
use Rattle.pat_grammar.specs.Nesting.{nesting, nesting_of_row, nesting_of_test, nesting_of_other}
use Rattle.pat_grammar.proofs.Likes.{bind_ok, if_ok, ok_is, no_fault, Like, like_self, like_on, next_read}
use Rattle.pat_grammar.proofs.Bounds.{IsFlat, flat_callout, all_push, Stands, stands_like, Goes, Inside, Asserts}
use Rattle.pat_grammar.proofs.Bounds.{Begins, begins}

-- how deep the parts may be nested where so many parentheses are open: each parenthesis may be one of a group that
-- nests and has a quantifier that does
abbrev pub bound : ℕ → ℕ
bound depth = 2 * (250 - depth) + 1

abbrev pub AreNested : ℕ → List Nested → Type 0
AreNested most = AllByRecursion (λ t. nesting t ≤ most)

-- What is made of parts.

row_nested : (most : ℕ) (ts : List Nested) → AreNested most ts → nesting_of_row (row ts) ≤ most
unfolding nesting nesting_of_row nesting_of_test nesting_of_other
row_nested most [] h = omega arith
row_nested most (t ∷ ts) h = let later = row_nested most ts h.1 in let first = h.0 in grind arith

alternative_nested : (most : ℕ) (ts : List Nested) → AreNested most ts → nesting (alternative ts) ≤ most
unfolding nesting nesting_of_row nesting_of_test nesting_of_other
alternative_nested most [] h = omega arith
alternative_nested most (t ∷ []) h = h.0
alternative_nested most (t ∷ u ∷ ts) h = row_nested most (t ∷ u ∷ ts) h

repeat_nested : (low : ℕ) (high : Option ℕ) (lazy : Bool) (t : Nested) → nesting (repeat_of low high lazy t) ≡ nesting t
unfolding nesting nesting_of_row nesting_of_test nesting_of_other
repeat_nested low high lazy (one item) = refl
repeat_nested low high lazy (look ahead positive once ts) = refl
repeat_nested low high lazy _ = refl

held_nested : (mode : QuantMode) (t : Nested) → nesting (held mode t) ≤ nesting t + 1
unfolding nesting nesting_of_row nesting_of_test nesting_of_other
held_nested Greedy t = omega arith
held_nested Lazy t = omega arith
held_nested Possessive t = grind arith

repeated_nested : (low : ℕ) (high : Option ℕ) (mode : QuantMode) (ungreedy : Bool) (t : Nested)
    → nesting (repeated low high mode ungreedy t) ≤ nesting t + 1
repeated_nested low high mode ungreedy t =
    subst (λ k. nesting (repeated low high mode ungreedy t) ≤ k + 1) (repeat_nested low high (is_lazy mode ungreedy) t)
    (held_nested mode (repeat_of low high (is_lazy mode ungreedy) t))

test_nested : (t : Nested) → nesting_of_test (test_of t) ≤ nesting t
unfolding nesting nesting_of_row nesting_of_test nesting_of_other
test_nested (look ahead positive once branches) = omega arith
test_nested (seq (more (callout c) (more (look ahead positive once branches) none))) = grind arith
test_nested _ = omega arith

branched_nested : (most : ℕ) (test : Test) (ts : List Nested) → nesting_of_test test ≤ most → AreNested most ts
    → nesting (branched test ts) ≤ most
unfolding nesting nesting_of_row nesting_of_test nesting_of_other
branched_nested most test [] h all = grind arith
branched_nested most test (t ∷ []) h all = let first = all.0 in grind arith
branched_nested most test (t ∷ u ∷ ts) h all = let first = all.0 in let second = all.1.0 in grind arith

tested_nested : (most : ℕ) (ts : List Nested) → AreNested most ts → nesting (tested_by ts) ≤ most
unfolding nesting nesting_of_row nesting_of_test nesting_of_other
tested_nested most [] h = branched_nested most never [] (omega arith) h
tested_nested most (t ∷ ts) h = branched_nested most (test_of t) ts
    (let a = test_nested t in let b = h.0 in omega (arith, a, b)) h.1

built_nested : (most : ℕ) (form : Form) (ts : List Nested) → IsFlat form → AreNested most ts
    → nesting (built form ts) ≤ most + 1
unfolding nesting nesting_of_row nesting_of_test nesting_of_other
built_nested most (grouped number) ts flat h = let inner = row_nested most ts h in omega (arith, inner)
built_nested most atomically ts flat h = let inner = row_nested most ts h in omega (arith, inner)
built_nested most (looks ahead positive once) ts flat h = let inner = row_nested most ts h in omega (arith, inner)
built_nested most (conditional test) ts flat h = let inner = branched_nested most test ts (omega (arith, flat)) h in
    omega (arith, inner)
built_nested most defines ts flat h = let inner = branched_nested most never ts (omega arith) h in omega (arith, inner)
built_nested most (asserted ahead positive) ts flat h = let inner = row_nested most ts h in omega (arith, inner)
built_nested most asserting ts flat h = let inner = tested_nested most ts h in omega (arith, inner)

asserting_nested : (most : ℕ) (form : Form) (ts : List Nested) → form ≡ asserting → AreNested most ts
    → nesting (built form ts) ≤ most
asserting_nested most form ts is h = subst (λ f. nesting (built f ts) ≤ most) (sym is) (tested_nested most ts h)

nested_flat : (most : ℕ) (ts : List Nested) → AllByRecursion (λ t. nesting t ≡ 0) ts → AreNested most ts
nested_flat most [] all = tt
nested_flat most (t ∷ ts) all = (let first = all.0 in omega (arith, first), nested_flat most ts all.1)

nested_push : (most : ℕ) (ts : List Nested) (t : Nested) → AreNested most ts → nesting t ≤ most
    → AreNested most (ts ++ t ∷ [])
nested_push most ts t all h = all_push (λ t. nesting t ≤ most) ts t all h

all_append : {A : Type 0} (P : A → Type 0) (xs ys : List A) → AllByRecursion P xs → AllByRecursion P ys
    → AllByRecursion P (xs ++ ys)
all_append P [] ys h k = k
all_append P (x ∷ xs) ys h k = (h.0, all_append P xs ys h.1 k)

module _ (text : List ℕ) where
  noted_stands : (form : Form) (at : ℕ) → at ≤ length text
      → AllByRecursion (λ (r : Reference). r.at ≤ length text) (noted form at)
  noted_stands (grouped number) at h = tt
  noted_stands atomically at h = tt
  noted_stands (looks ahead positive once) at h = (h, tt)
  noted_stands (conditional test) at h = (h, tt)
  noted_stands defines at h = (h, tt)
  noted_stands (asserted ahead positive) at h = (h, tt)
  noted_stands asserting at h = (h, tt)

  -- A quantifier.

  abbrev quantified_by : ℕ → Nested → State → State → Token → Reads Nested
  quantified_by n t st after (token.Quantifier low high mode) = Ok (repeated low high mode st.options.ungreedy t, after)
  quantified_by n t st after found = elim (passed_over found after)
      [ Some beyond ↦ quantified text n t beyond | None ↦ Ok (t, st) ]

  -- the part has been put under its quantifier
  record Put (t : Nested) (st : State) (found : Nested × State) : Type 0 where
    like : Like st found.1
    nested : nesting found.0 ≤ nesting t + 1

  put_by : (n : ℕ) (t : Nested) (st : State) (read : Token) (after : State) (found : Nested × State) → Like st after
      → ((st' : State) (found' : Nested × State) → quantified text n t st' ≡ Ok found' → Put t st' found')
      → quantified_by n t st after read ≡ Ok found → Put t st found
  put_by n t st (token.Quantifier low high mode) after found p again h =
      subst (Put t st) (ok_is h) (record { like = p; nested = repeated_nested low high mode st.options.ungreedy t })
  put_by n t st token.Passed after found p again h =
      let later = again after found h in record { like = like_on p later.like; nested = later.nested }
  put_by n t st token.QuoteOn after found p again h =
      let later = again (record after { quoting = true }) found h in
      record {
        like = record {
          depth = later.like.depth ∙ p.depth;
          references = later.like.references ∙ p.references;
          beyond = later.like.beyond ∙ p.beyond;
        };
        nested = later.nested;
      }
  put_by n t st token.QuoteOff after found p again h =
      let later = again (record after { quoting = false }) found h in
      record {
        like = record {
          depth = later.like.depth ∙ p.depth;
          references = later.like.references ∙ p.references;
          beyond = later.like.beyond ∙ p.beyond;
        };
        nested = later.nested;
      }
  put_by n t st _ after found p again h = subst (Put t st) (ok_is h)
      (record { like = like_self st; nested = omega arith })

  put_is : (n : ℕ) (t : Nested) (st : State) (found : Nested × State) → quantified text n t st ≡ Ok found
      → Put t st found
  unfolding quantified
  put_is zero t st found h = absurd (no_fault h)
  put_is (suc n) t st found h =
      let (read, is, goes) = bind_ok (next text false st) (λ (t', after). quantified_by n t st after t') found h in
      put_by n t st read.0 read.1 found (next_read text false st read is).like (put_is n t) goes

  -- The end of a group.

  record Closed (how : Opening) (branches : List Nested) (st : State) (found : Nested × State) : Type 0 where
    tree : found.0 ≡ built how.form branches
    depth : found.1.depth ≡ st.depth - 1
    stands : Stands text found.1

  abbrev closing : Opening → List Nested → State → State → Token → Reads Nested
  closing how branches st after token.Close = Ok (
    built how.form branches,
    record after {
      options = how.around;
      looking = how.looking;
      bars = how.bars;
      numbering = how.numbering;
      groups = groups_after st.numbering st.groups;
      depth = st.depth - 1;
      references = st.references ++ noted how.form how.at;
    },
  )
  closing how branches st after _ = fault 114 (length text)

  closing_is : (how : Opening) (branches : List Nested) (st : State) (read : Token) (after : State)
      (found : Nested × State) → closing how branches st after read ≡ Ok found
      → Like st after → Stands text st → how.at ≤ length text → Closed how branches st found
  closing_is how branches st token.Close after found h p s at =
      subst (Closed how branches st) (ok_is h) (record {
        tree = refl;
        depth = refl;
        stands = record {
          references = all_append (λ (r : Reference). r.at ≤ length text) st.references (noted how.form how.at)
              s.references (noted_stands how.form how.at at);
          beyond = (stands_like text p s).beyond;
        };
      })
  closing_is how branches st _ after found h p s at = absurd (no_fault h)

  closed_is : (how : Opening) (branches : List Nested) (st : State) (found : Nested × State)
      → closed text how branches st ≡ Ok found
      → Stands text st → how.at ≤ length text → Closed how branches st found
  unfolding closed
  closed_is how branches st found h s at =
      let (read, is, goes) = bind_ok (next text false st) (λ (t, after). closing how branches st after t) found h in
      closing_is how branches st read.0 read.1 found goes (next_read text false st read is).like s at

  -- Parts.

  -- one part, and a list of them
  pub record Went (st : State) (found : Nested × State) : Type 0 where
    pub goes : Goes text st found.1
    pub nested : nesting found.0 ≤ bound st.depth

  pub record WentOn (st : State) (found : List Nested × State) : Type 0 where
    pub goes : Goes text st found.1
    pub nested : AreNested (bound st.depth) found.0

  abbrev pub Reading : (State → Reads (List Nested)) → Type 0
  Reading f = (st : State) (found : List Nested × State) → f st ≡ Ok found → st.depth ≤ 250 → Stands text st
      → WentOn st found

  goes_on : {a b c : State} → Goes text a b → Goes text b c → Goes text a c
  goes_on p q = record { depth = q.depth ∙ p.depth; stands = q.stands }

  module _ (rest : State → Reads (List Nested)) (later : Reading rest) (st : State) (fits : st.depth ≤ 250) where
    then_went : (first : Reads Nested) (found : List Nested × State) → part_then text rest first ≡ Ok found
        → ((f : Nested × State) → first ≡ Ok f → Went st f) → WentOn st found
    unfolding part_then
    then_went first found h each =
        let (f, is, goes) = bind_ok first (λ (part, st). rest st >>= λ (parts, end). let r : Reads (List Nested) = Ok
        (part ∷ parts, end) in r) found h in
        let (others, after, same) = bind_ok (rest f.1)
        (λ (parts, end). let r : Reads (List Nested) = Ok (f.0 ∷ parts, end) in r) found goes in
        let this = each f is in
        let further = later f.1 others after (omega (arith, this.goes.depth, fits)) this.goes.stands in
        subst (WentOn st) (ok_is same) (record {
          goes = goes_on this.goes further.goes;
          nested = (this.nested, subst (λ d. AreNested (bound d) others.0) this.goes.depth further.nested);
        })

    -- an atom under its quantifier
    put_went : (n : ℕ) (t : Nested) (from : State) (f : Nested × State) → quantified text n t from ≡ Ok f
        → Goes text st from → nesting t + 1 ≤ bound st.depth → Went st f
    put_went n t from f h p small =
        let put = put_is n t from f h in
        record {
          goes = record { depth = put.like.depth ∙ p.depth; stands = stands_like text put.like p.stands };
          nested = let a = put.nested in omega (arith, a, small);
        }

  module _ (n : ℕ) (inner rest : State → Reads (List Nested)) (within : Reading inner) (later : Reading rest)
      (st : State) (fits : st.depth ≤ 250) where
    abbrev grouping : Opening → State → Reads Nested
    grouping how start = inner start >>= λ (branches, end). closed text how branches end >>= λ (whole, after).
        quantified text n whole after

    group_went : (how : Opening) (start : State) (f : Nested × State) → grouping how start ≡ Ok f
        → Inside text st how start → Went st f
    group_went how start f h is =
        let (b, read, goes) = bind_ok (inner start)
        (λ (branches, end). closed text how branches end >>= λ (whole, after). quantified text n whole after) f h
        in
        let (c, shut, put) = bind_ok (closed text how b.0 b.1) (λ (whole, after). quantified text n whole after) f
        goes in
        let branches = within start b read (omega (arith, is.depth, is.shallow)) is.stands in
        let ended = closed_is how b.0 b.1 c shut branches.goes.stands is.at in
        let made : nesting (built how.form b.0) ≤ bound start.depth + 1 =
        built_nested (bound start.depth) how.form b.0 is.flat branches.nested in
        put_went rest later st fits n c.0 c.1 f put
        (record { depth = omega (arith, ended.depth, branches.goes.depth, is.depth); stands = ended.stands })
        (subst (λ t. nesting t + 1 ≤ bound st.depth) (sym ended.tree) (omega (arith, made, is.depth, is.shallow)))

    abbrev asking : Opening → List Nested → Opening → State → Reads Nested
    asking how lead test start =
        inner start >>= λ (branches, end). closed text test branches end >>= λ (found, after). inner after >>=
        λ (others, last).
        closed text how (alternative (lead ++ found ∷ []) ∷ others) last >>= λ (whole, beyond). quantified text n
        whole beyond

    asked_went : (how : Opening) (lead : List Nested) (test : Opening) (start : State) (f : Nested × State)
        → asking how lead test start ≡ Ok f → Asserts text st how lead test start → Went st f
    asked_went how lead test start f h is =
        let (b, read, goes) = bind_ok (inner start)
        (λ (branches, end). closed text test branches end >>= λ (found, after). inner after >>= λ (others, last).
        closed text how (alternative (lead ++ found ∷ []) ∷ others) last >>= λ (whole, beyond). quantified text n
        whole beyond) f h in
        let (t, shut, on) = bind_ok (closed text test b.0 b.1) (λ (found, after). inner after >>= λ (others, last).
        closed text how (alternative (lead ++ found ∷ []) ∷ others) last >>= λ (whole, beyond). quantified text n
        whole beyond) f goes in
        let (o, reads, end) = bind_ok (inner t.1) (λ (others, last).
        closed text how (alternative (lead ++ t.0 ∷ []) ∷ others) last >>= λ (whole, beyond). quantified text n whole
        beyond) f on in
        let branches : List Nested = alternative (lead ++ t.0 ∷ []) ∷ o.0 in
        let (c, shuts, put) = bind_ok (closed text how branches o.1)
        (λ (whole, beyond). quantified text n whole beyond) f end in
        let looked = within start b read (omega (arith, is.depth, is.shallow)) is.stands in
        let found = closed_is test b.0 b.1 t shut looked.goes.stands is.test_at in
        let outer : t.1.depth ≡ st.depth + 1 = omega (arith, found.depth, looked.goes.depth, is.depth) in
        let others = within t.1 o reads (omega (arith, outer, is.shallow)) found.stands in
        let ended = closed_is how branches o.1 c shuts others.goes.stands is.at in
        let most : ℕ = bound t.1.depth in
        let ahead : nesting (built test.form b.0) ≤ bound start.depth + 1 =
        built_nested (bound start.depth) test.form b.0 is.flat looked.nested in
        let small : nesting t.0 ≤ most = subst (λ t. nesting t ≤ most) (sym found.tree)
        (omega (arith, ahead, is.depth, outer, is.shallow)) in
        let first : nesting (alternative (lead ++ t.0 ∷ [])) ≤ most =
        alternative_nested most (lead ++ t.0 ∷ [])
        (nested_push most lead t.0 (nested_flat most lead is.lead) small) in
        let all : AreNested most branches = (first, others.nested) in
        let made : nesting (built how.form branches) ≤ most = asserting_nested most how.form branches is.form all in
        put_went rest later st fits n c.0 c.1 f put
        (record { depth = omega (arith, ended.depth, others.goes.depth, outer); stands = ended.stands })
        (subst (λ t. nesting t + 1 ≤ bound st.depth) (sym ended.tree) (omega (arith, made, outer, is.shallow)))

    parts_went : (what : Beginning) (found : List Nested × State) → parts_from text n inner rest st what ≡ Ok found
        → Begins text st what → Stands text st → WentOn st found
    parts_went (atom t after) found h is s =
        then_went rest later st fits (quantified text n t after) found h
        (λ f put. put_went rest later st fits n t after f put is.1 (omega (arith, is.0)))
    parts_went (bare t after) found h is s =
        then_went rest later st fits (Ok (t, after)) found h
        (λ f put. subst (Went st) (ok_is put) (record {
          goes = is.1;
          nested = let flat = is.0 in omega (arith, flat);
        }))
    parts_went (inside how start) found h is s = then_went rest later st fits (grouping how start) found h
        (λ f put. group_went how start f put is)
    parts_went (asserts how lead test start) found h is s =
        then_went rest later st fits (asking how lead test start) found h
        (λ f put. asked_went how lead test start f put is)
    parts_went (nothing after) found h is s =
        let further = later after found h (omega (arith, is.depth, fits)) is.stands in
        record {
          goes = goes_on is further.goes;
          nested = subst (λ d. AreNested (bound d) found.0) is.depth further.nested;
        }
    parts_went over found h is s = subst (WentOn st) (ok_is h) (record {
      goes = record { depth = refl; stands = s };
      nested = tt;
    })

  -- Alternatives.

  module _ (again : State → Reads (List Nested)) (later : Reading again) (parts : List Nested) (st : State)
      (fits : st.depth ≤ 250) (s : Stands text st) (nested : AreNested (bound st.depth) parts) where
    abbrev after_parts : State → Token → Reads (List Nested)
    after_parts after token.Bar = barred st.bars st.at >>= λ bars. again (restarted st bars after) >>=
        λ (others, end). Ok (alternative parts ∷ others, end)
    after_parts after _ = Ok (alternative parts ∷ [], st)

    alone : (found : List Nested × State) → (let r : Reads (List Nested) = Ok (alternative parts ∷ [], st) in r) ≡ Ok
        found → WentOn st found
    alone found h =
        subst (WentOn st) (ok_is h)
        (record {
          goes = record { depth = refl; stands = s };
          nested = (alternative_nested (bound st.depth) parts nested, tt);
        })

    after_went : (read : Token) (after : State) (found : List Nested × State) → after_parts after read ≡ Ok found
        → Like st after → WentOn st found
    after_went token.Bar after found h p =
        let (bars, is, goes) = bind_ok (barred st.bars st.at)
        (λ bars. again (restarted st bars after) >>= λ (others, end). let r : Reads (List Nested) =
        Ok (alternative parts ∷ others, end) in r) found h in
        let begun : State = restarted st bars after in
        let (others, reads, same) = bind_ok (again begun)
        (λ (others, end). let r : Reads (List Nested) = Ok (alternative parts ∷ others, end) in r) found goes in
        let to : Stands text after = stands_like text p s in
        let further = later begun others reads (omega (arith, p.depth, fits))
        (record { references = to.references; beyond = to.beyond }) in
        subst (WentOn st) (ok_is same) (record {
          goes = record { depth = further.goes.depth ∙ p.depth; stands = further.goes.stands };
          nested = (
            alternative_nested (bound st.depth) parts nested,
            subst (λ d. AreNested (bound d) others.0) p.depth further.nested,
          );
        })
    after_went _ after found h p = alone found h

    pub alternatives_went : (found : List Nested × State) → alternatives_from text again parts st ≡ Ok found
        → WentOn st found
    unfolding alternatives_from
    alternatives_went found h =
        let (read, is, goes) = bind_ok (next text false st) (λ (t, after). after_parts after t) found h in
        after_went read.0 read.1 found goes (next_read text false st read is).like

  -- A sequence, before which an automatic callout may stand.

  flat_automatic : (calling : Bool) (st : State) → IfSome (automatic calling text st) (λ t. nesting t ≡ 0)
  unfolding automatic
  flat_automatic calling st = by_next (next text false st)
    where
      by_next : (r : Reads Token) → IfSome (automatic_by calling text st r) (λ t. nesting t ≡ 0)
      by_next (Ok (found, after)) =
          elim (is_due calling st found)
          as (λ b. IfSome (if b then Some (callout_of 255 0 0 (next_item text st)) else None)
          (λ t. nesting t ≡ 0)) [
            | true ↦ flat_callout 255 0 0 (next_item text st)
            | false ↦ tt
          ]
      by_next (Err f) = tt

  led_went : (o : Option Nested) → IfSome o (λ t. nesting t ≡ 0)
      → (st : State) (r : Reads (List Nested)) (found : List Nested × State) → led o r ≡ Ok found
      → ((f : List Nested × State) → r ≡ Ok f → WentOn st f) → WentOn st found
  led_went None flat st r found h each = each found h
  led_went (Some t) flat st r found h each =
      let (f, is, same) = bind_ok r (λ (others, end). let r : Reads (List Nested) = Ok (t ∷ others, end) in r) found h
      in
      let further = each f is in
      subst (WentOn st) (ok_is same) (record { goes = further.goes; nested = (omega (arith, flat), further.nested) })

  called_like : (o : Option Nested) (st : State) → Like st (called_after o st)
  called_like None st = like_self st
  called_like (Some t) st = record { depth = refl; references = refl; beyond = refl }

module _ (known : Known) (text : List ℕ) where
  at_went : (n : ℕ) (inner rest : State → Reads (List Nested)) → Reading text inner → Reading text rest
      → Reading text (sequence_at known text n inner rest)
  unfolding sequence_at
  at_went n inner rest within later st found h fits s =
      let (read, is, goes) = bind_ok (next text false st)
      (λ (t, after). beginning known text n st t after >>= λ what. parts_from text n inner rest st what) found h
      in
      let (what, begun, parts) = bind_ok (beginning known text n st read.0 read.1)
      (λ what. parts_from text n inner rest st what) found goes in
      let here = next_read text false st read is in
      parts_went text n inner rest within later st fits what found parts
      (begins text known n st read.1 here.like s read.0 what begun here.there) s

  both : (n : ℕ) → Reading text (sequence known text n) × Reading text (alternatives known text n)
  unfolding sequence alternatives
  both zero = (λ st found h fits s. absurd (no_fault h), λ st found h fits s. absurd (no_fault h))
  both (suc n) =
      let less = both n in (
        λ st found h fits s.
            let o : Option Nested = automatic known.calling text st in
            let from : State = called_after o st in
            let p = called_like text o st in
            led_went text o (flat_automatic text known.calling st) st
            (sequence_at known text n (alternatives known text n) (sequence known text n) from) found h
            (λ f is. let further = at_went n (alternatives known text n) (sequence known text n) less.1 less.0 from f
            is (omega (arith, p.depth, fits)) (stands_like text p s) in
            record {
              goes = record { depth = further.goes.depth ∙ p.depth; stands = further.goes.stands };
              nested = subst (λ d. AreNested (bound d) f.0) p.depth further.nested;
            }),
        λ st found h fits s.
            let (parts, is, goes) = bind_ok (sequence known text n st)
            (λ (parts, end). alternatives_from text (alternatives known text n) parts end) found h in
            let first = less.0 st parts is fits s in
            let further = alternatives_went text (alternatives known text n) less.1 parts.0 parts.1
            (omega (arith, first.goes.depth, fits)) first.goes.stands
            (subst (λ d. AreNested (bound d) parts.0) (sym first.goes.depth) first.nested) found goes in
            record {
              goes = goes_on text first.goes further.goes;
              nested = subst (λ d. AreNested (bound d) found.0) first.goes.depth further.nested;
            },
      )

  abbrev ended : List Nested → State → Token → Reads Nested
  ended branches st token.End = Ok (group None (row branches), st)
  ended branches st _ = fault 122 st.at

  ended_is : (branches : List Nested) (st : State) (read : Token) (after : State) (found : Nested × State)
      → ended branches st read ≡ Ok found
      → (P : Nested × State → Type 0) → P (group None (row branches), st) → P found
  ended_is branches st token.End after found h P p = subst P (ok_is h) p
  ended_is branches st _ after found h P p = absurd (no_fault h)

  -- the whole reading
  pub reading_went : (st : State) (found : Nested × State) → reading known text st ≡ Ok found → st.depth ≡ 0
      → Stands text st → Stands text found.1 × (nesting found.0 ≤ 501)
  unfolding reading whole nesting nesting_of_row nesting_of_test nesting_of_other
  reading_went st found h shallow s =
      let (b, is, goes) = bind_ok (alternatives known text (2 * length text + 2) st)
      (λ (branches, end). whole text branches end) found h in
      let went = (both (2 * length text + 2)).1 st b is (omega (arith, shallow)) s in
      let (read, reads, same) = bind_ok (next text false b.1) (λ (t, after). ended b.0 b.1 t) found goes in
      ended_is b.0 b.1 read.0 read.1 found same (λ f. Stands text f.1 × (nesting f.0 ≤ 501))
      (went.goes.stands, let small = row_nested (bound st.depth) b.0 went.nested in omega (arith, small, shallow))

-- What a text is read as.

module _ (text : List ℕ) where
  started_by_like : (n : ℕ) (st : State) (r : Reads Token) (after : State)
      → started_by text st (started text n) r ≡ Ok after
      → ((found : Token) (to : State) → r ≡ Ok (found, to) → Like st to)
      → ((st' after' : State) → started text n st' ≡ Ok after' → Like st' after') → Like st after
  started_by_like n st (Ok (token.Start item, to)) after h each again =
      let p = each (token.Start item) to refl in
      let q = again (record to { options = with_item item st.options }) after h in
      record { depth = q.depth ∙ p.depth; references = q.references ∙ p.references; beyond = q.beyond ∙ p.beyond }
  started_by_like n st (Ok (found, to)) after h each again = subst (Like st) (ok_is h) (like_self st)
  started_by_like n st (Err f) after h each again =
      elim (if_ok (begins_limit text st.at) (Err f) (Ok st) after h) [
        | inl x ↦ absurd cc
        | inr x ↦ subst (Like st) (ok_is x.1) (like_self st)
      ]

  started_like : (n : ℕ) (st after : State) → started text n st ≡ Ok after → Like st after
  unfolding started
  started_like zero st after h = absurd (no_fault h)
  started_like (suc n) st after h =
      started_by_like n st (next text false st) after h (λ found to is. (next_read text false st (found, to) is).like)
      (started_like n)

places_stand : (text : List ℕ) (rs : List Reference) → AllByRecursion (λ (r : Reference). r.at ≤ length text) rs
    → AllByRecursion (λ at. at ≤ length text) (map (λ (r : Reference). r.at) rs)
places_stand text [] h = tt
places_stand text (r ∷ rs) h = (h.0, places_stand text rs h.1)

checked_bounded : (text : List ℕ) (options : Options) (beyond bad : Option ℕ) (tree : Nested) (last : State)
    (parsed : Parsed) → checked options beyond bad tree last ≡ Ok parsed
    → Stands text last → nesting tree ≤ 501 → IsBounded text parsed
checked_bounded text options (Some at) bad tree last parsed h s n = absurd (no_fault h)
checked_bounded text options None (Some at) tree last parsed h s n = absurd (no_fault h)
checked_bounded text options None None tree last parsed h s n =
    subst (IsBounded text) (ok_is h) (record { places = places_stand text last.references s.references; nested = n })

from_bounded : (calling : Bool) (text : List ℕ) (st : State) (parsed : Parsed) → read_from calling text st ≡ Ok parsed
    → Stands text st → st.depth ≡ 0 → IsBounded text parsed
unfolding read_from
from_bounded calling text st parsed h s shallow =
    let (first, is, goes) = bind_ok (reading (record { names = []; calling = calling }) text st)
    (λ (tree, named). reading (record { names = named.names; calling = calling }) text st >>= λ (tree, last).
    checked st.options last.beyond (missing last.groups last.references) tree last) parsed h in
    let known : Known = record { names = first.1.names; calling = calling } in
    let (read, reads, same) = bind_ok (reading known text st)
    (λ (tree, last). checked st.options last.beyond (missing last.groups last.references) tree last) parsed goes
    in
    let went = reading_went known text st read reads shallow s in
    checked_bounded text st.options read.1.beyond (missing read.1.groups read.1.references) read.0 read.1 parsed same
    went.0 went.1

spelling_flat : (options : Options) (at : ℕ) (cs : List ℕ)
    → AllByRecursion (λ t. nesting t ≡ 0) (spelling options at cs)
unfolding nesting
spelling_flat options at [] = tt
spelling_flat options at (c ∷ cs) =
    let later = spelling_flat options (at + width options.utf c) cs in
    elim options.auto_callout as (λ b. AllByRecursion (λ t. nesting t ≡ 0)
    ((if b then callout_of 255 0 0 (at, width options.utf c) ∷ [] else []) ++ spelt options c ∷ spelling options
    (at + width options.utf c) cs)) [
      | true ↦ (flat_callout 255 0 0 (at, width options.utf c), (refl, later))
      | false ↦ (refl, later)
    ]

last_flat : (options : Options) (item : NextItem) → AllByRecursion (λ t. nesting t ≡ 0) (before_item options item)
last_flat options item =
    elim options.auto_callout as (λ b. AllByRecursion (λ t. nesting t ≡ 0)
    (if b then callout_of 255 0 0 (item.at, item.len) ∷ [] else [])) [
      | true ↦ (flat_callout 255 0 0 (item.at, item.len), tt)
      | false ↦ tt
    ]

literally_bounded : (options : Options) (text : List ℕ) → IsBounded text (literally options text)
unfolding literally nesting nesting_of_row nesting_of_test nesting_of_other
literally_bounded options text =
    let item : NextItem = record { at = length text; len = 0 } in
    let first = spelling_flat options 0 (characters options.utf text) in
    let flat = all_append (λ t. nesting t ≡ 0) (spelling options 0 (characters options.utf text))
    (before_item options item) first (last_flat options item) in
    record {
      places = tt;
      nested = let small = alternative_nested 0 (literal_parts options text)
          (nested_flat 0 (literal_parts options text) flat) in grind arith;
    }

utf_bounded : (utf : Bool) (text : List ℕ) (r : Result Parsed Fault) (parsed : Parsed)
    → in_utf8 utf text r ≡ Ok parsed → r ≡ Ok parsed
utf_bounded utf text r parsed h =
    elim (if_ok (utf && not (is_utf8 text)) (Err (record { number = negsuc 2; at = utf8_valid_len text })) r parsed h) [
      | inl x ↦ absurd cc
      | inr x ↦ x.1
    ]

pub read_bounded : (options : Options) (text : List ℕ) (parsed : Parsed) → read options text ≡ Ok parsed
    → IsBounded text parsed
unfolding read read_with
read_bounded options text parsed h =
    let later : Result Parsed Fault = started text (length text + 1) (start options) >>= λ st. in_utf8 st.options.utf
    text (read_from true text st) in
    let written : Result Parsed Fault = in_utf8 options.utf text (Ok (literally options text)) in
    elim (if_ok (nat_lt 65536 (length text)) (fault 120 0) (if options.literal then written else later) parsed h) [
      | inl x ↦ absurd (no_fault x.1)
      | inr x ↦ elim (if_ok options.literal written later parsed x.1) [
        | inl y ↦ subst (IsBounded text)
            (ok_is (utf_bounded options.utf text (Ok (literally options text)) parsed y.1))
            (literally_bounded options text)
        | inr y ↦
            let (st, begun, goes) = bind_ok (started text (length text + 1) (start options))
            (λ st. in_utf8 st.options.utf text (read_from true text st)) parsed y.1 in
            let like = started_like text (length text + 1) (start options) st begun in
            from_bounded true text st parsed (utf_bounded st.options.utf text (read_from true text st) parsed goes)
            (stands_like text like (record { references = tt; beyond = tt })) like.depth
      ]
    ]
