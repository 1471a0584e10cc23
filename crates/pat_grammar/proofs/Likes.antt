-- Which parts of a state the reading of a token, an item and a class leaves as they are.
use Rattle.std.proofs.Common.{◌≡◌, ◌⊎◌, inl, inr, ℕ, zero, suc, ◌+◌, ◌-◌, ◌*◌, ◌<◌, ◌≤◌, max, Bool, true, false, not}
use Rattle.std.proofs.Common.{◌&&◌, nat_le, nat_lt, List, [], ◌∷◌, ◌++◌, length, Option, Some, None, IfSome, Result}
use Rattle.std.proofs.Common.{Ok, Err, IsTrue, slice_get, slice_range, refl, sym, ap, ◌∙◌, subst, arith}
use Rattle.std.proofs.Common.{if◌then◌else◌}
use Rattle.std.specs.List.{AllByRecursion, list_any}
use Rattle.std.proofs.lemmas.Bool.Decides.{nat_tests}
use Rattle.pat_tree.specs.Nested.{Nested, Row, Test, Other, empty, one, line_break, seq, group, repeat, one_repeat}
use Rattle.pat_tree.specs.Nested.{atomic, look, condition, call, ref, anchor, keep_out, verb, callout, none, more}
use Rattle.pat_tree.specs.Nested.{any_set, in_call, in_call_of, never, assert, called, no_other, other, row, test_of}
use Rattle.pat_tree.specs.declared.names.NameEntry.{NameEntry}
use Rattle.pat_tree.specs.declared.nodes.Part.{Part}
use Rattle.pat_tree.specs.declared.nodes.Part.TheVariants as part
use Rattle.pat_tree.specs.declared.nodes.ClassSpec.{ClassSpec}
use Rattle.uni_text.specs.Properties.{prop_by_name}
use Rattle.std.specs.Str.{byte}
use Rattle.token_parts.specs.declared.fault.Fault.{Fault}
use Rattle.token_parts.specs.declared.token.LexFlags.{LexFlags}
use Rattle.token_parts.specs.declared.token.OpenKind.{OpenKind}
use Rattle.token_parts.specs.declared.token.OpenKind.TheVariants as opening
use Rattle.token_parts.specs.declared.token.CondText.{CondText}
use Rattle.token_parts.specs.declared.token.CondText.TheVariants as tested
use Rattle.token_parts.specs.declared.token.QuantMode.{QuantMode}
use Rattle.token_parts.specs.declared.token.QuantMode.TheVariants.{Greedy, Lazy, Possessive}
use Rattle.token_parts.specs.declared.token.Target.{Target}
use Rattle.token_parts.specs.declared.token.Target.TheVariants.{Number, Plus, Minus, Named}
use Rattle.token_parts.specs.declared.token.Token.{Token}
use Rattle.token_parts.specs.declared.token.Token.TheVariants as token
use Rattle.token_parts.specs.Tell.{Lexed, fault, ◌>>=◌}
use Rattle.pat_lex.specs.Tokens.{token_at, quoted, plain}
use Rattle.pat_lex.specs.Classes.{in_class}
use Rattle.pat_grammar.specs.State.{State, Known, Reference, Reads, Item, flags_of, next, passed_over, item}
use Rattle.pat_grammar.specs.Classes.{character, is_hyphen, is_last, is_last_item, part_then, range_or_hyphen}
use Rattle.pat_grammar.specs.Classes.{from_character, from_set, from_item, property_part, class_parts, class_spec}
use Rattle.pat_grammar.specs.Nesting.{nesting, nesting_of_row, nesting_of_test, nesting_of_other}

-- Results.

module _ {A B : Type 0} where
  pub bind_ok : (r : Result A Fault) (f : A → Result B Fault) (v : B) → (r >>= f) ≡ Ok v
      → (a : A) × (r ≡ Ok a) × (f a ≡ Ok v)
  bind_ok (Ok a) f v h = (a, refl, h)
  bind_ok (Err e) f v h = absurd cc

pub if_ok : {A : Type 0} (b : Bool) (x y : Result A Fault) (v : A) → (if b then x else y) ≡ Ok v
    → ((b ≡ true) × (x ≡ Ok v)) ⊎ ((b ≡ false) × (y ≡ Ok v))
if_ok true x y v h = inl (refl, h)
if_ok false x y v h = inr (refl, h)

pub ok_is : {A : Type 0} {a b : A} → (let x : Result A Fault = Ok a in x) ≡ Ok b → a ≡ b
ok_is h = cc

-- no fault is a value
pub no_fault : {A : Type 0} {n at : ℕ} {v : A} → (let x : Result A Fault = fault n at in x) ≡ Ok v → ⊥
no_fault h = absurd cc

-- The state differs in what is told of no reference and no test.
pub record Like (old new : State) : Type 0 where
  pub depth : new.depth ≡ old.depth
  pub references : new.references ≡ old.references
  pub beyond : new.beyond ≡ old.beyond

pub like_self : (st : State) → Like st st
like_self st = record { depth = refl; references = refl; beyond = refl }

pub like_on : {a b c : State} → Like a b → Like b c → Like a c
like_on p q = record {
  depth = q.depth ∙ p.depth;
  references = q.references ∙ p.references;
  beyond = q.beyond ∙ p.beyond;
}

-- a byte stands at the place of a token other than the end
stands : (text : List ℕ) (i c : ℕ) → slice_get text i ≡ Some c → i < length text
stands [] i c e = absurd cc
stands (x ∷ xs) zero c e = omega arith
stands (x ∷ xs) (suc i) c e = let later = stands xs i c e in omega (arith, later)

module _ (text : List ℕ) where
  abbrev by_byte : ℕ → (ℕ → Lexed) → Option ℕ → Lexed
  by_byte at f None = Ok (token.End, at)
  by_byte at f (Some c) = f c

  module _ (at : ℕ) (found : Token × ℕ) (goes : found.0 ≡ token.End → ⊥) where
    byte_there : (o : Option ℕ) (f : ℕ → Lexed) → slice_get text at ≡ o → by_byte at f o ≡ Ok found → at < length text
    byte_there None f is h = absurd (goes (sym (ap (λ (x : Token × ℕ). x.0) (ok_is h))))
    byte_there (Some c) f is h = stands text at c is

    token_there : (flags : LexFlags) → token_at text flags at ≡ Ok found → at < length text
    unfolding token_at
    token_there flags h =
        byte_there (slice_get text at)
        (λ c. if flags.quoting then quoted text flags.utf c at else if flags.in_class then in_class text flags c at
        else plain text flags c at)
        refl h

  -- what is known of a token, from the state before it to the state after it
  pub record Read (st : State) (found : Token) (after : State) : Type 0 where
    pub like : Like st after
    pub there : (found ≡ token.End → ⊥) → st.at < length text

  pub next_read : (c : Bool) (st : State) (found : Token × State) → next text c st ≡ Ok found → Read st found.0 found.1
  unfolding next
  next_read c st found h =
      let (place, lexed, is) = bind_ok (token_at text (flags_of c st) st.at)
      (λ (t, after). let r : Reads Token = Ok (t, record st { at = after }) in r) found h in
      subst (λ (f : Token × State). Read st f.0 f.1) (ok_is is)
      (record {
        like = record { depth = refl; references = refl; beyond = refl };
        there = λ goes. token_there st.at place goes (flags_of c st) lexed;
      })

  -- and of one that isn't passed over
  pub record ReadItem (st : State) (found : Item) : Type 0 where
    pub before : Like st found.1
    pub after : Like st found.2
    pub there : (found.0 ≡ token.End → ⊥) → found.1.at < length text

  some_is : {A : Type 0} {a b : A} → Some a ≡ Some b → a ≡ b
  some_is h = cc

  over_like : (found : Token) (after beyond : State) → passed_over found after ≡ Some beyond → Like after beyond
  over_like token.Passed after beyond h = subst (Like after) (some_is h) (like_self after)
  over_like token.QuoteOn after beyond h = subst (Like after) (some_is h)
      (record { depth = refl; references = refl; beyond = refl })
  over_like token.QuoteOff after beyond h = subst (Like after) (some_is h)
      (record { depth = refl; references = refl; beyond = refl })
  over_like _ after beyond h = absurd cc

  module _ (c : Bool) where
    abbrev settled : ℕ → State → Token → State → Option State → Result Item Fault
    settled n st found after (Some beyond) = item text c n beyond
    settled n st found after None = Ok (found, st, after)

    item_by : (n : ℕ) (st : State) (read : Token × State) (found : Item) → Read st read.0 read.1
        → ((st' : State) (found' : Item) → item text c n st' ≡ Ok found' → ReadItem st' found')
        → (o : Option State) → passed_over read.0 read.1 ≡ o → settled n st read.0 read.1 o ≡ Ok found
        → ReadItem st found
    item_by n st read found known again (Some beyond) over h =
        let later = again beyond found h in
        let to = like_on known.like (over_like read.0 read.1 beyond over) in
        record { before = like_on to later.before; after = like_on to later.after; there = later.there }
    item_by n st read found known again None over h =
        subst (ReadItem st) (ok_is h) (record { before = like_self st; after = known.like; there = known.there })

    pub item_read : (n : ℕ) (st : State) (found : Item) → item text c n st ≡ Ok found → ReadItem st found
    unfolding item
    item_read zero st found h = absurd (no_fault h)
    item_read (suc n) st found h =
        let (read, is, goes) = bind_ok (next text c st) (λ (t, after). settled n st t after (passed_over t after))
        found h in
        item_by n st read found (next_read c st read is) (item_read n) (passed_over read.0 read.1) refl goes

  -- Classes.

  module _ (n : ℕ) (rest : State → Reads (List Part))
      (again : (st : State) (found : List Part × State) → rest st ≡ Ok found → Like st found.1) where
    part_like : (p : Part) (st : State) (found : List Part × State) → part_then p (rest st) ≡ Ok found → Like st found.1
    part_like p st found h =
        let (others, is, same) = bind_ok (rest st) (λ (parts, end). let r : Reads (List Part) = Ok (p ∷ parts, end) in
        r) found h in
        subst (λ (f : List Part × State). Like st f.1) (ok_is same) (again st others is)

    abbrev ranged : ℕ → State → State → State → Bool → Option ℕ → Reads (List Part)
    ranged c here before end last (Some d) = if nat_lt d c then fault 108 here.at else part_then (part.Range c d)
        (rest end)
    ranged c here before end last None = if last then part_then (part.Range c c) (rest before) else fault 150 before.at

    range_by : (c : ℕ) (here before end : State) (last : Bool) (o : Option ℕ) (found : List Part × State)
        → ranged c here before end last o ≡ Ok found
        → (from : State) → Like from before → Like from end → Like from found.1
    range_by c here before end last (Some d) found h from p q =
        elim (if_ok (nat_lt d c) (fault 108 here.at) (part_then (part.Range c d) (rest end)) found h) [
          | inl x ↦ absurd (no_fault x.1)
          | inr x ↦ like_on q (part_like (part.Range c d) end found x.1)
        ]
    range_by c here before end last None found h from p q =
        elim (if_ok last (part_then (part.Range c c) (rest before)) (fault 150 before.at) found h) [
          | inl x ↦ like_on p (part_like (part.Range c c) before found x.1)
          | inr x ↦ absurd (no_fault x.1)
        ]

    range_like : (c : ℕ) (here before after : State) (found : List Part × State)
        → range_or_hyphen text n rest c here before after ≡ Ok found
        → (from : State) → Like from before → Like from after → Like from found.1
    unfolding range_or_hyphen
    range_like c here before after found h from p q =
        let (i, is, goes) = bind_ok (item text true n after)
        (λ (t, to, end). ranged c here before end (is_last t) (character t)) found h in
        range_by c here before i.2 (is_last i.0) (character i.0) found goes from p
        (like_on q (item_read true n after i is).after)

    char_like : (c : ℕ) (here after : State) (found : List Part × State)
        → from_character text n rest c here after ≡ Ok found → Like after found.1
    unfolding from_character
    char_like c here after found h =
        let (i, is, goes) = bind_ok (item text true n after)
        (λ (hyphen, before, beyond). if is_hyphen hyphen then range_or_hyphen text n rest c here before beyond else
        part_then (part.Range c c) (rest after)) found h in
        let read = item_read true n after i is in
        elim (if_ok (is_hyphen i.0) (range_or_hyphen text n rest c here i.1 i.2)
        (part_then (part.Range c c) (rest after)) found goes) [
          | inl x ↦ range_like c here i.1 i.2 found x.1 after read.before read.after
          | inr x ↦ part_like (part.Range c c) after found x.1
        ]

    set_like : (set : Part) (after : State) (found : List Part × State) → from_set text n rest set after ≡ Ok found
        → Like after found.1
    unfolding from_set
    set_like set after found h =
        let (i, is, goes) = bind_ok (item text true n after)
        (λ (hyphen, before, beyond). if is_hyphen hyphen && not (is_last_item (item text true n beyond)) then fault
        150 before.at else part_then set (rest after)) found h in
        elim (if_ok (is_hyphen i.0 && not (is_last_item (item text true n i.2))) (fault 150 i.1.at)
        (part_then set (rest after)) found goes) [
          | inl x ↦ absurd (no_fault x.1)
          | inr x ↦ part_like set after found x.1
        ]

    from_like : (first : Bool) (t : Token) (here after : State) (found : List Part × State)
        → from_item text n rest first t here after ≡ Ok found → Like after found.1
    from_like first token.ClassEnd here after found h =
        elim (if_ok (first && not here.options.allow_empty_class) (from_character text n rest (byte "]") here after)
        (Ok ([], after)) found h) [
          | inl x ↦ char_like (byte "]") here after found x.1
          | inr x ↦ subst (λ (f : List Part × State). Like after f.1) (ok_is x.1) (like_self after)
        ]
    from_like first token.Hyphen here after found h = char_like (byte "-") here after found h
    from_like first (token.Literal c) here after found h = char_like c here after found h
    from_like first (token.Set set outside) here after found h =
        set_like (part.Set set outside here.options.ucp) after found h
    from_like first (token.Property from to outside) here after found h =
        let (p, is, goes) = bind_ok (property_part (slice_range text from to) outside here.options.ucp here.at)
        (λ p. from_set text n rest p after) found h in
        set_like p after found goes
    from_like first _ here after found h = absurd (no_fault h)

  parts_like : (n : ℕ) (first : Bool) (st : State) (found : List Part × State)
      → class_parts text n first st ≡ Ok found → Like st found.1
  unfolding class_parts
  parts_like zero first st found h = absurd (no_fault h)
  parts_like (suc n) first st found h =
      let (i, is, goes) = bind_ok (item text true n st)
      (λ (t, here, after). from_item text n (class_parts text n false) first t here after) found h in
      like_on (item_read true n st i is).after
      (from_like n (class_parts text n false) (parts_like n false) first i.0 i.1 i.2 found goes)

  pub class_like : (n : ℕ) (negated : Bool) (st : State) (found : ClassSpec × State)
      → class_spec text n negated st ≡ Ok found → Like st found.1
  unfolding class_spec
  class_like n negated st found h =
      let (read, is, same) = bind_ok (class_parts text n true st)
      (λ (parts, end). let r : Reads ClassSpec =
      Ok (record { negated = negated; caseless = st.options.caseless; parts = parts }, end) in r) found h in
      subst (λ (f : ClassSpec × State). Like st f.1) (ok_is same) (parts_like n true st read is)
