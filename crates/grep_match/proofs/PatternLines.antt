-- The lines of a text under `-F`, one at a time.
use Rattle.std.proofs.Common.{◌≡◌, ℕ, ◌+◌, ◌<◌, ◌≤◌, true, false, Bool, if◌then◌else◌, List, [], ◌∷◌, ◌++◌, length}
use Rattle.std.proofs.Common.{map, flat_map, take, drop, get_or, ◌-◌, Result, Ok, Err, inl, refl, sym, ap, subst}
use Rattle.std.proofs.Common.{◌∙◌, ⊎_elim, arith, append-nil, append_assoc, length-drop}
use Rattle.std.proofs.lemmas.Bool.{cases_lt}
use Rattle.std.proofs.lemmas.List.{map-append, take_all, drop_all, take_more, take-append-drop}
use Rattle.std.proofs.lemmas.List.Concat.{flat_map-append}
use Rattle.byte_lanes.specs.declared.line_end.EndKind.{EndKind}
use Rattle.byte_lanes.specs.Newlines.{newline_len}
use Rattle.pat_tree.specs.declared.options.Options.{Options}
use Rattle.line_feed.specs.Rows.{Row, Rows, End, first_newline, has_no_row, rows, rows_from, input_with}
use Rattle.byte_lanes.proofs.lemmas.NewlineLemmas.{rest_whole}
use Rattle.line_feed.proofs.Newlines.{newline-within}
use Rattle.line_feed.proofs.RowLemmas.{first-least, no_row-true, no_row-false, rows-rest, rows-row, rows-empty}
use Rattle.line_feed.proofs.RowLemmas.{last-end}
use Rattle.grep_args.specs.declared.plan.GrepPlan.{GrepPlan}
use Rattle.pat_tree.specs.Pattern.{Pattern}
use Rattle.grep_match.specs.declared.patterns.PatternError.{PatternError}
use Rattle.grep_match.specs.PatternTexts.{escaped, wrapped, lines_of, or_empty_line, fixed_strings, pattern_texts}
use Rattle.grep_match.specs.PatternTexts.{line_end}
use Rattle.grep_match.specs.Compiled.{Adds}
use Rattle.grep_match.proofs.PatternTrees.{adds-none, adds-then, adds-first}

abbrev pub texts_of : List Row → List (List ℕ)
texts_of rows = map (λ (r : Row). r.bytes) rows

nothing : (rest : List ℕ) → length rest ≡ 0 → rest ≡ []
nothing [] none = refl
nothing (b ∷ rest) none = absurd (omega (arith, none))

line-step : (kind : EndKind) (max n offset : ℕ) (rest : List ℕ) (k : ℕ) → 0 < length rest → length rest ≤ max
    → k ≡ first_newline kind rest
    → texts_of (rows_from kind max n offset rest End).rows
    ≡ take k rest ∷ texts_of (rows_from kind max (n + 1) (offset + (k + newline_len kind rest k))
    (drop (k + newline_len kind rest k) rest) End).rows
line-step kind max n offset rest k some room is =
    let high = (first-least kind rest).high in
    ⊎_elim (λ l.
    let has : has_no_row kind rest End k ≡ false = no_row-false kind rest End k l
    (λ h. (let e : false ≡ true = h in cc)) in
    ap (λ (r : Rows). texts_of r.rows) (rows-row kind max n offset rest End k is has (omega arith)))
    (λ past.
    let whole : k ≡ length rest = omega (arith, high, past, is) in
    let none : has_no_row kind rest End (first_newline kind rest) ≡ true =
    no_row-true kind rest End (first_newline kind rest) (inl (sym is ∙ whole)) in
    let after = k + newline_len kind rest k in
    ap (λ (r : Rows). texts_of r.rows) (rows-rest kind max n offset rest End none
    ∙ last-end kind max n offset rest some room)
    ∙ (let front : rest ≡ take k rest = sym (take_all k rest (omega arith)) in
    let back = ap (λ (r : Rows). texts_of r.rows)
    (rows-empty kind max (n + 1) (offset + after) (drop after rest) (drop_all after rest (omega arith))) in
    ap (λ l. l ∷ []) front ∙ ap (λ l. take k rest ∷ l) (sym back)))
    (cases_lt k (length rest))

some-lines : (found : List Row) (x : List ℕ) (xs : List (List ℕ)) → texts_of found ≡ x ∷ xs
    → or_empty_line found ≡ texts_of found
some-lines [] x xs is = cc
some-lines (r ∷ rs) x xs is = refl

lines-are : (kind : EndKind) (text : List ℕ) → 0 < length text
    → lines_of kind text ≡ texts_of (rows kind (length text) (input_with text End)).rows
lines-are kind text some =
    some-lines _ _ _ (line-step kind (length text) 1 0 text (first_newline kind text) some (omega arith) refl)

-- lines as fixed strings
abbrev pub strings : GrepPlan → List (List ℕ) → List (List ℕ)
strings plan lines = map (wrapped plan) (map (flat_map escaped) lines)

strings-append : (plan : GrepPlan) (xs ys : List (List ℕ))
    → strings plan (xs ++ ys) ≡ strings plan xs ++ strings plan ys
strings-append plan xs ys = ap (map (wrapped plan)) (map-append (flat_map escaped) xs ys)
    ∙ map-append (wrapped plan) (map (flat_map escaped) xs) (map (flat_map escaped) ys)

-- so far these lines of the text were compiled, and these bytes are left
pub record Compiling (options : Options) (plan : GrepPlan) (kind : EndKind) (text rest : List ℕ)
    (old now : List Pattern) : Type 0 where
  pub done : List (List ℕ)
  pub n : ℕ
  pub offset : ℕ
  pub all : texts_of (rows kind (length text) (input_with text End)).rows ≡ done ++ texts_of
      (rows_from kind (length text) n offset rest End).rows
  pub added : Adds {A = Unit {0}} options (strings plan done) old now (Ok (tt {0}))
  pub room : length rest ≤ length text

pub compiling-none : (options : Options) (plan : GrepPlan) (kind : EndKind) (text : List ℕ) (old : List Pattern)
    → Compiling options plan kind text text old old
compiling-none options plan kind text old = record {
  done = [];
  n = 1;
  offset = 0;
  all = refl;
  added = adds-none (tt {0}) options old;
  room = omega arith;
}

all-then : (options : Options) (plan : GrepPlan) (kind : EndKind) (text rest : List ℕ) (old mid : List Pattern)
    (k : ℕ) → (c : Compiling options plan kind text rest old mid) → 0 < length rest → k ≡ first_newline kind rest
    → texts_of (rows kind (length text) (input_with text End)).rows
    ≡ (c.done ++ take k rest ∷ []) ++ texts_of
    (rows_from kind (length text) (c.n + 1) (c.offset + (k + newline_len kind rest k))
    (drop (k + newline_len kind rest k) rest) End).rows
all-then options plan kind text rest old mid k c some is =
    c.all ∙ ap (λ l. c.done ++ l) (line-step kind (length text) c.n c.offset rest k some c.room is)
    ∙ sym (append_assoc c.done (take k rest ∷ []) _)

pub compiling-more : {A : Type 0} (a : A) (options : Options) (plan : GrepPlan) (kind : EndKind) (text rest : List ℕ)
    (old mid new : List Pattern) (k : ℕ) → Compiling options plan kind text rest old mid → 0 < length rest
    → k ≡ first_newline kind rest
    → Adds options (wrapped plan (flat_map escaped (take k rest)) ∷ []) mid new (Ok a)
    → Compiling options plan kind text (drop (k + newline_len kind rest k) rest) old new
compiling-more a options plan kind text rest old mid new k c some is one = record {
  done = c.done ++ take k rest ∷ [];
  n = c.n + 1;
  offset = c.offset + (k + newline_len kind rest k);
  all = all-then options plan kind text rest old mid k c some is;
  added = subst (λ l. Adds {A = Unit {0}} options l old new (Ok (tt {0})))
      (sym (strings-append plan c.done (take k rest ∷ [])))
      (adds-then (tt {0}) options (strings plan c.done) (strings plan (take k rest ∷ [])) old mid new (Ok (tt {0}))
      c.added one);
  room = omega (arith, c.room, length-drop (k + newline_len kind rest k) rest);
}

-- the bytes after the line are left
pub compiling-next : {A : Type 0} (a : A) (options : Options) (plan : GrepPlan) (kind : EndKind) (text rest : List ℕ)
    (old mid new : List Pattern) (k len : ℕ) → Compiling options plan kind text rest old mid → 0 < length rest
    → k ≡ first_newline kind rest → len ≡ newline_len kind rest k
    → Adds options (wrapped plan (flat_map escaped (take k rest)) ∷ []) mid new (Ok a)
    → Compiling options plan kind text (take (length rest - (k + len)) (drop (k + len) rest)) old new
compiling-next a options plan kind text rest old mid new k len c some is len_is one =
    let left : drop (k + newline_len kind rest k) rest ≡ take (length rest - (k + len)) (drop (k + len) rest) =
    ap (λ l. drop (k + l) rest) (sym len_is) ∙ sym (rest_whole rest (k + len)) in
    subst (λ r. Compiling options plan kind text r old new) left
    (compiling-more a options plan kind text rest old mid new k c some is one)

-- a line and its newline lie within the bytes
pub within-rest : (kind : EndKind) (rest : List ℕ) (k len : ℕ) → k ≡ first_newline kind rest
    → len ≡ newline_len kind rest k → k + len ≤ length rest
within-rest kind rest k len is len_is =
    let high = (first-least kind rest).high in
    let within = newline-within kind rest k (omega (arith, high, is)) in
    omega (arith, within, len_is)

pub compiling-stops : (A : Type 0) (options : Options) (plan : GrepPlan) (kind : EndKind) (text rest : List ℕ)
    (old mid new : List Pattern) (k : ℕ) (e : PatternError) → Compiling options plan kind text rest old mid
    → 0 < length rest → k ≡ first_newline kind rest
    → Adds {A = A} options (wrapped plan (flat_map escaped (take k rest)) ∷ []) mid new (Err e) → 0 < length text
    → Adds {A = A} options (map (wrapped plan) (fixed_strings kind text)) old new (Err e)
compiling-stops A options plan kind text rest old mid new k e c some is one text_some =
    let more = texts_of (rows_from kind (length text) (c.n + 1) (c.offset + (k + newline_len kind rest k))
    (drop (k + newline_len kind rest k) rest) End).rows in
    let all : strings plan (lines_of kind text) ≡ (strings plan c.done ++ strings plan (take k rest ∷ [])) ++ strings
    plan more =
    ap (strings plan) (lines-are kind text text_some ∙ all-then options plan kind text rest old mid k c some is)
    ∙ strings-append plan (c.done ++ take k rest ∷ []) more
    ∙ ap (λ l. l ++ strings plan more) (strings-append plan c.done (take k rest ∷ [])) in
    subst (λ l. Adds {A = A} options l old new (Err e)) (sym all)
    (adds-first A options (strings plan c.done ++ strings plan (take k rest ∷ [])) (strings plan more) old new e
    (adds-then {B = A} (tt {0}) options (strings plan c.done) (strings plan (take k rest ∷ [])) old mid new (Err e)
    c.added one))

pub compiling-ends : (options : Options) (plan : GrepPlan) (kind : EndKind) (text rest : List ℕ)
    (old new : List Pattern) → Compiling options plan kind text rest old new → length rest ≡ 0 → 0 < length text
    → Adds {A = Unit {0}} options (map (wrapped plan) (fixed_strings kind text)) old new (Ok (tt {0}))
compiling-ends options plan kind text rest old new c none some =
    let all : texts_of (rows kind (length text) (input_with text End)).rows ≡ c.done =
    c.all ∙ ap (λ (r : Rows). c.done ++ texts_of r.rows)
    (rows-empty kind (length text) c.n c.offset rest (nothing rest none)) ∙ append-nil c.done in
    subst (λ l. Adds {A = Unit {0}} options l old new (Ok (tt {0})))
    (sym (ap (strings plan) (lines-are kind text some ∙ all))) c.added

-- a text alone
pub texts-lines : (plan : GrepPlan) (text : List ℕ) → plan.fixed_strings ≡ true
    → pattern_texts plan (text ∷ []) ≡ map (wrapped plan) (fixed_strings (line_end plan) text)
texts-lines plan text fixed =
    ap (λ (t : Bool). map (wrapped plan) (if t then flat_map (fixed_strings (line_end plan)) (text ∷ []) else
    text ∷ [])) fixed
    ∙ ap (map (wrapped plan)) (append-nil (fixed_strings (line_end plan) text))

pub texts-plain : (plan : GrepPlan) (text : List ℕ) → plan.fixed_strings ≡ false
    → pattern_texts plan (text ∷ []) ≡ wrapped plan text ∷ []
texts-plain plan text plain =
    ap (λ (t : Bool). map (wrapped plan) (if t then flat_map (fixed_strings (line_end plan)) (text ∷ []) else
    text ∷ [])) plain

texts-none : (plan : GrepPlan) → plan.fixed_strings ≡ true → pattern_texts plan ([] ∷ []) ≡ wrapped plan [] ∷ []
texts-none plan fixed =
    texts-lines plan [] fixed ∙ ap (λ (r : Rows). map (wrapped plan) (map (flat_map escaped) (or_empty_line r.rows)))
    (rows-empty (line_end plan) 0 1 0 [] refl)

pub texts-empty : (plan : GrepPlan) (text : List ℕ) → length text ≡ 0
    → pattern_texts plan (text ∷ []) ≡ wrapped plan text ∷ []
texts-empty plan text none = subst (λ t. pattern_texts plan (t ∷ []) ≡ wrapped plan t ∷ []) (sym (nothing text none))
    (by_kind plan.fixed_strings refl)
  where
    by_kind : (t : Bool) → plan.fixed_strings ≡ t → pattern_texts plan ([] ∷ []) ≡ wrapped plan [] ∷ []
    by_kind true fixed = texts-none plan fixed
    by_kind false plain = texts-plain plan [] plain

-- the texts of one list after those of another
pub texts-append : (plan : GrepPlan) (xs ys : List (List ℕ))
    → pattern_texts plan (xs ++ ys) ≡ pattern_texts plan xs ++ pattern_texts plan ys
texts-append plan xs ys = by_kind plan.fixed_strings
  where
    by_kind : (t : Bool) → map (wrapped plan)
        (if t then flat_map (fixed_strings (line_end plan)) (xs ++ ys) else xs ++ ys)
        ≡ map (wrapped plan) (if t then flat_map (fixed_strings (line_end plan)) xs else xs) ++ map (wrapped plan)
        (if t then flat_map (fixed_strings (line_end plan)) ys else ys)
    by_kind true = ap (map (wrapped plan)) (flat_map-append (fixed_strings (line_end plan)) xs ys)
        ∙ map-append (wrapped plan) _ _
    by_kind false = map-append (wrapped plan) xs ys

-- the patterns of the first texts, and then those of one more
pub one-text : {A : Type 0} (options : Options) (plan : GrepPlan) (texts : List (List ℕ)) (i : ℕ) (text : List ℕ)
    (mid new : List Pattern) (found : Result A PatternError) → i < length texts → text ≡ get_or texts i text
    → Adds {A = Unit {0}} options (pattern_texts plan (take i texts)) [] mid (Ok (tt {0}))
    → Adds {A = A} options (pattern_texts plan (text ∷ [])) mid new found
    → Adds {A = A} options (pattern_texts plan (take (i + 1) texts)) [] new found
one-text {A} options plan texts i text mid new found inside is first second =
    let more : take (i + 1) texts ≡ take i texts ++ text ∷ [] = take_more texts i text inside
    ∙ ap (λ x. take i texts ++ x ∷ []) (sym is) in
    subst (λ l. Adds {A = A} options l [] new found)
    (sym (ap (pattern_texts plan) more ∙ texts-append plan (take i texts) (text ∷ [])))
    (adds-then {B = A} (tt {0}) options (pattern_texts plan (take i texts)) (pattern_texts plan (text ∷ [])) [] mid
    new found first second)

-- one of them is refused
pub text-refused : (A : Type 0) (options : Options) (plan : GrepPlan) (texts : List (List ℕ)) (i : ℕ) (text : List ℕ)
    (mid new : List Pattern) (e : PatternError) → i < length texts → text ≡ get_or texts i text
    → Adds {A = Unit {0}} options (pattern_texts plan (take i texts)) [] mid (Ok (tt {0}))
    → Adds {A = A} options (pattern_texts plan (text ∷ [])) mid new (Err e)
    → Adds {A = A} options (pattern_texts plan texts) [] new (Err e)
text-refused A options plan texts i text mid new e inside is first second =
    let all : texts ≡ take (i + 1) texts ++ drop (i + 1) texts = sym (take-append-drop (i + 1) texts) in
    subst (λ l. Adds {A = A} options l [] new (Err e))
    (sym (ap (pattern_texts plan) all ∙ texts-append plan (take (i + 1) texts) (drop (i + 1) texts)))
    (adds-first A options (pattern_texts plan (take (i + 1) texts)) (pattern_texts plan (drop (i + 1) texts)) [] new e
    (one-text {A = A} options plan texts i text mid new (Err e) inside is first second))
