-- The texts of matches, as they are written piece by piece.
use Rattle.std.proofs.Common.{◌≡◌, ℕ, zero, suc, ◌+◌, ◌-◌, ◌<◌, ◌≤◌, ◌||◌, ◌==◌, Bool, true, false, List, [], ◌∷◌}
use Rattle.std.proofs.Common.{◌++◌, Option, None, Some, All, map, flat_map, take, drop, get_or, length, slice_get}
use Rattle.std.proofs.Common.{codes, decimal, refl, sym, ap, ◌∙◌, arith, append_assoc, append-nil, length-append}
use Rattle.std.proofs.lemmas.Bool.Decides.{nat_tests}
use Rattle.std.proofs.lemmas.List.{drop_at, take_at, drop_more, nil_from_length, length-map}
use Rattle.frame_store.specs.declared.registers.Span.{Span}
use Rattle.ordered_search.specs.PlaceAnswer.{Outcome}
use Rattle.ordered_search.specs.Forward.{IsWithin}
use Rattle.line_feed.specs.Rows.{Row}
use Rattle.grep_match.specs.pcre2_api.Captured.{span_of}
use Rattle.grep_args.specs.declared.plan.GrepPlan.{GrepPlan}
use Rattle.grep_args.specs.declared.plan.OffsetMode.TheVariants.{Lines}
use Rattle.grep_match.specs.declared.found.Place.{Place}
use Rattle.grep_match.specs.Modes.{is_with}
use Rattle.grep_match.specs.Found.{Listed, Lists, groups_of, place_of, IsInLine}
use Rattle.tool_io.specs.Texts.{text_if, line}
use Rattle.grep_output.specs.Texts.{name_before, number_before, span_text, group_text, given_texts, group_texts}
use Rattle.grep_output.specs.Texts.{joined, is_any, part_text, match_text}

-- The groups at spans and the groups of a match.

span-of-group : (bytes : List ℕ) (o : Outcome) (n : ℕ) → span_text bytes (span_of o n) ≡ group_text bytes o n
span-of-group bytes o zero = refl
span-of-group bytes o (suc n) = (let e : (suc n == 0) ≡ false = grind (arith, nat_tests) in simp e)

spans-of-groups : (bytes : List ℕ) (o : Outcome) (wanted : List ℕ)
    → map (span_text bytes) (groups_of wanted o) ≡ map (group_text bytes o) wanted
spans-of-groups bytes o [] = refl
spans-of-groups bytes o (n ∷ ns) = ap (λ t. t ∷ map (span_text bytes) (groups_of ns o)) (span-of-group bytes o n)
    ∙ ap (λ l. group_text bytes o n ∷ l) (spans-of-groups bytes o ns)

abbrev pub set_texts : List ℕ → List (Option Span) → List (List ℕ)
set_texts bytes groups = given_texts (map (span_text bytes) groups)

pub set-of-match : (plan : GrepPlan) (bytes : List ℕ) (o : Outcome) (groups : List (Option Span))
    → groups ≡ groups_of plan.only_matching o → set_texts bytes groups ≡ group_texts plan bytes o
set-of-match plan bytes o groups e = ap (set_texts bytes) e
    ∙ ap given_texts (spans-of-groups bytes o plan.only_matching)

-- one group, and then others
pub set-empty : (bytes : List ℕ) (group : Option Span) (groups : List (Option Span)) → span_text bytes group ≡ []
    → set_texts bytes (group ∷ groups) ≡ set_texts bytes groups
set-empty bytes group groups e = rw e refl

given-one : (text : List ℕ) (texts : List (List ℕ)) → 0 < length text
    → given_texts (text ∷ texts) ≡ text ∷ given_texts texts
given-one [] texts some = absurd (omega arith)
given-one (b ∷ bs) texts some = refl

pub set-given : (bytes : List ℕ) (group : Option Span) (groups : List (Option Span))
    → 0 < length (span_text bytes group) → set_texts bytes (group ∷ groups) ≡ span_text bytes group ∷ set_texts bytes
    groups
set-given bytes group groups some = given-one (span_text bytes group) (map (span_text bytes) groups) some

-- the answer of a test for the empty text
filled : (t u : List ℕ) (is_bare : Bool) → t ≡ u → is_bare ≡ (length t == 0) → is_bare ≡ false → 0 < length u
filled t u is_bare e r f = (let same = ap length e in grind (arith, nat_tests))

bare : (t u : List ℕ) (is_bare : Bool) → t ≡ u → is_bare ≡ (length t == 0) → is_bare ≡ true → u ≡ []
bare t u is_bare e r f = (let same = ap length e in let none : length u ≡ 0 = grind (arith, nat_tests) in
    nil_from_length u none)

pub step-bare : (bytes : List ℕ) (groups : List (Option Span)) (i : ℕ) (t : List ℕ) (is_bare : Bool)
    → i < length groups → t ≡ span_text bytes (get_or groups i None)
    → is_bare ≡ (length t == 0) → is_bare ≡ true → set_texts bytes (drop i groups) ≡ set_texts bytes
    (drop (i + 1) groups)
step-bare bytes groups i t is_bare within e r f =
    ap (set_texts bytes) (drop_more groups i None within)
    ∙ set-empty bytes (get_or groups i None) (drop (i + 1) groups) (bare t _ is_bare e r f)

pub step-filled : (bytes : List ℕ) (groups : List (Option Span)) (i : ℕ) (t : List ℕ) (is_bare : Bool)
    → i < length groups → t ≡ span_text bytes (get_or groups i None)
    → is_bare ≡ (length t == 0) → is_bare ≡ false → set_texts bytes (drop i groups) ≡ t ∷ set_texts bytes
    (drop (i + 1) groups)
step-filled bytes groups i t is_bare within e r f =
    ap (set_texts bytes) (drop_more groups i None within)
    ∙ set-given bytes (get_or groups i None) (drop (i + 1) groups) (filled t _ is_bare e r f)
    ∙ ap (λ l. l ∷ set_texts bytes (drop (i + 1) groups)) (sym e)

-- What is left to write of texts, after earlier ones or as the first.

abbrev pub joined_from : Bool → List ℕ → List (List ℕ) → List ℕ
joined_from is_later separator [] = []
joined_from is_later separator (text ∷ texts) = (text_if is_later separator ++ (text ++ [])) ++ joined_from true
    separator texts

joined-later : (separator : List ℕ) (texts : List (List ℕ))
    → joined_from true separator texts ≡ flat_map (λ other. separator ++ other) texts
joined-later separator [] = refl
joined-later separator (text ∷ texts) =
    ap (λ l. (separator ++ l) ++ joined_from true separator texts) (append-nil text)
    ∙ ap (λ l. (separator ++ text) ++ l) (joined-later separator texts)

pub joined-first : (separator : List ℕ) (texts : List (List ℕ))
    → joined_from false separator texts ≡ joined separator texts
joined-first separator [] = refl
joined-first separator (text ∷ texts) = ap (λ l. l ++ joined_from true separator texts) (append-nil text)
    ∙ ap (λ l. text ++ l) (joined-later separator texts)

pub joined-filled : (separator bytes : List ℕ) (groups : List (Option Span)) (i : ℕ) (is_later : Bool)
    (before t : List ℕ) (is_bare : Bool) → i < length groups
    → before ≡ text_if is_later separator → t ≡ span_text bytes (get_or groups i None) → is_bare ≡ (length t == 0)
    → is_bare ≡ false
    → joined_from is_later separator (set_texts bytes (drop i groups)) ≡ (before ++ (t ++ [])) ++ joined_from true
    separator (set_texts bytes (drop (i + 1) groups))
joined-filled separator bytes groups i is_later before t is_bare within b e r f =
    ap (joined_from is_later separator) (step-filled bytes groups i t is_bare within e r f)
    ∙ ap (λ l. (l ++ (t ++ [])) ++ joined_from true separator (set_texts bytes (drop (i + 1) groups))) (sym b)

-- The matches that are listed.

-- of no match, for places past the last one
abbrev pub no_match : Outcome
no_match = record { keep = 0; to = 0; mark = None; caps = [] }

abbrev pub match_at : List Outcome → ℕ → Outcome
match_at os i = get_or os i no_match

pub count-listed : (wanted : List ℕ) (len : ℕ) (list : Listed) (os : List Outcome) → Lists wanted len list os
    → length list.places ≡ length os
count-listed wanted len list os h = ap length h.places ∙ length-map os place_of

get-mapped : {X Y : Type 0} (f : X → Y) (xs : List X) (i : ℕ) (d : X) → i < length xs
    → slice_get (map f xs) i ≡ Some (f (get_or xs i d))
get-mapped f [] i d within = absurd (omega arith)
get-mapped f (x ∷ xs) zero d within = refl
get-mapped f (x ∷ xs) (suc i) d within = get-mapped f xs i d (omega arith)

pub place-listed : (wanted : List ℕ) (len : ℕ) (list : Listed) (os : List Outcome) (i : ℕ) (place : Place)
    → Lists wanted len list os → i < length list.places → slice_get list.places i ≡ Some place
    → place ≡ place_of (match_at os i)
place-listed wanted len list os i place h within e =
    let count = count-listed wanted len list os h in
    let there : Some place ≡ Some (place_of (match_at os i)) = sym e ∙ ap (λ l. slice_get l i) h.places
    ∙ get-mapped place_of os i no_match (omega arith) in
    cc

pub match-listed : (wanted : List ℕ) (len : ℕ) (list : Listed) (os : List Outcome) (i : ℕ) → Lists wanted len list os
    → i < length list.places → IsInLine len (match_at os i)
match-listed wanted len list os i h within =
    (let count = count-listed wanted len list os h in h.within i no_match (omega arith))

pub groups-listed : (wanted : List ℕ) (len : ℕ) (list : Listed) (os : List Outcome) (i : ℕ)
    (groups : List (Option Span)) → Lists wanted len list os → i < length list.places
    → groups ≡ flat_map (groups_of wanted) (drop i os)
    → groups ≡ groups_of wanted (match_at os i) ++ flat_map (groups_of wanted) (drop (i + 1) os)
groups-listed wanted len list os i groups h within e =
    (let count = count-listed wanted len list os h in e
    ∙ ap (flat_map (groups_of wanted)) (drop_more os i no_match (omega arith)))

module _ (wanted : List ℕ) (o : Outcome) (rest groups : List (Option Span))
    (e : groups ≡ groups_of wanted o ++ rest) where
  pub groups-reach : length wanted ≤ length groups
  groups-reach = omega (arith, ap length e, length-append (groups_of wanted o) rest, length-map wanted (span_of o))

  pub groups-front : take (length wanted) groups ≡ groups_of wanted o
  groups-front = ap (take (length wanted)) e ∙ take_at (groups_of wanted o) rest (length wanted)
      (length-map wanted (span_of o))

  pub groups-rest : drop (length wanted) groups ≡ rest
  groups-rest = ap (drop (length wanted)) e ∙ drop_at (groups_of wanted o) rest (length wanted)
      (length-map wanted (span_of o))

-- the groups of a match lie where it does
module _ (len : ℕ) where
  get-within : (xs : List (Option Span)) (k : ℕ) → All (IsWithin len) xs → IsWithin len (get_or xs k None)
  get-within [] k h = tt
  get-within (x ∷ xs) zero h = h 0 None (omega arith)
  get-within (x ∷ xs) (suc k) h = get-within xs k (λ j d within. h (suc j) d (omega arith))

  span-within : (o : Outcome) (n : ℕ) → IsInLine len o → IsWithin len (span_of o n)
  span-within o zero h = (h.ordered, h.within)
  span-within o (suc n) h = get-within o.caps (suc n - 1) h.caps

  pub groups-within : (o : Outcome) (wanted : List ℕ) → IsInLine len o → All (IsWithin len) (groups_of wanted o)
  groups-within o [] h k d within = absurd (omega arith)
  groups-within o (n ∷ ns) h zero d within = span-within o n h
  groups-within o (n ∷ ns) h (suc k) d within = groups-within o ns h k d (omega arith)

-- What stands before the groups, and the places.

pub before-text : (named lined : Bool) (name mark number : List ℕ)
    → text_if named name ++ (text_if named mark ++ (text_if lined number ++ (text_if lined mark ++ []))) ≡ text_if
    named (name ++ mark) ++ text_if lined (number ++ mark)
before-text true true name mark number = simp (append_assoc, append-nil)
before-text true false name mark number = simp (append_assoc, append-nil)
before-text false true name mark number = simp append-nil
before-text false false name mark number = refl

pub in-line-text : (plan : GrepPlan) (name : List ℕ) (row : Row) (o : Outcome) (is_named : Bool)
    (n a b number from len : List ℕ)
    → is_named ≡ is_with plan.names → n ≡ name → a ≡ text_if is_named n → b ≡ text_if is_named (codes ":")
    → number ≡ decimal row.number → from ≡ decimal o.keep → len ≡ decimal (o.to - o.keep)
    → a ++ (b ++ (number ++ (codes ":" ++ (from ++ (codes "," ++ (len ++ (codes "\n" ++ []))))))) ≡ match_text plan
    name Lines row o
in-line-text plan name row o is_named n a b number from len named en ea eb enumber efrom elen =
    ap (λ l. l ++ (b ++ (number ++ (codes ":" ++ (from ++ (codes "," ++ (len ++ (codes "\n" ++ []))))))))
    (ea ∙ ap (text_if is_named) en)
    ∙ ap (λ l. text_if is_named name
    ++ (l ++ (number ++ (codes ":" ++ (from ++ (codes "," ++ (len ++ (codes "\n" ++ [])))))))) eb
    ∙ ap (λ l. text_if is_named name ++ (text_if is_named (codes ":")
    ++ (l ++ (codes ":" ++ (from ++ (codes "," ++ (len ++ (codes "\n" ++ [])))))))) enumber
    ∙ ap (λ l. text_if is_named name ++ (text_if is_named (codes ":")
    ++ (decimal row.number ++ (codes ":" ++ (l ++ (codes "," ++ (len ++ (codes "\n" ++ []))))))))
    (efrom ∙ ap decimal (omega arith))
    ∙ ap (λ l. text_if is_named name ++ (text_if is_named (codes ":")
    ++ (decimal row.number
    ++ (codes ":" ++ (decimal (0 + o.keep) ++ (codes "," ++ (l ++ (codes "\n" ++ [])))))))) elen
    ∙ ap (λ t. text_if t name
    ++ (text_if t (codes ":")
    ++ (decimal row.number
    ++ (codes ":"
    ++ (decimal (0 + o.keep) ++ (codes "," ++ (decimal (o.to - o.keep) ++ (codes "\n" ++ [])))))))) named
    ∙ by_named (is_with plan.names)
  where
    by_named : (t : Bool)
        → text_if t name
        ++ (text_if t (codes ":")
        ++ (decimal row.number
        ++ (codes ":"
        ++ (decimal (0 + o.keep) ++ (codes "," ++ (decimal (o.to - o.keep) ++ (codes "\n" ++ []))))))) ≡ line
        (text_if t (name ++ codes ":") ++ decimal row.number ++ codes ":"
        ++ (decimal (0 + o.keep) ++ codes "," ++ decimal (o.to - o.keep)))
    by_named true = simp (append_assoc, append-nil)
    by_named false = simp (append_assoc, append-nil)

before-of : (plan : GrepPlan) (name : List ℕ) (row : Row) (is_named : Bool) (n a b number c d : List ℕ)
    → is_named ≡ is_with plan.names → n ≡ name → a ≡ text_if is_named n → b ≡ text_if is_named (codes ":")
    → number ≡ decimal row.number → c ≡ text_if plan.line_number number
    → d ≡ text_if plan.line_number (codes ":")
    → a ++ (b ++ (c ++ (d ++ []))) ≡ name_before plan name (codes ":") ++ number_before plan name row.number (codes ":")
before-of plan name row is_named n a b number c d named en ea eb enumber ec ed =
    ap (λ l. l ++ (b ++ (c ++ (d ++ [])))) (ea ∙ ap (text_if is_named) en ∙ ap (λ t. text_if t name) named)
    ∙ ap (λ l. text_if (is_with plan.names) name ++ (l ++ (c ++ (d ++ []))))
    (eb ∙ ap (λ t. text_if t (codes ":")) named)
    ∙ ap (λ l. text_if (is_with plan.names) name ++ (text_if (is_with plan.names) (codes ":") ++ (l ++ (d ++ []))))
    (ec ∙ ap (text_if plan.line_number) enumber)
    ∙ ap (λ l. text_if (is_with plan.names) name
    ++ (text_if (is_with plan.names) (codes ":")
    ++ (text_if plan.line_number (decimal row.number) ++ (l ++ [])))) ed
    ∙ before-text (is_with plan.names) plan.line_number name (codes ":") (decimal row.number)

part-of : (plan : GrepPlan) (name : List ℕ) (row : Row) (o : Outcome) (groups : List (Option Span)) (makes : Bool)
    → groups ≡ groups_of plan.only_matching o
    → makes ≡ (is_any (set_texts row.bytes groups) || (is_with plan.names || plan.line_number))
    → part_text plan name row o ≡ text_if makes
    (line (name_before plan name (codes ":") ++ number_before plan name row.number (codes ":") ++ joined
    plan.om_separator (set_texts row.bytes groups)))
part-of plan name row o groups makes e made =
    let before = name_before plan name (codes ":") ++ number_before plan name row.number (codes ":") in
    ap (λ texts. text_if (is_any texts || (is_with plan.names || plan.line_number))
    (line (before ++ joined plan.om_separator texts))) (sym (set-of-match plan row.bytes o groups e))
    ∙ ap (λ t. text_if t (line (before ++ joined plan.om_separator (set_texts row.bytes groups)))) (sym made)

pub part-none : (plan : GrepPlan) (name : List ℕ) (row : Row) (o : Outcome) (groups : List (Option Span))
    (makes : Bool) → groups ≡ groups_of plan.only_matching o
    → makes ≡ (is_any (set_texts row.bytes groups) || (is_with plan.names || plan.line_number)) → makes ≡ false
    → part_text plan name row o ≡ []
part-none plan name row o groups makes e made is =
    let before = name_before plan name (codes ":") ++ number_before plan name row.number (codes ":") in
    part-of plan name row o groups makes e made
    ∙ ap (λ t. text_if t (line (before ++ joined plan.om_separator (set_texts row.bytes groups)))) is

-- the groups are written in three texts
pub part-some : (plan : GrepPlan) (name : List ℕ) (row : Row) (o : Outcome) (groups : List (Option Span))
    (makes is_named : Bool) (n a b number c d separator : List ℕ)
    → groups ≡ groups_of plan.only_matching o
    → makes ≡ (is_any (set_texts row.bytes groups) || (is_with plan.names || plan.line_number)) → makes ≡ true
    → is_named ≡ is_with plan.names → n ≡ name → a ≡ text_if is_named n → b ≡ text_if is_named (codes ":")
    → number ≡ decimal row.number → c ≡ text_if plan.line_number number
    → d ≡ text_if plan.line_number (codes ":") → separator ≡ plan.om_separator
    → part_text plan name row o ≡ (a ++ (b ++ (c ++ (d ++ []))))
    ++ (joined separator (set_texts row.bytes groups) ++ (codes "\n" ++ []))
part-some plan name row o groups makes is_named n a b number c d separator e made is named en ea eb enumber ec ed es =
    let texts = set_texts row.bytes groups in
    let before = name_before plan name (codes ":") ++ number_before plan name row.number (codes ":") in
    part-of plan name row o groups makes e made
    ∙ ap (λ t. text_if t (line (before ++ joined plan.om_separator texts))) is
    ∙ append_assoc before (joined plan.om_separator texts) (10 ∷ [])
    ∙ ap (λ l. l ++ (joined plan.om_separator texts ++ (10 ∷ [])))
    (sym (before-of plan name row is_named n a b number c d named en ea eb enumber ec ed))
    ∙ ap (λ l. (a ++ (b ++ (c ++ (d ++ [])))) ++ (joined l texts ++ (10 ∷ []))) (sym es)
