-- The form of nodes: what is read of a node is spelled so and keeps the rules, and such a node is read.
use Rattle.std.proofs.Common.{◌≡◌, ℕ, zero, suc, ◌+◌, ◌-◌, ◌^◌, ◌<◌, ◌≤◌, Bool, true, false, not, ◌||◌, ◌&&◌, ◌==◌}
use Rattle.std.proofs.Common.{List, [], ◌∷◌, ◌++◌, length, map, drop, take, Option, Some, None, refl, sym, ap, ◌∙◌}
use Rattle.std.proofs.Common.{subst}
use Rattle.std.proofs.Common.{append_assoc, append-nil, arith, length-drop, inl, inr, All, get_or, cond}
use Rattle.std.specs.Prelude.{nat_le, nat_lt, is_some, if◌then◌else◌}
use Rattle.std.specs.Int.{w16, w32}
use Rattle.std.specs.List.{AllByRecursion}
use Rattle.std.proofs.lemmas.Bool.{cases_Bool, eqb-true}
use Rattle.std.proofs.lemmas.Bool.Decides.{nat_tests}
use Rattle.std.proofs.lemmas.List.{length-append, map-append, take-append-drop, drop_at}
use Rattle.std.proofs.lemmas.List.Elements.{All-nil, All-cons, All-head, All-from_recursion, recursion_from_All}
use Rattle.uni_text.specs.Characters.{IsPlace}
use Rattle.pat_tree.specs.declared.nodes.Item.{Item}
use Rattle.pat_tree.specs.declared.nodes.Item.TheVariants as item
use Rattle.pat_tree.specs.declared.nodes.AnchorKind.{AnchorKind}
use Rattle.pat_tree.specs.declared.nodes.AnchorKind.TheVariants as anchor
use Rattle.pat_tree.specs.declared.nodes.Verb.{Verb}
use Rattle.pat_tree.specs.declared.nodes.Verb.TheVariants as verb
use Rattle.pat_tree.specs.declared.nodes.Cond.{Cond}
use Rattle.pat_tree.specs.declared.nodes.Cond.TheVariants as test
use Rattle.pat_tree.specs.declared.nodes.Node.{Node}
use Rattle.pat_tree.specs.declared.nodes.Node.TheVariants as node
use Rattle.pat_tree.specs.declared.nodes.Placed.{Placed}
use Rattle.pat_tree.specs.Rules.{kids_of, number_in, tests_of, asserted_by, classes_of, class_in, verb_names_of}
use Rattle.pat_tree.specs.Rules.{name_in}
use Rattle.pat_tree.specs.Rules.{numbers_of, IsNamed, IsOrdered, IsDefine, AtMost, defines}
use Rattle.pat_save.specs.Checked.{IsCharacter, IsNode, IsPiece, IsRising, IsString, CallsIn, characters_of}
use Rattle.pat_save.specs.Checked.{character_in}
use Rattle.pat_save.specs.Checked.{NamesRising, IsRisingTest}
use Rattle.pat_save.specs.Fields.{bit, optional, counted, two_bytes, four_bytes}
use Rattle.pat_save.specs.Image.{item_bytes, anchor_bytes, verb_bytes, test_bytes, child_bytes, limits_bytes}
use Rattle.pat_save.specs.Image.{node_bytes}
use Rattle.pat_save.specs.Reading.{Reader, ◌>>=◌, passing, made, chosen, joined, byte_at, number_at, groups_at, bool_at}
use Rattle.pat_save.specs.Reading.{choice_at, optional_at, nothing_at, listed}
use Rattle.pat_save.specs.ReadTables.{is_character}
use Rattle.pat_save.specs.ReadNodes.{Free, item_at, char_at, class_number_at, anchor_at, verb_of, is_below, verb_at}
use Rattle.pat_save.specs.ReadNodes.{is_ordered, limits_at, last_of, top_of, kids_at, is_numbered, group_at, repeat_of}
use Rattle.pat_save.specs.ReadNodes.{look_at, one_repeat_at, test_at, second_of, asserted, may_have, cond_of, cond_at}
use Rattle.pat_save.specs.ReadNodes.{is_filled, ref_at, is_boundary, is_place, is_string, is_piece, is_callout}
use Rattle.pat_save.specs.ReadNodes.{behind, callout_at, leaf_at, node_at}
use Rattle.pat_save.specs.declared.taken_nodes.Around.{Around}
use Rattle.pat_save.proofs.Forms.{AreBytes, Any, Each, Holds, IsCase, IsForm, Spelled, bind_some, bool_form, byte_form}
use Rattle.pat_save.proofs.Forms.{case_chosen, case_made, choice_takes, chosen_again, chosen_form, found, found_is}
use Rattle.pat_save.proofs.Forms.{Comes}
use Rattle.pat_save.proofs.Forms.{four_form, joined_form, listed_is, made_again, nothing_form, optional_form}
use Rattle.pat_save.proofs.Forms.{passing_form}
use Rattle.pat_save.proofs.Forms.{two_form, fit_form, chosen_some, chosen_none}
use Rattle.pat_save.proofs.Sorting.{and_both, both_true}
use Rattle.pat_save.proofs.TableForms.{AreGroups, groups_form, character_below, character_is, is_a_character}

-- ---- items

abbrev pub FitsItem : Around → Item → Type 0
FitsItem around (item.Char c caseless) = (c < 2 ^ 32) × (is_character around.utf c ≡ true)
FitsItem around item.AnyAll = Unit {0}
FitsItem around item.NotNewline = Unit {0}
FitsItem around (item.Class n) = (n < 2 ^ 32) × (nat_lt n around.classes ≡ true)

char_form : (around : Around) → IsForm (λ (x : ℕ × Bool). four_bytes x.0 ++ bit x.1 ∷ [])
    (λ x. ((x.0 < 2 ^ 32) × (is_character around.utf x.0 ≡ true)) × Any x.1)
    (joined (passing (is_character around.utf) (number_at w32)) (λ _. bool_at))
unfolding bool_at
char_form around = joined_form (passing_form (is_character around.utf) four_form) (λ c fit. bool_form)

number_form : (around : Around) → IsForm four_bytes (λ n. (n < 2 ^ 32) × (nat_lt n around.classes ≡ true))
    (passing (λ n. nat_lt n around.classes) (number_at w32))
number_form around = passing_form (λ n. nat_lt n around.classes) four_form

abbrev char_made : ℕ × Bool → Item
char_made x = item.Char x.0 x.1

item_again : (around : Around) (x : Item) (rest : List ℕ) → FitsItem around x
    → item_at around (item_bytes x ++ rest) ≡ Some (x, rest)
unfolding item_at char_at class_number_at
item_again around (item.Char c caseless) rest fit = made_again char_made (char_form around) (c, caseless) rest (fit, tt)
item_again around item.AnyAll rest fit = refl
item_again around item.NotNewline rest fit = refl
item_again around (item.Class n) rest fit = made_again item.Class (number_form around) n rest fit

pub item_form : (around : Around) → IsForm item_bytes (FitsItem around) (item_at around)
unfolding item_at char_at class_number_at
item_form around = record {
  takes = choice_takes item_bytes (FitsItem around)
      (char_at around ∷ made (λ _. item.AnyAll) nothing_at ∷ made (λ _. item.NotNewline) nothing_at
      ∷ class_number_at around ∷ []) (
        case_made item_bytes (FitsItem around) 0 char_made (char_form around) (λ x fit. (refl, fit.0)),
        (
          case_made item_bytes (FitsItem around) 1 (λ _. item.AnyAll) nothing_form (λ x fit. (refl, tt)),
          (
            case_made item_bytes (FitsItem around) 2 (λ _. item.NotNewline) nothing_form (λ x fit. (refl, tt)),
            (case_made item_bytes (FitsItem around) 3 item.Class (number_form around) (λ x fit. (refl, fit)), tt),
          ),
        ),
      );
  again = item_again around;
}

-- ---- assertions

abbrev pair_bools : Bool × Bool → List ℕ
pair_bools x = (bit x.0 ∷ []) ++ bit x.1 ∷ []

pair_form : IsForm pair_bools (λ x. Any x.0 × Any x.1) (joined bool_at (λ _. bool_at))
pair_form = joined_form bool_form (λ x fit. bool_form)

abbrev dollar : Bool × Bool → AnchorKind
dollar x = anchor.Dollar x.0 x.1

anchor_again : (x : AnchorKind) (rest : List ℕ) → Any x → anchor_at (anchor_bytes x ++ rest) ≡ Some (x, rest)
unfolding anchor_at
anchor_again (anchor.Caret multi) rest fit = made_again anchor.Caret bool_form multi rest tt
anchor_again (anchor.Dollar multi end_only) rest fit = made_again dollar pair_form (multi, end_only) rest (tt, tt)
anchor_again anchor.SubjectStart rest fit = refl
anchor_again anchor.SubjectEnd rest fit = refl
anchor_again anchor.EndOrNewline rest fit = refl
anchor_again anchor.StartGiven rest fit = refl
anchor_again (anchor.Word ucp) rest fit = made_again anchor.Word bool_form ucp rest tt
anchor_again (anchor.NotWord ucp) rest fit = made_again anchor.NotWord bool_form ucp rest tt

pub anchor_form : IsForm anchor_bytes Any anchor_at
unfolding anchor_at
anchor_form = record {
  takes = choice_takes anchor_bytes Any
      (made anchor.Caret bool_at ∷ made dollar (joined bool_at (λ _. bool_at)) ∷ made
      (λ _. anchor.SubjectStart) nothing_at
      ∷ made (λ _. anchor.SubjectEnd) nothing_at ∷ made (λ _. anchor.EndOrNewline) nothing_at
      ∷ made (λ _. anchor.StartGiven) nothing_at ∷ made anchor.Word bool_at ∷ made anchor.NotWord bool_at ∷ []) (
        case_made anchor_bytes Any 0 anchor.Caret bool_form (λ x fit. (refl, tt)),
        (
          case_made anchor_bytes Any 1 dollar pair_form (λ x fit. (refl, tt)),
          (
            case_made anchor_bytes Any 2 (λ _. anchor.SubjectStart) nothing_form (λ x fit. (refl, tt)),
            (
              case_made anchor_bytes Any 3 (λ _. anchor.SubjectEnd) nothing_form (λ x fit. (refl, tt)),
              (
                case_made anchor_bytes Any 4 (λ _. anchor.EndOrNewline) nothing_form (λ x fit. (refl, tt)),
                (
                  case_made anchor_bytes Any 5 (λ _. anchor.StartGiven) nothing_form (λ x fit. (refl, tt)),
                  (
                    case_made anchor_bytes Any 6 anchor.Word bool_form (λ x fit. (refl, tt)),
                    (case_made anchor_bytes Any 7 anchor.NotWord bool_form (λ x fit. (refl, tt)), tt),
                  ),
                ),
              ),
            ),
          ),
        ),
      );
  again = anchor_again;
}

-- ---- verbs

abbrev pub FitsName : ℕ → Option ℕ → Type 0
FitsName names name = Holds (λ n. n < 2 ^ 32) name × (is_below names name ≡ true)

abbrev pub name_of : Verb → Option ℕ
name_of (verb.Accept name) = name
name_of (verb.Fail name) = name
name_of (verb.Commit name) = name
name_of (verb.Prune name) = name
name_of (verb.Skip name) = name
name_of (verb.Then name) = name
name_of (verb.Mark name) = name

abbrev verb_place : Verb → ℕ
verb_place (verb.Accept name) = 0
verb_place (verb.Fail name) = 1
verb_place (verb.Commit name) = 2
verb_place (verb.Prune name) = 3
verb_place (verb.Skip name) = 4
verb_place (verb.Then name) = 5
verb_place (verb.Mark name) = 6

abbrev pub FitsVerb : ℕ → Verb → Type 0
FitsVerb names v = FitsName names (name_of v)

abbrev IsVerbOf : Option ℕ → ℕ → Verb → Type 0
IsVerbOf name n v = (n ∷ optional four_bytes name ≡ verb_bytes v) × (name_of v ≡ name)

verb_is : (name : Option ℕ) (n : ℕ) (v : Verb) → verb_of n name ≡ Some v → IsVerbOf name n v
verb_is name n v e = listed_is (IsVerbOf name) 0 (verb.Accept name ∷ verb.Fail name ∷ verb.Commit name
    ∷ verb.Prune name ∷ verb.Skip name ∷ verb.Then name ∷ verb.Mark name ∷ []) n v
    ((refl, refl), ((refl, refl), ((refl, refl), ((refl, refl), ((refl, refl), ((refl, refl), ((refl, refl), tt))))))) e

verb_comes : (v : Verb) → (verb_of (verb_place v) (name_of v) ≡ Some v)
    × (verb_bytes v ≡ verb_place v ∷ optional four_bytes (name_of v))
verb_comes (verb.Accept name) = (refl, refl)
verb_comes (verb.Fail name) = (refl, refl)
verb_comes (verb.Commit name) = (refl, refl)
verb_comes (verb.Prune name) = (refl, refl)
verb_comes (verb.Skip name) = (refl, refl)
verb_comes (verb.Then name) = (refl, refl)
verb_comes (verb.Mark name) = (refl, refl)

pub verb_form : (names : ℕ) → IsForm verb_bytes (FitsVerb names) (verb_at names)
unfolding verb_at
verb_form names = chosen_form (λ (x : ℕ × Option ℕ). verb_of x.0 x.1)
    (joined_form byte_form (λ n fit. passing_form (is_below names) (optional_form four_form))) (record {
      takes = λ x v fit e.
          let there = verb_is x.1 x.0 v e in
          (there.0, subst (FitsName names) (sym there.1) fit.1);
      again = λ v fit.
          let from = verb_comes v in
          record { value = (verb_place v, name_of v); fit = (tt, fit); is = from.0; same = from.1 };
    })

-- ---- limits

abbrev Limits : Type 0
Limits = ℕ × (Option ℕ × Bool)

abbrev pub FitsLimits : ℕ → Option ℕ → Type 0
FitsLimits min max = ((min < 2 ^ 16) × Holds (λ n. n < 2 ^ 16) max) × (is_ordered min max ≡ true)

limits_form : IsForm (λ (x : Limits). limits_bytes x.0 x.1.0 x.1.1) (λ x. FitsLimits x.0 x.1.0) limits_at
unfolding limits_at
limits_form = fit_form
    (passing_form (λ (x : Limits). is_ordered x.0 x.1.0)
    (joined_form two_form (λ n fit. joined_form (optional_form two_form) (λ m fits. bool_form))))
    (λ x fit. ((fit.0.0, fit.0.1.0), fit.1)) (λ x fit. ((fit.0.0, (fit.0.1, tt)), fit.1))

-- ---- the free nodes

abbrev pub ids_in : Free → List ℕ
ids_in = map (λ k. k.0)

-- the last of the free nodes are these
pub record Ends (free : Free) (ks : List ℕ) : Type 0 where
  pub front : Free
  pub last : Free
  pub is : free ≡ front ++ last
  pub ids : ids_in last ≡ ks

pub ends_none : (free : Free) → Ends free []
ends_none free = record { front = free; last = []; is = sym (append-nil free); ids = refl }

ids_many : (free : Free) → length (ids_in free) ≡ length free
ids_many [] = refl
ids_many (k ∷ free) = ap suc (ids_many free)

last_is : (n : ℕ) (free : Free) (ks : List ℕ) → last_of n free ≡ Some ks → (length ks ≡ n) × Ends free ks
last_is n free ks e =
    let g = chosen_none (nat_lt (length free) n) (ids_in (drop (length free - n) free)) ks e in
    let enough : n ≤ length free = grind (arith, nat_tests, g.0) in
    let count : length (drop (length free - n) free) ≡ n = omega (arith, length-drop (length free - n) free) in (
      sym (ap length g.1) ∙ ids_many (drop (length free - n) free) ∙ count,
      record {
        front = take (length free - n) free;
        last = drop (length free - n) free;
        is = sym (take-append-drop (length free - n) free);
        ids = g.1;
      },
    )

last_again : (free : Free) (ks : List ℕ) → Ends free ks → last_of (length ks) free ≡ Some ks
last_again free ks ends =
    let same : length ks ≡ length ends.last = sym (ap length ends.ids) ∙ ids_many ends.last in
    let whole : length free ≡ length ends.front + length ends.last = ap length ends.is
    ∙ length-append ends.front ends.last in
    let enough : nat_lt (length free) (length ks) ≡ false = grind (arith, nat_tests) in
    let at : length free - length ks ≡ length ends.front = omega (arith, same, whole) in
    rw (enough, at) (ap (λ (l : Free). found (ids_in (drop (length ends.front) l))) ends.is
    ∙ ap (λ (l : Free). found (ids_in l)) (drop_at ends.front ends.last (length ends.front) refl) ∙ ap found ends.ids)

pub top_is : (free : Free) (k : (ℕ × Bool) × Free) → top_of free ≡ Some k → free ≡ k.1 ++ k.0 ∷ []
top_is [] k e = absurd cc
top_is (x ∷ []) k e = ap (λ (t : (ℕ × Bool) × Free). t.1 ++ t.0 ∷ []) (found_is (x, []) k e)
top_is (x ∷ y ∷ free) k e =
    let p = bind_some (top_of (y ∷ free)) (λ t. Some (t.0, x ∷ t.1)) k e in
    let made_of : (ℕ × Bool) × Free = (p.0.0, x ∷ p.0.1) in
    ap (λ (l : Free). x ∷ l) (top_is (y ∷ free) p.0 p.1)
    ∙ ap (λ (t : (ℕ × Bool) × Free). t.1 ++ t.0 ∷ []) (found_is made_of k p.2)

pub top_again : (front : Free) (k : ℕ × Bool) → top_of (front ++ k ∷ []) ≡ Some (k, front)
top_again [] k = refl
top_again (x ∷ []) k = refl
top_again (x ∷ y ∷ front) k =
    ap (λ (o : Option ((ℕ × Bool) × Free)). o >>= λ t. Some (t.0, x ∷ t.1)) (top_again (y ∷ front) k)

-- the last of the free nodes
pub record TopIs (free : Free) (k : ℕ) : Type 0 where
  pub flag : Bool
  pub front : Free
  pub is : top_of free ≡ Some ((k, flag), front)

abbrev pub FitsKids : Free → List ℕ → Type 0
FitsKids free ks = (length ks < 2 ^ 32) × Ends free ks

abbrev kids_bytes : List ℕ → List ℕ
kids_bytes ks = four_bytes (length ks)

kids_form : (free : Free) → IsForm kids_bytes (FitsKids free) (kids_at free)
unfolding kids_at
kids_form free = chosen_form (λ n. last_of n free) four_form (record {
  takes = λ n ks fit e.
      let there = last_is n free ks e in
      (ap four_bytes (sym there.0), (omega (arith, fit, there.0), there.1));
  again = λ ks fit. record { value = length ks; fit = fit.0; is = last_again free ks fit.1; same = refl };
})

-- ---- conditions

abbrev pub FitsTest : Cond → Type 0
FitsTest (test.AnySet groups) = AreGroups groups
FitsTest (test.InCallOf groups) = AreGroups groups
FitsTest _ = Unit {0}

-- the test as it is read: none stands for a lookaround
abbrev pub marker_of : Cond → Option Cond
marker_of (test.AnySet groups) = Some (test.AnySet groups)
marker_of test.InCall = Some test.InCall
marker_of (test.InCallOf groups) = Some (test.InCallOf groups)
marker_of test.Never = Some test.Never
marker_of (test.Assert k) = None

abbrev marker_bytes : Option Cond → List ℕ
marker_bytes None = 4 ∷ []
marker_bytes (Some t) = test_bytes t

abbrev FitsMarker : Option Cond → Type 0
FitsMarker None = Unit {0}
FitsMarker (Some t) = FitsTest t × (marker_of t ≡ Some t)

abbrev no_cond : Option Cond
no_cond = None

abbrev some_cond : Cond → Option Cond
some_cond t = Some t

test_takes : (bytes : List ℕ) (x : Option Cond × List ℕ) → AreBytes bytes → test_at bytes ≡ Some x
    → Spelled marker_bytes FitsMarker bytes x
unfolding test_at
test_takes = choice_takes marker_bytes FitsMarker
    (made (λ groups. Some (test.AnySet groups)) groups_at ∷ made (λ _. Some test.InCall) nothing_at
    ∷ made (λ groups. Some (test.InCallOf groups)) groups_at ∷ made (λ _. Some test.Never) nothing_at
    ∷ made (λ _. None) nothing_at ∷ []) (
      case_made marker_bytes FitsMarker 0 (λ groups. some_cond (test.AnySet groups)) groups_form
          (λ x fit. (refl, (fit, refl))),
      (
        case_made marker_bytes FitsMarker 1 (λ _. some_cond test.InCall) nothing_form (λ x fit. (refl, (tt, refl))),
        (
          case_made marker_bytes FitsMarker 2 (λ groups. some_cond (test.InCallOf groups)) groups_form
              (λ x fit. (refl, (fit, refl))),
          (
            case_made marker_bytes FitsMarker 3 (λ _. some_cond test.Never) nothing_form (λ x fit. (refl, (tt, refl))),
            (case_made marker_bytes FitsMarker 4 (λ _. no_cond) nothing_form (λ x fit. (refl, tt)), tt),
          ),
        ),
      ),
    )

test_again : (x : Option Cond) (rest : List ℕ) → FitsMarker x → test_at (marker_bytes x ++ rest) ≡ Some (x, rest)
unfolding test_at
test_again None rest fit = refl
test_again (Some (test.AnySet groups)) rest fit =
    made_again (λ groups. some_cond (test.AnySet groups)) groups_form groups rest fit.0
test_again (Some test.InCall) rest fit = refl
test_again (Some (test.InCallOf groups)) rest fit =
    made_again (λ groups. some_cond (test.InCallOf groups)) groups_form groups rest fit.0
test_again (Some test.Never) rest fit = refl
test_again (Some (test.Assert k)) rest fit = absurd cc

test_form : IsForm marker_bytes FitsMarker test_at
test_form = record { takes = test_takes; again = test_again }

-- a condition whose parts are the last of the free nodes
pub record FitsCond (free : Free) (t : Cond) (yes' : ℕ) (no' : Option ℕ) : Type 0 where
  pub rest : Free
  pub flag : Bool
  pub front : Free
  pub second : second_of free (is_some no') ≡ Some (no', rest)
  pub first : top_of rest ≡ Some ((yes', flag), front)
  pub test : asserted front (marker_of t) ≡ Some t
  pub may : may_have t (is_some no') ≡ true
  pub groups : FitsTest t

abbrev cond_parts_bytes : Option Cond × Bool → List ℕ
cond_parts_bytes x = marker_bytes x.0 ++ bit x.1 ∷ []

cond_form : IsForm cond_parts_bytes (λ x. FitsMarker x.0 × Any x.1) (joined test_at (λ _. bool_at))
cond_form = joined_form test_form (λ x fit. bool_form)

second_is : (free : Free) (b : Bool) (s : Option ℕ × Free) → second_of free b ≡ Some s → b ≡ is_some s.0
second_is free false s e = ap (λ (t : Option ℕ × Free). is_some t.0) (found_is (None, free) s e)
second_is free true s e =
    let p = bind_some (top_of free) (λ k. Some (Some k.0.0, k.1)) s e in
    let made_of : Option ℕ × Free = (Some p.0.0.0, p.0.1) in
    ap (λ (t : Option ℕ × Free). is_some t.0) (found_is made_of s p.2)

asserted_is : (free : Free) (c : Option Cond) (t : Cond) → FitsMarker c → asserted free c ≡ Some t
    → (marker_of t ≡ c) × FitsTest t
asserted_is free (Some c) t fit e =
    subst (λ (u : Cond). (marker_of u ≡ Some c) × FitsTest u) (found_is c t e) (fit.1, fit.0)
asserted_is free None t fit e =
    let p = bind_some (top_of free) (λ k. cond k.0.1 (Some (test.Assert k.0.0)) None) t e in
    let g = chosen_some p.0.0.1 (test.Assert p.0.0.0) t p.2 in
    subst (λ (u : Cond). (marker_of u ≡ None) × FitsTest u) g.1 (refl, tt)

child_is : (no' : Option ℕ) → child_bytes no' ≡ bit (is_some no') ∷ []
child_is None = refl
child_is (Some k) = refl

marker_is : (t : Cond) → test_bytes t ≡ marker_bytes (marker_of t)
marker_is (test.AnySet groups) = refl
marker_is test.InCall = refl
marker_is (test.InCallOf groups) = refl
marker_is test.Never = refl
marker_is (test.Assert k) = refl

-- ---- nodes

abbrev pub FitsNumber : Option ℕ → Type 0
FitsNumber number = Holds (λ n. n < 2 ^ 16) number × (is_numbered number ≡ true)

abbrev pub Places : Type 0
Places = ℕ × (ℕ × (ℕ × (ℕ × ℕ)))

abbrev pub FitsPlaces : Bool → List ℕ → Places → Type 0
FitsPlaces utf text x =
    (Any x.0 × ((x.1.0 < 2 ^ 32) × ((x.1.1.0 < 2 ^ 32) × ((x.1.1.1.0 < 2 ^ 32) × (x.1.1.1.1 < 2 ^ 32)))))
    × (is_callout utf text x ≡ true)

abbrev pub FitsNode : Around → List ℕ → Free → Node → Type 0
FitsNode around text free node.Empty = Unit {0}
FitsNode around text free (node.One item) = FitsItem around item
FitsNode around text free node.Break = Unit {0}
FitsNode around text free (node.Seq kids) = FitsKids free kids
FitsNode around text free (node.Group number branches) = FitsNumber number × FitsKids free branches
FitsNode around text free (node.Repeat body min max lazy) = FitsLimits min max × TopIs free body
FitsNode around text free (node.OneRepeat item min max lazy) = FitsItem around item × FitsLimits min max
FitsNode around text free (node.Atomic branches) = FitsKids free branches
FitsNode around text free (node.Look ahead positive once branches) = FitsKids free branches
FitsNode around text free (node.Cond t yes' no') = FitsCond free t yes' no'
FitsNode around text free (node.Call group) = group < 2 ^ 16
FitsNode around text free (node.Ref groups caseless) = AreGroups groups × (is_filled groups ≡ true)
FitsNode around text free (node.Anchor kind) = Unit {0}
FitsNode around text free node.KeepOut = Unit {0}
FitsNode around text free (node.VerbNode v) = FitsVerb around.verb_names v
FitsNode around text free (node.Callout number from to at len) =
    FitsPlaces around.utf text (number, (from, (to, (at, len))))

group_parts : (free : Free) → IsForm (λ (x : Option ℕ × List ℕ). optional two_bytes x.0 ++ kids_bytes x.1)
    (λ x. FitsNumber x.0 × FitsKids free x.1)
    (joined (passing is_numbered (optional_at (number_at w16))) (λ _. kids_at free))
group_parts free = joined_form (passing_form is_numbered (optional_form two_form)) (λ n fit. kids_form free)

abbrev LookParts : Type 0
LookParts = Bool × (Bool × (Bool × List ℕ))

look_parts : (free : Free)
    → IsForm (λ (x : LookParts). (bit x.0 ∷ []) ++ (bit x.1.0 ∷ []) ++ (bit x.1.1.0 ∷ []) ++ kids_bytes x.1.1.1)
    (λ x. Any x.0 × (Any x.1.0 × (Any x.1.1.0 × FitsKids free x.1.1.1)))
    (joined bool_at (λ _. joined bool_at (λ _. joined bool_at (λ _. kids_at free))))
look_parts free = joined_form bool_form (λ a fa. joined_form bool_form
    (λ b fb. joined_form bool_form (λ c fc. kids_form free)))

one_repeat_parts : (around : Around)
    → IsForm (λ (x : Item × Limits). item_bytes x.0 ++ limits_bytes x.1.0 x.1.1.0 x.1.1.1)
    (λ x. FitsItem around x.0 × FitsLimits x.1.0 x.1.1.0) (joined (item_at around) (λ _. limits_at))
one_repeat_parts around = joined_form (item_form around) (λ x fit. limits_form)

ref_parts : IsForm (λ (x : List ℕ × Bool). counted two_bytes x.0 ++ bit x.1 ∷ [])
    (λ x. (AreGroups x.0 × (is_filled x.0 ≡ true)) × Any x.1)
    (joined (passing is_filled groups_at) (λ _. bool_at))
ref_parts = joined_form (passing_form is_filled groups_form) (λ x fit. bool_form)

callout_parts : (utf : Bool) (text : List ℕ) → IsForm
    (λ (x : Places). (x.0 ∷ []) ++ four_bytes x.1.0 ++ four_bytes x.1.1.0 ++ four_bytes x.1.1.1.0
    ++ four_bytes x.1.1.1.1)
    (FitsPlaces utf text)
    (passing (is_callout utf text) (joined byte_at (λ _. joined (number_at w32) (λ _. joined (number_at w32)
    (λ _. joined (number_at w32) (λ _. number_at w32))))))
callout_parts utf text =
    passing_form (is_callout utf text) (joined_form byte_form
    (λ a fa. joined_form four_form (λ b fb. joined_form four_form (λ c fc. joined_form four_form (λ d fd. four_form)))))

abbrev group_node : Option ℕ × List ℕ → Node
group_node x = node.Group x.0 x.1

abbrev look_node : LookParts → Node
look_node x = node.Look x.0 x.1.0 x.1.1.0 x.1.1.1

abbrev one_repeat_node : Item × Limits → Node
one_repeat_node x = node.OneRepeat x.0 x.1.0 x.1.1.0 x.1.1.1

abbrev ref_node : List ℕ × Bool → Node
ref_node x = node.Ref x.0 x.1

abbrev callout_node : Places → Node
callout_node x = node.Callout x.0 x.1.0 x.1.1.0 x.1.1.1.0 x.1.1.1.1

abbrev repeat_bytes : Limits → List ℕ
repeat_bytes x = limits_bytes x.0 x.1.0 x.1.1

repeat_comes : (free : Free) (body : ℕ) (min : ℕ) (max : Option ℕ) (lazy : Bool) → FitsLimits min max → TopIs free body
    → Comes repeat_bytes (λ x. FitsLimits x.0 x.1.0) (repeat_of free) (limits_bytes min max lazy)
    (node.Repeat body min max lazy)
repeat_comes free body min max lazy fit top = record {
  value = (min, (max, lazy));
  fit = fit;
  is = ap (λ (o : Option ((ℕ × Bool) × Free)). o >>= λ k. Some (node.Repeat k.0.0 min max lazy)) top.is;
  same = refl;
}

cond_comes : (free : Free) (t : Cond) (yes' : ℕ) (no' : Option ℕ) → FitsCond free t yes' no' → FitsMarker (marker_of t)
    → Comes cond_parts_bytes (λ x. FitsMarker x.0 × Any x.1) (λ x. cond_of free x.0 x.1)
    (test_bytes t ++ child_bytes no') (node.Cond t yes' no')
unfolding cond_of
cond_comes free t yes' no' fit marker = record {
  value = (marker_of t, is_some no');
  fit = (marker, tt);
  is = ap (λ (o : Option (Option ℕ × Free)). o >>= λ s. top_of s.1 >>= λ y. asserted y.1 (marker_of t)
      >>= λ u. if may_have u (is_some no') then Some (node.Cond u y.0.0 s.0) else None) fit.second
      ∙ ap (λ (o : Option ((ℕ × Bool) × Free)). o >>= λ y. asserted y.1 (marker_of t)
      >>= λ u. if may_have u (is_some no') then Some (node.Cond u y.0.0 no') else None) fit.first
      ∙ ap (λ (o : Option Cond). o >>= λ u. if may_have u (is_some no') then Some (node.Cond u yes' no') else None)
      fit.test
      ∙ ap (λ (b : Bool). if b then Some (node.Cond t yes' no') else None) fit.may;
  same = ap (λ (u : List ℕ). u ++ child_bytes no') (marker_is t)
      ∙ ap (λ (u : List ℕ). marker_bytes (marker_of t) ++ u) (child_is no');
}

marker_fits : (t : Cond) → FitsTest t → FitsMarker (marker_of t)
marker_fits (test.AnySet groups) fit = (fit, refl)
marker_fits test.InCall fit = (fit, refl)
marker_fits (test.InCallOf groups) fit = (fit, refl)
marker_fits test.Never fit = (fit, refl)
marker_fits (test.Assert k) fit = tt

pub node_again : (around : Around) (text : List ℕ) (free : Free) (x : Node) (rest : List ℕ)
    → FitsNode around text free x → node_at around text free (node_bytes x ++ rest) ≡ Some (x, rest)
unfolding node_at behind leaf_at group_at look_at cond_at ref_at callout_at one_repeat_at
node_again around text free node.Empty rest fit = refl
node_again around text free (node.One item) rest fit = made_again node.One (item_form around) item rest fit
node_again around text free node.Break rest fit = refl
node_again around text free (node.Seq kids) rest fit = made_again node.Seq (kids_form free) kids rest fit
node_again around text free (node.Group number branches) rest fit =
    made_again group_node (group_parts free) (number, branches) rest fit
node_again around text free (node.Repeat body min max lazy) rest fit =
    chosen_again limits_form (repeat_comes free body min max lazy fit.0 fit.1) rest
node_again around text free (node.OneRepeat item min max lazy) rest fit =
    made_again one_repeat_node (one_repeat_parts around) (item, (min, (max, lazy))) rest fit
node_again around text free (node.Atomic branches) rest fit = made_again node.Atomic (kids_form free) branches rest fit
node_again around text free (node.Look ahead positive once branches) rest fit =
    made_again look_node (look_parts free) (ahead, (positive, (once, branches))) rest (tt, (tt, (tt, fit)))
node_again around text free (node.Cond t yes' no') rest fit =
    chosen_again cond_form (cond_comes free t yes' no' fit (marker_fits t fit.groups)) rest
node_again around text free (node.Call group) rest fit = made_again node.Call two_form group rest fit
node_again around text free (node.Ref groups caseless) rest fit =
    made_again ref_node ref_parts (groups, caseless) rest (fit, tt)
node_again around text free (node.Anchor kind) rest fit = made_again node.Anchor anchor_form kind rest tt
node_again around text free node.KeepOut rest fit = refl
node_again around text free (node.VerbNode v) rest fit =
    made_again node.VerbNode (verb_form around.verb_names) v rest fit
node_again around text free (node.Callout number from to at len) rest fit =
    made_again callout_node (callout_parts around.utf text) (number, (from, (to, (at, len)))) rest fit

-- what stands behind each kind
module _ (around : Around) (text : List ℕ) (free : Free) where
  Case : ℕ → Reader Node → Type 0
  Case = IsCase node_bytes (FitsNode around text free)

  row_case : Case 3 (made node.Seq (kids_at free))
  unfolding Case kids_at
  row_case = case_made node_bytes (FitsNode around text free) 3 node.Seq (kids_form free) (λ x fit. (refl, fit))

  group_case : Case 4 (group_at free)
  unfolding Case group_at
  group_case = case_made node_bytes (FitsNode around text free) 4 group_node (group_parts free) (λ x fit. (refl, fit))

  repeat_case : Case 5 (chosen (repeat_of free) limits_at)
  unfolding Case
  repeat_case = case_chosen node_bytes (FitsNode around text free) 5 (repeat_of free) limits_form (λ x y fit e.
      let p = bind_some (top_of free) (λ k. Some (node.Repeat k.0.0 x.0 x.1.0 x.1.1)) y e in
      subst (λ (z : Node). (node_bytes z ≡ 5 ∷ repeat_bytes x) × FitsNode around text free z)
      (found_is (node.Repeat p.0.0.0 x.0 x.1.0 x.1.1) y p.2)
      (refl, (fit, record { flag = p.0.0.1; front = p.0.1; is = p.1 })))

  atomic_case : Case 7 (made node.Atomic (kids_at free))
  unfolding Case
  atomic_case = case_made node_bytes (FitsNode around text free) 7 node.Atomic (kids_form free) (λ x fit. (refl, fit))

  look_case : Case 8 (look_at free)
  unfolding Case look_at
  look_case = case_made node_bytes (FitsNode around text free) 8 look_node (look_parts free)
      (λ x fit. (refl, fit.1.1.1))

  cond_taken : (c : Option Cond) (has_no : Bool) (y : Node) → FitsMarker c → cond_of free c has_no ≡ Some y
      → (node_bytes y ≡ 9 ∷ cond_parts_bytes (c, has_no)) × FitsNode around text free y
  unfolding cond_of
  cond_taken c has_no y fit e =
      let s = bind_some (second_of free has_no) (λ s. top_of s.1 >>= λ k. asserted k.1 c
      >>= λ u. if may_have u has_no then Some (node.Cond u k.0.0 s.0) else None) y e in
      let k = bind_some (top_of s.0.1) (λ k. asserted k.1 c
      >>= λ u. if may_have u has_no then Some (node.Cond u k.0.0 s.0.0) else None) y s.2 in
      let u = bind_some (asserted k.0.1 c) (λ u. if may_have u has_no then Some
      (node.Cond u k.0.0.0 s.0.0) else None) y k.2 in
      let g = chosen_some (may_have u.0 has_no) (node.Cond u.0 k.0.0.0 s.0.0) y u.2 in
      let has : has_no ≡ is_some s.0.0 = second_is free has_no s.0 s.1 in
      let test' = asserted_is k.0.1 c u.0 fit u.1 in
      let fits : FitsCond free u.0 k.0.0.0 s.0.0 = record {
        rest = s.0.1;
        flag = k.0.0.1;
        front = k.0.1;
        second = subst (λ (b : Bool). second_of free b ≡ Some s.0) has s.1;
        first = k.1;
        test = subst (λ (v : Option Cond). asserted k.0.1 v ≡ Some u.0) (sym test'.0) u.1;
        may = subst (λ (b : Bool). may_have u.0 b ≡ true) has g.0;
        groups = test'.1;
      } in
      let spelled : node_bytes (node.Cond u.0 k.0.0.0 s.0.0) ≡ 9 ∷ cond_parts_bytes (c, has_no) =
      ap (λ (v : List ℕ). 9 ∷ v ++ child_bytes s.0.0) (marker_is u.0)
      ∙ ap (λ (v : Option Cond). 9 ∷ marker_bytes v ++ child_bytes s.0.0) test'.0
      ∙ ap (λ (v : List ℕ). 9 ∷ marker_bytes c ++ v) (child_is s.0.0)
      ∙ ap (λ (b : Bool). 9 ∷ marker_bytes c ++ bit b ∷ []) (sym has) in
      subst (λ (z : Node). (node_bytes z ≡ 9 ∷ cond_parts_bytes (c, has_no)) × FitsNode around text free z) g.1
      (spelled, fits)

  cond_case : Case 9 (cond_at free)
  unfolding Case cond_at
  cond_case = case_chosen node_bytes (FitsNode around text free) 9 (λ x. cond_of free x.0 x.1) cond_form
      (λ x y fit e. cond_taken x.0 x.1 y fit.0 e)

  one_repeat_case : Case 6 (one_repeat_at around)
  unfolding Case one_repeat_at
  one_repeat_case = case_made node_bytes (FitsNode around text free) 6 one_repeat_node (one_repeat_parts around)
      (λ x fit. (refl, fit))

  ref_case : Case 11 ref_at
  unfolding Case ref_at
  ref_case = case_made node_bytes (FitsNode around text free) 11 ref_node ref_parts (λ x fit. (refl, fit.0))

  callout_case : Case 15 (callout_at around.utf text)
  unfolding Case callout_at
  callout_case = case_made node_bytes (FitsNode around text free) 15 callout_node (callout_parts around.utf text)
      (λ x fit. (refl, fit))

  one_case : Case 1 (made node.One (item_at around))
  unfolding Case
  one_case = case_made node_bytes (FitsNode around text free) 1 node.One (item_form around) (λ x fit. (refl, fit))

  call_case : Case 10 (made node.Call (number_at w16))
  unfolding Case
  call_case = case_made node_bytes (FitsNode around text free) 10 node.Call two_form (λ x fit. (refl, fit))

  anchor_case : Case 12 (made node.Anchor anchor_at)
  unfolding Case
  anchor_case = case_made node_bytes (FitsNode around text free) 12 node.Anchor anchor_form (λ x fit. (refl, tt))

  verb_case : Case 14 (made node.VerbNode (verb_at around.verb_names))
  unfolding Case
  verb_case = case_made node_bytes (FitsNode around text free) 14 node.VerbNode (verb_form around.verb_names)
      (λ x fit. (refl, fit))

  empty_case : Case 0 (made (λ _. node.Empty) nothing_at)
  unfolding Case
  empty_case = case_made node_bytes (FitsNode around text free) 0 (λ _. node.Empty) nothing_form (λ x fit. (refl, tt))

  break_case : Case 2 (made (λ _. node.Break) nothing_at)
  unfolding Case
  break_case = case_made node_bytes (FitsNode around text free) 2 (λ _. node.Break) nothing_form (λ x fit. (refl, tt))

  keep_out_case : Case 13 (made (λ _. node.KeepOut) nothing_at)
  unfolding Case
  keep_out_case = case_made node_bytes (FitsNode around text free) 13 (λ _. node.KeepOut) nothing_form
      (λ x fit. (refl, tt))

  -- one case, or the next
  one_or : (k : ℕ) (at other : Reader Node) → Case k at → (n : ℕ) → Case n other
      → Case n (λ bytes. cond (n == k) (at bytes) (other bytes))
  unfolding Case
  one_or k at other here n there bytes x fits e =
      elim (cases_Bool (n == k)) [
        | inl same ↦
            let e' : at bytes ≡ Some x = rw same at e in
            subst (λ (i : ℕ). Spelled node_bytes (FitsNode around text free) (i ∷ bytes) x) (sym (eqb-true n k same))
            (here bytes x fits e')
        | inr other ↦ there bytes x fits (rw other at e)
      ]

  none_case : (n : ℕ) → Case n (λ bytes. None)
  unfolding Case
  none_case n bytes x fits e = absurd cc

  leaf_case : (n : ℕ) → Case n (leaf_at around n)
  unfolding leaf_at
  leaf_case n =
      one_or 0 (made (λ _. node.Empty) nothing_at) _ empty_case n (
      one_or 1 (made node.One (item_at around)) _ one_case n (
      one_or 2 (made (λ _. node.Break) nothing_at) _ break_case n (
      one_or 6 (one_repeat_at around) _ one_repeat_case n (
      one_or 10 (made node.Call (number_at w16)) _ call_case n (
      one_or 11 ref_at _ ref_case n (
      one_or 12 (made node.Anchor anchor_at) _ anchor_case n (
      one_or 13 (made (λ _. node.KeepOut) nothing_at) _ keep_out_case n (
      one_or 14 (made node.VerbNode (verb_at around.verb_names)) _ verb_case n (none_case n)))))))))

  kind_case : (n : ℕ) → Case n (behind around text free n)
  unfolding behind
  kind_case n =
      one_or 3 (made node.Seq (kids_at free)) _ row_case n (
      one_or 4 (group_at free) _ group_case n (
      one_or 5 (chosen (repeat_of free) limits_at) _ repeat_case n (
      one_or 7 (made node.Atomic (kids_at free)) _ atomic_case n (
      one_or 8 (look_at free) _ look_case n (
      one_or 9 (cond_at free) _ cond_case n (
      one_or 15 (callout_at around.utf text) _ callout_case n (leaf_case n)))))))

  pub node_takes : (bytes : List ℕ) (x : Node × List ℕ) → AreBytes bytes → node_at around text free bytes ≡ Some x
      → Spelled node_bytes (FitsNode around text free) bytes x
  unfolding Case node_at
  node_takes [] x fits e = absurd cc
  node_takes (n ∷ bytes) x fits e = kind_case n bytes x (λ i. fits (suc i)) e

pub node_form : (around : Around) (text : List ℕ) (free : Free)
    → IsForm node_bytes (FitsNode around text free) (node_at around text free)
node_form around text free = record {
  takes = node_takes around text free;
  again = node_again around text free;
}
