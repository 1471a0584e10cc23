-- The forms of what an image has of a pattern besides its nodes.
use Rattle.std.proofs.Common.{◌≡◌, ℕ, zero, suc, ◌+◌, ◌^◌, ◌<◌, ◌≤◌, Bool, true, false, cond, ◌&&◌, ◌==◌}
use Rattle.std.proofs.Common.{List, [], ◌∷◌, ◌++◌, length, Option, Some, None, refl, sym, ap, ◌∙◌, subst, arith}
use Rattle.std.proofs.Common.{append-nil}
use Rattle.std.specs.Prelude.{IsSome, IsUtf8, MatchResult, Result, Ok, Err, is_ok, is_some, nat_le, nat_lt, All}
use Rattle.std.specs.declared.cmp.Ordering.TheVariants.{Less}
use Rattle.std.specs.Ordering.{is_lt}
use Rattle.std.proofs.Common.{inl, inr}
use Rattle.std.proofs.lemmas.Bool.{cases_Bool}
use Rattle.std.specs.List.{AllByRecursion}
use Rattle.std.specs.List.Sorted.{IsStrictlySortedBy}
use Rattle.std.specs.Cmp.{IsTotalOrder}
use Rattle.std.specs.Int.{w16, w32}
use Rattle.std.proofs.lemmas.Cmp.{on_total, then_total, nat_cmp_total, nat_list_cmp_total}
use Rattle.std.specs.Ordering.{nat_cmp}
use Rattle.std.specs.declared.cmp.Ordering.{Ordering}
use Rattle.std.proofs.lemmas.Bool.{eqb-true}
use Rattle.std.specs.Str.{is_utf8}
use Rattle.std.proofs.lemmas.Bool.Decides.{nat_tests}
use Rattle.std.proofs.lemmas.List.Elements.{All-from_recursion, recursion_from_All}
use Rattle.std.proofs.lemmas.Map.Views.{length-le_from_below}
use Rattle.std.proofs.lemmas.Str.{IsUtf8-from_is_utf8, is_utf8-from_IsUtf8}
use Rattle.uni_text.specs.Characters as uni_text
use Rattle.uni_text.specs.Properties.{prop_by_number}
use Rattle.pat_tree.specs.declared.options.Options.{Options}
use Rattle.pat_tree.specs.declared.options.Newline.{Newline}
use Rattle.pat_tree.specs.declared.options.Newline.TheVariants as newline
use Rattle.pat_tree.specs.declared.options.Bsr.{Bsr}
use Rattle.pat_tree.specs.declared.options.Bsr.TheVariants as bsr
use Rattle.pat_tree.specs.declared.nodes.SetName.{SetName}
use Rattle.pat_tree.specs.declared.nodes.SetName.TheVariants as set
use Rattle.pat_tree.specs.declared.nodes.Part.{Part}
use Rattle.pat_tree.specs.declared.nodes.Part.TheVariants as part
use Rattle.pat_tree.specs.declared.nodes.ClassSpec.{ClassSpec}
use Rattle.pat_tree.specs.declared.names.NameEntry.{NameEntry}
use Rattle.pat_tree.specs.Names.{AreInOrder, name_cmp, with_name}
use Rattle.pat_save.specs.Checked.{IsCharacter, IsClass, IsName, IsPart, IsRising, IsSetName, IsVerbName}
use Rattle.pat_save.specs.Sized.{IsSizedPart, IsSizedSet}
use Rattle.pat_save.specs.Fields.{bit, number_of, optional, counted, two_bytes, four_bytes, short_text}
use Rattle.pat_save.specs.Image.{flags_of, newline_place, bsr_place, options_bytes, text_bytes, name_bytes, set_place}
use Rattle.pat_save.specs.Image.{property_bytes, set_bytes, part_bytes, class_bytes}
use Rattle.pat_save.specs.Reading.{Reader, ◌>>=◌, passing, made, chosen, joined, byte_at, number_at, counted_at}
use Rattle.pat_save.specs.Reading.{group_after, groups_at}
use Rattle.pat_save.specs.Reading.{bytes_at}
use Rattle.pat_save.specs.Reading.{bool_at, short_text_at, is_size, optional_at, listed, comes_after}
use Rattle.pat_save.specs.ReadTables.{bit_of, options_of, newline_of, bsr_of, is_flags, options_at, is_checked, text_at}
use Rattle.pat_save.specs.ReadTables.{name_at, name_after, verb_name_at, set_of, property_at, set_at, bools_of}
use Rattle.pat_save.specs.ReadTables.{two_bools_at}
use Rattle.pat_save.specs.ReadTables.{is_character, is_range, range_at, set_part_at, part_at, class_at}
use Rattle.pat_save.proofs.Bits.{flags_back, options_back}
use Rattle.pat_save.proofs.Numbers.{number_below}
use Rattle.pat_save.proofs.Forms.{AreBytes, Any, Each, Follow, Holds, IsCase, IsForm, Spelled, bind_some, found_is}
use Rattle.pat_save.proofs.Forms.{bool_form, byte_form, bytes_form, case_made, choice_takes, chosen_form, counted_form}
use Rattle.pat_save.proofs.Forms.{either_takes, fit_form, four_form, joined_form, listed_is, made_again, made_form}
use Rattle.pat_save.proofs.Forms.{nothing_form, optional_form, passing_form, passing_true, two_form}
use Rattle.pat_save.proofs.Sorting.{is_less}
use Rattle.pat_save.proofs.Sorting.{Rising, all_follow, and_both, both_true, follow_all, follow_sorted, sorted_follow}

-- ---- texts

size_is : (most n : ℕ) → is_size most n ≡ true → (1 ≤ n) × (n ≤ most)
size_is most n e = let b = both_true (nat_le 1 n) (nat_le n most) e in
    (grind (arith, nat_tests), grind (arith, nat_tests))

is_a_size : (most n : ℕ) → 1 ≤ n → n ≤ most → is_size most n ≡ true
is_a_size most n low high = and_both (nat_le 1 n) (nat_le n most) (grind (arith, nat_tests)) (grind (arith, nat_tests))

pub short_form : (most : ℕ) → most ≤ 255 → IsForm short_text (IsName most) (short_text_at most)
unfolding short_text_at
short_form most few = made_form (λ (x : ℕ × List ℕ). x.1)
    (joined_form (passing_form (is_size most) byte_form) (λ n fit. bytes_form n)) (record {
      takes = λ x fit.
          let size = size_is most x.0 fit.0.1 in
          (ap (λ (n : ℕ). n ∷ x.1) (sym fit.1), (omega (arith, size.0, fit.1), omega (arith, size.1, fit.1)));
      back = λ text. (length text, text);
      again = λ text fit.
          (((tt, is_a_size most (length text) fit.0 fit.1), refl), refl, refl);
    })

pub checked_is : (utf : Bool) (text : List ℕ) → is_checked utf text ≡ true → uni_text.IsChecked utf text
checked_is false text e = λ on. absurd cc
checked_is true text e = λ on. IsUtf8-from_is_utf8 text e

pub is_a_checked : (utf : Bool) (text : List ℕ) → uni_text.IsChecked utf text → is_checked utf text ≡ true
is_a_checked false text e = refl
is_a_checked true text e = is_utf8-from_IsUtf8 text (e refl)

pub checked_test : {T E : Type 0} (utf : Bool) (text : List ℕ) (r : Result T E) → utf ≡ true
    → MatchResult r (λ _. IsUtf8 text) (λ _. ¬ (IsUtf8 text)) → is_ok r ≡ is_checked utf text
checked_test false text r on exact = absurd cc
checked_test true text (Ok x) on exact = sym (is_utf8-from_IsUtf8 text exact)
checked_test true text (Err e) on exact =
    elim (cases_Bool (is_utf8 text)) [
      | inl is ↦ absurd (exact (IsUtf8-from_is_utf8 text is))
      | inr is_not ↦ sym is_not
    ]

pub verb_name_form : (utf : Bool) → IsForm short_text (IsVerbName utf) (verb_name_at utf)
unfolding verb_name_at
verb_name_form utf = fit_form (passing_form (is_checked utf) (short_form 255 (omega arith)))
    (λ text fit. record { size = fit.0; checked = checked_is utf text fit.1 })
    (λ text fit. (fit.size, is_a_checked utf text fit.checked))

-- a text of a pattern
abbrev pub IsText : Bool → List ℕ → Type 0
IsText utf text = (length text ≤ 65536) × uni_text.IsChecked utf text

text_made : IsForm text_bytes (λ text. length text ≤ 65536)
    (made (λ (x : ℕ × List ℕ). x.1) (joined (passing (λ n. nat_le n 65536) (number_at w32)) bytes_at))
text_made = made_form (λ (x : ℕ × List ℕ). x.1) (joined_form (passing_form (λ n. nat_le n 65536) four_form)
    (λ n fit. bytes_form n)) (record {
      takes = λ x fit. (ap (λ (n : ℕ). four_bytes n ++ x.1) (sym fit.1), grind (arith, nat_tests, fit.0.1, fit.1));
      back = λ text. (length text, text);
      again = λ text fit. (((omega (arith, fit), grind (arith, nat_tests, fit)), refl), refl, refl);
    })

pub text_form : (utf : Bool) → IsForm text_bytes (IsText utf) (text_at utf)
unfolding text_at
text_form utf = fit_form (passing_form (is_checked utf) text_made) (λ text fit. (fit.0, checked_is utf text fit.1))
    (λ text fit. (fit.0, is_a_checked utf text fit.1))

-- ---- options

newline_again : (x : Newline) → newline_of (newline_place x) ≡ Some x
newline_again newline.Cr = refl
newline_again newline.Lf = refl
newline_again newline.CrLf = refl
newline_again newline.AnyCrLf = refl
newline_again newline.Any = refl
newline_again newline.Nul = refl

abbrev newline_bytes : Newline → List ℕ
newline_bytes x = newline_place x ∷ []

newline_form : IsForm newline_bytes Any (chosen newline_of byte_at)
newline_form = chosen_form newline_of byte_form (record {
  takes = λ n x fit e. (
    listed_is (λ n x. n ∷ [] ≡ newline_bytes x) 0
        (newline.Cr ∷ newline.Lf ∷ newline.CrLf ∷ newline.AnyCrLf ∷ newline.Any ∷ newline.Nul ∷ []) n x
        (refl, (refl, (refl, (refl, (refl, (refl, tt)))))) e,
    tt,
  );
  again = λ x fit. record { value = newline_place x; fit = tt; is = newline_again x; same = refl };
})

bsr_again : (x : Bsr) → bsr_of (bsr_place x) ≡ Some x
bsr_again bsr.Unicode = refl
bsr_again bsr.AnyCrLf = refl

abbrev bsr_bytes : Bsr → List ℕ
bsr_bytes x = bsr_place x ∷ []

bsr_form : IsForm bsr_bytes Any (chosen bsr_of byte_at)
bsr_form = chosen_form bsr_of byte_form (record {
  takes = λ n x fit e.
      (listed_is (λ n x. n ∷ [] ≡ bsr_bytes x) 0 (bsr.Unicode ∷ bsr.AnyCrLf ∷ []) n x (refl, (refl, tt)) e, tt);
  again = λ x fit. record { value = bsr_place x; fit = tt; is = bsr_again x; same = refl };
})

-- a match limit has four bytes
abbrev pub AreSizedOptions : Options → Type 0
AreSizedOptions o = Holds (λ n. n < 2 ^ 32) o.match_limit

few_flags : (o : Options) → number_of (flags_of o) < 2097152
few_flags o = omega (arith, number_below (flags_of o))

abbrev OptionsRead : Type 0
OptionsRead = ℕ × (Newline × (Bsr × Option ℕ))

abbrev options_made : OptionsRead → Options
options_made x = options_of x.0 x.1.0 x.1.1.0 x.1.1.1

options_parts : IsForm
    (λ (x : OptionsRead). four_bytes x.0 ++ (newline_bytes x.1.0 ++ (bsr_bytes x.1.1.0 ++ optional four_bytes x.1.1.1)))
    (λ x. ((x.0 < 2 ^ 32) × (is_flags x.0 ≡ true))
    × (Any x.1.0 × (Any x.1.1.0 × Holds (λ n. n < 2 ^ 32) x.1.1.1)))
    (joined (passing is_flags (number_at w32)) (λ _. joined (chosen newline_of byte_at)
    (λ _. joined (chosen bsr_of byte_at) (λ _. optional_at (number_at w32)))))
options_parts =
    joined_form (passing_form is_flags four_form)
    (λ n fit. joined_form newline_form (λ x fits. joined_form bsr_form (λ y fitted. optional_form four_form)))

pub options_form : IsForm options_bytes AreSizedOptions options_at
unfolding options_at
options_form = made_form options_made options_parts (record {
  takes = λ x fit. (
    ap (λ (n : ℕ). four_bytes n ++ (newline_place x.1.0 ∷ bsr_place x.1.1.0 ∷ optional four_bytes x.1.1.1))
        (sym (flags_back x.0 x.1.0 x.1.1.0 x.1.1.1 (grind (arith, nat_tests, fit.0.1)))),
    fit.1.1.1,
  );
  back = λ o. (number_of (flags_of o), (o.newline, (o.bsr, o.match_limit)));
  again = λ o fit. (
    ((omega (arith, few_flags o), grind (arith, nat_tests, few_flags o)), (tt, (tt, fit))),
    options_back o,
    refl,
  );
})

-- ---- names

-- a group has two bytes
abbrev pub IsNameEntry : NameEntry → Type 0
IsNameEntry entry = IsName 128 entry.name × (entry.group ≤ 65535)

abbrev name_made : ℕ × List ℕ → NameEntry
name_made x = record { name = x.1; group = x.0 }

name_form : IsForm name_bytes IsNameEntry name_at
unfolding name_at
name_form = made_form name_made (joined_form (passing_form (λ n. nat_le n 65535) four_form)
    (λ n fit. short_form 128 (omega arith))) (record {
      takes = λ x fit. (refl, (fit.1, grind (arith, nat_tests, fit.0.1)));
      back = λ entry. (entry.group, entry.name);
      again = λ entry fit. (((omega (arith, fit.1), grind (arith, nat_tests, fit.1)), fit.0), refl, refl);
    })

pub name_after_form : (known : List NameEntry) → IsForm name_bytes (Rising name_cmp IsNameEntry known)
    (name_after known)
unfolding name_after
name_after_form known = passing_form (comes_after name_cmp known) name_form

abbrev pub AreNames : List NameEntry → Type 0
AreNames xs = AreInOrder xs × AllByRecursion IsNameEntry xs × (length xs < 2 ^ 32)

none_sorted : {A : Type 0} (cmp : A → A → Ordering) → IsStrictlySortedBy cmp []
unfolding IsStrictlySortedBy
none_sorted cmp = tt

pub name_comes : (known : List NameEntry) (bytes : List ℕ) (x : NameEntry) (after : List ℕ)
    → name_after known bytes ≡ Some (x, after) → comes_after name_cmp known x ≡ true
unfolding name_after
name_comes known bytes x after e = passing_true (comes_after name_cmp known) name_at bytes (x, after) e

-- a name behind all of the table stands at its end
pub with_name_last : (known : List NameEntry) (e : NameEntry) → comes_after name_cmp known e ≡ true
    → with_name e known ≡ known ++ e ∷ []
with_name_last [] e last = refl
with_name_last (x ∷ known) e last =
    let b = both_true (is_lt (name_cmp x e)) (comes_after name_cmp known e) last in
    let less : name_cmp x e ≡ Less = is_less (name_cmp x e) b.0 in
    rw (less, with_name) (ap (λ (l : List NameEntry). x ∷ l) (with_name_last known e b.1))

pub name_total : IsTotalOrder name_cmp
name_total = then_total (on_total (λ e. e.name) nat_list_cmp_total) (on_total (λ e. e.group) nat_cmp_total)

pub none_ordered : AreInOrder []
none_ordered = none_sorted name_cmp

pub names_form : IsForm (counted name_bytes) AreNames (counted_at name_after)
names_form = fit_form (counted_form name_after_form)
    (λ xs fit. let b = follow_sorted name_cmp IsNameEntry [] xs (none_sorted name_cmp) fit.0 in (b.0, b.1, fit.1))
    (λ xs fit. (sorted_follow name_cmp IsNameEntry [] xs fit.0 fit.1, fit.2))

abbrev pub AreVerbNames : Bool → List (List ℕ) → Type 0
AreVerbNames utf xs = AllByRecursion (IsVerbName utf) xs × (length xs < 2 ^ 32)

pub verb_names_form : (utf : Bool) → IsForm (counted short_text) (AreVerbNames utf) (counted_at (λ _. verb_name_at utf))
verb_names_form utf = fit_form (counted_form (λ known. verb_name_form utf))
    (λ xs fit. (follow_all (IsVerbName utf) [] xs fit.0, fit.1))
    (λ xs fit. (all_follow (IsVerbName utf) [] xs fit.0, fit.1))

-- numbers of groups
abbrev pub AreGroups : List ℕ → Type 0
AreGroups xs = IsRising xs × AllByRecursion (λ n. n < 2 ^ 16) xs

group_after_form : (known : List ℕ) → IsForm two_bytes (Rising nat_cmp (λ n. n < 2 ^ 16) known) (group_after known)
unfolding group_after
group_after_form known = passing_form (comes_after nat_cmp known) two_form

pub group_comes : (known bytes : List ℕ) (g : ℕ) (after : List ℕ) → group_after known bytes ≡ Some (g, after)
    → comes_after nat_cmp known g ≡ true
unfolding group_after
group_comes known bytes g after e = passing_true (comes_after nat_cmp known) (number_at w16) bytes (g, after) e

pub none_rising : IsRising []
none_rising = none_sorted nat_cmp

few_groups : (xs : List ℕ) → AreGroups xs → length xs < 2 ^ 32
few_groups xs fit = omega (
  arith,
  length-le_from_below 65536 xs fit.0 (All-from_recursion (λ n. n < 65536) xs fit.1),
)

pub groups_form : IsForm (counted two_bytes) AreGroups groups_at
unfolding groups_at
groups_form = fit_form (counted_form group_after_form)
    (λ xs fit. follow_sorted nat_cmp (λ n. n < 2 ^ 16) [] xs (none_sorted nat_cmp) fit.0)
    (λ xs fit. (sorted_follow nat_cmp (λ n. n < 2 ^ 16) [] xs fit.0 fit.1, few_groups xs fit))

-- ---- classes

bools_again : (a b : Bool) → bools_of (number_of (a ∷ b ∷ [])) ≡ Some (a, b)
bools_again false false = refl
bools_again true false = refl
bools_again false true = refl
bools_again true true = refl

abbrev bools_bytes : Bool × Bool → List ℕ
bools_bytes x = number_of (x.0 ∷ x.1 ∷ []) ∷ []

bools_form : IsForm bools_bytes Any two_bools_at
unfolding two_bools_at
bools_form = chosen_form bools_of byte_form (record {
  takes = λ n x fit e. (
    listed_is (λ n x. n ∷ [] ≡ bools_bytes x) 0
        ((false, false) ∷ (true, false) ∷ (false, true) ∷ (true, true) ∷ []) n x (refl, (refl, (refl, (refl, tt)))) e,
    tt,
  );
  again = λ x fit. record {
    value = number_of (x.0 ∷ x.1 ∷ []);
    fit = tt;
    is = bools_again x.0 x.1;
    same = refl;
  };
})

abbrev IsSet : SetName → Type 0
IsSet name = IsSetName name × IsSizedSet name

abbrev is_property : ℕ → Bool
is_property n = is_some (prop_by_number n)

property_case : IsCase set_bytes IsSet 16 property_at
unfolding property_at
property_case = case_made set_bytes IsSet 16 set.Property (passing_form is_property two_form)
    (λ n fit. (refl, (fit.1, fit.0)))

set_is : (n : ℕ) (x : SetName) → set_of n ≡ Some x → (set_bytes x ≡ n ∷ []) × IsSet x
set_is n x e = listed_is (λ n x. (set_bytes x ≡ n ∷ []) × IsSet x) 0
    (set.Digit ∷ set.Space ∷ set.Word ∷ set.Alpha ∷ set.Alnum ∷ set.Lower ∷ set.Upper ∷ set.Blank
    ∷ set.Cntrl ∷ set.Graph ∷ set.Print ∷ set.Punct ∷ set.Ascii ∷ set.Xdigit ∷ set.H ∷ set.V ∷ []) n x (
      (refl, (tt, tt)),
      (
        (refl, (tt, tt)),
        (
          (refl, (tt, tt)),
          (
            (refl, (tt, tt)),
            (
              (refl, (tt, tt)),
              (
                (refl, (tt, tt)),
                (
                  (refl, (tt, tt)),
                  (
                    (refl, (tt, tt)),
                    (
                      (refl, (tt, tt)),
                      (
                        (refl, (tt, tt)),
                        (
                          (refl, (tt, tt)),
                          (
                            (refl, (tt, tt)),
                            ((refl, (tt, tt)), ((refl, (tt, tt)), ((refl, (tt, tt)), ((refl, (tt, tt)), tt)))),
                          ),
                        ),
                      ),
                    ),
                  ),
                ),
              ),
            ),
          ),
        ),
      ),
    ) e

set_behind : (n : ℕ) (bytes : List ℕ) (x : SetName × List ℕ) → AreBytes bytes → (b : Bool) → (n == 16) ≡ b
    → cond b (property_at bytes) (set_of n >>= λ name. Some (name, bytes)) ≡ Some x
    → Spelled set_bytes IsSet (n ∷ bytes) x
unfolding property_at
set_behind n bytes x fits true is e =
    subst (λ (k : ℕ). Spelled set_bytes IsSet (k ∷ bytes) x) (sym (eqb-true n 16 is)) (property_case bytes x fits e)
set_behind n bytes x fits false is e =
    let p = bind_some (set_of n) (λ name. Some (name, bytes)) x e in
    let there = set_is n p.0 p.1 in
    let made_of : SetName × List ℕ = (p.0, bytes) in
    subst (λ (y : SetName × List ℕ). Spelled set_bytes IsSet (n ∷ bytes) y) (found_is made_of x p.2)
    (record { parts = ap (λ (u : List ℕ). u ++ bytes) (sym there.0); fit = there.1; rest = fits })

set_takes : (bytes : List ℕ) (x : SetName × List ℕ) → AreBytes bytes → set_at bytes ≡ Some x
    → Spelled set_bytes IsSet bytes x
unfolding set_at property_at
set_takes [] x fits e = absurd cc
set_takes (n ∷ bytes) x fits e = set_behind n bytes x (λ i. fits (suc i)) (n == 16) refl e

set_again : (x : SetName) (rest : List ℕ) → IsSet x → set_at (set_bytes x ++ rest) ≡ Some (x, rest)
unfolding set_at property_at
set_again set.Digit rest fit = refl
set_again set.Space rest fit = refl
set_again set.Word rest fit = refl
set_again set.Alpha rest fit = refl
set_again set.Alnum rest fit = refl
set_again set.Lower rest fit = refl
set_again set.Upper rest fit = refl
set_again set.Blank rest fit = refl
set_again set.Cntrl rest fit = refl
set_again set.Graph rest fit = refl
set_again set.Print rest fit = refl
set_again set.Punct rest fit = refl
set_again set.Ascii rest fit = refl
set_again set.Xdigit rest fit = refl
set_again set.H rest fit = refl
set_again set.V rest fit = refl
set_again (set.Property n) rest fit = made_again set.Property (passing_form is_property two_form) n rest (fit.1, fit.0)

set_form : IsForm set_bytes IsSet set_at
set_form = record { takes = set_takes; again = set_again }

pub character_is : (utf : Bool) (c : ℕ) → is_character utf c ≡ true → IsCharacter utf c
character_is false c e = grind (arith, nat_tests, e)
character_is true c e = e

pub is_a_character : (utf : Bool) (c : ℕ) → IsCharacter utf c → is_character utf c ≡ true
is_a_character false c e = grind (arith, nat_tests, e)
is_a_character true c e = e

pub character_below : (utf : Bool) (c : ℕ) → IsCharacter utf c → c < 2 ^ 32
character_below false c e = omega (arith, e)
character_below true c e = grind (arith, nat_tests, e)

abbrev pub IsPartAt : Bool → Part → Type 0
IsPartAt utf x = IsPart utf x × IsSizedPart x

range_is : (utf : Bool) (low high : ℕ) → is_range utf (low, high) ≡ true
    → IsCharacter utf low × IsCharacter utf high × (low ≤ high)
range_is utf low high e =
    let a = both_true (is_character utf low && is_character utf high) (nat_le low high) e in
    let b = both_true (is_character utf low) (is_character utf high) a.0 in
    (character_is utf low b.0, character_is utf high b.1, grind (arith, nat_tests, a.1))

is_a_range : (utf : Bool) (low high : ℕ) → IsCharacter utf low → IsCharacter utf high → low ≤ high
    → is_range utf (low, high) ≡ true
is_a_range utf low high one other le =
    and_both (is_character utf low && is_character utf high) (nat_le low high)
    (and_both (is_character utf low) (is_character utf high) (is_a_character utf low one)
    (is_a_character utf high other))
    (grind (arith, nat_tests, le))

abbrev pair_bytes : ℕ × ℕ → List ℕ
pair_bytes x = four_bytes x.0 ++ four_bytes x.1

abbrev IsPair : Bool → ℕ × ℕ → Type 0
IsPair utf x = ((x.0 < 2 ^ 32) × (x.1 < 2 ^ 32)) × (is_range utf x ≡ true)

pair_form : (utf : Bool) → IsForm pair_bytes (IsPair utf)
    (passing (is_range utf) (joined (number_at w32) (λ _. number_at w32)))
pair_form utf = passing_form (is_range utf) (joined_form four_form (λ n fit. four_form))

abbrev set_part_bytes : (Bool × Bool) × SetName → List ℕ
set_part_bytes x = bools_bytes x.0 ++ set_bytes x.1

set_part_form : IsForm set_part_bytes (λ x. Any x.0 × IsSet x.1) (joined two_bools_at (λ _. set_at))
unfolding set_at two_bools_at
set_part_form = joined_form bools_form (λ x fit. set_form)

part_again : (utf : Bool) (x : Part) (rest : List ℕ) → IsPartAt utf x → part_at utf (part_bytes x ++ rest) ≡ Some
    (x, rest)
unfolding part_at range_at set_part_at bool_at
part_again utf (part.Range low high) rest fit =
    made_again (λ (x : ℕ × ℕ). part.Range x.0 x.1) (pair_form utf) (low, high) rest (
      (character_below utf low fit.0.0, character_below utf high fit.0.1),
      is_a_range utf low high fit.0.0 fit.0.1
          fit.0.2,
    )
part_again utf (part.Set name not' ucp) rest fit =
    made_again (λ (x : (Bool × Bool) × SetName). part.Set x.1 x.0.0 x.0.1) set_part_form ((not', ucp), name) rest
    (tt, (fit.0, fit.1))

part_form : (utf : Bool) → IsForm part_bytes (IsPartAt utf) (part_at utf)
unfolding part_at range_at set_part_at
part_form utf = record {
  takes = either_takes part_bytes (IsPartAt utf) (range_at utf) set_part_at
      (case_made part_bytes (IsPartAt utf) 0 (λ (x : ℕ × ℕ). part.Range x.0 x.1) (pair_form utf)
      (λ x fit. (refl, (range_is utf x.0 x.1 fit.1, tt))))
      (case_made part_bytes (IsPartAt utf) 1 (λ (x : (Bool × Bool) × SetName). part.Set x.1 x.0.0 x.0.1) set_part_form
      (λ x fit. (refl, fit.1)));
  again = part_again utf;
}

abbrev AreParts : Bool → List Part → Type 0
AreParts utf xs = AllByRecursion (IsPartAt utf) xs × (length xs < 2 ^ 32)

parts_form : (utf : Bool) → IsForm (counted part_bytes) (AreParts utf) (counted_at (λ _. part_at utf))
parts_form utf = fit_form (counted_form (λ known. part_form utf))
    (λ xs fit. (follow_all (IsPartAt utf) [] xs fit.0, fit.1))
    (λ xs fit. (all_follow (IsPartAt utf) [] xs fit.0, fit.1))

-- numbers of properties have two bytes
abbrev pub IsSizedClass : ClassSpec → Type 0
IsSizedClass spec = All IsSizedPart spec.parts

abbrev pub IsClassAt : Bool → ClassSpec → Type 0
IsClassAt utf spec = IsClass utf spec × IsSizedClass spec

all_both : {A : Type 0} (f g : A → Type 0) (xs : List A) → AllByRecursion (λ x. f x × g x) xs
    → AllByRecursion f xs × AllByRecursion g xs
all_both f g [] all = (tt, tt)
all_both f g (x ∷ xs) all = let more = all_both f g xs all.1 in ((all.0.0, more.0), (all.0.1, more.1))

both_all : {A : Type 0} (f g : A → Type 0) (xs : List A) → AllByRecursion f xs → AllByRecursion g xs
    → AllByRecursion (λ x. f x × g x) xs
both_all f g [] one other = tt
both_all f g (x ∷ xs) one other = ((one.0, other.0), both_all f g xs one.1 other.1)

pub split_all : {A : Type 0} (f g : A → Type 0) (xs : List A) → AllByRecursion (λ x. f x × g x) xs → All f xs × All g xs
split_all f g xs all =
    let both = all_both f g xs all in (All-from_recursion f xs both.0, All-from_recursion g xs both.1)

pub joined_all : {A : Type 0} (f g : A → Type 0) (xs : List A) → All f xs → All g xs → AllByRecursion
    (λ x. f x × g x) xs
joined_all f g xs one other = both_all f g xs (recursion_from_All f xs one) (recursion_from_All g xs other)

abbrev class_made : (Bool × Bool) × List Part → ClassSpec
class_made x = record { negated = x.0.0; caseless = x.0.1; parts = x.1 }

pub class_form : (utf : Bool) → IsForm class_bytes (IsClassAt utf) (class_at utf)
unfolding class_at
class_form utf = made_form class_made (joined_form bools_form (λ x fit. parts_form utf)) (record {
  takes = λ x fit.
      let all = split_all (IsPart utf) IsSizedPart x.1 fit.1.0 in
      (refl, (record { few = omega (arith, fit.1.1); parts = all.0 }, all.1));
  back = λ spec. ((spec.negated, spec.caseless), spec.parts);
  again = λ spec fit.
      ((tt, (joined_all (IsPart utf) IsSizedPart spec.parts fit.0.parts fit.1, omega (arith, fit.0.few))), refl, refl);
})

abbrev pub AreClasses : Bool → List ClassSpec → Type 0
AreClasses utf xs = AllByRecursion (IsClassAt utf) xs × (length xs < 2 ^ 32)

pub classes_form : (utf : Bool) → IsForm (counted class_bytes) (AreClasses utf) (counted_at (λ _. class_at utf))
classes_form utf = fit_form (counted_form (λ known. class_form utf))
    (λ xs fit. (follow_all (IsClassAt utf) [] xs fit.0, fit.1))
    (λ xs fit. (all_follow (IsClassAt utf) [] xs fit.0, fit.1))
