-- What ends a reading ends what goes on from it.
use Rattle.std.proofs.Common.{◌≡◌, ℕ, List, [], ◌∷◌, ◌≤◌, ◌<◌, ◌&&◌, not, nat_lt, negsuc, Bool, true, false, length}
use Rattle.std.proofs.Common.{Result, Ok, Err, refl, subst, ap, sym, ◌∙◌, arith, Option, All, ◌+◌}
use Rattle.std.proofs.lemmas.Bool.Decides.{nat_tests}
use Rattle.std.proofs.lemmas.List.Elements.{All-weaker}
use Rattle.pat_tree.specs.declared.options.Options.{Options}
use Rattle.pat_tree.specs.declared.nodes.Placed.{Placed}
use Rattle.pat_tree.specs.declared.names.NameEntry.{NameEntry}
use Rattle.pat_tree.specs.Nested.{Nested}
use Rattle.pat_tree.specs.Refs.{bad_ref, has_group, refs}
use Rattle.token_parts.specs.declared.fault.Fault.{Fault}
use Rattle.token_parts.specs.Tell.{fault, ◌>>=◌}
use Rattle.pat_grammar.specs.declared.error.ReadError.{ReadError}
use Rattle.pat_grammar.specs.declared.error.ReadError.TheVariants.{Bad, Memory}
use Rattle.pat_grammar.specs.State.{State, Known}
use Rattle.pat_grammar.specs.Groups.{is_opened, missing, places_named}
use Rattle.std.specs.Str.{is_utf8}
use Rattle.std.specs.Str.Lossy.{utf8_valid_len}
use Rattle.pat_grammar.specs.Reading.{Parsed, checked, reading, read_with, in_utf8, read_from, started, start}
use Rattle.pat_grammar.specs.Reading.{literally}
use Rattle.pat_grammar.specs.Places.{Refuses}
use Rattle.pat_build.specs.Machine.{IsGiven, tree_with}
use Rattle.pat_nodes.specs.Nodes.{references_of}

refuses_on : {A B : Type 0} (r : Result A Fault) (f : A → Result B Fault) (e : ReadError) → Refuses r e
    → Refuses (r >>= f) e
refuses_on r f (Bad number at) h = rw h refl
refuses_on r f Memory h = tt

pub tree_refuses : (known : Known) (text : List ℕ) (st : State) (e : ReadError) → Refuses (reading known text st) e
    → Refuses (tree_with known text st) e
tree_refuses known text st e h = refuses_on (reading known text st)
    (λ (tree, last). checked st.options last.beyond (missing last.groups last.references) tree last) e h

pub tree_is : (known : Known) (text : List ℕ) (st : State) (tree : Nested) (last : State)
    → reading known text st ≡ Ok (tree, last) →
    tree_with known text st ≡ checked st.options last.beyond (missing last.groups last.references) tree last
tree_is known text st tree last h = rw h refl

bad_ref_same : (f g : ℕ → Bool) (rs : List (ℕ × ℕ)) → ((n : ℕ) → f n ≡ g n) → bad_ref f rs ≡ bad_ref g rs
bad_ref_same f g [] h = refl
bad_ref_same f g (r ∷ rs) h = rw (h r.1, bad_ref_same f g rs h) refl

-- the references are those of the draft, and so are the groups
pub missing_is : (ps : List Placed) (groups : ℕ) (o : Option ℕ) → ((n : ℕ) → has_group ps n ≡ is_opened groups n)
    → refs ps ≡ places_named (references_of ps) →
    bad_ref (has_group ps) (refs ps) ≡ o → missing groups (references_of ps) ≡ o
unfolding missing
missing_is ps groups o same are h = ap (bad_ref (is_opened groups)) (sym are)
    ∙ sym (bad_ref_same (has_group ps) (is_opened groups) (refs ps) same) ∙ h

opened_is : (groups n : ℕ) → n ≤ groups → 0 < n → is_opened groups n ≡ true
opened_is groups n h k = grind (arith, nat_tests)

-- each name is of a group of the draft
pub names_stand : (table : List NameEntry) (ps : List Placed) (groups : ℕ) → All (IsGiven groups) table
    → ((n : ℕ) → has_group ps n ≡ is_opened groups n) → All (λ entry. has_group ps entry.group ≡ true) table
names_stand table ps groups given same = All-weaker (IsGiven groups) (λ entry. has_group ps entry.group ≡ true)
    (λ e h. same e.group ∙ opened_is groups e.group h.1 h.0) table given

-- what is read, by the first reading, which finds the names
module _ (calling : Bool) (text : List ℕ) (st : State) where
  pub first_refuses : (e : ReadError) → Refuses (reading (record { names = []; calling = calling }) text st) e
      → Refuses (read_from calling text st) e
  unfolding read_from
  first_refuses e h = refuses_on (reading (record { names = []; calling = calling }) text st) _ e h

  pub from_is : (first : Nested × State) → reading (record { names = []; calling = calling }) text st ≡ Ok first
      → read_from calling text st ≡ tree_with (record { names = first.1.names; calling = calling }) text st
  unfolding read_from
  from_is first h = rw (read_from, h) refl

-- the whole reading
module _ (calling : Bool) (options : Options) (text : List ℕ) where
  pub read_long : 65536 < length text → read_with calling options text ≡ fault 120 0
  unfolding read_with
  read_long long =
      let over : nat_lt 65536 (length text) ≡ true = grind (arith, nat_tests) in
      rw (read_with, over) refl

  fits_is : length text ≤ 65536 → nat_lt 65536 (length text) ≡ false
  fits_is short = grind (arith, nat_tests)

  -- text that isn't UTF-8
  abbrev bad_utf : Result Parsed Fault
  bad_utf = Err (record { number = negsuc 2; at = utf8_valid_len text })

  module _ (short : length text ≤ 65536) where
    read_literally : options.literal ≡ true → read_with calling options text ≡ in_utf8 options.utf text
        (Ok (literally options text))
    unfolding read_with
    read_literally is = let fits : nat_lt 65536 (length text) ≡ false = fits_is short in rw (read_with, fits, is) refl

    pub read_literal : options.literal ≡ true → (options.utf && not (is_utf8 text)) ≡ false
        → read_with calling options text ≡ Ok (literally options text)
    read_literal is good = read_literally is ∙ rw good refl

    pub read_literal_bad : options.literal ≡ true → (options.utf && not (is_utf8 text)) ≡ true
        → read_with calling options text ≡ bad_utf
    read_literal_bad is bad = read_literally is ∙ rw bad refl

    module _ (is : options.literal ≡ false) where
      read_started : read_with calling options
          text ≡ (started text (length text + 1) (start options) >>= λ st. in_utf8 st.options.utf text
          (read_from calling text st))
      unfolding read_with
      read_started = let fits : nat_lt 65536 (length text) ≡ false = fits_is short in rw (read_with, fits, is) refl

      pub start_refuses : (e : ReadError) → Refuses (started text (length text + 1) (start options)) e
          → Refuses (read_with calling options text) e
      start_refuses e h =
          subst (λ r. Refuses r e) (sym read_started)
          (refuses_on (started text (length text + 1) (start options))
          (λ st. in_utf8 st.options.utf text (read_from calling text st)) e h)

      module _ (st : State) (begun : started text (length text + 1) (start options) ≡ Ok st) where
        read_begun : read_with calling options text ≡ in_utf8 st.options.utf text (read_from calling text st)
        read_begun = read_started ∙ ap (λ r. r >>= λ st. in_utf8 st.options.utf text (read_from calling text st)) begun

        pub utf_refuses : (st.options.utf && not (is_utf8 text)) ≡ true → read_with calling options text ≡ bad_utf
        utf_refuses bad = read_begun ∙ rw bad refl

        module _ (good : (st.options.utf && not (is_utf8 text)) ≡ false) where
          pub read_good : read_with calling options text ≡ read_from calling text st
          read_good = read_begun ∙ rw good refl
