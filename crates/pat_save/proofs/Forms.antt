-- What is read is spelled so, and what is spelled so is read.
use Rattle.std.proofs.Common.{◌≡◌, ℕ, zero, suc, ◌+◌, ◌^◌, ◌<◌, ◌≤◌, Bool, true, false, cond, eqb, ltb, ◌==◌, List, []}
use Rattle.std.proofs.Common.{◌∷◌, ◌++◌, length, get_or, take, drop, Option, Some, None, refl, sym, ap, subst, ◌∙◌}
use Rattle.std.proofs.Common.{append_assoc, append-nil, arith, inl, inr}
use Rattle.std.specs.Int.{Width, w16, w32, byte_len, from_le_bytes, to_le_bytes}
use Rattle.std.specs.List.{flat_map}
use Rattle.std.proofs.lemmas.Bool.{cases_lt, cases_Bool, eqb-true, ltb-false, le-ltb}
use Rattle.std.proofs.lemmas.List.{take_at, drop_at, take-append-drop, length-append, length-take, get_or-drop}
use Rattle.std.proofs.lemmas.List.{get_or-take, get_or_past}
use Rattle.std.proofs.lemmas.Nat.{le_bytes_2, le_bytes_4, from_le_bytes-to_le_bytes_2, from_le_bytes-to_le_bytes_4}
use Rattle.pat_save.specs.Fields.{bit, counted, four_bytes, two_bytes, optional}
use Rattle.pat_save.specs.Reading.{Reader, ◌>>=◌, joined, chosen, made, passing, gathered, counted_at, number_at}
use Rattle.pat_save.specs.Reading.{byte_at, bytes_at, nothing_at, listed, choice_at, bool_at, either_at, optional_at}

abbrev pub AreBytes : List ℕ → Type 0
AreBytes bytes = (i : ℕ) → get_or bytes i 0 < 256

-- the value of a step that gave one
pub bind_some : {A B : Type 0} (o : Option A) (f : A → Option B) (y : B) → (o >>= f) ≡ Some y
    → (x : A) × (o ≡ Some x) × (f x ≡ Some y)
bind_some None f y e = absurd cc
bind_some (Some x) f y e = (x, refl, e)

abbrev pub found : {A : Type 0} → A → Option A
found x = Some x

pub found_is : {A : Type 0} (x y : A) → found x ≡ found y → x ≡ y
found_is x y e = cc

pub record Spelled {A : Type 0} (spell : A → List ℕ) (fits : A → Type 0) (bytes : List ℕ)
    (x : A × List ℕ) : Type 0 where
  pub parts : bytes ≡ spell x.0 ++ x.1
  pub fit : fits x.0
  pub rest : AreBytes x.1

pub record IsForm {A : Type 0} (spell : A → List ℕ) (fits : A → Type 0) (at : Reader A) : Type 0 where
  pub takes : (bytes : List ℕ) (x : A × List ℕ) → AreBytes bytes → at bytes ≡ Some x → Spelled spell fits bytes x
  pub again : (x : A) (rest : List ℕ) → fits x → at (spell x ++ rest) ≡ Some (x, rest)

-- the same fields under another name
pub fit_form : {A : Type 0} {s : A → List ℕ} {f g : A → Type 0} {a : Reader A} → IsForm s f a
    → ((x : A) → f x → g x) → ((x : A) → g x → f x) → IsForm s g a
fit_form form there back = record {
  takes = λ bytes x fits e.
      let t = form.takes bytes x fits e in record { parts = t.parts; fit = there x.0 t.fit; rest = t.rest };
  again = λ x rest fit. form.again x rest (back x fit);
}

-- two fields
pub joined_form : {A B : Type 0} {s : A → List ℕ} {t : A → B → List ℕ} {f : A → Type 0} {g : A → B → Type 0}
    {a : Reader A} {b : A → Reader B} → IsForm s f a → ((x : A) → f x → IsForm (t x) (g x) (b x))
    → IsForm (λ p. s p.0 ++ t p.0 p.1) (λ p. f p.0 × g p.0 p.1) (joined a b)
joined_form {A} {B} {s} {t} {f} {g} {a} {b} one other = record {
  takes = λ bytes x fits e.
      let p = bind_some (a bytes) (λ y. b y.0 y.1 >>= λ z. Some ((y.0, z.0), z.1)) x e in
      let first = one.takes bytes p.0 fits p.1 in
      let q = bind_some (b p.0.0 p.0.1) (λ z. Some ((p.0.0, z.0), z.1)) x p.2 in
      let second = (other p.0.0 first.fit).takes p.0.1 q.0 first.rest q.1 in
      let made_of : (A × B) × List ℕ = ((p.0.0, q.0.0), q.0.1) in
      subst (λ (y : (A × B) × List ℕ). Spelled (λ p. s p.0 ++ t p.0 p.1) (λ p. f p.0 × g p.0 p.1) bytes y)
      (found_is made_of x q.2)
      (record {
        parts = first.parts ∙ ap (λ (u : List ℕ). s p.0.0 ++ u) second.parts
            ∙ sym (append_assoc (s p.0.0) (t p.0.0 q.0.0) q.0.1);
        fit = (first.fit, second.fit);
        rest = second.rest;
      });
  again = λ x rest fit.
      ap (joined a b) (append_assoc (s x.0) (t x.0 x.1) rest)
      ∙ ap (λ (o : Option (A × List ℕ)). o >>= λ y. b y.0 y.1 >>= λ z. Some ((y.0, z.0), z.1))
      (one.again x.0 (t x.0 x.1 ++ rest) fit.0)
      ∙ ap (λ (o : Option (B × List ℕ)). o >>= λ z. Some ((x.0, z.0), z.1))
      ((other x.0 fit.0).again x.1 rest fit.1);
}

-- where a value comes from
pub record Comes {A B : Type 0} (s : A → List ℕ) (f : A → Type 0) (h : A → Option B) (text : List ℕ)
    (y : B) : Type 0 where
  pub value : A
  pub fit : f value
  pub is : h value ≡ Some y
  pub same : text ≡ s value

pub record Chosen {A B : Type 0} (s : A → List ℕ) (f : A → Type 0) (h : A → Option B) (t : B → List ℕ)
    (g : B → Type 0) : Type 0 where
  pub takes : (x : A) (y : B) → f x → h x ≡ Some y → (s x ≡ t y) × g y
  pub again : (y : B) → g y → Comes s f h (t y) y

pub chosen_again : {A B : Type 0} {s : A → List ℕ} {f : A → Type 0} {a : Reader A} {h : A → Option B} {text : List ℕ}
    {y : B}
    → IsForm s f a → Comes s f h text y → (rest : List ℕ) → chosen h a (text ++ rest) ≡ Some (y, rest)
chosen_again {A} {B} {s} {f} {a} {h} {text} {y} form come rest =
    ap (λ (u : List ℕ). chosen h a (u ++ rest)) come.same
    ∙ ap (λ (o : Option (A × List ℕ)). o >>= λ x. h x.0 >>= λ z. Some (z, x.1)) (form.again come.value rest come.fit)
    ∙ ap (λ (o : Option B). o >>= λ z. Some (z, rest)) come.is

pub chosen_form : {A B : Type 0} {s : A → List ℕ} {f : A → Type 0} {a : Reader A} {t : B → List ℕ} {g : B → Type 0}
    (h : A → Option B) → IsForm s f a → Chosen s f h t g → IsForm t g (chosen h a)
chosen_form {A} {B} {s} {f} {a} {t} {g} h form choice = record {
  takes = λ bytes x fits e.
      let p = bind_some (a bytes) (λ y. h y.0 >>= λ z. Some (z, y.1)) x e in
      let first = form.takes bytes p.0 fits p.1 in
      let q = bind_some (h p.0.0) (λ z. Some (z, p.0.1)) x p.2 in
      let both = choice.takes p.0.0 q.0 first.fit q.1 in
      let made_of : B × List ℕ = (q.0, p.0.1) in
      subst (λ (y : B × List ℕ). Spelled t g bytes y) (found_is made_of x q.2)
      (record {
        parts = first.parts ∙ ap (λ (u : List ℕ). u ++ p.0.1) both.0;
        fit = both.1;
        rest = first.rest;
      });
  again = λ y rest fit. chosen_again form (choice.again y fit) rest;
}

pub record Made {A B : Type 0} (s : A → List ℕ) (f : A → Type 0) (h : A → B) (t : B → List ℕ)
    (g : B → Type 0) : Type 0 where
  pub takes : (x : A) → f x → (s x ≡ t (h x)) × g (h x)
  pub back : B → A
  pub again : (y : B) → g y → f (back y) × (h (back y) ≡ y) × (t y ≡ s (back y))

pub made_form : {A B : Type 0} {s : A → List ℕ} {f : A → Type 0} {a : Reader A} {t : B → List ℕ} {g : B → Type 0}
    (h : A → B) → IsForm s f a → Made s f h t g → IsForm t g (made h a)
made_form {A} {B} {s} {f} {a} {t} {g} h form makes = record {
  takes = λ bytes x fits e.
      let p = bind_some (a bytes) (λ y. Some (h y.0, y.1)) x e in
      let first = form.takes bytes p.0 fits p.1 in
      let both = makes.takes p.0.0 first.fit in
      let made_of : B × List ℕ = (h p.0.0, p.0.1) in
      subst (λ (y : B × List ℕ). Spelled t g bytes y) (found_is made_of x p.2)
      (record {
        parts = first.parts ∙ ap (λ (u : List ℕ). u ++ p.0.1) both.0;
        fit = both.1;
        rest = first.rest;
      });
  again = λ y rest fit.
      let from = makes.again y fit in
      ap (λ (u : List ℕ). made h a (u ++ rest)) from.2
      ∙ ap (λ (o : Option (A × List ℕ)). o >>= λ x. Some (h x.0, x.1)) (form.again (makes.back y) rest from.0)
      ∙ ap (λ (z : B). found (z, rest)) from.1;
}

-- what is made of a field that is read
pub made_again : {A B : Type 0} {s : A → List ℕ} {f : A → Type 0} {a : Reader A} (h : A → B) → IsForm s f a → (x : A)
    (rest : List ℕ) → f x → made h a (s x ++ rest) ≡ Some (h x, rest)
made_again {A} {B} {s} {f} {a} h form x rest fit =
    ap (λ (o : Option (A × List ℕ)). o >>= λ y. Some (h y.0, y.1)) (form.again x rest fit)

-- and what is made where it is read, or isn't
pub made_some : {A B : Type 0} (h : A → B) (a : Reader A) (bytes : List ℕ) (x : A) (rest : List ℕ)
    → a bytes ≡ Some (x, rest) → made h a bytes ≡ Some (h x, rest)
made_some {A} {B} h a bytes x rest e =
    ap (λ (o : Option (A × List ℕ)). o >>= λ y. let z : B × List ℕ = (h y.0, y.1) in Some z) e

pub made_none : {A B : Type 0} (h : A → B) (a : Reader A) (bytes : List ℕ) → a bytes ≡ None → made h a bytes ≡ None
made_none {A} {B} h a bytes e =
    ap (λ (o : Option (A × List ℕ)). o >>= λ y. let z : B × List ℕ = (h y.0, y.1) in Some z) e

pub chosen_none_of : {A B : Type 0} (h : A → Option B) (a : Reader A) (bytes : List ℕ) → a bytes ≡ None
    → chosen h a bytes ≡ None
chosen_none_of {A} {B} h a bytes e =
    ap (λ (o : Option (A × List ℕ)). o >>= λ y. h y.0 >>= λ x. let z : B × List ℕ = (x, y.1) in Some z) e

pub chosen_some : {A : Type 0} (b : Bool) (x y : A) → cond b (Some x) None ≡ Some y → (b ≡ true) × (x ≡ y)
chosen_some true x y e = (refl, cc)
chosen_some false x y e = absurd cc

-- a field that passes a test
pub passing_form : {A : Type 0} {s : A → List ℕ} {f : A → Type 0} {a : Reader A} (test : A → Bool) → IsForm s f a
    → IsForm s (λ x. f x × (test x ≡ true)) (passing test a)
passing_form {A} {s} {f} {a} test form = record {
  takes = λ bytes x bytes_fit e.
      let p = bind_some (a bytes) (λ y. cond (test y.0) (Some y) None) x e in
      let first = form.takes bytes p.0 bytes_fit p.1 in
      let g = chosen_some (test p.0.0) p.0 x p.2 in
      subst (λ (y : A × List ℕ). Spelled s (λ v. f v × (test v ≡ true)) bytes y) g.1
      (record { parts = first.parts; fit = (first.fit, g.0); rest = first.rest });
  again = λ x rest fit. rw (form.again x rest fit.0, fit.1) refl;
}

pub passing_true : {A : Type 0} (test : A → Bool) (at : Reader A) (bytes : List ℕ) (x : A × List ℕ)
    → passing test at bytes ≡ Some x → test x.0 ≡ true
passing_true {A} test at bytes x e =
    let p = bind_some (at bytes) (λ y. cond (test y.0) (Some y) None) x e in
    let g = chosen_some (test p.0.0) p.0 x p.2 in
    subst (λ (y : A × List ℕ). test y.0 ≡ true) g.1 g.0

-- ---- fields of one kind

-- each fits behind those before it
abbrev pub Follow : {A : Type 0} → (List A → A → Type 0) → List A → List A → Type 0
Follow f known [] = Unit {0}
Follow f known (x ∷ xs) = f known x × Follow f (known ++ x ∷ []) xs

pub record Gathered {A : Type 0} (s : A → List ℕ) (f : List A → A → Type 0) (known : List A) (n : ℕ) (bytes : List ℕ)
    (x : List A × List ℕ) : Type 0 where
  pub more : List A
  pub is : x.0 ≡ known ++ more
  pub many : length more ≡ n
  pub parts : bytes ≡ flat_map s more ++ x.1
  pub fit : Follow f known more
  pub rest : AreBytes x.1

pub gathered_takes : {A : Type 0} {s : A → List ℕ} {f : List A → A → Type 0} {at : List A → Reader A}
    → ((known : List A) → IsForm s (f known) (at known)) → (n : ℕ) (known : List A) (bytes : List ℕ)
    (x : List A × List ℕ) → AreBytes bytes → gathered at n known bytes ≡ Some x → Gathered s f known n bytes x
gathered_takes {A} {s} {f} {at} forms zero known bytes x fits e =
    subst (λ (y : List A × List ℕ). Gathered s f known 0 bytes y) (found_is (known, bytes) x e)
    (record { more = []; is = sym (append-nil known); many = refl; parts = refl; fit = tt; rest = fits })
gathered_takes {A} {s} {f} {at} forms (suc n) known bytes x fits e =
    let p = bind_some (at known bytes) (λ y. gathered at n (known ++ y.0 ∷ []) y.1) x e in
    let first = (forms known).takes bytes p.0 fits p.1 in
    let others = gathered_takes forms n (known ++ p.0.0 ∷ []) p.0.1 x first.rest p.2 in
    record {
      more = p.0.0 ∷ others.more;
      is = others.is ∙ append_assoc known (p.0.0 ∷ []) others.more;
      many = ap suc others.many;
      parts = first.parts ∙ ap (λ (u : List ℕ). s p.0.0 ++ u) others.parts
          ∙ sym (append_assoc (s p.0.0) (flat_map s others.more) x.1);
      fit = (first.fit, others.fit);
      rest = others.rest;
    }

pub gathered_again : {A : Type 0} {s : A → List ℕ} {f : List A → A → Type 0} {at : List A → Reader A}
    → ((known : List A) → IsForm s (f known) (at known)) → (xs known : List A) (rest : List ℕ) → Follow f known xs
    → gathered at (length xs) known (flat_map s xs ++ rest) ≡ Some (known ++ xs, rest)
gathered_again {A} {s} {f} {at} forms [] known rest fit = ap (λ (l : List A). found (l, rest)) (sym (append-nil known))
gathered_again {A} {s} {f} {at} forms (x ∷ xs) known rest fit =
    ap (gathered at (suc (length xs)) known) (append_assoc (s x) (flat_map s xs) rest)
    ∙ ap (λ (o : Option (A × List ℕ)). o >>= λ y. gathered at (length xs) (known ++ y.0 ∷ []) y.1)
    ((forms known).again x (flat_map s xs ++ rest) fit.0)
    ∙ gathered_again forms xs (known ++ x ∷ []) rest fit.1
    ∙ ap (λ (l : List A). found (l, rest)) (append_assoc known (x ∷ []) xs)

-- ---- numbers

pub record IsWide (w : Width) (limit : ℕ) : Type 0 where
  pub len : (n : ℕ) → length (to_le_bytes w n) ≡ byte_len w
  pub back : (bytes : List ℕ) → length bytes ≡ byte_len w → AreBytes bytes → to_le_bytes w (from_le_bytes w bytes)
      ≡ bytes
  pub again : (n : ℕ) → n < limit → from_le_bytes w (to_le_bytes w n) ≡ n
  pub below : (bytes : List ℕ) → AreBytes bytes → from_le_bytes w bytes < limit

pub wide16 : IsWide w16 (2 ^ 16)
wide16 = record {
  len = λ n. refl;
  back = λ bytes len fits. le_bytes_2 bytes _ len fits refl;
  again = λ n lt. from_le_bytes-to_le_bytes_2 n lt;
  below = λ bytes fits. omega (arith, fits 0, fits 1);
}

pub wide32 : IsWide w32 (2 ^ 32)
wide32 = record {
  len = λ n. refl;
  back = λ bytes len fits. le_bytes_4 bytes _ len fits refl;
  again = λ n lt. from_le_bytes-to_le_bytes_4 n lt;
  below = λ bytes fits. omega (arith, fits 0, fits 1, fits 2, fits 3);
}

bytes_taken : (n : ℕ) (bytes : List ℕ) → AreBytes bytes → AreBytes (take n bytes)
bytes_taken n bytes h i =
    elim (cases_lt i n) [
      | inl lt ↦ rw (get_or-take n bytes i 0 lt) (h i)
      | inr le ↦ rw (get_or_past (take n bytes) i 0 (omega (arith, length-take n bytes))) (omega arith)
    ]

bytes_left : (n : ℕ) (bytes : List ℕ) → AreBytes bytes → AreBytes (drop n bytes)
bytes_left n bytes h i = rw get_or-drop (h (n + i))

pub chosen_none : {A : Type 0} (b : Bool) (x y : A) → cond b None (Some x) ≡ Some y → (b ≡ false) × (x ≡ y)
chosen_none true x y e = absurd cc
chosen_none false x y e = (refl, cc)

number_form : (w : Width) (limit : ℕ) → IsWide w limit
    → IsForm (λ n. to_le_bytes w n) (λ n. n < limit) (number_at w)
unfolding number_at
number_form w limit wide = record {
  takes = λ bytes x fits e.
      let front = take (byte_len w) bytes in
      let g = chosen_none (ltb (length bytes) (byte_len w)) (from_le_bytes w front, drop (byte_len w) bytes) x e in
      let long : byte_len w ≤ length bytes = ltb-false _ _ g.0 in
      let same : to_le_bytes w (from_le_bytes w front) ≡ front =
      wide.back front (omega (arith, length-take (byte_len w) bytes)) (bytes_taken (byte_len w) bytes fits) in
      subst (λ (y : ℕ × List ℕ). Spelled (λ n. to_le_bytes w n) (λ n. n < limit) bytes y) g.1
      (record {
        parts = rw same (sym (take-append-drop (byte_len w) bytes));
        fit = wide.below front (bytes_taken (byte_len w) bytes fits);
        rest = bytes_left (byte_len w) bytes fits;
      });
  again = λ n rest lt.
      let len = wide.len n in
      let long : ltb (length (to_le_bytes w n ++ rest)) (byte_len w) ≡ false =
      le-ltb _ _ (omega (arith, length-append (to_le_bytes w n) rest)) in
      rw (
        long,
        take_at (to_le_bytes w n) rest (byte_len w) len,
        drop_at (to_le_bytes w n) rest (byte_len w) len,
        wide.again n lt,
      ) refl;
}

pub two_form : IsForm two_bytes (λ n. n < 2 ^ 16) (number_at w16)
two_form = number_form w16 (2 ^ 16) wide16

pub four_form : IsForm four_bytes (λ n. n < 2 ^ 32) (number_at w32)
four_form = number_form w32 (2 ^ 32) wide32

abbrev pub Any : {A : Type 0} → A → Type 0
Any x = Unit {0}

byte_takes : (bytes : List ℕ) (x : ℕ × List ℕ) → AreBytes bytes → byte_at bytes ≡ Some x
    → Spelled (λ b. b ∷ []) Any bytes x
byte_takes [] x fits e = absurd cc
byte_takes (b ∷ bytes) x fits e =
    subst (λ (y : ℕ × List ℕ). Spelled (λ b. b ∷ []) Any (b ∷ bytes) y) (found_is (b, bytes) x e)
    (record { parts = refl; fit = tt; rest = λ i. fits (suc i) })

pub byte_form : IsForm (λ b. b ∷ []) Any byte_at
byte_form = record { takes = byte_takes; again = λ b rest fit. refl }

pub bytes_form : (n : ℕ) → IsForm (λ text. text) (λ text. length text ≡ n) (bytes_at n)
bytes_form n = record {
  takes = λ bytes x fits e.
      let g = chosen_none (ltb (length bytes) n) (take n bytes, drop n bytes) x e in
      let long : n ≤ length bytes = ltb-false _ _ g.0 in
      subst (λ (y : List ℕ × List ℕ). Spelled (λ text. text) (λ text. length text ≡ n) bytes y) g.1
      (record {
        parts = sym (take-append-drop n bytes);
        fit = omega (arith, length-take n bytes);
        rest = bytes_left n bytes fits;
      });
  again = λ text rest fit.
      let long : ltb (length (text ++ rest)) n ≡ false = le-ltb _ _ (omega (arith, length-append text rest)) in
      rw (long, take_at text rest n fit, drop_at text rest n fit) refl;
}

unit_is : (x : Unit {0}) → x ≡ tt
unit_is x = refl

pub nothing_form : IsForm (λ _. []) (λ _. Unit {0}) nothing_at
nothing_form = record {
  takes = λ bytes x fits e.
      subst (λ (y : Unit {0} × List ℕ). Spelled (λ _. []) (λ _. Unit {0}) bytes y) (found_is (tt, bytes) x e)
      (record { parts = refl; fit = tt; rest = fits });
  again = λ x rest fit. refl;
}

-- what is counted
pub counted_form : {A : Type 0} {s : A → List ℕ} {f : List A → A → Type 0} {at : List A → Reader A}
    → ((known : List A) → IsForm s (f known) (at known))
    → IsForm (counted s) (λ xs. Follow f [] xs × (length xs < 2 ^ 32)) (counted_at at)
counted_form {A} {s} {f} {at} forms = record {
  takes = λ bytes x fits e.
      let p = bind_some (number_at w32 bytes) (λ n. gathered at n.0 [] n.1) x e in
      let first = four_form.takes bytes p.0 fits p.1 in
      let others = gathered_takes forms p.0.0 [] p.0.1 x first.rest p.2 in
      let many : length x.0 ≡ p.0.0 = ap length others.is ∙ others.many in
      record {
        parts = first.parts ∙ ap (λ (u : List ℕ). four_bytes p.0.0 ++ u) others.parts
            ∙ ap (λ (l : List A). four_bytes p.0.0 ++ (flat_map s l ++ x.1)) (sym others.is)
            ∙ sym (append_assoc (four_bytes p.0.0) (flat_map s x.0) x.1)
            ∙ ap (λ (n : ℕ). (four_bytes n ++ flat_map s x.0) ++ x.1) (sym many);
        fit = (subst (Follow f []) (sym others.is) others.fit, omega (arith, first.fit, many));
        rest = others.rest;
      };
  again = λ xs rest fit.
      ap (counted_at at) (append_assoc (four_bytes (length xs)) (flat_map s xs) rest)
      ∙ ap (λ (o : Option (ℕ × List ℕ)). o >>= λ n. gathered at n.0 [] n.1)
      (four_form.again (length xs) (flat_map s xs ++ rest) fit.1)
      ∙ gathered_again forms xs [] rest fit.0;
}

-- ---- sums

abbrev pub Each : {A : Type 0} → (ℕ → A → Type 0) → ℕ → List A → Type 0
Each P k [] = Unit {0}
Each P k (x ∷ xs) = P k x × Each P (k + 1) xs

same_number : (b n : ℕ) → (b == n) ≡ true → n ≡ b
same_number b n e = sym (eqb-true b n e)

pub listed_is : {A : Type 0} (P : ℕ → A → Type 0) (k : ℕ) (xs : List A) (n : ℕ) (x : A) → Each P k xs
    → listed k xs n ≡ Some x → P n x
listed_is P k [] n x each e = absurd cc
listed_is {A} P k (y ∷ ys) n x each e =
    elim (cases_Bool (n == k)) [
      | inl same ↦
          let here : found y ≡ Some x = rw same at e in
          subst (λ (z : A). P n z) (found_is y x here) (subst (λ (i : ℕ). P i y) (same_number n k same) each.0)
      | inr other ↦ listed_is P (k + 1) ys n x each.1 (rw other at e)
    ]

-- what this reads behind its place is of the sum
abbrev pub IsCase : {B : Type 0} → (B → List ℕ) → (B → Type 0) → ℕ → Reader B → Type 0
IsCase {B} t g k at = (bytes : List ℕ) (x : B × List ℕ) → AreBytes bytes → at bytes ≡ Some x → Spelled t g (k ∷ bytes) x

pub case_chosen : {A B : Type 0} {s : A → List ℕ} {f : A → Type 0} {a : Reader A} (t : B → List ℕ) (g : B → Type 0)
    (k : ℕ) (h : A → Option B) → IsForm s f a
    → ((x : A) (y : B) → f x → h x ≡ Some y → (t y ≡ k ∷ s x) × g y) → IsCase t g k (chosen h a)
case_chosen {A} {B} {s} {f} {a} t g k h form spells bytes x fits e =
    let p = bind_some (a bytes) (λ y. h y.0 >>= λ z. Some (z, y.1)) x e in
    let first = form.takes bytes p.0 fits p.1 in
    let q = bind_some (h p.0.0) (λ z. Some (z, p.0.1)) x p.2 in
    let both = spells p.0.0 q.0 first.fit q.1 in
    let made_of : B × List ℕ = (q.0, p.0.1) in
    subst (λ (y : B × List ℕ). Spelled t g (k ∷ bytes) y) (found_is made_of x q.2)
    (record {
      parts = ap (λ (u : List ℕ). k ∷ u) first.parts ∙ ap (λ (u : List ℕ). u ++ p.0.1) (sym both.0);
      fit = both.1;
      rest = first.rest;
    })

pub case_made : {A B : Type 0} {s : A → List ℕ} {f : A → Type 0} {a : Reader A} (t : B → List ℕ) (g : B → Type 0)
    (k : ℕ) (h : A → B) → IsForm s f a → ((x : A) → f x → (t (h x) ≡ k ∷ s x) × g (h x)) → IsCase t g k (made h a)
case_made {A} {B} {s} {f} {a} t g k h form spells bytes x fits e =
    let p = bind_some (a bytes) (λ y. Some (h y.0, y.1)) x e in
    let first = form.takes bytes p.0 fits p.1 in
    let both = spells p.0.0 first.fit in
    let made_of : B × List ℕ = (h p.0.0, p.0.1) in
    subst (λ (y : B × List ℕ). Spelled t g (k ∷ bytes) y) (found_is made_of x p.2)
    (record {
      parts = ap (λ (u : List ℕ). k ∷ u) first.parts ∙ ap (λ (u : List ℕ). u ++ p.0.1) (sym both.0);
      fit = both.1;
      rest = first.rest;
    })

pub choice_takes : {B : Type 0} (t : B → List ℕ) (g : B → Type 0) (forms : List (Reader B)) → Each (IsCase t g) 0 forms
    → (bytes : List ℕ) (x : B × List ℕ) → AreBytes bytes → choice_at forms bytes ≡ Some x → Spelled t g bytes x
choice_takes t g forms each [] x fits e = absurd cc
choice_takes t g forms each (b ∷ bytes) x fits e =
    let p = bind_some (listed 0 forms b) (λ at. at bytes) x e in
    listed_is (IsCase t g) 0 forms b p.0 each p.1 bytes x (λ i. fits (suc i)) p.2

abbrev bool_bytes : Bool → List ℕ
bool_bytes b = bit b ∷ []

bool_again : (b : Bool) (rest : List ℕ) → Any b → bool_at (bool_bytes b ++ rest) ≡ Some (b, rest)
unfolding bool_at
bool_again false rest fit = refl
bool_again true rest fit = refl

pub bool_form : IsForm (λ b. bit b ∷ []) Any bool_at
unfolding bool_at
bool_form = record {
  takes = choice_takes bool_bytes Any (made (λ _. false) nothing_at ∷ made (λ _. true) nothing_at ∷ []) (
    case_made bool_bytes Any 0 (λ _. false) nothing_form (λ x fit. (refl, tt)),
    (case_made bool_bytes Any 1 (λ _. true) nothing_form (λ x fit. (refl, tt)), tt),
  );
  again = bool_again;
}

abbrev branch : {B : Type 0} → Bool → Reader B → Reader B → List ℕ → Option (B × List ℕ)
branch b one other bytes = cond b (other bytes) (one bytes)

branch_takes : {B : Type 0} (t : B → List ℕ) (g : B → Type 0) (one other : Reader B) → IsCase t g 0 one
    → IsCase t g 1 other → (b : Bool) (bytes : List ℕ) (x : B × List ℕ) → AreBytes bytes
    → branch b one other bytes ≡ Some x → Spelled t g (bit b ∷ bytes) x
branch_takes t g one other first second false bytes x fits e = first bytes x fits e
branch_takes t g one other first second true bytes x fits e = second bytes x fits e

pub either_takes : {B : Type 0} (t : B → List ℕ) (g : B → Type 0) (one other : Reader B) → IsCase t g 0 one
    → IsCase t g 1 other → (bytes : List ℕ) (x : B × List ℕ) → AreBytes bytes → either_at one other bytes ≡ Some x
    → Spelled t g bytes x
unfolding bool_at
either_takes {B} t g one other first second bytes x fits e =
    let p = bind_some (bool_at bytes) (λ b. branch b.0 one other b.1) x e in
    let flag = bool_form.takes bytes p.0 fits p.1 in
    let whole = branch_takes t g one other first second p.0.0 p.0.1 x flag.rest p.2 in
    record { parts = flag.parts ∙ whole.parts; fit = whole.fit; rest = whole.rest }

abbrev pub Holds : {A : Type 0} → (A → Type 0) → Option A → Type 0
Holds f None = Unit {0}
Holds f (Some x) = f x

optional_again : {A : Type 0} {s : A → List ℕ} {f : A → Type 0} {a : Reader A} → IsForm s f a → (o : Option A)
    (rest : List ℕ) → Holds f o → optional_at a (optional s o ++ rest) ≡ Some (o, rest)
unfolding bool_at
optional_again form None rest fit = refl
optional_again {A} form (Some x) rest fit = made_again (λ (y : A). found y) form x rest fit

pub optional_form : {A : Type 0} {s : A → List ℕ} {f : A → Type 0} {a : Reader A} → IsForm s f a
    → IsForm (optional s) (Holds f) (optional_at a)
unfolding bool_at
optional_form {A} {s} {f} {a} form = record {
  takes = either_takes (optional s) (Holds f) (made (λ _. None) nothing_at) (made (λ x. Some x) a)
      (case_made (optional s) (Holds f) 0 (λ _. None) nothing_form (λ x fit. (refl, tt)))
      (case_made (optional s) (Holds f) 1 (λ x. Some x) form (λ x fit. (refl, fit)));
  again = optional_again form;
}
