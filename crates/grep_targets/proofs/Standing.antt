-- What may be told of the stack of a walk, and of words.
use Rattle.std.proofs.Common.{◌≡◌, ℕ, ◌-◌, ◌<◌, ◌≤◌, List, [], ◌∷◌, ◌++◌, length, map, reverse, take, drop, get_or}
use Rattle.std.proofs.Common.{Some, refl, ap, sym, subst, ◌∙◌, append_assoc, append-nil, arith}
use Rattle.std.proofs.lemmas.List.{reverse-append, reverse-reverse, take_all}
use Rattle.pcre_io.specs.declared.entries.DirEntry.{DirEntry}
use Rattle.tool_io.specs.declared.target.Target.{Target}
use Rattle.grep_targets.specs.Filters.{Filter}
use Rattle.grep_targets.specs.Paths.{items_in}
use Rattle.grep_targets.specs.Targets.{unnamed_targets}
use Rattle.grep_targets.specs.Stands.{AreOfDirectory, AreOfEach, AreOfListed}
use Rattle.grep_targets.specs.Walks.{AreOfPending, AreOfStack, Goes, GrowsBy, PendingParts, Walk, at_levels, walking}

pub none-left : {A : Type 0} (xs : List A) → length xs < 1 → xs ≡ []
none-left [] few = refl
none-left (x ∷ xs) few = absurd (omega (arith, few))

pub first-word : {A B : Type 0} (f : A → B) (xs : List A) (x : A) → 1 ≤ length xs → x ≡ get_or xs 0 x
    → map f xs ≡ f x ∷ map f (take (length xs - 1) (drop 1 xs))
first-word f [] x some is = absurd (omega (arith, some))
first-word f (y ∷ ys) x some is = ap (λ z. f z ∷ map f ys) (sym is)
    ∙ ap (λ l. f x ∷ map f l) (sym (take_all (length (y ∷ ys) - 1) ys (omega arith)))

module _ {A : Type 0} (Are : A → List Target → Type 0) where
  each-append : (xs ys : List A) (list : List Target) → AreOfEach Are (xs ++ ys) list
      → (front : List Target) × (back : List Target) × (list ≡ front ++ back) × AreOfEach Are xs front × AreOfEach Are
      ys back
  each-append [] ys list of = ([], list, refl, refl, of)
  each-append (x ∷ xs) ys list of =
      let h = each-append xs ys of.1 of.4 in (
        of.0 ++ h.0,
        h.1,
        of.2 ∙ ap (λ l. of.0 ++ l) h.2 ∙ sym (append_assoc of.0 h.0 h.1),
        (of.0, h.0, refl, of.3, h.3),
        h.4,
      )

  each-map : {B : Type 0} (f : B → A) (xs : List B) (list : List Target) → AreOfEach Are (map f xs) list
      → AreOfEach (λ x. Are (f x)) xs list
  each-map f [] list of = of
  each-map f (x ∷ xs) list of = (of.0, of.1, of.2, of.3, each-map f xs of.1 of.4)

  -- what is told of the first ones, with whatever the rest stands for
  abbrev pub Leads : List A → List A → List Target → Type 0
  Leads xs rest told = (list : List Target) → AreOfEach Are rest list → AreOfEach Are xs (told ++ list)

  pub leads-on : (xs rest : List A) (x : A) (told more : List Target) → Leads xs (x ∷ rest) told
      → GrowsBy (Are x) told more → Leads xs rest more
  leads-on xs rest x told more leads grown list of =
      subst (AreOfEach Are xs) (sym (ap (λ l. l ++ list) grown.1 ∙ append_assoc told grown.0 list))
      (leads (grown.0 ++ list) (grown.0, list, refl, grown.2, of))

  pub leads-end : (xs rest : List A) (told : List Target) → rest ≡ [] → Leads xs rest told → AreOfEach Are xs told
  leads-end xs rest told none leads = subst (AreOfEach Are xs) (append-nil told)
      (leads [] (subst (λ r. AreOfEach Are r []) (sym none) refl))

module _ (filter : Filter) where
  -- what is told at once, where nothing comes onto the stack
  pub goes-told : (Are : List Target → Type 0) (stack : List PendingParts) (told more part : List Target)
      → more ≡ told ++ part → Are part → Goes filter Are (walking stack told) (walking stack more)
  goes-told Are stack told more part grown are rest of = (part, rest, are, of, ap (λ l. l ++ rest) grown)

  -- the same targets by other words
  pub goes-as : (Are Are' : List Target → Type 0) (old new : Walk) → ((list : List Target) → Are list → Are' list)
      → Goes filter Are old new → Goes filter Are' old new
  goes-as Are Are' old new same goes rest of = let h = goes rest of in (h.0, h.1, same h.0 h.2, h.3, h.4)

  -- a directory's entries
  pub goes-entries : (path : List ℕ) (levels : ℕ) (entries : List DirEntry) (stack after : List PendingParts)
      (told more : List Target)
      → more ≡ told ++ unnamed_targets path entries → after ≡ stack ++ reverse
      (map (at_levels levels) (items_in path entries))
      → Goes filter (AreOfListed filter (AreOfDirectory filter levels) path (Some entries)) (walking stack told)
      (walking after more)
  goes-entries path levels entries stack after told more grown put rest of =
      let items = items_in path entries in
      let added = map (at_levels levels) items in
      let unnamed = unnamed_targets path entries in
      let turned : reverse after ≡ added ++ reverse stack = ap reverse put ∙ reverse-append stack (reverse added)
      ∙ ap (λ l. l ++ reverse stack) (reverse-reverse added) in
      let h = each-append (AreOfPending filter) added (reverse stack) rest
      (subst (λ s. AreOfEach (AreOfPending filter) s rest) turned of) in (
        unnamed ++ h.0,
        h.1,
        (h.0, refl, each-map (AreOfPending filter) (at_levels levels) items h.0 h.3),
        h.4,
        ap (λ l. l ++ rest) grown ∙ ap (λ l. (told ++ unnamed) ++ l) h.2 ∙ sym (append_assoc (told ++ unnamed) h.0 h.1)
            ∙ ap (λ l. l ++ h.1) (append_assoc told unnamed h.0),
      )

  -- The loop.

  -- what was told, with whatever the stack stands for, is such targets after those at first
  abbrev pub Gone : (List Target → Type 0) → List Target → List Target → List PendingParts → Type 0
  Gone Are told now stack = (rest : List Target) → AreOfStack filter stack rest → GrowsBy Are told (now ++ rest)

  pub gone-on : (Are : List Target → Type 0) (told now more : List Target) (stack rest after : List PendingParts)
      (p : PendingParts)
      → stack ≡ rest ++ p ∷ [] → Gone Are told now stack
      → Goes filter (AreOfPending filter p) (walking rest now) (walking after more) → Gone Are told more after
  gone-on Are told now more stack rest after p top so_far goes list of =
      let h = goes list of in
      let turned : reverse stack ≡ p ∷ reverse rest = ap reverse top ∙ reverse-append rest (p ∷ []) in
      let k = so_far (h.0 ++ h.1) (subst (λ s. AreOfEach (AreOfPending filter) s (h.0 ++ h.1)) (sym turned)
      (h.0, h.1, refl, h.2, h.3)) in
      (k.0, h.4 ∙ append_assoc now h.0 h.1 ∙ k.1, k.2)

  pub gone-first : (told : List Target) (stack : List PendingParts) (p : PendingParts) → stack ≡ p ∷ []
      → Gone (AreOfPending filter p) told told stack
  gone-first told stack p is list of =
      let h = subst (λ s. AreOfStack filter s list) is of in
      (h.0, ap (λ l. told ++ l) (h.2 ∙ ap (λ l. h.0 ++ l) h.4 ∙ append-nil h.0), h.3)

  pub gone-end : (Are : List Target → Type 0) (told now : List Target) (stack : List PendingParts) → stack ≡ []
      → Gone Are told now stack → GrowsBy Are told now
  gone-end Are told now stack none gone =
      let h = gone [] (subst (λ s. AreOfStack filter s []) (sym none) refl) in
      (h.0, sym (append-nil now) ∙ h.1, h.2)
