-- How targets stand for inputs, one after another.
use Rattle.std.proofs.Common.{◌≡◌, refl, sym, ap, subst, ◌∙◌, arith, ℕ, Bool, true, false, if◌then◌else◌, List, []}
use Rattle.std.proofs.Common.{◌∷◌, ◌++◌, length, suc, Option, None, Some, option_map, append-nil}
use Rattle.std.proofs.KnownBytes.{Consumes-nil}
use Rattle.pcre_io.specs.Told.{Told}
use Rattle.pcre_io.specs.Files.{Contents, File, opened_file, IsOf, Opens}
use Rattle.line_feed.specs.Rows.{Input}
use Rattle.line_feed.specs.Hears.{Hears, HearsBy}
use Rattle.line_feed.proofs.Stops.{StopFell-nil}
use Rattle.line_feed.proofs.Hearing.{hears-some}
use Rattle.tool_io.specs.declared.target.Target.{Target}
use Rattle.tool_io.specs.declared.target.Target.TheVariants as targets
use Rattle.tool_io.specs.Asked.{Asked, asked, is_standard, input_of, nothing, standard_after, standard_after_all}
use Rattle.tool_io.specs.Asked.{Opened, OpensTo, Stands, StandFor}
use Rattle.tool_io.specs.Takes.{IsLeft, Takes, TakesAll}

-- a source stands for an input before any read
pub hears-any : (t : Told) → (heard : Input) × Hears t t heard
hears-any t = let some = hears-some t t t.left t.left t.stop [] [] (Consumes-nil t.left) (StopFell-nil t.stop)
    (omega arith) refl in (some.0, some.1)

-- What is left of standard input.

pub after-nothing : (list : List Target) → standard_after_all list nothing ≡ nothing
after-nothing [] = refl
after-nothing (target ∷ list) = ap (standard_after_all list) (by_test (is_standard target)) ∙ after-nothing list
  where
    by_test : (b : Bool) → (if b then nothing else nothing) ≡ nothing
    by_test true = refl
    by_test false = refl

pub after-more : (list others : List Target) (standard : Input)
    → standard_after_all (list ++ others) standard ≡ standard_after_all others (standard_after_all list standard)
after-more [] others standard = refl
after-more (target ∷ list) others standard = after-more list others (standard_after target standard)

-- Targets, and more targets.

pub stand-more : (contents : Option Contents) (standard : Input) (list others : List Target) (given more : List Asked)
    → StandFor contents standard list given → StandFor contents (standard_after_all list standard) others more
    → StandFor contents standard (list ++ others) (given ++ more)
stand-more contents standard [] others [] more h i = i
stand-more contents standard [] others (a ∷ given) more h i = absurd h
stand-more contents standard (target ∷ list) others [] more h i = absurd h
stand-more contents standard (target ∷ list) others (a ∷ given) more h i =
    (h.0, h.1, stand-more contents (standard_after target standard) list others given more h.2 i)

-- each target stands for one
pub stand-length : (contents : Option Contents) (standard : Input) (list : List Target) (given : List Asked)
    → StandFor contents standard list given → length given ≡ length list
stand-length contents standard [] [] h = refl
stand-length contents standard [] (a ∷ given) h = absurd h
stand-length contents standard (target ∷ list) [] h = absurd h
stand-length contents standard (target ∷ list) (a ∷ given) h =
    ap suc (stand-length contents (standard_after target standard) list given h.2)

-- What a target may stand for that isn't looked at. Of files that aren't told it is there.
abbrev pub looked : Option Contents → List ℕ → Option Input
looked None path = Some nothing
looked (Some files) path = option_map input_of (opened_file path files)

abbrev pub look : Option Contents → Target → Option Input
look contents (targets.File path) = looked contents path
look contents _ = None

abbrev pub filled : Option Contents → Input → List Target → List Asked
filled contents standard [] = []
filled contents standard (target ∷ list) =
    asked target (if is_standard target then Some standard else look contents target) ∷ filled contents
    (standard_after target standard) list

opened-looked : (contents : Option Contents) (path : List ℕ) → Opened contents path (looked contents path)
opened-looked None path = tt
opened-looked (Some files) path = refl

opens-look : (contents : Option Contents) (target : Target) → OpensTo contents target (look contents target)
opens-look contents targets.Input = refl
opens-look contents (targets.File path) = opened-looked contents path
opens-look contents (targets.NoOpen path) = refl
opens-look contents (targets.NoList path) = refl
opens-look contents (targets.TooDeep path) = refl
opens-look contents (targets.Unnamed path) = refl

pub stand-filled : (contents : Option Contents) (standard : Input) (list : List Target)
    → StandFor contents standard list (filled contents standard list)
stand-filled contents standard [] = tt
stand-filled contents standard (target ∷ list) =
    (refl, by_test (is_standard target), stand-filled contents (standard_after target standard) list)
  where
    by_test : (b : Bool) → Stands b contents standard target (if b then Some standard else look contents target)
    by_test true = refl
    by_test false = opens-look contents target

pub takes-none : (was_used : Bool) (t : Told) (contents : Option Contents) → Takes was_used was_used t t contents [] []
takes-none true t contents = (refl, refl, tt)
takes-none false t contents = (refl, λ standard. (tt, refl))

pub takes-more : (was_used mid_used is_used : Bool) (before mid after : Told) (contents : Option Contents)
    (list others : List Target) (given more : List Asked)
    → Takes was_used mid_used before mid contents list given → Takes mid_used is_used mid after contents others more
    → Takes was_used is_used before after contents (list ++ others) (given ++ more)
takes-more true true is_used before mid after contents list others given more h i = (
  i.0,
  i.1 ∙ h.1,
  stand-more contents nothing list others given more h.2
      (subst (λ s. StandFor contents s others more) (sym (after-nothing list)) i.2),
)
takes-more true false is_used before mid after contents list others given more h i = let e : false ≡ true = h.0 in cc
takes-more false false false before mid after contents list others given more h i = (
  i.0 ∙ h.0,
  λ standard. (
    stand-more contents standard list others given more (h.1 standard).0
        (subst (λ s. StandFor contents s others more) (sym (h.1 standard).1) (i.1 standard).0),
    after-more list others standard ∙ ap (standard_after_all others) (h.1 standard).1 ∙ (i.1 standard).1,
  ),
)
takes-more false false true before mid after contents list others given more h i = (
  i.0,
  subst (λ t. Hears t after i.0) h.0 i.1,
  stand-more contents i.0 list others given more (h.1 i.0).0
      (subst (λ s. StandFor contents s others more) (sym (h.1 i.0).1) i.2),
  after-more list others i.0 ∙ ap (standard_after_all others) (h.1 i.0).1 ∙ i.3,
)
takes-more false true true before mid after contents list others given more h i = (
  h.0,
  subst (λ t. Hears before t h.0) (sym i.1) h.1,
  stand-more contents h.0 list others given more h.2 (subst (λ s. StandFor contents s others more) (sym h.3) i.2),
  after-more list others h.0 ∙ ap (standard_after_all others) h.3 ∙ after-nothing others,
)
takes-more false true false before mid after contents list others given more h i = let e : false ≡ true = i.0 in cc

-- The last targets of a run.

pub takes-then : (was_used is_used : Bool) (before mid after : Told) (contents : Option Contents)
    (list others : List Target) (given more : List Asked)
    → Takes was_used is_used before mid contents list given → TakesAll is_used mid after contents others more
    → TakesAll was_used before after contents (list ++ others) (given ++ more)
takes-then true true before mid after contents list others given more h i = (
  i.0 ∙ h.1,
  stand-more contents nothing list others given more h.2
      (subst (λ s. StandFor contents s others more) (sym (after-nothing list)) i.1),
)
takes-then true false before mid after contents list others given more h i = let e : false ≡ true = h.0 in cc
takes-then false false before mid after contents list others given more h i = (
  i.0,
  subst (λ t. Hears t after i.0) h.0 i.1,
  stand-more contents i.0 list others given more (h.1 i.0).0
      (subst (λ s. StandFor contents s others more) (sym (h.1 i.0).1) i.2),
)
takes-then false true before mid after contents list others given more h i = (
  h.0,
  subst (λ t. Hears before t h.0) (sym i.0) h.1,
  stand-more contents h.0 list others given more h.2 (subst (λ s. StandFor contents s others more) (sym h.3) i.1),
)

-- targets that aren't looked at stand for something
unfoldable pub stand-any : (contents : Option Contents) (standard : Input) (list : List Target)
    → (given : List Asked) × StandFor contents standard list given
stand-any contents standard list = (filled contents standard list, stand-filled contents standard list)

unfoldable pub takes-any : (was_used : Bool) (t : Told) (contents : Option Contents) (list : List Target)
    → (given : List Asked) × TakesAll was_used t t contents list given
takes-any true t contents list = (filled contents nothing list, (refl, stand-filled contents nothing list))
takes-any false t contents list = let any = hears-any t in
    (filled contents any.0 list, (any.0, any.1, stand-filled contents any.0 list))

takes-nothing : (was_used : Bool) (t : Told) (contents : Option Contents) → TakesAll was_used t t contents [] []
takes-nothing true t contents = (refl, tt)
takes-nothing false t contents = let any = hears-any t in (any.0, any.1, tt)

pub takes-end : (was_used is_used : Bool) (before after : Told) (contents : Option Contents) (list : List Target)
    (given : List Asked)
    → Takes was_used is_used before after contents list given → TakesAll was_used before after contents list given
takes-end was_used is_used before after contents list given h =
    subst (λ ws. TakesAll was_used before after contents ws given) (append-nil list)
    (subst (TakesAll was_used before after contents (list ++ [])) (append-nil given)
    (takes-then was_used is_used before after after contents list [] given [] h (takes-nothing is_used after contents)))

-- the targets after those at which a run stops stand for something too
unfoldable pub takes-rest : (was_used : Bool) (before after : Told) (contents : Option Contents)
    (list others : List Target) (given : List Asked)
    → TakesAll was_used before after contents list given
    → (more : List Asked) × TakesAll was_used before after contents (list ++ others) (given ++ more)
takes-rest true before after contents list others given h =
    let left = standard_after_all list nothing in (
      filled contents left others,
      (
        h.0,
        stand-more contents nothing list others given (filled contents left others) h.1
            (stand-filled contents left others),
      ),
    )
takes-rest false before after contents list others given h =
    let left = standard_after_all list h.0 in (
      filled contents left others,
      (
        h.0,
        h.1,
        stand-more contents h.0 list others given (filled contents left others) h.2
            (stand-filled contents left others),
      ),
    )

-- A file that was opened, or that isn't looked at.

pub opened-heard : (contents : Option Contents) (name : List ℕ) (before after : Told) (input : Input)
    → Opens contents name before → Hears before after input → Opened contents name (Some input)
opened-heard None name before after input opens hears = tt
opened-heard (Some files) name before after input opens hears = by_file (opened_file name files) opens
  where
    by_file : (file : Option File) → IsOf file before → Some input ≡ option_map input_of file
    by_file None is = absurd is
    by_file (Some file) is =
        ap Some (subst (λ stop. HearsBy before after (Some file.bytes) stop input) is.1
        (subst (λ bytes. HearsBy before after bytes before.stop input) is.0 hears))

unfoldable pub opened-any : (contents : Option Contents) (name : List ℕ)
    → (given : Option Input) × Opened contents name given
opened-any None name = (Some nothing, tt)
opened-any (Some files) name = (option_map input_of (opened_file name files), refl)

-- One target.

pub takes-standard : (was_used is_used : Bool) (before after : Told) (contents : Option Contents) (target : Target)
    (left : Input) → is_standard target ≡ true
    → IsLeft was_used is_used before after left → Takes was_used is_used before after contents (target ∷ [])
    (asked target (Some left) ∷ [])
takes-standard true is_used before after contents target left is h =
    (h.0, h.1, (refl, subst (λ b. Stands b contents nothing target (Some left)) (sym is) (ap Some h.2), tt))
takes-standard false false before after contents target left is h = let e : false ≡ true = h.0 in cc
takes-standard false true before after contents target left is h = (
  left,
  h.1,
  (refl, subst (λ b. Stands b contents left target (Some left)) (sym is) refl, tt),
  ap (λ b. if b then nothing else left) is,
)

pub takes-opened : (was_used : Bool) (t : Told) (contents : Option Contents) (target : Target) (given : Option Input)
    → is_standard target ≡ false
    → OpensTo contents target given → Takes was_used was_used t t contents (target ∷ []) (asked target given ∷ [])
takes-opened true t contents target given is h =
    (refl, refl, (refl, subst (λ b. Stands b contents nothing target given) (sym is) h, tt))
takes-opened false t contents target given is h = (
  refl,
  λ standard. (
    (refl, subst (λ b. Stands b contents standard target given) (sym is) h, tt),
    ap (λ b. if b then nothing else standard) is,
  ),
)
