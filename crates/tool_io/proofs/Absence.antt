-- Files that are absent: among targets and more targets, and among those that a run never looked at.
use Rattle.std.proofs.Common.{◌≡◌, refl, sym, ap, ◌∙◌, arith, ℕ, ◌≤◌, IsTrue, Bool, true, false, ◌||◌, if◌then◌else◌}
use Rattle.std.proofs.Common.{List, [], ◌∷◌, ◌++◌, Option, None, Some}
use Rattle.std.specs.List.{list_any}
use Rattle.std.proofs.lemmas.Bool.{false≢true}
use Rattle.std.proofs.lemmas.List.Folds.{list_any-append}
use Rattle.pcre_io.specs.Causes.{Rose}
use Rattle.pcre_io.specs.Told.{Told}
use Rattle.pcre_io.specs.Files.{Contents}
use Rattle.line_feed.specs.Rows.{Input}
use Rattle.tool_io.specs.declared.target.Target.{Target}
use Rattle.tool_io.specs.declared.target.Target.TheVariants as targets
use Rattle.tool_io.specs.Asked.{Asked, asked, is_standard, nothing, standard_after, standard_after_all}
use Rattle.tool_io.specs.Absent.{is_absent_file, is_absent, AbsentBy}
use Rattle.tool_io.specs.Takes.{TakesAll}
use Rattle.tool_io.proofs.Taking.{look, filled, hears-any, takes-any, takes-rest, stand-any, opened-any}

-- Faults that were counted before or after.

rose_later : (first mid last : ℕ) → Rose first mid → mid ≤ last → Rose first last
rose_later first mid last rose later = omega (arith, rose, later)

rose_before : (first mid last : ℕ) → first ≤ mid → Rose mid last → Rose first last
rose_before first mid last later rose = omega (arith, rose, later)

pub absent-later : (contents : Option Contents) (first mid last : ℕ) (given : List Asked) → mid ≤ last
    → AbsentBy contents first mid given → AbsentBy contents first last given
absent-later (Some set) first mid last given later h = tt
absent-later None first mid last given later h = λ some. rose_later first mid last (h some) later

pub absent-before : (contents : Option Contents) (first mid last : ℕ) (given : List Asked) → first ≤ mid
    → AbsentBy contents mid last given → AbsentBy contents first last given
absent-before (Some set) first mid last given later h = tt
absent-before None first mid last given later h = λ some. rose_before first mid last later (h some)

-- Targets, and more targets.

by-either : (a b : Bool) (P : Type 0) → (IsTrue a → P) → (IsTrue b → P) → IsTrue (a || b) → P
by-either true b P f g h = f refl
by-either false b P f g h = g h

pub absent-none : (contents : Option Contents) (first last : ℕ) → AbsentBy contents first last []
absent-none (Some set) first last = tt
absent-none None first last = λ some. absurd (false≢true some)

pub absent-join : (contents : Option Contents) (first last : ℕ) (given more : List Asked)
    → AbsentBy contents first last given → AbsentBy contents first last more
    → AbsentBy contents first last (given ++ more)
absent-join (Some set) first last given more h i = tt
absent-join None first last given more h i = λ some.
    by-either (list_any is_absent given) (list_any is_absent more) (Rose first last) h i
    (sym (list_any-append is_absent given more) ∙ some)

pub absent-then : (contents : Option Contents) (first mid last : ℕ) (given more : List Asked) → first ≤ mid
    → mid ≤ last → AbsentBy contents first mid given → AbsentBy contents mid last more
    → AbsentBy contents first last (given ++ more)
absent-then contents first mid last given more before later h i =
    absent-join contents first last given more (absent-later contents first mid last given later h)
    (absent-before contents first mid last more before i)

-- One target.

absent-one : (contents : Option Contents) (first last : ℕ) (a : Asked) → is_absent a ≡ false
    → AbsentBy contents first last (a ∷ [])
absent-one (Some set) first last a is = tt
absent-one None first last a is = λ some. absurd (false≢true (sym (ap (λ b. b || false) is) ∙ some))

there-not : (target : Target) (input : Input) → is_absent_file target (Some input) ≡ false
there-not targets.Input input = refl
there-not (targets.File path) input = refl
there-not (targets.NoOpen path) input = refl
there-not (targets.NoList path) input = refl
there-not (targets.TooDeep path) input = refl
there-not (targets.Unnamed path) input = refl

-- it is there
pub absent-there : (contents : Option Contents) (first last : ℕ) (target : Target) (input : Input)
    → AbsentBy contents first last (asked target (Some input) ∷ [])
absent-there contents first last target input = absent-one contents first last (asked target (Some input))
    (there-not target input)

-- it isn't a file
pub absent-other : (contents : Option Contents) (first last : ℕ) (target : Target) (given : Option Input)
    → is_absent_file target given ≡ false → AbsentBy contents first last (asked target given ∷ [])
absent-other contents first last target given is = absent-one contents first last (asked target given) is

-- a fault was counted
pub absent-rose : (contents : Option Contents) (first last : ℕ) (given : List Asked) → Rose first last
    → AbsentBy contents first last given
absent-rose (Some set) first last given rose = tt
absent-rose None first last given rose = λ some. rose

-- Targets that aren't looked at.

unlooked : (standard : Input) (target : Target) → is_absent_file target
    (if is_standard target then Some standard else look None target) ≡ false
unlooked standard targets.Input = refl
unlooked standard (targets.File path) = refl
unlooked standard (targets.NoOpen path) = refl
unlooked standard (targets.NoList path) = refl
unlooked standard (targets.TooDeep path) = refl
unlooked standard (targets.Unnamed path) = refl

filled-not : (standard : Input) (list : List Target) → list_any is_absent (filled None standard list) ≡ false
filled-not standard [] = refl
filled-not standard (target ∷ list) = λ i. unlooked standard target i || filled-not (standard_after target standard)
    list i

absent-filled : (contents : Option Contents) (first last : ℕ) (standard : Input) (list : List Target)
    → AbsentBy contents first last (filled contents standard list)
absent-filled (Some set) first last standard list = tt
absent-filled None first last standard list = λ some. absurd (false≢true (sym (filled-not standard list) ∙ some))

pub any-there : (contents : Option Contents) (first last : ℕ) (was_used : Bool) (t : Told) (list : List Target)
    → AbsentBy contents first last (takes-any was_used t contents list).0
unfolding takes-any
any-there contents first last true t list = absent-filled contents first last nothing list
any-there contents first last false t list = absent-filled contents first last (hears-any t).0 list

pub stand-there : (contents : Option Contents) (first last : ℕ) (standard : Input) (list : List Target)
    → AbsentBy contents first last (stand-any contents standard list).0
unfolding stand-any
stand-there contents first last standard list = absent-filled contents first last standard list

pub rest-there : (contents : Option Contents) (first last : ℕ) (was_used : Bool) (before after : Told)
    (list others : List Target) (given : List Asked) (h : TakesAll was_used before after contents list given)
    → AbsentBy contents first last (takes-rest was_used before after contents list others given h).0
unfolding takes-rest
rest-there contents first last true before after list others given h =
    absent-filled contents first last (standard_after_all list nothing) others
rest-there contents first last false before after list others given h =
    absent-filled contents first last (standard_after_all list h.0) others

pub opened-there : (contents : Option Contents) (first last : ℕ) (name : List ℕ)
    → AbsentBy contents first last (asked (targets.File name) (opened-any contents name).0 ∷ [])
unfolding opened-any
opened-there (Some set) first last name = tt
opened-there None first last name = absent-there None first last (targets.File name) nothing
