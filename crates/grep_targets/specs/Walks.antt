-- What the calls of a walk tell, and what it has yet to look at.
use Rattle.std.specs.Prelude.{◌≡◌, ℕ, zero, suc, ◌*◌, ◌+◌, ◌<◌, Bool, true, false, IsTrue, List, ◌++◌, flat_map}
use Rattle.std.specs.Prelude.{reverse, string_bytes, Option, IfSome}
use Rattle.std.specs.List.{list_any, sum_by}
use Rattle.pcre_io.specs.Causes.{Rose}
use Rattle.pcre_io.specs.Files.{Contents}
use Rattle.tool_io.specs.declared.target.Target.{Target}
use Rattle.tool_io.specs.declared.target.Target.TheVariants.{NoOpen, NoList}
use Rattle.grep_targets.specs.declared.walk.Pending.{Pending}
use Rattle.grep_targets.specs.Filters.{Filter}
use Rattle.grep_targets.specs.Paths.{ItemParts}
use Rattle.grep_targets.specs.Targets.{item_targets, directory_targets}
use Rattle.grep_targets.specs.Stands.{AreOfDirectory, AreOfEach, AreOfItem}

-- a target of which a fault was counted
abbrev pub is_failed : Target → Bool
is_failed (NoOpen path) = true
is_failed (NoList path) = true
is_failed _ = false

abbrev pub has_failed : List Target → Bool
has_failed targets = list_any is_failed targets

-- over a told set the list grows by these targets
abbrev pub Grows : Option Contents → (Contents → List Target) → List Target → List Target → Type 0
Grows contents wanted before after = IfSome contents (λ set. after ≡ before ++ wanted set)

-- over any set it grows by such targets
abbrev pub GrowsBy : (List Target → Type 0) → List Target → List Target → Type 0
GrowsBy Are before after = (part : List Target) × (after ≡ before ++ part) × Are part

-- where a failed target was added, the count of faults rose
abbrev pub HasCauses : List Target → List Target → ℕ → ℕ → Type 0
HasCauses before after first last = has_failed before ≡ false → IsTrue (has_failed after) → Rose first last

-- an item that is to be looked at, with how many levels may be listed from it on
pub record PendingParts : Type 0 where
  pub item : ItemParts
  pub levels : ℕ

abbrev pub pending_parts : Pending → PendingParts
pending_parts p = record {
  item = record { path = string_bytes p.path; is_directory = p.is_directory };
  levels = p.levels;
}

abbrev pub at_levels : ℕ → ItemParts → PendingParts
at_levels levels item = record { item = item; levels = levels }

-- the targets that an item stands for
abbrev pub pending_targets : Filter → Contents → PendingParts → List Target
pending_targets filter set p = item_targets filter (directory_targets filter set p.levels) p.item

-- those of what is on a stack, from its top on
abbrev pub stack_targets : Filter → Contents → List PendingParts → List Target
stack_targets filter set stack = flat_map (pending_targets filter set) (reverse stack)

-- more than that of all the entries that one listing can have
unfoldable pub weight : ℕ → ℕ
weight zero = 1
weight (suc levels) = 18446744073709551616 * weight levels

abbrev pub stack_weight : List PendingParts → ℕ
stack_weight stack = sum_by (λ (p : PendingParts). weight p.levels) stack

-- how a walk stands between two items: what is on its stack, and what it has told
pub record Walk : Type 0 where
  pub stack : List PendingParts
  pub told : List Target

abbrev pub walking : List PendingParts → List Target → Walk
walking stack told = record { stack = stack; told = told }

-- A step of a walk: what these targets and those of the stack were is told now or stands on the stack, and the stack
-- has grown by less than this weight.
pub record Steps (filter : Filter) (contents : Option Contents) (wanted : Contents → List Target) (heavy : ℕ)
    (old new : Walk) : Type 0 where
  pub exact : IfSome contents (λ set.
      new.told ++ stack_targets filter set new.stack ≡ old.told ++ wanted set ++ stack_targets filter set old.stack)
  pub lighter : stack_weight new.stack < stack_weight old.stack + heavy

-- The same over any set of files.

-- such targets may an item stand for
abbrev pub AreOfPending : Filter → PendingParts → List Target → Type 0
AreOfPending filter p list = AreOfItem filter (AreOfDirectory filter p.levels) p.item list

-- and what is on a stack, from its top on
abbrev pub AreOfStack : Filter → List PendingParts → List Target → Type 0
AreOfStack filter stack list = AreOfEach (AreOfPending filter) (reverse stack) list

-- A step of a walk: whatever the stack stands for now, it follows what was told by such targets and by what the stack
-- stood for.
abbrev pub Goes : Filter → (List Target → Type 0) → Walk → Walk → Type 0
Goes filter Are old new =
    (rest : List Target) → AreOfStack filter new.stack rest
    → (part : List Target) × (more : List Target) × Are part × AreOfStack filter old.stack more
    × (new.told ++ rest ≡ old.told ++ part ++ more)
