-- What a contract sees of a store.
use Rattle.std.specs.Prelude.{ℕ, ◌+◌, ◌-◌, List, length, take, drop}
use Rattle.frame_store.specs.declared.records.Record.{Record}

-- the records, the newest first; how many more can be pushed without memory; how many there were at most
pub record Stack : Type 0 where
  pub records : List Record
  pub spare : ℕ
  pub peak : ℕ

-- how many records there is room for, with those that stand
abbrev pub room : Stack → ℕ
room s = length s.records + s.spare

module _ {X : Type 0} where
  -- the oldest n items of a list that has its newest first
  abbrev pub up_to : ℕ → List X → List X
  up_to n xs = drop (length xs - n) xs

  -- all but the oldest n items of a list that has its newest first
  abbrev pub past : ℕ → List X → List X
  past n xs = take (length xs - n) xs
