use Rattle.std.proofs.Common.{ℕ, ltb, rules}
use Rattle.std.proofs.lemmas.List.Sorted.{IsPartitionPoint-from_clause, IsPartitionedBy-ltb}
use Rattle.char_sets.proofs.ranges.first_pair.Goals as goal

pub returns : goal.returns
returns c =
    let parted = IsPartitionedBy-ltb (λ (pair : ℕ × ℕ). pair.0) _ c.args.c c.requires in
    IsPartitionPoint-from_clause (λ (pair : ℕ × ℕ). ltb pair.0 c.args.c) _ _ c.partition_point.ensures.partitioned
    parted (λ a r q k. search rules)
