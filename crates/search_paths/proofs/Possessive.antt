-- The repeat of one item that is the only branch of an atomic group.
use Rattle.std.proofs.Common.{◌≡◌, Option, Some, None, sym, ap}
use Rattle.pat_tree.specs.Nested as tree
use Rattle.pat_tree.specs.Nested.{Nested, Row}
use Rattle.ordered_search.specs.Paths.{Many, many_in, only_many}

none_some : (m : Many) → None ≡ Some m → ⊥
none_some m e = cc

many_of : Nested → Option Many → Nested
many_of t None = t
many_of t (Some m) = tree.one_repeat m.item m.low m.high m.lazily

pub many_is : (t : Nested) (m : Many) → many_in t ≡ Some m → tree.one_repeat m.item m.low m.high m.lazily ≡ t
unfolding many_of
many_is (tree.one_repeat item low high lazily) m e = ap (many_of (tree.one_repeat item low high lazily)) (sym e)
many_is _ m e = absurd (none_some m e)

pub only_is : (ts : Row) (m : Many) → only_many ts ≡ Some m
    → tree.more (tree.one_repeat m.item m.low m.high m.lazily) tree.none ≡ ts
only_is (tree.more t tree.none) m e = ap (λ x. tree.more x tree.none) (many_is t m e)
only_is _ m e = absurd (none_some m e)
