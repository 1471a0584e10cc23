-- A byte is the only one of a set as it is the only one that passes the set's test.
use Rattle.std.proofs.Common.{◌≡◌, ◌<◌, ℕ, Bool, List, Option, Some, None, IfSome, sym, ◌∙◌}
use Rattle.byte_lanes.specs.Sets.{has_byte}
use Rattle.pat_check.specs.Known.{IsByteSet}
use Rattle.pcre2_api.specs.Leads.{IsAlone, AreAlone}

pub lone_set : (set : List Bool) (test : Option (ℕ → Bool)) → IsByteSet (Some set) test → (b : ℕ)
    → IsAlone (has_byte set) b → AreAlone test b
lone_set set None told b alone = absurd told
lone_set set (Some t) told b alone = λ c lt. sym (told c lt) ∙ alone c lt

pub lone_of : (set : List Bool) (test : Option (ℕ → Bool)) → IsByteSet (Some set) test → (b : ℕ)
    → AreAlone test b → IsAlone (has_byte set) b
lone_of set None told b are = absurd told
lone_of set (Some t) told b are = λ c lt. told c lt ∙ are c lt

pub none_set : (test : Option (ℕ → Bool)) → IsByteSet None test → (b : ℕ) → AreAlone test b → ⊥
none_set None told b are = are
none_set (Some t) told b are = absurd told

pub some_set : (set : List Bool) (test : Option (ℕ → Bool)) → IsByteSet (Some set) test → (byte : Option ℕ)
    → IfSome byte (IsAlone (has_byte set)) → IfSome byte (AreAlone test)
some_set set test told None h = h
some_set set test told (Some b) h = lone_set set test told b h
