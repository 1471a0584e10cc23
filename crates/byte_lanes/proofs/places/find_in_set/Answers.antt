use Rattle.std.proofs.Common.{ℕ, length, get_or, eqb, ◌||◌, false, sym}
use Rattle.byte_lanes.proofs.lemmas.LeastLemmas.{IsLeast-value, IsLeast-alike}
use Rattle.byte_lanes.proofs.places.find_in_set.Goals as goal

pub returns-in-Some-clause-value : goal.returns-in-Some-clause-value
returns-in-Some-clause-value c =
    let bytes = c.args.bytes.now in
    let test = c.in-Some.test in
    IsLeast-value (λ (k : ℕ). get_or c.args.set.now (get_or bytes k 0) false) c.args.from (length bytes) _ c.requires
    (IsLeast-alike (λ k. eqb (get_or bytes k 0) test.byte) _ c.args.from (length bytes) _
    (λ k. sym (c.in-Some.ensures (get_or bytes k 0))) c.find.ensures)

pub returns-in-Some-as_two-clause-value : goal.returns-in-Some-as_two-clause-value
returns-in-Some-as_two-clause-value c =
    let bytes = c.args.bytes.now in
    let test = c.in-Some-as_two.test in
    IsLeast-value (λ (k : ℕ). get_or c.args.set.now (get_or bytes k 0) false) c.args.from (length bytes) _ c.requires
    (IsLeast-alike (λ k. eqb (get_or bytes k 0) test.one || eqb (get_or bytes k 0) test.other) _ c.args.from
    (length bytes) _ (λ k. sym (c.in-Some-as_two.ensures (get_or bytes k 0))) c.find-in-Some-as_two.ensures)

pub returns-in-Some-as_three-clause-value : goal.returns-in-Some-as_three-clause-value
returns-in-Some-as_three-clause-value c =
    let bytes = c.args.bytes.now in
    let test = c.in-Some-as_three.test in
    IsLeast-value (λ (k : ℕ). get_or c.args.set.now (get_or bytes k 0) false) c.args.from (length bytes) _ c.requires
    (IsLeast-alike (λ k. eqb (get_or bytes k 0) test.one || eqb (get_or bytes k 0) test.other || eqb
    (get_or bytes k 0) test.third) _ c.args.from (length bytes) _
    (λ k. sym (c.in-Some-as_three.ensures (get_or bytes k 0))) c.find-in-Some-as_three.ensures)

pub returns-clause-value : goal.returns-clause-value
returns-clause-value c =
    let bytes = c.args.bytes.now in
    IsLeast-value (λ (k : ℕ). get_or c.args.set.now (get_or bytes k 0) false) c.args.from (length bytes) _ c.requires
    c.find-2.ensures
