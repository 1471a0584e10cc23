-- How often a table answers.
use Rattle.std.specs.Prelude.{ℕ, ◌+◌, ◌*◌, ◌-◌, ◌/◌, ◌^◌, Bool, cond, nat_eq, nat_lt, min}
use Rattle.frame_memo.specs.declared.worth.Worth.{Worth}

-- one more, up to the greatest count
abbrev pub counted : ℕ → ℕ
counted n = min (n + 1) (2 ^ 64 - 1)

abbrev pub fresh : Worth
fresh = record { asked = 0; answered = 0; poor = 0 }

-- after a question
abbrev pub asked : Bool → Worth → Worth
asked is_answered w =
    record w { asked = counted w.asked; answered = cond is_answered (counted w.answered) w.answered }

-- At the last start place less than one question in 16 was answered.
abbrev pub is_little : Worth → Bool
is_little w = nat_lt w.answered (w.asked / 16)

-- after a start place
abbrev pub left : Worth → Worth
left w =
    cond (nat_eq w.asked 0) w
    (record { asked = 0; answered = 0; poor = cond (is_little w) (min (w.poor + 1) 16) 0 })
