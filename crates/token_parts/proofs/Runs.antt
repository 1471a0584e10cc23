-- A run, a byte at a time.
use Rattle.std.proofs.Common.{◌≡◌, ℕ, ◌+◌, ◌<◌, ◌≤◌, Bool, true, false, List, length, get_or, arith}
use Rattle.std.proofs.lemmas.List.Sums.{prefix_len-drop_yes, prefix_len-drop_no, prefix_len-drop_all}
use Rattle.token_parts.specs.Bytes.{run_end}

pub run_end_yes : (text : List ℕ) (test : ℕ → Bool) (i : ℕ) → i < length text → test (get_or text i 0) ≡ true
    → run_end text test i ≡ run_end text test (i + 1)
unfolding run_end
run_end_yes text test i within passes = omega (arith, prefix_len-drop_yes test text i 0 within passes)

pub run_end_no : (text : List ℕ) (test : ℕ → Bool) (i : ℕ) → i < length text → test (get_or text i 0) ≡ false
    → run_end text test i ≡ i
unfolding run_end
run_end_no text test i within fails = omega (arith, prefix_len-drop_no test text i 0 within fails)

pub run_end_all : (text : List ℕ) (test : ℕ → Bool) (i : ℕ) → length text ≤ i → run_end text test i ≡ i
unfolding run_end
run_end_all text test i past = omega (arith, prefix_len-drop_all test text i past)
