-- A script's run, by what was written of it.
use Rattle.std.proofs.Common.{◌≡◌, ◌≢◌, ◌∙◌, ℕ, ◌<◌, false, List, [], ◌∷◌, codes, Option, None, Some, Result, Ok}
use Rattle.std.proofs.Common.{Err, refl, sym, ap, subst, arith, inl, inr, option_map}
use Rattle.std.specs.List.{list_any}
use Rattle.std.proofs.lemmas.Bool.{lt-leb, false≢true}
use Rattle.std.proofs.KnownBytes.{Appends-nil, Appends-trans}
use Rattle.std.specs.Io.KnownBytes.{Appends}
use Rattle.pcre_io.specs.Told.{Told, Kept, AppendsPrefix}
use Rattle.pcre_io.specs.Causes.{Rose, CountsRefusals}
use Rattle.pcre_io.specs.Files.{Contents, IsMissing, Opens}
use Rattle.pcre_io.specs.declared.traits.IoError.{IoError}
use Rattle.pcre_io.specs.declared.traits.IoError.TheVariants.{Failed, Memory}
use Rattle.line_feed.specs.Rows.{Input, Finish, At, End}
use Rattle.line_feed.specs.Hears.{Hears}
use Rattle.tool_io.specs.declared.target.Target.{Target}
use Rattle.tool_io.specs.declared.target.Target.TheVariants as targets
use Rattle.tool_io.specs.Asked.{Asked, asked, input_of, is_standard, Opened, StandFor}
use Rattle.tool_io.specs.Absent.{AbsentBy}
use Rattle.tool_io.proofs.Absence.{absent-none, stand-there}
use Rattle.tool_io.proofs.Taking.{hears-any, stand-any}
use Rattle.tool_io.specs.Outcomes.{RunOutcome, Runs, RunsSome, RunsAll, Stops, said}
use Rattle.tool_io.specs.Outcomes as outcomes
use Rattle.tool_io.specs.Printed.{Printed, printed}
use Rattle.tool_io.specs.Texts.{line}
use Rattle.tool_io.specs.Writes.{Writes, WritesAll}
use Rattle.tool_io.proofs.Printing.{prefix-of, prefix-none}
use Rattle.tool_io.proofs.Writing.{prefix-more, prefix-front}
use Rattle.test_script.specs.declared.plan.TestPlan.{TestPlan}
use Rattle.test_run.specs.TestText.{Tested}
use Rattle.test_main.specs.Opens.{AreGiven, GivenBy, UnlessLacks}
use Rattle.test_main.specs.RunsBy.{Ran, Counts, Stopped, RunsBy}
use Rattle.test_main.specs.declared.words.Script.{Script}
use Rattle.test_main.specs.declared.words.Script.TheVariants.{Standard, File, Generated}
use Rattle.test_main.specs.declared.words.TestWords.{TestWords}
use Rattle.test_main.specs.Words.{words_of}
use Rattle.test_main.specs.ToolText.{finish_message, status_of, banner, tested_outcome, targets_of, text_for}
use Rattle.test_main.specs.ToolText.{text_by, text_of, generated_outcome, asked_by, asked_targets}
use Rattle.test_gen.specs.Texts.{generated_text}

-- What the sinks count where a write was refused: of the output, after others that were taken, or of the messages.

counts-out : (old mid new err : Kept) (e : IoError) → mid.faults ≡ old.faults
    → CountsRefusals {T = Unit {0}} mid.faults new.faults (Err e) → Counts e (printed old err) (printed new err)
counts-out old mid new err Failed before rose = inl (subst (λ n. Rose n new.faults) before rose)
counts-out old mid new err Memory before same = (same ∙ before, refl)

counts-err : (out_old out_new err_old err_new : Kept) (e : IoError) → out_new.faults ≡ out_old.faults
    → CountsRefusals {T = Unit {0}} err_old.faults err_new.faults (Err e)
    → Counts e (printed out_old err_old) (printed out_new err_new)
counts-err out_old out_new err_old err_new Failed before rose = inr rose
counts-err out_old out_new err_old err_new Memory before same = (before, same)

-- a run that only says something
module _ (text : List ℕ) (status : ℕ) (few : status < 3) (out err_old err_new : Kept) where
  pub said-whole : (u : Unit {0}) → Writes (line text) err_old err_new (Ok u)
      → RunsBy (said text status) (printed out err_old) (printed out err_new) (Ok status)
  said-whole u w = record {
    out = Appends-nil out.held;
    err = w.all;
    answer = refl;
    ends = few;
    steady = (refl, w.cause);
  }

  pub said-part : (e : IoError) → Writes {T = Unit {0}} (line text) err_old err_new (Err e)
      → RunsBy (said text status) (printed out err_old) (printed out err_new) (Err e)
  said-part e w = record {
    out = prefix-none out.held [];
    err = w.part;
    cause = counts-err out out err_old err_new e refl w.cause;
  }

-- memory lacked before anything was written
pub lacks : (text : RunOutcome) (p : Printed) → RunsBy text p p (Err Memory)
lacks text p = record {
  out = prefix-none p.out.held text.out;
  err = prefix-none p.err.held text.err;
  cause = (refl, refl);
}

-- the banner wasn't written
pub unbegun : (plan : TestPlan) (name : List ℕ) (t : Tested) (out_old out_new err : Kept) (e : IoError)
    → Writes {T = Unit {0}} (banner plan) out_old out_new (Err e)
    → RunsBy (tested_outcome plan name t) (printed out_old err) (printed out_new err) (Err e)
unbegun plan name t out_old out_new err e w = record {
  out = prefix-front out_old.held out_new.held (banner plan) t.out w.part;
  err = prefix-none err.held (finish_message name t.finish);
  cause = counts-out out_old out_old out_new err e refl w.cause;
}

-- it was written, and then the script's text
module _ (plan : TestPlan) (name : List ℕ) (t : Tested) (out_old out_mid out_new : Kept) (u : Unit {0})
    (begun : Writes (banner plan) out_old out_mid (Ok u)) where
  abbrev whole : RunOutcome
  whole = tested_outcome plan name t

  all : Appends out_mid.held out_new.held t.out → Appends out_old.held out_new.held whole.out
  all h = Appends-trans out_old.held out_mid.held out_new.held (banner plan) t.out begun.all h

  part : AppendsPrefix out_mid.held out_new.held t.out → AppendsPrefix out_old.held out_new.held whole.out
  part h = prefix-more out_old.held out_mid.held out_new.held (banner plan) t.out begun.all h

  pub ran-whole : (err : Kept) → WritesAll t.out out_mid out_new × (t.finish ≡ At End)
      → RunsBy whole (printed out_old err) (printed out_new err) (Ok 0)
  ran-whole err h = record {
    out = all h.0.all;
    err = subst (λ f. Appends err.held err.held (finish_message name f)) (sym h.1) (Appends-nil err.held);
    answer = sym (ap status_of h.1);
    ends = omega arith;
    steady = (h.0.steady ∙ begun.cause, refl);
  }

  pub ran-unsent : (err : Kept) → AppendsPrefix out_mid.held out_new.held t.out → Rose out_mid.faults out_new.faults
      → RunsBy whole (printed out_old err) (printed out_new err) (Err Failed)
  ran-unsent err h rose = record {
    out = part h;
    err = prefix-none err.held (finish_message name t.finish);
    cause = counts-out out_old out_mid out_new err Failed begun.cause rose;
  }

  pub ran-lacks : (err : Kept) → AppendsPrefix out_mid.held out_new.held t.out → out_new.faults ≡ out_mid.faults
      → RunsBy whole (printed out_old err) (printed out_new err) (Err Memory)
  ran-lacks err h same = record {
    out = part h;
    err = prefix-none err.held (finish_message name t.finish);
    cause = counts-out out_old out_mid out_new err Memory begun.cause same;
  }

  -- its end is told
  module _ (finish : Finish) (late : status_of finish ≡ 2) (h : WritesAll t.out out_mid out_new × (t.finish ≡ finish))
      (err_old err_new : Kept) where
    pub ran-told : (v : Unit {0}) → Writes (finish_message name finish) err_old err_new (Ok v)
        → RunsBy whole (printed out_old err_old) (printed out_new err_new) (Ok 2)
    ran-told v w = record {
      out = all h.0.all;
      err = subst (λ f. Appends err_old.held err_new.held (finish_message name f)) (sym h.1) w.all;
      answer = sym (ap status_of h.1 ∙ late);
      ends = omega arith;
      steady = (h.0.steady ∙ begun.cause, w.cause);
    }

    pub ran-untold : (e : IoError) → Writes {T = Unit {0}} (finish_message name finish) err_old err_new (Err e)
        → RunsBy whole (printed out_old err_old) (printed out_new err_new) (Err e)
    ran-untold e w = record {
      out = prefix-of out_old.held out_new.held whole.out (all h.0.all);
      err = subst (λ f. AppendsPrefix err_old.held err_new.held (finish_message name f)) (sym h.1) w.part;
      cause = counts-err out_old out_new err_old err_new e (h.0.steady ∙ begun.cause) w.cause;
    }

-- The status of a run.

pub runs-ran : (text : RunOutcome) (status : ℕ) (old new : Printed) → Ran text status old new → Runs text status old new
runs-ran text status old new r =
    subst (λ b. Stops b (RunsSome text status old new) (RunsAll text status old new)) (sym (lt-leb 3 status r.ends))
    (record { out = r.out; err = r.err; answer = r.answer; steady = r.steady })

pub runs-stopped : (text : RunOutcome) (e : IoError) (old new : Printed) → Stopped text e old new
    → Runs text (outcomes.status_of e) old new
runs-stopped text Memory old new s = record { out = s.out; err = s.err; cause = inl (refl, s.cause) }
runs-stopped text Failed old new s = record { out = s.out; err = s.err; cause = inr (refl, s.cause) }

-- a file that is missing stands for nothing
pub opened-missing : (contents : Option Contents) (name : List ℕ) → IsMissing contents name → Opened contents name None
opened-missing None name is = tt
opened-missing (Some set) name is = sym (ap (option_map input_of) is)

-- What the words ask for.

abbrev pub given_of : Target → Option Input → List Asked
given_of target input = asked target input ∷ []

module _ (contents : Option Contents) (heard : Input) (words : TestWords) where
  pub stands-standard : words.script ≡ Standard → StandFor contents heard (asked_by (Some words))
      (given_of targets.Input (Some heard))
  stands-standard is = subst (λ s. StandFor contents heard (targets_of s) (given_of targets.Input (Some heard)))
      (sym is) (refl, refl, tt)

  pub stands-file : (path : List ℕ) (input : Option Input) → words.script ≡ File path → Opened contents path input
      → StandFor contents heard (asked_by (Some words)) (given_of (targets.File path) input)
  stands-file path input is opened =
      subst (λ s. StandFor contents heard (targets_of s) (given_of (targets.File path) input)) (sym is)
      (refl, opened, tt)

  pub stands-generated : (n : ℕ) → words.script ≡ Generated n → StandFor contents heard (asked_by (Some words)) []
  stands-generated n is = subst (λ s. StandFor contents heard (targets_of s) []) (sym is) tt

-- it is run
pub runs-script : (words : TestWords) (script : Script) (target : Target) (input : Option Input) (old new : Printed)
    (result : Result ℕ IoError) → words.script ≡ script
    → RunsBy (text_for words.plan script input) old new result
    → RunsBy (text_by (Some words) (given_of target input)) old new result
runs-script words script target input old new result is runs =
    subst (λ s. RunsBy (text_for words.plan s input) old new result) (sym is) runs

-- lines are made
pub runs-generated : (words : TestWords) (n : ℕ) (old new : Printed) (result : Result ℕ IoError)
    → words.script ≡ Generated n
    → RunsBy (generated_outcome n) old new result → RunsBy (text_by (Some words) []) old new result
runs-generated words n old new result is runs = subst (λ s. RunsBy (text_for words.plan s None) old new result)
    (sym is) runs

module _ (n : ℕ) (old new err : Kept) where
  pub generated-whole : (u : Unit {0}) → Writes (generated_text n) old new (Ok u)
      → RunsBy (generated_outcome n) (printed old err) (printed new err) (Ok 0)
  generated-whole u w = record {
    out = w.all;
    err = Appends-nil err.held;
    answer = refl;
    ends = omega arith;
    steady = (w.cause, refl);
  }

  pub generated-part : (e : IoError) → Writes {T = Unit {0}} (generated_text n) old new (Err e)
      → RunsBy (generated_outcome n) (printed old err) (printed new err) (Err e)
  generated-part e w = record {
    out = w.part;
    err = prefix-none err.held [];
    cause = counts-out old old new err e refl w.cause;
  }

-- what is said where memory didn't lack
pub unless-any : (result : Result ℕ IoError) (fact : Type 0) → fact → UnlessLacks result fact
unless-any (Ok status) fact h = h
unless-any (Err Failed) fact h = h
unless-any (Err Memory) fact h = tt

pub unless-stopped : (e : IoError) (fact : Type 0) → UnlessLacks (Err e) fact → outcomes.status_of e ≢ 3 → fact
unless-stopped Failed fact h other = h
unless-stopped Memory fact h other = absurd (other refl)

-- a file of which a source was opened
pub given-opened : {S : Type 0} (tells : S → Told) (contents : Option Contents) (path : List ℕ) (opened left : S)
    (input : Input) → Opens contents path (tells opened) → Hears (tells opened) (tells left) input
    → AreGiven tells contents (given_of (targets.File path) (Some input))
given-opened tells contents path opened left input opens hears =
    let by : GivenBy tells contents path input = record {
      opened = opened;
      left = left;
      opens = opens;
      hears = hears;
    } in (by, tt)

-- by what the words are read as, where the count of faults of the files rose from `first` to `last`
abbrev pub Found : {S : Type 0} → (S → Told) → Told → Told → Option Contents → ℕ → ℕ → Option TestWords → Printed
    → Printed → Result ℕ IoError → Type 0
Found tells before after contents first last words old new result =
    (heard : Input) × Hears before after heard
    × ((given : List Asked) × StandFor contents heard (asked_by words) given × RunsBy (text_by words given) old new
    result × AbsentBy contents first last given × UnlessLacks result (AreGiven tells contents given))

abbrev pub FoundOf : {S : Type 0} → (S → Told) → Told → Told → Option Contents → ℕ → ℕ → List (List ℕ) → Printed
    → Printed → Result ℕ IoError → Type 0
FoundOf tells before after contents first last words old new result =
    (heard : Input) × Hears before after heard
    × ((given : List Asked) × StandFor contents heard (asked_targets words) given × RunsBy (text_of words given) old
    new result × AbsentBy contents first last given × UnlessLacks result (AreGiven tells contents given))

module _ {S : Type 0} (tells : S → Told) where
  pub found-read : (before after : Told) (contents : Option Contents) (first last : ℕ) (words : List (List ℕ))
      (read : Option TestWords) (old new : Printed) (result : Result ℕ IoError) → words_of words ≡ read
      → Found tells before after contents first last read old new result
      → FoundOf tells before after contents first last words old new result
  unfolding asked_targets text_of
  found-read before after contents first last words read old new result is found =
      subst (λ r. Found tells before after contents first last r old new result) (sym is) found

  -- nothing is asked for
  pub found-refused : (t : Told) (contents : Option Contents) (first last : ℕ) (words : List (List ℕ))
      (old new : Printed) (result : Result ℕ IoError) → words_of words ≡ None
      → RunsBy (said (codes "pcre2test: bad arguments") 1) old new result
      → FoundOf tells t t contents first last words old new result
  found-refused t contents first last words old new result is runs =
      let any = hears-any t in found-read t t contents first last words None old new result is (
        any.0,
        any.1,
        (
          [],
          tt,
          runs,
          absent-none contents first last,
          unless-any result (AreGiven tells contents []) tt,
        ),
      )

  -- memory lacked before anything was read
  pub found-lacks : (t : Told) (contents : Option Contents) (first last : ℕ) (words : List (List ℕ)) (p : Printed)
      → FoundOf tells t t contents first last words p p (Err Memory)
  found-lacks t contents first last words p =
      let any = hears-any t in
      let stands = stand-any contents any.0 (asked_targets words) in (
        any.0,
        any.1,
        (
          stands.0,
          stands.1,
          lacks (text_of words stands.0) p,
          stand-there contents first last any.0 (asked_targets words),
          tt,
        ),
      )

-- Standard input that isn't asked for.

pub standard-asked : (words : TestWords) → words.script ≡ Standard
    → list_any is_standard (asked_by (Some words)) ≡ false → ⊥
standard-asked words is none = false≢true (sym none ∙ ap (λ s. list_any is_standard (targets_of s)) is)

pub unused-read : (words : List (List ℕ)) (read : Option TestWords) (fact : Type 0) → words_of words ≡ read
    → (list_any is_standard (asked_by read) ≡ false → fact) → list_any is_standard (asked_targets words) ≡ false
    → fact
unfolding asked_targets
unused-read words read fact is h none = h (subst (λ r. list_any is_standard (asked_by r) ≡ false) is none)
