-- Texts of a scan that are written one after another.
use Rattle.std.proofs.Common.{◌≡◌, ℕ, Bool, List, [], ◌++◌, take, Option, None, Some, refl, sym, ap, subst, ◌∙◌, inl}
use Rattle.std.proofs.Common.{append_assoc}
use Rattle.std.specs.Prelude.{flat_map}
use Rattle.std.proofs.lemmas.List.Concat.{flat_map-append}
use Rattle.std.proofs.KnownBytes.{Appends-nil, Appends-trans}
use Rattle.std.specs.Io.KnownBytes.{Appends}
use Rattle.pcre_io.specs.Told.{Kept, AppendsPrefix}
use Rattle.pcre_io.specs.Causes.{Rose}
use Rattle.grep_args.specs.declared.plan.GrepPlan.{GrepPlan}
use Rattle.grep_output.specs.declared.shows.Show.{Show}
use Rattle.grep_output.specs.declared.ended.Stop.{Stop}
use Rattle.grep_output.specs.declared.ended.Stop.TheVariants.{SinkFault, TooManyErrors, Memory}
use Rattle.grep_match.specs.Matches.{Tried}
use Rattle.grep_output.specs.Scans.{Scan}
use Rattle.grep_output.specs.Messages.{error_message}
use Rattle.grep_output.specs.InputText.{shown_out}
use Rattle.tool_io.specs.Prints.{Wrote, Breaks}
use Rattle.tool_io.specs.Writes.{WritesAll}
use Rattle.grep_core.specs.Turns.{Halts}
use Rattle.tool_io.proofs.Writing.{prefix-front, prefix-more}
use Rattle.tool_io.proofs.Printing.{prefix-of, wrote-breaks}
use Rattle.grep_output.proofs.Extends.{TextsBegin}
use Rattle.tool_io.specs.Printed.{printed}

module _ (a b c d : List ℕ) (out0 out out1 err0 err err1 : Kept)
    (wrote : Wrote a b (printed out0 err0) (printed out err)) where
  pub breaks-more : (stop : Stop) → Breaks c d (printed out err) (printed out1 err1) (stop ≡ SinkFault)
      → Breaks (a ++ c) (b ++ d) (printed out0 err0) (printed out1 err1) (stop ≡ SinkFault)
  breaks-more stop breaks = wrote-breaks a b c d wrote (stop ≡ SinkFault) breaks

-- after what was written whole, a text of the output alone
module _ (a b c : List ℕ) (out0 out out1 err0 err : Kept)
    (wrote : Wrote a b (printed out0 err0) (printed out err)) where
  pub wrote-out : WritesAll c out out1 → Wrote (a ++ c) b (printed out0 err0) (printed out1 err)
  wrote-out more = record {
    out = Appends-trans out0.held out.held out1.held a c wrote.out more.all;
    err = wrote.err;
    steady = (more.steady ∙ wrote.steady.0, wrote.steady.1);
  }

  pub breaks-out : (stop : Stop) → Halts c out out1 stop
      → Breaks (a ++ c) b (printed out0 err0) (printed out1 err) (stop ≡ SinkFault)
  breaks-out SinkFault halts = record {
    out = prefix-more out0.held out.held out1.held a c wrote.out halts.0;
    err = prefix-of err0.held err.held b wrote.err;
    cause = λ _. inl (subst (λ n. Rose n out1.faults) wrote.steady.0 halts.1);
    steady = λ other. absurd (other refl);
  }
  breaks-out Memory halts = record {
    out = prefix-more out0.held out.held out1.held a c wrote.out halts.0;
    err = prefix-of err0.held err.held b wrote.err;
    cause = λ is. (absurd (cc));
    steady = λ _. (halts.1 ∙ wrote.steady.0, wrote.steady.1);
  }
  breaks-out TooManyErrors halts = absurd halts

pub breaks-memory : (a b : List ℕ) (out0 out err0 err : Kept) → Wrote a b (printed out0 err0) (printed out err)
    → Breaks a b (printed out0 err0) (printed out err) (Memory ≡ SinkFault)
breaks-memory a b out0 out err0 err wrote = record {
  out = prefix-of out0.held out.held a wrote.out;
  err = prefix-of err0.held err.held b wrote.err;
  cause = λ is. (absurd (cc));
  steady = λ _. wrote.steady;
}

pub breaks-ext : (plan : GrepPlan) (name : List ℕ) (shows : Show) (hs : Bool) (s : Scan) (a : List ℕ)
    (us : List Tried) (out0 out err0 err : Kept) (stop : Stop) → TextsBegin plan name shows hs s a us
    → Breaks a (flat_map (error_message name) us) (printed out0 err0) (printed out err) (stop ≡ SinkFault)
    → Breaks (shown_out plan name shows hs s) (flat_map (error_message name) s.tried) (printed out0 err0)
    (printed out err) (stop ≡ SinkFault)
breaks-ext plan name shows hs s a us out0 out err0 err stop ext breaks =
    let said = ap (λ l. flat_map (error_message name) l) ext.tried_is
    ∙ flat_map-append (error_message name) us ext.rest in record {
      out = subst (λ l. AppendsPrefix out0.held out.held l) (sym ext.out_is)
          (prefix-front out0.held out.held a ext.rest_out breaks.out);
      err = subst (λ l. AppendsPrefix err0.held err.held l) (sym said)
          (prefix-front err0.held err.held (flat_map (error_message name) us) (flat_map (error_message name) ext.rest)
          breaks.err);
      cause = breaks.cause;
      steady = breaks.steady;
    }

pub writes-none : (out : Kept) → WritesAll [] out out
writes-none out = record { all = Appends-nil out.held; steady = refl }

pub writes-more : (a b : List ℕ) (out0 out out1 : Kept) → WritesAll a out0 out → WritesAll b out out1
    → WritesAll (a ++ b) out0 out1
writes-more a b out0 out out1 w more = record {
  all = Appends-trans out0.held out.held out1.held a b w.all more.all;
  steady = more.steady ∙ w.steady;
}

pub halts-more : (a b : List ℕ) (out0 out out1 : Kept) (stop : Stop) → WritesAll a out0 out → Halts b out out1 stop
    → Halts (a ++ b) out0 out1 stop
halts-more a b out0 out out1 SinkFault w halts =
    (prefix-more out0.held out.held out1.held a b w.all halts.0, subst (λ n. Rose n out1.faults) w.steady halts.1)
halts-more a b out0 out out1 Memory w halts =
    (prefix-more out0.held out.held out1.held a b w.all halts.0, halts.1 ∙ w.steady)
halts-more a b out0 out out1 TooManyErrors w halts = halts

pub halts-memory : (a : List ℕ) (out0 out : Kept) → WritesAll a out0 out → Halts a out0 out Memory
halts-memory a out0 out w = (prefix-of out0.held out.held a w.all, w.steady)

-- a text was written whole, and then a part of another
pub grew-part : (text part : List ℕ) (a b c : Option (List ℕ)) → Appends a b text → AppendsPrefix b c part
    → (more : List ℕ) × Appends a c (text ++ more)
grew-part text part None b c wrote prefix = ([], tt)
grew-part text part (Some x) None c wrote prefix = absurd wrote
grew-part text part (Some x) (Some y) None wrote prefix = absurd prefix
grew-part text part (Some x) (Some y) (Some z) wrote prefix =
    (take prefix.0 part, Appends-trans (Some x) (Some y) (Some z) text (take prefix.0 part) wrote prefix.1)

pub halts-part : (text : List ℕ) (old new : Kept) (stop : Stop) → stop ≡ SinkFault → Halts text old new stop
    → AppendsPrefix old.held new.held text
halts-part text old new SinkFault is halts = halts.0
halts-part text old new TooManyErrors is halts = absurd halts
halts-part text old new Memory is halts = halts.0

-- and then a text that begins with another
pub grew-then : (text next : List ℕ) (a b c : Option (List ℕ)) → Appends a b text
    → (more : List ℕ) × Appends b c (next ++ more) → (more : List ℕ) × Appends a c ((text ++ next) ++ more)
grew-then text next a b c wrote grew = (
  grew.0,
  subst (λ l. Appends a c l) (sym (append_assoc text next grew.0))
      (Appends-trans a b c text (next ++ grew.0) wrote grew.1),
)
