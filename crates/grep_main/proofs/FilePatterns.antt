-- Files of patterns: what a line gives, what a source gives, and files one after another (pcre2grep, "OPTIONS", -f).
use Rattle.std.proofs.Common.{◌≡◌, ◌≢◌, ℕ, ◌+◌, ◌-◌, ◌≤◌, Bool, true, false, if◌then◌else◌, List, [], ◌∷◌, ◌++◌}
use Rattle.std.proofs.Common.{length, take, drop, get_or, map, filter, bytes_eq, codes, Option, Some, Result, Ok}
use Rattle.std.proofs.Common.{Err, refl, sym, ap, subst, ◌∙◌, arith, append-nil, append_assoc}
use Rattle.std.specs.Prelude.{slice_get}
use Rattle.std.specs.List.{list_any}
use Rattle.std.proofs.lemmas.Bool.{false≢true}
use Rattle.std.proofs.lemmas.List.{map-append, take_all, take_more, take-append-drop}
use Rattle.std.proofs.lemmas.List.Elements.{filter-append}
use Rattle.std.proofs.lemmas.Option.{slice_get_within, get_or_from_slice_get}
use Rattle.pcre_io.specs.Told.{Told, Kept}
use Rattle.pcre_io.specs.Files.{Contents}
use Rattle.pcre_io.specs.declared.traits.IoError.{IoError}
use Rattle.byte_lanes.specs.declared.line_end.EndKind.TheVariants.{Lf}
use Rattle.line_feed.specs.declared.phase.FeedError.{FeedError}
use Rattle.line_feed.specs.declared.phase.FeedError.TheVariants as feed
use Rattle.line_feed.specs.declared.phase.Phase.TheVariants.{Open, Closed}
use Rattle.line_feed.specs.Rows.{Input, Row, Rows, Finish, At, Long, End, Fault, Limit}
use Rattle.line_feed.specs.View.{Feed}
use Rattle.line_feed.specs.Answers.{Gives, Ends, Refuses}
use Rattle.line_feed.specs.Hears.{HasGiven, HasHeard}
use Rattle.line_feed.proofs.Given.{HasGiven-none, HasGiven-gives, HasGiven-lacks, HasHeard-ends, HasHeard-breaks}
use Rattle.line_feed.proofs.Given.{HasHeard-overflows, HasHeard-exceeds, HasBegun-given, live-gives, kind-gives}
use Rattle.line_feed.proofs.Given.{max-gives}
use Rattle.grep_args.specs.declared.plan.GrepPlan.{GrepPlan}
use Rattle.grep_output.specs.declared.ended.Ended.{Ended}
use Rattle.grep_output.specs.declared.ended.Ended.TheVariants as told
use Rattle.grep_output.specs.declared.ended.Stop.{Stop}
use Rattle.grep_output.specs.declared.ended.Stop.TheVariants.{Memory}
use Rattle.tool_io.specs.declared.target.Target.{Target}
use Rattle.tool_io.specs.declared.target.Target.TheVariants as targets
use Rattle.tool_io.specs.Asked.{Asked, Opened, asked, is_standard, named_target}
use Rattle.grep_main.specs.PatternFiles.{shown_name, FileTexts, is_white, with_byte, trimmed, is_given, patterns_in}
use Rattle.grep_main.specs.PatternFiles.{texts_or_message, texts_of_rows, texts_of, texts_then, texts_in_files}
use Rattle.grep_output.specs.Ends.{ended_of, stop_of}
use Rattle.grep_output.specs.Messages.{ended_message}
use Rattle.grep_output.specs.Scans as meant
use Rattle.tool_io.specs.Writes.{Writes, WritesAll}
use Rattle.grep_core.specs.Turns.{Halts, ended_by}
use Rattle.grep_core.proofs.Halting.{halts-of}
use Rattle.tool_io.proofs.Printing.{wrote-of, prefix-none}
use Rattle.tool_io.specs.Takes.{IsLeft, Takes, TakesAll}
use Rattle.grep_main.specs.Adds.{AddsLines, AddsTo, AddsWordFrom, AddsAllFrom}
use Rattle.grep_main.specs.Leaves.{LeavesUnasked}
use Rattle.grep_main.proofs.Tying.{unasked-front, unasked-join}
use Rattle.tool_io.proofs.Taking.{takes-none, takes-more, takes-then, takes-end, takes-rest, takes-standard}
use Rattle.tool_io.proofs.Taking.{takes-opened}
use Rattle.tool_io.proofs.Absence.{absent-none, absent-then, absent-join, absent-there, rest-there}
use Rattle.tool_io.specs.Absent.{AbsentBy}

-- White space at the end of a line: its last byte is white, or it isn't.

last-of : (line : List ℕ) → 1 ≤ length line → line ≡ take (length line - 1) line ++ get_or line (length line - 1) 0 ∷ []
last-of line some = sym (take_all (length line - 1 + 1) line (omega arith))
    ∙ take_more line (length line - 1) 0 (omega arith)

white-last : (line : List ℕ) (b : ℕ) → is_white b ≡ true → trimmed (line ++ b ∷ []) ≡ trimmed line
white-last [] b is = ap (λ t. if t then [] else b ∷ []) is
white-last (c ∷ line) b is = ap (with_byte c) (white-last line b is)

other-last : (line : List ℕ) (b : ℕ) → is_white b ≡ false → trimmed (line ++ b ∷ []) ≡ line ++ b ∷ []
other-last [] b is = ap (λ t. if t then [] else b ∷ []) is
other-last (c ∷ line) b is = ap (with_byte c) (other-last line b is) ∙ some line
  where
    some : (line : List ℕ) → with_byte c (line ++ b ∷ []) ≡ c ∷ (line ++ b ∷ [])
    some [] = refl
    some (d ∷ line) = refl

pub trimmed-white : (line : List ℕ) → 1 ≤ length line → is_white (get_or line (length line - 1) 0) ≡ true
    → trimmed (take (length line - 1) line) ≡ trimmed line
trimmed-white line some is = sym (ap trimmed (last-of line some)
    ∙ white-last (take (length line - 1) line) (get_or line (length line - 1) 0) is)

pub trimmed-other : (line : List ℕ) → 1 ≤ length line → is_white (get_or line (length line - 1) 0) ≡ false
    → line ≡ trimmed line
trimmed-other line some is =
    last-of line some ∙ sym (other-last (take (length line - 1) line) (get_or line (length line - 1) 0) is)
    ∙ sym (ap trimmed (last-of line some))

-- The lines of a source.

patterns-more : (found : List Row) (row : Row) → patterns_in (found ++ row ∷ []) ≡ patterns_in found ++ filter
    is_given (trimmed row.bytes ∷ [])
patterns-more found row =
    ap (filter is_given) (map-append (λ (r : Row). trimmed r.bytes) found (row ∷ []))
    ∙ filter-append is_given (map (λ (r : Row). trimmed r.bytes) found) (trimmed row.bytes ∷ [])

-- since the source stood so, the feed has given lines, and their patterns were added
pub record Adding (max : ℕ) (before now : Told) (f : Feed) (old new : List (List ℕ)) : Type 0 where
  pub live : f.phase ≢ Closed
  pub kind : f.kind ≡ Lf
  pub most : f.max ≡ max
  pub given : List Row
  pub has : HasGiven before now f given
  pub texts : new ≡ old ++ patterns_in given

pub adding-none : (max : ℕ) (t : Told) (f : Feed) (old : List (List ℕ)) → f.kind ≡ Lf → f.max ≡ max → f.held ≡ []
    → f.number ≡ 0 → f.offset ≡ 0 → f.phase ≡ Open
    → Adding max t t f old old
adding-none max t f old kind most held number offset phase = record {
  live = λ closed. (let e : Open ≡ Closed = sym phase ∙ closed in cc);
  kind = kind;
  most = most;
  given = [];
  has = HasGiven-none t f held number offset phase;
  texts = sym (append-nil old);
}

module _ (max : ℕ) (before now after : Told) (f g : Feed) (old mid : List (List ℕ))
    (adding : Adding max before now f old mid) where
  pub adding-more : (row : Row) (new : List (List ℕ)) → Gives f g now after row
      → new ≡ mid ++ filter is_given (trimmed row.bytes ∷ []) → Adding max before after g old new
  adding-more row new gives is =
      let more = filter is_given (trimmed row.bytes ∷ []) in
      record {
        live = live-gives f g now after row gives;
        kind = kind-gives f g now after row gives ∙ adding.kind;
        most = max-gives f g now after row gives ∙ adding.most;
        given = adding.given ++ row ∷ [];
        has = HasGiven-gives before now after f g adding.given row adding.has gives;
        texts = is ∙ ap (λ l. l ++ more) adding.texts ∙ append_assoc old (patterns_in adding.given) more
            ∙ ap (λ l. old ++ l) (sym (patterns-more adding.given row));
      }

  adds-heard : (finish : Finish) (ended : Ended) → HasHeard f.kind f.max before after adding.given finish
      → ended_of ended ≡ meant.at_finish finish
      → AddsLines max before after old mid (Ok ended)
  adds-heard finish ended heard so =
      let lined : HasHeard Lf max before after adding.given finish =
      subst (λ m. HasHeard Lf m before after adding.given finish) adding.most
      (subst (λ k. HasHeard k f.max before after adding.given finish) adding.kind heard) in (
        lined.input,
        lined.hears,
        so ∙ sym (ap (λ (r : Rows). meant.at_finish r.finish) lined.all),
        adding.texts ∙ sym (ap (λ (r : Rows). old ++ patterns_in r.rows) lined.all),
      )

  pub adds-end : Ends f g now after → AddsLines max before after old mid (Ok told.End)
  adds-end ends = adds-heard (At End) told.End (HasHeard-ends before now after f g adding.given adding.has ends) refl

  -- the feed refuses a line
  pub adds-refused : (e : FeedError) → Refuses f g now after e → AddsLines max before after old mid (ended_by e)
  adds-refused feed.ReadFault refuses = adds-heard (At Fault) told.ReadFault
      (HasHeard-breaks before now after f g adding.given adding.has refuses) refl
  adds-refused (feed.TooLong line) refuses = adds-heard (Long line) (told.TooLong line)
      (HasHeard-exceeds before now after f g adding.given line adding.has refuses) refl
  adds-refused feed.TooMuch refuses = adds-heard (At Limit) told.TooMuch
      (HasHeard-overflows before now after f g adding.given adding.has refuses) refl
  adds-refused feed.Memory refuses =
      let begun = HasBegun-given before after g adding.given
      (HasGiven-lacks before now after f g adding.given adding.has refuses.0) in
      ((begun.input, begun.hears), refl)

  -- memory lacked for the pattern of a line
  pub adds-stopped : (row : Row) (new : List (List ℕ)) (stop : Stop) → Gives f g now after row → stop ≡ Memory
      → AddsLines max before after old new (Err stop)
  adds-stopped row new stop gives is =
      let begun = HasBegun-given before after g (adding.given ++ row ∷ [])
      (HasGiven-gives before now after f g adding.given row adding.has gives) in ((begun.input, begun.hears), is)

-- Memory lacked before a message was written.

pub adds-lacks : (texts : FileTexts) (old new : List (List ℕ)) (err_old err_new : Kept) (stop : Stop) → stop ≡ Memory
    → err_new ≡ err_old → AddsTo texts old new err_old err_new (Err stop)
adds-lacks (Ok more) old new err_old err_new stop is same = (is, same)
adds-lacks (Err text) old new err_old err_new stop is same =
    subst (Halts text err_old err_new) (sym is)
    (subst (λ e. Halts text err_old e Memory) (sym same) (prefix-none err_old.held text, refl))

-- The lines of a source end before its end, which a message tells.

abbrev finish-of : meant.Ended → Finish
finish-of (meant.at_finish finish) = finish
finish-of meant.early = At End
finish-of meant.too_many_errors = At End

cut-text : (name : List ℕ) (found : Rows) (ended : Ended) → ended ≢ told.End
    → ended_of ended ≡ meant.at_finish found.finish
    → Err (ended_message false name (ended_of ended)) ≡ texts_of_rows name found
cut-text name found told.End other so = absurd (other refl)
cut-text name found told.Early other so = cc
cut-text name found told.ReadFault other so = ap (texts_or_message name found.rows) (ap finish-of so)
cut-text name found (told.TooLong line) other so = ap (texts_or_message name found.rows) (ap finish-of so)
cut-text name found told.TooMuch other so = ap (texts_or_message name found.rows) (ap finish-of so)

module _ (name : List ℕ) (found : Rows) (ended : Ended) (other : ended ≢ told.End)
    (so : ended_of ended ≡ meant.at_finish found.finish) (old new : List (List ℕ)) (err_old err_new : Kept) where
  pub source-cut : (u : Unit {0}) → Writes (ended_message false name (ended_of ended)) err_old err_new (Ok u)
      → AddsTo (texts_of_rows name found) old new err_old err_new (Ok false)
  source-cut u writes = subst (λ t. AddsTo t old new err_old err_new (Ok false)) (cut-text name found ended other so)
      (wrote-of _ err_old err_new u writes)

  pub source-untold : (e : IoError) → Writes {T = Unit {0}} (ended_message false name (ended_of ended)) err_old
      err_new (Err e)
      → AddsTo (texts_of_rows name found) old new err_old err_new (Err (stop_of e))
  source-untold e writes = subst (λ t. AddsTo t old new err_old err_new (Err (stop_of e)))
      (cut-text name found ended other so) (halts-of _ err_old err_new e writes)

-- Files one after another.

then-none : (more : FileTexts) → texts_then (Ok []) more ≡ more
then-none (Ok more) = refl
then-none (Err text) = refl

none-then : (first : FileTexts) → texts_then first (Ok []) ≡ first
none-then (Ok first) = ap Ok (append-nil first)
none-then (Err text) = refl

then-assoc : (a b c : FileTexts) → texts_then a (texts_then b c) ≡ texts_then (texts_then a b) c
then-assoc (Err text) b c = refl
then-assoc (Ok first) (Err text) c = refl
then-assoc (Ok first) (Ok more) (Err text) = refl
then-assoc (Ok first) (Ok more) (Ok last) = ap Ok (sym (append_assoc first more last))

files-more : (plan : GrepPlan) (given more : List Asked)
    → texts_in_files plan (given ++ more) ≡ texts_then (texts_in_files plan given) (texts_in_files plan more)
files-more plan [] more = sym (then-none (texts_in_files plan more))
files-more plan (a ∷ given) more =
    let first = texts_of plan (shown_name plan a.target) a.input in
    ap (texts_then first) (files-more plan given more)
    ∙ then-assoc first (texts_in_files plan given) (texts_in_files plan more)

files-one : (plan : GrepPlan) (given : List Asked) (a : Asked)
    → texts_then (texts_in_files plan given) (texts_of plan (shown_name plan a.target) a.input) ≡ texts_in_files plan
    (given ++ a ∷ [])
files-one plan given a =
    sym (files-more plan given (a ∷ []) ∙ ap (texts_then (texts_in_files plan given))
    (none-then (texts_of plan (shown_name plan a.target) a.input)))

adds-then : (first more : FileTexts) (old mid new : List (List ℕ)) (err_old err_mid err_new : Kept)
    (result : Result Bool Stop) → AddsTo first old mid err_old err_mid (Ok true)
    → AddsTo more mid new err_mid err_new result → AddsTo (texts_then first more) old new err_old err_new result
adds-then (Err text) more old mid new err_old err_mid err_new result h i = absurd h
adds-then (Ok first) (Ok more) old mid new err_old err_mid err_new (Ok true) h i =
    (i.0 ∙ ap (λ l. l ++ more) h.0 ∙ append_assoc old first more, i.1 ∙ h.1)
adds-then (Ok first) (Ok more) old mid new err_old err_mid err_new (Ok false) h i = absurd i
adds-then (Ok first) (Ok more) old mid new err_old err_mid err_new (Err stop) h i = (i.0, i.1 ∙ h.1)
adds-then (Ok first) (Err text) old mid new err_old err_mid err_new (Ok true) h i = absurd i
adds-then (Ok first) (Err text) old mid new err_old err_mid err_new (Ok false) h i =
    subst (λ e. WritesAll text e err_new) h.1 i
adds-then (Ok first) (Err text) old mid new err_old err_mid err_new (Err stop) h i =
    subst (λ e. Halts text e err_new stop) h.1 i

-- it stops at a file, whatever those after it are
adds-cut : (texts rest : FileTexts) (old new : List (List ℕ)) (err_old err_new : Kept)
    → AddsTo texts old new err_old err_new (Ok false)
    → AddsTo (texts_then texts rest) old new err_old err_new (Ok false)
adds-cut (Ok more) rest old new err_old err_new h = absurd h
adds-cut (Err text) rest old new err_old err_new h = h

adds-halted : (texts rest : FileTexts) (old new : List (List ℕ)) (err_old err_new : Kept) (stop : Stop)
    → AddsTo texts old new err_old err_new (Err stop)
    → AddsTo (texts_then texts rest) old new err_old err_new (Err stop)
adds-halted (Ok more) rest old new err_old err_new stop h =
    adds-lacks (texts_then (Ok more) rest) old new err_old err_new stop h.0 h.1
adds-halted (Err text) rest old new err_old err_new stop h = h

-- the patterns of the files that these words name were added
pub record AddsFiles (plan : GrepPlan) (contents : Option Contents) (first last : ℕ) (was_used is_used : Bool)
    (before now : Told) (words : List (List ℕ)) (old new : List (List ℕ)) (err_old err_new : Kept) : Type 0 where
  pub given : List Asked
  pub takes : Takes was_used is_used before now contents (map named_target words) given
  pub adds : AddsTo (texts_in_files plan given) old new err_old err_new (Ok true)
  pub absent : AbsentBy contents first last given

pub adds-none : (plan : GrepPlan) (contents : Option Contents) (first : ℕ) (was_used : Bool) (t : Told)
    (texts : List (List ℕ)) (err : Kept) → AddsFiles plan contents first first was_used was_used t t [] texts texts
    err err
adds-none plan contents first was_used t texts err = record {
  given = [];
  takes = takes-none was_used t contents;
  adds = (sym (append-nil texts), refl);
  absent = absent-none contents first first;
}

-- the targets of words up to one of them, and of those after it
pub named-more : (words : List (List ℕ)) (i : ℕ) (word : List ℕ) → slice_get words i ≡ Some word
    → map named_target (take i words) ++ named_target word ∷ [] ≡ map named_target (take (i + 1) words)
named-more words i word at =
    sym (map-append named_target (take i words) (word ∷ []))
    ∙ ap (map named_target) (sym (take_more words i [] (slice_get_within words i word at)
    ∙ ap (λ (w : List ℕ). take i words ++ w ∷ []) (get_or_from_slice_get words i word [] at)))

pub named-all : (words : List (List ℕ)) (i : ℕ) (word : List ℕ) → slice_get words i ≡ Some word
    → (map named_target (take i words) ++ named_target word ∷ []) ++ map named_target (drop (i + 1) words) ≡ map
    named_target words
named-all words i word at =
    ap (λ l. l ++ map named_target (drop (i + 1) words)) (named-more words i word at)
    ∙ sym (map-append named_target (take (i + 1) words) (drop (i + 1) words))
    ∙ ap (map named_target) (take-append-drop (i + 1) words)

-- the patterns of the files before this one were added, and then it was read
module _ (plan : GrepPlan) (contents contents_now : Option Contents) (first mid_faults last : ℕ)
    (was_used mid_used is_used : Bool) (before now after : Told) (i : ℕ) (word : List ℕ) (old mid new : List (List ℕ))
    (err_old err_mid err_new : Kept)
    (at : slice_get plan.pattern_files i ≡ Some word) (same : contents_now ≡ contents) (earlier : first ≤ mid_faults)
    (later : mid_faults ≤ last) (files : AddsFiles plan contents first mid_faults was_used mid_used before now
    (take i plan.pattern_files) old mid err_old err_mid) where
  abbrev named : List Target
  named = map named_target (take i plan.pattern_files)

  abbrev target_here : Target
  target_here = named_target word

  after_words : (result : Result Bool Stop)
      → (w : AddsWordFrom plan word contents_now mid_faults last mid_used is_used now after mid new err_mid err_new
      result)
      → AddsTo (texts_in_files plan (files.given ++ asked target_here w.given ∷ [])) old new err_old err_new result
  after_words result w =
      subst (λ t. AddsTo t old new err_old err_new result) (files-one plan files.given (asked target_here w.given))
      (adds-then (texts_in_files plan files.given) (texts_of plan (shown_name plan target_here) w.given) old mid new
      err_old err_mid err_new result files.adds w.adds)

  -- a file that is absent has its cause
  absent_words : (result : Result Bool Stop)
      → (w : AddsWordFrom plan word contents_now mid_faults last mid_used is_used now after mid new err_mid err_new
      result) → AbsentBy contents first last (files.given ++ asked target_here w.given ∷ [])
  absent_words result w =
      absent-then contents first mid_faults last files.given (asked target_here w.given ∷ []) earlier later files.absent
      (subst (λ c. AbsentBy c mid_faults last (asked target_here w.given ∷ [])) same w.absent)

  pub adds-more : AddsWordFrom plan word contents_now mid_faults last mid_used is_used now after mid new err_mid
      err_new (Ok true)
      → AddsFiles plan contents first last was_used is_used before after (take (i + 1) plan.pattern_files) old new
      err_old err_new
  adds-more w = record {
    given = files.given ++ asked target_here w.given ∷ [];
    takes = subst (λ l. Takes was_used is_used before after contents l
        (files.given ++ asked target_here w.given ∷ [])) (named-more plan.pattern_files i word at)
        (takes-more was_used mid_used is_used before now after contents named (target_here ∷ []) files.given
        (asked target_here w.given ∷ []) files.takes
        (subst (λ c. Takes mid_used is_used now after c (target_here ∷ []) (asked target_here w.given ∷ [])) same
        w.takes));
    adds = after_words (Ok true) w;
    absent = absent_words (Ok true) w;
  }

  -- what all files stand for, where it stops at this one
  all-taken : (result : Result Bool Stop) (w : AddsWordFrom plan word contents_now mid_faults last mid_used is_used
      now after mid new err_mid err_new result)
      → (more : List Asked) × TakesAll was_used before after contents (map named_target plan.pattern_files)
      ((files.given ++ asked target_here w.given ∷ []) ++ more)
      × AbsentBy contents first last more
  all-taken result w =
      let one = subst (λ c. Takes mid_used is_used now after c (target_here ∷ []) (asked target_here w.given ∷ []))
      same w.takes in
      let ended = takes-end mid_used is_used now after contents (target_here ∷ []) (asked target_here w.given ∷ [])
      one in
      let here = takes-then was_used mid_used before now after contents named (target_here ∷ []) files.given
      (asked target_here w.given ∷ []) files.takes ended in
      let others = map named_target (drop (i + 1) plan.pattern_files) in
      let taken = takes-rest was_used before after contents (named ++ target_here ∷ []) others
      (files.given ++ asked target_here w.given ∷ []) here in (
        taken.0,
        subst (λ l. TakesAll was_used before after contents l
            ((files.given ++ asked target_here w.given ∷ []) ++ taken.0)) (named-all plan.pattern_files i word at)
            taken.1,
        rest-there contents first last was_used before after (named ++ target_here ∷ []) others
            (files.given ++ asked target_here w.given ∷ []) here,
      )

  pub adds-stops : AddsWordFrom plan word contents_now mid_faults last mid_used is_used now after mid new err_mid
      err_new (Ok false)
      → AddsAllFrom plan contents first last was_used is_used before after old new err_old err_new (Ok false)
  adds-stops w =
      let taken = all-taken (Ok false) w in
      let given = files.given ++ asked target_here w.given ∷ [] in (
        given ++ taken.0,
        taken.1,
        subst (λ t. AddsTo t old new err_old err_new (Ok false)) (sym (files-more plan given taken.0))
            (adds-cut (texts_in_files plan given) (texts_in_files plan taken.0) old new err_old err_new
            (after_words (Ok false) w)),
        absent-join contents first last given taken.0 (absent_words (Ok false) w) taken.2,
      )

  pub adds-halts : (stop : Stop) → AddsWordFrom plan word contents_now mid_faults last mid_used is_used now after mid
      new err_mid err_new (Err stop)
      → AddsAllFrom plan contents first last was_used is_used before after old new err_old err_new (Err stop)
  adds-halts stop w =
      let taken = all-taken (Err stop) w in
      let given = files.given ++ asked target_here w.given ∷ [] in (
        given ++ taken.0,
        taken.1,
        subst (λ t. AddsTo t old new err_old err_new (Err stop)) (sym (files-more plan given taken.0))
            (adds-halted (texts_in_files plan given) (texts_in_files plan taken.0) old new err_old err_new stop
            (after_words (Err stop) w)),
        absent-join contents first last given taken.0 (absent_words (Err stop) w) taken.2,
      )

-- One file of patterns: standard input, or a file by its name.
module _ (plan : GrepPlan) (word : List ℕ) (contents : Option Contents) (first last : ℕ) (old new : List (List ℕ))
    (err_old err_new : Kept) (result : Result Bool Stop) where
  word_adds : (target : Target) (was_used is_used : Bool) (before after : Told) (given : Option Input)
      → named_target word ≡ target → Takes was_used is_used before after contents (target ∷ [])
      (asked target given ∷ [])
      → AddsTo (texts_of plan (shown_name plan target) given) old new err_old err_new result
      → AbsentBy contents first last (asked target given ∷ [])
      → AddsWordFrom plan word contents first last was_used is_used before after old new err_old err_new result
  word_adds target was_used is_used before after given is takes adds absent = record {
    given = given;
    takes = subst (λ t. Takes was_used is_used before after contents (t ∷ []) (asked t given ∷ [])) (sym is) takes;
    adds = subst (λ t. AddsTo (texts_of plan (shown_name plan t) given) old new err_old err_new result) (sym is) adds;
    absent = subst (λ t. AbsentBy contents first last (asked t given ∷ [])) (sym is) absent;
  }

  named-is : (b : Bool) → bytes_eq word (codes "-") ≡ b
      → named_target word ≡ (if b then targets.Input else targets.File word)
  named-is b is = ap (λ x. if x then targets.Input else targets.File word) is

  pub adds-standard : (was_used is_used : Bool) (before after : Told) (left : Input)
      → bytes_eq word (codes "-") ≡ true → IsLeft was_used is_used before after left
      → AddsTo (texts_of plan plan.label (Some left)) old new err_old err_new result
      → AddsWordFrom plan word contents first last was_used is_used before after old new err_old err_new result
  adds-standard was_used is_used before after left is taken adds =
      word_adds targets.Input was_used is_used before after (Some left) (named-is true is)
      (takes-standard was_used is_used before after contents targets.Input left refl taken) adds
      (absent-there contents first last targets.Input left)

  pub adds-named : (used : Bool) (t : Told) (given : Option Input) → bytes_eq word (codes "-") ≡ false
      → Opened contents word given
      → AddsTo (texts_of plan word given) old new err_old err_new result
      → AbsentBy contents first last (asked (targets.File word) given ∷ [])
      → AddsWordFrom plan word contents first last used used t t old new err_old err_new result
  adds-named used t given is opened adds absent =
      word_adds (targets.File word) used used t t given (named-is false is)
      (takes-opened used t contents (targets.File word) given refl opened) adds absent

-- Standard input that isn't among them.

pub standard-asked : (word : List ℕ) (before after : Told) → bytes_eq word (codes "-") ≡ true
    → LeavesUnasked (named_target word ∷ []) before after
standard-asked word before after is =
    λ none. absurd
    (false≢true (sym none ∙ ap (λ b. list_any is_standard ((if b then targets.Input else targets.File word) ∷ []))
    is))

module _ (files : List (List ℕ)) (i : ℕ) (word : List ℕ) (at : slice_get files i ≡ Some word)
    (before now after : Told) (had : LeavesUnasked (map named_target (take i files)) before now)
    (one : LeavesUnasked (named_target word ∷ []) now after) where
  abbrev so_far : List Target
  so_far = map named_target (take i files)

  pub unasked-more : LeavesUnasked (map named_target (take (i + 1) files)) before after
  unasked-more = subst (λ l. LeavesUnasked l before after) (named-more files i word at)
      (unasked-join so_far (named_target word ∷ []) before now after had one)

  pub unasked-all : LeavesUnasked (map named_target files) before after
  unasked-all =
      let others = map named_target (drop (i + 1) files) in
      subst (λ l. LeavesUnasked l before after) (named-all files i word at)
      (unasked-front (so_far ++ named_target word ∷ []) others before after after
      (unasked-join so_far (named_target word ∷ []) before now after had one))
