-- From the words of a run to the search of its targets.
use Rattle.std.proofs.Common.{◌≡◌, refl, sym, ap, subst, ◌∙◌, arith, ℕ, ◌-◌, ◌≤◌, min, IsTrue, Bool, true, false}
use Rattle.std.proofs.Common.{◌||◌, if◌then◌else◌, bytes_eq, codes, List, [], ◌∷◌, ◌++◌, length, map, take, drop}
use Rattle.std.proofs.Common.{Option, Some, None, IfSome, Result, Ok, Err}
use Rattle.std.proofs.lemmas.Bool.{false≢true}
use Rattle.std.proofs.lemmas.List.Folds.{list_any-append}
use Rattle.std.proofs.lemmas.List.{take_at, drop_at, take_all, length-drop, drop_min, drop-map, length-map}
use Rattle.pcre_io.specs.Causes.{Rose}
use Rattle.pcre_io.specs.declared.entries.Kind.TheVariants as kind
use Rattle.pcre_io.specs.Told.{Told, Kept}
use Rattle.pcre_io.specs.Files.{Contents, Filed}
use Rattle.line_feed.specs.Rows.{Input}
use Rattle.grep_args.specs.declared.plan.GrepPlan.{GrepPlan}
use Rattle.grep_args.specs.declared.plan.HelpKind.{HelpKind}
use Rattle.grep_args.specs.Words.{Fault, Reads, plan_of}
use Rattle.tool_io.specs.declared.target.Target.{Target}
use Rattle.tool_io.specs.declared.target.Target.TheVariants as target
use Rattle.grep_targets.specs.Filters.{Filter, BadFilter, filter_of}
use Rattle.grep_targets.specs.Paths.{word_path}
use Rattle.grep_targets.specs.Targets.{allows_file, file_targets, targets}
use Rattle.grep_targets.specs.Stands.{AreOfEach, AreOfName, AreOfWord, AreOfWordBy, AreOfWords}
use Rattle.grep_targets.specs.Walks.{has_failed, is_failed}
use Rattle.grep_output.specs.declared.ended.Stop.{Stop}
use Rattle.grep_output.specs.declared.ended.Stop.TheVariants.{Memory}
use Rattle.tool_io.specs.Absent.{AbsentBy}
use Rattle.tool_io.specs.Asked.{Asked, StandFor, named_target, nothing, standard_after}
use Rattle.pat_tree.specs.Pattern.{Pattern}
use Rattle.grep_core.specs.grep_match.Compiled.{BadPattern, Compiled, patterns_of}
use Rattle.grep_output.specs.InputText.{first_state}
use Rattle.tool_io.specs.Outcomes.{RunOutcome}
use Rattle.tool_io.specs.Printed.{Printed, printed}
use Rattle.grep_main.specs.Refusals.{refusal, pattern_message, filter_message, usage_message, help_text}
use Rattle.grep_main.specs.PatternFiles.{FileTexts, texts_in_files}
use Rattle.grep_main.specs.Reports.{reports}
use Rattle.grep_main.specs.ToolText.{outcome_of, with_names, targets_of, text_by_filter, text_by_patterns}
use Rattle.grep_main.specs.ToolText.{text_by_texts, text_by_plan, text_by_help, text_of}
use Rattle.grep_main.specs.Asks.{Lists, AsksUnless, AsksBy, AsksFor, MayStandFor, asked_by_plan, filtered, targets_by}
use Rattle.tool_io.specs.Takes.{Takes, TakesAll}
use Rattle.grep_main.specs.Adds.{AddsTo, AddsAllFrom}
use Rattle.grep_main.specs.RunsBy.{RunsBy}
use Rattle.grep_main.specs.Stages.{sought, Streams, SearchesFor, SearchesBy, RunsOn, streams}
use Rattle.tool_io.proofs.Taking.{hears-any, stand-any, stand-length, takes-any, takes-rest, takes-then}
use Rattle.tool_io.proofs.Absence.{absent-none, absent-before, absent-join, absent-then, any-there, stand-there}
use Rattle.tool_io.proofs.Absence.{rest-there}
use Rattle.grep_main.specs.Leaves.{LeavesAll, LeavesBy, LeavesTexts, LeavesPlan, LeavesHelp, LeavesReads}
use Rattle.grep_main.specs.Leaves.{LeavesInput, LeavesUnasked, TiesBy, Unless, UnlessLacks}
use Rattle.grep_main.proofs.Summing.{leaves-unread}
use Rattle.grep_main.proofs.Tying.{unasked-front, unasked-join, leaves-nothing, unless-any, where-any, where-map}
use Rattle.grep_main.proofs.Outcomes.{runs-lacks, said-whole, said-halts}

-- Faults that were counted before or after.

rose_later : (first mid last : ℕ) → Rose first mid → mid ≤ last → Rose first last
rose_later first mid last rose later = omega (arith, rose, later)

rose_before : (first mid last : ℕ) → first ≤ mid → Rose mid last → Rose first last
rose_before first mid last later rose = omega (arith, rose, later)

-- What words for files stand for.

pub lists-told : (contents : Option Contents) (first last : ℕ) (plan : GrepPlan) (words : List (List ℕ))
    (list : List Target) (filter : Filter) → filter_of plan ≡ Ok filter
    → IfSome contents (λ set. list ≡ targets filter set words plan.recursive)
    → AreOfWords plan.recursive filter words list → (IsTrue (has_failed list) → Rose first last)
    → Lists contents first last plan words list
lists-told (Some set) first last plan words list filter is told stands causes = told
    ∙ sym (ap (λ f. filtered f plan set words) is)
lists-told None first last plan words list filter is told stands causes =
    (subst (λ f. MayStandFor f plan.recursive words list) (sym is) stands, causes)

pub lists-later : (contents : Option Contents) (first mid last : ℕ) (plan : GrepPlan) (words : List (List ℕ))
    (list : List Target) → mid ≤ last → Lists contents first mid plan words list
    → Lists contents first last plan words list
lists-later (Some set) first mid last plan words list later h = h
lists-later None first mid last plan words list later h = (h.0, λ some. rose_later first mid last (h.1 some) later)

lists-before : (contents : Option Contents) (first mid last : ℕ) (plan : GrepPlan) (words : List (List ℕ))
    (list : List Target) → first ≤ mid → Lists contents mid last plan words list
    → Lists contents first last plan words list
lists-before (Some set) first mid last plan words list later h = h
lists-before None first mid last plan words list later h = (h.0, λ some. rose_before first mid last later (h.1 some))

-- Nobody looked: each name may be a file's.
module _ (recursive : Bool) (filter : Filter) where
  abbrev Unfailed : (List Target → Type 0) → Type 0
  Unfailed Are = (list : List Target) × Are list × (has_failed list ≡ false)

  file-unfailed : (path : List ℕ) → has_failed (file_targets filter path) ≡ false
  file-unfailed path = by_test (allows_file filter path)
    where
      by_test : (b : Bool) → has_failed (if b then target.File path ∷ [] else []) ≡ false
      by_test true = refl
      by_test false = refl

  name-any : (r : Bool) (path : List ℕ) → AreOfName r filter path (file_targets filter path)
  name-any true path = (Some kind.File, refl)
  name-any false path = refl

  word-any : (word : List ℕ) → Unfailed (AreOfWord recursive filter word)
  word-any word = by_test (bytes_eq word (codes "-"))
    where
      by_test : (b : Bool) → Unfailed (AreOfWordBy b recursive filter word)
      by_test true = (target.Input ∷ [], refl, refl)
      by_test false = let path = word_path word in
          (file_targets filter path, name-any recursive path, file-unfailed path)

  each-any : (words : List (List ℕ)) → Unfailed (AreOfEach (AreOfWord recursive filter) words)
  each-any [] = ([], refl, refl)
  each-any (word ∷ words) =
      let a = word-any word in
      let b = each-any words in (
        a.0 ++ b.0,
        (a.0, b.0, refl, a.1, b.1),
        list_any-append is_failed a.0 b.0 ∙ ap (λ x. x || has_failed b.0) a.2
            ∙ b.2,
      )

  words-any : (words : List (List ℕ)) → Unfailed (AreOfWords recursive filter words)
  words-any [] = (target.Input ∷ [], refl, refl)
  words-any (word ∷ words) = each-any (word ∷ words)

lists-any : (contents : Option Contents) (first last : ℕ) (plan : GrepPlan) (words : List (List ℕ))
    → (list : List Target) × Lists contents first last plan words list
lists-any (Some set) first last plan words = (targets_by plan set words, refl)
lists-any None first last plan words = let h = by_filter (filter_of plan) in
    (h.0, (h.1, λ some. absurd (false≢true (sym h.2 ∙ some))))
  where
    by_filter : (found : Result Filter BadFilter) → (list : List Target) × MayStandFor found plan.recursive words list
        × (has_failed list ≡ false)
    by_filter (Err bad) = ([], refl, refl)
    by_filter (Ok filter) = words-any plan.recursive filter words

stand-targets : (contents : Option Contents) (standard : Input) (list : List Target) (given : List Asked)
    → StandFor contents standard list given → targets_of given ≡ list
stand-targets contents standard [] [] h = refl
stand-targets contents standard [] (a ∷ given) h = absurd h
stand-targets contents standard (target ∷ list) [] h = absurd h
stand-targets contents standard (target ∷ list) (a ∷ given) h =
    λ i. h.0 i ∷ stand-targets contents (standard_after target standard) list given h.2 i

takes-targets : (was_used : Bool) (before after : Told) (contents : Option Contents) (list : List Target)
    (given : List Asked) → TakesAll was_used before after contents list given → targets_of given ≡ list
takes-targets true before after contents list given h = stand-targets contents _ list given h.1
takes-targets false before after contents list given h = stand-targets contents h.0 list given h.2

-- A search for these patterns.
module _ (plan : GrepPlan) (found : Compiled) (words : List (List ℕ)) (was_used : Bool) (files files_new : Filed) where
  -- no target is looked at
  for-any : (t : Told) (old new : Printed) (result : Result ℕ Stop)
      → ((given : List Asked) → RunsBy (text_by_patterns words plan given found) old new result)
      → ((given : List Asked) → UnlessLacks result (Unless was_used (LeavesBy t t words plan given found)))
      → SearchesFor (sought plan found words) was_used (streams files t old) (streams files_new t new) result
  for-any t old new result runs leaves =
      let list = lists-any files.contents files.faults files_new.faults plan words in
      let any = takes-any was_used t files.contents list.0 in (
        list.0,
        list.1,
        (
          any.0,
          any.1,
          runs any.0,
          record {
            absent = any-there files.contents files.faults files_new.faults was_used t list.0;
            leaves = leaves any.0;
          },
          λ none. refl,
        ),
      )

  pub for-lacks : (t : Told) (out err : Kept) → SearchesFor (sought plan found words) was_used
      (streams files t (printed out err)) (streams files_new t (printed out err)) (Err Memory)
  for-lacks t out err = for-any t (printed out err) (printed out err) (Err Memory)
      (λ given. runs-lacks (text_by_patterns words plan given found) out err) (λ given. tt)

  pub for-refused : (bad : BadPattern) (t : Told) (old new : Printed) (result : Result ℕ Stop) → found ≡ Err bad
      → RunsBy (refusal (pattern_message bad)) old new result
      → SearchesFor (sought plan found words) was_used (streams files t old) (streams files_new t new) result
  for-refused bad t old new result is h =
      for-any t old new result (λ given. subst (λ f. RunsBy (text_by_patterns words plan given f) old new result)
      (sym is) h)
      (λ given. where-any result (Unless was_used (LeavesBy t t words plan given found))
      (unless-any was_used (LeavesBy t t words plan given found)
      (subst (λ f. LeavesBy t t words plan given f) (sym is) tt)))

pub for-found : (plan : GrepPlan) (found : Compiled) (patterns : List Pattern) (words : List (List ℕ))
    (was_used : Bool) (old new : Streams) (result : Result ℕ Stop) → found ≡ Ok patterns
    → SearchesFor (sought plan (Ok patterns) words) was_used old new result
    → SearchesFor (sought plan found words) was_used old new result
for-found plan found patterns words was_used old new result is h =
    subst (λ f. SearchesFor (sought plan f words) was_used old new result) (sym is) h

module _ (plan : GrepPlan) (patterns : List Pattern) (words : List (List ℕ)) (was_used : Bool)
    (files files_new : Filed) where
  pub for-unfiltered : (bad : BadFilter) (t : Told) (old new : Printed) (result : Result ℕ Stop)
      → filter_of plan ≡ Err bad → RunsBy (refusal (filter_message bad)) old new result
      → SearchesFor (sought plan (Ok patterns) words) was_used (streams files t old) (streams files_new t new) result
  for-unfiltered bad t old new result is h =
      for-any plan (Ok patterns) words was_used files files_new t old new result
      (λ given. subst (λ f. RunsBy (text_by_filter words plan given patterns f) old new result) (sym is) h)
      (λ given.
      let fact = LeavesBy t t words plan given (Ok patterns) in
      where-any result (Unless was_used fact)
      (unless-any was_used fact (leaves-unread (with_names words (targets_of given) plan) patterns t given
      first_state)))

  pub for-listed : (mid_faults : ℕ) (filter : Filter) (list : List Target) (named : GrepPlan) (before after : Told)
      (old new : Printed) (result : Result ℕ Stop) → files.faults ≤ mid_faults → filter_of plan ≡ Ok filter
      → Lists files.contents files.faults files_new.faults plan words list → named ≡ with_names words list plan
      → LeavesUnasked list before after
      → ((given : List Asked) × TakesAll was_used before after files.contents list given × RunsBy
      (outcome_of named (reports named patterns given first_state)) old new result
      × TiesBy files.contents mid_faults files_new.faults given result
      (Unless was_used (LeavesAll before after named patterns given first_state)))
      → SearchesFor (sought plan (Ok patterns) words) was_used (streams files before old)
      (streams files_new after new) result
  for-listed mid_faults filter list named before after old new result later is lists names unused h =
      let same = takes-targets was_used before after files.contents list h.0 h.1 in
      let named_so : named ≡ with_names words (targets_of h.0) plan = names
      ∙ ap (λ l. with_names words l plan) (sym same) in (
        list,
        lists,
        (
          h.0,
          h.1,
          subst (λ f. RunsBy (text_by_filter words plan h.0 patterns f) old new result) (sym is)
              (subst (λ p. RunsBy (outcome_of p (reports p patterns h.0 first_state)) old new result) named_so h.2),
          record {
            absent = absent-before files.contents files.faults mid_faults files_new.faults h.0 later h.3.absent;
            leaves = subst
                (λ p. UnlessLacks result (Unless was_used (LeavesAll before after p patterns h.0 first_state)))
                named_so h.3.leaves;
          },
          unused,
        ),
      )

-- What a run comes to, by what its files of patterns gave.
module _ (words : List (List ℕ)) (plan : GrepPlan) (given : List Asked) (old new : List (List ℕ)) where
  unread-text : (found : FileTexts) (out err_old err_new : Kept) → AddsTo found old new err_old err_new (Ok false)
      → RunsBy (text_by_texts words plan given found) (printed out err_old) (printed out err_new) (Ok 2)
  unread-text (Ok more) out err_old err_new h = absurd h
  unread-text (Err text) out err_old err_new h = said-whole text 2 out err_old err_new h

  stopped-text : (found : FileTexts) (out err_old err_new : Kept) (stop : Stop)
      → AddsTo found old new err_old err_new (Err stop)
      → RunsBy (text_by_texts words plan given found) (printed out err_old) (printed out err_new) (Err stop)
  stopped-text (Ok more) out err_old err_new stop h =
      subst (λ s. RunsBy (text_by_texts words plan given (Ok more)) (printed out err_old) (printed out err_new)
      (Err s)) (sym h.0)
      (subst (λ k. RunsBy (text_by_texts words plan given (Ok more)) (printed out err_old) (printed out k)
      (Err Memory)) (sym h.1) (runs-lacks (text_by_texts words plan given (Ok more)) out err_old))
  stopped-text (Err text) out err_old err_new stop h = said-halts text 2 out err_old err_new stop h

  read-text : (found : FileTexts) (out_old err_old err_mid : Kept) (printed_new : Printed) (result : Result ℕ Stop)
      → old ≡ plan.patterns → AddsTo found old new err_old err_mid (Ok true)
      → RunsBy (text_by_patterns words plan given (patterns_of plan new)) (printed out_old err_mid) printed_new result
      → RunsBy (text_by_texts words plan given found) (printed out_old err_old) printed_new result
  read-text (Ok more) out_old err_old err_mid printed_new result own h i =
      subst (λ ts. RunsBy (text_by_patterns words plan given (patterns_of plan ts)) (printed out_old err_old)
      printed_new result) (h.0 ∙ ap (λ ts. ts ++ more) own)
      (subst (λ k. RunsBy (text_by_patterns words plan given (patterns_of plan new)) (printed out_old k) printed_new
      result) h.1 i)
  read-text (Err text) out_old err_old err_mid printed_new result own h i = absurd h

-- What is left of standard input, by what the files of patterns gave.
module _ (words : List (List ℕ)) (plan : GrepPlan) (given : List Asked) (old new : List (List ℕ))
    (before after : Told) where
  unread-leaves : (found : FileTexts) (err_old err_new : Kept) → AddsTo found old new err_old err_new (Ok false)
      → LeavesTexts before after words plan given found
  unread-leaves (Ok more) err_old err_new h = absurd h
  unread-leaves (Err text) err_old err_new h = tt

  stopped-leaves : (found : FileTexts) (err_old err_new : Kept) (stop : Stop)
      → AddsTo found old new err_old err_new (Err stop)
      → UnlessLacks {T = ℕ} (Err stop) (LeavesTexts before after words plan given found)
  stopped-leaves (Ok more) err_old err_new stop h =
      subst (λ x. UnlessLacks {T = ℕ} (Err x) (LeavesTexts before after words plan given (Ok more))) (sym h.0) tt
  stopped-leaves (Err text) err_old err_new stop h = where-any {T = ℕ} (Err stop)
      (LeavesTexts before after words plan given (Err text)) tt

  read-leaves : (found : FileTexts) (err_old err_mid : Kept) → old ≡ plan.patterns
      → AddsTo found old new err_old err_mid (Ok true) → LeavesBy before after words plan given (patterns_of plan new)
      → LeavesTexts before after words plan given found
  read-leaves (Ok more) err_old err_mid own h i =
      subst (λ ts. LeavesBy before after words plan given (patterns_of plan ts)) (h.0 ∙ ap (λ ts. ts ++ more) own) i
  read-leaves (Err text) err_old err_mid own h i = absurd h

module _ (words : List (List ℕ)) (plan : GrepPlan) (given : List Asked) (before mid after : Told)
    (contents : Option Contents) where
  -- nothing is left of it for the targets
  used-leaves : (list : List Target) (found : Compiled) → StandFor contents nothing list given
      → LeavesBy before after words plan given found
  used-leaves list (Err bad) stand = tt
  used-leaves list (Ok patterns) stand = leaves-nothing (with_names words (targets_of given) plan) patterns contents
      before after list given first_state stand

  begun-leaves : (named list : List Target) (pattern_files : List Asked) (found : Compiled) (result : Result ℕ Stop)
      (used : Bool) → Takes false used before mid contents named pattern_files
      → TakesAll used mid after contents list given
      → UnlessLacks result (Unless used (LeavesBy mid after words plan given found))
      → UnlessLacks result (LeavesBy before after words plan given found)
  begun-leaves named list pattern_files found result true takes all leaves =
      where-any result (LeavesBy before after words plan given found) (used-leaves list found all.1)
  begun-leaves named list pattern_files found result false takes all leaves =
      subst (λ t. UnlessLacks result (LeavesBy t after words plan given found)) takes.0 leaves

-- A search by a plan.
module _ (plan : GrepPlan) (words : List (List ℕ)) (files files_new : Filed) (before after : Told) where
  abbrev named : List Target
  named = map named_target plan.pattern_files

  named-length : (given : List Asked) → length given ≡ length named → length given ≡ length plan.pattern_files
  named-length given h = h ∙ length-map plan.pattern_files named_target

  -- the words for files aren't looked at
  by-files : (pattern_files : List Asked) (old new : Printed) (result : Result ℕ Stop)
      → LeavesUnasked named before after → TakesAll false before after files.contents named pattern_files
      → AbsentBy files.contents files.faults files_new.faults pattern_files
      → ((given : List Asked) → RunsBy (text_by_plan words plan pattern_files given) old new result)
      → ((given : List Asked) → UnlessLacks result (LeavesPlan before after words plan pattern_files given))
      → SearchesBy plan words (streams files before old) (streams files_new after new) result
  by-files pattern_files old new result unused h absent runs leaves =
      let list = lists-any files.contents files.faults files_new.faults plan words in
      let rest = takes-rest false before after files.contents named list.0 pattern_files h in
      let there = rest-there files.contents files.faults files_new.faults false before after named list.0
      pattern_files h in
      let ties : TiesBy files.contents files.faults files_new.faults (pattern_files ++ rest.0) result
      (LeavesPlan before after words plan pattern_files rest.0) = record {
        absent = absent-join files.contents files.faults files_new.faults pattern_files rest.0 absent there;
        leaves = leaves rest.0;
      } in (
        rest.1.0,
        rest.1.1,
        (
          list.0,
          list.1,
          (
            pattern_files,
            rest.0,
            named-length pattern_files
                (stand-length files.contents h.0 named pattern_files h.2),
            rest.1.2,
            runs rest.0,
            ties,
            unasked-front named list.0 before after after unused,
          ),
        ),
      )

  pub by-unread : (old new : List (List ℕ)) (used : Bool) (out err_old err_new : Kept)
      → LeavesUnasked named before after → AddsAllFrom plan files.contents files.faults files_new.faults false used
      before after old new err_old err_new (Ok false)
      → SearchesBy plan words (streams files before (printed out err_old))
      (streams files_new after (printed out err_new)) (Ok 2)
  by-unread old new used out err_old err_new unused h =
      by-files h.0 (printed out err_old) (printed out err_new) (Ok 2) unused h.1 h.3
      (λ given. unread-text words plan given old new (texts_in_files plan h.0) out err_old err_new h.2)
      (λ given. unread-leaves words plan given old new before after (texts_in_files plan h.0) err_old err_new h.2)

  pub by-stopped : (old new : List (List ℕ)) (used : Bool) (out err_old err_new : Kept) (stop : Stop)
      → LeavesUnasked named before after → AddsAllFrom plan files.contents files.faults files_new.faults false used
      before after old new err_old err_new (Err stop)
      → SearchesBy plan words (streams files before (printed out err_old))
      (streams files_new after (printed out err_new)) (Err stop)
  by-stopped old new used out err_old err_new stop unused h =
      by-files h.0 (printed out err_old) (printed out err_new) (Err stop) unused h.1 h.3
      (λ given. stopped-text words plan given old new (texts_in_files plan h.0) out err_old err_new stop h.2)
      (λ given. stopped-leaves words plan given old new before after (texts_in_files plan h.0) err_old err_new stop h.2)

  pub by-search : (files_mid : Filed) (mid : Told) (old new : List (List ℕ)) (used : Bool)
      (out_old err_old err_mid : Kept) (printed_new : Printed) (result : Result ℕ Stop) → old ≡ plan.patterns
      → files_mid.contents ≡ files.contents → files.faults ≤ files_mid.faults → files_mid.faults ≤ files_new.faults
      → LeavesUnasked named before mid
      → AddsAllFrom plan files.contents files.faults files_mid.faults false used before mid old new err_old err_mid
      (Ok true)
      → SearchesFor (sought plan (patterns_of plan new) words) used (streams files_mid mid (printed out_old err_mid))
      (streams files_new after printed_new) result
      → SearchesBy plan words (streams files before (printed out_old err_old)) (streams files_new after printed_new)
      result
  by-search files_mid mid old new used out_old err_old err_mid printed_new result own same later rest_later unused h i =
      let list = i.0 in
      let given = i.2.0 in
      let lists = lists-before files.contents files.faults files_mid.faults files_new.faults plan words list later
      (subst (λ x. Lists x files_mid.faults files_new.faults plan words list) same i.1) in
      let taken = subst (λ x. TakesAll used mid after x list given) same i.2.1 in
      let all = takes-then false used before mid after files.contents named list h.0 given h.1 taken in
      let front = named-length h.0 (takes-length used mid h.0 h.1) in
      let ties : TiesBy files.contents files.faults files_new.faults (h.0 ++ given) result
      (LeavesPlan before after words plan h.0 given) = record {
        absent = absent-then files.contents files.faults files_mid.faults files_new.faults h.0 given later rest_later
            h.3 (subst (λ x. AbsentBy x files_mid.faults files_new.faults given) same i.2.3.absent);
        leaves = where-map result (LeavesBy before after words plan given (patterns_of plan new))
            (LeavesPlan before after words plan h.0 given)
            (read-leaves words plan given old new before after (texts_in_files plan h.0) err_old err_mid own h.2)
            (begun-leaves words plan given before mid after files.contents named list h.0 (patterns_of plan new)
            result used h.1 taken i.2.3.leaves);
      } in (
        all.0,
        all.1,
        (
          list,
          lists,
          (
            h.0,
            given,
            front,
            all.2,
            read-text words plan given old new (texts_in_files plan h.0)
                out_old err_old err_mid printed_new result own h.2 i.2.2,
            ties,
            unasked-join named list before mid after unused i.2.4,
          ),
        ),
      )
    where
      takes-length : (used : Bool) (mid : Told) (given : List Asked)
          → Takes false used before mid files.contents named given → length given ≡ length named
      takes-length false mid given t = stand-length files.contents (hears-any before).0 named given
          (t.1 (hears-any before).0).0
      takes-length true mid given t = stand-length files.contents t.0 named given t.2

pub by-lacks : (plan : GrepPlan) (words : List (List ℕ)) (files : Filed) (t : Told) (out err : Kept)
    → SearchesBy plan words (streams files t (printed out err)) (streams files t (printed out err)) (Err Memory)
by-lacks plan words files t out err =
    let any = takes-any false t files.contents (map named_target plan.pattern_files) in
    by-files plan words files files t t any.0 (printed out err) (printed out err) (Err Memory) (λ none. refl) any.1
    (any-there files.contents files.faults files.faults false t (map named_target plan.pattern_files))
    (λ given. runs-lacks (text_by_plan words plan any.0 given) out err) (λ given. tt)

-- the words from the first that names an input, or none
pub by-rest : {X : Type 0} (bytes : X → List ℕ) (ws : List X) (from start : ℕ) (holds : List (List ℕ) → Type 0)
    → start ≡ min from (length ws)
    → holds (map bytes (take (length ws - start) (drop start ws))) → holds (drop from (map bytes ws))
by-rest bytes ws from start holds is h =
    let rest : take (length ws - start) (drop start ws) ≡ drop from ws =
    take_all (length ws - start) (drop start ws) (omega (arith, length-drop start ws)) ∙ ap (λ n. drop n ws) is
    ∙ drop_min from ws in
    subst holds (ap (map bytes) rest ∙ sym (drop-map bytes from ws)) h

-- A run on these words.
module _ (words : List (List ℕ)) (contents : Option Contents) (first last : ℕ) where
  asks-by : (read : Reads GrepPlan) (asked : List Target) → plan_of words ≡ read
      → AsksBy read contents first last words asked → AsksFor contents first last words asked
  asks-by read asked is h = subst (λ (r : Reads GrepPlan). AsksBy r contents first last words asked) (sym is) h

  asks-any-unless : (help : Option HelpKind) (plan : GrepPlan) (rest : List (List ℕ))
      → (asked : List Target) × AsksUnless help contents first last plan rest asked
  asks-any-unless (Some kind) plan rest = ([], refl)
  asks-any-unless None plan rest = let list = lists-any contents first last plan rest in
      (asked_by_plan plan list.0, (list.0, refl, list.1))

  asks-any-by : (read : Reads GrepPlan) → (asked : List Target) × AsksBy read contents first last words asked
  asks-any-by (Err fault) = ([], refl)
  asks-any-by (Ok plan) = asks-any-unless plan.help plan (drop plan.files_from words)

  asks-any : (asked : List Target) × AsksFor contents first last words asked
  asks-any = asks-any-by (plan_of words)

text-by : (words : List (List ℕ)) (read : Reads GrepPlan) (given : List Asked) → plan_of words ≡ read
    → text_of words given ≡ elim read [
      | Err fault ↦ refusal (usage_message words fault)
      | Ok plan ↦
          text_by_help (drop plan.files_from words) plan given plan.help
    ]
unfolding text_of
text-by words read given is =
    ap (λ (r : Reads GrepPlan). elim r [
      | Err fault ↦ refusal (usage_message words fault)
      | Ok plan ↦
          text_by_help (drop plan.files_from words) plan given plan.help
    ]) is

-- of the words
module _ (words : List (List ℕ)) (before after : Told) where
  input-by : (read : Reads GrepPlan) (given : List Asked) → plan_of words ≡ read
      → LeavesReads before after given words read → LeavesInput words given before after
  unfolding LeavesInput
  input-by read given is h = subst (λ (r : Reads GrepPlan). LeavesReads before after given words r) (sym is) h

  input-of : (plan : GrepPlan) (front given : List Asked) → plan_of words ≡ Ok plan → plan.help ≡ None
      → length front ≡ length plan.pattern_files → LeavesPlan before after (drop plan.files_from words) plan front
      given
      → LeavesInput words (front ++ given) before after
  input-of plan front given is search long h =
      let names = drop plan.files_from words in
      let n = length plan.pattern_files in
      input-by (Ok plan) (front ++ given) is
      (subst (λ k. LeavesHelp before after names plan (front ++ given) k) (sym search)
      (subst (λ l. LeavesPlan before after names plan l (drop n (front ++ given))) (sym (take_at front given n long))
      (subst (λ l. LeavesPlan before after names plan front l) (sym (drop_at front given n long)) h)))

module _ (words : List (List ℕ)) (files files_new : Filed) where
  pub on-plan : (before after : Told) (old new : Printed) (result : Result ℕ Stop) (plan : GrepPlan)
      → plan_of words ≡ Ok plan → plan.help ≡ None
      → SearchesBy plan (drop plan.files_from words) (streams files before old) (streams files_new after new) result
      → RunsOn words (streams files before old) (streams files_new after new) result
  on-plan before after old new result plan is search h =
      let names = drop plan.files_from words in
      let list = h.2.0 in
      let front = h.2.2.0 in
      let given = h.2.2.1 in
      let asked = asked_by_plan plan list in
      let asks =
      asks-by words files.contents files.faults files_new.faults (Ok plan) asked is
      (subst (λ k. AsksUnless k files.contents files.faults files_new.faults plan names asked) (sym search)
      (list, refl, h.2.1)) in
      let parted = ap (λ l. text_by_plan names plan l (drop (length plan.pattern_files) (front ++ given)))
      (take_at front given (length plan.pattern_files) h.2.2.2)
      ∙ ap (λ l. text_by_plan names plan front l) (drop_at front given (length plan.pattern_files) h.2.2.2) in
      let text = text-by words (Ok plan) (front ++ given) is ∙ ap (text_by_help names plan (front ++ given)) search
      ∙ parted in
      let ties = h.2.2.5 in
      let tied : TiesBy files.contents files.faults files_new.faults (front ++ given) result
      (LeavesInput words (front ++ given) before after) = record {
        absent = ties.absent;
        leaves = where-map result (LeavesPlan before after names plan front given)
            (LeavesInput words (front ++ given) before after)
            (input-of words before after plan front given is search h.2.2.2) ties.leaves;
      } in (
        h.0,
        h.1,
        (
          asked,
          asks,
          (
            front ++ given,
            h.2.2.3,
            subst (λ t. RunsBy t old new result) (sym text) h.2.2.4,
            tied,
            h.2.2.6,
          ),
        ),
      )

-- Where nothing is searched.
module _ (words : List (List ℕ)) (files : Filed) (t : Told) where
  pub on-nothing : (out err : Kept) → RunsOn words (streams files t (printed out err))
      (streams files t (printed out err)) (Err Memory)
  on-nothing out err =
      let any = hears-any t in
      let asked = asks-any words files.contents files.faults files.faults in
      let given = stand-any files.contents any.0 asked.0 in (
        any.0,
        any.1,
        (
          asked.0,
          asked.1,
          (
            given.0,
            given.1,
            runs-lacks (text_of words given.0) out err,
            record { absent = stand-there files.contents files.faults files.faults any.0 asked.0; leaves = tt },
            λ none. refl,
          ),
        ),
      )

  unasked : (text : RunOutcome) (old new : Printed) (result : Result ℕ Stop)
      → AsksFor files.contents files.faults files.faults words [] → text_of words [] ≡ text
      → RunsBy text old new result → LeavesInput words [] t t
      → RunsOn words (streams files t old) (streams files t new) result
  unasked text old new result asks is h leaves =
      let any = hears-any t in (
        any.0,
        any.1,
        (
          [],
          asks,
          (
            [],
            tt,
            subst (λ o. RunsBy o old new result) (sym is) h,
            record {
              absent = absent-none files.contents files.faults files.faults;
              leaves = where-any result (LeavesInput words [] t t) leaves;
            },
            λ none. refl,
          ),
        ),
      )

  pub on-fault : (fault : Fault) (old new : Printed) (result : Result ℕ Stop) → plan_of words ≡ Err fault
      → RunsBy (refusal (usage_message words fault)) old new result
      → RunsOn words (streams files t old) (streams files t new) result
  on-fault fault old new result is h =
      unasked (refusal (usage_message words fault)) old new result
      (asks-by words files.contents files.faults files.faults (Err fault) [] is refl)
      (text-by words (Err fault) [] is) h (input-by words t t (Err fault) [] is tt)

  pub on-help : (plan : GrepPlan) (kind : HelpKind) (old new : Printed) (result : Result ℕ Stop)
      → plan_of words ≡ Ok plan → plan.help ≡ Some kind
      → RunsBy (record { out = help_text kind; err = []; status = 0 }) old new result
      → RunsOn words (streams files t old) (streams files t new) result
  on-help plan kind old new result is help h =
      let names = drop plan.files_from words in
      unasked (record { out = help_text kind; err = []; status = 0 }) old new result
      (asks-by words files.contents files.faults files.faults (Ok plan) [] is
      (subst (λ k. AsksUnless k files.contents files.faults files.faults plan names []) (sym help) refl))
      (text-by words (Ok plan) [] is ∙ ap (text_by_help names plan []) help) h
      (input-by words t t (Ok plan) [] is (subst (λ k. LeavesHelp t t names plan [] k) (sym help) tt))
