-- The last value of an option counts.
use Rattle.std.proofs.Common.{◌≡◌, ℕ, List, Result, Ok, Err, Some, IsTrue, refl, ap, sym, ◌∙◌}
use Rattle.pat_tree.specs.Newlines.{newline_in_any_case}
use Rattle.grep_args.specs.declared.plan.GrepPlan.{GrepPlan}
use Rattle.grep_args.specs.declared.usage.UsageKind.{UsageKind}
use Rattle.grep_args.specs.declared.options.NumberOption.{NumberOption}
use Rattle.grep_args.specs.declared.options.NumberOption.TheVariants.{AfterContext, BeforeContext, Context}
use Rattle.grep_args.specs.declared.options.NumberOption.TheVariants.{MatchLimit, FrameLimit, BufferSize}
use Rattle.grep_args.specs.declared.options.NumberOption.TheVariants.{MaxBufferSize, MaxCount}
use Rattle.grep_args.specs.declared.options.ValuedOption.{ValuedOption}
use Rattle.grep_args.specs.declared.options.ValuedOption.TheVariants as valued
use Rattle.grep_args.specs.Numbers.{greatest}
use Rattle.grep_args.specs.Effects.{◌>>=◌, ranged, number_effect, listed, binary_of, value_effect}
use Rattle.grep_args.specs.Kept.{keeps_one}

abbrev given : GrepPlan → Result GrepPlan UsageKind
given plan = Ok plan

-- the plan that an effect gives
the_plan : (plan after : GrepPlan) → given plan ≡ given after → plan ≡ after
the_plan plan after h = cc

-- a setting that is made again
set_again : {A : Type 0} (set : A → GrepPlan → GrepPlan)
    → ((a b : A) (plan : GrepPlan) → set b (set a plan) ≡ set b plan)
    → (first last : Result A UsageKind) (plan after : GrepPlan) → (first >>= λ a. Ok (set a plan)) ≡ Ok after
    → (last >>= λ a. Ok (set a after)) ≡ (last >>= λ a. Ok (set a plan))
set_again set again (Ok a) (Ok b) plan after h =
    ap Ok (ap (set b) (sym (the_plan (set a plan) after h)) ∙ again a b plan)
set_again set again (Ok a) (Err e) plan after h = refl
set_again set again (Err d) last plan after h = cc

number_again : (option : NumberOption) (first last : List ℕ) (plan after : GrepPlan)
    → number_effect option first plan ≡ Ok after → number_effect option last after ≡ number_effect option last plan
number_again AfterContext first last = set_again (λ n plan. record plan { after_context = n }) (λ a b plan. refl)
    (ranged 0 greatest first) (ranged 0 greatest last)
number_again BeforeContext first last = set_again (λ n plan. record plan { before_context = n }) (λ a b plan. refl)
    (ranged 0 greatest first) (ranged 0 greatest last)
number_again Context first last = set_again (λ n plan. record plan { after_context = n; before_context = n })
    (λ a b plan. refl) (ranged 0 greatest first) (ranged 0 greatest last)
number_again MatchLimit first last = set_again (λ n plan. record plan { match_limit = n }) (λ a b plan. refl)
    (ranged 0 greatest first) (ranged 0 greatest last)
number_again FrameLimit first last = set_again (λ n plan. record plan { frame_limit = n }) (λ a b plan. refl)
    (ranged 0 greatest first) (ranged 0 greatest last)
number_again BufferSize first last = set_again (λ n plan. plan) (λ a b plan. refl) (ranged 0 greatest first)
    (ranged 0 greatest last)
number_again MaxBufferSize first last = set_again (λ n plan. record plan { max_buffer_size = n }) (λ a b plan. refl)
    (ranged 1 1073741824 first) (ranged 1 1073741824 last)
number_again MaxCount first last = set_again (λ n plan. record plan { max_count = Some n }) (λ a b plan. refl)
    (ranged 1 greatest first) (ranged 1 greatest last)

pub value_again : (option : ValuedOption) (first last : List ℕ) (plan after : GrepPlan) → IsTrue (keeps_one option)
    → value_effect option first plan ≡ Ok after → value_effect option last after ≡ value_effect option last plan
value_again (valued.Number option) first last plan after one h = number_again option first last plan after h
value_again (valued.Filter option) first last plan after one h = cc
value_again valued.Regex first last plan after one h = cc
value_again valued.File first last plan after one h = cc
value_again valued.Label first last plan after one h =
    set_again (λ text plan. record plan { label = text }) (λ a b plan. refl) (Ok first) (Ok last) plan after h
value_again valued.OmSeparator first last plan after one h =
    set_again (λ text plan. record plan { om_separator = text }) (λ a b plan. refl) (Ok first) (Ok last) plan after h
value_again valued.BinaryFiles first last plan after one h =
    set_again (λ mode plan. record plan { binary = mode }) (λ a b plan. refl) (listed (binary_of first))
    (listed (binary_of last)) plan after h
value_again valued.Newline first last plan after one h =
    set_again (λ newline plan. record plan { newline = newline }) (λ a b plan. refl)
    (listed (newline_in_any_case first)) (listed (newline_in_any_case last)) plan after h
