-- What sets options inside a pattern.
use Rattle.std.specs.Prelude.{ℕ, min, Bool, true, false, not, ◌&&◌, ◌||◌, Option, Some, None}
use Rattle.pat_tree.specs.declared.options.Options.{Options}
use Rattle.token_parts.specs.declared.token.OptionMask.{OptionMask}
use Rattle.token_parts.specs.declared.token.StartItem.{StartItem}
use Rattle.token_parts.specs.declared.token.StartItem.TheVariants.{NewlineIs, BsrIs, Utf, Ucp, NotEmpty}
use Rattle.token_parts.specs.declared.token.StartItem.TheVariants.{NotEmptyAtStart, NoStartOpt, NoEffect, LimitMatch}

-- an option that was on or off before: first it may be unset, then set, then unset
abbrev pub turned : Bool → Bool → Bool → Bool → Bool
turned reset on off before = not off && (on || (not reset && before))

-- `(?^` unsets i, m, n, s, x and xx before it sets ("Internal option setting")
unfoldable pub with_setting : Bool → OptionMask → OptionMask → Options → Options
with_setting reset on off o = record o {
  caseless = turned reset on.i off.i o.caseless;
  multiline = turned reset on.m off.m o.multiline;
  dotall = turned reset on.s off.s o.dotall;
  extended = turned reset on.x off.x o.extended;
  extended_more = turned reset on.xx off.xx o.extended_more;
  no_auto_capture = turned reset on.n off.n o.no_auto_capture;
  dupnames = turned false on.j off.j o.dupnames;
  ungreedy = turned false on.u off.u o.ungreedy;
}

-- a limit can only be lowered
abbrev pub lowered : Option ℕ → ℕ → ℕ
lowered None limit = limit
lowered (Some before) limit = min before limit

-- the options under a start item ("Special start-of-pattern items")
unfoldable pub with_item : StartItem → Options → Options
with_item (NewlineIs newline) o = record o { newline = newline }
with_item (BsrIs bsr) o = record o { bsr = bsr }
with_item Utf o = record o { utf = true }
with_item Ucp o = record o { ucp = true }
with_item NotEmpty o = record o { notempty = true }
with_item NotEmptyAtStart o = record o { notempty_atstart = true }
with_item NoStartOpt o = record o { no_start_optimize = true }
with_item NoEffect o = o
with_item (LimitMatch limit) o = record o { match_limit = Some (lowered o.match_limit limit) }
