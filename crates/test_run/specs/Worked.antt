-- Worked rows: what pcre2test writes of scripts.
use Rattle.std.specs.Prelude.{◌≡◌, true, codes, Some}
use Prim.Native.String.{String}
use Rattle.line_feed.specs.Rows.{At, End, input_with}
use Rattle.test_modifiers.specs.declared.modifiers.Modifiers.{Modifiers}
use Rattle.test_modifiers.specs.Modifiers.{ungiven}
use Rattle.test_run.specs.TestText.{Tested, test_text}

-- a script that is read to its end, with these defaults
abbrev pub under : Modifiers → String → Tested
under defaults script =
    test_text (record { quiet = true; defaults = defaults }) (input_with (codes script) End)

abbrev pub over : String → Tested
over script = under ungiven script

abbrev pub written : String → Tested
written text = record { out = codes text; finish = At End }

pub record WorkedRows : Type 0 where
  pub unset_last : over "/a(b)?/\nac\n\n" ≡ written "/a(b)?/\nac\n 0: a\n\n"
  pub empty_group : over "/(a*)*/\naab\n" ≡ written "/(a*)*/\naab\n 0: aa\n 1: \n"
  pub unset_before : over "/(a)|(b)/\nb\nc\n"
      ≡ written "/(a)|(b)/\nb\n 0: b\n 1: <unset>\n 2: b\nc\nNo match\n"
  pub all_matches : over "/b*/g\nabb\n" ≡ written "/b*/g\nabb\n 0: \n 0: bb\n 0: \n"
  pub facts : over "/(a)*/info\n"
      ≡ written "/(a)*/info\nCapture group count = 1\nMay match empty string\n"
  pub fault : over "/a(/\na\n"
      ≡ written "/a(/\nFailed: error 114 at offset 2: missing closing parenthesis\na\n"
  pub unknown : over "/a/nosuch\na\n\nb\n"
      ≡ written "/a/nosuch\n** unknown modifier nosuch\na\n\nb\n** bad script line\n"
  pub limit : over "/(?:ab)*c/match_limit=2\nababc\n"
      ≡ written "/(?:ab)*c/match_limit=2\nababc\nFailed: error -47: match limit exceeded\n"
  pub within_limit : over "/(?:ab)*c/match_limit=2\nababc\\=match_limit=3\n"
      ≡ written "/(?:ab)*c/match_limit=2\nababc\\=match_limit=3\n 0: ababc\n"
  pub partly : over "/ab/ph\na\n\n/ab/\na\\=dfa,ps\n"
      ≡ written "/ab/ph\na\nPartial match: a\n\n/ab/\na\\=dfa,ps\nPartial match: a\n"
  pub all_ends : over "/a|ab/\nab\\=dfa\n" ≡ written "/a|ab/\nab\\=dfa\n 0: ab\n 1: a\n"
  pub no_replacing : over "/a/\na\\=dfa,replace=b\n"
      ≡ written "/a/\na\\=dfa,replace=b\n** replace with dfa\n"
  pub defaults : under (record ungiven { caseless = Some true }) "/A/\na\n"
      ≡ written "/A/\na\n 0: a\n"
  pub codes_shown : over "/.+/\na\\x7f\\xff\n" ≡ written "/.+/\na\\x7f\\xff\n 0: a\\x7f\\xff\n"
  pub callout : over "/a(?C1)b|ac/\nab\\=callout_fail=1\n"
      ≡ written "/a(?C1)b|ac/\nab\\=callout_fail=1\n--->ab\n  1 ^^     b\nNo match\n"
  -- a pattern that the input's end cuts off is only echoed
  pub cut_off : over "/a\nb" ≡ written "/a\nb\n"
