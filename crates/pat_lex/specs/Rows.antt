-- Worked rows: the token at a place of a pattern.
use Rattle.std.specs.Prelude.{◌≡◌, ℕ, Bool, true, false, codes, Some, None, Ok}
use Prim.Native.String.{String}
use Rattle.pat_tree.specs.declared.nodes.SetName.TheVariants.{Alpha}
use Rattle.pat_tree.specs.declared.options.Newline.TheVariants.{Lf}
use Rattle.token_parts.specs.declared.token.LexFlags.{LexFlags}
use Rattle.token_parts.specs.declared.token.OptionMask.{OptionMask}
use Rattle.token_parts.specs.declared.token.Target.TheVariants.{Number}
use Rattle.token_parts.specs.declared.token.OpenKind.TheVariants as open_kind
use Rattle.token_parts.specs.declared.token.CondText.TheVariants.{InCallOf}
use Rattle.token_parts.specs.declared.token.VerbKind.TheVariants.{Mark}
use Rattle.token_parts.specs.declared.token.QuantMode.TheVariants.{Possessive}
use Rattle.token_parts.specs.declared.token.Token.TheVariants.{Literal, Set, ClassStart, Reference, Open, OptionSet}
use Rattle.token_parts.specs.declared.token.Token.TheVariants.{CondStart, CalloutItem, VerbItem, Quantifier}
use Rattle.token_parts.specs.Tell.{Lexed, fault}
use Rattle.pat_lex.specs.Tokens.{token_at}

-- after so many groups, outside a class, nothing ignored
abbrev pub after_groups : ℕ → LexFlags
after_groups n = record {
  utf = false;
  extended = false;
  extended_more = false;
  quoting = false;
  in_class = false;
  newline = Lf;
  groups = n;
}

abbrev pub extended : LexFlags
extended = record (after_groups 0) { extended = true }

abbrev pub in_class : LexFlags
in_class = record (after_groups 0) { in_class = true }

abbrev pub at_place : String → ℕ → Lexed
at_place text at = token_at (codes text) (after_groups 0) at

-- x, with xx or without it, and nothing else
abbrev pub only_x : Bool → OptionMask
only_x more = record {
  i = false;
  m = false;
  s = false;
  x = true;
  xx = more;
  n = false;
  j = false;
  u = false;
}

abbrev pub no_option : OptionMask
no_option = record (only_x false) { x = false }

pub record WorkedRows : Type 0 where
  pub backwards : at_place "a{3,1}" 1 ≡ fault 104 1
  pub no_minimum : at_place "a{ ,\t2 }+" 1 ≡ Ok (Quantifier 0 (Some 2) Possessive, 9)
  pub blank_parts : at_place "a{1 2}" 1 ≡ Ok (Literal 0x7B, 2)
  pub few_groups : token_at (codes "\\12") (after_groups 11) 0 ≡ Ok (Literal 10, 3)
  pub many_groups : token_at (codes "\\12") (after_groups 12) 0 ≡ Ok (Reference (Number 12), 3)
  pub double_x : at_place "(?xx)" 0 ≡ Ok (OptionSet false (only_x true) no_option false, 5)
  pub named : at_place "(?<n>" 0 ≡ Ok (Open (open_kind.Named 3 4), 5)
  pub in_call : at_place "(?(R70000)" 0 ≡ Ok (CondStart (InCallOf (Number 70000)) 3 9, 10)
  pub doubled : at_place "(?C'it''s')" 0 ≡ Ok (CalloutItem 0 4 9, 11)
  pub mark : at_place "(*:a b)" 0 ≡ Ok (VerbItem Mark 3 6, 7)
  pub posix : token_at (codes "[[:^alpha:]]") in_class 1 ≡ Ok (Set Alpha true, 11)
  pub negated_late : at_place "[\\E^]" 0 ≡ Ok (ClassStart true, 4)
  pub too_large : at_place "\\x{100z" 0 ≡ fault 134 0
  pub possessive : token_at (codes "a* # b\n+") extended 1 ≡ Ok (Quantifier 0 None Possessive, 8)
