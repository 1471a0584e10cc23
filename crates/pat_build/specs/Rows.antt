-- Worked rows: what patterns are read as.
use Rattle.std.specs.Prelude.{◌≡◌, ℕ, true, false, List, [], ◌∷◌, Some, None, Result, Ok, codes}
use Rattle.std.specs.Str.{byte}
use Prim.Native.String.{String}
use Rattle.pat_tree.specs.declared.options.TheConstants.Options as plain
use Rattle.pat_tree.specs.declared.options.Newline.TheVariants.{CrLf}
use Rattle.pat_tree.specs.declared.nodes.Item.TheVariants.{Char, NotNewline, Class}
use Rattle.pat_tree.specs.declared.nodes.Part.{Part}
use Rattle.pat_tree.specs.declared.nodes.Part.TheVariants.{Range, Set}
use Rattle.pat_tree.specs.declared.nodes.SetName.TheVariants.{Digit}
use Rattle.pat_tree.specs.declared.nodes.ClassSpec.{ClassSpec}
use Rattle.pat_tree.specs.declared.names.NameEntry.{NameEntry}
use Rattle.pat_tree.specs.declared.nodes.Verb.TheVariants.{Accept, Fail, Then, Mark}
use Rattle.pat_tree.specs.Nested.{Nested, empty, one, seq, group, repeat, one_repeat, atomic, look, ref, verb, row}
use Rattle.pat_tree.specs.Pattern.{Pattern}
use Rattle.token_parts.specs.declared.fault.Fault.{Fault}
use Rattle.token_parts.specs.Tell.{fault}
use Rattle.pat_grammar.specs.Reading.{Parsed, read}

abbrev pub reads : String → Result Parsed Fault
reads pattern = read plain.PLAIN (codes pattern)

-- a letter in its own case, and in any case
abbrev pub letter : String → Nested
letter c = one (Char (byte c) false)

abbrev pub folded : String → Nested
folded c = one (Char (byte c) true)

-- a tree of these branches, without classes, names and references
abbrev pub branches : List Nested → Parsed
branches ts = record {
  pattern = record { options = plain.PLAIN; tree = group None (row ts); groups = 0; classes = []; verb_names = [] };
  names = [];
  places = [];
}

-- the same where its pattern is changed
abbrev pub with : (Pattern → Pattern) → Parsed → Parsed
with f parsed = record parsed { pattern = f parsed.pattern }

abbrev pub group_of : ℕ → Nested → Nested
group_of n t = group (Some n) (row (t ∷ []))

abbrev pub entry : String → ℕ → NameEntry
entry name n = record { name = codes name; group = n }

abbrev pub single : ℕ → Part
single c = Range c c

-- `]` first, a quoted hyphen, a range and a last hyphen
abbrev pub mixed_class : ClassSpec
mixed_class = record {
  negated = true;
  caseless = false;
  parts = single (byte "]") ∷ single (byte "-") ∷ Range (byte "a") (byte "c") ∷ Set Digit false false ∷ single
      (byte "-") ∷ [];
}

abbrev pub possessive : Nested
possessive = atomic (row (one_repeat (Char (byte "b") false) 1 None false ∷ []))

-- a lookahead, repeated at most once more than it must be
abbrev pub denial : Nested
denial = look true false true (row (letter "a" ∷ []))

abbrev pub with_places : List ℕ → Parsed → Parsed
with_places places parsed = record parsed { places = places }

-- options hold to the end of their group, also for the alternatives that follow
abbrev pub some_cases : Parsed
some_cases = branches (
    folded "a"
    ∷ seq (row (group None (row (letter "b" ∷ letter "c" ∷ [])) ∷ one_repeat (Char (byte "d") true) 2 None true ∷ []))
    ∷ empty
    ∷ [])

-- a reference before the groups of its name
abbrev pub two_named : Parsed
two_named = record (with (λ p. record p { groups = 2 })
    (branches (seq (row (ref (1 ∷ 2 ∷ []) false ∷ group_of 1 (letter "a") ∷ group_of 2 (letter "b") ∷ [])) ∷ []))) {
      names = entry "n" 1 ∷ entry "n" 2 ∷ [];
      places = 4 ∷ [];
    }

-- a branch reset, and a reference to the group after it
abbrev pub some_numbers : Parsed
some_numbers = record (with (λ p. record p { groups = 3 })
    (branches (seq
    (row (group None
    (row (group_of 1 (letter "a") ∷ seq (row (group_of 1 (letter "b") ∷ group_of 2 (letter "c") ∷ []))
    ∷ [])) ∷ group_of 3 (letter "d") ∷ ref (3 ∷ []) false ∷ [])) ∷ []))) {
      places = 17 ∷ [];
    }

-- names of verbs have numbers, and an empty one is none; of the verbs ACCEPT alone may be repeated
abbrev pub some_verbs : Parsed
some_verbs = with (λ p. record p { verb_names = codes "m" ∷ codes "n" ∷ [] })
    (branches (
    seq (row (letter "a" ∷ verb (Mark (Some 0)) ∷ repeat (verb (Accept None)) 0 (Some 1) true ∷ []))
    ∷ verb (Fail (Some 1))
    ∷ []))

abbrev pub limited : Parsed
limited =
    with (λ p. record p { options = record plain.PLAIN { newline = CrLf; match_limit = Some 5 } })
    (branches (one_repeat NotNewline 0 (Some 1) false ∷ []))

pub record WorkedRows : Type 0 where
  pub unclosed : reads "a(" ≡ fault 114 2
  pub backwards : reads "a{3,1}" ≡ fault 104 1
  pub range_backwards : reads "[z-a]" ≡ fault 108 1
  pub two_names : reads "(?<n>a)(?<n>b)" ≡ fault 143 7
  pub two_quantifiers : reads "a**" ≡ fault 109 2
  pub no_group : reads "(a)\\2" ≡ fault 115 3
  pub other_name : reads "(?|(?<n>a)|(?<m>b))" ≡ fault 165 11
  pub renumbered : reads "(?|(a)|(b)(c))(d)\\3" ≡ Ok some_numbers
  pub keeping_out : reads "(?=a(b\\K))" ≡ fault 199 6
  pub held : reads "(?>a|)b++" ≡ Ok
      (branches (seq (row (atomic (row (letter "a" ∷ empty ∷ [])) ∷ possessive ∷ [])) ∷ []))
  pub looking : reads "(?U)(*nla:a)+" ≡ Ok (with_places (4 ∷ []) (branches (repeat denial 1 (Some 2) true ∷ [])))
  pub no_minimum : reads "a{ ,2}" ≡ Ok (branches (one_repeat (Char (byte "a") false) 0 (Some 2) false ∷ []))
  pub no_number : reads "a{,}" ≡ Ok (branches (seq (row (letter "a" ∷ letter "{" ∷ letter "," ∷ letter "}" ∷ [])) ∷ []))
  pub class : reads "[^]\\Q-\\Ea-c\\d-]" ≡ Ok
      (with (λ p. record p { classes = mixed_class ∷ [] }) (branches (one (Class 0) ∷ [])))
  pub cases : reads "(?i)a|(?-i:b|c)d{2,}?|" ≡ Ok some_cases
  pub later_names : reads "(?J)\\k<n>(?<n>a)(?<n>b)" ≡ Ok two_named
  pub verbs : reads "a(*:m)(*ACCEPT:)??|(*F:n)" ≡ Ok some_verbs
  pub unnamed_verb : reads "a(*THEN)" ≡ Ok (branches (seq (row (letter "a" ∷ verb (Then None) ∷ [])) ∷ []))
  pub repeated_verb : reads "(*FAIL)*" ≡ fault 109 7
  pub start_items : reads "(*CRLF)(*LIMIT_MATCH=5).(?#x)?" ≡ Ok limited
