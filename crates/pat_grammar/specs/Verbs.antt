-- Backtracking verbs and their names (pcre2pattern, "Backtracking control").
use Rattle.std.specs.Prelude.{ℕ, Bool, true, false, List, [], ◌∷◌, ◌++◌, length, Option, Some, None}
use Rattle.pat_tree.specs.declared.nodes.Verb.{Verb}
use Rattle.pat_tree.specs.declared.nodes.Verb.TheVariants as verb
use Rattle.token_parts.specs.declared.token.VerbKind.{VerbKind}
use Rattle.token_parts.specs.declared.token.VerbKind.TheVariants.{Accept, Fail, Commit, Prune, Skip, Then, Mark}

-- the verb of a kind, with the number of its name where it has one
abbrev pub verb_of : VerbKind → Option ℕ → Verb
verb_of Accept name = verb.Accept name
verb_of Fail name = verb.Fail name
verb_of Commit name = verb.Commit name
verb_of Prune name = verb.Prune name
verb_of Skip name = verb.Skip name
verb_of Then name = verb.Then name
verb_of Mark name = verb.Mark name

-- A name is a new entry of the table behind these, and an empty name is none.
abbrev pub number_of_name : List (List ℕ) → List ℕ → Option ℕ
number_of_name names [] = None
number_of_name names (c ∷ cs) = Some (length names)

abbrev pub names_after : List (List ℕ) → List ℕ → List (List ℕ)
names_after names [] = names
names_after names (c ∷ cs) = names ++ (c ∷ cs) ∷ []

-- a quantifier may follow ("Verbs that act immediately")
abbrev pub may_be_repeated : VerbKind → Bool
may_be_repeated Accept = true
may_be_repeated Fail = false
may_be_repeated Commit = false
may_be_repeated Prune = false
may_be_repeated Skip = false
may_be_repeated Then = false
may_be_repeated Mark = false
