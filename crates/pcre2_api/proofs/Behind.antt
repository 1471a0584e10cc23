-- A pattern is refused for the first of its lookbehinds that is.
use Rattle.std.proofs.Common.{◌≡◌, ◌∙◌, ℕ, List, [], ◌∷◌, ◌++◌, map, Option, Result, Ok, refl, sym, ap}
use Rattle.std.proofs.lemmas.List.{map-append}
use Rattle.pat_tree.specs.declared.nodes.Node.{Node}
use Rattle.pat_tree.specs.declared.nodes.Node.TheVariants as node
use Rattle.pat_tree.specs.declared.nodes.Placed.{Placed}
use Rattle.pat_tree.specs.declared.options.Options.{Options}
use Rattle.pat_tree.specs.Growing.{AllUnder}
use Rattle.pat_tree.specs.Parts.{TreeParts, tree_of}
use Rattle.pat_tree.specs.Pattern.{Pattern, pattern_of}
use Rattle.pat_tree.specs.Sound.{TreeRules}
use Rattle.pat_tree.specs.Closing.{StandInTurn}
use Rattle.token_parts.specs.Tell.{◌>>=◌}
use Rattle.pat_build.specs.Reading.{read}
use Rattle.pat_build.specs.Places.{Refuses}
use Rattle.pat_build.specs.Nodes.{parsed_of, references_of, reference_in}
use Rattle.pat_build.specs.pat_grammar.declared.error.ReadError.{ReadError}
use Rattle.pat_build.specs.pat_grammar.declared.error.ReadError.TheVariants as reading
use Rattle.pat_check.specs.Known.{IsCheckError}
use Rattle.pat_check.specs.declared.facts.CheckError.{CheckError}
use Rattle.pat_check.specs.declared.facts.CheckError.TheVariants as checking
use Rattle.pat_lengths.specs.Backs.{first_fault}
use Rattle.pat_lengths.specs.Lookbehinds.{first_refused, lookbehinds, place_in, places_of, FirstRefusedLaw}
use Rattle.pat_lengths.specs.declared.backs.LengthFault.{LengthFault}
use Rattle.token_parts.specs.declared.fault.Fault.{Fault}
use Rattle.pcre2_errors.specs.CompileErrors.{check_error_of, compile_error_of}
use Rattle.pcre2_api.specs.Compiled.{IsCompileError}
use Rattle.pcre2_api.specs.Patterns.{fault_behind, unless_refused, compiled}

place_is : (n : Node) (at : ℕ) → map (λ r. r.at) (reference_in (record { node = n; at = at })) ≡ place_in
    (record { node = n; at = at })
place_is (node.Ref groups caseless) at = refl
place_is (node.Call n) at = refl
place_is (node.Look ahead positive once branches) at = refl
place_is (node.Cond test yes' no') at = refl
place_is _ at = refl

-- the places that are told are those of the nodes
pub places_are : (ps : List Placed) → map (λ r. r.at) (references_of ps) ≡ places_of ps
unfolding references_of
places_are [] = refl
places_are (p ∷ ps) =
    map-append (λ r. r.at) (reference_in p) (references_of ps)
    ∙ ap (λ l. l ++ map (λ r. r.at) (references_of ps)) (place_is p.node p.at)
    ∙ ap (λ l. place_in p ++ l) (places_are ps)

pub compiled_is : FirstRefusedLaw → (options : Options) (text : List ℕ) (t : TreeParts) → TreeRules t
    → StandInTurn t.nodes → AllUnder t.nodes t.root →
    read options text ≡ Ok (parsed_of t) → compiled options text ≡ unless_refused (pattern_of t) (first_fault t)
compiled_is law options text t rules turns all_under is =
    let refused = first_refused t.options.match_unset_backref (tree_of t) in
    ap (λ r. r >>= λ parsed. unless_refused parsed.pattern (fault_behind parsed)) is
    ∙ ap (λ places. unless_refused (pattern_of t) (refused (lookbehinds (tree_of t) places))) (places_are t.nodes)
    ∙ ap (unless_refused (pattern_of t)) (sym (law t rules turns all_under))

-- why nothing is compiled
pub check_refused : (pattern : Result Pattern Fault) (p : Pattern) (found : Option LengthFault) (e : CheckError)
    → IsCheckError found e → pattern ≡ unless_refused p found →
    IsCompileError pattern (check_error_of e)
check_refused pattern p found (checking.Bad number at) h is = is ∙ ap (unless_refused p) h
check_refused pattern p found checking.Memory h is = tt

pub read_refused : (options : Options) (text : List ℕ) (e : ReadError) → Refuses (read options text) e
    → IsCompileError (compiled options text) (compile_error_of e)
read_refused options text (reading.Bad number at) h =
    ap (λ r. r >>= λ parsed. unless_refused parsed.pattern (fault_behind parsed)) h
read_refused options text reading.Memory h = tt
