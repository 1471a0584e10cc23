-- The numbers and the places of faults that are handed on.
use Rattle.std.proofs.Common.{◌≡◌, ℕ, ◌≤◌, pos, List, length, Bool, Option, Some, None, Result, Err, refl, sym, ap}
use Rattle.std.proofs.Common.{subst}
use Rattle.uni_text.specs.declared.properties.Prop.{Prop}
use Rattle.uni_text.specs.Properties.{prop_by_name}
use Rattle.pat_tree.specs.declared.nodes.Part.{Part}
use Rattle.token_parts.specs.declared.fault.Fault.{Fault}
use Rattle.pat_grammar.specs.Classes.{property_if, property_part}
use Rattle.pat_grammar.specs.Places.{IfBad, IsClassFault, IsListed, IsInText}
use Rattle.pat_grammar.specs.declared.error.ReadError.{ReadError}
use Rattle.pat_grammar.specs.declared.error.ReadError.TheVariants.{Bad, Memory}
use Rattle.pat_grammar.proofs.Listed.{class_listed}

-- those in a class
pub class_number : (e : ReadError) → IfBad e (λ number at. IsClassFault number) → IsListed e
class_number (Bad number at) h = class_listed number h
class_number Memory h = tt

pub class_place : (text : List ℕ) (e : ReadError) → IfBad e (λ number at. at ≤ length text) → IsInText text e
class_place text (Bad number at) h = h
class_place text Memory h = tt

-- those of a property that isn't known

fault_is : (e f : Fault) → (let r : Result Part Fault = Err e in r) ≡ Err f → e ≡ f
fault_is e f h = cc

by_property : (o : Option Prop) (outside ucp : Bool) (at : ℕ) (f : Fault) → property_if o outside ucp at ≡ Err f
    → (f.number ≡ pos 147) × (f.at ≡ at)
by_property (Some p) outside ucp at f h = absurd cc
by_property None outside ucp at f h =
    let same = fault_is (record { number = pos 147; at = at }) f h in
    (sym (ap (λ (f : Fault). f.number) same), sym (ap (λ (f : Fault). f.at) same))

pub property_number : (name : List ℕ) (outside ucp : Bool) (at : ℕ) (f : Fault)
    → property_part name outside ucp at ≡ Err f → IsListed (Bad f.number f.at)
property_number name outside ucp at f h =
    subst (λ number. IsListed (Bad number f.at)) (sym (by_property (prop_by_name name) outside ucp at f h).0) refl

pub property_place : (text name : List ℕ) (outside ucp : Bool) (at : ℕ) (f : Fault)
    → property_part name outside ucp at ≡ Err f → at ≤ length text → IsInText text (Bad f.number f.at)
property_place text name outside ucp at f h inside =
    subst (λ place. place ≤ length text) (sym (by_property (prop_by_name name) outside ucp at f h).1) inside
