use Rattle.std.proofs.Common.{ℕ, ◌≡◌, Option, None, Some, refl}
use Rattle.pat_tree.specs.Rules.{number_in}
use Rattle.pat_tree.specs.Refs.{is_in}
use Rattle.pat_tree.proofs.Loose.{fresh_at_end}
use Rattle.pat_grammar.specs.Groups.{grouped, atomically, looks, asserted, places_named}
use Rattle.pat_nodes.specs.Nodes.{is_number}
use Rattle.pat_nodes.proofs.References.{or_false}
use Rattle.pat_nodes.proofs.Extending.{closes_node}
use Rattle.pat_nodes.proofs.nodes.form_node.Goals as goal

one_number : (number : Option ℕ) (n : ℕ) → is_in n (number_in number) ≡ is_number number n
one_number None n = refl
one_number (Some m) n = or_false _

pub add-requires-clause-fresh : goal.add-requires-clause-fresh
add-requires-clause-fresh c = fresh_at_end c.requires.loose

pub returns-in_ok-id-in-Group-clause-closes : goal.returns-in_ok-id-in-Group-clause-closes
unfolding places_named
returns-in_ok-id-in-Group-clause-closes c =
    let e = c.in_ok-id-in-Group.ensures in
    rw c.in-Group.is (closes_node c.args.draft.now c.add.new.self _ (grouped c.in-Group.number) e.grows e.refs refl
    refl e.groups (λ n. one_number c.in-Group.number n) c.requires.loose)

pub add-requires-in-Atomic-clause-fresh : goal.add-requires-in-Atomic-clause-fresh
add-requires-in-Atomic-clause-fresh c = fresh_at_end c.requires.loose

pub returns-in_ok-id-in-Atomic-clause-closes : goal.returns-in_ok-id-in-Atomic-clause-closes
unfolding places_named
returns-in_ok-id-in-Atomic-clause-closes c =
    let e = c.in_ok-id-in-Atomic.ensures in
    rw c.in-Atomic.is (closes_node c.args.draft.now c.add-in-Atomic.new.self _ atomically e.grows e.refs refl refl
    e.groups (λ n. refl) c.requires.loose)

pub add-requires-in-Look-clause-fresh : goal.add-requires-in-Look-clause-fresh
add-requires-in-Look-clause-fresh c = fresh_at_end c.requires.loose

pub returns-in_ok-id-in-Look-clause-closes : goal.returns-in_ok-id-in-Look-clause-closes
unfolding places_named
returns-in_ok-id-in-Look-clause-closes c =
    let e = c.in_ok-id-in-Look.ensures in
    rw c.in-Look.is (closes_node c.args.draft.now c.add-in-Look.new.self _
    (looks c.in-Look.ahead c.in-Look.positive c.in-Look.atomic) e.grows e.refs refl refl e.groups (λ n. refl)
    c.requires.loose)

pub add-requires-in-Asserted-clause-fresh : goal.add-requires-in-Asserted-clause-fresh
add-requires-in-Asserted-clause-fresh c = fresh_at_end c.requires.loose

pub returns-in_ok-id-in-Asserted-clause-closes : goal.returns-in_ok-id-in-Asserted-clause-closes
unfolding places_named
returns-in_ok-id-in-Asserted-clause-closes c =
    let e = c.in_ok-id-in-Asserted.ensures in
    rw c.in-Asserted.is (closes_node c.args.draft.now c.add-in-Asserted.new.self _
    (asserted c.in-Asserted.ahead c.in-Asserted.positive) e.grows e.refs refl refl e.groups (λ n. refl)
    c.requires.loose)
