-- Small parts of patterns for worked rows.
use Rattle.std.specs.Prelude.{ℕ, Bool, true, false, [], ◌∷◌, Option, None, codes}
use Rattle.pat_tree.specs.declared.options.Options.{Options}
use Rattle.pat_tree.specs.declared.options.Newline.TheVariants as newline
use Rattle.pat_tree.specs.declared.options.Bsr.TheVariants as bsr
use Rattle.pat_tree.specs.declared.nodes.ClassSpec.{ClassSpec}
use Rattle.pat_tree.specs.declared.nodes.SetName.TheVariants as set
use Rattle.pat_tree.specs.declared.nodes.Part.TheVariants as part
use Rattle.pat_tree.specs.declared.nodes.Node.TheVariants as node
use Rattle.pat_tree.specs.Rows.{placed, two_branches, named}
use Rattle.pat_save.specs.declared.saved.Saved.{Saved}

-- options with this UTF mode and match limit alone
abbrev pub options : Bool → Option ℕ → Options
options utf limit = record {
  anchored = false;
  endanchored = false;
  caseless = false;
  multiline = false;
  dotall = false;
  extended = false;
  extended_more = false;
  dollar_endonly = false;
  dupnames = false;
  firstline = false;
  literal = false;
  no_auto_capture = false;
  ungreedy = false;
  utf = utf;
  ucp = false;
  allow_empty_class = false;
  match_unset_backref = false;
  no_start_optimize = false;
  auto_callout = false;
  notempty = false;
  notempty_atstart = false;
  newline = newline.Lf;
  bsr = bsr.Unicode;
  match_limit = limit;
}

-- `[^a-c\P{L}]`, L having the number 6
abbrev pub no_small_letter : ClassSpec
no_small_letter = record {
  negated = true;
  caseless = false;
  parts = part.Range 97 99 ∷ part.Set (set.Property 6) true false ∷ [];
}

-- the pattern without an item
abbrev pub nothing : Saved
nothing = record {
  tree = record {
    options = options false None;
    nodes = placed node.Empty 0 ∷ [];
    classes = [];
    names = [];
    verb_names = [];
    root = 0;
  };
  text = [];
}

-- `(?<n>ab|c)`
abbrev pub letters : Saved
letters = record {
  tree = record {
    options = options false None;
    nodes = two_branches;
    classes = [];
    names = named (codes "n") 1 ∷ [];
    verb_names = [];
    root = 4;
  };
  text = codes "(?<n>ab|c)";
}
