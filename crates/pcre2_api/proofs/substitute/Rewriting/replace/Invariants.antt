use Rattle.std.proofs.Common.{◌≡◌, ◌≤◌, max}
use Rattle.pcre2_api.specs.Substituted.{work_of}
use Rattle.pcre2_api.proofs.Replacing.{IsOn}
use Rattle.pcre2_api.proofs.substitute.Rewriting.replace.Given as goal

abbrev pub invariant-loop-turn : goal.invariant-loop-turn
invariant-loop-turn l = record {
  on : IsOn (work_of l.self) l.self.options l.searches l.start l._turn l.at l.from l.count l.again l.text.items;
  peak : l.scratch.peak ≤ max l.fn.scratch.peak l.self.options.frame_limit;
  groups : l.scratch.groups ≡ l.fn.scratch.groups;
  frames : l.scratch.frames ≡ l.fn.scratch.frames;
}
