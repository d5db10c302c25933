use Rattle.std.proofs.Common.{◌≡◌, ℕ, List, [], drop}
use Rattle.script_tree.specs.View.{program_of}
use Rattle.script_names.specs.Names.{names_behind, reducer_named}
use Rattle.js_names.specs.Index.{number_in}
use Rattle.js_names.specs.Program.{Has}
use Rattle.js_names.proofs.Whole.{named, behind_all, or_number}
use Rattle.js_names.proofs.program.resolve.Given as goal

abbrev pub invariant-loop-number : goal.invariant-loop-number
invariant-loop-number l = record {
  names : behind_all l.found.items (names_behind (named l.reducers l.number) (program_of (drop l.number l.reducers))) ≡ names_behind [] (program_of l.reducers);
  has : Has l.index (named l.reducers l.number);
  numbers : (x : List ℕ) → or_number (number_in l.index x) l.number (reducer_named x (program_of (drop l.number l.reducers))) ≡ reducer_named x (program_of l.reducers);
}
