use Rattle.std.proofs.Common.{◌≡◌, ◌≤◌, ◌-◌, drop, length}
use Rattle.script_text.specs.Lexical.{tokens_from}
use Rattle.js_lex.specs.Steps.{onto}
use Rattle.js_lex.proofs.source.scan.Given as goal

abbrev pub invariant-loop-at : goal.invariant-loop-at
invariant-loop-at l = record {
  rest : onto l.tokens.items (tokens_from 0 l.at (drop l.at l.bytes)) ≡ tokens_from 0 0 l.bytes;
  within : l.at ≤ length l.bytes;
}

abbrev pub decreases-loop-at : goal.decreases-loop-at
decreases-loop-at l = length l.bytes - l.at
