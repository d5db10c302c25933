use Rattle.std.proofs.Common.{◌≡◌, ◌≤◌, drop}
use Rattle.script_text.specs.Lexical.{decimal, up_to_largest, largest}
use Rattle.js_lex.proofs.piece.integer_of.Given as goal

abbrev pub invariant-loop-byte : goal.invariant-loop-byte
invariant-loop-byte l = record {
  rest : up_to_largest (decimal l.value (drop l.byte-index l.run)) ≡ up_to_largest (decimal 0 l.run);
  short : l.value ≤ largest;
}
