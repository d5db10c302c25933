use Rattle.std.proofs.Common.{◌≡◌, ◌≤◌, drop}
use Rattle.script_text.specs.Lexical.{longest_text}
use Rattle.script_text.specs.Texts.{text_in, HexWithin}
use Rattle.script_text.specs.declared.token.Inside.TheVariants.{Plain}
use Rattle.js_lex.specs.Steps.{span}
use Rattle.js_lex.proofs.text.text_end.Given as goal

abbrev pub invariant-loop-at : goal.invariant-loop-at
invariant-loop-at l = record {
  rest : span l.value l.at (text_in l.quote l.state (drop l.at l.bytes)) ≡ span 0 0 (text_in l.quote Plain l.bytes);
  short : l.value ≤ longest_text;
  within : HexWithin l.state;
}
