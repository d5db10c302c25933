use Rattle.std.proofs.Common.{◌≡◌, ◌≤◌, ◌-◌, length}
use Rattle.script_parser.specs.Parser.{elems}
use Rattle.script_parser.proofs.Accept.{under}
use Rattle.script_grammar.specs.Sources.{toks}
use Rattle.js_expr.specs.Lists.{onto_elems}
use Rattle.js_expr.proofs.expr.Rules.elements.Given as goal

abbrev pub invariant-more : goal.invariant-more
invariant-more g l = record {
  rest : onto_elems l.found.items (elems (under (l.self.depth - 1)) (toks l.self.source.bytes.now l.self.source.tokens.now l.next)) ≡ elems (under (l.self.depth - 1)) (toks l.self.source.bytes.now l.self.source.tokens.now l.at);
  forward : l.at ≤ l.next;
}

abbrev pub decreases-more : goal.decreases-more
decreases-more g l = length l.self.source.tokens.now - l.next
