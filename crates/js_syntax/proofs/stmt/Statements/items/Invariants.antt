use Rattle.std.proofs.Common.{◌≡◌, ◌≤◌, ◌-◌, length}
use Rattle.script_grammar.specs.Sources.{toks}
use Rattle.js_syntax.specs.Statements.{onto_items, items_at}
use Rattle.js_syntax.proofs.stmt.Statements.items.Given as goal

abbrev pub invariant-more : goal.invariant-more
invariant-more g l = record {
  rest : onto_items l.found.items (items_at (l.self.level.depth - 1) (toks l.self.level.source.bytes.now l.self.level.source.tokens.now l.next)) ≡ items_at (l.self.level.depth - 1) (toks l.self.level.source.bytes.now l.self.level.source.tokens.now l.at);
  forward : l.at ≤ l.next;
}

abbrev pub decreases-more : goal.decreases-more
decreases-more g l = length l.self.level.source.tokens.now - l.next
