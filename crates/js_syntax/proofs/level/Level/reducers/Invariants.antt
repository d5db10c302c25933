use Rattle.std.proofs.Common.{◌≡◌, ◌-◌, length}
use Rattle.script_grammar.specs.Sources.{toks}
use Rattle.js_syntax.specs.Reducers.{onto_reducers, reducers_at}
use Rattle.js_syntax.proofs.level.Level.reducers.Given as goal

abbrev pub invariant-more : goal.invariant-more
invariant-more l = record {
  rest : onto_reducers l.found.items (reducers_at l.self.depth (toks l.self.source.bytes.now l.self.source.tokens.now l.next)) ≡ reducers_at l.self.depth (toks l.self.source.bytes.now l.self.source.tokens.now 0);
}

abbrev pub decreases-more : goal.decreases-more
decreases-more l = length l.self.source.tokens.now - l.next
