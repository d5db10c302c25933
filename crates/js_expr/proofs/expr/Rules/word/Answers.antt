use Rattle.std.proofs.Common.{sym, ◌∙◌}
use Rattle.script_parser.specs.Parser.{atom, below}
use Rattle.script_tree.specs.View.{view}
use Rattle.js_expr.specs.Next.{literals}
use Rattle.script_grammar.specs.Sources.{toks}
use Rattle.js_expr.proofs.Rules.{atom_other, reads_same}
use Rattle.js_expr.proofs.expr.Rules.word.Goals as goal

pub returns-clause-is : goal.returns-clause-is
returns-clause-is g c =
    let bytes = c.args.self.now.source.bytes.now in
    let tokens = c.args.self.now.source.tokens.now in
    let d = c.args.self.now.depth in
    reads_same view (atom (below d)) literals bytes tokens c.args.at c.literal.result
    (atom_other d (toks bytes tokens c.args.at) c.requires.round c.requires.square c.requires.brace (sym c.is_name.ensures.is ∙ c.if-is_name.false)) c.literal.ensures.is
