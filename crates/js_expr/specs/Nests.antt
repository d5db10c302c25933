-- A function value that reads expressions one level down.
use Rattle.std.specs.Prelude.{ℕ, ◌<◌, ◌-◌, Bool, true, false, Result}
use Rattle.std.specs.declared.alloc.Global.{Global}
use Rattle.script_grammar.specs.Trees.{Ex}
use Rattle.script_parser.specs.Steps.{Parser, ◌>>=◌, pure}
use Rattle.script_text.specs.declared.sign.Sign.TheVariants.{Question, Colon}
use Rattle.script_parser.specs.Parser.{Below, expect, below, unary, expr}
use Rattle.script_tree.specs.declared.Expr.{Expr}
use Rattle.script_tree.specs.View.{view}
use Rattle.js_expr.specs.declared.source.Source.{Source}
use Rattle.js_expr.specs.declared.source.Stop.{Stop}
use Rattle.js_expr.specs.Reading.{Reads}
use Rattle.js_expr.specs.Lists.{Forward}

-- a whole expression, or an operand with the signs before it
abbrev pub rule : ℕ → Bool → Parser Ex
rule d true = expr (below d)
rule d false = unary (below d)

pub record Nests (depth : ℕ) (pre : Global → Source → ℕ → ℕ → Bool → Type 0) (post : Global → Source → ℕ → ℕ → Bool → Result (Expr × ℕ) Stop → Type 0) : Type 0 where
  pub callable : (alloc : Global) (s : Source) (at : ℕ) (whole : Bool) → 0 < depth → pre alloc s at (depth - 1) whole
  pub reads : (alloc : Global) (s : Source) (at : ℕ) (whole : Bool) (r : Result (Expr × ℕ) Stop) → 0 < depth → post alloc s at (depth - 1) whole r → Reads view (rule (depth - 1) whole) s.bytes.now s.tokens.now at r × Forward at r

abbrev pub both : Ex → Ex → Ex × Ex
both x y = (x, y)

-- the branches of a choice
abbrev pub branches_rule : Below → Parser (Ex × Ex)
branches_rule b = expect Question >>= λ _. b.expr >>= λ x. expect Colon >>= λ _. b.expr >>= λ y. pure (both x y)

abbrev pub branches_view : Expr × Expr → Ex × Ex
branches_view p = (view p.0, view p.1)
