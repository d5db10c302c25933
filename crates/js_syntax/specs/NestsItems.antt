-- A function value that reads statements and declarations one level down.
use Rattle.std.specs.Prelude.{ℕ, ◌<◌, ◌-◌, Bool, true, false, Result, IfOk}
use Rattle.std.specs.declared.alloc.Global.{Global}
use Rattle.script_grammar.specs.Trees.{Item}
use Rattle.script_parser.specs.Steps.{Parser}
use Rattle.script_tree.specs.declared.Stmt.{Stmt}
use Rattle.script_tree.specs.View.{item_view}
use Rattle.js_expr.specs.declared.source.Source.{Source}
use Rattle.js_expr.specs.declared.source.Stop.{Stop}
use Rattle.js_expr.specs.Reading.{Reads}
use Rattle.js_syntax.specs.Statements.{item_at, stmt_at}

-- a declaration or a statement, or a statement alone
abbrev pub item_rule : ℕ → Bool → Parser Item
item_rule d true = item_at d
item_rule d false = stmt_at d

pub record NestsItems (depth : ℕ) (pre : Global → Source → ℕ → ℕ → Bool → Type 0) (post : Global → Source → ℕ → ℕ → Bool → Result (Stmt × ℕ) Stop → Type 0) : Type 0 where
  pub callable : (alloc : Global) (s : Source) (at : ℕ) (declares : Bool) → 0 < depth → pre alloc s at (depth - 1) declares
  pub reads : (alloc : Global) (s : Source) (at : ℕ) (declares : Bool) (r : Result (Stmt × ℕ) Stop) → 0 < depth → post alloc s at (depth - 1) declares r → Reads item_view (item_rule (depth - 1) declares) s.bytes.now s.tokens.now at r × IfOk r (λ x. at < x.1)
