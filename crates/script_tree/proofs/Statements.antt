-- What each statement stands for, by its variant.
use Rattle.std.proofs.Common.{◌≡◌, Bool, List, Option, None, Some, sym, ap, ◌∙◌, map}
use Rattle.script_grammar.specs.Trees.{Block, Empty, Delete, Set, Do, Item, Const, Plain}
use Rattle.script_tree.specs.declared.Name.{Name}
use Rattle.script_tree.specs.declared.Expr.{Expr}
use Rattle.script_tree.specs.declared.Stmt.{Stmt}
use Rattle.script_tree.specs.declared.Stmt.TheVariants as st
use Rattle.script_tree.specs.declared.Stmt.TheOpen.{Stmt-F}
use Rattle.script_tree.specs.declared.Stmt.TheFolds.{fold-roll-Stmt}
use Rattle.script_tree.specs.View.{view, item_step, item_view, items_of, let_of, if_of, return_of, throw_of}

pub view_const : (n : Name) (e : Expr) → item_view (st.Const n e) ≡ Const n.at n.text (view e)
view_const n e = ap item_view (sym (st.rolls-Const n e)) ∙ fold-roll-Stmt Item item_step (Stmt-F.Const n e)

pub view_let : (n : Name) (e : Option Expr) → item_view (st.Let n e) ≡ let_of n e
view_let n e = ap item_view (sym (st.rolls-Let n e)) ∙ fold-roll-Stmt Item item_step (Stmt-F.Let n e)

pub view_block : (is : List Stmt) → item_view (st.Block is) ≡ Plain (Block (items_of (map item_view is)))
view_block is = ap item_view (sym (st.rolls-Block is)) ∙ fold-roll-Stmt Item item_step (Stmt-F.Block is)

pub view_empty : item_view st.Empty ≡ Plain Empty
view_empty = ap item_view (sym st.rolls-Empty) ∙ fold-roll-Stmt Item item_step Stmt-F.Empty

pub view_if_then : (e : Expr) (s : Stmt) → item_view (st.If e s None) ≡ Plain (if_of (view e) (item_view s) None)
view_if_then e s = ap item_view (sym (st.rolls-If e s None)) ∙ fold-roll-Stmt Item item_step (Stmt-F.If e s None)

pub view_if_else : (e : Expr) (s t : Stmt) → item_view (st.If e s (Some t)) ≡ Plain (if_of (view e) (item_view s) (Some (item_view t)))
view_if_else e s t = ap item_view (sym (st.rolls-If e s (Some t))) ∙ fold-roll-Stmt Item item_step (Stmt-F.If e s (Some t))

pub view_return : (e : Option Expr) → item_view (st.Return e) ≡ Plain (return_of e)
view_return e = ap item_view (sym (st.rolls-Return e)) ∙ fold-roll-Stmt Item item_step (Stmt-F.Return e)

pub view_throw : (e : Expr) (b : Bool) → item_view (st.Throw e b) ≡ Plain (throw_of (view e) b)
view_throw e b = ap item_view (sym (st.rolls-Throw e b)) ∙ fold-roll-Stmt Item item_step (Stmt-F.Throw e b)

pub view_delete : (e : Expr) → item_view (st.Delete e) ≡ Plain (Delete (view e))
view_delete e = ap item_view (sym (st.rolls-Delete e)) ∙ fold-roll-Stmt Item item_step (Stmt-F.Delete e)

pub view_set : (t e : Expr) → item_view (st.Set t e) ≡ Plain (Set (view t) (view e))
view_set t e = ap item_view (sym (st.rolls-Set t e)) ∙ fold-roll-Stmt Item item_step (Stmt-F.Set t e)

pub view_do : (e : Expr) → item_view (st.Do e) ≡ Plain (Do (view e))
view_do e = ap item_view (sym (st.rolls-Do e)) ∙ fold-roll-Stmt Item item_step (Stmt-F.Do e)
