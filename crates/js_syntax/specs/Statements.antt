-- The rules for statements, as the code reads them: each gives an item, and each is at a number of levels.
use Rattle.std.specs.Prelude.{ℕ, Bool, true, false, Option, Some, None, List, [], ◌∷◌}
use Rattle.script_text.specs.declared.sign.Sign.{Sign}
use Rattle.script_text.specs.declared.sign.Sign.TheVariants.{OpenRound, CloseRound, OpenBrace, CloseBrace, Semicolon, Assign}
use Rattle.script_text.specs.declared.word.Reserved.TheVariants as kept
use Rattle.script_grammar.specs.Tokens.{Tok}
use Rattle.script_grammar.specs.Trees.{Ex, Stmt as St, Block, Return, ReturnOf, Throw, ThrowError, Delete, Set, Do, Item, Const, Let, LetBe, Plain, Items, NoItems, ThenItem}
use Rattle.script_grammar.specs.Rules.{is_member}
use Rattle.script_parser.specs.Steps.{Outcome, Parser, ◌>>=◌, and_then, pure, fail, take, too_deep, look}
use Rattle.script_parser.specs.Tests.{fixed, name_of, sees, sees_word, in_block}
use Rattle.script_parser.specs.Parser.{expect, keyword, opened, post, expr, stmt, item, items, inner, may_assign, thrown_error, below}
use Rattle.script_parser.proofs.Accept.{under}
use Rattle.script_tree.specs.declared.Stmt.{Stmt}
use Rattle.script_tree.specs.View.{item_view, if_of}

-- a statement as an item
abbrev pub plainly : Parser St → Parser Item
plainly p = p >>= λ s. pure (Plain s)

abbrev pub closed : Item → Parser Item
closed i = expect Semicolon >>= λ _. pure i

-- where no level is left for what this sign opens
unfoldable pub no_level : Sign → Parser Item
no_level s ts = too_deep (fixed s) ts

-- ---- what stands alone
abbrev pub const_at : ℕ → Parser Item
const_at d = keyword kept.Const >>= λ _. take name_of >>= λ n. expect Assign >>= λ _. expr (below d) >>= λ e. closed (Const n.0 n.1 e)

abbrev pub let_by_at : ℕ → ℕ × List ℕ → Bool → Parser Item
let_by_at d n true = expect Assign >>= λ _. expr (below d) >>= λ e. closed (LetBe n.0 n.1 e)
let_by_at d n false = closed (Let n.0 n.1)

abbrev pub let_at : ℕ → Parser Item
let_at d = keyword kept.Let >>= λ _. take name_of >>= λ n. look (λ c. let_by_at d n (sees Assign c))

abbrev pub return_by_at : ℕ → Bool → Parser Item
return_by_at d true = closed (Plain Return)
return_by_at d false = expr (below d) >>= λ e. closed (Plain (ReturnOf e))

abbrev pub return_at : ℕ → Parser Item
return_at d = keyword kept.Return >>= λ _. look (λ c. return_by_at d (sees Semicolon c))

abbrev pub error_at : ℕ → Parser Item
error_at d = expect OpenRound >>= λ _. expr (below d) >>= λ e. expect CloseRound >>= λ _. closed (Plain (ThrowError e))

abbrev pub throw_by_at : ℕ → Bool → Parser Item
throw_by_at d true = keyword kept.New >>= λ _. keyword kept.Error >>= λ _. opened (below d) (fixed OpenRound) (λ b. plainly (thrown_error b))
throw_by_at d false = expr (below d) >>= λ e. closed (Plain (Throw e))

abbrev pub throw_at : ℕ → Parser Item
throw_at d = keyword kept.Throw >>= λ _. look (λ c. throw_by_at d (sees_word kept.New c))

abbrev pub deleted_at : Ex → Bool → Parser Item
deleted_at e true = closed (Plain (Delete e))
deleted_at e false = fail

abbrev pub delete_at : ℕ → Parser Item
delete_at d = keyword kept.Delete >>= λ _. post (below d) >>= λ e. deleted_at e (is_member e)

abbrev pub assign_by_at : ℕ → Ex → Bool → Parser Item
assign_by_at d e true = expect Assign >>= λ _. expr (below d) >>= λ v. closed (Plain (Set e v))
assign_by_at d e false = closed (Plain (Do e))

abbrev pub assign_at : ℕ → Parser Item
assign_at d = expr (below d) >>= λ e. look (λ c. assign_by_at d e (may_assign e c))

-- ---- what holds statements
unfoldable pub stmt_at : ℕ → Parser Item
stmt_at d ts = plainly (stmt (below d)) ts

unfoldable pub item_at : ℕ → Parser Item
item_at d ts = item (below d) ts

-- one level down
unfoldable pub items_at : ℕ → Parser Items
items_at d ts = items (under d) ts

unfoldable pub inner_at : ℕ → Parser Item
inner_at d ts = plainly (inner (under d)) ts

abbrev pub block_at : ℕ → Parser Item
block_at d = expect OpenBrace >>= λ _. items_at d >>= λ is. expect CloseBrace >>= λ _. pure (Plain (Block is))

-- the test of a conditional between its brackets
abbrev pub test_at : ℕ → Parser Ex
test_at d = expect OpenRound >>= λ _. expr (below d) >>= λ e. expect CloseRound >>= λ _. pure e

-- what stands behind the first of its statements
abbrev pub else_at : ℕ → Ex → Item → Parser Item
else_at d e s = keyword kept.Else >>= λ _. inner_at d >>= λ t. pure (Plain (if_of e s (Some t)))

abbrev pub arm_by_at : ℕ → Ex → Item → Bool → Parser Item
arm_by_at d e s true = else_at d e s
arm_by_at d e s false = pure (Plain (if_of e s None))

-- what stands behind its test
abbrev pub arms_at : ℕ → Ex → Parser Item
arms_at d e = inner_at d >>= λ s. look (λ c. arm_by_at d e s (sees_word kept.Else c))

abbrev pub if_at : ℕ → Parser Item
if_at d = test_at d >>= λ e. arms_at d e

-- ---- what the code has read
abbrev pub items_before : List Stmt → Items → Items
items_before [] rest = rest
items_before (s ∷ ss) rest = ThenItem (item_view s) (items_before ss rest)

abbrev pub items_view : List Stmt → Items
items_view ss = items_before ss NoItems

abbrev pub onto_items : List Stmt → Outcome Items → Outcome Items
onto_items found out = and_then out (λ is. pure (items_before found is))

-- an item comes next
abbrev pub item_next : Option Tok → Bool
item_next None = false
item_next (Some t) = in_block t
