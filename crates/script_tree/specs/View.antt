-- What a syntax tree stands for: the derivation that it was read by.
use Rattle.std.specs.Prelude.{ℕ, ℤ, pos, ◌+◌, Bool, true, false, List, [], ◌∷◌, Option, Some, None, map}
use Rattle.script_text.specs.declared.sign.Sign.{Sign}
use Rattle.script_text.specs.declared.sign.Sign.TheVariants.{Plus}
use Rattle.script_grammar.specs.Trees.{Number, Quote, True, False, Null, Undefined, Word, Named, Reserve, Ex, Literal, Var, Round, ListOf, Object, Member, Unary, Chain, Choice, Elems, NoElems, LastElem, ThenElem, Prop, Keyed, Quoted, Short, Props, NoProps, LastProp, ThenProp, Suffix, Dot, Index, Suffixes, NoSuffixes, ThenSuffix, Links, NoLinks, ThenLink, Stmt as St, Block, Empty, IfThen, IfElse, Return, ReturnOf, Throw, ThrowError, Delete, Set, Do, Item, Const, Let, LetBe, Plain, Items, NoItems, ThenItem, Params, One, Two, Reducer as Re, Function, Program, NoReducers, ThenReducer}
use Rattle.script_text.specs.Lexical.{largest}
use Rattle.script_tree.specs.declared.Name.{Name}
use Rattle.script_tree.specs.declared.Label.{Label}
use Rattle.script_tree.specs.declared.Label.TheVariants as label
use Rattle.script_tree.specs.declared.Access.{Access}
use Rattle.script_tree.specs.declared.Access.TheVariants as access
use Rattle.script_tree.specs.declared.Expr.{Expr, fold-Expr}
use Rattle.script_tree.specs.declared.Expr.TheOpen.{Expr-F}
use Rattle.script_tree.specs.declared.Stmt.{Stmt, fold-Stmt}
use Rattle.script_tree.specs.declared.Stmt.TheOpen.{Stmt-F}
use Rattle.script_tree.specs.declared.Reducer.{Reducer}

abbrev pub name_pair : Name → ℕ × List ℕ
name_pair n = (n.at, n.text)

-- What no program has: its token 0 is `function`, and no name. A tree that no program has stands for this.
abbrev pub no_word : Word
no_word = Named 0 []

abbrev pub no_ex : Ex
no_ex = Var 0 []

abbrev pub word_of : Label → Word
word_of (label.Name n) = Named n.at n.text
word_of (label.Reserved r) = Reserve r
word_of _ = no_word

-- a name that stands alone is its own value
abbrev pub short_of : Ex → Prop
short_of (Var at bytes) = Short at bytes
short_of _ = Keyed no_word no_ex

abbrev pub prop_of : Label × Ex → Prop
prop_of p = elim (p.0) [ label.Name n ↦ Keyed (Named n.at n.text) p.1 | label.Reserved r ↦ Keyed (Reserve r) p.1 | label.Quoted t ↦ Quoted t p.1 | label.Short ↦ short_of p.1 ]

-- the last item stands before a comma or not
abbrev pub elems_of : List Ex → Bool → Elems
elems_of [] c = NoElems
elems_of (e ∷ []) false = LastElem e
elems_of (e ∷ es) c = ThenElem e (elems_of es c)

abbrev pub props_of : List (Label × Ex) → Bool → Props
props_of [] c = NoProps
props_of (p ∷ []) false = LastProp (prop_of p)
props_of (p ∷ ps) c = ThenProp (prop_of p) (props_of ps c)

abbrev pub dot_of : Label → List Ex → Suffix
dot_of l [] = Dot (word_of l)
dot_of l _ = Dot no_word

abbrev pub index_of : List Ex → Suffix
index_of (e ∷ []) = Index e
index_of _ = Dot no_word

abbrev pub suffix_of : Access × List Ex → Suffix
suffix_of s = elim (s.0) [ access.Dot l ↦ dot_of l s.1 | access.Index ↦ index_of s.1 ]

abbrev pub suffixes_of : List (Access × List Ex) → Suffixes
suffixes_of [] = NoSuffixes
suffixes_of (s ∷ ss) = ThenSuffix (suffix_of s) (suffixes_of ss)

abbrev pub member_of : Ex → List (Access × List Ex) → Ex
member_of e [] = Member e (Dot no_word) NoSuffixes
member_of e (s ∷ ss) = Member e (suffix_of s) (suffixes_of ss)

abbrev pub links_of : List (Sign × Ex) → Links
links_of [] = NoLinks
links_of (l ∷ ls) = ThenLink l.0 l.1 (links_of ls)

abbrev pub chain_of : ℕ → Ex → List (Sign × Ex) → Ex
chain_of k e [] = Chain k e Plus no_ex NoLinks
chain_of k e (l ∷ ls) = Chain k e l.0 l.1 (links_of ls)

-- an integer of a source is not below 0
abbrev pub nat_of : ℤ → ℕ
nat_of (pos n) = n
nat_of _ = largest + 1

abbrev pub view_step : Expr-F Ex → Ex
view_step (Expr-F.Number n) = Literal (Number (nat_of n))
view_step (Expr-F.Text t) = Literal (Quote t)
view_step Expr-F.True = Literal True
view_step Expr-F.False = Literal False
view_step Expr-F.Null = Literal Null
view_step Expr-F.Undefined = Literal Undefined
view_step (Expr-F.Name n) = Var n.at n.text
view_step (Expr-F.Round e) = Round e
view_step (Expr-F.List es c) = ListOf (elems_of es c)
view_step (Expr-F.Object ps c) = Object (props_of ps c)
view_step (Expr-F.Member e ss) = member_of e ss
view_step (Expr-F.Unary s e) = Unary s e
view_step (Expr-F.Chain k e ls) = chain_of k e ls
view_step (Expr-F.Choice c a b) = Choice c a b

abbrev pub view : Expr → Ex
view = fold-Expr Ex view_step

-- ---- statements
abbrev pub items_of : List Item → Items
items_of [] = NoItems
items_of (i ∷ is) = ThenItem i (items_of is)

-- a statement in a statement is no declaration
abbrev pub inner_of : Item → St
inner_of (Plain s) = s
inner_of _ = Do no_ex

abbrev pub let_of : Name → Option Expr → Item
let_of n None = Let n.at n.text
let_of n (Some e) = LetBe n.at n.text (view e)

abbrev pub if_of : Ex → Item → Option Item → St
if_of e s None = IfThen e (inner_of s)
if_of e s (Some t) = IfElse e (inner_of s) (inner_of t)

abbrev pub return_of : Option Expr → St
return_of None = Return
return_of (Some e) = ReturnOf (view e)

abbrev pub throw_of : Ex → Bool → St
throw_of e false = Throw e
throw_of e true = ThrowError e

abbrev pub item_step : Stmt-F Item → Item
item_step (Stmt-F.Const n e) = Const n.at n.text (view e)
item_step (Stmt-F.Let n e) = let_of n e
item_step (Stmt-F.Block is) = Plain (Block (items_of is))
item_step Stmt-F.Empty = Plain Empty
item_step (Stmt-F.If e s t) = Plain (if_of (view e) s t)
item_step (Stmt-F.Return e) = Plain (return_of e)
item_step (Stmt-F.Throw e b) = Plain (throw_of (view e) b)
item_step (Stmt-F.Delete e) = Plain (Delete (view e))
item_step (Stmt-F.Set t e) = Plain (Set (view t) (view e))
item_step (Stmt-F.Do e) = Plain (Do (view e))

abbrev pub item_view : Stmt → Item
item_view = fold-Stmt Item item_step

-- ---- reducers
abbrev pub params_of : Name → Option Name → Params
params_of n None = One n.at n.text
params_of n (Some m) = Two n.at n.text m.at m.text

abbrev pub reducer_of : Reducer → Re
reducer_of r = Function r.name.at r.name.text (params_of r.state r.action) (items_of (map item_view r.body))

abbrev pub program_of : List Reducer → Program
program_of [] = NoReducers
program_of (r ∷ rs) = ThenReducer (reducer_of r) (program_of rs)
