-- The parser, one function for each rule. What a rule holds one level down is given to it, or that there is none.
use Rattle.std.specs.Prelude.{ℕ, zero, suc, Bool, true, false, if◌then◌else◌, List, Option, Some, None}
use Rattle.script_text.specs.declared.sign.Sign.{Sign}
use Rattle.script_text.specs.declared.sign.Sign.TheVariants.{OpenRound, CloseRound, OpenBrace, CloseBrace, OpenSquare, CloseSquare, Comma, Semicolon, Colon, Dot as Point, Question, Assign}
use Rattle.script_text.specs.declared.word.Reserved.{Reserved}
use Rattle.script_text.specs.declared.word.Reserved.TheVariants as kept
use Rattle.script_grammar.specs.Tokens.{Tok}
use Rattle.script_grammar.specs.Trees.{Word, Named, Ex, Literal, Var, Round, ListOf, Object, Member, Unary, Chain, Choice, Elems, NoElems, LastElem, ThenElem, Prop, Keyed, Quoted, Short, Props, NoProps, LastProp, ThenProp, Suffix, Dot, Index, Suffixes, NoSuffixes, ThenSuffix, Links, NoLinks, ThenLink, Stmt, Block, Empty, IfThen, IfElse, Return, ReturnOf, Throw, ThrowError, Delete, Set, Do, Item, Const, Let, LetBe, Plain, Items, NoItems, ThenItem, Params, One, Two, Reducer, Function, Program, NoReducers, ThenReducer}
use Rattle.script_grammar.specs.Rules.{is_member, is_target, is_open}
use Rattle.script_parser.specs.Steps.{Parser, ◌>>=◌, pure, fail, take, too_deep, look, again, many, finish}
use Rattle.script_parser.specs.Tests.{fixed, kept_as, name_of, text_of, word_of, lit_of, unary_of, link_of, sees, sees_word, sees_unary, AtomForm, RoundForm, ListForm, ObjectForm, VarForm, OtherForm, atom_form, PropForm, NameForm, QuotedForm, WordForm, prop_form, StmtForm, BlockForm, EmptyForm, IfForm, ReturnForm, ThrowForm, DeleteForm, ExprForm, stmt_form, ItemForm, ConstForm, LetForm, PlainForm, item_form, begins_suffix, begins_link, in_block}

-- the parsers one level down
pub record Below : Type 0 where
  pub unary : Parser Ex
  pub expr : Parser Ex
  pub stmt : Parser Stmt
  pub item : Parser Item

-- this sign
abbrev pub expect : Sign → Parser (Unit {0})
expect s = take (fixed s)

-- this word
abbrev pub keyword : Reserved → Parser (Unit {0})
keyword w = take (kept_as w)

-- what this token opens, one level down
abbrev pub opened : {A B : Type 0} → Option Below → (Tok → Option B) → (Below → Parser A) → Parser A
opened None f p = too_deep f
opened (Some b) f p = p b

-- items between commas, the last of which may stand before one
abbrev pub comma_by : {A C : Type 0} → (A → C) → (A → C → C) → A → Parser C → Bool → Parser C
comma_by last then_more a more true = expect Comma >>= λ _. more >>= λ c. pure (then_more a c)
comma_by last then_more a more false = pure (last a)

-- no item before the closing sign, or one and what follows it
abbrev pub separated_by : {A C : Type 0} → Parser A → C → (A → C) → (A → C → C) → Parser C → Bool → Parser C
separated_by item nil last then_more more true = pure nil
separated_by item nil last then_more more false = item >>= λ a. look (λ c. comma_by last then_more a more (sees Comma c))

-- items between commas up to the closing sign, which stays
abbrev pub separated : {A C : Type 0} → Sign → Parser A → C → (A → C) → (A → C → C) → Parser C
separated closing item nil last then_more = again (λ more. look (λ c. separated_by item nil last then_more more (sees closing c)))

-- ---- expressions

-- a name
abbrev pub named : Parser Ex
named = take name_of >>= λ n. pure (Var n.0 n.1)

-- an integer, a text or a word that is a value
abbrev pub literal : Parser Ex
literal = take lit_of >>= λ l. pure (Literal l)

-- an expression in round brackets
abbrev pub rounded : Below → Parser Ex
rounded b = expect OpenRound >>= λ _. b.expr >>= λ e. expect CloseRound >>= λ _. pure (Round e)

-- the elements of a list literal
abbrev pub elems : Below → Parser Elems
elems b = separated CloseSquare b.expr NoElems LastElem ThenElem

-- a list literal
abbrev pub listed : Below → Parser Ex
listed b = expect OpenSquare >>= λ _. elems b >>= λ es. expect CloseSquare >>= λ _. pure (ListOf es)

-- the value of a member of an object literal, behind a colon
abbrev pub valued : Below → Word → Parser Prop
valued b w = expect Colon >>= λ _. b.expr >>= λ e. pure (Keyed w e)

-- a name with a value, or alone
abbrev pub short_by : Below → ℕ × List ℕ → Bool → Parser Prop
short_by b n true = valued b (Named n.0 n.1)
short_by b n false = pure (Short n.0 n.1)

-- a member of an object literal, by its form
abbrev pub prop_by : Below → PropForm → Parser Prop
prop_by b NameForm = take name_of >>= λ n. look (λ c. short_by b n (sees Colon c))
prop_by b QuotedForm = take text_of >>= λ t. expect Colon >>= λ _. b.expr >>= λ e. pure (Quoted t e)
prop_by b WordForm = take word_of >>= λ w. valued b w

-- a member of an object literal
abbrev pub prop : Below → Parser Prop
prop b = look (λ c. prop_by b (prop_form c))

-- the members of an object literal
abbrev pub props : Below → Parser Props
props b = separated CloseBrace (prop b) NoProps LastProp ThenProp

-- an object literal
abbrev pub objected : Below → Parser Ex
objected b = expect OpenBrace >>= λ _. props b >>= λ ps. expect CloseBrace >>= λ _. pure (Object ps)

-- what stands alone, by its form
abbrev pub atom_by : Option Below → AtomForm → Parser Ex
atom_by i RoundForm = opened i (fixed OpenRound) rounded
atom_by i ListForm = opened i (fixed OpenSquare) listed
atom_by i ObjectForm = opened i (fixed OpenBrace) objected
atom_by i VarForm = named
atom_by i OtherForm = literal

-- what stands alone: no operator, no member
abbrev pub atom : Option Below → Parser Ex
atom i = look (λ c. atom_by i (atom_form c))

-- an index between square brackets
abbrev pub index : Below → Parser Suffix
index b = expect OpenSquare >>= λ _. b.expr >>= λ e. expect CloseSquare >>= λ _. pure (Index e)

-- a word behind a dot
abbrev pub dot : Parser Suffix
dot = expect Point >>= λ _. take word_of >>= λ w. pure (Dot w)

-- an index, or a word behind a dot
abbrev pub suffix_by : Option Below → Bool → Parser Suffix
suffix_by i true = opened i (fixed OpenSquare) index
suffix_by i false = dot

-- one step to a member
abbrev pub suffix : Option Below → Parser Suffix
suffix i = look (λ c. suffix_by i (sees OpenSquare c))

-- the steps to a member
abbrev pub suffixes : Option Below → Parser Suffixes
suffixes i = many begins_suffix (suffix i) NoSuffixes ThenSuffix

-- an expression with the steps behind it, where there are any
abbrev pub member : Ex → Suffixes → Ex
member e NoSuffixes = e
member e (ThenSuffix s ss) = Member e s ss

-- what stands alone, and the steps to a member of it
abbrev pub post : Option Below → Parser Ex
post i = atom i >>= λ e. suffixes i >>= λ ss. pure (member e ss)

-- a sign and its operand
abbrev pub signed : Below → Parser Ex
signed b = take unary_of >>= λ s. b.unary >>= λ e. pure (Unary s e)

-- a sign and its operand, or what has none
abbrev pub unary_by : Option Below → Bool → Parser Ex
unary_by i true = opened i unary_of signed
unary_by i false = post i

-- what stands between binary operators
abbrev pub unary : Option Below → Parser Ex
unary i = look (λ c. unary_by i (sees_unary c))

-- an operator with its right operand, before the others
abbrev pub then_link : Sign × Ex → Links → Links
then_link l ls = ThenLink l.0 l.1 ls

-- the first operand, and the operators of this level where there are any
abbrev pub chained : ℕ → Ex → Links → Ex
chained k a NoLinks = a
chained k a (ThenLink s b ls) = Chain k a s b ls

-- an operator of this level and its right operand
abbrev pub link : ℕ → Parser Ex → Parser (Sign × Ex)
link k operand = take (link_of k) >>= λ s. operand >>= λ e. pure (s, e)

-- the operators of this level, each with its right operand
abbrev pub links : ℕ → Parser Ex → Parser Links
links k operand = many (begins_link k) (link k operand) NoLinks then_link

-- the chains of the first levels
unfoldable pub chain : Option Below → ℕ → Parser Ex
chain i zero = unary i
chain i (suc k) = chain i k >>= λ a. links k (chain i k) >>= λ ls. pure (chained k a ls)

-- the branches of a conditional expression
abbrev pub choice : Ex → Below → Parser Ex
choice c b = expect Question >>= λ _. b.expr >>= λ x. expect Colon >>= λ _. b.expr >>= λ y. pure (Choice c x y)

-- a conditional expression, or its test alone
abbrev pub choice_by : Option Below → Ex → Bool → Parser Ex
choice_by i c true = opened i (fixed Question) (choice c)
choice_by i c false = pure c

-- an expression
abbrev pub expr : Option Below → Parser Ex
expr i = chain i 6 >>= λ c. look (λ t. choice_by i c (sees Question t))

-- ---- statements

-- the declarations and statements of a block
abbrev pub items : Below → Parser Items
items b = many in_block b.item NoItems ThenItem

-- a block
abbrev pub block : Below → Parser Stmt
block b = expect OpenBrace >>= λ _. items b >>= λ is. expect CloseBrace >>= λ _. pure (Block is)

-- the statement in a statement: a block, which opens one level, or another
abbrev pub inner_by : Below → Bool → Parser Stmt
inner_by b true = block b
inner_by b false = b.stmt

-- the statement in a statement
abbrev pub inner : Below → Parser Stmt
inner b = look (λ c. inner_by b (sees OpenBrace c))

-- a conditional with an `else`, or without
abbrev pub else_by : Below → Ex → Stmt → Bool → Parser Stmt
else_by b e s true = keyword kept.Else >>= λ _. inner b >>= λ t. pure (IfElse e s t)
else_by b e s false = pure (IfThen e s)

-- an open statement has taken the `else` already
abbrev pub may_else : Stmt → Option Tok → Bool
may_else s c = if is_open s then false else sees_word kept.Else c

-- what stands behind `if`
abbrev pub conditional : Below → Parser Stmt
conditional b = expect OpenRound >>= λ _. b.expr >>= λ e. expect CloseRound >>= λ _. inner b >>= λ s. look (λ c. else_by b e s (may_else s c))

-- a semicolon
abbrev pub ended : {A : Type 0} → A → Parser A
ended a = expect Semicolon >>= λ _. pure a

-- what stands behind `return`
abbrev pub return_by : Option Below → Bool → Parser Stmt
return_by i true = ended Return
return_by i false = expr i >>= λ e. ended (ReturnOf e)

-- what stands behind `throw new Error`
abbrev pub thrown_error : Below → Parser Stmt
thrown_error b = expect OpenRound >>= λ _. b.expr >>= λ e. expect CloseRound >>= λ _. ended (ThrowError e)

-- what stands behind `throw`
abbrev pub throw_by : Option Below → Bool → Parser Stmt
throw_by i true = keyword kept.New >>= λ _. keyword kept.Error >>= λ _. opened i (fixed OpenRound) thrown_error
throw_by i false = expr i >>= λ e. ended (Throw e)

-- the end of a `delete`, of a member alone
abbrev pub deleted : Ex → Parser Stmt
deleted e = if is_member e then ended (Delete e) else fail

-- an assignment, or an expression as a statement
abbrev pub assign_by : Option Below → Ex → Bool → Parser Stmt
assign_by i e true = expect Assign >>= λ _. expr i >>= λ v. ended (Set e v)
assign_by i e false = ended (Do e)

-- an `=` comes next, and what stands before it may be assigned
abbrev pub may_assign : Ex → Option Tok → Bool
may_assign e c = if is_target e then sees Assign c else false

-- a statement, by its form
abbrev pub stmt_by : Option Below → StmtForm → Parser Stmt
stmt_by i BlockForm = opened i (fixed OpenBrace) block
stmt_by i EmptyForm = ended Empty
stmt_by i IfForm = keyword kept.If >>= λ _. opened i (fixed OpenRound) conditional
stmt_by i ReturnForm = keyword kept.Return >>= λ _. look (λ c. return_by i (sees Semicolon c))
stmt_by i ThrowForm = keyword kept.Throw >>= λ _. look (λ c. throw_by i (sees_word kept.New c))
stmt_by i DeleteForm = keyword kept.Delete >>= λ _. post i >>= λ e. deleted e
stmt_by i ExprForm = expr i >>= λ e. look (λ c. assign_by i e (may_assign e c))

-- a statement
abbrev pub stmt : Option Below → Parser Stmt
stmt i = look (λ c. stmt_by i (stmt_form c))

-- what stands behind the name of a `let`
abbrev pub let_by : Option Below → ℕ × List ℕ → Bool → Parser Item
let_by i n true = expect Assign >>= λ _. expr i >>= λ e. ended (LetBe n.0 n.1 e)
let_by i n false = ended (Let n.0 n.1)

-- a declaration or a statement, by its form
abbrev pub item_by : Option Below → ItemForm → Parser Item
item_by i ConstForm = keyword kept.Const >>= λ _. take name_of >>= λ n. expect Assign >>= λ _. expr i >>= λ e. ended (Const n.0 n.1 e)
item_by i LetForm = keyword kept.Let >>= λ _. take name_of >>= λ n. look (λ c. let_by i n (sees Assign c))
item_by i PlainForm = stmt i >>= λ s. pure (Plain s)

-- a declaration or a statement
abbrev pub item : Option Below → Parser Item
item i = look (λ c. item_by i (item_form c))

-- the parsers below d levels
unfoldable pub below : ℕ → Option Below
below zero = None
below (suc d) = Some (record { unary = unary (below d); expr = expr (below d); stmt = stmt (below d); item = item (below d) })

-- ---- reducers

-- the second parameter, or none
abbrev pub params_by : ℕ × List ℕ → Bool → Parser Params
params_by n true = expect Comma >>= λ _. take name_of >>= λ m. pure (Two n.0 n.1 m.0 m.1)
params_by n false = pure (One n.0 n.1)

-- one parameter or two
abbrev pub params : Parser Params
params = take name_of >>= λ n. look (λ c. params_by n (sees Comma c))

-- a reducer behind its name
abbrev pub reducer_body : ℕ × List ℕ → Below → Parser Reducer
reducer_body n b = expect OpenRound >>= λ _. params >>= λ ps. expect CloseRound >>= λ _. expect OpenBrace >>= λ _. items b >>= λ is. expect CloseBrace >>= λ _. pure (Function n.0 n.1 ps is)

-- a reducer
abbrev pub reducer : Option Below → Parser Reducer
reducer i = keyword kept.Function >>= λ _. take name_of >>= λ n. opened i (fixed OpenRound) (reducer_body n)

-- the reducers of a program
abbrev pub reducers : Option Below → Parser Program
reducers i = many (λ _. true) (reducer i) NoReducers ThenReducer

-- the program of the tokens, of at most d levels
unfoldable pub program : ℕ → Parser Program
program d = reducers (below d) >>= λ rs. finish >>= λ _. pure rs
