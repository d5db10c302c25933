-- Which tokens spell a tree: the productions of the grammar, as ECMA-262 has them.
use Rattle.std.specs.Prelude.{[], ◌∷◌, ◌++◌}
use Rattle.script_text.specs.declared.sign.Sign.TheVariants.{OpenRound, CloseRound, OpenBrace, CloseBrace, OpenSquare, CloseSquare, Comma, Semicolon, Colon, Dot as Point, Question, Assign}
use Rattle.script_text.specs.declared.word.Reserved.TheVariants as kept
use Rattle.script_grammar.specs.Tokens.{Tok, Name, Kept, Integer, Text, Fixed, Toks}
use Rattle.script_grammar.specs.Trees.{Lit, Number, Quote, True, False, Null, Undefined, Word, Named, Reserve, Ex, Literal, Var, Round, ListOf, Object, Member, Unary, Chain, Choice, Elems, NoElems, LastElem, ThenElem, Prop, Keyed, Quoted, Short, Props, NoProps, LastProp, ThenProp, Suffix, Dot, Index, Suffixes, NoSuffixes, ThenSuffix, Links, NoLinks, ThenLink, Stmt, Block, Empty, IfThen, IfElse, Return, ReturnOf, Throw, ThrowError, Delete, Set, Do, Item, Const, Let, LetBe, Plain, Items, NoItems, ThenItem, Params, One, Two, Reducer, Function, Program, NoReducers, ThenReducer}

abbrev pub spell_lit : Lit → Tok
spell_lit (Number n) = Integer n
spell_lit (Quote bytes) = Text bytes
spell_lit True = Kept kept.True
spell_lit False = Kept kept.False
spell_lit Null = Kept kept.Null
spell_lit Undefined = Kept kept.Undefined

abbrev pub spell_word : Word → Tok
spell_word (Named at bytes) = Name at bytes
spell_word (Reserve r) = Kept r

abbrev mutual
  pub spell_ex : Ex → Toks
  spell_ex (Literal l) = spell_lit l ∷ []
  spell_ex (Var at bytes) = Name at bytes ∷ []
  spell_ex (Round e) = Fixed OpenRound ∷ (spell_ex e ++ Fixed CloseRound ∷ [])
  spell_ex (ListOf es) = Fixed OpenSquare ∷ (spell_elems es ++ Fixed CloseSquare ∷ [])
  spell_ex (Object ps) = Fixed OpenBrace ∷ (spell_props ps ++ Fixed CloseBrace ∷ [])
  spell_ex (Member e s ss) = spell_ex e ++ (spell_suffix s ++ spell_suffixes ss)
  spell_ex (Unary s e) = Fixed s ∷ spell_ex e
  spell_ex (Chain k a s b ls) = spell_ex a ++ Fixed s ∷ (spell_ex b ++ spell_links ls)
  spell_ex (Choice c a b) = spell_ex c ++ Fixed Question ∷ (spell_ex a ++ Fixed Colon ∷ spell_ex b)

  pub spell_elems : Elems → Toks
  spell_elems NoElems = []
  spell_elems (LastElem e) = spell_ex e
  spell_elems (ThenElem e es) = spell_ex e ++ Fixed Comma ∷ spell_elems es

  pub spell_prop : Prop → Toks
  spell_prop (Keyed w e) = spell_word w ∷ Fixed Colon ∷ spell_ex e
  spell_prop (Quoted bytes e) = Text bytes ∷ Fixed Colon ∷ spell_ex e
  spell_prop (Short at bytes) = Name at bytes ∷ []

  pub spell_props : Props → Toks
  spell_props NoProps = []
  spell_props (LastProp p) = spell_prop p
  spell_props (ThenProp p ps) = spell_prop p ++ Fixed Comma ∷ spell_props ps

  pub spell_suffix : Suffix → Toks
  spell_suffix (Dot w) = Fixed Point ∷ spell_word w ∷ []
  spell_suffix (Index e) = Fixed OpenSquare ∷ (spell_ex e ++ Fixed CloseSquare ∷ [])

  pub spell_suffixes : Suffixes → Toks
  spell_suffixes NoSuffixes = []
  spell_suffixes (ThenSuffix s ss) = spell_suffix s ++ spell_suffixes ss

  pub spell_links : Links → Toks
  spell_links NoLinks = []
  spell_links (ThenLink s e ls) = Fixed s ∷ (spell_ex e ++ spell_links ls)

abbrev mutual
  pub spell_stmt : Stmt → Toks
  spell_stmt (Block is) = Fixed OpenBrace ∷ (spell_items is ++ Fixed CloseBrace ∷ [])
  spell_stmt Empty = Fixed Semicolon ∷ []
  spell_stmt (IfThen e s) = Kept kept.If ∷ Fixed OpenRound ∷ (spell_ex e ++ Fixed CloseRound ∷ spell_stmt s)
  spell_stmt (IfElse e s t) = Kept kept.If ∷ Fixed OpenRound ∷ (spell_ex e ++ Fixed CloseRound ∷ (spell_stmt s ++ Kept kept.Else ∷ spell_stmt t))
  spell_stmt Return = Kept kept.Return ∷ Fixed Semicolon ∷ []
  spell_stmt (ReturnOf e) = Kept kept.Return ∷ (spell_ex e ++ Fixed Semicolon ∷ [])
  spell_stmt (Throw e) = Kept kept.Throw ∷ (spell_ex e ++ Fixed Semicolon ∷ [])
  spell_stmt (ThrowError e) = Kept kept.Throw ∷ Kept kept.New ∷ Kept kept.Error ∷ Fixed OpenRound ∷ (spell_ex e ++ Fixed CloseRound ∷ Fixed Semicolon ∷ [])
  spell_stmt (Delete e) = Kept kept.Delete ∷ (spell_ex e ++ Fixed Semicolon ∷ [])
  spell_stmt (Set t e) = spell_ex t ++ Fixed Assign ∷ (spell_ex e ++ Fixed Semicolon ∷ [])
  spell_stmt (Do e) = spell_ex e ++ Fixed Semicolon ∷ []

  pub spell_item : Item → Toks
  spell_item (Const at bytes e) = Kept kept.Const ∷ Name at bytes ∷ Fixed Assign ∷ (spell_ex e ++ Fixed Semicolon ∷ [])
  spell_item (Let at bytes) = Kept kept.Let ∷ Name at bytes ∷ Fixed Semicolon ∷ []
  spell_item (LetBe at bytes e) = Kept kept.Let ∷ Name at bytes ∷ Fixed Assign ∷ (spell_ex e ++ Fixed Semicolon ∷ [])
  spell_item (Plain s) = spell_stmt s

  pub spell_items : Items → Toks
  spell_items NoItems = []
  spell_items (ThenItem i is) = spell_item i ++ spell_items is

abbrev pub spell_params : Params → Toks
spell_params (One at bytes) = Name at bytes ∷ []
spell_params (Two at bytes at' bytes') = Name at bytes ∷ Fixed Comma ∷ Name at' bytes' ∷ []

abbrev pub spell_reducer : Reducer → Toks
spell_reducer (Function at bytes ps is) = Kept kept.Function ∷ Name at bytes ∷ Fixed OpenRound ∷ (spell_params ps ++ Fixed CloseRound ∷ Fixed OpenBrace ∷ (spell_items is ++ Fixed CloseBrace ∷ []))

abbrev pub spell_program : Program → Toks
spell_program NoReducers = []
spell_program (ThenReducer r rs) = spell_reducer r ++ spell_program rs
