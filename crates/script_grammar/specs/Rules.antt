-- What a derivation keeps besides its spelling, as in ECMA-262: how tightly operators bind, what may be assigned and deleted,
-- and where an `else` belongs. And which tokens open how many levels, which is a limit of this language.
use Rattle.std.specs.Prelude.{◌≡◌, ℕ, zero, suc, ◌-◌, ◌<◌, Bool, true, false, ◌&&◌, [], ◌∷◌, length}
use Rattle.script_text.specs.declared.sign.Sign.{Sign}
use Rattle.script_text.specs.declared.sign.Sign.TheVariants.{Same, NotSame, AtMost, AtLeast, Less, Greater, And, Or, Plus, Minus, Star, Percent, Not, OpenBrace}
use Rattle.script_grammar.specs.Tokens.{Tok, Fixed, Toks}
use Rattle.script_grammar.specs.Spelling.{spell_ex, spell_prop, spell_suffix, spell_stmt, spell_item, spell_params, spell_reducer}
use Rattle.script_grammar.specs.Trees.{Ex, Literal, Var, Round, ListOf, Object, Member, Unary, Chain, Choice, Elems, NoElems, LastElem, ThenElem, Prop, Keyed, Quoted, Short, Props, NoProps, LastProp, ThenProp, Suffix, Dot, Index, Suffixes, NoSuffixes, ThenSuffix, Links, NoLinks, ThenLink, Stmt, Block, Empty, IfThen, IfElse, Return, ReturnOf, Throw, ThrowError, Delete, Set, Do, Item, Const, Let, LetBe, Plain, Items, NoItems, ThenItem, Reducer, Function, Program, NoReducers, ThenReducer}

-- the level of a binary operator, by the precedence of ECMA-262, from 0, the tightest, to 5; 6 for other signs
abbrev pub level_of : Sign → ℕ
level_of Star = 0
level_of Percent = 0
level_of Plus = 1
level_of Minus = 1
level_of Less = 2
level_of AtMost = 2
level_of Greater = 2
level_of AtLeast = 2
level_of Same = 3
level_of NotSame = 3
level_of And = 4
level_of Or = 5
level_of _ = 6

abbrev pub is_unary : Sign → Bool
is_unary Not = true
is_unary Minus = true
is_unary _ = false

-- it stands alone: no operator, no member
abbrev pub is_atom : Ex → Bool
is_atom (Literal l) = true
is_atom (Var at bytes) = true
is_atom (Round e) = true
is_atom (ListOf es) = true
is_atom (Object ps) = true
is_atom (Member e s ss) = false
is_atom (Unary s e) = false
is_atom (Chain k a s b ls) = false
is_atom (Choice c a b) = false

abbrev pub is_member : Ex → Bool
is_member (Member e s ss) = true
is_member _ = false

-- what may stand before `=`
abbrev pub is_target : Ex → Bool
is_target (Var at bytes) = true
is_target (Member e s ss) = true
is_target _ = false

-- Every operand binds more tightly than the operator that it stands at. An expression of level 0 is an atom or a
-- member, one of level 1 may begin with a sign, one of level k + 2 may be a chain of level k, one of level 8 a choice.
abbrev mutual
  pub Binds : ℕ → Ex → Type 0
  Binds l (Literal x) = Unit {0}
  Binds l (Var at bytes) = Unit {0}
  Binds l (Round e) = Binds 8 e
  Binds l (ListOf es) = BindsElems es
  Binds l (Object ps) = BindsProps ps
  Binds l (Member e s ss) = (is_atom e ≡ true) × Binds 0 e × BindsSuffix s × BindsSuffixes ss
  Binds l (Unary s e) = (0 < l) × (is_unary s ≡ true) × Binds 1 e
  Binds l (Chain k a s b ls) = (suc k < l) × (k < 6) × Binds (suc k) a × (level_of s ≡ k) × Binds (suc k) b × BindsLinks k ls
  Binds l (Choice c a b) = (7 < l) × Binds 7 c × Binds 8 a × Binds 8 b

  pub BindsElems : Elems → Type 0
  BindsElems NoElems = Unit {0}
  BindsElems (LastElem e) = Binds 8 e
  BindsElems (ThenElem e es) = Binds 8 e × BindsElems es

  pub BindsProp : Prop → Type 0
  BindsProp (Keyed w e) = Binds 8 e
  BindsProp (Quoted bytes e) = Binds 8 e
  BindsProp (Short at bytes) = Unit {0}

  pub BindsProps : Props → Type 0
  BindsProps NoProps = Unit {0}
  BindsProps (LastProp p) = BindsProp p
  BindsProps (ThenProp p ps) = BindsProp p × BindsProps ps

  pub BindsSuffix : Suffix → Type 0
  BindsSuffix (Dot w) = Unit {0}
  BindsSuffix (Index e) = Binds 8 e

  pub BindsSuffixes : Suffixes → Type 0
  BindsSuffixes NoSuffixes = Unit {0}
  BindsSuffixes (ThenSuffix s ss) = BindsSuffix s × BindsSuffixes ss

  pub BindsLinks : ℕ → Links → Type 0
  BindsLinks k NoLinks = Unit {0}
  BindsLinks k (ThenLink s e ls) = (level_of s ≡ k) × Binds (suc k) e × BindsLinks k ls

abbrev pub opens_brace : Tok → Bool
opens_brace (Fixed OpenBrace) = true
opens_brace _ = false

abbrev pub begins_brace : Toks → Bool
begins_brace [] = false
begins_brace (t ∷ ts) = opens_brace t

-- its last part is an `if` without an `else`
abbrev pub is_open : Stmt → Bool
is_open (IfThen e s) = true
is_open (IfElse e s t) = is_open t
is_open _ = false

-- A statement that begins with a brace is a block; each `else` belongs to the nearest `if`.
abbrev mutual
  pub RightStmt : Stmt → Type 0
  RightStmt (Block is) = RightItems is
  RightStmt Empty = Unit {0}
  RightStmt (IfThen e s) = Binds 8 e × RightStmt s
  RightStmt (IfElse e s t) = Binds 8 e × (is_open s ≡ false) × RightStmt s × RightStmt t
  RightStmt Return = Unit {0}
  RightStmt (ReturnOf e) = Binds 8 e
  RightStmt (Throw e) = Binds 8 e
  RightStmt (ThrowError e) = Binds 8 e
  RightStmt (Delete e) = (is_member e ≡ true) × Binds 0 e
  RightStmt (Set t e) = (is_target t ≡ true) × (begins_brace (spell_ex t) ≡ false) × Binds 8 t × Binds 8 e
  RightStmt (Do e) = (begins_brace (spell_ex e) ≡ false) × Binds 8 e

  pub RightItem : Item → Type 0
  RightItem (Const at bytes e) = Binds 8 e
  RightItem (Let at bytes) = Unit {0}
  RightItem (LetBe at bytes e) = Binds 8 e
  RightItem (Plain s) = RightStmt s

  pub RightItems : Items → Type 0
  RightItems NoItems = Unit {0}
  RightItems (ThenItem i is) = RightItem i × RightItems is

abbrev pub RightReducer : Reducer → Type 0
RightReducer (Function at bytes ps is) = RightItems is

abbrev pub Right : Program → Type 0
Right NoReducers = Unit {0}
Right (ThenReducer r rs) = RightReducer r × Right rs

-- A token that opens a level, where d are left and n tokens are counted, it and those behind it.
abbrev pub opens : ℕ → ℕ → (ℕ → ℕ → Bool) → Bool
opens zero zero inside = true
opens zero (suc n) inside = false
opens (suc d) n inside = inside d (n - 1)

-- A statement in a statement opens a level by its first token, and a block only that of its brace.
abbrev pub inner_levels : Stmt → ℕ → ℕ
inner_levels (Block is) d = suc d
inner_levels _ d = d

-- None of its first n tokens opens a level beyond d: each bracket and brace opens one until it is closed, a sign before
-- an operand one for it, and each branch of a choice is one.
abbrev mutual
  pub within : Ex → ℕ → ℕ → Bool
  within (Literal x) d n = true
  within (Var at bytes) d n = true
  within (Round e) d n = opens d n (within e)
  within (ListOf es) d n = opens d n (within_elems es)
  within (Object ps) d n = opens d n (within_props ps)
  within (Member e s ss) d n = within e d n && (within_suffix s d (n - length (spell_ex e)) && within_suffixes ss d (n - length (spell_ex e) - length (spell_suffix s)))
  within (Unary s e) d n = opens d n (within e)
  within (Chain k a s b ls) d n = within a d n && (within b d (n - length (spell_ex a) - 1) && within_links ls d (n - length (spell_ex a) - 1 - length (spell_ex b)))
  within (Choice c a b) d n = within c d n && opens d (n - length (spell_ex c)) (λ e m. within a e m && within b e (m - length (spell_ex a) - 1))

  pub within_elems : Elems → ℕ → ℕ → Bool
  within_elems NoElems d n = true
  within_elems (LastElem e) d n = within e d n
  within_elems (ThenElem e es) d n = within e d n && within_elems es d (n - length (spell_ex e) - 1)

  pub within_prop : Prop → ℕ → ℕ → Bool
  within_prop (Keyed w e) d n = within e d (n - 1 - 1)
  within_prop (Quoted bytes e) d n = within e d (n - 1 - 1)
  within_prop (Short at bytes) d n = true

  pub within_props : Props → ℕ → ℕ → Bool
  within_props NoProps d n = true
  within_props (LastProp p) d n = within_prop p d n
  within_props (ThenProp p ps) d n = within_prop p d n && within_props ps d (n - length (spell_prop p) - 1)

  pub within_suffix : Suffix → ℕ → ℕ → Bool
  within_suffix (Dot w) d n = true
  within_suffix (Index e) d n = opens d n (within e)

  pub within_suffixes : Suffixes → ℕ → ℕ → Bool
  within_suffixes NoSuffixes d n = true
  within_suffixes (ThenSuffix s ss) d n = within_suffix s d n && within_suffixes ss d (n - length (spell_suffix s))

  pub within_links : Links → ℕ → ℕ → Bool
  within_links NoLinks d n = true
  within_links (ThenLink s e ls) d n = within e d (n - 1) && within_links ls d (n - 1 - length (spell_ex e))

abbrev mutual
  pub within_stmt : Stmt → ℕ → ℕ → Bool
  within_stmt (Block is) d n = opens d n (within_items is)
  within_stmt Empty d n = true
  within_stmt (IfThen e s) d n = opens d (n - 1) (λ c m. within e c m && within_stmt s (inner_levels s c) (m - length (spell_ex e) - 1))
  within_stmt (IfElse e s t) d n = opens d (n - 1) (λ c m. within e c m && (within_stmt s (inner_levels s c) (m - length (spell_ex e) - 1) && within_stmt t (inner_levels t c) (m - length (spell_ex e) - 1 - length (spell_stmt s) - 1)))
  within_stmt Return d n = true
  within_stmt (ReturnOf e) d n = within e d (n - 1)
  within_stmt (Throw e) d n = within e d (n - 1)
  within_stmt (ThrowError e) d n = opens d (n - 1 - 1 - 1) (within e)
  within_stmt (Delete e) d n = within e d (n - 1)
  within_stmt (Set t e) d n = within t d n && within e d (n - length (spell_ex t) - 1)
  within_stmt (Do e) d n = within e d n

  pub within_item : Item → ℕ → ℕ → Bool
  within_item (Const at bytes e) d n = within e d (n - 1 - 1 - 1)
  within_item (Let at bytes) d n = true
  within_item (LetBe at bytes e) d n = within e d (n - 1 - 1 - 1)
  within_item (Plain s) d n = within_stmt s d n

  pub within_items : Items → ℕ → ℕ → Bool
  within_items NoItems d n = true
  within_items (ThenItem i is) d n = within_item i d n && within_items is d (n - length (spell_item i))

abbrev pub within_reducer : Reducer → ℕ → ℕ → Bool
within_reducer (Function at bytes ps is) d n = opens d (n - 1 - 1) (λ c m. within_items is c (m - length (spell_params ps) - 1 - 1))

abbrev pub within_program : Program → ℕ → ℕ → Bool
within_program NoReducers d n = true
within_program (ThenReducer r rs) d n = within_reducer r d n && within_program rs d (n - length (spell_reducer r))
