-- The derivations of the grammar, a subset of that of ECMA-262, as trees. Chains of one operator level, members and lists are
-- kept as lists.
use Rattle.std.specs.Prelude.{ℕ, List}
use Rattle.script_text.specs.declared.sign.Sign.{Sign}
use Rattle.script_text.specs.declared.word.Reserved.{Reserved}

pub data Lit : Type 0 where
  Number : ℕ → Lit
  Quote : List ℕ → Lit
  True False Null Undefined : Lit

-- a word in the place of a key: a name with the number of its token, or a word that is no name
pub data Word : Type 0 where
  Named : ℕ → List ℕ → Word
  Reserve : Reserved → Word

mutual
  pub data Ex : Type 0 where
    Literal : Lit → Ex
    -- a name with the number of its token
    Var : ℕ → List ℕ → Ex
    Round : Ex → Ex
    ListOf : Elems → Ex
    Object : Props → Ex
    Member : Ex → Suffix → Suffixes → Ex
    Unary : Sign → Ex → Ex
    -- a chain of the operators of one level, from 0, the tightest, to 5
    Chain : ℕ → Ex → Sign → Ex → Links → Ex
    Choice : Ex → Ex → Ex → Ex

  -- elements, each but the last before a comma; the last may stand before one
  pub data Elems : Type 0 where
    NoElems : Elems
    LastElem : Ex → Elems
    ThenElem : Ex → Elems → Elems

  pub data Prop : Type 0 where
    Keyed : Word → Ex → Prop
    Quoted : List ℕ → Ex → Prop
    Short : ℕ → List ℕ → Prop

  pub data Props : Type 0 where
    NoProps : Props
    LastProp : Prop → Props
    ThenProp : Prop → Props → Props

  pub data Suffix : Type 0 where
    Dot : Word → Suffix
    Index : Ex → Suffix

  pub data Suffixes : Type 0 where
    NoSuffixes : Suffixes
    ThenSuffix : Suffix → Suffixes → Suffixes

  pub data Links : Type 0 where
    NoLinks : Links
    ThenLink : Sign → Ex → Links → Links

mutual
  pub data Stmt : Type 0 where
    Block : Items → Stmt
    Empty : Stmt
    IfThen : Ex → Stmt → Stmt
    IfElse : Ex → Stmt → Stmt → Stmt
    Return : Stmt
    ReturnOf : Ex → Stmt
    Throw : Ex → Stmt
    ThrowError : Ex → Stmt
    Delete : Ex → Stmt
    Set : Ex → Ex → Stmt
    Do : Ex → Stmt

  pub data Item : Type 0 where
    Const : ℕ → List ℕ → Ex → Item
    Let : ℕ → List ℕ → Item
    LetBe : ℕ → List ℕ → Ex → Item
    Plain : Stmt → Item

  pub data Items : Type 0 where
    NoItems : Items
    ThenItem : Item → Items → Items

pub data Params : Type 0 where
  One : ℕ → List ℕ → Params
  Two : ℕ → List ℕ → ℕ → List ℕ → Params

pub data Reducer : Type 0 where
  Function : ℕ → List ℕ → Params → Items → Reducer

pub data Program : Type 0 where
  NoReducers : Program
  ThenReducer : Reducer → Program → Program
