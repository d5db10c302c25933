-- The words that are no names.
use Rattle.std.specs.Prelude.{ℕ, if◌then◌else◌, List, [], ◌∷◌, Option, Some, None, codes}
use Rattle.std.specs.Str.{bytes_eq}
pub use Rattle.script_text.specs.declared.word.Reserved.{Reserved}
use Rattle.script_text.specs.declared.word.Reserved.TheVariants as kept

abbrev pub word : Reserved → List ℕ
word kept.Break = codes "break"
word kept.Case = codes "case"
word kept.Catch = codes "catch"
word kept.Class = codes "class"
word kept.Const = codes "const"
word kept.Continue = codes "continue"
word kept.Debugger = codes "debugger"
word kept.Default = codes "default"
word kept.Delete = codes "delete"
word kept.Do = codes "do"
word kept.Else = codes "else"
word kept.Enum = codes "enum"
word kept.Export = codes "export"
word kept.Extends = codes "extends"
word kept.False = codes "false"
word kept.Finally = codes "finally"
word kept.For = codes "for"
word kept.Function = codes "function"
word kept.If = codes "if"
word kept.Import = codes "import"
word kept.In = codes "in"
word kept.Instanceof = codes "instanceof"
word kept.Let = codes "let"
word kept.New = codes "new"
word kept.Null = codes "null"
word kept.Of = codes "of"
word kept.Return = codes "return"
word kept.Static = codes "static"
word kept.Super = codes "super"
word kept.Switch = codes "switch"
word kept.This = codes "this"
word kept.Throw = codes "throw"
word kept.True = codes "true"
word kept.Try = codes "try"
word kept.Typeof = codes "typeof"
word kept.Undefined = codes "undefined"
word kept.Var = codes "var"
word kept.Void = codes "void"
word kept.While = codes "while"
word kept.With = codes "with"
word kept.Yield = codes "yield"
word kept.Await = codes "await"
word kept.Original = codes "original"
word kept.Current = codes "current"
word kept.IsDraft = codes "isDraft"
word kept.Object = codes "Object"
word kept.Array = codes "Array"
word kept.Map = codes "Map"
word kept.Set = codes "Set"
word kept.Error = codes "Error"

-- the place of each word in the list of all
abbrev pub word_code : Reserved → ℕ
word_code kept.Break = 0
word_code kept.Case = 1
word_code kept.Catch = 2
word_code kept.Class = 3
word_code kept.Const = 4
word_code kept.Continue = 5
word_code kept.Debugger = 6
word_code kept.Default = 7
word_code kept.Delete = 8
word_code kept.Do = 9
word_code kept.Else = 10
word_code kept.Enum = 11
word_code kept.Export = 12
word_code kept.Extends = 13
word_code kept.False = 14
word_code kept.Finally = 15
word_code kept.For = 16
word_code kept.Function = 17
word_code kept.If = 18
word_code kept.Import = 19
word_code kept.In = 20
word_code kept.Instanceof = 21
word_code kept.Let = 22
word_code kept.New = 23
word_code kept.Null = 24
word_code kept.Of = 25
word_code kept.Return = 26
word_code kept.Static = 27
word_code kept.Super = 28
word_code kept.Switch = 29
word_code kept.This = 30
word_code kept.Throw = 31
word_code kept.True = 32
word_code kept.Try = 33
word_code kept.Typeof = 34
word_code kept.Undefined = 35
word_code kept.Var = 36
word_code kept.Void = 37
word_code kept.While = 38
word_code kept.With = 39
word_code kept.Yield = 40
word_code kept.Await = 41
word_code kept.Original = 42
word_code kept.Current = 43
word_code kept.IsDraft = 44
word_code kept.Object = 45
word_code kept.Array = 46
word_code kept.Map = 47
word_code kept.Set = 48
word_code kept.Error = 49

abbrev pub words : List Reserved
words = kept.Break ∷ kept.Case ∷ kept.Catch ∷ kept.Class ∷ kept.Const ∷ kept.Continue ∷ kept.Debugger ∷ kept.Default ∷ kept.Delete ∷ kept.Do ∷ kept.Else ∷ kept.Enum ∷ kept.Export ∷ kept.Extends ∷ kept.False ∷ kept.Finally ∷ kept.For ∷ kept.Function ∷ kept.If ∷ kept.Import ∷ kept.In ∷ kept.Instanceof ∷ kept.Let ∷ kept.New ∷ kept.Null ∷ kept.Of ∷ kept.Return ∷ kept.Static ∷ kept.Super ∷ kept.Switch ∷ kept.This ∷ kept.Throw ∷ kept.True ∷ kept.Try ∷ kept.Typeof ∷ kept.Undefined ∷ kept.Var ∷ kept.Void ∷ kept.While ∷ kept.With ∷ kept.Yield ∷ kept.Await ∷ kept.Original ∷ kept.Current ∷ kept.IsDraft ∷ kept.Object ∷ kept.Array ∷ kept.Map ∷ kept.Set ∷ kept.Error ∷ []

-- the first of these words that is written so
abbrev pub first_word : List Reserved → List ℕ → Option Reserved
first_word [] bytes = None
first_word (w ∷ ws) bytes = if bytes_eq (word w) bytes then Some w else first_word ws bytes

-- the word that is no name, or none
unfoldable pub reserved_of : List ℕ → Option Reserved
reserved_of bytes = first_word words bytes
