-- What the parser has to answer.
use Rattle.std.specs.Prelude.{◌≡◌, ℕ, [], Ok, Err}
use Rattle.script_grammar.specs.Tokens.{Toks}
use Rattle.script_grammar.specs.Trees.{Program}
use Rattle.script_grammar.specs.Programs.{IsProgram, IsUnexpected, IsTooNested}
use Rattle.script_parser.specs.Steps.{Unexpected, TooNested}
use Rattle.script_parser.specs.Parser.{program}

-- for d levels: what is read is a program of the tokens, and each program is read; each fault is the first, and the first is answered
pub record Exact (d : ℕ) (ts : Toks) : Type 0 where
  pub read : (p : Program) (rest : Toks) → program d ts ≡ Ok (p, rest) → IsProgram d ts p
  pub only : (p : Program) → IsProgram d ts p → program d ts ≡ Ok (p, [])
  pub unexpected : (rest : Toks) → program d ts ≡ Err (Unexpected, rest) → IsUnexpected d ts rest
  pub unexpected_only : (rest : Toks) → IsUnexpected d ts rest → program d ts ≡ Err (Unexpected, rest)
  pub nested : (rest : Toks) → program d ts ≡ Err (TooNested, rest) → IsTooNested d ts rest
  pub nested_only : (rest : Toks) → IsTooNested d ts rest → program d ts ≡ Err (TooNested, rest)
