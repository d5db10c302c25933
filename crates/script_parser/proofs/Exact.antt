-- The parser is exact in both directions.
use Rattle.std.proofs.Common.{◌≡◌, ℕ, suc, ◌+◌, false, [], ◌∷◌, ◌++◌, length, Ok, Err, refl, sym, ap, subst, ◌∙◌, append_assoc, append-nil, arith, inl, inr, length-append}
use Rattle.script_grammar.specs.Tokens.{Tok, Toks}
use Rattle.script_grammar.specs.Trees.{Program}
use Rattle.script_grammar.specs.Spelling.{spell_program}
use Rattle.script_grammar.specs.Rules.{Right, within_program}
use Rattle.script_grammar.specs.Programs.{IsProgram, Begins, BeginsWithin, Stops, IsUnexpected, IsTooNested}
use Rattle.script_parser.specs.Steps.{Why, Unexpected, TooNested, Outcome, and_then, ◌>>=◌, pure, finish}
use Rattle.script_parser.specs.Parser.{below, reducers, program}
use Rattle.script_parser.specs.Exact.{Exact}
use Rattle.script_parser.proofs.Good.{Judge, Alike, Shown}
use Rattle.script_parser.proofs.Statements.{ProgramAt, good_program}
use Rattle.script_parser.proofs.Takes.{Takes}
use Rattle.script_parser.proofs.AcceptStatements.{accept_program}
use Rattle.script_parser.proofs.Unique.{stops_unexpected, stops_nested}

ok_same : (p q : Program × Toks) (a b : Outcome Program) → a ≡ Ok p → b ≡ Ok q → a ≡ b → p ≡ q
ok_same p q a b f g e = cc

err_same : (p q : Why × Toks) (a b : Outcome Program) → a ≡ Err p → b ≡ Err q → a ≡ b → p ≡ q
err_same p q a b f g e = cc

apart : Unexpected ≡ TooNested → ⊥
apart e = cc

no_rest : (out : Outcome Program) (p : Program) (rest : Toks) → and_then out (λ rs. finish >>= λ _. pure rs) ≡ Ok (p, rest) → rest ≡ []
unfolding finish
no_rest (Ok (q, [])) p rest e = sym (ap (λ (w : Program × Toks). w.1) (ok_same (q, []) (p, rest) (Ok (q, [])) (Ok (p, rest)) refl refl e))
no_rest (Ok (q, t ∷ ts)) p rest e = absurd cc
no_rest (Err x) p rest e = absurd cc

all_read : (d : ℕ) (ts : Toks) (p : Program) (rest : Toks) → program d ts ≡ Ok (p, rest) → rest ≡ []
unfolding program
all_read d ts p rest e = no_rest (reducers (below d) ts) p rest e

told : (d : ℕ) (ts : Toks) (p : Program) (rest : Toks) (out : Outcome Program) → Judge (ProgramAt d) ts out → out ≡ Ok (p, rest) → rest ≡ [] → IsProgram d ts p
told d ts p rest (Ok q) j e n = go (ok_same q (p, rest) (Ok q) (Ok q) refl e refl)
  where
    go : q ≡ (p, rest) → IsProgram d ts p
    go same =
        let tree : q.0 ≡ p = ap (λ (w : Program × Toks). w.0) same in
        let left : q.1 ≡ [] = ap (λ (w : Program × Toks). w.1) same ∙ n in
        subst (λ (p : Program). IsProgram d ts p) tree (record {
          spelled = j.2 ∙ rw (left, append-nil) (j.1 0).0;
          right = (j.1 0).1;
          levels = λ n. (j.1 n).2;
        })
told d ts p rest (Err x) j e n = absurd cc

-- the faults, as they are judged
abbrev Judged : ℕ → Toks → Why × Toks → Type 0
Judged d ts e = (x more : Toks) × (p : Program) × (ts ≡ x ++ e.1) × ProgramAt d (length x) p (x ++ more) × Shown e.0 e.1 more

judged : (d : ℕ) (ts : Toks) (e : Why × Toks) (out : Outcome Program) → Judge (ProgramAt d) ts out → out ≡ Err e → Judged d ts e
judged d ts e (Ok q) j h = absurd cc
judged d ts e (Err q) j h = subst (Judged d ts) (err_same q e (Err q) (Err q) refl h refl) j

within : (d : ℕ) (ts : Toks) (e : Why × Toks) (j : Judged d ts e) → BeginsWithin d j.0
within d ts e j = (j.1, j.2, j.4.0, j.4.1, j.4.2)

-- what is spelled is no unexpected token's
never : (d : ℕ) (ts left : Toks) (p : Program) → program d ts ≡ Err (Unexpected, left) → ts ≡ spell_program p → Right p → ⊥
never d ts left p e s r = go (accept_program p d r)
  where
    here : program d (spell_program p ++ []) ≡ Err (Unexpected, left)
    here = rw (append-nil (spell_program p), ← s) e

    go : Takes (within_program p d) (program d) (spell_program p) p [] → ⊥
    go (inl h) = let a = h.0 in let b = here in cc
    go (inr h) = apart (ap (λ (w : Why × Toks). w.0) (err_same (Unexpected, left) (TooNested, h.1) (program d (spell_program p ++ [])) (program d (spell_program p ++ [])) here h.2 refl))

stops : (d : ℕ) (x rest : Toks) → program d (x ++ rest) ≡ Err (Unexpected, rest) → Stops x rest
stops d x [] e = λ p s r. never d x [] p (rw append-nil at e) s r
stops d x (t ∷ rest) e = λ b. ends b (subst (λ (out : Outcome Program). Alike (t ∷ rest) (t ∷ b.0) out (program d (x ++ t ∷ b.0))) e ((good_program d).alike x t rest b.0))
  where
    ends : (b : Begins (x ++ t ∷ [])) → Alike (t ∷ rest) (t ∷ b.0) (Err (Unexpected, t ∷ rest)) (program d (x ++ t ∷ b.0)) → ⊥
    ends b (inl l) = omega (arith, l)
    ends b (inr k) = never d (x ++ t ∷ b.0) _ b.1 k.2 (sym (append_assoc x (t ∷ []) b.0) ∙ b.2) b.3

-- where the parser stops is where the level is opened
opened : (d : ℕ) (ts left : Toks) (p : Program) (k : ℕ) → program d ts ≡ Err (TooNested, left) → ts ≡ spell_program p → Right p → k + length left ≡ length ts → within_program p d (suc k) ≡ false
opened d ts left p k e s r size = go (accept_program p d r)
  where
    here : program d (spell_program p ++ []) ≡ Err (TooNested, left)
    here = rw (append-nil (spell_program p), ← s) e

    go : Takes (within_program p d) (program d) (spell_program p) p [] → within_program p d (suc k) ≡ false
    go (inl h) = let a = h.0 in let b = here in absurd cc
    go (inr h) =
        let same : h.1 ≡ left = ap (λ (w : Why × Toks). w.1) (err_same (TooNested, h.1) (TooNested, left) (program d (spell_program p ++ [])) (program d (spell_program p ++ [])) h.2 here refl) in
        let long : length (spell_program p ++ []) ≡ length ts = ap (λ (w : Toks). length w) (append-nil (spell_program p) ∙ sym s) in
        let place : h.0 ≡ k = omega (arith, h.3, long, size, ap (λ (w : Toks). length w) same) in
        subst (λ (k : ℕ). within_program p d (suc k) ≡ false) place h.4

no_front : (y r : Toks) → r ≡ y ++ r → length y ≡ 0
no_front y r e = omega (arith, ap (λ (w : Toks). length w) e, length-append y r)

opens : (d : ℕ) (x : Toks) (t : Tok) (left : Toks) → program d (x ++ t ∷ left) ≡ Err (TooNested, t ∷ left) → (more : Toks) (p : Program) → x ++ t ∷ more ≡ spell_program p → Right p → within_program p d (suc (length x)) ≡ false
opens d x t left e more p s r = ends (subst (λ (out : Outcome Program). Alike (t ∷ left) (t ∷ more) out (program d (x ++ t ∷ more))) e ((good_program d).alike x t left more))
  where
    ends : Alike (t ∷ left) (t ∷ more) (Err (TooNested, t ∷ left)) (program d (x ++ t ∷ more)) → within_program p d (suc (length x)) ≡ false
    ends (inl l) = absurd (omega (arith, l))
    ends (inr k) =
        let none = no_front k.0 (t ∷ left) k.1 in
        let size : length x + length (k.0 ++ t ∷ more) ≡ length (x ++ t ∷ more) = omega (arith, none, length-append k.0 (t ∷ more), length-append x (t ∷ more)) in
        opened d (x ++ t ∷ more) (k.0 ++ t ∷ more) p (length x) k.2 s r size

nested : (d : ℕ) (ts rest x more : Toks) (p : Program) → ts ≡ x ++ rest → program d ts ≡ Err (TooNested, rest) → BeginsWithin d x → x ++ more ≡ spell_program p → Right p → Shown TooNested rest more → IsTooNested d ts rest
nested d ts [] x more p s e b q r h = absurd h
nested d ts (t ∷ left) x more p s e b q r h = record {
  front = x;
  next = t;
  left = left;
  splits = s;
  head = refl;
  begins = b;
  goes_on = (h.0, p, append_assoc x (t ∷ []) h.0 ∙ rw (← h.1) q, r);
  opens = opens d x t left (rw s at e);
}

pub exact : (d : ℕ) (ts : Toks) → Exact d ts
exact d ts = record {
  read = read;
  only = only;
  unexpected = unexpected;
  unexpected_only = λ rest u. stops_unexpected d ts rest read unexpected too_nested u;
  nested = too_nested;
  nested_only = λ rest n. stops_nested d ts rest read unexpected too_nested n;
}
  where
    read : (p : Program) (rest : Toks) → program d ts ≡ Ok (p, rest) → IsProgram d ts p
    read p rest e = told d ts p rest (program d ts) ((good_program d).judge ts) e (all_read d ts p rest e)

    unexpected : (rest : Toks) → program d ts ≡ Err (Unexpected, rest) → IsUnexpected d ts rest
    unexpected rest e = let j = judged d ts (Unexpected, rest) (program d ts) ((good_program d).judge ts) e in record { front = j.0; splits = j.3; begins = within d ts (Unexpected, rest) j; stops = stops d j.0 rest (rw j.3 at e) }

    too_nested : (rest : Toks) → program d ts ≡ Err (TooNested, rest) → IsTooNested d ts rest
    too_nested rest e = let j = judged d ts (TooNested, rest) (program d ts) ((good_program d).judge ts) e in nested d ts rest j.0 j.1 j.2 j.3 e (within d ts (TooNested, rest) j) j.4.0 j.4.1 j.5

    only : (p : Program) → IsProgram d ts p → program d ts ≡ Ok (p, [])
    only p h = go (accept_program p d h.right)
      where
        go : Takes (within_program p d) (program d) (spell_program p) p [] → program d ts ≡ Ok (p, [])
        go (inl r) = rw h.spelled (rw append-nil at r.0)
        go (inr r) = let a = h.levels (suc r.0) in let b = r.4 in absurd cc
