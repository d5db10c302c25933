-- A list of tokens has one first fault at most, and none where it is a program.
use Rattle.std.proofs.Common.{◌≡◌, ℕ, suc, ◌≤◌, Bool, true, false, [], ◌∷◌, ◌++◌, length, Ok, Err, refl, sym, ap, subst, ◌∙◌, arith, append_assoc, append-nil, length-append, ◌⊎◌, inl, inr}
use Rattle.script_grammar.specs.Tokens.{Tok, Toks}
use Rattle.script_grammar.specs.Trees.{Program}
use Rattle.script_grammar.specs.Spelling.{spell_program}
use Rattle.script_grammar.specs.Rules.{within_program}
use Rattle.script_grammar.specs.Programs.{IsProgram, Begins, BeginsWithin, Stops, IsUnexpected, IsTooNested}
use Rattle.script_parser.specs.Steps.{Unexpected, TooNested, Outcome}
use Rattle.script_parser.specs.Parser.{program}
use Rattle.script_parser.proofs.Mono.{mono_program}

-- of two fronts of a list one goes on to the other
abbrev Longer : Toks → Toks → Toks → Toks → Type 0
Longer a r b s = (t : Tok) × (x : Toks) × (b ≡ a ++ t ∷ x) × (r ≡ t ∷ (x ++ s))

split : (a r b s : Toks) → a ++ r ≡ b ++ s → Longer a r b s ⊎ (Longer b s a r ⊎ ((a ≡ b) × (r ≡ s)))
split [] r [] s e = inr (inr (refl, e))
split [] r (t ∷ b) s e = inl (t, b, refl, e)
split (t ∷ a) r [] s e = inr (inl (t, a, refl, sym e))
split (t ∷ a) r (u ∷ b) s e = go same (split a r b s rest)
  where
    same : t ≡ u
    same = cc

    rest : a ++ r ≡ b ++ s
    rest = cc

    go : t ≡ u → Longer a r b s ⊎ (Longer b s a r ⊎ ((a ≡ b) × (r ≡ s))) → Longer (t ∷ a) r (u ∷ b) s ⊎ (Longer (u ∷ b) s (t ∷ a) r ⊎ ((t ∷ a ≡ u ∷ b) × (r ≡ s)))
    go q (inl l) = inl (l.0, l.1, rw (q, l.2) refl, l.3)
    go q (inr (inl l)) = inr (inl (l.0, l.1, rw (q, l.2) refl, l.3))
    go q (inr (inr l)) = inr (inr (rw (q, l.0) refl, l.1))

begins_front : (a b : Toks) → Begins (a ++ b) → Begins a
begins_front a b h = (b ++ h.0, h.1, sym (append_assoc a b h.0) ∙ h.2, h.3)

begun : (d : ℕ) (a : Toks) → BeginsWithin d a → Begins a
begun d a h = (h.0, h.1, h.2, h.3)

-- no program goes on behind an unexpected token
not_past : (front r : Toks) (t : Tok) (y x : Toks) → Stops front r → r ≡ t ∷ y → Begins (front ++ t ∷ x) → ⊥
not_past front r t y x s e b = let stops = subst (λ (r : Toks). Stops front r) e s in stops (begins_front (front ++ t ∷ []) x (subst Begins (sym (append_assoc front (t ∷ []) x)) b))

not_both : (b : Bool) → b ≡ true → b ≡ false → ⊥
not_both true h k = absurd cc
not_both false h k = absurd cc

-- nor within the levels behind one that opens a level too many
too_far : (d : ℕ) (ts r : Toks) (n : IsTooNested d ts r) (t : Tok) (y x : Toks) → r ≡ t ∷ y → BeginsWithin d (n.front ++ t ∷ x) → ⊥
too_far d ts r n t y x e b =
    let first : t ∷ y ≡ n.next ∷ n.left = sym e ∙ n.head in
    let same : t ≡ n.next = cc in
    let whole : n.front ++ n.next ∷ (x ++ b.0) ≡ spell_program b.1 = rw (← same) (sym (append_assoc n.front (t ∷ x) b.0) ∙ b.2) in
    let size : suc (length n.front) ≤ length (n.front ++ t ∷ x) = omega (arith, length-append n.front (t ∷ x)) in
    not_both (within_program b.1 d (suc (length n.front))) (mono_program b.1 d (suc (length n.front)) (length (n.front ++ t ∷ x)) size b.4) (n.opens (x ++ b.0) b.1 whole b.3)

-- the two faults of a list rule each other out
clash : (d : ℕ) (ts r s : Toks) → IsUnexpected d ts r → IsTooNested d ts s → ⊥
clash d ts r s u n = go (split u.front r n.front s (sym u.splits ∙ n.splits))
  where
    go : Longer u.front r n.front s ⊎ (Longer n.front s u.front r ⊎ ((u.front ≡ n.front) × (r ≡ s))) → ⊥
    go (inl l) = not_past u.front r l.0 (l.1 ++ s) l.1 u.stops l.3 (subst Begins l.2 (begun d n.front n.begins))
    go (inr (inl l)) = too_far d ts s n l.0 (l.1 ++ r) l.1 l.3 (subst (λ (a : Toks). BeginsWithin d a) l.2 u.begins)
    go (inr (inr l)) = not_past u.front r n.next n.left [] u.stops (l.1 ∙ n.head) (subst (λ (a : Toks). Begins (a ++ n.next ∷ [])) (sym l.0) n.goes_on)

one_unexpected : (d : ℕ) (ts r s : Toks) → IsUnexpected d ts r → IsUnexpected d ts s → r ≡ s
one_unexpected d ts r s u v = go (split u.front r v.front s (sym u.splits ∙ v.splits))
  where
    go : Longer u.front r v.front s ⊎ (Longer v.front s u.front r ⊎ ((u.front ≡ v.front) × (r ≡ s))) → r ≡ s
    go (inl l) = absurd (not_past u.front r l.0 (l.1 ++ s) l.1 u.stops l.3 (subst Begins l.2 (begun d v.front v.begins)))
    go (inr (inl l)) = absurd (not_past v.front s l.0 (l.1 ++ r) l.1 v.stops l.3 (subst Begins l.2 (begun d u.front u.begins)))
    go (inr (inr l)) = l.1

one_nested : (d : ℕ) (ts r s : Toks) → IsTooNested d ts r → IsTooNested d ts s → r ≡ s
one_nested d ts r s u v = go (split u.front r v.front s (sym u.splits ∙ v.splits))
  where
    go : Longer u.front r v.front s ⊎ (Longer v.front s u.front r ⊎ ((u.front ≡ v.front) × (r ≡ s))) → r ≡ s
    go (inl l) = absurd (too_far d ts r u l.0 (l.1 ++ s) l.1 l.3 (subst (λ (a : Toks). BeginsWithin d a) l.2 v.begins))
    go (inr (inl l)) = absurd (too_far d ts s v l.0 (l.1 ++ r) l.1 l.3 (subst (λ (a : Toks). BeginsWithin d a) l.2 u.begins))
    go (inr (inr l)) = l.1

-- a program has no fault
no_unexpected : (d : ℕ) (ts r : Toks) (p : Program) → IsProgram d ts p → IsUnexpected d ts r → ⊥
no_unexpected d ts r p h u = go r u.splits u.stops
  where
    go : (r : Toks) → ts ≡ u.front ++ r → Stops u.front r → ⊥
    go [] e s = s p (sym (e ∙ append-nil u.front) ∙ h.spelled) h.right
    go (t ∷ y) e s = not_past u.front (t ∷ y) t y y s refl ([], p, append-nil (u.front ++ t ∷ y) ∙ sym e ∙ h.spelled, h.right)

no_nested : (d : ℕ) (ts r : Toks) (p : Program) → IsProgram d ts p → IsTooNested d ts r → ⊥
no_nested d ts r p h n =
    let whole : n.front ++ n.next ∷ n.left ≡ spell_program p = sym (n.splits ∙ ap (λ (r : Toks). n.front ++ r) n.head) ∙ h.spelled in
    not_both (within_program p d (suc (length n.front))) (h.levels (suc (length n.front))) (n.opens n.left p whole h.right)

-- so the parser stops at each fault that there is
pub stops_unexpected : (d : ℕ) (ts r : Toks) → ((p : Program) (rest : Toks) → program d ts ≡ Ok (p, rest) → IsProgram d ts p) → ((s : Toks) → program d ts ≡ Err (Unexpected, s) → IsUnexpected d ts s) → ((s : Toks) → program d ts ≡ Err (TooNested, s) → IsTooNested d ts s)
    → IsUnexpected d ts r → program d ts ≡ Err (Unexpected, r)
stops_unexpected d ts r read unexpected nested u = go (program d ts) refl
  where
    go : (o : Outcome Program) → program d ts ≡ o → o ≡ Err (Unexpected, r)
    go (Ok q) e = absurd (no_unexpected d ts r q.0 (read q.0 q.1 e) u)
    go (Err (Unexpected, s)) e = ap (λ (w : Toks). Err (Unexpected, w)) (one_unexpected d ts s r (unexpected s e) u)
    go (Err (TooNested, s)) e = absurd (clash d ts r s u (nested s e))

pub stops_nested : (d : ℕ) (ts r : Toks) → ((p : Program) (rest : Toks) → program d ts ≡ Ok (p, rest) → IsProgram d ts p) → ((s : Toks) → program d ts ≡ Err (Unexpected, s) → IsUnexpected d ts s) → ((s : Toks) → program d ts ≡ Err (TooNested, s) → IsTooNested d ts s)
    → IsTooNested d ts r → program d ts ≡ Err (TooNested, r)
stops_nested d ts r read unexpected nested n = go (program d ts) refl
  where
    go : (o : Outcome Program) → program d ts ≡ o → o ≡ Err (TooNested, r)
    go (Ok q) e = absurd (no_nested d ts r q.0 (read q.0 q.1 e) n)
    go (Err (Unexpected, s)) e = absurd (clash d ts s r (unexpected s e) n)
    go (Err (TooNested, s)) e = ap (λ (w : Toks). Err (TooNested, w)) (one_nested d ts s r (nested s e) n)
