-- What the rules for reducers do, and that the faults of the whole are those of the grammar.
use Rattle.std.proofs.Common.{suc, ◌≡◌, ◌≢◌, ℕ, ◌+◌, ◌-◌, ◌<◌, ◌≤◌, List, [], ◌∷◌, ◌++◌, length, drop, Ok, Err, refl, sym, ap, subst, ◌∙◌, arith, ◌⊎◌, inl, inr, add-one, drop-cons, slice_index_or}
use Rattle.std.proofs.lemmas.List.{drop_all}
use Rattle.std.proofs.Common.{length-drop}
use Rattle.script_text.specs.declared.sign.Sign.TheVariants.{OpenRound, CloseRound, OpenBrace, CloseBrace}
use Rattle.script_text.specs.declared.word.Reserved.TheVariants as kept
use Rattle.script_text.specs.declared.token.Token.{Token}
use Rattle.script_grammar.specs.Tokens.{Toks, seen_from}
use Rattle.script_grammar.specs.Sources.{levels, toks, offset_of, Spells, UnexpectedAt, TooNestedAt}
use Rattle.script_grammar.specs.Trees.{Items, Params, Function, Program, NoReducers, ThenReducer}
use Rattle.script_grammar.specs.Programs.{IsProgram}
use Rattle.script_parser.specs.Steps.{Why, Unexpected, TooNested, Outcome, and_then, ◌>>=◌, pure, take as read, finish}
use Rattle.script_parser.specs.Tests.{fixed, name_of}
use Rattle.script_parser.specs.Parser.{Below, expect, keyword, params, items, reducer_body, reducer, reducers, below, program}
use Rattle.script_parser.proofs.Accept.{under}
use Rattle.script_parser.proofs.Statements.{good_below, reducers_is}
use Rattle.script_parser.proofs.Exact.{exact}
use Rattle.script_tree.specs.declared.Reducer.{Reducer}
use Rattle.script_tree.specs.View.{reducer_of, program_of}
use Rattle.js_syntax.specs.Statements.{items_at}
use Rattle.js_syntax.specs.Reducers.{params_at, body_at, reducer_at, reducers_at, reducers_before, onto_reducers}
use Rattle.js_expr.specs.declared.source.Stop.{Stop}
use Rattle.js_expr.specs.declared.source.Stop.TheVariants as stop
use Rattle.js_syntax.specs.declared.fault.SyntaxFault.{SyntaxFault}
use Rattle.js_syntax.specs.declared.fault.SyntaxFault.TheVariants as fault
use Rattle.js_expr.specs.Reading.{Fails}
use Rattle.js_syntax.specs.Faults.{IsCause, fault_of}
use Rattle.js_expr.proofs.Rules.{within}
use Rattle.js_expr.proofs.Seen.{toks_here, toks_end, or_more, some_token}

-- ---- one reducer
body_split : (n : ℕ × List ℕ) (d : ℕ) (ts : Toks) → reducer_body n (under d) ts ≡ (params_at >>= λ ps. body_at d >>= λ is. pure (Function n.0 n.1 ps is)) ts
unfolding items_at
body_split n d ts = one (expect OpenRound ts)
  where
    six : (ps : Params) (is : Items) (o : Outcome (Unit {0})) → and_then o (λ _. pure (Function n.0 n.1 ps is)) ≡ and_then (and_then o (λ _. pure is)) (λ is. pure (Function n.0 n.1 ps is))
    six ps is (Ok q) = refl
    six ps is (Err x) = refl

    five : (ps : Params) (o : Outcome Items) → and_then o (λ is. expect CloseBrace >>= λ _. pure (Function n.0 n.1 ps is)) ≡ and_then (and_then o (λ is. expect CloseBrace >>= λ _. pure is)) (λ is. pure (Function n.0 n.1 ps is))
    five ps (Ok q) = six ps q.0 (expect CloseBrace q.1)
    five ps (Err x) = refl

    four : (ps : Params) (o : Outcome (Unit {0})) → and_then o (λ _. items (under d) >>= λ is. expect CloseBrace >>= λ _. pure (Function n.0 n.1 ps is)) ≡ and_then (and_then o (λ _. items_at d >>= λ is. expect CloseBrace >>= λ _. pure is)) (λ is. pure (Function n.0 n.1 ps is))
    four ps (Ok q) = five ps (items (under d) q.1)
    four ps (Err x) = refl

    three : (ps : Params) (o : Outcome (Unit {0})) → and_then o (λ _. expect OpenBrace >>= λ _. items (under d) >>= λ is. expect CloseBrace >>= λ _. pure (Function n.0 n.1 ps is)) ≡ and_then (and_then o (λ _. pure ps)) (λ ps. body_at d >>= λ is. pure (Function n.0 n.1 ps is))
    three ps (Ok q) = four ps (expect OpenBrace q.1)
    three ps (Err x) = refl

    two : (o : Outcome Params) → and_then o (λ ps. expect CloseRound >>= λ _. expect OpenBrace >>= λ _. items (under d) >>= λ is. expect CloseBrace >>= λ _. pure (Function n.0 n.1 ps is)) ≡ and_then (and_then o (λ ps. expect CloseRound >>= λ _. pure ps)) (λ ps. body_at d >>= λ is. pure (Function n.0 n.1 ps is))
    two (Ok q) = three q.0 (expect CloseRound q.1)
    two (Err x) = refl

    one : (o : Outcome (Unit {0})) → and_then o (λ _. params >>= λ ps. expect CloseRound >>= λ _. expect OpenBrace >>= λ _. items (under d) >>= λ is. expect CloseBrace >>= λ _. pure (Function n.0 n.1 ps is)) ≡ and_then (and_then o (λ _. params >>= λ ps. expect CloseRound >>= λ _. pure ps)) (λ ps. body_at d >>= λ is. pure (Function n.0 n.1 ps is))
    one (Ok q) = two (params q.1)
    one (Err x) = refl

pub reducer_in : (d : ℕ) (ts : Toks) → d ≢ 0 → reducer_at d ts ≡ (keyword kept.Function >>= λ _. read name_of >>= λ n. params_at >>= λ ps. body_at (d - 1) >>= λ is. pure (Function n.0 n.1 ps is)) ts
unfolding reducer_at
reducer_in d ts h = word (keyword kept.Function ts)
  where
    name : (o : Outcome (ℕ × List ℕ)) → and_then o (λ n. Rattle.script_parser.specs.Parser.opened (below d) (fixed OpenRound) (reducer_body n)) ≡ and_then o (λ n. params_at >>= λ ps. body_at (d - 1) >>= λ is. pure (Function n.0 n.1 ps is))
    name (Ok q) = within (fixed OpenRound) (reducer_body q.0) d q.1 h ∙ body_split q.0 (d - 1) q.1
    name (Err x) = refl

    word : (o : Outcome (Unit {0})) → and_then o (λ _. read name_of >>= λ n. Rattle.script_parser.specs.Parser.opened (below d) (fixed OpenRound) (reducer_body n)) ≡ and_then o (λ _. read name_of >>= λ n. params_at >>= λ ps. body_at (d - 1) >>= λ is. pure (Function n.0 n.1 ps is))
    word (Ok q) = name (read name_of q.1)
    word (Err x) = refl

-- ---- the reducers
reducers_more : (found : List Reducer) (r : Reducer) (out : Outcome Program) → onto_reducers found (and_then out (λ rs. pure (ThenReducer (reducer_of r) rs))) ≡ onto_reducers (found ++ r ∷ []) out
reducers_more found r (Err x) = refl
reducers_more found r (Ok q) = ap (λ (rs : Program). Ok (rs, q.1)) (go found)
  where
    go : (found : List Reducer) → reducers_before found (ThenReducer (reducer_of r) q.0) ≡ reducers_before (found ++ r ∷ []) q.0
    go [] = refl
    go (m ∷ ms) = ap (ThenReducer (reducer_of m)) (go ms)

pub reducers_start : (out : Outcome Program) → onto_reducers [] out ≡ out
reducers_start (Ok q) = refl
reducers_start (Err e) = refl

program_before : (rs : List Reducer) → reducers_before rs NoReducers ≡ program_of rs
program_before [] = refl
program_before (r ∷ rs) = ap (ThenReducer (reducer_of r)) (program_before rs)

pub reducers_end : (d : ℕ) (bytes : List ℕ) (tokens : List Token) (at : ℕ) (found : List Reducer) → length tokens ≤ at → onto_reducers found (reducers_at d (toks bytes tokens at)) ≡ Ok (program_of found, [])
unfolding reducers_at
reducers_end d bytes tokens at found h = rw (toks_end bytes tokens at h, reducers_is d (below d) (good_below d) [], program_before found) refl

reducers_go : (d : ℕ) (bytes : List ℕ) (tokens : List Token) (at : ℕ) → at < length tokens → reducers_at d (toks bytes tokens at) ≡ and_then (reducer_at d (toks bytes tokens at)) (λ r. reducers_at d >>= λ rs. pure (ThenReducer r rs))
unfolding reducers_at reducer_at
reducers_go d bytes tokens at h = let t = some_token tokens at h in rw (toks_here bytes tokens at t h) (reducers_is d (below d) (good_below d) _)

pub reducers_on : (d : ℕ) (bytes : List ℕ) (tokens : List Token) (at next : ℕ) (r : Reducer) (found : List Reducer) → at < length tokens → reducer_at d (toks bytes tokens at) ≡ Ok (reducer_of r, toks bytes tokens next) → onto_reducers found (reducers_at d (toks bytes tokens at)) ≡ onto_reducers (found ++ r ∷ []) (reducers_at d (toks bytes tokens next))
reducers_on d bytes tokens at next r found h c = ap (onto_reducers found) (reducers_go d bytes tokens at h ∙ rw c refl) ∙ reducers_more found r (reducers_at d (toks bytes tokens next))

pub reducers_fault : (d : ℕ) (bytes : List ℕ) (tokens : List Token) (at : ℕ) (x : Why × Toks) (found : List Reducer) → at < length tokens → reducer_at d (toks bytes tokens at) ≡ Err x → onto_reducers found (reducers_at d (toks bytes tokens at)) ≡ Err x
reducers_fault d bytes tokens at x found h c = let whole : reducers_at d (toks bytes tokens at) ≡ Err x = reducers_go d bytes tokens at h ∙ rw c refl in ap (onto_reducers found) whole

-- ---- the program
program_read : (d : ℕ) (ts : Toks) (p : Program) → reducers_at d ts ≡ Ok (p, []) → program d ts ≡ Ok (p, [])
unfolding program reducers_at finish
program_read d ts p h = rw h refl

program_fault : (d : ℕ) (ts : Toks) (x : Why × Toks) → reducers_at d ts ≡ Err x → program d ts ≡ Err x
unfolding program reducers_at
program_fault d ts x h = rw h refl

pub spells : (bytes : List ℕ) (tokens : List Token) (p : Program) → reducers_at levels (toks bytes tokens 0) ≡ Ok (p, []) → Spells bytes tokens p
spells bytes tokens p h = (exact levels (toks bytes tokens 0)).read p [] (program_read levels (toks bytes tokens 0) p h)

one_outcome : (o : Outcome Program) (a b : Program × Toks) → o ≡ Ok a → o ≡ Ok b → a ≡ b
one_outcome o a b h k = cc

not_both : (o : Outcome Program) (a : Program × Toks) (x : Why × Toks) → o ≡ Ok a → o ≡ Err x → ⊥
not_both o a x h k = absurd cc

pub only_this : (bytes : List ℕ) (tokens : List Token) (p q : Program) → Spells bytes tokens q → reducers_at levels (toks bytes tokens 0) ≡ Ok (p, []) → p ≡ q
only_this bytes tokens p q s h = ap (λ (w : Program × Toks). w.0) (one_outcome (program levels (toks bytes tokens 0)) (p, []) (q, []) (program_read levels (toks bytes tokens 0) p h) ((exact levels (toks bytes tokens 0)).only q s))

no_fault : (bytes : List ℕ) (tokens : List Token) (q : Program) (x : Why × Toks) → Spells bytes tokens q → reducers_at levels (toks bytes tokens 0) ≡ Err x → ⊥
no_fault bytes tokens q x s h = not_both (program levels (toks bytes tokens 0)) (q, []) x ((exact levels (toks bytes tokens 0)).only q s) (program_fault levels (toks bytes tokens 0) x h)

-- a place behind the last token is the last place
place : (bytes : List ℕ) (tokens : List Token) (k : ℕ) → (j : ℕ) × (j ≤ length tokens) × (offset_of bytes tokens k ≡ offset_of bytes tokens j) × (toks bytes tokens k ≡ toks bytes tokens j)
place bytes tokens k = go (or_more k (length tokens))
  where
    go : (k < length tokens) ⊎ (length tokens ≤ k) → (j : ℕ) × (j ≤ length tokens) × (offset_of bytes tokens k ≡ offset_of bytes tokens j) × (toks bytes tokens k ≡ toks bytes tokens j)
    go (inl l) = (k, omega (arith, l), refl, refl)
    go (inr m) = (length tokens, omega arith, rw (drop_all k tokens m, drop_all (length tokens) tokens (omega arith)) refl, toks_end bytes tokens k m ∙ sym (toks_end bytes tokens (length tokens) (omega arith)))

unexpected_at : (bytes : List ℕ) (tokens : List Token) (k : ℕ) → reducers_at levels (toks bytes tokens 0) ≡ Err (Unexpected, toks bytes tokens k) → UnexpectedAt bytes tokens (offset_of bytes tokens k)
unexpected_at bytes tokens k h =
    let p = place bytes tokens k in
    record { token = p.0; within = p.1; begins = p.2; first = subst (λ (w : Toks). Rattle.script_grammar.specs.Programs.IsUnexpected levels (toks bytes tokens 0) w) p.3 ((exact levels (toks bytes tokens 0)).unexpected (toks bytes tokens k) (program_fault levels (toks bytes tokens 0) (Unexpected, toks bytes tokens k) h)) }

nested_at : (bytes : List ℕ) (tokens : List Token) (k : ℕ) → reducers_at levels (toks bytes tokens 0) ≡ Err (TooNested, toks bytes tokens k) → TooNestedAt bytes tokens (offset_of bytes tokens k)
nested_at bytes tokens k h =
    let p = place bytes tokens k in
    record { token = p.0; within = p.1; begins = p.2; first = subst (λ (w : Toks). Rattle.script_grammar.specs.Programs.IsTooNested levels (toks bytes tokens 0) w) p.3 ((exact levels (toks bytes tokens 0)).nested (toks bytes tokens k) (program_fault levels (toks bytes tokens 0) (TooNested, toks bytes tokens k) h)) }

-- ---- faults
pub offset_here : (bytes : List ℕ) (tokens : List Token) (at : ℕ) (t : Token) → at < length tokens → offset_of bytes tokens at ≡ (slice_index_or tokens at t).start
offset_here bytes tokens at t l = let e : drop at tokens ≡ slice_index_or tokens at t ∷ drop (at + 1) tokens = rw (add-one, drop-cons tokens at t) refl in rw e refl

pub offset_end : (bytes : List ℕ) (tokens : List Token) (at : ℕ) → length tokens ≤ at → offset_of bytes tokens at ≡ length bytes
offset_end bytes tokens at l = rw (drop_all at tokens l) refl

pub caused : (bytes : List ℕ) (tokens : List Token) (s : Stop) → Fails bytes tokens s (reducers_at levels (toks bytes tokens 0)) → IsCause bytes tokens (fault_of bytes tokens s)
caused bytes tokens (stop.Unexpected k) h = unexpected_at bytes tokens k h
caused bytes tokens (stop.TooNested k) h = nested_at bytes tokens k h
caused bytes tokens stop.Memory h = tt

-- a place is told by the tokens from it on
toks_length : (bytes : List ℕ) (k : ℕ) (ts : List Token) → length (seen_from bytes k ts) ≡ length ts
unfolding seen_from
toks_length bytes k [] = refl
toks_length bytes k (t ∷ ts) = ap suc (toks_length bytes (k + 1) ts)

same_place : (bytes : List ℕ) (tokens : List Token) (j k : ℕ) → j ≤ length tokens → toks bytes tokens j ≡ toks bytes tokens k → offset_of bytes tokens j ≡ offset_of bytes tokens k
same_place bytes tokens j k l e =
    let p = place bytes tokens k in
    let sizes : length (drop j tokens) ≡ length (drop p.0 tokens) = sym (toks_length bytes j (drop j tokens)) ∙ ap (λ (w : Toks). length w) (e ∙ p.3) ∙ toks_length bytes p.0 (drop p.0 tokens) in
    let same : j ≡ p.0 = omega (arith, l, p.1, sizes, length-drop j tokens, length-drop p.0 tokens) in
    ap (λ (i : ℕ). offset_of bytes tokens i) same ∙ sym p.2

one_fault : (o : Outcome Program) (x y : Why × Toks) → o ≡ Err x → o ≡ Err y → x ≡ y
one_fault o x y h k = cc

apart : Unexpected ≡ TooNested → ⊥
apart e = cc

pub fault_none : (bytes : List ℕ) (tokens : List Token) (p : Program) (f : SyntaxFault) → f ≢ fault.Memory → IsCause bytes tokens f → reducers_at levels (toks bytes tokens 0) ≡ Ok (p, []) → ⊥
fault_none bytes tokens p (fault.Unexpected at) n f h = not_both (program levels (toks bytes tokens 0)) (p, []) (Unexpected, toks bytes tokens f.token) (program_read levels (toks bytes tokens 0) p h) ((exact levels (toks bytes tokens 0)).unexpected_only (toks bytes tokens f.token) f.first)
fault_none bytes tokens p (fault.TooNested at) n f h = not_both (program levels (toks bytes tokens 0)) (p, []) (TooNested, toks bytes tokens f.token) (program_read levels (toks bytes tokens 0) p h) ((exact levels (toks bytes tokens 0)).nested_only (toks bytes tokens f.token) f.first)
fault_none bytes tokens p fault.Memory n f h = n refl

pub fault_same : (bytes : List ℕ) (tokens : List Token) (s : Stop) (f : SyntaxFault) → f ≢ fault.Memory → IsCause bytes tokens f → Fails bytes tokens s (reducers_at levels (toks bytes tokens 0)) → fault_of bytes tokens s ≢ fault.Memory → fault_of bytes tokens s ≡ f
fault_same bytes tokens s fault.Memory n f h m = absurd (n refl)
fault_same bytes tokens stop.Memory (fault.Unexpected at) n f h m = absurd (m refl)
fault_same bytes tokens stop.Memory (fault.TooNested at) n f h m = absurd (m refl)
fault_same bytes tokens (stop.Unexpected k) (fault.Unexpected at) n f h m =
    let e = one_fault (program levels (toks bytes tokens 0)) (Unexpected, toks bytes tokens f.token) (Unexpected, toks bytes tokens k) ((exact levels (toks bytes tokens 0)).unexpected_only (toks bytes tokens f.token) f.first) (program_fault levels (toks bytes tokens 0) (Unexpected, toks bytes tokens k) h) in
    ap fault.Unexpected (sym (f.begins ∙ same_place bytes tokens f.token k f.within (ap (λ (w : Why × Toks). w.1) e)))
fault_same bytes tokens (stop.TooNested k) (fault.TooNested at) n f h m =
    let e = one_fault (program levels (toks bytes tokens 0)) (TooNested, toks bytes tokens f.token) (TooNested, toks bytes tokens k) ((exact levels (toks bytes tokens 0)).nested_only (toks bytes tokens f.token) f.first) (program_fault levels (toks bytes tokens 0) (TooNested, toks bytes tokens k) h) in
    ap fault.TooNested (sym (f.begins ∙ same_place bytes tokens f.token k f.within (ap (λ (w : Why × Toks). w.1) e)))
fault_same bytes tokens (stop.TooNested k) (fault.Unexpected at) n f h m =
    let e = one_fault (program levels (toks bytes tokens 0)) (Unexpected, toks bytes tokens f.token) (TooNested, toks bytes tokens k) ((exact levels (toks bytes tokens 0)).unexpected_only (toks bytes tokens f.token) f.first) (program_fault levels (toks bytes tokens 0) (TooNested, toks bytes tokens k) h) in
    absurd (apart (ap (λ (w : Why × Toks). w.0) e))
fault_same bytes tokens (stop.Unexpected k) (fault.TooNested at) n f h m =
    let e = one_fault (program levels (toks bytes tokens 0)) (TooNested, toks bytes tokens f.token) (Unexpected, toks bytes tokens k) ((exact levels (toks bytes tokens 0)).nested_only (toks bytes tokens f.token) f.first) (program_fault levels (toks bytes tokens 0) (Unexpected, toks bytes tokens k) h) in
    absurd (apart (sym (ap (λ (w : Why × Toks). w.0) e)))

pub only_memory : (bytes : List ℕ) (tokens : List Token) (q : Program) (s : Stop) → Spells bytes tokens q → Fails bytes tokens s (reducers_at levels (toks bytes tokens 0)) → fault_of bytes tokens s ≡ fault.Memory
only_memory bytes tokens q (stop.Unexpected k) p h = absurd (no_fault bytes tokens q (Unexpected, toks bytes tokens k) p h)
only_memory bytes tokens q (stop.TooNested k) p h = absurd (no_fault bytes tokens q (TooNested, toks bytes tokens k) p h)
only_memory bytes tokens q stop.Memory p h = refl
