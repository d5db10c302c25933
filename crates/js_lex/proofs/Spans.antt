-- One byte of a text.
use Rattle.std.proofs.Common.{◌≡◌, ℕ, ◌+◌, ◌<◌, ◌≤◌, true, false, List, [], ◌∷◌, ◌++◌, length, drop, Option, Some, None, refl, sym, ◌∙◌, arith, length-append, drop-cons, add-one, slice_index_or}
use Rattle.std.proofs.lemmas.List.{drop_all}
use Rattle.std.specs.Prelude.{nat_lt}
use Rattle.script_text.specs.Lexical.{longest_text}
use Rattle.script_text.specs.Texts.{Found, Step, Closed, Refused, Adds, text_step, text_in, before}
use Rattle.script_text.specs.declared.token.Inside.{Inside}
use Rattle.js_lex.specs.declared.text.Step.TheVariants as counted
use Rattle.std.proofs.lemmas.Bool.Decides.{nat_tests}
use Rattle.js_lex.specs.Steps.{counted_step, span}

span_before : (v s : ℕ) (bytes : List ℕ) (f : Option Found) → span v s (before bytes f) ≡ span (v + length bytes) (s + 1) f
span_before v s bytes None = refl
span_before v s bytes (Some f) =
    let long : v + length (bytes ++ f.value) ≡ v + length bytes + length f.value = omega (arith, length-append bytes f.value) in
    let size : s + (f.size + 1) ≡ s + 1 + f.size = omega arith in
    rw (long, size) refl

-- what a step does
by_step : ℕ → ℕ → Step → (Inside → Option Found) → Option ℕ
by_step v s Closed go = span v s (Some (record { value = []; size = 1 }))
by_step v s Refused go = None
by_step v s (Adds bytes next) go = span (v + length bytes) (s + 1) (go next)

text_cons : (q : ℕ) (state : Inside) (b : ℕ) (rest : List ℕ) (v s : ℕ) → span v s (text_in q state (b ∷ rest)) ≡ by_step v s (text_step q state b) (λ next. text_in q next rest)
unfolding text_in by_step
text_cons q state b rest v s = go (text_step q state b)
  where
    go : (st : Step) → span v s (elim st [ Closed ↦ Some (record { value = []; size = 1 }) | Refused ↦ None | Adds bytes next ↦ before bytes (text_in q next rest) ]) ≡ by_step v s st (λ next. text_in q next rest)
    go Closed = refl
    go Refused = refl
    go (Adds bytes next) = span_before v s bytes (text_in q next rest)

text_end : (q v s : ℕ) (state : Inside) → span v s (text_in q state []) ≡ None
unfolding text_in
text_end q v s state = refl

long_from : (v s : ℕ) (f : Option Found) → longest_text < v → span v s f ≡ None
long_from v s None h = refl
long_from v s (Some f) h = let e : nat_lt longest_text (v + length f.value) ≡ true = grind (arith, nat_tests) in rw e refl

text_long : (q v s : ℕ) (state : Inside) (bytes : List ℕ) → longest_text < v → span v s (text_in q state bytes) ≡ None
text_long q v s state bytes h = long_from v s (text_in q state bytes) h

text_closed : (q v s b : ℕ) (state : Inside) (rest : List ℕ) → v ≤ longest_text → counted_step (text_step q state b) ≡ counted.Closed → span v s (text_in q state (b ∷ rest)) ≡ Some (s + 1)
unfolding by_step
text_closed q v s b state rest h e = text_cons q state b rest v s ∙ go (text_step q state b) e
  where
    go : (st : Step) → counted_step st ≡ counted.Closed → by_step v s st (λ next. text_in q next rest) ≡ Some (s + 1)
    go Closed e = let f : nat_lt longest_text (v + 0) ≡ false = grind (arith, nat_tests) in rw f refl
    go Refused e = absurd cc
    go (Adds bytes next) e = absurd cc

text_refused : (q v s b : ℕ) (state : Inside) (rest : List ℕ) → counted_step (text_step q state b) ≡ counted.Refused → span v s (text_in q state (b ∷ rest)) ≡ None
unfolding by_step
text_refused q v s b state rest e = text_cons q state b rest v s ∙ go (text_step q state b) e
  where
    go : (st : Step) → counted_step st ≡ counted.Refused → by_step v s st (λ next. text_in q next rest) ≡ None
    go Closed e = absurd cc
    go Refused e = refl
    go (Adds bytes next) e = absurd cc

adds_same : (n m : ℕ) (a b : Inside) → counted.Adds n a ≡ counted.Adds m b → (n ≡ m) × (a ≡ b)
adds_same n m a b e = (cc, cc)

text_adds : (q v s b n : ℕ) (state next : Inside) (rest : List ℕ) → counted_step (text_step q state b) ≡ counted.Adds n next → span v s (text_in q state (b ∷ rest)) ≡ span (v + n) (s + 1) (text_in q next rest)
unfolding by_step
text_adds q v s b n state next rest e = text_cons q state b rest v s ∙ go (text_step q state b) e
  where
    go : (st : Step) → counted_step st ≡ counted.Adds n next → by_step v s st (λ next. text_in q next rest) ≡ span (v + n) (s + 1) (text_in q next rest)
    go Closed e = absurd cc
    go Refused e = absurd cc
    go (Adds bytes more) e = let same = adds_same (length bytes) n more next e in rw (same.0, same.1) refl

-- the same at a place of the bytes
here : (bytes : List ℕ) (at : ℕ) → at < length bytes → drop at bytes ≡ slice_index_or bytes at 0 ∷ drop (at + 1) bytes
here bytes at h = rw (add-one, drop-cons bytes at 0) refl

pub at_closed : (q v at : ℕ) (state : Inside) (bytes : List ℕ) → at < length bytes → v ≤ longest_text → counted.Closed ≡ counted_step (text_step q state (slice_index_or bytes at 0)) → span v at (text_in q state (drop at bytes)) ≡ Some (at + 1)
at_closed q v at state bytes h l e = rw (here bytes at h) (text_closed q v at (slice_index_or bytes at 0) state (drop (at + 1) bytes) l (sym e))

pub at_refused : (q v at : ℕ) (state : Inside) (bytes : List ℕ) → at < length bytes → counted.Refused ≡ counted_step (text_step q state (slice_index_or bytes at 0)) → span v at (text_in q state (drop at bytes)) ≡ None
at_refused q v at state bytes h e = rw (here bytes at h) (text_refused q v at (slice_index_or bytes at 0) state (drop (at + 1) bytes) (sym e))

pub at_adds : (q v at n : ℕ) (state next : Inside) (bytes : List ℕ) → at < length bytes → counted.Adds n next ≡ counted_step (text_step q state (slice_index_or bytes at 0)) → span v at (text_in q state (drop at bytes)) ≡ span (v + n) (at + 1) (text_in q next (drop (at + 1) bytes))
at_adds q v at n state next bytes h e = rw (here bytes at h) (text_adds q v at (slice_index_or bytes at 0) n state next (drop (at + 1) bytes) (sym e))

pub at_end : (q v at : ℕ) (state : Inside) (bytes : List ℕ) → length bytes ≤ at → span v at (text_in q state (drop at bytes)) ≡ None
at_end q v at state bytes h = rw (drop_all at bytes h) (text_end q v at state)

pub at_long : (q v at n : ℕ) (state next : Inside) (bytes : List ℕ) → at < length bytes → counted.Adds n next ≡ counted_step (text_step q state (slice_index_or bytes at 0)) → longest_text < v + n → span v at (text_in q state (drop at bytes)) ≡ None
at_long q v at n state next bytes h e l = at_adds q v at n state next bytes h e ∙ text_long q (v + n) (at + 1) next (drop (at + 1) bytes) l
