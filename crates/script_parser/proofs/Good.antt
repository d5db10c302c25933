-- What holds of each step of the parser, and is kept where steps are put together.
use Rattle.std.proofs.Common.{◌≡◌, ℕ, zero, suc, ◌+◌, ◌-◌, ◌<◌, ◌≤◌, [], ◌∷◌, ◌++◌, length, Option, Some, None, Ok, Err, refl, sym, ap, subst, ◌∙◌, append_assoc, arith, ◌⊎◌, inl, inr, length-append}
use Rattle.script_grammar.specs.Tokens.{Tok, Toks}
use Rattle.script_parser.specs.Steps.{Why, Unexpected, TooNested, Outcome, Parser, and_then, ◌>>=◌, pure, fail, taken, take, refused, too_deep, first, look, again_from, again, finish}

-- Which tokens are read as which value, where the first n of them open no level too many.
abbrev pub Lang : Type 0 → Type 1
Lang A = ℕ → A → Toks → Type 0

abbrev pub Example : {A : Type 0} → Lang A → Type 0
Example {A = A} L = (a : A) × (x : Toks) × L 0 a x

-- where the levels are too many, the next token goes on as well
abbrev pub Shown : Why → Toks → Toks → Type 0
Shown Unexpected rest more = Unit {0}
Shown TooNested [] more = ⊥
Shown TooNested (t ∷ rest) more = (m : Toks) × (more ≡ t ∷ m)

shown_more : (w : Why) (rest more z : Toks) → Shown w rest more → Shown w rest (more ++ z)
shown_more Unexpected rest more z h = tt
shown_more TooNested [] more z h = h
shown_more TooNested (t ∷ rest) more z h = (h.0 ++ z, rw h.1 refl)

-- What was read is the front. At a fault the front goes on to something that is read, and opens no level too many.
abbrev pub Judge : {A : Type 0} → Lang A → Toks → Outcome A → Type 0
Judge L ts (Ok p) = (x : Toks) × ((n : ℕ) → L n p.0 x) × (ts ≡ x ++ p.1)
Judge {A = A} L ts (Err e) = (x more : Toks) × (a : A) × (ts ≡ x ++ e.1) × L (length x) a (x ++ more) × Shown e.0 e.1 more

-- Two runs on tokens that end in r and in o: the first goes behind the first token of r, or both end alike.
abbrev pub Alike : {A : Type 0} → Toks → Toks → Outcome A → Outcome A → Type 0
Alike r o (Ok p) out = (length p.1 < length r) ⊎ ((y : Toks) × (p.1 ≡ y ++ r) × (out ≡ Ok (p.0, y ++ o)))
Alike r o (Err e) out = (length e.1 < length r) ⊎ ((y : Toks) × (e.1 ≡ y ++ r) × (out ≡ Err (e.0, y ++ o)))

pub record Good {A : Type 0} (L : Lang A) (p : Parser A) : Type 0 where
  pub some : Example L
  pub judge : (ts : Toks) → Judge L ts (p ts)
  pub alike : (z : Toks) (t : Tok) (r o : Toks) → Alike (t ∷ r) (t ∷ o) (p (z ++ t ∷ r)) (p (z ++ t ∷ o))

-- ---- languages of the steps
abbrev pub Seq : {A B : Type 0} → Lang A → (A → Lang B) → Lang B
Seq {A = A} L M n b ts = (a : A) × (x y : Toks) × L n a x × M a (n - length x) b y × (ts ≡ x ++ y)

abbrev pub Nothing : {A : Type 0} → A → Lang A
Nothing a n b ts = (b ≡ a) × (ts ≡ [])

abbrev pub Taken : {A : Type 0} → (Tok → Option A) → Lang A
Taken f n a ts = (t : Tok) × (f t ≡ Some a) × (ts ≡ t ∷ [])

abbrev pub End : Lang (Unit {0})
End n u ts = ts ≡ []

-- ---- the steps
pub good_pure : {A : Type 0} (a : A) → Good (Nothing a) (pure a)
good_pure a = record {
  some = (a, [], (refl, refl));
  judge = λ ts. ([], (λ n. (refl, refl)), refl);
  alike = λ z t r o. inr (z, refl, refl);
}

pub good_fail : {A : Type 0} (L : Lang A) → Example L → Good L fail
good_fail L s = record {
  some = s;
  judge = λ ts. ([], s.1, s.0, refl, s.2, tt);
  alike = λ z t r o. inr (z, refl, refl);
}

pub good_look : {A : Type 0} (L : Lang A) (f : Option Tok → Parser A) → ((c : Option Tok) → Good L (f c)) → Good L (look f)
good_look L f g = record {
  some = (g None).some;
  judge = λ ts. (g (first ts)).judge ts;
  alike = both;
}
  where
    both : (z : Toks) (t : Tok) (r o : Toks) → Alike (t ∷ r) (t ∷ o) (look f (z ++ t ∷ r)) (look f (z ++ t ∷ o))
    both [] t r o = (g (Some t)).alike [] t r o
    both (a ∷ z) t r o = (g (Some a)).alike (a ∷ z) t r o

pub good_sub : {A : Type 0} (L M : Lang A) (p : Parser A) → ((n : ℕ) (a : A) (ts : Toks) → L n a ts → M n a ts) → Good L p → Good M p
good_sub {A = A} L M p h g = record {
  some = (g.some.0, g.some.1, h 0 _ _ g.some.2);
  judge = λ ts. judged ts (p ts) (g.judge ts);
  alike = g.alike;
}
  where
    judged : (ts : Toks) (out : Outcome A) → Judge L ts out → Judge M ts out
    judged ts (Ok q) j = (j.0, (λ n. h n _ _ (j.1 n)), j.2)
    judged ts (Err e) j = (j.0, j.1, j.2, j.3, h (length j.0) _ _ j.4, j.5)

pub no_longer : (ts : Toks) (x rest : Toks) → ts ≡ x ++ rest → length rest ≤ length ts
no_longer ts x rest e = rw (e, length-append) omega (arith)

-- the tokens of a second part that are counted
pub left_of : (x y : Toks) → length (x ++ y) - length x ≡ length y
left_of x y = omega (arith, length-append x y)

pub none_of : (x y : Toks) → length x - length (x ++ y) ≡ 0
none_of x y = omega (arith, length-append x y)

pub good_bind : {A B : Type 0} (L : Lang A) (M : A → Lang B) (p : Parser A) (f : A → Parser B) → Good L p → ((a : A) → Good (M a) (f a)) → Good (Seq L M) (p >>= f)
good_bind {A = A} {B = B} L M p f g h = record {
  some = let s = g.some in let u = (h s.0).some in let e : 0 - length s.1 ≡ 0 = omega arith in (u.0, s.1 ++ u.1, (s.0, s.1, u.1, s.2, subst (λ (n : ℕ). M s.0 n u.0 u.1) (sym e) u.2, refl));
  judge = λ ts. judged ts (p ts) (g.judge ts);
  alike = λ z t r o. both (t ∷ r) (t ∷ o) (z ++ t ∷ r) (p (z ++ t ∷ r)) (p (z ++ t ∷ o)) t r o refl refl (g.alike z t r o);
}
  where
    second : (ts : Toks) (a : A) (x rest : Toks) → ((n : ℕ) → L n a x) → ts ≡ x ++ rest → (out : Outcome B) → Judge (M a) rest out → Judge (Seq L M) ts out
    second ts a x rest l e (Ok q) j = (x ++ j.0, (λ n. (a, x, j.0, l n, j.1 (n - length x), refl)), e ∙ ap (λ (w : Toks). x ++ w) j.2 ∙ sym (append_assoc x j.0 q.1))
    second ts a x rest l e (Err q) j = (x ++ j.0, j.1, j.2, e ∙ ap (λ (w : Toks). x ++ w) j.3 ∙ sym (append_assoc x j.0 q.1), (a, x, j.0 ++ j.1, l (length (x ++ j.0)), subst (λ (n : ℕ). M a n j.2 (j.0 ++ j.1)) (sym (left_of x j.0)) j.4, append_assoc x j.0 j.1), j.5)

    judged : (ts : Toks) (out : Outcome A) → Judge L ts out → Judge (Seq L M) ts (and_then out f)
    judged ts (Ok q) j = second ts q.0 j.0 q.1 j.1 j.2 (f q.0 q.1) ((h q.0).judge q.1)
    judged ts (Err e) j = let u = (h j.2).some in (j.0, j.1 ++ u.1, u.0, j.3, (j.2, j.0 ++ j.1, u.1, j.4, subst (λ (n : ℕ). M j.2 n u.0 u.1) (sym (none_of j.0 j.1)) u.2, sym (append_assoc j.0 j.1 u.1)), shown_more e.0 e.1 j.1 u.1 j.5)

    shorter : (r o : Toks) (a : A) (rest : Toks) → length rest < length r → (out other : Outcome B) → Judge (M a) rest out → Alike r o out other
    shorter r o a rest l (Ok q) other j = inl (omega (arith, l, no_longer rest j.0 q.1 j.2))
    shorter r o a rest l (Err q) other j = inl (omega (arith, l, no_longer rest j.0 q.1 j.3))

    both : (r o ts : Toks) (out other : Outcome A) (t : Tok) (r' o' : Toks) → r ≡ t ∷ r' → o ≡ t ∷ o' → Alike r o out other → Alike r o (and_then out f) (and_then other f)
    both r o ts (Ok q) other t r' o' er eo (inl l) = shorter r o q.0 q.1 l (f q.0 q.1) (and_then other f) ((h q.0).judge q.1)
    both r o ts (Ok q) other t r' o' er eo (inr k) = rw (k.1, k.2, er, eo) ((h q.0).alike k.0 t r' o')
    both r o ts (Err q) other t r' o' er eo (inl l) = inl l
    both r o ts (Err q) other t r' o' er eo (inr k) = inr (k.0, k.1, ap (λ (out : Outcome A). and_then out f) k.2)

pub good_take : {A : Type 0} (f : Tok → Option A) (s : Tok) (a : A) → f s ≡ Some a → Good (Taken f) (take f)
unfolding take
good_take {A = A} f s a e = record { some = (a, s ∷ [], (s, e, refl)); judge = judged; alike = both }
  where
    chosen : (t : Tok) (ts : Toks) (o : Option A) → f t ≡ o → Judge (Taken f) (t ∷ ts) (taken o t ts)
    chosen t ts (Some b) h = (t ∷ [], (λ n. (t, h, refl)), refl)
    chosen t ts None h = ([], s ∷ [], a, refl, (s, e, refl), tt)

    judged : (ts : Toks) → Judge (Taken f) ts (take f ts)
    judged [] = ([], s ∷ [], a, refl, (s, e, refl), tt)
    judged (t ∷ ts) = chosen t ts (f t) refl

    here : (t : Tok) (r o : Toks) (b : Option A) → Alike {A = A} (t ∷ r) (t ∷ o) (taken b t r) (taken b t o)
    here t r o (Some b) = inl (omega arith)
    here t r o None = inr ([], refl, refl)

    before : (b : Tok) (z : Toks) (t : Tok) (r o : Toks) (c : Option A) → Alike {A = A} (t ∷ r) (t ∷ o) (taken c b (z ++ t ∷ r)) (taken c b (z ++ t ∷ o))
    before b z t r o (Some c) = inr (z, refl, refl)
    before b z t r o None = inr (b ∷ z, refl, refl)

    both : (z : Toks) (t : Tok) (r o : Toks) → Alike (t ∷ r) (t ∷ o) (take f (z ++ t ∷ r)) (take f (z ++ t ∷ o))
    both [] t r o = here t r o (f t)
    both (b ∷ z) t r o = before b z t r o (f b)

pub good_deep : {A B : Type 0} (L : Lang A) (f : Tok → Option B) → Example L → ((t : Tok) (b : B) → f t ≡ Some b → (a : A) × (x : Toks) × L 0 a (t ∷ x)) → Good L (too_deep f)
unfolding too_deep
good_deep {A = A} {B = B} L f u deep = record { some = u; judge = judged; alike = both }
  where
    chosen : (t : Tok) (ts : Toks) (o : Option B) → f t ≡ o → Judge L (t ∷ ts) (Err (refused o, t ∷ ts))
    chosen t ts (Some b) e = let d = deep t b e in ([], t ∷ d.1, d.0, refl, d.2, (d.1, refl))
    chosen t ts None e = ([], u.1, u.0, refl, u.2, tt)

    judged : (ts : Toks) → Judge L ts (too_deep f ts)
    judged [] = ([], u.1, u.0, refl, u.2, tt)
    judged (t ∷ ts) = chosen t ts (f t) refl

    both : (z : Toks) (t : Tok) (r o : Toks) → Alike {A = A} (t ∷ r) (t ∷ o) (too_deep f (z ++ t ∷ r)) (too_deep f (z ++ t ∷ o))
    both [] t r o = inr ([], refl, refl)
    both (b ∷ z) t r o = inr (b ∷ z, refl, refl)

pub good_finish : Good End finish
unfolding finish
good_finish = record { some = (tt, [], refl); judge = judged; alike = both }
  where
    judged : (ts : Toks) → Judge End ts (finish ts)
    judged [] = ([], (λ n. refl), refl)
    judged (t ∷ ts) = ([], [], tt, refl, refl, tt)

    both : (z : Toks) (t : Tok) (r o : Toks) → Alike (t ∷ r) (t ∷ o) (finish (z ++ t ∷ r)) (finish (z ++ t ∷ o))
    both [] t r o = inr ([], refl, refl)
    both (a ∷ z) t r o = inr (a ∷ z, refl, refl)

-- ---- going on behind a token
-- it asks the given parser about no more tokens than these
abbrev pub Within : {A C : Type 0} → (Parser A → Parser C) → Type 0
Within {A = A} turn = (p q : Parser A) (ts : Toks) → ((rest : Toks) → length rest ≤ length ts → p rest ≡ q rest) → turn p ts ≡ turn q ts

-- and behind a token at least
abbrev pub Behind : {A C : Type 0} → (Parser A → Parser C) → Type 0
Behind {A = A} turn = (p q : Parser A) (ts : Toks) → ((rest : Toks) → length rest < length ts → p rest ≡ q rest) → turn p ts ≡ turn q ts

abbrev pub Consumes : {A : Type 0} → Lang A → Type 0
Consumes {A = A} L = (n : ℕ) (a : A) (x : Toks) → L n a x → 0 < length x

pub within_behind : {A C : Type 0} (turn : Parser A → Parser C) → Behind turn → Within turn
within_behind turn h p q ts e = h p q ts (λ rest l. e rest (omega (arith, l)))

pub within_then : {A C : Type 0} (k : A → Parser C) → Within (λ more. more >>= k)
within_then {A = A} k p q ts e = ap (λ (out : Outcome A). and_then out k) (e ts (omega arith))

pub behind_item : {A B C : Type 0} (I : Lang A) (item : Parser A) (go : Parser B → A → Parser C) → Good I item → Consumes I → ((a : A) → Within (λ more. go more a)) → Behind (λ more. item >>= go more)
behind_item {A = A} {B = B} I item go good some within p q ts e = after (item ts) (good.judge ts)
  where
    after : (out : Outcome A) → Judge I ts out → and_then out (go p) ≡ and_then out (go q)
    after (Ok r) j =
        let size : length ts ≡ length j.0 + length r.1 = ap (λ (w : Toks). length w) j.2 ∙ length-append j.0 r.1 in
        let more = some 0 r.0 j.0 (j.1 0) in
        within r.0 p q r.1 (λ rest l. e rest (omega (arith, size, more, l)))
    after (Err f) j = refl

-- the bound of the turns is enough
steady : {C : Type 0} (turn : Parser C → Parser C) → Behind turn → (n m : ℕ) (ts : Toks) → length ts < n → length ts < m → again_from turn n ts ≡ again_from turn m ts
unfolding again_from
steady turn h zero m ts a b = absurd (omega (arith, a))
steady turn h (suc n) zero ts a b = absurd (omega (arith, b))
steady turn h (suc n) (suc m) ts a b = h (again_from turn n) (again_from turn m) ts (λ rest l. steady turn h n m rest (omega (arith, a, l)) (omega (arith, b, l)))

-- the turn without the bound
pub again_is : {C : Type 0} (turn : Parser C → Parser C) → Behind turn → (ts : Toks) → again turn ts ≡ turn (again turn) ts
unfolding again again_from
again_is turn h ts = h (again_from turn (length ts)) (again turn) ts (λ rest l. steady turn h (length ts) (suc (length rest)) rest l (omega arith))

kept : {C : Type 0} (L : Lang C) (turn : Parser C → Parser C) → Example L → ((p : Parser C) → Good L p → Good L (turn p)) → (n : ℕ) → Good L (again_from turn n)
unfolding again_from
kept L turn s keep zero = good_fail L s
kept L turn s keep (suc n) = keep (again_from turn n) (kept L turn s keep n)

pub good_again : {C : Type 0} (L : Lang C) (turn : Parser C → Parser C) → Example L → Behind turn → ((p : Parser C) → Good L p → Good L (turn p)) → Good L (again turn)
unfolding again
good_again {C = C} L turn s h keep = record {
  some = s;
  judge = λ ts. (from (suc (length ts))).judge ts;
  alike = λ z t r o.
      let n = suc (length (z ++ t ∷ r)) in let m = suc (length (z ++ t ∷ o)) in
      rw (steady turn h n (n + m) (z ++ t ∷ r) (omega arith) (omega arith), steady turn h m (n + m) (z ++ t ∷ o) (omega arith) (omega arith)) ((from (n + m)).alike z t r o);
}
  where
    from : (n : ℕ) → Good L (again_from turn n)
    from n = kept L turn s keep n

-- ---- where the next token is known
pub record GoodAt {A : Type 0} (L : Lang A) (p : Parser A) (c : Option Tok) : Type 0 where
  pub some : Example L
  pub judge : (ts : Toks) → first ts ≡ c → Judge L ts (p ts)
  pub alike : (z : Toks) (t : Tok) (r o : Toks) → first (z ++ t ∷ r) ≡ c → Alike (t ∷ r) (t ∷ o) (p (z ++ t ∷ r)) (p (z ++ t ∷ o))

pub good_at : {A : Type 0} (L : Lang A) (p : Parser A) (c : Option Tok) → Good L p → GoodAt L p c
good_at L p c g = record { some = g.some; judge = λ ts e. g.judge ts; alike = λ z t r o e. g.alike z t r o }

pub good_look_at : {A : Type 0} (L : Lang A) (f : Option Tok → Parser A) → ((c : Option Tok) → GoodAt L (f c) c) → Good L (look f)
good_look_at L f g = record {
  some = (g None).some;
  judge = λ ts. (g (first ts)).judge ts refl;
  alike = both;
}
  where
    both : (z : Toks) (t : Tok) (r o : Toks) → Alike (t ∷ r) (t ∷ o) (look f (z ++ t ∷ r)) (look f (z ++ t ∷ o))
    both [] t r o = (g (Some t)).alike [] t r o refl
    both (a ∷ z) t r o = (g (Some a)).alike (a ∷ z) t r o refl

-- what is read begins with the next token
abbrev pub Begun : {A : Type 0} → Lang A → (Option Tok → Type 0) → Lang A
Begun L B n a ts = L n a ts × B (first ts)

pub good_begun : {A : Type 0} (L : Lang A) (B : Option Tok → Type 0) (p : Parser A) (c : Option Tok) → Good L p → Consumes L → B c → (a : A) (x : Toks) → L 0 a x → B (first x) → GoodAt (Begun L B) p c
good_begun {A = A} L B p c g some here a x l b = record {
  some = (a, x, (l, b));
  judge = λ ts e. judged ts (p ts) e (g.judge ts);
  alike = λ z t r o e. g.alike z t r o;
}
  where
    front : (ts y rest : Toks) → first ts ≡ c → ts ≡ y ++ rest → 0 < length y → B (first y)
    front ts [] rest e h k = absurd (omega (arith, k))
    front ts (t ∷ y) rest e h k = let same : first ts ≡ Some t = ap first h in subst B (sym e ∙ same) here

    fault : (ts y more : Toks) (w : Why) (rest : Toks) (v : A) → first ts ≡ c → ts ≡ y ++ rest → L (length y) v (y ++ more) → Shown w rest more → Judge (Begun L B) ts (Err (w, rest))
    fault ts (t ∷ y) more w rest v e h k s = (t ∷ y, more, v, h, (k, subst B (sym e ∙ ap first h) here), s)
    fault ts [] more Unexpected rest v e h k s = ([], x, a, h, (l, b), tt)
    fault ts [] more TooNested [] v e h k s = absurd s
    fault ts [] more TooNested (t ∷ rest) v e h k s = ([], more, v, h, (k, subst B (sym e ∙ ap first h ∙ sym (ap first s.1)) here), s)

    judged : (ts : Toks) (out : Outcome A) → first ts ≡ c → Judge L ts out → Judge (Begun L B) ts out
    judged ts (Ok q) e j = (j.0, (λ n. (j.1 n, front ts j.0 q.1 e j.2 (some n q.0 j.0 (j.1 n)))), j.2)
    judged ts (Err q) e j = fault ts j.0 j.1 q.0 q.1 j.2 e j.3 j.4 j.5

pub good_sub_at : {A : Type 0} (L M : Lang A) (p : Parser A) (c : Option Tok) → ((n : ℕ) (a : A) (ts : Toks) → L n a ts → M n a ts) → GoodAt L p c → GoodAt M p c
good_sub_at {A = A} L M p c h g = record {
  some = (g.some.0, g.some.1, h 0 _ _ g.some.2);
  judge = λ ts e. judged ts (p ts) (g.judge ts e);
  alike = g.alike;
}
  where
    judged : (ts : Toks) (out : Outcome A) → Judge L ts out → Judge M ts out
    judged ts (Ok q) j = (j.0, (λ n. h n _ _ (j.1 n)), j.2)
    judged ts (Err e) j = (j.0, j.1, j.2, j.3, h (length j.0) _ _ j.4, j.5)
