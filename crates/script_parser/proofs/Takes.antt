-- A parser reads what is spelled, whatever may follow, unless a token opens a level too many.
use Rattle.std.proofs.Common.{◌≡◌, ℕ, suc, ◌+◌, ◌-◌, Bool, true, false, [], ◌∷◌, ◌++◌, length, Option, Some, Ok, Err, refl, sym, ap, subst, ◌∙◌, append_assoc, arith, ◌⊎◌, inl, inr, length-append}
use Rattle.std.specs.Prelude.{◌&&◌}
use Rattle.std.proofs.lemmas.Bool.{and_from}
use Rattle.script_text.specs.declared.sign.Sign.{Sign}
use Rattle.script_text.specs.declared.sign.Sign.TheVariants.{Comma}
use Rattle.script_text.specs.declared.word.Reserved.{Reserved}
use Rattle.script_grammar.specs.Tokens.{Tok, Kept, Fixed, Toks}
use Rattle.script_grammar.specs.Rules.{opens}
use Rattle.script_parser.specs.Steps.{TooNested, Parser, ◌>>=◌, pure, take, too_deep, look, many_by}
use Rattle.script_parser.specs.Tests.{fixed, kept_as, sees}
use Rattle.script_parser.specs.Parser.{expect, keyword, comma_by, separated_by}
use Rattle.script_parser.proofs.Tests.{is_fixed, is_kept}

-- x is read as a before rest; the count of tokens says which of them open no level too many, here all
abbrev pub Reads : {A : Type 0} → (ℕ → Bool) → Parser A → Toks → A → Toks → Type 0
Reads count p x a rest = (p (x ++ rest) ≡ Ok (a, rest)) × ((n : ℕ) → count n ≡ true)

-- the token behind the first k opens a level too many, and the parser stops there
abbrev pub Exceeds : {A : Type 0} → (ℕ → Bool) → Parser A → Toks → Toks → Type 0
Exceeds count p x rest = (k : ℕ) × (left : Toks) × (p (x ++ rest) ≡ Err (TooNested, left)) × (k + length left ≡ length (x ++ rest)) × (count (suc k) ≡ false)

abbrev pub Takes : {A : Type 0} → (ℕ → Bool) → Parser A → Toks → A → Toks → Type 0
Takes count p x a rest = Reads count p x a rest ⊎ Exceeds count p x rest

pub takes_as : {A : Type 0} (c e : ℕ → Bool) (p : Parser A) (x : Toks) (a : A) (rest : Toks) → ((n : ℕ) → c n ≡ e n) → Takes c p x a rest → Takes e p x a rest
takes_as c e p x a rest h (inl r) = inl (r.0, λ n. sym (h n) ∙ r.1 n)
takes_as c e p x a rest h (inr r) = inr (r.0, r.1, r.2, r.3, sym (h (suc r.0)) ∙ r.4)

-- two parsers that do the same here
pub takes_same : {A : Type 0} (c : ℕ → Bool) (p q : Parser A) (x : Toks) (a : A) (rest : Toks) → p (x ++ rest) ≡ q (x ++ rest) → Takes c q x a rest → Takes c p x a rest
takes_same c p q x a rest e (inl r) = inl (e ∙ r.0, r.1)
takes_same c p q x a rest e (inr r) = inr (r.0, r.1, e ∙ r.2, r.3, r.4)

and_false : (b : Bool) → (b && false) ≡ false
and_false true = refl
and_false false = refl

pub takes_bind : {A B : Type 0} (c e : ℕ → Bool) (p : Parser A) (f : A → Parser B) (x y : Toks) (a : A) (z : B) (rest : Toks) → Takes c p x a (y ++ rest) → Takes e (f a) y z rest → Takes (λ n. c n && e (n - length x)) (p >>= f) (x ++ y) z rest
takes_bind c e p f x y a z rest (inl h) (inl k) = inl (rw (append_assoc x y rest, h.0) k.0, λ n. and_from (c n) (e (n - length x)) (h.1 n) (k.1 (n - length x)))
takes_bind c e p f x y a z rest (inl h) (inr k) =
    let size : length x + k.0 + length k.1 ≡ length ((x ++ y) ++ rest) = omega (arith, k.3, length-append (x ++ y) rest, length-append x y, length-append y rest) in
    let place : suc (length x + k.0) - length x ≡ suc k.0 = omega arith in
    inr (length x + k.0, k.1, rw (append_assoc x y rest, h.0) k.2, size, rw (place, k.4) (and_false (c (suc (length x + k.0)))))
takes_bind c e p f x y a z rest (inr h) k = inr (h.0, h.1, rw (append_assoc x y rest, h.2) refl, h.3 ∙ ap (λ (w : Toks). length w) (sym (append_assoc x y rest)), rw h.4 refl)

-- the second step opens no level
pub takes_first : {A B : Type 0} (c : ℕ → Bool) (p : Parser A) (f : A → Parser B) (x y : Toks) (a : A) (z : B) (rest : Toks) → Takes c p x a (y ++ rest) → f a (y ++ rest) ≡ Ok (z, rest) → Takes c (p >>= f) (x ++ y) z rest
takes_first c p f x y a z rest (inl h) k = inl (rw (append_assoc x y rest, h.0) k, h.1)
takes_first c p f x y a z rest (inr h) k = inr (h.0, h.1, rw (append_assoc x y rest, h.2) refl, h.3 ∙ ap (λ (w : Toks). length w) (sym (append_assoc x y rest)), h.4)

-- the second step takes no token
pub takes_map : {A B : Type 0} (c : ℕ → Bool) (p : Parser A) (f : A → Parser B) (x : Toks) (a : A) (z : B) (rest : Toks) → Takes c p x a rest → f a rest ≡ Ok (z, rest) → Takes c (p >>= f) x z rest
takes_map c p f x a z rest (inl h) k = inl (rw h.0 k, h.1)
takes_map c p f x a z rest (inr h) k = inr (h.0, h.1, rw h.2 refl, h.3, h.4)

pub take_token : {A : Type 0} (f : Tok → Option A) (t : Tok) (a : A) (ts : Toks) → f t ≡ Some a → take f (t ∷ ts) ≡ Ok (a, ts)
unfolding take
take_token f t a ts e = rw e refl

pub take_sign : (s : Sign) (ts : Toks) → expect s (Fixed s ∷ ts) ≡ Ok (tt, ts)
take_sign s ts = take_token (fixed s) (Fixed s) tt ts (is_fixed s)

pub take_word : (r : Reserved) (ts : Toks) → keyword r (Kept r ∷ ts) ≡ Ok (tt, ts)
take_word r ts = take_token (kept_as r) (Kept r) tt ts (is_kept r)

-- behind one token
pub behind : {A B : Type 0} (c : ℕ → Bool) (f : Tok → Option A) (t : Tok) (a : A) (g : A → Parser B) (y : Toks) (z : B) (rest : Toks) → f t ≡ Some a → Takes c (g a) y z rest → Takes (λ n. c (n - 1)) (take f >>= g) (t ∷ y) z rest
behind c f t a g y z rest e (inl h) = inl (rw (take_token f t a (y ++ rest) e) h.0, λ n. h.1 (n - 1))
behind c f t a g y z rest e (inr h) =
    let size : suc h.0 + length h.1 ≡ suc (length (y ++ rest)) = omega (arith, h.3) in
    let place : suc (suc h.0) - 1 ≡ suc h.0 = omega arith in
    inr (suc h.0, h.1, rw (take_token f t a (y ++ rest) e) h.2, size, rw place h.4)

pub behind_sign : {B : Type 0} (c : ℕ → Bool) (s : Sign) (p : Parser B) (y : Toks) (z : B) (rest : Toks) → Takes c p y z rest → Takes (λ n. c (n - 1)) (expect s >>= λ _. p) (Fixed s ∷ y) z rest
behind_sign c s p y z rest h = behind c (fixed s) (Fixed s) tt (λ _. p) y z rest (is_fixed s) h

pub behind_word : {B : Type 0} (c : ℕ → Bool) (r : Reserved) (p : Parser B) (y : Toks) (z : B) (rest : Toks) → Takes c p y z rest → Takes (λ n. c (n - 1)) (keyword r >>= λ _. p) (Kept r ∷ y) z rest
behind_word c r p y z rest h = behind c (kept_as r) (Kept r) tt (λ _. p) y z rest (is_kept r) h

-- nothing is left to open
pub takes_deep : {A B : Type 0} (inside : ℕ → ℕ → Bool) (f : Tok → Option B) (t : Tok) (b : B) (x : Toks) (a : A) (rest : Toks) → f t ≡ Some b → Takes (λ n. opens 0 n inside) (too_deep f) (t ∷ x) a rest
unfolding too_deep
takes_deep inside f t b x a rest e = inr (0, t ∷ (x ++ rest), rw e refl, omega arith, refl)

pub takes_pure : {A : Type 0} (c : ℕ → Bool) (p : Parser A) (x : Toks) (a : A) (rest : Toks) → p (x ++ rest) ≡ Ok (a, rest) → ((n : ℕ) → c n ≡ true) → Takes c p x a rest
takes_pure c p x a rest e h = inl (e, h)

-- ---- lists, whose parser is one turn of itself
module _ {A C : Type 0} (goes_on : Tok → Bool) (item : Parser A) (nil : C) (cons : A → C → C) (m : Parser C) (is : (ts : Toks) → m ts ≡ look (many_by goes_on item nil cons m) ts) where
  abbrev pub Stops : Toks → Type 0
  Stops [] = Unit {0}
  Stops (t ∷ ts) = goes_on t ≡ false

  pub stopped : (rest : Toks) → Stops rest → look (many_by goes_on item nil cons m) rest ≡ Ok (nil, rest)
  stopped [] h = refl
  stopped (t ∷ ts) h = rw h refl

  pub many_nil : (rest : Toks) → Stops rest → Takes (λ n. true) m [] nil rest
  many_nil rest h = inl (is rest ∙ stopped rest h, λ n. refl)

  pub many_cons : (c e : ℕ → Bool) (t : Tok) (x y : Toks) (a : A) (cs : C) (rest : Toks) → goes_on t ≡ true → Takes c item (t ∷ x) a (y ++ rest) → Takes e m y cs rest → Takes (λ n. c n && e (n - length (t ∷ x))) m ((t ∷ x) ++ y) (cons a cs) rest
  many_cons c e t x y a cs rest g h k = takes_same (λ n. c n && e (n - length (t ∷ x))) m (item >>= λ a. m >>= λ cs. pure (cons a cs)) ((t ∷ x) ++ y) (cons a cs) rest
      (is (((t ∷ x) ++ y) ++ rest) ∙ rw g refl)
      (takes_bind c e item (λ a. m >>= λ cs. pure (cons a cs)) (t ∷ x) y a (cons a cs) rest h (takes_map e m (λ cs. pure (cons a cs)) y cs (cons a cs) rest k refl))

  pub many_cons_at : (c e : ℕ → Bool) (x : Toks) (t : Tok) (x' y : Toks) (a : A) (cs : C) (rest : Toks) → x ≡ t ∷ x' → goes_on t ≡ true → Takes c item x a (y ++ rest) → Takes e m y cs rest → Takes (λ n. c n && e (n - length x)) m (x ++ y) (cons a cs) rest
  many_cons_at c e x t x' y a cs rest q g h k = subst (λ (w : Toks). Takes (λ n. c n && e (n - length w)) m (w ++ y) (cons a cs) rest) (sym q) (many_cons c e t x' y a cs rest g (subst (λ (w : Toks). Takes c item w a (y ++ rest)) q h) k)

module _ {A C : Type 0} (closing : Sign) (item : Parser A) (nil : C) (last : A → C) (then_more : A → C → C) (m : Parser C)
    (is : (ts : Toks) → m ts ≡ look (λ c. separated_by item nil last then_more m (sees closing c)) ts) (no_comma : sees Comma (Some (Fixed closing)) ≡ false) (closes : sees closing (Some (Fixed closing)) ≡ true) where
  pub separated_nil : (rest : Toks) → Takes (λ n. true) m [] nil (Fixed closing ∷ rest)
  separated_nil rest = inl (is (Fixed closing ∷ rest) ∙ rw closes refl, λ n. refl)

  opened_item : (t : Tok) (ts : Toks) → sees closing (Some t) ≡ false → m (t ∷ ts) ≡ (item >>= λ a. look (λ c. comma_by last then_more a m (sees Comma c))) (t ∷ ts)
  opened_item t ts h = is (t ∷ ts) ∙ rw h refl

  pub separated_last : (c : ℕ → Bool) (t : Tok) (x : Toks) (a : A) (rest : Toks) → sees closing (Some t) ≡ false → Takes c item (t ∷ x) a (Fixed closing ∷ rest) → Takes c m (t ∷ x) (last a) (Fixed closing ∷ rest)
  separated_last c t x a rest h k = takes_same c m (item >>= λ a. look (λ c. comma_by last then_more a m (sees Comma c))) (t ∷ x) (last a) (Fixed closing ∷ rest) (opened_item t (x ++ Fixed closing ∷ rest) h)
      (takes_map c item (λ a. look (λ c. comma_by last then_more a m (sees Comma c))) (t ∷ x) a (last a) (Fixed closing ∷ rest) k (rw no_comma refl))

  pub separated_then : (c e : ℕ → Bool) (t : Tok) (x y : Toks) (a : A) (cs : C) (rest : Toks) → sees closing (Some t) ≡ false → Takes c item (t ∷ x) a (Fixed Comma ∷ (y ++ rest)) → Takes e m y cs rest
      → Takes (λ n. c n && e (n - length (t ∷ x) - 1)) m ((t ∷ x) ++ Fixed Comma ∷ y) (then_more a cs) rest
  separated_then c e t x y a cs rest h k l = takes_same (λ n. c n && e (n - length (t ∷ x) - 1)) m (item >>= λ a. look (λ c. comma_by last then_more a m (sees Comma c))) ((t ∷ x) ++ Fixed Comma ∷ y) (then_more a cs) rest
      (opened_item t ((x ++ Fixed Comma ∷ y) ++ rest) h)
      (takes_bind c (λ n. e (n - 1)) item (λ a. look (λ c. comma_by last then_more a m (sees Comma c))) (t ∷ x) (Fixed Comma ∷ y) a (then_more a cs) rest k
      (takes_same (λ n. e (n - 1)) (look (λ c. comma_by last then_more a m (sees Comma c))) (expect Comma >>= λ _. m >>= λ cs. pure (then_more a cs)) (Fixed Comma ∷ y) (then_more a cs) rest refl
      (behind_sign e Comma (m >>= λ cs. pure (then_more a cs)) y (then_more a cs) rest (takes_map e m (λ cs. pure (then_more a cs)) y cs (then_more a cs) rest l refl))))

  pub separated_last_at : (c : ℕ → Bool) (x : Toks) (t : Tok) (x' : Toks) (a : A) (rest : Toks) → x ≡ t ∷ x' → sees closing (Some t) ≡ false → Takes c item x a (Fixed closing ∷ rest) → Takes c m x (last a) (Fixed closing ∷ rest)
  separated_last_at c x t x' a rest q h k = subst (λ (w : Toks). Takes c m w (last a) (Fixed closing ∷ rest)) (sym q) (separated_last c t x' a rest h (subst (λ (w : Toks). Takes c item w a (Fixed closing ∷ rest)) q k))

  pub separated_then_at : (c e : ℕ → Bool) (x : Toks) (t : Tok) (x' y : Toks) (a : A) (cs : C) (rest : Toks) → x ≡ t ∷ x' → sees closing (Some t) ≡ false → Takes c item x a (Fixed Comma ∷ (y ++ rest)) → Takes e m y cs rest
      → Takes (λ n. c n && e (n - length x - 1)) m (x ++ Fixed Comma ∷ y) (then_more a cs) rest
  separated_then_at c e x t x' y a cs rest q h k l = subst (λ (w : Toks). Takes (λ n. c n && e (n - length w - 1)) m (w ++ Fixed Comma ∷ y) (then_more a cs) rest) (sym q)
      (separated_then c e t x' y a cs rest h (subst (λ (w : Toks). Takes c item w a (Fixed Comma ∷ (y ++ rest))) q k) l)
