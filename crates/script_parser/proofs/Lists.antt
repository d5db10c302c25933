-- Lists of items, with and without commas.
use Rattle.std.proofs.Common.{◌≡◌, ℕ, ◌-◌, Bool, true, false, [], ◌∷◌, ◌++◌, length, Option, Some, None, refl, ap, ◌∙◌, append-nil, arith, ◌⊎◌, inl, inr}
use Rattle.std.specs.Prelude.{if◌then◌else◌}
use Rattle.script_text.specs.declared.sign.Sign.{Sign}
use Rattle.script_text.specs.declared.sign.Sign.TheVariants.{Comma}
use Rattle.script_grammar.specs.Tokens.{Tok, Fixed, Toks}
use Rattle.script_parser.specs.Steps.{Parser, ◌>>=◌, pure, first, look, many_by, many}
use Rattle.script_parser.specs.Tests.{fixed, sees}
use Rattle.script_parser.specs.Parser.{expect, comma_by, separated_by, separated}
use Rattle.script_parser.proofs.Good.{Lang, Good, Seq, Nothing, Taken, Consumes, Within, Behind, good_pure, good_look, good_sub, good_bind, good_take, good_again, within_behind, within_then, behind_item, again_is}
use Rattle.script_parser.proofs.Tests.{of_fixed, is_fixed}

pub good_expect : (s : Sign) → Good (Taken (fixed s)) (expect s)
good_expect s = good_take (fixed s) (Fixed s) tt (is_fixed s)

pub taken_some : {A : Type 0} (f : Tok → Option A) → Consumes (Taken f)
taken_some f n a x h = rw h.2 omega arith

module _ {A C : Type 0} (I : Lang A) (goes_on : Tok → Bool) (item : Parser A) (nil : C) (cons : A → C → C) (good : Good I item) (some : Consumes I) where
  pub behind_many : Behind (λ (more : Parser C). look (many_by goes_on item nil cons more))
  behind_many p q [] e = refl
  behind_many p q (t ∷ ts) e = go (goes_on t)
    where
      go : (b : Bool) → (if b then (item >>= λ x. p >>= λ xs. pure (cons x xs)) else pure nil) (t ∷ ts) ≡ (if b then (item >>= λ x. q >>= λ xs. pure (cons x xs)) else pure nil) (t ∷ ts)
      go true = behind_item I item (λ (more : Parser C) (a : A). more >>= λ xs. pure (cons a xs)) good some (λ a. within_then (λ xs. pure (cons a xs))) p q (t ∷ ts) e
      go false = refl

  pub many_is : (ts : Toks) → many goes_on item nil cons ts ≡ look (many_by goes_on item nil cons (many goes_on item nil cons)) ts
  many_is ts = again_is _ behind_many ts

module _ {A C : Type 0} (I : Lang A) (L : Lang C) (goes_on : Tok → Bool) (item : Parser A) (nil : C) (cons : A → C → C)
    (good : Good I item) (is_nil : (n : ℕ) → L n nil []) (is_cons : (n : ℕ) (a : A) (c : C) (x y : Toks) → I n a x → L (n - length x) c y → L n (cons a c) (x ++ y))
    (some : Consumes I) where
  none : Good L (pure nil)
  none = good_sub (Nothing nil) L (pure nil) (λ w c ts h. rw (h.0, h.1) (is_nil w)) (good_pure nil)

  joined : (n : ℕ) (c : C) (ts : Toks) → Seq I (λ a. Seq L (λ cs. Nothing (cons a cs))) n c ts → L n c ts
  joined n c ts h =
      let m = h.4 in let e = m.4 in
      let whole : ts ≡ h.1 ++ m.1 = h.5 ∙ ap (λ (v : Toks). h.1 ++ v) (m.5 ∙ ap (λ (v : Toks). m.1 ++ v) e.1 ∙ append-nil m.1) in
      rw (whole, e.0) (is_cons n h.0 m.0 h.1 m.1 h.3 m.3)

  by : (more : Parser C) → Good L more → (c : Option Tok) → Good L (many_by goes_on item nil cons more c)
  by more g None = none
  by more g (Some t) = go (goes_on t)
    where
      go : (b : Bool) → Good L (if b then (item >>= λ x. more >>= λ xs. pure (cons x xs)) else pure nil)
      go true = good_sub _ L _ joined (good_bind I _ item _ good (λ a. good_bind L _ more _ g (λ cs. good_pure (cons a cs))))
      go false = none

  pub good_many : Good L (many goes_on item nil cons)
  good_many = good_again L _ (nil, [], is_nil 0) (behind_many I goes_on item nil cons good some) (λ p g. good_look L _ (by p g))

module _ {A C : Type 0} (I : Lang A) (closing : Sign) (item : Parser A) (nil : C) (last : A → C) (then_more : A → C → C) (good : Good I item) (some : Consumes I) where
  within_comma : (a : A) → Within (λ (more : Parser C). look (λ c. comma_by last then_more a more (sees Comma c)))
  within_comma a p q ts e = go (sees Comma (first ts))
    where
      go : (b : Bool) → comma_by last then_more a p b ts ≡ comma_by last then_more a q b ts
      go true = within_behind (λ (more : Parser C). expect Comma >>= λ _. more >>= λ c. pure (then_more a c)) (behind_item (Taken (fixed Comma)) (expect Comma) (λ (more : Parser C) (u : Unit {0}). more >>= λ c. pure (then_more a c)) (good_expect Comma) (taken_some (fixed Comma)) (λ u. within_then (λ c. pure (then_more a c)))) p q ts e
      go false = refl

  pub behind_separated : Behind (λ (more : Parser C). look (λ c. separated_by item nil last then_more more (sees closing c)))
  behind_separated p q ts e = go (sees closing (first ts))
    where
      go : (b : Bool) → separated_by item nil last then_more p b ts ≡ separated_by item nil last then_more q b ts
      go true = refl
      go false = behind_item I item (λ (more : Parser C) (a : A). look (λ c. comma_by last then_more a more (sees Comma c))) good some within_comma p q ts e

  pub separated_is : (ts : Toks) → separated closing item nil last then_more ts ≡ look (λ c. separated_by item nil last then_more (separated closing item nil last then_more) (sees closing c)) ts
  separated_is ts = again_is _ behind_separated ts

module _ {A C : Type 0} (I : Lang A) (L : Lang C) (closing : Sign) (item : Parser A) (nil : C) (last : A → C) (then_more : A → C → C)
    (good : Good I item) (is_nil : (n : ℕ) → L n nil []) (is_last : (n : ℕ) (a : A) (x : Toks) → I n a x → L n (last a) x)
    (is_then : (n : ℕ) (a : A) (c : C) (x y : Toks) → I n a x → L (n - length x - 1) c y → L n (then_more a c) (x ++ Fixed Comma ∷ y))
    (some : Consumes I) where
  -- what stands behind an item
  Tail : A → Lang C
  Tail a n c ts = ((c ≡ last a) × (ts ≡ [])) ⊎ ((d : C) × (y : Toks) × L (n - 1) d y × (c ≡ then_more a d) × (ts ≡ Fixed Comma ∷ y))

  good_comma : (more : Parser C) → Good L more → (a : A) (b : Bool) → Good (Tail a) (comma_by last then_more a more b)
  unfolding Tail
  good_comma more g a false = good_sub (Nothing (last a)) (Tail a) _ (λ w c ts h. inl h) (good_pure (last a))
  good_comma more g a true = good_sub _ (Tail a) _ made (good_bind (Taken (fixed Comma)) _ (expect Comma) _ (good_expect Comma) (λ _. good_bind L _ more _ g (λ c. good_pure (then_more a c))))
    where
      made : (n : ℕ) (c : C) (ts : Toks) → Seq (Taken (fixed Comma)) (λ _. Seq L (λ d. Nothing (then_more a d))) n c ts → Tail a n c ts
      made n c ts h = let i = h.4 in let comma = of_fixed Comma h.3.0 h.0 h.3.1 in inr (i.0, i.1, rw h.3.2 at i.3, i.4.0, rw (h.5, h.3.2, comma, i.5, i.4.1, append-nil) refl)

  met : (n : ℕ) (c : C) (ts : Toks) → Seq I Tail n c ts → L n c ts
  unfolding Tail
  met n c ts h = go h.4
    where
      go : Tail h.0 (n - length h.1) c h.2 → L n c ts
      go (inl e) = rw (h.5, e.0, e.1, append-nil) (is_last n h.0 h.1 h.3)
      go (inr e) = rw (h.5, e.3, e.4) (is_then n h.0 e.0 h.1 e.1 h.3 e.2)

  by_closing : (more : Parser C) → Good L more → (b : Bool) → Good L (separated_by item nil last then_more more b)
  by_closing more g true = good_sub (Nothing nil) L (pure nil) (λ w c ts h. rw (h.0, h.1) (is_nil w)) (good_pure nil)
  by_closing more g false = good_sub _ L _ met (good_bind I Tail item _ good (λ a. good_look (Tail a) _ (λ c. good_comma more g a (sees Comma c))))

  pub good_separated : Good L (separated closing item nil last then_more)
  good_separated = good_again L _ (nil, [], is_nil 0) (behind_separated I closing item nil last then_more good some) (λ p g. good_look L _ (λ c. by_closing p g (sees closing c)))
