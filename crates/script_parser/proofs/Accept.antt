-- Every expression is read from its spelling.
use Rattle.std.proofs.Common.{◌≡◌, ℕ, zero, suc, ◌-◌, ◌<◌, ◌≤◌, Bool, true, false, List, [], ◌∷◌, ◌++◌, length, Option, Some, Ok, refl, ap, subst, ◌∙◌, append_assoc, arith, ◌⊎◌, inl, inr}
use Rattle.std.specs.Prelude.{◌&&◌}
use Rattle.script_text.specs.declared.sign.Sign.{Sign}
use Rattle.script_text.specs.declared.sign.Sign.TheVariants.{OpenRound, CloseRound, OpenBrace, CloseBrace, OpenSquare, CloseSquare, Comma, Colon, Dot as Point, Question}
use Rattle.script_grammar.specs.Tokens.{Tok, Name, Kept, Integer, Text, Fixed, Toks}
use Rattle.script_grammar.specs.Trees.{Lit, Number, Quote, True, False, Null, Undefined, Word, Named, Reserve, Ex, Literal, Var, Round, ListOf, Object, Member, Unary, Chain, Choice, Elems, NoElems, LastElem, ThenElem, Prop, Keyed, Quoted, Short, Props, NoProps, LastProp, ThenProp, Suffix, Dot, Index, Suffixes, NoSuffixes, ThenSuffix, Links, NoLinks, ThenLink}
use Rattle.script_grammar.specs.Spelling.{spell_lit, spell_word, spell_ex, spell_elems, spell_prop, spell_props, spell_suffix, spell_suffixes, spell_links}
use Rattle.script_grammar.specs.Rules.{level_of, is_unary, is_atom, Binds, BindsElems, BindsProp, BindsProps, BindsSuffix, BindsSuffixes, BindsLinks, opens, within, within_elems, within_prop, within_props, within_suffix, within_suffixes, within_links}
use Rattle.script_parser.specs.Steps.{Parser, ◌>>=◌, pure, first, look, many_by}
use Rattle.script_parser.specs.Tests.{fixed, name_of, text_of, word_of, lit_of, unary_of, link_of, sees, sees_unary, begins_suffix, begins_link}
use Rattle.script_parser.specs.Parser.{Below, expect, opened, rounded, elems, listed, valued, short_by, prop, props, objected, atom, index, suffix, suffixes, member, post, signed, unary, then_link, chained, link, links, chain, choice, choice_by, expr, stmt, item, below}
use Rattle.script_parser.proofs.Tests.{is_fixed, is_word, is_unary_sign, is_link}
use Rattle.script_parser.proofs.Languages.{Goods}
use Rattle.script_parser.proofs.Expressions.{good_chain, elems_is, props_is, suffixes_is, links_is}
use Rattle.script_parser.proofs.Statements.{good_below}
use Rattle.script_parser.proofs.Takes.{Takes, takes_as, takes_same, takes_bind, takes_first, takes_map, take_token, take_sign, behind, behind_sign, takes_deep, takes_pure, many_cons_at, separated_nil, separated_last_at, separated_then_at}
use Rattle.script_parser.proofs.Follow.{stop, stop_link, no_suffix, no_link, no_question, begun, no_square}

-- the parsers below d levels, as they are given one level up
abbrev pub under : ℕ → Below
under d = record { unary = unary (below d); expr = expr (below d); stmt = stmt (below d); item = item (below d) }

pub goods_under : (d : ℕ) → Goods d (under d)
unfolding below
goods_under d = good_below (suc d)

pub takes_opened : {A B : Type 0} (inside : ℕ → ℕ → Bool) (f : Tok → Option B) (p : Below → Parser A) (t : Tok) (b : B) (x : Toks) (a : A) (rest : Toks) (d : ℕ) → f t ≡ Some b
    → ((e : ℕ) → Takes (λ n. inside e (n - 1)) (p (under e)) (t ∷ x) a rest) → Takes (λ n. opens d n inside) (opened (below d) f p) (t ∷ x) a rest
unfolding below
takes_opened inside f p t b x a rest zero e h = takes_deep inside f t b x a rest e
takes_opened inside f p t b x a rest (suc d) e h = h d

-- ---- from one level to the next
suffix_stops : (d : ℕ) (rest : Toks) → 0 < stop (first rest) → suffixes (below d) rest ≡ Ok (NoSuffixes, rest)
suffix_stops d [] h = suffixes_is d (below d) (good_below d) []
suffix_stops d (t ∷ ts) h = suffixes_is d (below d) (good_below d) (t ∷ ts) ∙ rw (no_suffix t h) refl

pub chain_good : (d k : ℕ) → k ≤ 6 → (ts : Toks) → k < 6 → links k (chain (below d) k) ts ≡ look (many_by (begins_link k) (link k (chain (below d) k)) NoLinks then_link (links k (chain (below d) k))) ts
chain_good d k h ts l = links_is k d (chain (below d) k) l (good_chain d (below d) (good_below d) k h) ts

link_stops : (d k : ℕ) (rest : Toks) → k < 6 → suc k < stop (first rest) → links k (chain (below d) k) rest ≡ Ok (NoLinks, rest)
link_stops d k [] l h = chain_good d k (omega (arith, l)) [] l
link_stops d k (t ∷ ts) l h = chain_good d k (omega (arith, l)) (t ∷ ts) l ∙ rw (no_link k t l h) refl

lift_post : (c : ℕ → Bool) (d : ℕ) (x : Toks) (e : Ex) (rest : Toks) → 0 < stop (first rest) → Takes c (atom (below d)) x e rest → Takes c (post (below d)) x e rest
lift_post c d x e rest h k = takes_map c (atom (below d)) (λ e. suffixes (below d) >>= λ ss. pure (member e ss)) x e e rest k (rw (suffix_stops d rest h) refl)

lift_unary : (c : ℕ → Bool) (d : ℕ) (x : Toks) (e : Ex) (rest : Toks) → sees_unary (first (x ++ rest)) ≡ false → Takes c (post (below d)) x e rest → Takes c (chain (below d) 0) x e rest
unfolding chain
lift_unary c d x e rest h k = takes_same c (chain (below d) 0) (post (below d)) x e rest (rw h refl) k

lift_chain : (c : ℕ → Bool) (d k : ℕ) (x : Toks) (e : Ex) (rest : Toks) → k < 6 → suc k < stop (first rest) → Takes c (chain (below d) k) x e rest → Takes c (chain (below d) (suc k)) x e rest
unfolding chain
lift_chain c d k x e rest l h t = takes_map c (chain (below d) k) (λ a. links k (chain (below d) k) >>= λ ls. pure (chained k a ls)) x e e rest t (rw (link_stops d k rest l h) refl)

lift_expr : (c : ℕ → Bool) (d : ℕ) (x : Toks) (e : Ex) (rest : Toks) → 7 < stop (first rest) → Takes c (chain (below d) 6) x e rest → Takes c (expr (below d)) x e rest
lift_expr c d x e rest h t = takes_map c (chain (below d) 6) (λ c. look (λ t. choice_by (below d) c (sees Question t))) x e e rest t (rw (no_question (first rest) h) refl)

or_less : (k t : ℕ) → k ≤ suc t → (k ≡ suc t) ⊎ (k ≤ t)
or_less k t h = grind (arith, h)

climb : (c : ℕ → Bool) (d : ℕ) (x : Toks) (e : Ex) (rest : Toks) (t k : ℕ) → k ≤ t → t ≤ 6 → t < stop (first rest) → Takes c (chain (below d) k) x e rest → Takes c (chain (below d) t) x e rest
climb c d x e rest zero k h l s p = let same : k ≡ 0 = omega (arith, h) in subst (λ (k : ℕ). Takes c (chain (below d) k) x e rest) same p
climb c d x e rest (suc t) k h l s p = go (or_less k t h) (λ q. climb c d x e rest t k q (omega (arith, l)) (omega (arith, s)) p)
  where
    go : (k ≡ suc t) ⊎ (k ≤ t) → (k ≤ t → Takes c (chain (below d) t) x e rest) → Takes c (chain (below d) (suc t)) x e rest
    go (inl same) ih = subst (λ (k : ℕ). Takes c (chain (below d) k) x e rest) same p
    go (inr less) ih = lift_chain c d t x e rest (omega (arith, l)) s (ih less)

-- the reader of a level up to 7
abbrev pub reader : ℕ → ℕ → Parser Ex
reader d zero = post (below d)
reader d (suc k) = chain (below d) k

pub record Accepts (e : Ex) : Type 0 where
  pub atomic : (d : ℕ) (rest : Toks) → is_atom e ≡ true → Binds 0 e → Takes (within e d) (atom (below d)) (spell_ex e) e rest
  pub upto : (l d : ℕ) (rest : Toks) → l ≤ 7 → Binds l e → 0 < stop (first rest) → l ≤ stop (first rest) → Takes (within e d) (reader d l) (spell_ex e) e rest
  pub whole : (d : ℕ) (rest : Toks) → Binds 8 e → 7 < stop (first rest) → Takes (within e d) (expr (below d)) (spell_ex e) e rest

plain_front : (e : Ex) (ts : Toks) → is_atom e ≡ true → sees_unary (first (spell_ex e ++ ts)) ≡ false
plain_front (Literal (Number n)) ts h = refl
plain_front (Literal (Quote b)) ts h = refl
plain_front (Literal True) ts h = refl
plain_front (Literal False) ts h = refl
plain_front (Literal Null) ts h = refl
plain_front (Literal Undefined) ts h = refl
plain_front (Var at bytes) ts h = refl
plain_front (Round e) ts h = refl
plain_front (ListOf es) ts h = refl
plain_front (Object ps) ts h = refl
plain_front (Member e s ss) ts h = absurd cc
plain_front (Unary s e) ts h = absurd cc
plain_front (Chain k a s b ls) ts h = absurd cc
plain_front (Choice c a b) ts h = absurd cc

-- what is read as a member is read at each level
from_post : (e : Ex) → ((rest : Toks) → sees_unary (first (spell_ex e ++ rest)) ≡ false) → ((d : ℕ) (rest : Toks) → Binds 0 e → 0 < stop (first rest) → Takes (within e d) (post (below d)) (spell_ex e) e rest)
    → (l d : ℕ) (rest : Toks) → l ≤ 7 → Binds 0 e → 0 < stop (first rest) → l ≤ stop (first rest) → Takes (within e d) (reader d l) (spell_ex e) e rest
from_post e f h zero d rest l b s u = h d rest b s
from_post e f h (suc k) d rest l b s u = climb (within e d) d (spell_ex e) e rest k 0 (omega arith) (omega (arith, l)) u (lift_unary (within e d) d (spell_ex e) e rest (f rest) (h d rest b s))

from_atom : (e : Ex) → is_atom e ≡ true → ((l : ℕ) → Binds l e → Binds 0 e) → ((d : ℕ) (rest : Toks) → Binds 0 e → Takes (within e d) (atom (below d)) (spell_ex e) e rest) → Accepts e
from_atom e a down h = record {
  atomic = λ d rest q b. h d rest b;
  upto = λ l d rest m b s u. from_post e (λ rest. plain_front e rest a) (λ d rest b s. lift_post (within e d) d (spell_ex e) e rest s (h d rest b)) l d rest m (down l b) s u;
  whole = λ d rest b s. lift_expr (within e d) d (spell_ex e) e rest s (from_post e (λ rest. plain_front e rest a) (λ d rest b s. lift_post (within e d) d (spell_ex e) e rest s (h d rest b)) 7 d rest (omega arith) (down 8 b) (omega (arith, s)) (omega (arith, s)));
}

-- ---- the parts of a list stop where they should
link_front : (ls : Links) (k : ℕ) (rest : Toks) → k < 6 → BindsLinks k ls → suc k < stop (first rest) → suc k ≤ stop (first (spell_links ls ++ rest))
link_front NoLinks k rest l b s = omega (arith, s)
link_front (ThenLink sign e ls) k rest l b s = let here = stop_link sign (rw b.0 l) in rw (here, b.0) omega arith

sign_stop : (s : Sign) (k : ℕ) → k < 6 → level_of s ≡ k → stop (Some (Fixed s)) ≡ suc k
sign_stop s k l e = stop_link s (rw e l) ∙ ap suc e

closing : {A : Type 0} (s : Sign) (a : A) (rest : Toks) → (expect s >>= λ _. pure a) (Fixed s ∷ rest) ≡ Ok (a, rest)
closing s a rest = rw (take_sign s rest) refl

-- something between two brackets
bracketed : {A C : Type 0} (c : ℕ → Bool) (o s : Sign) (p : Parser A) (make : A → C) (x : Toks) (a : A) (rest : Toks) → Takes c p x a (Fixed s ∷ rest)
    → Takes (λ n. c (n - 1)) (expect o >>= λ _. p >>= λ a. expect s >>= λ _. pure (make a)) (Fixed o ∷ (x ++ Fixed s ∷ [])) (make a) rest
bracketed c o s p make x a rest h = behind_sign c o (p >>= λ a. expect s >>= λ _. pure (make a)) (x ++ Fixed s ∷ []) (make a) rest
    (takes_first c p (λ a. expect s >>= λ _. pure (make a)) x (Fixed s ∷ []) a (make a) rest h (closing s (make a) rest))

value : (e : Ex) (w : Word) (d : ℕ) (rest : Toks) → Takes (within e d) (expr (below d)) (spell_ex e) e rest → Takes (λ n. within e d (n - 1)) (valued (under d) w) (Fixed Colon ∷ spell_ex e) (Keyed w e) rest
value e w d rest h = behind_sign (within e d) Colon (expr (below d) >>= λ e. pure (Keyed w e)) (spell_ex e) (Keyed w e) rest (takes_map (within e d) (expr (below d)) (λ e. pure (Keyed w e)) (spell_ex e) e (Keyed w e) rest h refl)

linked : (s : Sign) (e : Ex) (k d : ℕ) (rest : Toks) → level_of s ≡ k → Takes (within e d) (chain (below d) k) (spell_ex e) e rest → Takes (λ n. within e d (n - 1)) (link k (chain (below d) k)) (Fixed s ∷ spell_ex e) (s, e) rest
linked s e k d rest l h = behind (within e d) (link_of k) (Fixed s) s (λ s. chain (below d) k >>= λ e. pure (s, e)) (spell_ex e) (s, e) rest (is_link k s l) (takes_map (within e d) (chain (below d) k) (λ e. pure (s, e)) (spell_ex e) e (s, e) rest h refl)

less_two : (n l : ℕ) → n - suc l ≡ n - 1 - l
less_two n l = omega arith

literal_is : (l : Lit) (d : ℕ) (rest : Toks) → atom (below d) (spell_lit l ∷ rest) ≡ Ok (Literal l, rest)
literal_is (Number n) d rest = rw (take_token lit_of (Integer n) (Number n) rest refl) refl
literal_is (Quote b) d rest = rw (take_token lit_of (Text b) (Quote b) rest refl) refl
literal_is True d rest = rw (take_token lit_of (spell_lit True) True rest refl) refl
literal_is False d rest = rw (take_token lit_of (spell_lit False) False rest refl) refl
literal_is Null d rest = rw (take_token lit_of (spell_lit Null) Null rest refl) refl
literal_is Undefined d rest = rw (take_token lit_of (spell_lit Undefined) Undefined rest refl) refl

var_is : (at : ℕ) (bytes : List ℕ) (d : ℕ) (rest : Toks) → atom (below d) (Name at bytes ∷ rest) ≡ Ok (Var at bytes, rest)
var_is at bytes d rest = rw (take_token name_of (Name at bytes) (at, bytes) rest refl) refl

-- from one level on
from_level : (e : Ex) (k l d : ℕ) (rest : Toks) → Takes (within e d) (chain (below d) k) (spell_ex e) e rest → k < l → l ≤ 7 → l ≤ stop (first rest) → Takes (within e d) (reader d l) (spell_ex e) e rest
from_level e k zero d rest h a b u = absurd (omega (arith, a))
from_level e k (suc t) d rest h a b u = climb (within e d) d (spell_ex e) e rest t k (omega (arith, a)) (omega (arith, b)) (omega (arith, u)) h

member_front : (e : Ex) (s : Suffix) (ss : Suffixes) (rest : Toks) → is_atom e ≡ true → sees_unary (first (spell_ex (Member e s ss) ++ rest)) ≡ false
member_front e s ss rest a = rw (append_assoc (spell_ex e) (spell_suffix s ++ spell_suffixes ss) rest) (plain_front e ((spell_suffix s ++ spell_suffixes ss) ++ rest) a)

from_member : (e : Ex) (s : Suffix) (ss : Suffixes) → ((d : ℕ) (rest : Toks) → Binds 0 (Member e s ss) → 0 < stop (first rest) → Takes (within (Member e s ss) d) (post (below d)) (spell_ex (Member e s ss)) (Member e s ss) rest) → Accepts (Member e s ss)
from_member e s ss h = record {
  atomic = λ d rest q b. absurd cc;
  upto = λ l d rest m b k u. from_post (Member e s ss) (λ rest. member_front e s ss rest b.0) h l d rest m b k u;
  whole = λ d rest b k. lift_expr (within (Member e s ss) d) d (spell_ex (Member e s ss)) (Member e s ss) rest k (from_post (Member e s ss) (λ rest. member_front e s ss rest b.0) h 7 d rest (omega arith) b (omega (arith, k)) (omega (arith, k)));
}

signs : (s : Sign) (e : Ex) (d : ℕ) (rest : Toks) → is_unary s ≡ true → ((d : ℕ) → Takes (within e d) (chain (below d) 0) (spell_ex e) e rest) → Takes (within (Unary s e) d) (chain (below d) 0) (spell_ex (Unary s e)) (Unary s e) rest
unfolding chain
signs s e d rest u h = takes_same (within (Unary s e) d) (unary (below d)) (opened (below d) unary_of signed) (Fixed s ∷ spell_ex e) (Unary s e) rest (rw u refl)
    (takes_opened (within e) unary_of signed (Fixed s) s (spell_ex e) (Unary s e) rest d (is_unary_sign s u)
    (λ d. behind (within e d) unary_of (Fixed s) s (λ s. unary (below d) >>= λ e. pure (Unary s e)) (spell_ex e) (Unary s e) rest (is_unary_sign s u) (takes_map (within e d) (unary (below d)) (λ e. pure (Unary s e)) (spell_ex e) e (Unary s e) rest (h d) refl)))

from_unary : (s : Sign) (e : Ex) → ((d : ℕ) (rest : Toks) → Binds 1 (Unary s e) → 0 < stop (first rest) → Takes (within (Unary s e) d) (chain (below d) 0) (spell_ex (Unary s e)) (Unary s e) rest) → Accepts (Unary s e)
from_unary s e h = record {
  atomic = λ d rest q b. absurd cc;
  upto = λ l d rest m b k u. from_level (Unary s e) 0 l d rest (h d rest (omega arith, b.1, b.2) k) b.0 m u;
  whole = λ d rest b k. lift_expr (within (Unary s e) d) d (spell_ex (Unary s e)) (Unary s e) rest k (from_level (Unary s e) 0 7 d rest (h d rest (omega arith, b.1, b.2) (omega (arith, k))) (omega arith) (omega arith) (omega (arith, k)));
}

from_chain : (k : ℕ) (a : Ex) (s : Sign) (x : Ex) (ls : Links) → ((d : ℕ) (rest : Toks) → Binds 8 (Chain k a s x ls) → suc k < stop (first rest) → Takes (within (Chain k a s x ls) d) (chain (below d) (suc k)) (spell_ex (Chain k a s x ls)) (Chain k a s x ls) rest) → Accepts (Chain k a s x ls)
from_chain k a s x ls h = record {
  atomic = λ d rest q b. absurd cc;
  upto = λ l d rest m b z u. from_level (Chain k a s x ls) (suc k) l d rest (h d rest (omega (arith, b.1), b.1, b.2, b.3, b.4, b.5) (omega (arith, b.0, u))) b.0 m u;
  whole = λ d rest b z. lift_expr (within (Chain k a s x ls) d) d (spell_ex (Chain k a s x ls)) (Chain k a s x ls) rest z (from_level (Chain k a s x ls) (suc k) 7 d rest (h d rest b (omega (arith, b.1, z))) (omega (arith, b.1)) (omega arith) (omega (arith, z)));
}

from_choice : (c x y : Ex) → ((d : ℕ) (rest : Toks) → Binds 8 (Choice c x y) → 7 < stop (first rest) → Takes (within (Choice c x y) d) (expr (below d)) (spell_ex (Choice c x y)) (Choice c x y) rest) → Accepts (Choice c x y)
from_choice c x y h = record {
  atomic = λ d rest q b. absurd cc;
  upto = λ l d rest m b z u. absurd (omega (arith, b.0, m));
  whole = h;
}

-- the branches of a choice
branches : (c x y : Ex) (d : ℕ) (rest : Toks) → Takes (within x d) (expr (below d)) (spell_ex x) x (Fixed Colon ∷ (spell_ex y ++ rest)) → Takes (within y d) (expr (below d)) (spell_ex y) y rest
    → Takes (λ n. within x d (n - 1) && within y d (n - 1 - length (spell_ex x) - 1)) (choice c (under d)) (Fixed Question ∷ (spell_ex x ++ Fixed Colon ∷ spell_ex y)) (Choice c x y) rest
branches c x y d rest h k = behind_sign (λ m. within x d m && within y d (m - length (spell_ex x) - 1)) Question (expr (below d) >>= λ x. expect Colon >>= λ _. expr (below d) >>= λ y. pure (Choice c x y)) (spell_ex x ++ Fixed Colon ∷ spell_ex y) (Choice c x y) rest
    (takes_bind (within x d) (λ n. within y d (n - 1)) (expr (below d)) (λ x. expect Colon >>= λ _. expr (below d) >>= λ y. pure (Choice c x y)) (spell_ex x) (Fixed Colon ∷ spell_ex y) x (Choice c x y) rest h
    (behind_sign (within y d) Colon (expr (below d) >>= λ y. pure (Choice c x y)) (spell_ex y) (Choice c x y) rest (takes_map (within y d) (expr (below d)) (λ y. pure (Choice c x y)) (spell_ex y) y (Choice c x y) rest k refl)))

chosen : (c x y : Ex) (d : ℕ) (rest : Toks) → Takes (within c d) (chain (below d) 6) (spell_ex c) c (Fixed Question ∷ ((spell_ex x ++ Fixed Colon ∷ spell_ex y) ++ rest))
    → ((d : ℕ) → Takes (λ n. within x d (n - 1) && within y d (n - 1 - length (spell_ex x) - 1)) (choice c (under d)) (Fixed Question ∷ (spell_ex x ++ Fixed Colon ∷ spell_ex y)) (Choice c x y) rest)
    → Takes (within (Choice c x y) d) (expr (below d)) (spell_ex (Choice c x y)) (Choice c x y) rest
chosen c x y d rest h k = takes_bind (within c d) (λ n. opens d n (λ e m. within x e m && within y e (m - length (spell_ex x) - 1))) (chain (below d) 6) (λ c. look (λ t. choice_by (below d) c (sees Question t))) (spell_ex c) (Fixed Question ∷ (spell_ex x ++ Fixed Colon ∷ spell_ex y)) c (Choice c x y) rest h
    (takes_opened (λ e m. within x e m && within y e (m - length (spell_ex x) - 1)) (fixed Question) (choice c) (Fixed Question) tt (spell_ex x ++ Fixed Colon ∷ spell_ex y) (Choice c x y) rest d (is_fixed Question) k)

chained_links : (k : ℕ) (a : Ex) (s : Sign) (x : Ex) (ls : Links) (d : ℕ) (rest : Toks) → Takes (within a d) (chain (below d) k) (spell_ex a) a ((Fixed s ∷ (spell_ex x ++ spell_links ls)) ++ rest)
    → Takes (within_links (ThenLink s x ls) d) (links k (chain (below d) k)) (Fixed s ∷ (spell_ex x ++ spell_links ls)) (ThenLink s x ls) rest → Takes (within (Chain k a s x ls) d) (chain (below d) (suc k)) (spell_ex (Chain k a s x ls)) (Chain k a s x ls) rest
unfolding chain
chained_links k a s x ls d rest h t = takes_bind (within a d) (within_links (ThenLink s x ls) d) (chain (below d) k) (λ a. links k (chain (below d) k) >>= λ ls. pure (chained k a ls)) (spell_ex a) (Fixed s ∷ (spell_ex x ++ spell_links ls)) a (Chain k a s x ls) rest h
    (takes_map (within_links (ThenLink s x ls) d) (links k (chain (below d) k)) (λ ls. pure (chained k a ls)) (Fixed s ∷ (spell_ex x ++ spell_links ls)) (ThenLink s x ls) (Chain k a s x ls) rest t refl)

-- one more link
more_links : (s : Sign) (x : Ex) (ls : Links) (k d : ℕ) (rest : Toks) → k < 6 → level_of s ≡ k → Takes (within x d) (chain (below d) k) (spell_ex x) x (spell_links ls ++ rest) → Takes (within_links ls d) (links k (chain (below d) k)) (spell_links ls) ls rest
    → Takes (within_links (ThenLink s x ls) d) (links k (chain (below d) k)) (spell_links (ThenLink s x ls)) (ThenLink s x ls) rest
more_links s x ls k d rest l e h t = takes_as (λ n. within x d (n - 1) && within_links ls d (n - length (Fixed s ∷ spell_ex x))) (within_links (ThenLink s x ls) d) (links k (chain (below d) k)) (spell_links (ThenLink s x ls)) (ThenLink s x ls) rest
    (λ n. ap (λ (m : ℕ). within x d (n - 1) && within_links ls d m) (less_two n (length (spell_ex x))))
    (many_cons_at (begins_link k) (link k (chain (below d) k)) NoLinks then_link (links k (chain (below d) k)) (λ ts. chain_good d k (omega (arith, l)) ts l) (λ n. within x d (n - 1)) (within_links ls d) (Fixed s ∷ spell_ex x) (Fixed s) (spell_ex x) (spell_links ls) (s, x) ls rest refl (rw (is_link k s e) refl)
    (linked s x k d (spell_links ls ++ rest) e h) t)

-- what is left of the tokens is counted for the elements, members and suffixes behind
prop_front : (p : Prop) → (t : Tok) × (x : Toks) × (spell_prop p ≡ t ∷ x) × (sees CloseBrace (Some t) ≡ false)
prop_front (Keyed (Named at bytes) e) = (_, _, refl, refl)
prop_front (Keyed (Reserve r) e) = (_, _, refl, refl)
prop_front (Quoted b e) = (_, _, refl, refl)
prop_front (Short at bytes) = (_, _, refl, refl)

more_elem : (e : Ex) (es : Elems) (d : ℕ) (rest : Toks) → Binds 8 e → Takes (within e d) (expr (below d)) (spell_ex e) e (Fixed Comma ∷ (spell_elems es ++ Fixed CloseSquare ∷ rest)) → Takes (within_elems es d) (elems (under d)) (spell_elems es) es (Fixed CloseSquare ∷ rest)
    → Takes (within_elems (ThenElem e es) d) (elems (under d)) (spell_elems (ThenElem e es)) (ThenElem e es) (Fixed CloseSquare ∷ rest)
more_elem e es d rest b h t = let f = begun e 8 b in separated_then_at CloseSquare (expr (below d)) NoElems LastElem ThenElem (elems (under d)) (elems_is d (under d) (goods_under d)) refl refl (within e d) (within_elems es d) (spell_ex e) f.0 f.1 (spell_elems es) e es (Fixed CloseSquare ∷ rest) f.2 (no_square f.0 f.3) h t

last_elem : (e : Ex) (d : ℕ) (rest : Toks) → Binds 8 e → Takes (within e d) (expr (below d)) (spell_ex e) e (Fixed CloseSquare ∷ rest) → Takes (within_elems (LastElem e) d) (elems (under d)) (spell_elems (LastElem e)) (LastElem e) (Fixed CloseSquare ∷ rest)
last_elem e d rest b h = let f = begun e 8 b in separated_last_at CloseSquare (expr (below d)) NoElems LastElem ThenElem (elems (under d)) (elems_is d (under d) (goods_under d)) refl refl (within e d) (spell_ex e) f.0 f.1 e rest f.2 (no_square f.0 f.3) h

more_prop : (p : Prop) (ps : Props) (d : ℕ) (rest : Toks) → Takes (within_prop p d) (prop (under d)) (spell_prop p) p (Fixed Comma ∷ (spell_props ps ++ Fixed CloseBrace ∷ rest)) → Takes (within_props ps d) (props (under d)) (spell_props ps) ps (Fixed CloseBrace ∷ rest)
    → Takes (within_props (ThenProp p ps) d) (props (under d)) (spell_props (ThenProp p ps)) (ThenProp p ps) (Fixed CloseBrace ∷ rest)
more_prop p ps d rest h t = let f = prop_front p in separated_then_at CloseBrace (prop (under d)) NoProps LastProp ThenProp (props (under d)) (props_is d (under d) (goods_under d)) refl refl (within_prop p d) (within_props ps d) (spell_prop p) f.0 f.1 (spell_props ps) p ps (Fixed CloseBrace ∷ rest) f.2 f.3 h t

last_prop : (p : Prop) (d : ℕ) (rest : Toks) → Takes (within_prop p d) (prop (under d)) (spell_prop p) p (Fixed CloseBrace ∷ rest) → Takes (within_props (LastProp p) d) (props (under d)) (spell_props (LastProp p)) (LastProp p) (Fixed CloseBrace ∷ rest)
last_prop p d rest h = let f = prop_front p in separated_last_at CloseBrace (prop (under d)) NoProps LastProp ThenProp (props (under d)) (props_is d (under d) (goods_under d)) refl refl (within_prop p d) (spell_prop p) f.0 f.1 p rest f.2 f.3 h

suffix_front : (s : Suffix) → (t : Tok) × (x : Toks) × (spell_suffix s ≡ t ∷ x) × (begins_suffix t ≡ true)
suffix_front (Dot w) = (_, _, refl, refl)
suffix_front (Index e) = (_, _, refl, refl)

more_suffix : (s : Suffix) (ss : Suffixes) (d : ℕ) (rest : Toks) → Takes (within_suffix s d) (suffix (below d)) (spell_suffix s) s (spell_suffixes ss ++ rest) → Takes (within_suffixes ss d) (suffixes (below d)) (spell_suffixes ss) ss rest
    → Takes (within_suffixes (ThenSuffix s ss) d) (suffixes (below d)) (spell_suffixes (ThenSuffix s ss)) (ThenSuffix s ss) rest
more_suffix s ss d rest h t = let f = suffix_front s in many_cons_at begins_suffix (suffix (below d)) NoSuffixes ThenSuffix (suffixes (below d)) (suffixes_is d (below d) (good_below d)) (within_suffix s d) (within_suffixes ss d) (spell_suffix s) f.0 f.1 (spell_suffixes ss) s ss rest f.2 f.3 h t

dot_is : (w : Word) (d : ℕ) (rest : Toks) → suffix (below d) (Fixed Point ∷ spell_word w ∷ rest) ≡ Ok (Dot w, rest)
dot_is w d rest = rw (take_sign Point (spell_word w ∷ rest), take_token word_of (spell_word w) w rest (is_word w)) refl

short_is : (at : ℕ) (bytes : List ℕ) (d : ℕ) (rest : Toks) → sees Colon (first rest) ≡ false → prop (under d) (Name at bytes ∷ rest) ≡ Ok (Short at bytes, rest)
short_is at bytes d rest h = rw (take_token name_of (Name at bytes) (at, bytes) rest refl, h) refl

keyed : (w : Word) (e : Ex) (d : ℕ) (rest : Toks) → Takes (within e d) (expr (below d)) (spell_ex e) e rest → Takes (within_prop (Keyed w e) d) (prop (under d)) (spell_prop (Keyed w e)) (Keyed w e) rest
keyed (Named at bytes) e d rest h = behind (λ n. within e d (n - 1)) name_of (Name at bytes) (at, bytes) (λ n. look (λ c. short_by (under d) n (sees Colon c))) (Fixed Colon ∷ spell_ex e) (Keyed (Named at bytes) e) rest refl (value e (Named at bytes) d rest h)
keyed (Reserve r) e d rest h = behind (λ n. within e d (n - 1)) word_of (Kept r) (Reserve r) (λ w. valued (under d) w) (Fixed Colon ∷ spell_ex e) (Keyed (Reserve r) e) rest refl (value e (Reserve r) d rest h)

quoted : (bytes : List ℕ) (e : Ex) (d : ℕ) (rest : Toks) → Takes (within e d) (expr (below d)) (spell_ex e) e rest → Takes (within_prop (Quoted bytes e) d) (prop (under d)) (spell_prop (Quoted bytes e)) (Quoted bytes e) rest
quoted bytes e d rest h = behind (λ n. within e d (n - 1)) text_of (Text bytes) bytes (λ t. expect Colon >>= λ _. expr (below d) >>= λ e. pure (Quoted t e)) (Fixed Colon ∷ spell_ex e) (Quoted bytes e) rest refl
    (behind_sign (within e d) Colon (expr (below d) >>= λ e. pure (Quoted bytes e)) (spell_ex e) (Quoted bytes e) rest (takes_map (within e d) (expr (below d)) (λ e. pure (Quoted bytes e)) (spell_ex e) e (Quoted bytes e) rest h refl))

with_members : (e : Ex) (s : Suffix) (ss : Suffixes) (d : ℕ) (rest : Toks) → Takes (within e d) (atom (below d)) (spell_ex e) e ((spell_suffix s ++ spell_suffixes ss) ++ rest) → Takes (within_suffixes (ThenSuffix s ss) d) (suffixes (below d)) (spell_suffix s ++ spell_suffixes ss) (ThenSuffix s ss) rest
    → Takes (within (Member e s ss) d) (post (below d)) (spell_ex (Member e s ss)) (Member e s ss) rest
with_members e s ss d rest h t = takes_bind (within e d) (within_suffixes (ThenSuffix s ss) d) (atom (below d)) (λ e. suffixes (below d) >>= λ ss. pure (member e ss)) (spell_ex e) (spell_suffix s ++ spell_suffixes ss) e (Member e s ss) rest h
    (takes_map (within_suffixes (ThenSuffix s ss) d) (suffixes (below d)) (λ ss. pure (member e ss)) (spell_suffix s ++ spell_suffixes ss) (ThenSuffix s ss) (Member e s ss) rest t refl)

mutual
  pub accept : (e : Ex) → Accepts e
  accept (Literal l) = from_atom (Literal l) refl (λ l b. tt) (λ d rest b. takes_pure (within (Literal l) d) (atom (below d)) (spell_lit l ∷ []) (Literal l) rest (literal_is l d rest) (λ n. refl))
  accept (Var at bytes) = from_atom (Var at bytes) refl (λ l b. tt) (λ d rest b. takes_pure (within (Var at bytes) d) (atom (below d)) (Name at bytes ∷ []) (Var at bytes) rest (var_is at bytes d rest) (λ n. refl))
  accept (Round e) = from_atom (Round e) refl (λ l b. b) (λ d rest b. takes_opened (within e) (fixed OpenRound) rounded (Fixed OpenRound) tt (spell_ex e ++ Fixed CloseRound ∷ []) (Round e) rest d (is_fixed OpenRound)
      (λ d. bracketed (within e d) OpenRound CloseRound (expr (below d)) Round (spell_ex e) e rest ((accept e).whole d (Fixed CloseRound ∷ rest) b (omega arith))))
  accept (ListOf es) = from_atom (ListOf es) refl (λ l b. b) (λ d rest b. takes_opened (within_elems es) (fixed OpenSquare) listed (Fixed OpenSquare) tt (spell_elems es ++ Fixed CloseSquare ∷ []) (ListOf es) rest d (is_fixed OpenSquare)
      (λ d. bracketed (within_elems es d) OpenSquare CloseSquare (elems (under d)) ListOf (spell_elems es) es rest (accept_elems es d rest b)))
  accept (Object ps) = from_atom (Object ps) refl (λ l b. b) (λ d rest b. takes_opened (within_props ps) (fixed OpenBrace) objected (Fixed OpenBrace) tt (spell_props ps ++ Fixed CloseBrace ∷ []) (Object ps) rest d (is_fixed OpenBrace)
      (λ d. bracketed (within_props ps d) OpenBrace CloseBrace (props (under d)) Object (spell_props ps) ps rest (accept_props ps d rest b)))
  accept (Member e s ss) = from_member e s ss (λ d rest b h. with_members e s ss d rest ((accept e).atomic d ((spell_suffix s ++ spell_suffixes ss) ++ rest) b.0 b.1)
      (more_suffix s ss d rest (accept_suffix s d (spell_suffixes ss ++ rest) b.2) (accept_suffixes ss d rest b.3 h)))
  accept (Unary s e) = from_unary s e (λ d rest b h. signs s e d rest b.1 (λ d. (accept e).upto 1 d rest (omega arith) b.2 h (omega (arith, h))))
  accept (Chain k a s x ls) = from_chain k a s x ls (λ d rest b h. let here = sign_stop s k b.1 b.3 in
      chained_links k a s x ls d rest ((accept a).upto (suc k) d ((Fixed s ∷ (spell_ex x ++ spell_links ls)) ++ rest) (omega (arith, b.1)) b.2 (rw here omega arith) (rw here omega arith))
      (more_links s x ls k d rest b.1 b.3 ((accept x).upto (suc k) d (spell_links ls ++ rest) (omega (arith, b.1)) b.4 (omega (arith, link_front ls k rest b.1 b.5 h)) (link_front ls k rest b.1 b.5 h)) (accept_links ls k d rest b.1 b.5 h)))
  accept (Choice c x y) = from_choice c x y (λ d rest b h. chosen c x y d rest ((accept c).upto 7 d (Fixed Question ∷ ((spell_ex x ++ Fixed Colon ∷ spell_ex y) ++ rest)) (omega arith) b.1 (omega arith) (omega arith))
      (λ d. branches c x y d rest ((accept x).whole d (Fixed Colon ∷ (spell_ex y ++ rest)) b.2 (omega arith)) ((accept y).whole d rest b.3 h)))

  accept_elems : (es : Elems) (d : ℕ) (rest : Toks) → BindsElems es → Takes (within_elems es d) (elems (under d)) (spell_elems es) es (Fixed CloseSquare ∷ rest)
  accept_elems NoElems d rest b = separated_nil CloseSquare (expr (below d)) NoElems LastElem ThenElem (elems (under d)) (elems_is d (under d) (goods_under d)) refl refl rest
  accept_elems (LastElem e) d rest b = last_elem e d rest b ((accept e).whole d (Fixed CloseSquare ∷ rest) b (omega arith))
  accept_elems (ThenElem e es) d rest b = more_elem e es d rest b.0 ((accept e).whole d (Fixed Comma ∷ (spell_elems es ++ Fixed CloseSquare ∷ rest)) b.0 (omega arith)) (accept_elems es d rest b.1)

  accept_prop : (p : Prop) (d : ℕ) (rest : Toks) → BindsProp p → 7 < stop (first rest) → sees Colon (first rest) ≡ false → Takes (within_prop p d) (prop (under d)) (spell_prop p) p rest
  accept_prop (Keyed w e) d rest b h c = keyed w e d rest ((accept e).whole d rest b h)
  accept_prop (Quoted bytes e) d rest b h c = quoted bytes e d rest ((accept e).whole d rest b h)
  accept_prop (Short at bytes) d rest b h c = takes_pure (λ n. true) (prop (under d)) (Name at bytes ∷ []) (Short at bytes) rest (short_is at bytes d rest c) (λ n. refl)

  accept_props : (ps : Props) (d : ℕ) (rest : Toks) → BindsProps ps → Takes (within_props ps d) (props (under d)) (spell_props ps) ps (Fixed CloseBrace ∷ rest)
  accept_props NoProps d rest b = separated_nil CloseBrace (prop (under d)) NoProps LastProp ThenProp (props (under d)) (props_is d (under d) (goods_under d)) refl refl rest
  accept_props (LastProp p) d rest b = last_prop p d rest (accept_prop p d (Fixed CloseBrace ∷ rest) b (omega arith) refl)
  accept_props (ThenProp p ps) d rest b = more_prop p ps d rest (accept_prop p d (Fixed Comma ∷ (spell_props ps ++ Fixed CloseBrace ∷ rest)) b.0 (omega arith) refl) (accept_props ps d rest b.1)

  accept_suffix : (s : Suffix) (d : ℕ) (rest : Toks) → BindsSuffix s → Takes (within_suffix s d) (suffix (below d)) (spell_suffix s) s rest
  accept_suffix (Dot w) d rest b = takes_pure (λ n. true) (suffix (below d)) (Fixed Point ∷ spell_word w ∷ []) (Dot w) rest (dot_is w d rest) (λ n. refl)
  accept_suffix (Index e) d rest b = takes_opened (within e) (fixed OpenSquare) index (Fixed OpenSquare) tt (spell_ex e ++ Fixed CloseSquare ∷ []) (Index e) rest d (is_fixed OpenSquare)
      (λ d. bracketed (within e d) OpenSquare CloseSquare (expr (below d)) Index (spell_ex e) e rest ((accept e).whole d (Fixed CloseSquare ∷ rest) b (omega arith)))

  accept_suffixes : (ss : Suffixes) (d : ℕ) (rest : Toks) → BindsSuffixes ss → 0 < stop (first rest) → Takes (within_suffixes ss d) (suffixes (below d)) (spell_suffixes ss) ss rest
  accept_suffixes NoSuffixes d rest b h = takes_pure (λ n. true) (suffixes (below d)) [] NoSuffixes rest (suffix_stops d rest h) (λ n. refl)
  accept_suffixes (ThenSuffix s ss) d rest b h = more_suffix s ss d rest (accept_suffix s d (spell_suffixes ss ++ rest) b.0) (accept_suffixes ss d rest b.1 h)

  accept_links : (ls : Links) (k d : ℕ) (rest : Toks) → k < 6 → BindsLinks k ls → suc k < stop (first rest) → Takes (within_links ls d) (links k (chain (below d) k)) (spell_links ls) ls rest
  accept_links NoLinks k d rest l b h = takes_pure (λ n. true) (links k (chain (below d) k)) [] NoLinks rest (link_stops d k rest l h) (λ n. refl)
  accept_links (ThenLink s x ls) k d rest l b h = more_links s x ls k d rest l b.0 ((accept x).upto (suc k) d (spell_links ls ++ rest) (omega (arith, l)) b.1 (omega (arith, link_front ls k rest l b.2 h)) (link_front ls k rest l b.2 h)) (accept_links ls k d rest l b.2 h)
