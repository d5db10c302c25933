-- What each rule for expressions does at the next token and the levels that are left.
use Rattle.std.proofs.Common.{◌≡◌, ◌≢◌, ℕ, zero, suc, ◌+◌, ◌-◌, ◌<◌, true, false, List, [], ◌∷◌, ◌++◌, map, Option, Some, None, Result, Ok, Err, refl, sym, ap, ◌∙◌, arith}
use Rattle.script_text.specs.declared.sign.Sign.{Sign}
use Rattle.script_text.specs.declared.sign.Sign.TheVariants.{OpenRound, OpenBrace, CloseBrace, OpenSquare, CloseSquare, Comma, Colon, Question}
use Rattle.script_text.specs.declared.token.Token.{Token}
use Rattle.script_grammar.specs.Tokens.{Tok, Name, Kept, Integer, Text, Fixed, Other, Toks}
use Rattle.script_grammar.specs.Trees.{Ex, Object, Unary, Choice, Member, Links, NoLinks, ThenLink, Elems, NoElems, LastElem, ThenElem, Props, NoProps, LastProp, ThenProp, Suffixes, NoSuffixes, ThenSuffix}
use Rattle.script_parser.specs.Steps.{Unexpected, TooNested, Outcome, Parser, and_then, ◌>>=◌, pure, too_deep, first, look, Why}
use Rattle.script_parser.specs.Tests.{fixed, name_of, unary_of, link_of, is_some, sees, sees_unary, atom_form, RoundForm, ListForm, ObjectForm, VarForm, OtherForm}
use Rattle.script_parser.specs.Parser.{Below, expect, opened, comma_by, elems, member, suffixes, choice_by, rounded, listed, objected, named, atom, index, dot, suffix, post, unary, chain, then_link, choice, expr, chained, below}
use Rattle.script_parser.proofs.Tests.{of_fixed}
use Rattle.script_parser.proofs.Accept.{under, goods_under, chain_good}
use Rattle.script_parser.proofs.Expressions.{elems_is, props_is, suffixes_is}
use Rattle.script_parser.proofs.Statements.{good_below}
use Rattle.script_tree.specs.declared.Label.{Label}
use Rattle.script_tree.specs.declared.Access.{Access}
use Rattle.script_tree.specs.declared.Expr.{Expr}
use Rattle.script_tree.specs.declared.Expr.TheVariants as ex
use Rattle.script_tree.proofs.Views.{view_unary}
use Rattle.script_tree.specs.View.{view, chain_of, links_of, member_of, suffix_of, suffixes_of, prop_of, elems_of, props_of}
use Rattle.js_expr.specs.Next.{made, linked, signed, literals}
use Rattle.script_grammar.specs.Sources.{toks}
use Rattle.js_expr.specs.Reading.{Reads}
use Rattle.js_expr.specs.declared.source.Stop.{Stop}
use Rattle.js_expr.specs.declared.source.Stop.TheVariants as stop
use Rattle.js_expr.specs.Nests.{both, branches_rule}
use Rattle.js_expr.specs.Lists.{links_before, onto_links, suffix_view, one_suffix, suffix_next, suffixes_before, onto_suffixes, elems_before, onto_elems, prop_view, one_prop, props_before, onto_props, one_link, props_at, prop_at, link_at, links_at, objected_at}
use Rattle.js_expr.proofs.Seen.{read_some, read_none, sign_read}

-- the next token is this sign
pub seen_sign : (s : Sign) (ts : Toks) → sees s (first ts) ≡ true → (x : Toks) × (ts ≡ Fixed s ∷ x)
seen_sign s [] h = absurd cc
seen_sign s (t ∷ ts) h = go (fixed s t) refl h
  where
    go : (o : Option (Unit {0})) → fixed s t ≡ o → is_some o ≡ true → (x : Toks) × (t ∷ ts ≡ Fixed s ∷ x)
    go None e h = absurd cc
    go (Some u) e h = (ts, ap (λ (t : Tok). t ∷ ts) (of_fixed s t u e))

pub deep : {A B : Type 0} (f : Tok → Option B) (p : Below → Parser A) (d : ℕ) (ts : Toks) (b : B) → d ≡ 0 → made f (first ts) ≡ Some b → opened (below d) f p ts ≡ Err (TooNested, ts)
unfolding below too_deep
deep f p zero [] b e h = absurd cc
deep f p zero (t ∷ ts) b e h = rw h refl
deep f p (suc d) ts b e h = absurd (omega (arith, e))

pub within : {A B : Type 0} (f : Tok → Option B) (p : Below → Parser A) (d : ℕ) (ts : Toks) → d ≢ 0 → opened (below d) f p ts ≡ p (under (d - 1)) ts
unfolding below
within f p zero ts e = absurd (e refl)
within f p (suc d) ts e = let same : d ≡ suc d - 1 = omega arith in ap (λ (k : ℕ). p (under k) ts) same

pub made_sign : (s : Sign) (ts : Toks) → sees s (first ts) ≡ true → made (fixed s) (first ts) ≡ Some tt
made_sign s [] h = absurd cc
made_sign s (t ∷ ts) h = go (fixed s t) h
  where
    go : (o : Option (Unit {0})) → is_some o ≡ true → o ≡ Some tt
    go None h = absurd cc
    go (Some u) h = refl

-- ---- atoms
round_form : (ts : Toks) → sees OpenRound (first ts) ≡ true → atom_form (first ts) ≡ RoundForm
round_form ts h = let f = seen_sign OpenRound ts h in rw f.1 refl

list_form : (ts : Toks) → sees OpenSquare (first ts) ≡ true → atom_form (first ts) ≡ ListForm
list_form ts h = let f = seen_sign OpenSquare ts h in rw f.1 refl

object_form : (ts : Toks) → sees OpenBrace (first ts) ≡ true → atom_form (first ts) ≡ ObjectForm
object_form ts h = let f = seen_sign OpenBrace ts h in rw f.1 refl

name_form : (ts : Toks) → is_some (made name_of (first ts)) ≡ true → atom_form (first ts) ≡ VarForm
name_form [] h = absurd cc
name_form (Name at bytes ∷ ts) h = refl
name_form (Kept r ∷ ts) h = absurd cc
name_form (Integer n ∷ ts) h = absurd cc
name_form (Text b ∷ ts) h = absurd cc
name_form (Other ∷ ts) h = absurd cc
name_form (Fixed s ∷ ts) h = absurd cc

other_form : (ts : Toks) → sees OpenRound (first ts) ≡ false → sees OpenSquare (first ts) ≡ false → sees OpenBrace (first ts) ≡ false → is_some (made name_of (first ts)) ≡ false → atom_form (first ts) ≡ OtherForm
other_form [] a b c h = refl
other_form (Name at bytes ∷ ts) a b c h = absurd cc
other_form (Kept r ∷ ts) a b c h = refl
other_form (Integer n ∷ ts) a b c h = refl
other_form (Text v ∷ ts) a b c h = refl
other_form (Other ∷ ts) a b c h = refl
other_form (Fixed OpenRound ∷ ts) a b c h = absurd cc
other_form (Fixed OpenSquare ∷ ts) a b c h = absurd cc
other_form (Fixed OpenBrace ∷ ts) a b c h = absurd cc
other_form (Fixed _ ∷ ts) a b c h = refl

pub atom_round_deep : (d : ℕ) (ts : Toks) → d ≡ 0 → sees OpenRound (first ts) ≡ true → atom (below d) ts ≡ Err (TooNested, ts)
atom_round_deep d ts e h = rw (round_form ts h) (deep (fixed OpenRound) rounded d ts tt e (made_sign OpenRound ts h))

pub atom_round : (d : ℕ) (ts : Toks) → d ≢ 0 → sees OpenRound (first ts) ≡ true → atom (below d) ts ≡ rounded (under (d - 1)) ts
atom_round d ts e h = rw (round_form ts h) (within (fixed OpenRound) rounded d ts e)

pub atom_list_deep : (d : ℕ) (ts : Toks) → d ≡ 0 → sees OpenSquare (first ts) ≡ true → atom (below d) ts ≡ Err (TooNested, ts)
atom_list_deep d ts e h = rw (list_form ts h) (deep (fixed OpenSquare) listed d ts tt e (made_sign OpenSquare ts h))

pub atom_list : (d : ℕ) (ts : Toks) → d ≢ 0 → sees OpenSquare (first ts) ≡ true → atom (below d) ts ≡ listed (under (d - 1)) ts
atom_list d ts e h = rw (list_form ts h) (within (fixed OpenSquare) listed d ts e)

pub atom_object_deep : (d : ℕ) (ts : Toks) → d ≡ 0 → sees OpenBrace (first ts) ≡ true → atom (below d) ts ≡ Err (TooNested, ts)
atom_object_deep d ts e h = rw (object_form ts h) (deep (fixed OpenBrace) objected d ts tt e (made_sign OpenBrace ts h))

pub atom_object : (d : ℕ) (ts : Toks) → d ≢ 0 → sees OpenBrace (first ts) ≡ true → atom (below d) ts ≡ objected_at (d - 1) ts
unfolding props_at
atom_object d ts e h = rw (object_form ts h) (within (fixed OpenBrace) objected d ts e)

pub atom_name : (d : ℕ) (ts : Toks) → is_some (made name_of (first ts)) ≡ true → atom (below d) ts ≡ named ts
atom_name d ts h = rw (name_form ts h) refl

pub atom_other : (d : ℕ) (ts : Toks) → sees OpenRound (first ts) ≡ false → sees OpenSquare (first ts) ≡ false → sees OpenBrace (first ts) ≡ false → is_some (made name_of (first ts)) ≡ false → atom (below d) ts ≡ literals ts
unfolding literals
atom_other d ts a b c h = rw (other_form ts a b c h) refl

-- ---- signs
unary_seen : (ts : Toks) (o : Option Sign) → made unary_of (first ts) ≡ o → sees_unary (first ts) ≡ is_some o
unary_seen [] o h = rw (← h) refl
unary_seen (t ∷ ts) o h = ap is_some h

pub unary_deep : (d : ℕ) (ts : Toks) (s : Sign) → d ≡ 0 → Some s ≡ signed ts → unary (below d) ts ≡ Err (TooNested, ts)
unfolding signed
unary_deep d ts s e h = rw (unary_seen ts (Some s) (sym h)) (deep unary_of _ d ts s e (sym h))

pub unary_sign : (d : ℕ) (bytes : List ℕ) (tokens : List Token) (at : ℕ) (s : Sign) → d ≢ 0 → Some s ≡ signed (toks bytes tokens at) → unary (below d) (toks bytes tokens at) ≡ and_then (unary (below (d - 1)) (toks bytes tokens (at + 1))) (λ e. pure (Unary s e))
unfolding signed
unary_sign d bytes tokens at s e h = rw (unary_seen (toks bytes tokens at) (Some s) (sym h)) (within unary_of _ d (toks bytes tokens at) e ∙ rw (read_some unary_of bytes tokens at s (sym h)) refl)

pub unary_post : (d : ℕ) (ts : Toks) → None ≡ signed ts → unary (below d) ts ≡ post (below d) ts
unfolding signed
unary_post d ts h = rw (unary_seen ts None (sym h)) refl

-- ---- chains
pub chained_none : (k : ℕ) (a : Ex) (ls : List (Sign × Expr)) → ls ≡ [] → chained k a (links_before ls NoLinks) ≡ a
chained_none k a ls h = rw h refl

pub chain_none : (d k : ℕ) (ts : Toks) → k ≡ 0 → chain (below d) k ts ≡ unary (below d) ts
unfolding chain
chain_none d zero ts e = refl
chain_none d (suc k) ts e = absurd (omega (arith, e))

pub chain_some : (d k : ℕ) (ts : Toks) → k ≢ 0 → chain (below d) k ts ≡ and_then (chain (below d) (k - 1) ts) (λ a. links_at d (k - 1) >>= λ ls. pure (chained (k - 1) a ls))
unfolding chain links_at
chain_some d zero ts e = absurd (e refl)
chain_some d (suc k) ts e = let same : k ≡ suc k - 1 = omega arith in ap (λ (j : ℕ). and_then (chain (below d) j ts) (λ a. links_at d j >>= λ ls. pure (chained j a ls))) same

pub chained_is : (k : ℕ) (a : Ex) (ls : List (Sign × Expr)) → (ls ≡ [] → ⊥) → chained k a (links_before ls NoLinks) ≡ chain_of k a (map (λ (l : Sign × Expr). (l.0, view l.1)) ls)
chained_is k a [] h = absurd (h refl)
chained_is k a (l ∷ ls) h = ap (Rattle.script_grammar.specs.Trees.Chain k a l.0 (view l.1)) (links_same ls)
  where
    links_same : (ls : List (Sign × Expr)) → links_before ls NoLinks ≡ links_of (map (λ (l : Sign × Expr). (l.0, view l.1)) ls)
    links_same [] = refl
    links_same (l ∷ ls) = ap (ThenLink l.0 (view l.1)) (links_same ls)

links_more : (found : List (Sign × Expr)) (l : Sign × Expr) (out : Outcome Links) → onto_links found (and_then out (λ ls. pure (ThenLink l.0 (view l.1) ls))) ≡ onto_links (found ++ l ∷ []) out
links_more found l (Err e) = refl
links_more found l (Ok q) = ap (λ (ls : Links). Ok (ls, q.1)) (go found)
  where
    go : (found : List (Sign × Expr)) → links_before found (ThenLink l.0 (view l.1) q.0) ≡ links_before (found ++ l ∷ []) q.0
    go [] = refl
    go (m ∷ ms) = ap (ThenLink m.0 (view m.1)) (go ms)

pub links_start : (out : Outcome Links) → onto_links [] out ≡ out
links_start (Ok q) = refl
links_start (Err e) = refl

pub links_end : (d k : ℕ) (found : List (Sign × Expr)) (ts : Toks) → k < 6 → None ≡ linked k ts → onto_links found (links_at d k ts) ≡ Ok (links_before found NoLinks, ts)
unfolding linked links_at
links_end d k found [] l h = rw (chain_good d k (omega (arith, l)) [] l) refl
links_end d k found (t ∷ ts) l h = rw (chain_good d k (omega (arith, l)) (t ∷ ts) l, ← h) refl

-- a step inside a step
nested : {A B C : Type 0} (out : Outcome A) (f : A → B) (g : B → Parser C) → and_then (and_then out (λ a. pure (f a))) g ≡ and_then out (λ a. g (f a))
nested (Ok q) f g = refl
nested (Err e) f g = refl

links_turn : (d k : ℕ) (s : Sign) (ts : Toks) → k < 6 → Some s ≡ linked k ts → links_at d k ts ≡ and_then (link_at d k ts) (λ x. links_at d k >>= λ ls. pure (then_link x ls))
unfolding linked links_at link_at
links_turn d k s [] l h = absurd cc
links_turn d k s (t ∷ ts) l h = chain_good d k (omega (arith, l)) (t ∷ ts) l ∙ rw (← h) refl

pub links_on : (d k : ℕ) (ts rest : Toks) (s : Sign) (x : Sign × Expr) (found : List (Sign × Expr)) → k < 6 → Some s ≡ linked k ts → link_at d k ts ≡ Ok (one_link x, rest) → onto_links found (links_at d k ts) ≡ onto_links (found ++ x ∷ []) (links_at d k rest)
links_on d k ts rest s x found l h c = let whole : links_at d k ts ≡ and_then (links_at d k rest) (λ ls. pure (ThenLink x.0 (view x.1) ls)) = links_turn d k s ts l h ∙ rw c refl in ap (onto_links found) whole ∙ links_more found x (links_at d k rest)

pub links_fault : (d k : ℕ) (ts : Toks) (s : Sign) (x : Why × Toks) (found : List (Sign × Expr)) → k < 6 → Some s ≡ linked k ts → link_at d k ts ≡ Err x → onto_links found (links_at d k ts) ≡ Err x
links_fault d k ts s x found l h c = let whole : links_at d k ts ≡ Err x = links_turn d k s ts l h ∙ rw c refl in ap (onto_links found) whole

-- one operator and its right operand
pub link_some : (d k : ℕ) (bytes : List ℕ) (tokens : List Token) (at : ℕ) (s : Sign) → Some s ≡ linked k (toks bytes tokens at) → link_at d k (toks bytes tokens at) ≡ and_then (chain (below d) k (toks bytes tokens (at + 1))) (λ e. pure (s, e))
unfolding linked link_at
link_some d k bytes tokens at s h = rw (read_some (link_of k) bytes tokens at s (sym h)) refl

pub link_none : (d k : ℕ) (ts : Toks) → None ≡ linked k ts → link_at d k ts ≡ Err (Unexpected, ts)
unfolding linked link_at
link_none d k ts h = rw (read_none (link_of k) ts (sym h)) refl

-- ---- suffixes
pub suffix_deep : (d : ℕ) (ts : Toks) → d ≡ 0 → sees OpenSquare (first ts) ≡ true → suffix (below d) ts ≡ Err (TooNested, ts)
suffix_deep d ts e h = rw h (deep (fixed OpenSquare) index d ts tt e (made_sign OpenSquare ts h))

pub suffix_index : (d : ℕ) (ts : Toks) → d ≢ 0 → sees OpenSquare (first ts) ≡ true → suffix (below d) ts ≡ index (under (d - 1)) ts
suffix_index d ts e h = rw h (within (fixed OpenSquare) index d ts e)

pub suffix_dot : (d : ℕ) (ts : Toks) → sees OpenSquare (first ts) ≡ false → suffix (below d) ts ≡ dot ts
suffix_dot d ts h = rw h refl

pub member_none : (e : Ex) (ss : List (Access × List Expr)) → ss ≡ [] → member e (suffixes_before ss NoSuffixes) ≡ e
member_none e ss h = rw h refl

pub member_is : (e : Ex) (ss : List (Access × List Expr)) → (ss ≡ [] → ⊥) → member e (suffixes_before ss NoSuffixes) ≡ member_of e (map suffix_view ss)
member_is e [] h = absurd (h refl)
member_is e (s ∷ ss) h = ap (Member e (suffix_of (suffix_view s))) (go ss)
  where
    go : (ss : List (Access × List Expr)) → suffixes_before ss NoSuffixes ≡ suffixes_of (map suffix_view ss)
    go [] = refl
    go (s ∷ ss) = ap (ThenSuffix (suffix_of (suffix_view s))) (go ss)

suffixes_more : (found : List (Access × List Expr)) (s : Access × List Expr) (out : Outcome Suffixes) → onto_suffixes found (and_then out (λ ss. pure (ThenSuffix (one_suffix s) ss))) ≡ onto_suffixes (found ++ s ∷ []) out
suffixes_more found s (Err e) = refl
suffixes_more found s (Ok q) = ap (λ (ss : Suffixes). Ok (ss, q.1)) (go found)
  where
    go : (found : List (Access × List Expr)) → suffixes_before found (ThenSuffix (one_suffix s) q.0) ≡ suffixes_before (found ++ s ∷ []) q.0
    go [] = refl
    go (m ∷ ms) = ap (ThenSuffix (suffix_of (suffix_view m))) (go ms)

pub suffixes_start : (out : Outcome Suffixes) → onto_suffixes [] out ≡ out
suffixes_start (Ok q) = refl
suffixes_start (Err e) = refl

pub suffixes_end : (d : ℕ) (found : List (Access × List Expr)) (ts : Toks) → suffix_next (first ts) ≡ false → onto_suffixes found (suffixes (below d) ts) ≡ Ok (suffixes_before found NoSuffixes, ts)
suffixes_end d found [] h = rw (suffixes_is d (below d) (good_below d) []) refl
suffixes_end d found (t ∷ ts) h = rw (suffixes_is d (below d) (good_below d) (t ∷ ts), h) refl

suffixes_go : (d : ℕ) (ts : Toks) → suffix_next (first ts) ≡ true → suffixes (below d) ts ≡ and_then (suffix (below d) ts) (λ s. suffixes (below d) >>= λ ss. pure (ThenSuffix s ss))
suffixes_go d [] h = absurd cc
suffixes_go d (t ∷ ts) h = suffixes_is d (below d) (good_below d) (t ∷ ts) ∙ rw h refl

pub suffixes_on : (d : ℕ) (ts rest : Toks) (s : Access × List Expr) (found : List (Access × List Expr)) → suffix_next (first ts) ≡ true → suffix (below d) ts ≡ Ok (one_suffix s, rest) → onto_suffixes found (suffixes (below d) ts) ≡ onto_suffixes (found ++ s ∷ []) (suffixes (below d) rest)
suffixes_on d ts rest s found h c = ap (onto_suffixes found) (suffixes_go d ts h ∙ rw c refl) ∙ suffixes_more found s (suffixes (below d) rest)

pub suffixes_fault : (d : ℕ) (ts : Toks) (x : Why × Toks) (found : List (Access × List Expr)) → suffix_next (first ts) ≡ true → suffix (below d) ts ≡ Err x → onto_suffixes found (suffixes (below d) ts) ≡ Err x
suffixes_fault d ts x found h c = let whole : suffixes (below d) ts ≡ Err x = suffixes_go d ts h ∙ rw c refl in ap (onto_suffixes found) whole

-- ---- elements
elems_more : (found : List Expr) (e : Expr) (out : Outcome Elems) → onto_elems found (and_then out (λ es. pure (ThenElem (view e) es))) ≡ onto_elems (found ++ e ∷ []) out
elems_more found e (Err x) = refl
elems_more found e (Ok q) = ap (λ (es : Elems). Ok (es, q.1)) (go found)
  where
    go : (found : List Expr) → elems_before found (ThenElem (view e) q.0) ≡ elems_before (found ++ e ∷ []) q.0
    go [] = refl
    go (m ∷ ms) = ap (ThenElem (view m)) (go ms)

pub elems_start : (out : Outcome Elems) → onto_elems [] out ≡ out
elems_start (Ok q) = refl
elems_start (Err e) = refl

elems_closed : (found : List Expr) → elems_before found NoElems ≡ elems_of (map view found) true
elems_closed [] = refl
elems_closed (e ∷ []) = refl
elems_closed (e ∷ f ∷ es) = ap (ThenElem (view e)) (elems_closed (f ∷ es))

elems_ended : (found : List Expr) (e : Expr) → elems_before found (LastElem (view e)) ≡ elems_of (map view (found ++ e ∷ [])) false
elems_ended [] e = refl
elems_ended (f ∷ []) e = refl
elems_ended (f ∷ g ∷ es) e = ap (ThenElem (view f)) (elems_ended (g ∷ es) e)

pub elems_end : (d : ℕ) (found : List Expr) (ts : Toks) → sees CloseSquare (first ts) ≡ true → onto_elems found (elems (under d) ts) ≡ Ok (elems_of (map view found) true, ts)
elems_end d found ts h = let whole : elems (under d) ts ≡ Ok (NoElems, ts) = elems_is d (under d) (goods_under d) ts ∙ rw h refl in ap (onto_elems found) whole ∙ ap (λ (es : Elems). Ok (es, ts)) (elems_closed found)

elems_go : (d : ℕ) (ts : Toks) → sees CloseSquare (first ts) ≡ false → elems (under d) ts ≡ and_then (expr (below d) ts) (λ a. look (λ c. comma_by LastElem ThenElem a (elems (under d)) (sees Comma c)))
elems_go d ts h = elems_is d (under d) (goods_under d) ts ∙ rw h refl

pub elems_last : (d : ℕ) (ts rest : Toks) (e : Expr) (found : List Expr) → sees CloseSquare (first ts) ≡ false → expr (below d) ts ≡ Ok (view e, rest) → sees Comma (first rest) ≡ false → onto_elems found (elems (under d) ts) ≡ Ok (elems_of (map view (found ++ e ∷ [])) false, rest)
elems_last d ts rest e found h c k = let whole : elems (under d) ts ≡ Ok (LastElem (view e), rest) = elems_go d ts h ∙ rw (c, k) refl in ap (onto_elems found) whole ∙ ap (λ (es : Elems). Ok (es, rest)) (elems_ended found e)

pub elems_on : (d : ℕ) (bytes : List ℕ) (tokens : List Token) (ts : Toks) (next : ℕ) (e : Expr) (found : List Expr) → sees CloseSquare (first ts) ≡ false → expr (below d) ts ≡ Ok (view e, toks bytes tokens next) → sees Comma (first (toks bytes tokens next)) ≡ true
    → onto_elems found (elems (under d) ts) ≡ onto_elems (found ++ e ∷ []) (elems (under d) (toks bytes tokens (next + 1)))
elems_on d bytes tokens ts next e found h c k = ap (onto_elems found) (elems_go d ts h ∙ rw (c, k, sign_read Comma bytes tokens next k) refl) ∙ elems_more found e (elems (under d) (toks bytes tokens (next + 1)))

pub elems_fault : (d : ℕ) (ts : Toks) (x : Why × Toks) (found : List Expr) → sees CloseSquare (first ts) ≡ false → expr (below d) ts ≡ Err x → onto_elems found (elems (under d) ts) ≡ Err x
elems_fault d ts x found h c = let whole : elems (under d) ts ≡ Err x = elems_go d ts h ∙ rw c refl in ap (onto_elems found) whole

-- ---- members of object literals
props_more : (found : List (Label × Expr)) (p : Label × Expr) (out : Outcome Props) → onto_props found (and_then out (λ ps. pure (ThenProp (one_prop p) ps))) ≡ onto_props (found ++ p ∷ []) out
props_more found p (Err x) = refl
props_more found p (Ok q) = ap (λ (ps : Props). Ok (ps, q.1)) (go found)
  where
    go : (found : List (Label × Expr)) → props_before found (ThenProp (one_prop p) q.0) ≡ props_before (found ++ p ∷ []) q.0
    go [] = refl
    go (m ∷ ms) = ap (ThenProp (prop_of (prop_view m))) (go ms)

pub props_start : (out : Outcome Props) → onto_props [] out ≡ out
props_start (Ok q) = refl
props_start (Err e) = refl

props_closed : (found : List (Label × Expr)) → props_before found NoProps ≡ props_of (map prop_view found) true
props_closed [] = refl
props_closed (e ∷ []) = refl
props_closed (e ∷ f ∷ es) = ap (ThenProp (prop_of (prop_view e))) (props_closed (f ∷ es))

props_ended : (found : List (Label × Expr)) (p : Label × Expr) → props_before found (LastProp (one_prop p)) ≡ props_of (map prop_view (found ++ p ∷ [])) false
props_ended [] e = refl
props_ended (f ∷ []) e = refl
props_ended (f ∷ g ∷ es) e = ap (ThenProp (prop_of (prop_view f))) (props_ended (g ∷ es) e)

pub props_end : (d : ℕ) (found : List (Label × Expr)) (ts : Toks) → sees CloseBrace (first ts) ≡ true → onto_props found (props_at d ts) ≡ Ok (props_of (map prop_view found) true, ts)
unfolding props_at prop_at
props_end d found ts h = let whole : props_at d ts ≡ Ok (NoProps, ts) = props_is d (under d) (goods_under d) ts ∙ rw h refl in ap (onto_props found) whole ∙ ap (λ (ps : Props). Ok (ps, ts)) (props_closed found)

props_go : (d : ℕ) (ts : Toks) → sees CloseBrace (first ts) ≡ false → props_at d ts ≡ and_then (prop_at d ts) (λ a. look (λ c. comma_by LastProp ThenProp a (props_at d) (sees Comma c)))
unfolding props_at prop_at
props_go d ts h = props_is d (under d) (goods_under d) ts ∙ rw h refl

pub props_last : (d : ℕ) (ts rest : Toks) (p : Label × Expr) (found : List (Label × Expr)) → sees CloseBrace (first ts) ≡ false → prop_at d ts ≡ Ok (one_prop p, rest) → sees Comma (first rest) ≡ false → onto_props found (props_at d ts) ≡ Ok (props_of (map prop_view (found ++ p ∷ [])) false, rest)
props_last d ts rest p found h c k = let whole : props_at d ts ≡ Ok (LastProp (one_prop p), rest) = props_go d ts h ∙ rw (c, k) refl in ap (onto_props found) whole ∙ ap (λ (ps : Props). Ok (ps, rest)) (props_ended found p)

pub props_on : (d : ℕ) (bytes : List ℕ) (tokens : List Token) (ts : Toks) (next : ℕ) (p : Label × Expr) (found : List (Label × Expr)) → sees CloseBrace (first ts) ≡ false → prop_at d ts ≡ Ok (one_prop p, toks bytes tokens next) → sees Comma (first (toks bytes tokens next)) ≡ true
    → onto_props found (props_at d ts) ≡ onto_props (found ++ p ∷ []) (props_at d (toks bytes tokens (next + 1)))
props_on d bytes tokens ts next p found h c k = ap (onto_props found) (props_go d ts h ∙ rw (c, k, sign_read Comma bytes tokens next k) refl) ∙ props_more found p (props_at d (toks bytes tokens (next + 1)))

pub props_fault : (d : ℕ) (ts : Toks) (x : Why × Toks) (found : List (Label × Expr)) → sees CloseBrace (first ts) ≡ false → prop_at d ts ≡ Err x → onto_props found (props_at d ts) ≡ Err x
props_fault d ts x found h c = let whole : props_at d ts ≡ Err x = props_go d ts h ∙ rw c refl in ap (onto_props found) whole

-- ---- choices
pub choice_deep : (d : ℕ) (c : Ex) (ts : Toks) → d ≡ 0 → sees Question (first ts) ≡ true → look (λ t. choice_by (below d) c (sees Question t)) ts ≡ Err (TooNested, ts)
choice_deep d c ts e h = rw h (deep (fixed Question) (choice c) d ts tt e (made_sign Question ts h))

-- a choice by its branches
choice_split : (c : Ex) (b : Below) (ts : Toks) → choice c b ts ≡ and_then (branches_rule b ts) (λ p. pure (Choice c p.0 p.1))
choice_split c b ts = one (expect Question ts)
  where
    three : (x : Ex) (out : Outcome Ex) → and_then out (λ y. pure (Choice c x y)) ≡ and_then (and_then out (λ y. pure (both x y))) (λ p. pure (Choice c p.0 p.1))
    three x (Ok q) = refl
    three x (Err e) = refl

    two : (x : Ex) (out : Outcome (Unit {0})) → and_then out (λ _. b.expr >>= λ y. pure (Choice c x y)) ≡ and_then (and_then out (λ _. b.expr >>= λ y. pure (both x y))) (λ p. pure (Choice c p.0 p.1))
    two x (Ok q) = three x (b.expr q.1)
    two x (Err e) = refl

    half : (out : Outcome Ex) → and_then out (λ x. expect Colon >>= λ _. b.expr >>= λ y. pure (Choice c x y)) ≡ and_then (and_then out (λ x. expect Colon >>= λ _. b.expr >>= λ y. pure (both x y))) (λ p. pure (Choice c p.0 p.1))
    half (Ok q) = two q.0 (expect Colon q.1)
    half (Err e) = refl

    one : (out : Outcome (Unit {0})) → and_then out (λ _. b.expr >>= λ x. expect Colon >>= λ _. b.expr >>= λ y. pure (Choice c x y)) ≡ and_then (and_then out (λ _. b.expr >>= λ x. expect Colon >>= λ _. b.expr >>= λ y. pure (both x y))) (λ p. pure (Choice c p.0 p.1))
    one (Ok q) = half (b.expr q.1)
    one (Err e) = refl

pub choice_in : (d : ℕ) (c : Ex) (ts : Toks) → d ≢ 0 → sees Question (first ts) ≡ true → look (λ t. choice_by (below d) c (sees Question t)) ts ≡ and_then (branches_rule (under (d - 1)) ts) (λ p. pure (Choice c p.0 p.1))
choice_in d c ts e h = rw h (within (fixed Question) (choice c) d ts e) ∙ choice_split c (under (d - 1)) ts

pub choice_no : (d : ℕ) (c : Ex) (ts : Toks) → sees Question (first ts) ≡ false → look (λ t. choice_by (below d) c (sees Question t)) ts ≡ Ok (c, ts)
choice_no d c ts h = rw h refl

-- ---- what a step inside gives
pub link_ok : (d k : ℕ) (bytes : List ℕ) (tokens : List Token) (at next : ℕ) (s : Sign) (e : Ex) → Some s ≡ linked k (toks bytes tokens at) → chain (below d) k (toks bytes tokens (at + 1)) ≡ Ok (e, toks bytes tokens next) → link_at d k (toks bytes tokens at) ≡ Ok ((s, e), toks bytes tokens next)
link_ok d k bytes tokens at next s e h c = link_some d k bytes tokens at s h ∙ rw c refl

pub link_err : (d k : ℕ) (bytes : List ℕ) (tokens : List Token) (at : ℕ) (s : Sign) (x : Why × Toks) → Some s ≡ linked k (toks bytes tokens at) → chain (below d) k (toks bytes tokens (at + 1)) ≡ Err x → link_at d k (toks bytes tokens at) ≡ Err x
link_err d k bytes tokens at s x h c = link_some d k bytes tokens at s h ∙ rw c refl

pub unary_ok : (d : ℕ) (bytes : List ℕ) (tokens : List Token) (at next : ℕ) (s : Sign) (e : Expr) → d ≢ 0 → Some s ≡ signed (toks bytes tokens at) → unary (below (d - 1)) (toks bytes tokens (at + 1)) ≡ Ok (view e, toks bytes tokens next) → unary (below d) (toks bytes tokens at) ≡ Ok (view (ex.Unary s e), toks bytes tokens next)
unary_ok d bytes tokens at next s e n h c = unary_sign d bytes tokens at s n h ∙ rw (c, view_unary s e) refl

pub unary_err : (d : ℕ) (bytes : List ℕ) (tokens : List Token) (at : ℕ) (s : Sign) (x : Why × Toks) → d ≢ 0 → Some s ≡ signed (toks bytes tokens at) → unary (below (d - 1)) (toks bytes tokens (at + 1)) ≡ Err x → unary (below d) (toks bytes tokens at) ≡ Err x
unary_err d bytes tokens at s x n h c = unary_sign d bytes tokens at s n h ∙ rw c refl

-- what reads one rule reads another that does the same here
pub reads_same : {T A : Type 0} (view : T → A) (p q : Parser A) (bytes : List ℕ) (tokens : List Token) (at : ℕ) (r : Result (T × ℕ) Stop) → p (toks bytes tokens at) ≡ q (toks bytes tokens at) → Reads view q bytes tokens at r → Reads view p bytes tokens at r
reads_same view p q bytes tokens at (Ok x) e h = e ∙ h
reads_same view p q bytes tokens at (Err stop.Memory) e h = h
reads_same view p q bytes tokens at (Err (stop.Unexpected k)) e h = e ∙ h
reads_same view p q bytes tokens at (Err (stop.TooNested k)) e h = e ∙ h
