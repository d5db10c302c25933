-- What each rule for statements does at the next token and the levels that are left.
use Rattle.std.proofs.Common.{◌≡◌, ◌≢◌, ℕ, zero, suc, ◌+◌, ◌-◌, ◌<◌, ◌≤◌, Bool, true, false, List, [], ◌∷◌, ◌++◌, length, Option, Some, None, Ok, Err, refl, ap, ◌∙◌, map, slice_index_or}
use Rattle.std.specs.Prelude.{if◌then◌else◌, not}
use Rattle.script_text.specs.declared.sign.Sign.TheVariants.{OpenRound, CloseRound, OpenBrace, CloseBrace, Semicolon, Assign}
use Rattle.script_text.specs.declared.word.Reserved.{Reserved}
use Rattle.script_text.specs.declared.word.Reserved.TheVariants as kept
use Rattle.script_text.specs.declared.token.Token.{Token}
use Rattle.script_grammar.specs.Tokens.{Tok, Name, Kept, Integer, Text, Fixed, Other, Toks, seen}
use Rattle.script_grammar.specs.Trees.{Ex, Stmt as St, Empty, IfElse, Return, ReturnOf, Throw, ThrowError, Delete, Set, Do, Item, Plain, Items, NoItems, ThenItem}
use Rattle.script_grammar.specs.Rules.{is_member}
use Rattle.script_parser.specs.Steps.{Why, TooNested, Outcome, Parser, and_then, ◌>>=◌, pure, fail, too_deep, first, look}
use Rattle.script_parser.specs.Tests.{fixed, is_some, kept_as, sees, sees_word, StmtForm, BlockForm, EmptyForm, IfForm, ReturnForm, ThrowForm, DeleteForm, ExprForm, stmt_form, PlainForm, item_form, in_block}
use Rattle.script_parser.specs.Parser.{Below, expect, keyword, opened, post, expr, items, block, inner, else_by, may_else, conditional, ended, return_by, thrown_error, throw_by, assign_by, may_assign, below}
use Rattle.script_parser.proofs.Tests.{of_kept}
use Rattle.script_parser.proofs.Accept.{under, goods_under}
use Rattle.script_parser.proofs.Statements.{items_is}
use Rattle.script_tree.specs.declared.Stmt.{Stmt}
use Rattle.script_tree.specs.declared.Stmt.TheVariants as st
use Rattle.script_tree.specs.declared.Expr.{Expr}
use Rattle.script_tree.specs.View.{view, item_view, items_of, if_of}
use Rattle.script_tree.proofs.Statements.{view_empty, view_if_else}
use Rattle.script_grammar.specs.Sources.{toks}
use Rattle.js_syntax.specs.Statements.{plainly, closed, no_level, const_at, let_at, return_by_at, return_at, error_at, throw_by_at, throw_at, deleted_at, delete_at, assign_by_at, assign_at, stmt_at, item_at, items_at, inner_at, block_at, else_at, arm_by_at, arms_at, if_at, items_before, onto_items, item_next}
use Rattle.js_expr.proofs.Seen.{sign_read, word_read, toks_here, toks_end, some_token}
use Rattle.js_expr.proofs.Rules.{seen_sign, deep, within, made_sign}
use Rattle.js_syntax.proofs.Else.{else_is}

-- ---- a statement as an item, step by step
plain_bind : {A : Type 0} (p : Parser A) (f : A → Parser St) (g : A → Parser Item) (ts : Toks) → ((a : A) (rest : Toks) → plainly (f a) rest ≡ g a rest) → plainly (p >>= f) ts ≡ (p >>= g) ts
plain_bind {A = A} p f g ts h = go (p ts)
  where
    go : (o : Outcome A) → and_then (and_then o f) (λ s. pure (Plain s)) ≡ and_then o g
    go (Ok q) = h q.0 q.1
    go (Err x) = refl

plain_ended : (s : St) (ts : Toks) → plainly (ended s) ts ≡ closed (Plain s) ts
plain_ended s ts = go (expect Semicolon ts)
  where
    go : (o : Outcome (Unit {0})) → and_then (and_then o (λ _. pure s)) (λ s. pure (Plain s)) ≡ and_then o (λ _. pure (Plain s))
    go (Ok q) = refl
    go (Err x) = refl

plain_opened : {B : Type 0} (i : Option Below) (f : Tok → Option B) (p : Below → Parser St) (ts : Toks) → plainly (opened i f p) ts ≡ opened i f (λ b. plainly (p b)) ts
unfolding too_deep
plain_opened None f p [] = refl
plain_opened None f p (t ∷ ts) = refl
plain_opened (Some b) f p ts = refl

-- ---- what comes next
seen_word : (w : Reserved) (ts : Toks) → sees_word w (first ts) ≡ true → (x : Toks) × (ts ≡ Kept w ∷ x)
seen_word w [] h = absurd cc
seen_word w (t ∷ ts) h = go (kept_as w t) refl h
  where
    go : (o : Option (Unit {0})) → kept_as w t ≡ o → is_some o ≡ true → (x : Toks) × (t ∷ ts ≡ Kept w ∷ x)
    go None e h = absurd cc
    go (Some u) e h = (ts, ap (λ (t : Tok). t ∷ ts) (of_kept w t u e))

by_word : (w : Reserved) (f : StmtForm) (ts : Toks) → stmt_form (Some (Kept w)) ≡ f → sees_word w (first ts) ≡ true → stmt_form (first ts) ≡ f
by_word w f ts e h = let x = seen_word w ts h in rw x.1 e

by_sign : (ts : Toks) → sees OpenBrace (first ts) ≡ true → stmt_form (first ts) ≡ BlockForm
by_sign ts h = let x = seen_sign OpenBrace ts h in rw x.1 refl

by_end : (ts : Toks) → sees Semicolon (first ts) ≡ true → stmt_form (first ts) ≡ EmptyForm
by_end ts h = let x = seen_sign Semicolon ts h in rw x.1 refl

by_other : (c : Option Tok) → sees OpenBrace c ≡ false → sees Semicolon c ≡ false → sees_word kept.If c ≡ false → sees_word kept.Return c ≡ false → sees_word kept.Throw c ≡ false → sees_word kept.Delete c ≡ false → stmt_form c ≡ ExprForm
by_other None a b i r t e = refl
by_other (Some (Name at bytes)) a b i r t e = refl
by_other (Some (Integer n)) a b i r t e = refl
by_other (Some (Text v)) a b i r t e = refl
by_other (Some Other) a b i r t e = refl
by_other (Some (Kept kept.If)) a b i r t e = absurd cc
by_other (Some (Kept kept.Return)) a b i r t e = absurd cc
by_other (Some (Kept kept.Throw)) a b i r t e = absurd cc
by_other (Some (Kept kept.Delete)) a b i r t e = absurd cc
by_other (Some (Kept _)) a b i r t e = refl
by_other (Some (Fixed OpenBrace)) a b i r t e = absurd cc
by_other (Some (Fixed Semicolon)) a b i r t e = absurd cc
by_other (Some (Fixed _)) a b i r t e = refl

item_other : (c : Option Tok) → sees_word kept.Const c ≡ false → sees_word kept.Let c ≡ false → item_form c ≡ PlainForm
item_other None a b = refl
item_other (Some (Name at bytes)) a b = refl
item_other (Some (Integer n)) a b = refl
item_other (Some (Text v)) a b = refl
item_other (Some Other) a b = refl
item_other (Some (Kept kept.Const)) a b = absurd cc
item_other (Some (Kept kept.Let)) a b = absurd cc
item_other (Some (Kept _)) a b = refl
item_other (Some (Fixed s)) a b = refl

-- ---- statements that hold no other
return_by_plain : (d : ℕ) (c : Bool) (ts : Toks) → plainly (return_by (below d) c) ts ≡ return_by_at d c ts
return_by_plain d true ts = plain_ended Return ts
return_by_plain d false ts = plain_bind (expr (below d)) _ _ ts (λ e rest. plain_ended (ReturnOf e) rest)

pub stmt_return : (d : ℕ) (ts : Toks) → sees_word kept.Return (first ts) ≡ true → stmt_at d ts ≡ return_at d ts
unfolding stmt_at
stmt_return d ts h = rw (by_word kept.Return ReturnForm ts refl h) (plain_bind (keyword kept.Return) _ _ ts (λ _ rest. return_by_plain d (sees Semicolon (first rest)) rest))

pub error_plain : (d : ℕ) (ts : Toks) → plainly (thrown_error (under d)) ts ≡ error_at d ts
error_plain d ts = plain_bind (expect OpenRound) _ _ ts (λ _ ts. plain_bind (expr (below d)) _ _ ts (λ e ts. plain_bind (expect CloseRound) _ _ ts (λ _ ts. plain_ended (ThrowError e) ts)))

throw_by_plain : (d : ℕ) (c : Bool) (ts : Toks) → plainly (throw_by (below d) c) ts ≡ throw_by_at d c ts
throw_by_plain d true ts = plain_bind (keyword kept.New) _ _ ts (λ _ ts. plain_bind (keyword kept.Error) _ _ ts (λ _ ts. plain_opened (below d) (fixed OpenRound) thrown_error ts))
throw_by_plain d false ts = plain_bind (expr (below d)) _ _ ts (λ e rest. plain_ended (Throw e) rest)

pub stmt_throw : (d : ℕ) (ts : Toks) → sees_word kept.Throw (first ts) ≡ true → stmt_at d ts ≡ throw_at d ts
unfolding stmt_at
stmt_throw d ts h = rw (by_word kept.Throw ThrowForm ts refl h) (plain_bind (keyword kept.Throw) _ _ ts (λ _ rest. throw_by_plain d (sees_word kept.New (first rest)) rest))

deleted_plain : (e : Ex) (c : Bool) (ts : Toks) → plainly (if c then ended (Delete e) else fail) ts ≡ deleted_at e c ts
deleted_plain e true ts = plain_ended (Delete e) ts
deleted_plain e false ts = refl

pub stmt_delete : (d : ℕ) (ts : Toks) → sees_word kept.Delete (first ts) ≡ true → stmt_at d ts ≡ delete_at d ts
unfolding stmt_at
stmt_delete d ts h = rw (by_word kept.Delete DeleteForm ts refl h) (plain_bind (keyword kept.Delete) _ _ ts (λ _ ts. plain_bind (post (below d)) _ _ ts (λ e ts. deleted_plain e (is_member e) ts)))

assign_by_plain : (d : ℕ) (e : Ex) (c : Bool) (ts : Toks) → plainly (assign_by (below d) e c) ts ≡ assign_by_at d e c ts
assign_by_plain d e true ts = plain_bind (expect Assign) _ _ ts (λ _ ts. plain_bind (expr (below d)) _ _ ts (λ v ts. plain_ended (Set e v) ts))
assign_by_plain d e false ts = plain_ended (Do e) ts

pub stmt_other : (d : ℕ) (ts : Toks) → sees OpenBrace (first ts) ≡ false → sees Semicolon (first ts) ≡ false → sees_word kept.If (first ts) ≡ false → sees_word kept.Return (first ts) ≡ false → sees_word kept.Throw (first ts) ≡ false → sees_word kept.Delete (first ts) ≡ false → stmt_at d ts ≡ assign_at d ts
unfolding stmt_at
stmt_other d ts a b i r t e = rw (by_other (first ts) a b i r t e) (plain_bind (expr (below d)) _ _ ts (λ e rest. assign_by_plain d e (may_assign e (first rest)) rest))

pub stmt_empty : (d : ℕ) (bytes : List ℕ) (tokens : List Token) (at : ℕ) → sees Semicolon (first (toks bytes tokens at)) ≡ true → stmt_at d (toks bytes tokens at) ≡ Ok (item_view st.Empty, toks bytes tokens (at + 1))
unfolding stmt_at
stmt_empty d bytes tokens at h = rw (by_end (toks bytes tokens at) h) (plain_ended Empty (toks bytes tokens at) ∙ rw (sign_read Semicolon bytes tokens at h, view_empty) refl)

-- ---- blocks
block_plain : (d : ℕ) (ts : Toks) → plainly (block (under d)) ts ≡ block_at d ts
unfolding items_at
block_plain d ts = plain_bind (expect OpenBrace) _ _ ts (λ _ ts. plain_bind (items (under d)) _ _ ts (λ is ts. plain_bind (expect CloseBrace) _ _ ts (λ _ ts. refl)))

pub stmt_block_deep : (d : ℕ) (ts : Toks) → d ≡ 0 → sees OpenBrace (first ts) ≡ true → stmt_at d ts ≡ Err (TooNested, ts)
unfolding stmt_at
stmt_block_deep d ts e h = rw (by_sign ts h) (plain_opened (below d) (fixed OpenBrace) block ts ∙ deep (fixed OpenBrace) (λ b. plainly (block b)) d ts tt e (made_sign OpenBrace ts h))

pub stmt_block : (d : ℕ) (ts : Toks) → d ≢ 0 → sees OpenBrace (first ts) ≡ true → stmt_at d ts ≡ block_at (d - 1) ts
unfolding stmt_at
stmt_block d ts e h = rw (by_sign ts h) (plain_opened (below d) (fixed OpenBrace) block ts ∙ within (fixed OpenBrace) (λ b. plainly (block b)) d ts e ∙ block_plain (d - 1) ts)

pub inner_block : (d : ℕ) (ts : Toks) → sees OpenBrace (first ts) ≡ true → inner_at d ts ≡ block_at d ts
unfolding inner_at
inner_block d ts h = rw h (block_plain d ts)

pub inner_other : (d : ℕ) (ts : Toks) → sees OpenBrace (first ts) ≡ false → inner_at d ts ≡ stmt_at d ts
unfolding inner_at stmt_at
inner_other d ts h = rw h refl

-- ---- conditionals
-- what stands behind the test
arms_plain : (d : ℕ) (e : Ex) (ts : Toks) → plainly (inner (under d) >>= λ s. look (λ c. else_by (under d) e s (may_else s c))) ts ≡ arms_at d e ts
unfolding inner_at
arms_plain d e ts = go (inner (under d) ts) refl
  where
    last : (s : St) (o : Outcome St) → and_then (and_then o (λ t. pure (IfElse e s t))) (λ s. pure (Plain s)) ≡ and_then (and_then o (λ t. pure (Plain t))) (λ t. pure (Plain (if_of e (Plain s) (Some t))))
    last s (Ok q) = refl
    last s (Err x) = refl

    arm : (s : St) (c : Bool) (rest : Toks) → plainly (else_by (under d) e s c) rest ≡ arm_by_at d e (Plain s) c rest
    arm s true rest = plain_bind (keyword kept.Else) _ _ rest (λ _ ts. last s (inner (under d) ts))
    arm s false rest = refl

    go : (o : Outcome St) → inner (under d) ts ≡ o → and_then (and_then o (λ s. look (λ c. else_by (under d) e s (may_else s c)))) (λ s. pure (Plain s)) ≡ and_then (and_then o (λ s. pure (Plain s))) (λ s. look (λ c. arm_by_at d e s (sees_word kept.Else c)))
    go (Err x) q = refl
    go (Ok r) q = rw (else_is d ts r.1 r.0 q) (arm r.0 (sees_word kept.Else (first r.1)) r.1)

if_plain : (d : ℕ) (ts : Toks) → plainly (conditional (under d)) ts ≡ if_at d ts
if_plain d ts = one (expect OpenRound ts)
  where
    three : (e : Ex) (o : Outcome (Unit {0})) → and_then (and_then o (λ _. inner (under d) >>= λ s. look (λ c. else_by (under d) e s (may_else s c)))) (λ s. pure (Plain s)) ≡ and_then (and_then o (λ _. pure e)) (λ e. arms_at d e)
    three e (Ok q) = arms_plain d e q.1
    three e (Err x) = refl

    two : (o : Outcome Ex) → and_then (and_then o (λ e. expect CloseRound >>= λ _. inner (under d) >>= λ s. look (λ c. else_by (under d) e s (may_else s c)))) (λ s. pure (Plain s)) ≡ and_then (and_then o (λ e. expect CloseRound >>= λ _. pure e)) (λ e. arms_at d e)
    two (Ok q) = three q.0 (expect CloseRound q.1)
    two (Err x) = refl

    one : (o : Outcome (Unit {0})) → and_then (and_then o (λ _. expr (below d) >>= λ e. expect CloseRound >>= λ _. inner (under d) >>= λ s. look (λ c. else_by (under d) e s (may_else s c)))) (λ s. pure (Plain s)) ≡ and_then (and_then o (λ _. expr (below d) >>= λ e. expect CloseRound >>= λ _. pure e)) (λ e. arms_at d e)
    one (Ok q) = two (expr (below d) q.1)
    one (Err x) = refl

pub else_ok : (d : ℕ) (bytes : List ℕ) (tokens : List Token) (at next : ℕ) (e : Expr) (s t : Stmt) → sees_word kept.Else (first (toks bytes tokens at)) ≡ true → inner_at d (toks bytes tokens (at + 1)) ≡ Ok (item_view t, toks bytes tokens next) → else_at d (view e) (item_view s) (toks bytes tokens at) ≡ Ok (item_view (st.If e s (Some t)), toks bytes tokens next)
else_ok d bytes tokens at next e s t h c = rw (word_read kept.Else bytes tokens at h, c, view_if_else e s t) refl

pub else_err : (d : ℕ) (bytes : List ℕ) (tokens : List Token) (at : ℕ) (e : Ex) (s : Item) (x : Why × Toks) → sees_word kept.Else (first (toks bytes tokens at)) ≡ true → inner_at d (toks bytes tokens (at + 1)) ≡ Err x → else_at d e s (toks bytes tokens at) ≡ Err x
else_err d bytes tokens at e s x h c = rw (word_read kept.Else bytes tokens at h, c) refl

-- a conditional, behind its word
stmt_if : (d : ℕ) (bytes : List ℕ) (tokens : List Token) (at : ℕ) → sees_word kept.If (first (toks bytes tokens at)) ≡ true → stmt_at d (toks bytes tokens at) ≡ opened (below d) (fixed OpenRound) (λ b. plainly (conditional b)) (toks bytes tokens (at + 1))
unfolding stmt_at
stmt_if d bytes tokens at h = rw (by_word kept.If IfForm (toks bytes tokens at) refl h) (plain_bind (keyword kept.If) _ _ (toks bytes tokens at) (λ _ ts. plain_opened (below d) (fixed OpenRound) conditional ts) ∙ rw (word_read kept.If bytes tokens at h) refl)

pub stmt_if_deep : (d : ℕ) (bytes : List ℕ) (tokens : List Token) (at : ℕ) (x : Why × Toks) → d ≡ 0 → sees_word kept.If (first (toks bytes tokens at)) ≡ true → no_level OpenRound (toks bytes tokens (at + 1)) ≡ Err x → stmt_at d (toks bytes tokens at) ≡ Err x
unfolding below no_level
stmt_if_deep zero bytes tokens at x e h k = stmt_if 0 bytes tokens at h ∙ k
stmt_if_deep (suc d) bytes tokens at x e h k = absurd cc

pub stmt_if_in : (d : ℕ) (bytes : List ℕ) (tokens : List Token) (at : ℕ) → d ≢ 0 → sees_word kept.If (first (toks bytes tokens at)) ≡ true → stmt_at d (toks bytes tokens at) ≡ if_at (d - 1) (toks bytes tokens (at + 1))
stmt_if_in d bytes tokens at e h = stmt_if d bytes tokens at h ∙ within (fixed OpenRound) (λ b. plainly (conditional b)) d (toks bytes tokens (at + 1)) e ∙ if_plain (d - 1) (toks bytes tokens (at + 1))

-- ---- declarations
pub item_const : (d : ℕ) (ts : Toks) → sees_word kept.Const (first ts) ≡ true → item_at d ts ≡ const_at d ts
unfolding item_at
item_const d ts h = let x = seen_word kept.Const ts h in rw x.1 refl

pub item_let : (d : ℕ) (ts : Toks) → sees_word kept.Let (first ts) ≡ true → item_at d ts ≡ let_at d ts
unfolding item_at
item_let d ts h = let x = seen_word kept.Let ts h in rw x.1 refl

pub item_plain : (d : ℕ) (ts : Toks) → sees_word kept.Const (first ts) ≡ false → sees_word kept.Let (first ts) ≡ false → item_at d ts ≡ stmt_at d ts
unfolding item_at stmt_at
item_plain d ts a b = rw (item_other (first ts) a b) refl

-- ---- items
-- whether one comes next
item_token : (t : Tok) → in_block t ≡ not (sees CloseBrace (Some t))
item_token (Name at bytes) = refl
item_token (Kept r) = refl
item_token (Integer n) = refl
item_token (Text b) = refl
item_token Other = refl
item_token (Fixed CloseBrace) = refl
item_token (Fixed _) = refl

pub item_is : (bytes : List ℕ) (tokens : List Token) (at : ℕ) → at < length tokens → item_next (first (toks bytes tokens at)) ≡ not (sees CloseBrace (first (toks bytes tokens at)))
item_is bytes tokens at l = let t = some_token tokens at l in rw (toks_here bytes tokens at t l) (item_token (seen bytes at (slice_index_or tokens at t)))

pub item_ends : (bytes : List ℕ) (tokens : List Token) (at : ℕ) → length tokens ≤ at → item_next (first (toks bytes tokens at)) ≡ false
item_ends bytes tokens at l = rw (toks_end bytes tokens at l) refl

items_more : (found : List Stmt) (s : Stmt) (out : Outcome Items) → onto_items found (and_then out (λ is. pure (ThenItem (item_view s) is))) ≡ onto_items (found ++ s ∷ []) out
items_more found s (Err x) = refl
items_more found s (Ok q) = ap (λ (is : Items). Ok (is, q.1)) (go found)
  where
    go : (found : List Stmt) → items_before found (ThenItem (item_view s) q.0) ≡ items_before (found ++ s ∷ []) q.0
    go [] = refl
    go (m ∷ ms) = ap (ThenItem (item_view m)) (go ms)

pub items_start : (out : Outcome Items) → onto_items [] out ≡ out
items_start (Ok q) = refl
items_start (Err e) = refl

pub items_end : (d : ℕ) (found : List Stmt) (ts : Toks) → item_next (first ts) ≡ false → onto_items found (items_at d ts) ≡ Ok (items_before found NoItems, ts)
unfolding items_at
items_end d found [] h = rw (items_is d (under d) (goods_under d) []) refl
items_end d found (t ∷ ts) h = rw (items_is d (under d) (goods_under d) (t ∷ ts), h) refl

items_go : (d : ℕ) (ts : Toks) → item_next (first ts) ≡ true → items_at d ts ≡ and_then (item_at d ts) (λ s. items_at d >>= λ is. pure (ThenItem s is))
unfolding items_at item_at
items_go d [] h = absurd cc
items_go d (t ∷ ts) h = items_is d (under d) (goods_under d) (t ∷ ts) ∙ rw h refl

pub items_on : (d : ℕ) (ts rest : Toks) (s : Stmt) (found : List Stmt) → item_next (first ts) ≡ true → item_at d ts ≡ Ok (item_view s, rest) → onto_items found (items_at d ts) ≡ onto_items (found ++ s ∷ []) (items_at d rest)
items_on d ts rest s found h c = ap (onto_items found) (items_go d ts h ∙ rw c refl) ∙ items_more found s (items_at d rest)

pub items_fault : (d : ℕ) (ts : Toks) (x : Why × Toks) (found : List Stmt) → item_next (first ts) ≡ true → item_at d ts ≡ Err x → onto_items found (items_at d ts) ≡ Err x
items_fault d ts x found h c = let whole : items_at d ts ≡ Err x = items_go d ts h ∙ rw c refl in ap (onto_items found) whole

pub items_same : (ss : List Stmt) → items_before ss NoItems ≡ items_of (map item_view ss)
items_same [] = refl
items_same (s ∷ ss) = ap (ThenItem (item_view s)) (items_same ss)
