-- Where a statement ends that may still take an `else`, no `else` comes next: its own conditional would have taken it.
use Rattle.std.proofs.Common.{◌≡◌, ℕ, zero, suc, Bool, true, false, [], ◌∷◌, Option, Some, None, Ok, Err, refl, sym, subst}
use Rattle.std.specs.Prelude.{if◌then◌else◌}
use Rattle.script_text.specs.declared.sign.Sign.TheVariants.{OpenRound, CloseRound, OpenBrace, CloseBrace, Semicolon, Assign}
use Rattle.script_text.specs.declared.word.Reserved.TheVariants as kept
use Rattle.script_grammar.specs.Tokens.{Tok, Toks}
use Rattle.script_grammar.specs.Trees.{Ex, Stmt as St, Block, Empty, IfThen, IfElse, Return, ReturnOf, Throw, ThrowError, Delete, Set, Do}
use Rattle.script_grammar.specs.Rules.{is_open, is_member}
use Rattle.script_parser.specs.Steps.{Outcome, Parser, and_then, ◌>>=◌, pure, fail, too_deep, first, look}
use Rattle.script_parser.specs.Tests.{fixed, sees, sees_word, StmtForm, BlockForm, EmptyForm, IfForm, ReturnForm, ThrowForm, DeleteForm, ExprForm, stmt_form}
use Rattle.script_parser.specs.Parser.{Below, expect, keyword, opened, post, expr, items, block, inner_by, inner, else_by, may_else, conditional, ended, return_by, thrown_error, throw_by, assign_by, may_assign, stmt_by, stmt, below}
use Rattle.script_parser.proofs.Accept.{under}

-- whatever the parser reads is such, with the tokens behind it
abbrev Always : {A : Type 0} → (A → Toks → Type 0) → Parser A → Type 0
Always {A = A} P p = (ts rest : Toks) (a : A) → p ts ≡ Ok (a, rest) → P a rest

always_bind : {A B : Type 0} (Q : A → Toks → Type 0) (P : B → Toks → Type 0) (p : Parser A) (f : A → Parser B) → Always Q p → ((a : A) (ts rest : Toks) (b : B) → Q a ts → f a ts ≡ Ok (b, rest) → P b rest) → Always P (p >>= f)
always_bind {A = A} Q P p f h k ts rest b e = go (p ts) refl e
  where
    go : (o : Outcome A) → p ts ≡ o → and_then o f ≡ Ok (b, rest) → P b rest
    go (Ok q) e r = k q.0 q.1 rest b (h ts q.1 q.0 e) r
    go (Err x) e r = absurd cc

abbrev Any : {A : Type 0} → A → Toks → Type 0
Any a ts = Unit {0}

always_then : {A B : Type 0} (P : B → Toks → Type 0) (p : Parser A) (f : A → Parser B) → ((a : A) → Always P (f a)) → Always P (p >>= f)
always_then P p f h = always_bind Any P p f (λ ts rest a e. tt) (λ a ts rest b q e. h a ts rest b e)

at_end : {A : Type 0} (P : A → Toks → Type 0) (a b : A) (ts rest : Toks) → P a ts → pure a ts ≡ Ok (b, rest) → P b rest
at_end {A = A} P a b ts rest h e = let same : (a, ts) ≡ (b, rest) = cc in subst (λ (w : A × Toks). P w.0 w.1) same h

always_pure : {A : Type 0} (P : A → Toks → Type 0) (a : A) → ((ts : Toks) → P a ts) → Always P (pure a)
always_pure P a h ts rest b e = at_end P a b ts rest (h ts) e

always_opened : {A B : Type 0} (P : A → Toks → Type 0) (i : Option Below) (f : Tok → Option B) (p : Below → Parser A) → ((b : Below) → i ≡ Some b → Always P (p b)) → Always P (opened i f p)
unfolding too_deep
always_opened P None f p h [] rest a e = absurd cc
always_opened P None f p h (t ∷ ts) rest a e = absurd cc
always_opened P (Some b) f p h ts rest a e = h b refl ts rest a e

-- an open statement stands before no `else`
abbrev NoElse : St → Toks → Type 0
NoElse s rest = is_open s ≡ true → sees_word kept.Else (first rest) ≡ false

shut : (s : St) → is_open s ≡ false → (ts : Toks) → NoElse s ts
shut s h ts o = absurd cc

ended_shut : (s : St) → is_open s ≡ false → Always NoElse (ended s)
ended_shut s h = always_then NoElse (expect Semicolon) _ (λ _. always_pure NoElse s (shut s h))

block_shut : (b : Below) → Always NoElse (block b)
block_shut b = always_then NoElse (expect OpenBrace) _ (λ _. always_then NoElse (items b) _ (λ is. always_then NoElse (expect CloseBrace) _ (λ _. always_pure NoElse (Block is) (shut (Block is) refl))))

inner_shut : (b : Below) → Always NoElse b.stmt → Always NoElse (inner b)
inner_shut b h ts rest s e = go (sees OpenBrace (first ts)) e
  where
    go : (c : Bool) → inner_by b c ts ≡ Ok (s, rest) → NoElse s rest
    go true e = block_shut b ts rest s e
    go false e = h ts rest s e

may_else_is : (s : St) (rest : Toks) → NoElse s rest → may_else s (first rest) ≡ sees_word kept.Else (first rest)
may_else_is s rest h = go (is_open s) refl
  where
    go : (o : Bool) → is_open s ≡ o → (if o then false else sees_word kept.Else (first rest)) ≡ sees_word kept.Else (first rest)
    go true e = sym (h e)
    go false e = refl

arms_shut : (b : Below) → Always NoElse b.stmt → (e : Ex) (s : St) (ts rest : Toks) (t : St) → NoElse s ts → look (λ c. else_by b e s (may_else s c)) ts ≡ Ok (t, rest) → NoElse t rest
arms_shut b h e s ts rest t n r = go (sees_word kept.Else (first ts)) refl (rw (may_else_is s ts n) at r)
  where
    go : (c : Bool) → sees_word kept.Else (first ts) ≡ c → else_by b e s c ts ≡ Ok (t, rest) → NoElse t rest
    go true q r = always_then NoElse (keyword kept.Else) _ (λ _. always_bind NoElse NoElse (inner b) _ (inner_shut b h) (λ u vs r v n g. at_end NoElse (IfElse e s u) v vs r n g)) ts rest t r
    go false q r = at_end NoElse (IfThen e s) t ts rest (λ o. q) r

cond_shut : (b : Below) → Always NoElse b.stmt → Always NoElse (conditional b)
cond_shut b h = always_then NoElse (expect OpenRound) _ (λ _. always_then NoElse b.expr _ (λ e. always_then NoElse (expect CloseRound) _ (λ _. always_bind NoElse NoElse (inner b) _ (inner_shut b h) (λ s ts rest t n r. arms_shut b h e s ts rest t n r))))

return_shut : (i : Option Below) (c : Bool) → Always NoElse (return_by i c)
return_shut i true = ended_shut Return refl
return_shut i false = always_then NoElse (expr i) _ (λ e. ended_shut (ReturnOf e) refl)

error_shut : (b : Below) → Always NoElse (thrown_error b)
error_shut b = always_then NoElse (expect OpenRound) _ (λ _. always_then NoElse b.expr _ (λ e. always_then NoElse (expect CloseRound) _ (λ _. ended_shut (ThrowError e) refl)))

throw_shut : (i : Option Below) (c : Bool) → Always NoElse (throw_by i c)
throw_shut i true = always_then NoElse (keyword kept.New) _ (λ _. always_then NoElse (keyword kept.Error) _ (λ _. always_opened NoElse i (fixed OpenRound) thrown_error (λ b q. error_shut b)))
throw_shut i false = always_then NoElse (expr i) _ (λ e. ended_shut (Throw e) refl)

deleted_shut : (e : Ex) (c : Bool) → Always NoElse (if c then ended (Delete e) else fail)
deleted_shut e true ts rest s r = ended_shut (Delete e) refl ts rest s r
deleted_shut e false ts rest s r = absurd cc

assign_shut : (i : Option Below) (e : Ex) (c : Bool) → Always NoElse (assign_by i e c)
assign_shut i e true = always_then NoElse (expect Assign) _ (λ _. always_then NoElse (expr i) _ (λ v. ended_shut (Set e v) refl))
assign_shut i e false = ended_shut (Do e) refl

abbrev ShutBelow : Option Below → Type 0
ShutBelow i = (b : Below) → i ≡ Some b → Always NoElse b.stmt

form_shut : (i : Option Below) → ShutBelow i → (f : StmtForm) → Always NoElse (stmt_by i f)
form_shut i h BlockForm = always_opened NoElse i (fixed OpenBrace) block (λ b q. block_shut b)
form_shut i h EmptyForm = ended_shut Empty refl
form_shut i h IfForm = always_then NoElse (keyword kept.If) _ (λ _. always_opened NoElse i (fixed OpenRound) conditional (λ b q. cond_shut b (h b q)))
form_shut i h ReturnForm = always_then NoElse (keyword kept.Return) _ (λ _ ts rest s e. return_shut i (sees Semicolon (first ts)) ts rest s e)
form_shut i h ThrowForm = always_then NoElse (keyword kept.Throw) _ (λ _ ts rest s e. throw_shut i (sees_word kept.New (first ts)) ts rest s e)
form_shut i h DeleteForm = always_then NoElse (keyword kept.Delete) _ (λ _. always_then NoElse (post i) _ (λ e. deleted_shut e (is_member e)))
form_shut i h ExprForm = always_then NoElse (expr i) _ (λ e ts rest s r. assign_shut i e (may_assign e (first ts)) ts rest s r)

stmt_shut : (i : Option Below) → ShutBelow i → Always NoElse (stmt i)
stmt_shut i h ts rest s e = form_shut i h (stmt_form (first ts)) ts rest s e

below_shut : (d : ℕ) → ShutBelow (below d)
unfolding below
below_shut zero b e = absurd cc
below_shut (suc d) b e = let same : under d ≡ b = cc in subst (λ (b : Below). Always NoElse b.stmt) same (stmt_shut (below d) (below_shut d))

-- so whether the code takes an `else` is what the next token says
pub else_is : (d : ℕ) (ts rest : Toks) (s : St) → inner (under d) ts ≡ Ok (s, rest) → may_else s (first rest) ≡ sees_word kept.Else (first rest)
else_is d ts rest s e = may_else_is s rest (inner_shut (under d) (stmt_shut (below d) (below_shut d)) ts rest s e)
