-- Each rule for statements, items and reducers is good for the language of its spelling.
use Rattle.std.proofs.Common.{◌≡◌, ℕ, zero, suc, ◌-◌, ◌<◌, Bool, true, false, List, [], ◌∷◌, ◌++◌, length, Option, Some, None, refl, subst, ◌∙◌, append_assoc, append-nil, arith}
use Rattle.std.specs.Prelude.{if◌then◌else◌}
use Rattle.std.proofs.lemmas.Bool.{and_from}
use Rattle.script_text.specs.declared.sign.Sign.TheVariants.{OpenRound, CloseRound, OpenBrace, CloseBrace, Comma, Semicolon, Dot as Point, Assign}
use Rattle.script_text.specs.declared.word.Reserved.{Reserved}
use Rattle.script_text.specs.declared.word.Reserved.TheVariants as kept
use Rattle.script_grammar.specs.Tokens.{Tok, Name, Kept, Integer, Text, Fixed, Other, Toks}
use Rattle.script_grammar.specs.Trees.{Named, Ex, Literal, Var, Round, ListOf, Object, Member, Unary, Chain, Choice, Dot, NoSuffixes, Stmt, Block, Empty, IfThen, IfElse, Return, ReturnOf, Throw, ThrowError, Delete, Set, Do, Item, Const, Let, LetBe, Plain, Items, NoItems, ThenItem, Params, One, Two, Reducer, Function, Program, NoReducers, ThenReducer}
use Rattle.script_grammar.specs.Spelling.{spell_ex, spell_stmt, spell_item, spell_items, spell_params, spell_reducer, spell_program}
use Rattle.script_grammar.specs.Rules.{is_atom, is_member, is_target, Binds, within, opens_brace, begins_brace, is_open, RightStmt, RightItem, RightItems, RightReducer, Right, inner_levels, within_stmt, within_item, within_items, within_reducer, within_program}
use Rattle.script_parser.specs.Steps.{Parser, ◌>>=◌, pure, fail, take, first, look, many_by, finish}
use Rattle.script_parser.specs.Tests.{fixed, name_of, sees, sees_word, StmtForm, BlockForm, EmptyForm, IfForm, ReturnForm, ThrowForm, DeleteForm, ExprForm, stmt_form, ItemForm, ConstForm, LetForm, PlainForm, item_form, in_block}
use Rattle.script_parser.specs.Parser.{Below, expect, keyword, expr, post, items, block, inner_by, inner, else_by, may_else, conditional, ended, return_by, thrown_error, throw_by, deleted, assign_by, may_assign, stmt_by, stmt, let_by, item_by, item, below, params_by, params, reducer_body, reducer, reducers, program}
use Rattle.script_parser.proofs.Good.{Lang, Example, Good, GoodAt, Seq, Nothing, End, Begun, Consumes, good_pure, good_fail, good_look, good_look_at, good_at, good_begun, good_sub, good_sub_at, good_bind, good_finish}
use Rattle.script_parser.proofs.Lists.{good_many, many_is}
use Rattle.script_parser.proofs.Languages.{Just, JustWord, NameAt, good_sign, good_word, good_name, Of, ExAt, StmtAt, ItemAt, Goods, GoodBelow, good_opened, deep_sign}
use Rattle.script_parser.proofs.Expressions.{nothing, consumes_ex, some_ex, append_some, good_post, good_unary, good_expr}

abbrev pub ItemsAt : ℕ → Lang Items
ItemsAt d = Of spell_items RightItems (λ is n. within_items is d n)

abbrev pub ProgramAt : ℕ → Lang Program
ProgramAt d = Of spell_program Right (λ p n. within_program p d n)

abbrev InnerAt : ℕ → Lang Stmt
InnerAt d = Of spell_stmt RightStmt (λ s n. within_stmt s (inner_levels s d) n)

-- what stands behind a word
abbrev After : Reserved → ℕ → Lang Stmt
After r d n s ts = (Kept r ∷ ts ≡ spell_stmt s) × RightStmt s × ((m : ℕ) → m - 1 ≡ n → within_stmt s d m ≡ true)

-- a statement behind its first word
after : (r : Reserved) (d : ℕ) (p : Parser Stmt) → Good (After r d) p → Good (StmtAt d) (keyword r >>= λ _. p)
after r d p g = good_sub _ (StmtAt d) _ (λ n s ts h. (h.5 ∙ rw h.3 h.4.0, h.4.1, h.4.2 n (rw h.3 refl))) (good_bind (JustWord r) (λ _. After r d) (keyword r) (λ _. p) (good_word r) (λ _. g))

abbrev Ends : {A : Type 0} → A → Lang A
Ends a n b ts = (b ≡ a) × (ts ≡ Fixed Semicolon ∷ [])

good_ended : {A : Type 0} (a : A) → Good (Ends a) (ended a)
good_ended a = good_sub _ (Ends a) _ (λ n b ts h. (h.4.0, rw (h.5, h.3, h.4.1) refl)) (good_bind (Just Semicolon) _ (expect Semicolon) _ (good_sign Semicolon) (λ _. good_pure a))

some_stmt : (s : Stmt) → 0 < length (spell_stmt s)
some_stmt (Block is) = omega arith
some_stmt Empty = omega arith
some_stmt (IfThen e s) = omega arith
some_stmt (IfElse e s t) = omega arith
some_stmt Return = omega arith
some_stmt (ReturnOf e) = omega arith
some_stmt (Throw e) = omega arith
some_stmt (ThrowError e) = omega arith
some_stmt (Delete e) = omega arith
some_stmt (Set t e) = append_some (spell_ex t) (Fixed Assign ∷ (spell_ex e ++ Fixed Semicolon ∷ [])) (some_ex t)
some_stmt (Do e) = append_some (spell_ex e) (Fixed Semicolon ∷ []) (some_ex e)

consumes_stmt : (d : ℕ) → Consumes (StmtAt d)
consumes_stmt d n a x h = rw h.0 (some_stmt a)

some_item : (i : Item) → 0 < length (spell_item i)
some_item (Const at bytes e) = omega arith
some_item (Let at bytes) = omega arith
some_item (LetBe at bytes e) = omega arith
some_item (Plain s) = some_stmt s

-- ---- blocks
good_items : (d : ℕ) (b : Below) → Goods d b → Good (ItemsAt d) (items b)
good_items d b g = good_many (ItemAt d) (ItemsAt d) in_block b.item NoItems ThenItem g.item
    (λ n. (refl, tt, refl)) (λ n a c x y h k. (rw (h.0, k.0) refl, (h.1, k.1), and_from _ _ h.2 (rw h.0 at k.2))) (λ n a x h. rw h.0 (some_item a))

abbrev BlockAt : ℕ → Lang Stmt
BlockAt d n s ts = (is : Items) × (s ≡ Block is) × (ts ≡ spell_stmt (Block is)) × RightItems is × (within_items is d (n - 1) ≡ true)

good_block : (d : ℕ) (b : Below) → Goods d b → Good (BlockAt d) (block b)
good_block d b g = good_sub _ (BlockAt d) _ spelled
    (good_bind (Just OpenBrace) _ (expect OpenBrace) _ (good_sign OpenBrace) (λ _. good_bind (ItemsAt d) _ (items b) _ (good_items d b g) (λ is. good_bind (Just CloseBrace) _ (expect CloseBrace) _ (good_sign CloseBrace) (λ _. good_pure (Block is)))))
  where
    spelled : (n : ℕ) (s : Stmt) (ts : Toks) → Seq (Just OpenBrace) (λ _. Seq (ItemsAt d) (λ is. Seq (Just CloseBrace) (λ _. Nothing (Block is)))) n s ts → BlockAt d n s ts
    spelled n s ts h = let i = h.4 in let j = i.4 in (i.0, j.4.0, rw (h.5, h.3, i.5, i.3.0, j.5, j.3, j.4.1) refl, i.3.1, rw h.3 at i.3.2)

block_stmt : (d : ℕ) (b : Below) → Goods d b → Good (StmtAt (suc d)) (block b)
block_stmt d b g = good_sub (BlockAt d) (StmtAt (suc d)) _ (λ n s ts h. rw (h.2, h.1) (refl, h.3, h.4)) (good_block d b g)

block_inner : (d : ℕ) (b : Below) → Goods d b → Good (InnerAt d) (block b)
block_inner d b g = good_sub (BlockAt d) (InnerAt d) _ (λ n s ts h. rw (h.2, h.1) (refl, h.3, h.4)) (good_block d b g)

-- the next token is no brace
abbrev NoBrace : Option Tok → Type 0
NoBrace c = sees OpenBrace c ≡ false

same_levels : (s : Stmt) (d : ℕ) → NoBrace (first (spell_stmt s)) → inner_levels s d ≡ d
same_levels (Block is) d h = absurd cc
same_levels Empty d h = refl
same_levels (IfThen e s) d h = refl
same_levels (IfElse e s t) d h = refl
same_levels Return d h = refl
same_levels (ReturnOf e) d h = refl
same_levels (Throw e) d h = refl
same_levels (ThrowError e) d h = refl
same_levels (Delete e) d h = refl
same_levels (Set t e) d h = refl
same_levels (Do e) d h = refl

good_inner : (d : ℕ) (b : Below) → Goods d b → Good (InnerAt d) (inner b)
good_inner d b g = good_look_at (InnerAt d) _ (λ c. go c (sees OpenBrace c) refl)
  where
    plain : (n : ℕ) (s : Stmt) (ts : Toks) → Begun (StmtAt d) NoBrace n s ts → InnerAt d n s ts
    plain n s ts h = let none : NoBrace (first (spell_stmt s)) = subst (λ (v : Toks). NoBrace (first v)) h.0.0 h.1 in (h.0.0, h.0.1, rw (same_levels s d none) h.0.2)

    go : (c : Option Tok) (x : Bool) → sees OpenBrace c ≡ x → GoodAt (InnerAt d) (inner_by b x) c
    go c true e = good_at (InnerAt d) (block b) c (block_inner d b g)
    go c false e = good_sub_at (Begun (StmtAt d) NoBrace) (InnerAt d) b.stmt c plain (good_begun (StmtAt d) NoBrace b.stmt c g.stmt (consumes_stmt d) e Empty (Fixed Semicolon ∷ []) (refl, tt, refl) refl)

-- ---- conditionals
-- what stands behind the first branch
abbrev ElseAt : ℕ → Ex → Stmt → Lang Stmt
ElseAt d e s n whole ts = (Kept kept.If ∷ Fixed OpenRound ∷ (spell_ex e ++ Fixed CloseRound ∷ (spell_stmt s ++ ts)) ≡ spell_stmt whole) × (Binds 8 e → RightStmt s → RightStmt whole)
    × ((m : ℕ) → m - 1 - 1 - length (spell_ex e) - 1 - length (spell_stmt s) ≡ n → within e d (m - 1 - 1) ≡ true → within_stmt s (inner_levels s d) (m - 1 - 1 - length (spell_ex e) - 1) ≡ true → within_stmt whole (suc d) m ≡ true)

no_else : (d : ℕ) (e : Ex) (s : Stmt) → Good (ElseAt d e s) (pure (IfThen e s))
no_else d e s = good_sub _ (ElseAt d e s) _ (λ n whole ts h. rw (h.1, h.0, append-nil) (refl, λ b r. (b, r), λ m q f k. and_from _ _ f k)) (good_pure (IfThen e s))

has_else : (d : ℕ) (b : Below) → Goods d b → (e : Ex) (s : Stmt) → is_open s ≡ false → Good (ElseAt d e s) (else_by b e s true)
has_else d b g e s o = good_sub _ (ElseAt d e s) _ spelled (good_bind (JustWord kept.Else) _ (keyword kept.Else) _ (good_word kept.Else) (λ _. good_bind (InnerAt d) _ (inner b) _ (good_inner d b g) (λ t. good_pure (IfElse e s t))))
  where
    spelled : (n : ℕ) (whole : Stmt) (ts : Toks) → Seq (JustWord kept.Else) (λ _. Seq (InnerAt d) (λ t. Nothing (IfElse e s t))) n whole ts → ElseAt d e s n whole ts
    spelled n whole ts h = let i = h.4 in let u = rw h.3 at i.3.2 in rw (h.5, h.3, i.5, i.3.0, i.4.1, i.4.0, append-nil) (refl, λ b r. (b, o, r, i.3.1), λ m q f k. and_from _ _ f (and_from _ _ k (rw q u)))

good_else : (d : ℕ) (b : Below) → Goods d b → (e : Ex) (s : Stmt) (c : Option Tok) → Good (ElseAt d e s) (else_by b e s (may_else s c))
good_else d b g e s c = go (is_open s) refl
  where
    by : is_open s ≡ false → (x : Bool) → Good (ElseAt d e s) (else_by b e s x)
    by o true = has_else d b g e s o
    by o false = no_else d e s

    go : (o : Bool) → is_open s ≡ o → Good (ElseAt d e s) (else_by b e s (if o then false else sees_word kept.Else c))
    go true o = no_else d e s
    go false o = by o (sees_word kept.Else c)

good_conditional : (d : ℕ) (b : Below) → Goods d b → Good (After kept.If (suc d)) (conditional b)
good_conditional d b g = good_sub _ (After kept.If (suc d)) _ spelled
    (good_bind (Just OpenRound) _ (expect OpenRound) _ (good_sign OpenRound) (λ _. good_bind (ExAt 8 d) _ b.expr _ g.expr (λ e. good_bind (Just CloseRound) _ (expect CloseRound) _ (good_sign CloseRound) (λ _. good_bind (InnerAt d) _ (inner b) _ (good_inner d b g) (λ s. good_look (ElseAt d e s) _ (good_else d b g e s))))))
  where
    spelled : (n : ℕ) (s : Stmt) (ts : Toks) → Seq (Just OpenRound) (λ _. Seq (ExAt 8 d) (λ e. Seq (Just CloseRound) (λ _. Seq (InnerAt d) (λ s. ElseAt d e s)))) n s ts → After kept.If (suc d) n s ts
    spelled n s ts h = let i = h.4 in let j = i.4 in let k = j.4 in
        let u = rw h.3 at i.3.2 in
        let v = rw (h.3, i.3.0, j.3) at k.3.2 in
        (rw (h.5, h.3, i.5, i.3.0, j.5, j.3, k.5, k.3.0) k.4.0, k.4.1 i.3.1 k.3.1, λ m e. k.4.2 m (rw (e, h.3, i.3.0, j.3, k.3.0) refl) (rw e u) (rw e v))

-- ---- return and throw
by_return : (d : ℕ) (i : Option Below) → GoodBelow d i → (c : Bool) → Good (After kept.Return d) (return_by i c)
by_return d i g true = good_sub _ (After kept.Return d) _ (λ n s ts h. rw (h.1, h.0) (refl, tt, λ m e. refl)) (good_ended Return)
by_return d i g false = good_sub _ (After kept.Return d) _ (λ n s ts h. let j = h.4 in rw (h.5, h.3.0, j.1, j.0) (refl, h.3.1, λ m e. rw e h.3.2)) (good_bind (ExAt 8 d) _ (expr i) _ (good_expr d i g) (λ e. good_ended (ReturnOf e)))

-- behind `throw new Error`
abbrev ErrorAt : ℕ → Lang Stmt
ErrorAt d n s ts = (Kept kept.Throw ∷ Kept kept.New ∷ Kept kept.Error ∷ ts ≡ spell_stmt s) × RightStmt s × ((m : ℕ) → m - 1 - 1 - 1 ≡ n → within_stmt s d m ≡ true)

good_error : (d : ℕ) (b : Below) → Goods d b → Good (ErrorAt (suc d)) (thrown_error b)
good_error d b g = good_sub _ (ErrorAt (suc d)) _ spelled
    (good_bind (Just OpenRound) _ (expect OpenRound) _ (good_sign OpenRound) (λ _. good_bind (ExAt 8 d) _ b.expr _ g.expr (λ e. good_bind (Just CloseRound) _ (expect CloseRound) _ (good_sign CloseRound) (λ _. good_ended (ThrowError e)))))
  where
    spelled : (n : ℕ) (s : Stmt) (ts : Toks) → Seq (Just OpenRound) (λ _. Seq (ExAt 8 d) (λ e. Seq (Just CloseRound) (λ _. Ends (ThrowError e)))) n s ts → ErrorAt (suc d) n s ts
    spelled n s ts h = let i = h.4 in let j = i.4 in let u = rw h.3 at i.3.2 in rw (h.5, h.3, i.5, i.3.0, j.5, j.3, j.4.1, j.4.0) (refl, i.3.1, λ m e. rw e u)

-- a small example of each
zero_error : Example (ErrorAt 0)
zero_error = (ThrowError nothing, Fixed OpenRound ∷ Name 0 [] ∷ Fixed CloseRound ∷ Fixed Semicolon ∷ [], (refl, tt, λ m e. rw e refl))

by_throw : (d : ℕ) (i : Option Below) → GoodBelow d i → (c : Bool) → Good (After kept.Throw d) (throw_by i c)
by_throw d i g true = good_sub _ (After kept.Throw d) _ (λ n s ts h. let j = h.4 in (rw (h.5, h.3, j.5, j.3) j.4.0, j.4.1, λ m e. j.4.2 m (rw (e, h.3, j.3) refl)))
    (good_bind (JustWord kept.New) _ (keyword kept.New) _ (good_word kept.New) (λ _. good_bind (JustWord kept.Error) (λ _. ErrorAt d) (keyword kept.Error) _ (good_word kept.Error) (λ _.
    good_opened ErrorAt (fixed OpenRound) thrown_error zero_error (deep_sign (ErrorAt 0) OpenRound (ThrowError nothing) (Name 0 [] ∷ Fixed CloseRound ∷ Fixed Semicolon ∷ []) (refl, tt, λ m e. rw e refl)) good_error d i g)))
by_throw d i g false = good_sub _ (After kept.Throw d) _ (λ n s ts h. let j = h.4 in rw (h.5, h.3.0, j.1, j.0) (refl, h.3.1, λ m e. rw e h.3.2)) (good_bind (ExAt 8 d) _ (expr i) _ (good_expr d i g) (λ e. good_ended (Throw e)))

-- ---- delete
-- what stands behind the expression
abbrev DeletedAt : ℕ → Ex → Lang Stmt
DeletedAt d e n s ts = (Kept kept.Delete ∷ (spell_ex e ++ ts) ≡ spell_stmt s) × (Binds 0 e → RightStmt s) × ((m : ℕ) → m - 1 - length (spell_ex e) ≡ n → within e d (m - 1) ≡ true → within_stmt s d m ≡ true)

atom_of : (e : Ex) → is_member e ≡ false → Binds 0 e → is_atom e ≡ true
atom_of (Literal x) m b = refl
atom_of (Var at bytes) m b = refl
atom_of (Round e) m b = refl
atom_of (ListOf es) m b = refl
atom_of (Object ps) m b = refl
atom_of (Member e s ss) m b = absurd cc
atom_of (Unary s e) m b = absurd (omega (arith, b.0))
atom_of (Chain k a s x ls) m b = absurd (omega (arith, b.0))
atom_of (Choice c x y) m b = absurd (omega (arith, b.0))

good_deleted : (d : ℕ) (e : Ex) → Good (DeletedAt d e) (deleted e)
good_deleted d e = go (is_member e) refl
  where
    go : (x : Bool) → is_member e ≡ x → Good (DeletedAt d e) (if x then ended (Delete e) else fail)
    go true x = good_sub _ (DeletedAt d e) _ (λ n s ts h. rw (h.1, h.0) (refl, λ b. (x, b), λ m q f. f)) (good_ended (Delete e))
    go false x = good_fail (DeletedAt d e) (
      Delete (Member e (Dot (Named 0 [])) NoSuffixes),
      Fixed Point ∷ Name 0 [] ∷ Fixed Semicolon ∷ [],
      (rw (append_assoc (spell_ex e) (Fixed Point ∷ Name 0 [] ∷ []) (Fixed Semicolon ∷ [])) refl, λ b. (refl, (atom_of e x b, b, tt, tt)), λ m q f. and_from _ _ f refl),
    )

good_delete : (d : ℕ) (i : Option Below) → GoodBelow d i → Good (After kept.Delete d) (post i >>= λ e. deleted e)
good_delete d i g = good_sub _ (After kept.Delete d) _ (λ n s ts h. (rw (h.5, h.3.0) h.4.0, h.4.1 h.3.1, λ m e. h.4.2 m (rw (e, h.3.0) refl) (rw e h.3.2)))
    (good_bind (ExAt 0 d) (DeletedAt d) (post i) deleted (good_post d i g) (good_deleted d))

-- ---- expressions and assignments
abbrev AssignAt : ℕ → Ex → Lang Stmt
AssignAt d e n s ts = (spell_ex e ++ ts ≡ spell_stmt s) × (Binds 8 e → begins_brace (spell_ex e) ≡ false → RightStmt s) × ((m : ℕ) → m - length (spell_ex e) ≡ n → within e d m ≡ true → within_stmt s d m ≡ true)

done : (d : ℕ) (e : Ex) → Good (AssignAt d e) (ended (Do e))
done d e = good_sub _ (AssignAt d e) _ (λ n s ts h. rw (h.1, h.0) (refl, λ b o. (o, b), λ m q f. f)) (good_ended (Do e))

assigned : (d : ℕ) (i : Option Below) → GoodBelow d i → (e : Ex) → is_target e ≡ true → Good (AssignAt d e) (assign_by i e true)
assigned d i g e t = good_sub _ (AssignAt d e) _ spelled (good_bind (Just Assign) _ (expect Assign) _ (good_sign Assign) (λ _. good_bind (ExAt 8 d) _ (expr i) _ (good_expr d i g) (λ v. good_ended (Set e v))))
  where
    spelled : (n : ℕ) (s : Stmt) (ts : Toks) → Seq (Just Assign) (λ _. Seq (ExAt 8 d) (λ v. Ends (Set e v))) n s ts → AssignAt d e n s ts
    spelled n s ts h = let j = h.4 in let u = rw h.3 at j.3.2 in rw (h.5, h.3, j.5, j.3.0, j.4.1, j.4.0) (refl, λ b o. (t, o, b, j.3.1), λ m q f. and_from _ _ f (rw q u))

good_assign : (d : ℕ) (i : Option Below) → GoodBelow d i → (e : Ex) (c : Option Tok) → Good (AssignAt d e) (assign_by i e (may_assign e c))
good_assign d i g e c = go (is_target e) refl
  where
    by : is_target e ≡ true → (x : Bool) → Good (AssignAt d e) (assign_by i e x)
    by t true = assigned d i g e t
    by t false = done d e

    go : (x : Bool) → is_target e ≡ x → Good (AssignAt d e) (assign_by i e (if x then sees Assign c else false))
    go true t = by t (sees Assign c)
    go false t = done d e

brace_token : (t : Tok) → NoBrace (Some t) → opens_brace t ≡ false
brace_token (Name at bytes) h = refl
brace_token (Kept r) h = refl
brace_token (Integer n) h = refl
brace_token Other h = refl
brace_token (Text bytes) h = refl
brace_token (Fixed OpenBrace) h = absurd cc
brace_token (Fixed _) h = refl

brace_front : (xs ys : Toks) → 0 < length xs → NoBrace (first (xs ++ ys)) → begins_brace xs ≡ false
brace_front [] ys l h = refl
brace_front (t ∷ xs) ys l h = brace_token t h

-- a statement that is read as an expression first
abbrev ExprAt : ℕ → Lang Stmt
ExprAt d = Seq (ExAt 8 d) (AssignAt d)

good_by_expr : (d : ℕ) (i : Option Below) → GoodBelow d i → Good (ExprAt d) (stmt_by i ExprForm)
good_by_expr d i g = good_bind (ExAt 8 d) (AssignAt d) (expr i) _ (good_expr d i g) (λ e. good_look (AssignAt d e) _ (good_assign d i g e))

consumes_expr : (d : ℕ) → Consumes (ExprAt d)
consumes_expr d n a x h = rw h.5 (append_some h.1 h.2 (consumes_ex 8 d n h.0 h.1 h.3))

-- ---- statements
form_brace : (c : Option Tok) → stmt_form c ≡ ExprForm → NoBrace c
form_brace None e = refl
form_brace (Some (Name at bytes)) e = refl
form_brace (Some (Kept r)) e = refl
form_brace (Some (Integer n)) e = refl
form_brace (Some Other) e = refl
form_brace (Some (Text bytes)) e = refl
form_brace (Some (Fixed OpenBrace)) e = absurd cc
form_brace (Some (Fixed _)) e = refl

example_stmt : (d : ℕ) → Example (StmtAt d)
example_stmt d = (Empty, Fixed Semicolon ∷ [], (refl, tt, refl))

zero_if : Example (After kept.If 0)
zero_if = (IfThen nothing Empty, Fixed OpenRound ∷ Name 0 [] ∷ Fixed CloseRound ∷ Fixed Semicolon ∷ [], (refl, (tt, tt), λ m e. rw e refl))

good_by_stmt : (d : ℕ) (i : Option Below) → GoodBelow d i → (c : Option Tok) (f : StmtForm) → stmt_form c ≡ f → GoodAt (StmtAt d) (stmt_by i f) c
good_by_stmt d i g c BlockForm e = good_at (StmtAt d) _ c (good_opened StmtAt (fixed OpenBrace) block (example_stmt 0) (deep_sign (StmtAt 0) OpenBrace (Block NoItems) (Fixed CloseBrace ∷ []) (refl, tt, refl)) block_stmt d i g)
good_by_stmt d i g c EmptyForm e = good_at (StmtAt d) _ c (good_sub _ (StmtAt d) _ (λ n s ts h. rw (h.1, h.0) (refl, tt, refl)) (good_ended Empty))
good_by_stmt d i g c IfForm e = good_at (StmtAt d) _ c (after kept.If d _ (good_opened (After kept.If) (fixed OpenRound) conditional zero_if
    (deep_sign (After kept.If 0) OpenRound (IfThen nothing Empty) (Name 0 [] ∷ Fixed CloseRound ∷ Fixed Semicolon ∷ []) (refl, (tt, tt), λ m e. rw e refl)) good_conditional d i g))
good_by_stmt d i g c ReturnForm e = good_at (StmtAt d) _ c (after kept.Return d _ (good_look (After kept.Return d) _ (λ c. by_return d i g (sees Semicolon c))))
good_by_stmt d i g c ThrowForm e = good_at (StmtAt d) _ c (after kept.Throw d _ (good_look (After kept.Throw d) _ (λ c. by_throw d i g (sees_word kept.New c))))
good_by_stmt d i g c DeleteForm e = good_at (StmtAt d) _ c (after kept.Delete d _ (good_delete d i g))
good_by_stmt d i g c ExprForm e = good_sub_at (Begun (ExprAt d) NoBrace) (StmtAt d) _ c plain
    (good_begun (ExprAt d) NoBrace _ c (good_by_expr d i g) (consumes_expr d) (form_brace c e) (Do nothing) (Name 0 [] ∷ Fixed Semicolon ∷ []) (nothing, Name 0 [] ∷ [], Fixed Semicolon ∷ [], (refl, tt, refl), (refl, λ b o. (o, b), λ m q f. f), refl) refl)
  where
    plain : (n : ℕ) (s : Stmt) (ts : Toks) → Begun (ExprAt d) NoBrace n s ts → StmtAt d n s ts
    plain n s ts p =
        let h = p.0 in
        let front : NoBrace (first (h.1 ++ h.2)) = subst (λ (v : Toks). NoBrace (first v)) h.5 p.1 in
        let brace : begins_brace (spell_ex h.0) ≡ false = subst (λ (v : Toks). begins_brace v ≡ false) h.3.0 (brace_front h.1 h.2 (consumes_ex 8 d n h.0 h.1 h.3) front) in
        (rw (h.5, h.3.0) h.4.0, h.4.1 h.3.1 brace, h.4.2 n (rw h.3.0 refl) h.3.2)

pub good_stmt : (d : ℕ) (i : Option Below) → GoodBelow d i → Good (StmtAt d) (stmt i)
good_stmt d i g = good_look_at (StmtAt d) _ (λ c. good_by_stmt d i g c (stmt_form c) refl)

-- ---- items
-- what stands behind the first word
abbrev AfterWord : Reserved → ℕ → Lang Item
AfterWord r d n s ts = (Kept r ∷ ts ≡ spell_item s) × RightItem s × ((m : ℕ) → m - 1 ≡ n → within_item s d m ≡ true)

after_word : (r : Reserved) (d : ℕ) (p : Parser Item) → Good (AfterWord r d) p → Good (ItemAt d) (keyword r >>= λ _. p)
after_word r d p g = good_sub _ (ItemAt d) _ (λ n s ts h. (h.5 ∙ rw h.3 h.4.0, h.4.1, h.4.2 n (rw h.3 refl))) (good_bind (JustWord r) (λ _. AfterWord r d) (keyword r) (λ _. p) (good_word r) (λ _. g))

good_const : (d : ℕ) (i : Option Below) → GoodBelow d i → Good (AfterWord kept.Const d) (take name_of >>= λ n. expect Assign >>= λ _. expr i >>= λ e. ended (Const n.0 n.1 e))
good_const d i g = good_sub _ (AfterWord kept.Const d) _ spelled
    (good_bind NameAt _ (take name_of) _ good_name (λ n. good_bind (Just Assign) _ (expect Assign) _ (good_sign Assign) (λ _. good_bind (ExAt 8 d) _ (expr i) _ (good_expr d i g) (λ e. good_ended (Const n.0 n.1 e)))))
  where
    spelled : (n : ℕ) (s : Item) (ts : Toks) → Seq NameAt (λ n. Seq (Just Assign) (λ _. Seq (ExAt 8 d) (λ e. Ends (Const n.0 n.1 e)))) n s ts → AfterWord kept.Const d n s ts
    spelled n s ts h = let i = h.4 in let j = i.4 in let u = rw (h.3, i.3) at j.3.2 in rw (h.5, h.3, i.5, i.3, j.5, j.3.0, j.4.1, j.4.0) (refl, j.3.1, λ m e. rw e u)

-- what stands behind `let` and a name
abbrev LetAt : ℕ × List ℕ → ℕ → Lang Item
LetAt v d n s ts = (Kept kept.Let ∷ Name v.0 v.1 ∷ ts ≡ spell_item s) × RightItem s × ((m : ℕ) → m - 1 - 1 ≡ n → within_item s d m ≡ true)

by_let : (d : ℕ) (i : Option Below) → GoodBelow d i → (v : ℕ × List ℕ) (c : Bool) → Good (LetAt v d) (let_by i v c)
by_let d i g v false = good_sub _ (LetAt v d) _ (λ n s ts h. rw (h.1, h.0) (refl, tt, λ m e. refl)) (good_ended (Let v.0 v.1))
by_let d i g v true = good_sub _ (LetAt v d) _ spelled (good_bind (Just Assign) _ (expect Assign) _ (good_sign Assign) (λ _. good_bind (ExAt 8 d) _ (expr i) _ (good_expr d i g) (λ e. good_ended (LetBe v.0 v.1 e))))
  where
    spelled : (n : ℕ) (s : Item) (ts : Toks) → Seq (Just Assign) (λ _. Seq (ExAt 8 d) (λ e. Ends (LetBe v.0 v.1 e))) n s ts → LetAt v d n s ts
    spelled n s ts h = let j = h.4 in let u = rw h.3 at j.3.2 in rw (h.5, h.3, j.5, j.3.0, j.4.1, j.4.0) (refl, j.3.1, λ m e. rw e u)

good_let : (d : ℕ) (i : Option Below) → GoodBelow d i → Good (AfterWord kept.Let d) (take name_of >>= λ n. look (λ c. let_by i n (sees Assign c)))
good_let d i g = good_sub _ (AfterWord kept.Let d) _ (λ n s ts h. (rw (h.5, h.3) h.4.0, h.4.1, λ m e. h.4.2 m (rw (e, h.3) refl)))
    (good_bind NameAt (λ v. LetAt v d) (take name_of) _ good_name (λ v. good_look (LetAt v d) _ (λ c. by_let d i g v (sees Assign c))))

by_item : (d : ℕ) (i : Option Below) → GoodBelow d i → (f : ItemForm) → Good (ItemAt d) (item_by i f)
by_item d i g ConstForm = after_word kept.Const d _ (good_const d i g)
by_item d i g LetForm = after_word kept.Let d _ (good_let d i g)
by_item d i g PlainForm = good_sub _ (ItemAt d) _ (λ n s ts h. rw (h.5, h.3.0, h.4.1, h.4.0) (append-nil (spell_stmt h.0), h.3.1, h.3.2)) (good_bind (StmtAt d) _ (stmt i) _ (good_stmt d i g) (λ s. good_pure (Plain s)))

pub good_item : (d : ℕ) (i : Option Below) → GoodBelow d i → Good (ItemAt d) (item i)
good_item d i g = good_look (ItemAt d) _ (λ c. by_item d i g (item_form c))

pub good_below : (d : ℕ) → GoodBelow d (below d)
unfolding below
good_below zero = tt
good_below (suc d) = let g = good_below d in record { unary = good_unary d (below d) g; expr = good_expr d (below d) g; stmt = good_stmt d (below d) g; item = good_item d (below d) g }

-- ---- reducers
ParamsAt : Lang Params
ParamsAt n ps ts = ts ≡ spell_params ps

by_params : (v : ℕ × List ℕ) (c : Bool) → Good (λ n ps ts. Name v.0 v.1 ∷ ts ≡ spell_params ps) (params_by v c)
by_params v false = good_sub _ _ _ (λ n ps ts h. rw (h.1, h.0) refl) (good_pure (One v.0 v.1))
by_params v true = good_sub _ _ _ (λ n ps ts h. let j = h.4 in rw (h.5, h.3, j.5, j.3, j.4.1, j.4.0) refl) (good_bind (Just Comma) _ (expect Comma) _ (good_sign Comma) (λ _. good_bind NameAt _ (take name_of) _ good_name (λ m. good_pure (Two v.0 v.1 m.0 m.1))))

good_params : Good ParamsAt params
unfolding ParamsAt
good_params = good_sub _ ParamsAt _ (λ n ps ts h. rw (h.5, h.3) h.4) (good_bind NameAt (λ v n ps ts. Name v.0 v.1 ∷ ts ≡ spell_params ps) (take name_of) _ good_name (λ v. good_look _ _ (λ c. by_params v (sees Comma c))))

-- what stands behind `function` and a name
abbrev BodyAt : ℕ × List ℕ → ℕ → Lang Reducer
BodyAt v d n r ts = (Kept kept.Function ∷ Name v.0 v.1 ∷ ts ≡ spell_reducer r) × RightReducer r × ((m : ℕ) → m - 1 - 1 ≡ n → within_reducer r d m ≡ true)

abbrev ReducerAt : ℕ → Lang Reducer
ReducerAt d = Of spell_reducer RightReducer (λ r n. within_reducer r d n)

good_body : (v : ℕ × List ℕ) (d : ℕ) (b : Below) → Goods d b → Good (BodyAt v (suc d)) (reducer_body v b)
unfolding ParamsAt
good_body v d b g = good_sub _ (BodyAt v (suc d)) _ spelled
    (good_bind (Just OpenRound) _ (expect OpenRound) _ (good_sign OpenRound) (λ _. good_bind ParamsAt _ params _ good_params (λ ps. good_bind (Just CloseRound) _ (expect CloseRound) _ (good_sign CloseRound) (λ _. good_bind (Just OpenBrace) _ (expect OpenBrace) _ (good_sign OpenBrace) (λ _.
    good_bind (ItemsAt d) _ (items b) _ (good_items d b g) (λ is. good_bind (Just CloseBrace) _ (expect CloseBrace) _ (good_sign CloseBrace) (λ _. good_pure (Function v.0 v.1 ps is))))))))
  where
    spelled : (n : ℕ) (r : Reducer) (ts : Toks) → Seq (Just OpenRound) (λ _. Seq ParamsAt (λ ps. Seq (Just CloseRound) (λ _. Seq (Just OpenBrace) (λ _. Seq (ItemsAt d) (λ is. Seq (Just CloseBrace) (λ _. Nothing (Function v.0 v.1 ps is))))))) n r ts → BodyAt v (suc d) n r ts
    spelled n r ts h = let i = h.4 in let j = i.4 in let k = j.4 in let l = k.4 in let o = l.4 in
        let u = rw (h.3, i.3, j.3, k.3) at l.3.2 in
        rw (h.5, h.3, i.5, i.3, j.5, j.3, k.5, k.3, l.5, l.3.0, o.5, o.3, o.4.1, o.4.0) (refl, l.3.1, λ m e. rw e u)

zero_body : (v : ℕ × List ℕ) → Example (BodyAt v 0)
zero_body v = (Function v.0 v.1 (One 0 []) NoItems, Fixed OpenRound ∷ Name 0 [] ∷ Fixed CloseRound ∷ Fixed OpenBrace ∷ Fixed CloseBrace ∷ [], (refl, tt, λ m e. rw e refl))

good_reducer : (d : ℕ) (i : Option Below) → GoodBelow d i → Good (ReducerAt d) (reducer i)
good_reducer d i g = good_sub _ (ReducerAt d) _ (λ n r ts h. let j = h.4 in (rw (h.5, h.3, j.5, j.3) j.4.0, j.4.1, j.4.2 n (rw (h.3, j.3) refl)))
    (good_bind (JustWord kept.Function) _ (keyword kept.Function) _ (good_word kept.Function) (λ _. good_bind NameAt (λ v. BodyAt v d) (take name_of) _ good_name (λ v.
    good_opened (BodyAt v) (fixed OpenRound) (reducer_body v) (zero_body v) (deep_sign (BodyAt v 0) OpenRound (Function v.0 v.1 (One 0 []) NoItems) (Name 0 [] ∷ Fixed CloseRound ∷ Fixed OpenBrace ∷ Fixed CloseBrace ∷ []) (refl, tt, λ m e. rw e refl)) (good_body v) d i g)))

some_reducer : (r : Reducer) → 0 < length (spell_reducer r)
some_reducer (Function at bytes ps is) = omega arith

good_reducers : (d : ℕ) (i : Option Below) → GoodBelow d i → Good (ProgramAt d) (reducers i)
good_reducers d i g = good_many (ReducerAt d) (ProgramAt d) (λ _. true) (reducer i) NoReducers ThenReducer (good_reducer d i g)
    (λ n. (refl, tt, refl)) (λ n a c x y h k. (rw (h.0, k.0) refl, (h.1, k.1), and_from _ _ h.2 (rw h.0 at k.2))) (λ n a x h. rw h.0 (some_reducer a))

pub good_program : (d : ℕ) → Good (ProgramAt d) (program d)
unfolding program
good_program d = good_sub _ (ProgramAt d) _ (λ n p ts h. let i = h.4 in rw (h.5, h.3.0, i.5, i.3, i.4.1, i.4.0) (append-nil (spell_program h.0), h.3.1, h.3.2))
    (good_bind (ProgramAt d) _ (reducers (below d)) _ (good_reducers d (below d) (good_below d)) (λ rs. good_bind End _ finish _ good_finish (λ _. good_pure rs)))

-- ---- the lists without their bounds
pub items_is : (d : ℕ) (b : Below) → Goods d b → (ts : Toks) → items b ts ≡ look (many_by in_block b.item NoItems ThenItem (items b)) ts
items_is d b g ts = many_is (ItemAt d) in_block b.item NoItems ThenItem g.item (λ n a x h. rw h.0 (some_item a)) ts

pub reducers_is : (d : ℕ) (i : Option Below) → GoodBelow d i → (ts : Toks) → reducers i ts ≡ look (many_by (λ _. true) (reducer i) NoReducers ThenReducer (reducers i)) ts
reducers_is d i g ts = many_is (ReducerAt d) (λ _. true) (reducer i) NoReducers ThenReducer (good_reducer d i g) (λ n a x h. rw h.0 (some_reducer a)) ts
