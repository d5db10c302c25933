-- Every statement and every program is read from its spelling.
use Rattle.std.proofs.Common.{◌≡◌, ℕ, suc, ◌-◌, Bool, true, false, List, [], ◌∷◌, ◌++◌, length, Option, Some, Ok, refl, sym, subst, append_assoc, arith}
use Rattle.std.specs.Prelude.{◌&&◌, if◌then◌else◌}
use Rattle.script_text.specs.declared.sign.Sign.TheVariants.{OpenRound, CloseRound, OpenBrace, CloseBrace, Comma, Semicolon, Assign}
use Rattle.script_text.specs.declared.word.Reserved.TheVariants as kept
use Rattle.script_grammar.specs.Tokens.{Tok, Name, Kept, Fixed, Toks}
use Rattle.script_grammar.specs.Trees.{Ex, Stmt, Block, Empty, IfThen, IfElse, Return, ReturnOf, Throw, ThrowError, Delete, Set, Do, Item, Const, Let, LetBe, Plain, Items, NoItems, ThenItem, Params, One, Two, Reducer, Function, Program, NoReducers, ThenReducer}
use Rattle.script_grammar.specs.Spelling.{spell_ex, spell_stmt, spell_item, spell_items, spell_params, spell_reducer, spell_program}
use Rattle.script_grammar.specs.Rules.{is_member, is_target, Binds, opens, within, opens_brace, begins_brace, is_open, RightStmt, RightItem, RightItems, RightReducer, Right, inner_levels, within_stmt, within_item, within_items, within_reducer, within_program}
use Rattle.script_parser.specs.Steps.{◌>>=◌, pure, take, first, look, finish}
use Rattle.script_parser.specs.Tests.{fixed, name_of, sees, sees_word, ExprForm, PlainForm, item_form, in_block}
use Rattle.script_parser.specs.Parser.{expect, keyword, opened, expr, post, items, block, inner, else_by, may_else, conditional, ended, return_by, thrown_error, throw_by, deleted, assign_by, may_assign, stmt_by, stmt, let_by, item, below, params, reducer_body, reducer, reducers, program}
use Rattle.script_parser.proofs.Tests.{is_fixed}
use Rattle.script_parser.proofs.Statements.{good_below, items_is, reducers_is}
use Rattle.script_parser.proofs.Takes.{Takes, takes_same, takes_bind, takes_first, takes_map, take_token, take_sign, take_word, behind, behind_sign, behind_word, takes_pure, many_nil, many_cons_at}
use Rattle.script_parser.proofs.Follow.{starts, Front, begun, no_semicolon, no_new, no_else, no_brace, expr_form, plain_form, starts_in_block}
use Rattle.script_parser.proofs.Accept.{under, goods_under, takes_opened, accept}

-- no `else` comes next
abbrev pub NoElse : Toks → Type 0
NoElse ts = sees_word kept.Else (first ts) ≡ false

semicolon : {A : Type 0} (a : A) (rest : Toks) → ended a (Fixed Semicolon ∷ rest) ≡ Ok (a, rest)
semicolon a rest = rw (take_sign Semicolon rest) refl

-- an expression and what ends with it
expr_ended : {A : Type 0} (e : Ex) (make : Ex → A) (d : ℕ) (rest : Toks) → Binds 8 e → Takes (within e d) (expr (below d) >>= λ e. ended (make e)) (spell_ex e ++ Fixed Semicolon ∷ []) (make e) rest
expr_ended e make d rest b = takes_first (within e d) (expr (below d)) (λ e. ended (make e)) (spell_ex e) (Fixed Semicolon ∷ []) e (make e) rest ((accept e).whole d (Fixed Semicolon ∷ rest) b (omega arith)) (semicolon (make e) rest)

-- what begins with an expression has its first token
front_of : (xs ys : Toks) (c : Option Tok → Bool) → Front xs → ((t : Tok) → starts t ≡ true → c (Some t) ≡ false) → c (first (xs ++ ys)) ≡ false
front_of xs ys c f h = subst (λ (w : Toks). c (first (w ++ ys)) ≡ false) (sym f.2) (h f.0 f.3)

three : (e : Ex) (ys rest : Toks) → (spell_ex e ++ ys) ++ rest ≡ spell_ex e ++ (ys ++ rest)
three e ys rest = append_assoc (spell_ex e) ys rest

-- ---- return, throw, delete
return_of : (e : Ex) (d : ℕ) (rest : Toks) → Binds 8 e → Takes (within_stmt (ReturnOf e) d) (stmt (below d)) (spell_stmt (ReturnOf e)) (ReturnOf e) rest
return_of e d rest b = behind_word (within e d) kept.Return (look (λ c. return_by (below d) (sees Semicolon c))) (spell_ex e ++ Fixed Semicolon ∷ []) (ReturnOf e) rest
    (takes_same (within e d) (look (λ c. return_by (below d) (sees Semicolon c))) (expr (below d) >>= λ e. ended (ReturnOf e)) (spell_ex e ++ Fixed Semicolon ∷ []) (ReturnOf e) rest
    (rw (three e (Fixed Semicolon ∷ []) rest, front_of (spell_ex e) (Fixed Semicolon ∷ rest) (sees Semicolon) (begun e 8 b) no_semicolon) refl) (expr_ended e ReturnOf d rest b))

throw_of : (e : Ex) (d : ℕ) (rest : Toks) → Binds 8 e → Takes (within_stmt (Throw e) d) (stmt (below d)) (spell_stmt (Throw e)) (Throw e) rest
throw_of e d rest b = behind_word (within e d) kept.Throw (look (λ c. throw_by (below d) (sees_word kept.New c))) (spell_ex e ++ Fixed Semicolon ∷ []) (Throw e) rest
    (takes_same (within e d) (look (λ c. throw_by (below d) (sees_word kept.New c))) (expr (below d) >>= λ e. ended (Throw e)) (spell_ex e ++ Fixed Semicolon ∷ []) (Throw e) rest
    (rw (three e (Fixed Semicolon ∷ []) rest, front_of (spell_ex e) (Fixed Semicolon ∷ rest) (sees_word kept.New) (begun e 8 b) no_new) refl) (expr_ended e Throw d rest b))

error_end : (e : Ex) (rest : Toks) → (expect CloseRound >>= λ _. ended (ThrowError e)) (Fixed CloseRound ∷ Fixed Semicolon ∷ rest) ≡ Ok (ThrowError e, rest)
error_end e rest = rw (take_sign CloseRound (Fixed Semicolon ∷ rest), take_sign Semicolon rest) refl

throw_error : (e : Ex) (d : ℕ) (rest : Toks) → Binds 8 e → Takes (within_stmt (ThrowError e) d) (stmt (below d)) (spell_stmt (ThrowError e)) (ThrowError e) rest
throw_error e d rest b =
    let tail = spell_ex e ++ Fixed CloseRound ∷ Fixed Semicolon ∷ [] in
    behind_word (λ n. opens d (n - 1 - 1) (within e)) kept.Throw (look (λ c. throw_by (below d) (sees_word kept.New c))) (Kept kept.New ∷ Kept kept.Error ∷ Fixed OpenRound ∷ tail) (ThrowError e) rest
    (behind_word (λ n. opens d (n - 1) (within e)) kept.New (keyword kept.Error >>= λ _. opened (below d) (fixed OpenRound) thrown_error) (Kept kept.Error ∷ Fixed OpenRound ∷ tail) (ThrowError e) rest
    (behind_word (λ n. opens d n (within e)) kept.Error (opened (below d) (fixed OpenRound) thrown_error) (Fixed OpenRound ∷ tail) (ThrowError e) rest
    (takes_opened (within e) (fixed OpenRound) thrown_error (Fixed OpenRound) tt tail (ThrowError e) rest d (is_fixed OpenRound)
    (λ d. behind_sign (within e d) OpenRound (expr (below d) >>= λ e. expect CloseRound >>= λ _. ended (ThrowError e)) tail (ThrowError e) rest
    (takes_first (within e d) (expr (below d)) (λ e. expect CloseRound >>= λ _. ended (ThrowError e)) (spell_ex e) (Fixed CloseRound ∷ Fixed Semicolon ∷ []) e (ThrowError e) rest ((accept e).whole d (Fixed CloseRound ∷ Fixed Semicolon ∷ rest) b (omega arith)) (error_end e rest))))))

delete_of : (e : Ex) (d : ℕ) (rest : Toks) → is_member e ≡ true → Binds 0 e → Takes (within_stmt (Delete e) d) (stmt (below d)) (spell_stmt (Delete e)) (Delete e) rest
delete_of e d rest m b = behind_word (within e d) kept.Delete (post (below d) >>= λ e. deleted e) (spell_ex e ++ Fixed Semicolon ∷ []) (Delete e) rest
    (takes_first (within e d) (post (below d)) (λ e. deleted e) (spell_ex e) (Fixed Semicolon ∷ []) e (Delete e) rest ((accept e).upto 0 d (Fixed Semicolon ∷ rest) (omega arith) b (omega arith) (omega arith)) (rw (m, take_sign Semicolon rest) refl))

-- ---- expressions and assignments
by_expr : (e : Ex) (d : ℕ) (ys rest : Toks) → Binds 8 e → begins_brace (spell_ex e) ≡ false → stmt (below d) ((spell_ex e ++ ys) ++ rest) ≡ stmt_by (below d) ExprForm ((spell_ex e ++ ys) ++ rest)
by_expr e d ys rest b h = go (begun e 8 b)
  where
    go : Front (spell_ex e) → stmt (below d) ((spell_ex e ++ ys) ++ rest) ≡ stmt_by (below d) ExprForm ((spell_ex e ++ ys) ++ rest)
    go f =
        let brace : opens_brace f.0 ≡ false = subst (λ (w : Toks). begins_brace w ≡ false) f.2 h in
        subst (λ (w : Toks). stmt (below d) ((w ++ ys) ++ rest) ≡ stmt_by (below d) ExprForm ((w ++ ys) ++ rest)) (sym f.2) (rw (expr_form f.0 f.3 brace) refl)

no_assign : (e : Ex) → may_assign e (Some (Fixed Semicolon)) ≡ false
no_assign e = go (is_target e)
  where
    go : (b : Bool) → (if b then sees Assign (Some (Fixed Semicolon)) else false) ≡ false
    go true = refl
    go false = refl

do_of : (e : Ex) (d : ℕ) (rest : Toks) → Binds 8 e → begins_brace (spell_ex e) ≡ false → Takes (within_stmt (Do e) d) (stmt (below d)) (spell_stmt (Do e)) (Do e) rest
do_of e d rest b h = takes_same (within e d) (stmt (below d)) (stmt_by (below d) ExprForm) (spell_ex e ++ Fixed Semicolon ∷ []) (Do e) rest (by_expr e d (Fixed Semicolon ∷ []) rest b h)
    (takes_first (within e d) (expr (below d)) (λ e. look (λ c. assign_by (below d) e (may_assign e c))) (spell_ex e) (Fixed Semicolon ∷ []) e (Do e) rest ((accept e).whole d (Fixed Semicolon ∷ rest) b (omega arith))
    (rw (no_assign e, take_sign Semicolon rest) refl))

set_of : (t e : Ex) (d : ℕ) (rest : Toks) → is_target t ≡ true → begins_brace (spell_ex t) ≡ false → Binds 8 t → Binds 8 e → Takes (within_stmt (Set t e) d) (stmt (below d)) (spell_stmt (Set t e)) (Set t e) rest
set_of t e d rest q h b k =
    let tail = Fixed Assign ∷ (spell_ex e ++ Fixed Semicolon ∷ []) in
    takes_same (within_stmt (Set t e) d) (stmt (below d)) (stmt_by (below d) ExprForm) (spell_ex t ++ tail) (Set t e) rest (by_expr t d tail rest b h)
    (takes_bind (within t d) (λ n. within e d (n - 1)) (expr (below d)) (λ e. look (λ c. assign_by (below d) e (may_assign e c))) (spell_ex t) tail t (Set t e) rest ((accept t).whole d (tail ++ rest) b (omega arith))
    (takes_same (λ n. within e d (n - 1)) (look (λ c. assign_by (below d) t (may_assign t c))) (assign_by (below d) t true) tail (Set t e) rest (rw q refl)
    (behind_sign (within e d) Assign (expr (below d) >>= λ v. ended (Set t v)) (spell_ex e ++ Fixed Semicolon ∷ []) (Set t e) rest (expr_ended e (Set t) d rest k))))

-- ---- blocks and conditionals
block_of : (is : Items) (d : ℕ) (rest : Toks) → Takes (within_items is d) (items (under d)) (spell_items is) is (Fixed CloseBrace ∷ rest) → Takes (λ n. within_items is d (n - 1)) (block (under d)) (spell_stmt (Block is)) (Block is) rest
block_of is d rest h = behind_sign (within_items is d) OpenBrace (items (under d) >>= λ is. expect CloseBrace >>= λ _. pure (Block is)) (spell_items is ++ Fixed CloseBrace ∷ []) (Block is) rest
    (takes_first (within_items is d) (items (under d)) (λ is. expect CloseBrace >>= λ _. pure (Block is)) (spell_items is) (Fixed CloseBrace ∷ []) is (Block is) rest h (rw (take_sign CloseBrace rest) refl))

block_stmt : (is : Items) (d : ℕ) (rest : Toks) → ((d : ℕ) → Takes (within_items is d) (items (under d)) (spell_items is) is (Fixed CloseBrace ∷ rest)) → Takes (within_stmt (Block is) d) (stmt (below d)) (spell_stmt (Block is)) (Block is) rest
block_stmt is d rest h = takes_opened (within_items is) (fixed OpenBrace) block (Fixed OpenBrace) tt (spell_items is ++ Fixed CloseBrace ∷ []) (Block is) rest d (is_fixed OpenBrace) (λ d. block_of is d rest (h d))

-- a block is read by the rule for blocks
same_block : (is : Items) (d : ℕ) (rest : Toks) → inner (under d) (spell_stmt (Block is) ++ rest) ≡ stmt (below (suc d)) (spell_stmt (Block is) ++ rest)
unfolding below
same_block is d rest = refl

by_inner : (e : Ex) (d : ℕ) (ys rest : Toks) → Binds 8 e → begins_brace (spell_ex e) ≡ false → inner (under d) ((spell_ex e ++ ys) ++ rest) ≡ stmt (below d) ((spell_ex e ++ ys) ++ rest)
by_inner e d ys rest b h = go (begun e 8 b)
  where
    go : Front (spell_ex e) → inner (under d) ((spell_ex e ++ ys) ++ rest) ≡ stmt (below d) ((spell_ex e ++ ys) ++ rest)
    go f =
        let brace : opens_brace f.0 ≡ false = subst (λ (w : Toks). begins_brace w ≡ false) f.2 h in
        subst (λ (w : Toks). inner (under d) ((w ++ ys) ++ rest) ≡ stmt (below d) ((w ++ ys) ++ rest)) (sym f.2) (rw (no_brace f.0 f.3 brace) refl)

-- a statement in a statement
inside : (s : Stmt) (d : ℕ) (rest : Toks) → RightStmt s → ((d : ℕ) → Takes (within_stmt s d) (stmt (below d)) (spell_stmt s) s rest) → Takes (within_stmt s (inner_levels s d)) (inner (under d)) (spell_stmt s) s rest
inside (Block is) d rest r h = takes_same (within_stmt (Block is) (suc d)) (inner (under d)) (stmt (below (suc d))) (spell_stmt (Block is)) (Block is) rest (same_block is d rest) (h (suc d))
inside Empty d rest r h = h d
inside (IfThen e s) d rest r h = h d
inside (IfElse e s t) d rest r h = h d
inside Return d rest r h = h d
inside (ReturnOf e) d rest r h = h d
inside (Throw e) d rest r h = h d
inside (ThrowError e) d rest r h = h d
inside (Delete e) d rest r h = h d
inside (Set t e) d rest r h = takes_same (within_stmt (Set t e) d) (inner (under d)) (stmt (below d)) (spell_stmt (Set t e)) (Set t e) rest (by_inner t d (Fixed Assign ∷ (spell_ex e ++ Fixed Semicolon ∷ [])) rest r.2 r.1) (h d)
inside (Do e) d rest r h = takes_same (within_stmt (Do e) d) (inner (under d)) (stmt (below d)) (spell_stmt (Do e)) (Do e) rest (by_inner e d (Fixed Semicolon ∷ []) rest r.1 r.0) (h d)

no_else_here : (s : Stmt) (c : Option Tok) → sees_word kept.Else c ≡ false → may_else s c ≡ false
no_else_here s c h = go (is_open s)
  where
    go : (b : Bool) → (if b then false else sees_word kept.Else c) ≡ false
    go true = refl
    go false = h

-- the head of a conditional
head_of : (e : Ex) (d : ℕ) (c : ℕ → ℕ → Bool) (y : Toks) (w : Stmt) (rest : Toks) → Binds 8 e → ((d : ℕ) → Takes (c d) (inner (under d) >>= λ s. look (λ t. else_by (under d) e s (may_else s t))) y w rest)
    → Takes (λ n. opens d (n - 1) (λ f m. within e f m && c f (m - length (spell_ex e) - 1))) (stmt (below d)) (Kept kept.If ∷ Fixed OpenRound ∷ (spell_ex e ++ Fixed CloseRound ∷ y)) w rest
head_of e d c y w rest b h = behind_word (λ n. opens d n (λ f m. within e f m && c f (m - length (spell_ex e) - 1))) kept.If (opened (below d) (fixed OpenRound) conditional) (Fixed OpenRound ∷ (spell_ex e ++ Fixed CloseRound ∷ y)) w rest
    (takes_opened (λ f m. within e f m && c f (m - length (spell_ex e) - 1)) (fixed OpenRound) conditional (Fixed OpenRound) tt (spell_ex e ++ Fixed CloseRound ∷ y) w rest d (is_fixed OpenRound)
    (λ d. behind_sign (λ m. within e d m && c d (m - length (spell_ex e) - 1)) OpenRound (expr (below d) >>= λ e. expect CloseRound >>= λ _. inner (under d) >>= λ s. look (λ t. else_by (under d) e s (may_else s t))) (spell_ex e ++ Fixed CloseRound ∷ y) w rest
    (takes_bind (within e d) (λ n. c d (n - 1)) (expr (below d)) (λ e. expect CloseRound >>= λ _. inner (under d) >>= λ s. look (λ t. else_by (under d) e s (may_else s t))) (spell_ex e) (Fixed CloseRound ∷ y) e w rest
    ((accept e).whole d (Fixed CloseRound ∷ (y ++ rest)) b (omega arith))
    (behind_sign (c d) CloseRound (inner (under d) >>= λ s. look (λ t. else_by (under d) e s (may_else s t))) y w rest (h d)))))

if_then : (e : Ex) (s : Stmt) (d : ℕ) (rest : Toks) → Binds 8 e → RightStmt s → NoElse rest → ((d : ℕ) → Takes (within_stmt s d) (stmt (below d)) (spell_stmt s) s rest) → Takes (within_stmt (IfThen e s) d) (stmt (below d)) (spell_stmt (IfThen e s)) (IfThen e s) rest
if_then e s d rest b r n h = head_of e d (λ d. within_stmt s (inner_levels s d)) (spell_stmt s) (IfThen e s) rest b
    (λ d. takes_map (within_stmt s (inner_levels s d)) (inner (under d)) (λ s. look (λ t. else_by (under d) e s (may_else s t))) (spell_stmt s) s (IfThen e s) rest (inside s d rest r h) (rw (no_else_here s (first rest) n) refl))

if_else : (e : Ex) (s t : Stmt) (d : ℕ) (rest : Toks) → Binds 8 e → is_open s ≡ false → RightStmt s → RightStmt t → ((d : ℕ) → Takes (within_stmt s d) (stmt (below d)) (spell_stmt s) s (Kept kept.Else ∷ (spell_stmt t ++ rest))) → ((d : ℕ) → Takes (within_stmt t d) (stmt (below d)) (spell_stmt t) t rest)
    → Takes (within_stmt (IfElse e s t) d) (stmt (below d)) (spell_stmt (IfElse e s t)) (IfElse e s t) rest
if_else e s t d rest b o r q h k = head_of e d (λ d n. within_stmt s (inner_levels s d) n && within_stmt t (inner_levels t d) (n - length (spell_stmt s) - 1)) (spell_stmt s ++ Kept kept.Else ∷ spell_stmt t) (IfElse e s t) rest b
    (λ d. takes_bind (within_stmt s (inner_levels s d)) (λ n. within_stmt t (inner_levels t d) (n - 1)) (inner (under d)) (λ s. look (λ t. else_by (under d) e s (may_else s t))) (spell_stmt s) (Kept kept.Else ∷ spell_stmt t) s (IfElse e s t) rest
    (inside s d (Kept kept.Else ∷ (spell_stmt t ++ rest)) r h)
    (takes_same (λ n. within_stmt t (inner_levels t d) (n - 1)) (look (λ c. else_by (under d) e s (may_else s c))) (else_by (under d) e s true) (Kept kept.Else ∷ spell_stmt t) (IfElse e s t) rest (rw o refl)
    (behind_word (within_stmt t (inner_levels t d)) kept.Else (inner (under d) >>= λ t. pure (IfElse e s t)) (spell_stmt t) (IfElse e s t) rest
    (takes_map (within_stmt t (inner_levels t d)) (inner (under d)) (λ t. pure (IfElse e s t)) (spell_stmt t) t (IfElse e s t) rest (inside t d rest q k) refl))))

-- ---- items
const_of : (at : ℕ) (bytes : List ℕ) (e : Ex) (d : ℕ) (rest : Toks) → Binds 8 e → Takes (within_item (Const at bytes e) d) (item (below d)) (spell_item (Const at bytes e)) (Const at bytes e) rest
const_of at bytes e d rest b = behind_word (λ n. within e d (n - 1 - 1)) kept.Const (take name_of >>= λ n. expect Assign >>= λ _. expr (below d) >>= λ e. ended (Const n.0 n.1 e)) (Name at bytes ∷ Fixed Assign ∷ (spell_ex e ++ Fixed Semicolon ∷ [])) (Const at bytes e) rest
    (behind (λ n. within e d (n - 1)) name_of (Name at bytes) (at, bytes) (λ n. expect Assign >>= λ _. expr (below d) >>= λ e. ended (Const n.0 n.1 e)) (Fixed Assign ∷ (spell_ex e ++ Fixed Semicolon ∷ [])) (Const at bytes e) rest refl
    (behind_sign (within e d) Assign (expr (below d) >>= λ e. ended (Const at bytes e)) (spell_ex e ++ Fixed Semicolon ∷ []) (Const at bytes e) rest (expr_ended e (Const at bytes) d rest b)))

let_be : (at : ℕ) (bytes : List ℕ) (e : Ex) (d : ℕ) (rest : Toks) → Binds 8 e → Takes (within_item (LetBe at bytes e) d) (item (below d)) (spell_item (LetBe at bytes e)) (LetBe at bytes e) rest
let_be at bytes e d rest b = behind_word (λ n. within e d (n - 1 - 1)) kept.Let (take name_of >>= λ n. look (λ c. let_by (below d) n (sees Assign c))) (Name at bytes ∷ Fixed Assign ∷ (spell_ex e ++ Fixed Semicolon ∷ [])) (LetBe at bytes e) rest
    (behind (λ n. within e d (n - 1)) name_of (Name at bytes) (at, bytes) (λ n. look (λ c. let_by (below d) n (sees Assign c))) (Fixed Assign ∷ (spell_ex e ++ Fixed Semicolon ∷ [])) (LetBe at bytes e) rest refl
    (behind_sign (within e d) Assign (expr (below d) >>= λ e. ended (LetBe at bytes e)) (spell_ex e ++ Fixed Semicolon ∷ []) (LetBe at bytes e) rest (expr_ended e (LetBe at bytes) d rest b)))

let_is : (at : ℕ) (bytes : List ℕ) (d : ℕ) (rest : Toks) → item (below d) (spell_item (Let at bytes) ++ rest) ≡ Ok (Let at bytes, rest)
let_is at bytes d rest = rw (take_word kept.Let (Name at bytes ∷ Fixed Semicolon ∷ rest), take_token name_of (Name at bytes) (at, bytes) (Fixed Semicolon ∷ rest) refl, take_sign Semicolon rest) refl

empty_is : (d : ℕ) (rest : Toks) → stmt (below d) (Fixed Semicolon ∷ rest) ≡ Ok (Empty, rest)
empty_is d rest = rw (take_sign Semicolon rest) refl

return_is : (d : ℕ) (rest : Toks) → stmt (below d) (Kept kept.Return ∷ Fixed Semicolon ∷ rest) ≡ Ok (Return, rest)
return_is d rest = rw (take_word kept.Return (Fixed Semicolon ∷ rest), take_sign Semicolon rest) refl

-- the first token of an item: it is in a block, it is no `else`
abbrev Head : Toks → Type 0
Head ts = (t : Tok) × (x : Toks) × (ts ≡ t ∷ x) × (in_block t ≡ true) × (sees_word kept.Else (Some t) ≡ false)

head_ex : (e : Ex) (ys : Toks) → Binds 8 e → Head (spell_ex e ++ ys)
head_ex e ys b = let f = begun e 8 b in (f.0, f.1 ++ ys, rw f.2 refl, starts_in_block f.0 f.3, no_else f.0 f.3)

head_stmt : (s : Stmt) → RightStmt s → Head (spell_stmt s)
head_stmt (Block is) r = (_, _, refl, refl, refl)
head_stmt Empty r = (_, _, refl, refl, refl)
head_stmt (IfThen e s) r = (_, _, refl, refl, refl)
head_stmt (IfElse e s t) r = (_, _, refl, refl, refl)
head_stmt Return r = (_, _, refl, refl, refl)
head_stmt (ReturnOf e) r = (_, _, refl, refl, refl)
head_stmt (Throw e) r = (_, _, refl, refl, refl)
head_stmt (ThrowError e) r = (_, _, refl, refl, refl)
head_stmt (Delete e) r = (_, _, refl, refl, refl)
head_stmt (Set t e) r = head_ex t (Fixed Assign ∷ (spell_ex e ++ Fixed Semicolon ∷ [])) r.2
head_stmt (Do e) r = head_ex e (Fixed Semicolon ∷ []) r.1

head_item : (i : Item) → RightItem i → Head (spell_item i)
head_item (Const at bytes e) r = (_, _, refl, refl, refl)
head_item (Let at bytes) r = (_, _, refl, refl, refl)
head_item (LetBe at bytes e) r = (_, _, refl, refl, refl)
head_item (Plain s) r = head_stmt s r

-- a statement as an item
plain_ex : (e : Ex) (ys : Toks) → Binds 8 e → item_form (first (spell_ex e ++ ys)) ≡ PlainForm
plain_ex e ys b = let f = begun e 8 b in subst (λ (w : Toks). item_form (first (w ++ ys)) ≡ PlainForm) (sym f.2) (plain_form f.0 f.3)

plain_stmt : (s : Stmt) (rest : Toks) → RightStmt s → item_form (first (spell_stmt s ++ rest)) ≡ PlainForm
plain_stmt (Block is) rest r = refl
plain_stmt Empty rest r = refl
plain_stmt (IfThen e s) rest r = refl
plain_stmt (IfElse e s t) rest r = refl
plain_stmt Return rest r = refl
plain_stmt (ReturnOf e) rest r = refl
plain_stmt (Throw e) rest r = refl
plain_stmt (ThrowError e) rest r = refl
plain_stmt (Delete e) rest r = refl
plain_stmt (Set t e) rest r = rw (three t (Fixed Assign ∷ (spell_ex e ++ Fixed Semicolon ∷ [])) rest) (plain_ex t ((Fixed Assign ∷ (spell_ex e ++ Fixed Semicolon ∷ [])) ++ rest) r.2)
plain_stmt (Do e) rest r = rw (three e (Fixed Semicolon ∷ []) rest) (plain_ex e (Fixed Semicolon ∷ rest) r.1)

plain_of : (s : Stmt) (d : ℕ) (rest : Toks) → RightStmt s → Takes (within_stmt s d) (stmt (below d)) (spell_stmt s) s rest → Takes (within_item (Plain s) d) (item (below d)) (spell_item (Plain s)) (Plain s) rest
plain_of s d rest r h = takes_same (within_stmt s d) (item (below d)) (stmt (below d) >>= λ s. pure (Plain s)) (spell_stmt s) (Plain s) rest (rw (plain_stmt s rest r) refl) (takes_map (within_stmt s d) (stmt (below d)) (λ s. pure (Plain s)) (spell_stmt s) s (Plain s) rest h refl)

more_item : (i : Item) (is : Items) (d : ℕ) (rest : Toks) → RightItem i → Takes (within_item i d) (item (below d)) (spell_item i) i (spell_items is ++ rest) → Takes (within_items is d) (items (under d)) (spell_items is) is rest
    → Takes (within_items (ThenItem i is) d) (items (under d)) (spell_items (ThenItem i is)) (ThenItem i is) rest
more_item i is d rest r h k = let f = head_item i r in many_cons_at in_block (item (below d)) NoItems ThenItem (items (under d)) (items_is d (under d) (goods_under d)) (within_item i d) (within_items is d) (spell_item i) f.0 f.1 (spell_items is) i is rest f.2 f.3 h k

no_else_next : (is : Items) (rest : Toks) → RightItems is → NoElse (spell_items is ++ Fixed CloseBrace ∷ rest)
no_else_next NoItems rest r = refl
no_else_next (ThenItem i is) rest r = let f = head_item i r.0 in subst (λ (w : Toks). NoElse ((w ++ spell_items is) ++ Fixed CloseBrace ∷ rest)) (sym f.2) f.4

closed : (s : Stmt) (rest : Toks) → is_open s ≡ false → is_open s ≡ true → NoElse rest
closed s rest h k = absurd cc

mutual
  pub accept_stmt : (s : Stmt) (d : ℕ) (rest : Toks) → RightStmt s → (is_open s ≡ true → NoElse rest) → Takes (within_stmt s d) (stmt (below d)) (spell_stmt s) s rest
  accept_stmt (Block is) d rest r o = block_stmt is d rest (λ d. accept_items is d rest r)
  accept_stmt Empty d rest r o = takes_pure (λ n. true) (stmt (below d)) (Fixed Semicolon ∷ []) Empty rest (empty_is d rest) (λ n. refl)
  accept_stmt (IfThen e s) d rest r o = if_then e s d rest r.0 r.1 (o refl) (λ d. accept_stmt s d rest r.1 (λ _. o refl))
  accept_stmt (IfElse e s t) d rest r o = if_else e s t d rest r.0 r.1 r.2 r.3 (λ d. accept_stmt s d (Kept kept.Else ∷ (spell_stmt t ++ rest)) r.2 (closed s (Kept kept.Else ∷ (spell_stmt t ++ rest)) r.1)) (λ d. accept_stmt t d rest r.3 o)
  accept_stmt Return d rest r o = takes_pure (λ n. true) (stmt (below d)) (Kept kept.Return ∷ Fixed Semicolon ∷ []) Return rest (return_is d rest) (λ n. refl)
  accept_stmt (ReturnOf e) d rest r o = return_of e d rest r
  accept_stmt (Throw e) d rest r o = throw_of e d rest r
  accept_stmt (ThrowError e) d rest r o = throw_error e d rest r
  accept_stmt (Delete e) d rest r o = delete_of e d rest r.0 r.1
  accept_stmt (Set t e) d rest r o = set_of t e d rest r.0 r.1 r.2 r.3
  accept_stmt (Do e) d rest r o = do_of e d rest r.1 r.0

  pub accept_item : (i : Item) (d : ℕ) (rest : Toks) → RightItem i → NoElse rest → Takes (within_item i d) (item (below d)) (spell_item i) i rest
  accept_item (Const at bytes e) d rest r o = const_of at bytes e d rest r
  accept_item (Let at bytes) d rest r o = takes_pure (λ n. true) (item (below d)) (spell_item (Let at bytes)) (Let at bytes) rest (let_is at bytes d rest) (λ n. refl)
  accept_item (LetBe at bytes e) d rest r o = let_be at bytes e d rest r
  accept_item (Plain s) d rest r o = plain_of s d rest r (accept_stmt s d rest r (λ _. o))

  pub accept_items : (is : Items) (d : ℕ) (rest : Toks) → RightItems is → Takes (within_items is d) (items (under d)) (spell_items is) is (Fixed CloseBrace ∷ rest)
  accept_items NoItems d rest r = many_nil in_block (item (below d)) NoItems ThenItem (items (under d)) (items_is d (under d) (goods_under d)) (Fixed CloseBrace ∷ rest) refl
  accept_items (ThenItem i is) d rest r = more_item i is d (Fixed CloseBrace ∷ rest) r.0 (accept_item i d (spell_items is ++ Fixed CloseBrace ∷ rest) r.0 (no_else_next is rest r.1)) (accept_items is d rest r.1)

-- ---- reducers
two_is : (at : ℕ) (bytes : List ℕ) (at' : ℕ) (bytes' : List ℕ) (rest : Toks) → params (spell_params (Two at bytes at' bytes') ++ Fixed CloseRound ∷ rest) ≡ Ok (Two at bytes at' bytes', Fixed CloseRound ∷ rest)
two_is at bytes at' bytes' rest = rw (take_token name_of (Name at bytes) (at, bytes) (Fixed Comma ∷ Name at' bytes' ∷ Fixed CloseRound ∷ rest) refl, take_sign Comma (Name at' bytes' ∷ Fixed CloseRound ∷ rest), take_token name_of (Name at' bytes') (at', bytes') (Fixed CloseRound ∷ rest) refl) refl

one_is : (at : ℕ) (bytes : List ℕ) (rest : Toks) → params (spell_params (One at bytes) ++ Fixed CloseRound ∷ rest) ≡ Ok (One at bytes, Fixed CloseRound ∷ rest)
one_is at bytes rest = rw (take_token name_of (Name at bytes) (at, bytes) (Fixed CloseRound ∷ rest) refl) refl

params_is : (ps : Params) (rest : Toks) → params (spell_params ps ++ Fixed CloseRound ∷ rest) ≡ Ok (ps, Fixed CloseRound ∷ rest)
params_is (One at bytes) rest = one_is at bytes rest
params_is (Two at bytes at' bytes') rest = two_is at bytes at' bytes' rest

body_of : (at : ℕ) (bytes : List ℕ) (ps : Params) (is : Items) (d : ℕ) (rest : Toks) → RightItems is
    → Takes (λ n. within_items is d (n - 1 - length (spell_params ps) - 1 - 1)) (reducer_body (at, bytes) (under d)) (Fixed OpenRound ∷ (spell_params ps ++ Fixed CloseRound ∷ Fixed OpenBrace ∷ (spell_items is ++ Fixed CloseBrace ∷ []))) (Function at bytes ps is) rest
body_of at bytes ps is d rest r =
    let make = Function at bytes ps in
    let tail = spell_items is ++ Fixed CloseBrace ∷ [] in
    behind_sign (λ n. within_items is d (n - length (spell_params ps) - 1 - 1)) OpenRound (params >>= λ ps. expect CloseRound >>= λ _. expect OpenBrace >>= λ _. items (under d) >>= λ is. expect CloseBrace >>= λ _. pure (Function at bytes ps is)) (spell_params ps ++ Fixed CloseRound ∷ Fixed OpenBrace ∷ tail) (make is) rest
    (takes_bind (λ n. true) (λ n. within_items is d (n - 1 - 1)) params (λ ps. expect CloseRound >>= λ _. expect OpenBrace >>= λ _. items (under d) >>= λ is. expect CloseBrace >>= λ _. pure (Function at bytes ps is)) (spell_params ps) (Fixed CloseRound ∷ Fixed OpenBrace ∷ tail) ps (make is) rest
    (takes_pure (λ n. true) params (spell_params ps) ps (Fixed CloseRound ∷ Fixed OpenBrace ∷ (tail ++ rest)) (params_is ps (Fixed OpenBrace ∷ (tail ++ rest))) (λ n. refl))
    (behind_sign (λ n. within_items is d (n - 1)) CloseRound (expect OpenBrace >>= λ _. items (under d) >>= λ is. expect CloseBrace >>= λ _. pure (make is)) (Fixed OpenBrace ∷ tail) (make is) rest
    (behind_sign (within_items is d) OpenBrace (items (under d) >>= λ is. expect CloseBrace >>= λ _. pure (make is)) tail (make is) rest
    (takes_first (within_items is d) (items (under d)) (λ is. expect CloseBrace >>= λ _. pure (make is)) (spell_items is) (Fixed CloseBrace ∷ []) is (make is) rest (accept_items is d rest r) (rw (take_sign CloseBrace rest) refl)))))

accept_reducer : (r : Reducer) (d : ℕ) (rest : Toks) → RightReducer r → Takes (within_reducer r d) (reducer (below d)) (spell_reducer r) r rest
accept_reducer (Function at bytes ps is) d rest r =
    let tail = spell_params ps ++ Fixed CloseRound ∷ Fixed OpenBrace ∷ (spell_items is ++ Fixed CloseBrace ∷ []) in
    behind_word (λ n. opens d (n - 1) (λ c m. within_items is c (m - length (spell_params ps) - 1 - 1))) kept.Function (take name_of >>= λ n. opened (below d) (fixed OpenRound) (reducer_body n)) (Name at bytes ∷ Fixed OpenRound ∷ tail) (Function at bytes ps is) rest
    (behind (λ n. opens d n (λ c m. within_items is c (m - length (spell_params ps) - 1 - 1))) name_of (Name at bytes) (at, bytes) (λ n. opened (below d) (fixed OpenRound) (reducer_body n)) (Fixed OpenRound ∷ tail) (Function at bytes ps is) rest refl
    (takes_opened (λ c m. within_items is c (m - length (spell_params ps) - 1 - 1)) (fixed OpenRound) (reducer_body (at, bytes)) (Fixed OpenRound) tt tail (Function at bytes ps is) rest d (is_fixed OpenRound)
    (λ d. body_of at bytes ps is d rest r)))

reducer_front : (r : Reducer) → (t : Tok) × (x : Toks) × (spell_reducer r ≡ t ∷ x)
reducer_front (Function at bytes ps is) = (_, _, refl)

accept_reducers : (p : Program) (d : ℕ) → Right p → Takes (within_program p d) (reducers (below d)) (spell_program p) p []
accept_reducers NoReducers d r = many_nil (λ _. true) (reducer (below d)) NoReducers ThenReducer (reducers (below d)) (reducers_is d (below d) (good_below d)) [] tt
accept_reducers (ThenReducer q p) d r = let f = reducer_front q in many_cons_at (λ _. true) (reducer (below d)) NoReducers ThenReducer (reducers (below d)) (reducers_is d (below d) (good_below d)) (within_reducer q d) (within_program p d) (spell_reducer q) f.0 f.1 (spell_program p) q p [] f.2 refl
    (accept_reducer q d (spell_program p ++ []) r.0) (accept_reducers p d r.1)

pub accept_program : (p : Program) (d : ℕ) → Right p → Takes (within_program p d) (program d) (spell_program p) p []
unfolding program finish
accept_program p d r = takes_map (within_program p d) (reducers (below d)) (λ rs. finish >>= λ _. pure rs) (spell_program p) p p [] (accept_reducers p d r) refl
