-- Levels that are left, and what an expression may be used for.
use Rattle.std.proofs.Common.{◌≡◌, ◌≢◌, ℕ, zero, suc, ◌-◌, true, false, List, [], ◌∷◌, Option, Some, None, Err, refl, ◌∙◌, map}
use Rattle.script_text.specs.declared.sign.Sign.{Sign}
use Rattle.script_text.specs.declared.sign.Sign.TheVariants.{OpenRound}
use Rattle.script_grammar.specs.Tokens.{Toks}
use Rattle.script_grammar.specs.Trees.{Ex}
use Rattle.script_grammar.specs.Rules.{is_member, is_target}
use Rattle.script_parser.specs.Steps.{Why, Unexpected, TooNested, refused, too_deep, first}
use Rattle.script_parser.specs.Tests.{fixed, is_some, sees}
use Rattle.script_parser.specs.Parser.{opened, thrown_error, below}
use Rattle.script_tree.specs.declared.Expr.{Expr}
use Rattle.script_tree.specs.declared.Expr.TheVariants as ex
use Rattle.script_tree.specs.declared.Access.{Access}
use Rattle.script_tree.specs.View.{view, member_of}
use Rattle.script_tree.proofs.Views.{view_member}
use Rattle.js_syntax.specs.Statements.{plainly, no_level, error_at}
use Rattle.js_expr.proofs.Rules.{within}
use Rattle.js_syntax.proofs.Statements.{error_plain}

too_many : {B : Type 0} (o : Option B) → is_some o ≡ true → refused o ≡ TooNested
too_many None h = absurd cc
too_many (Some u) h = refl

misplaced : {B : Type 0} (o : Option B) → is_some o ≡ false → refused o ≡ Unexpected
misplaced None h = refl
misplaced (Some u) h = absurd cc

pub too_deep_sign : (s : Sign) (ts : Toks) → sees s (first ts) ≡ true → no_level s ts ≡ Err (TooNested, ts)
unfolding no_level too_deep
too_deep_sign s [] h = absurd cc
too_deep_sign s (t ∷ ts) h = rw (too_many (fixed s t) h) refl

pub too_deep_other : (s : Sign) (ts : Toks) → sees s (first ts) ≡ false → no_level s ts ≡ Err (Unexpected, ts)
unfolding no_level too_deep
too_deep_other s [] h = refl
too_deep_other s (t ∷ ts) h = rw (misplaced (fixed s t) h) refl

pub error_deep : (d : ℕ) (ts : Toks) (x : Why × Toks) → d ≡ 0 → no_level OpenRound ts ≡ Err x → opened (below d) (fixed OpenRound) (λ b. plainly (thrown_error b)) ts ≡ Err x
unfolding below no_level
error_deep zero ts x e h = h
error_deep (suc d) ts x e h = absurd cc

pub error_in : (d : ℕ) (ts : Toks) → d ≢ 0 → opened (below d) (fixed OpenRound) (λ b. plainly (thrown_error b)) ts ≡ error_at (d - 1) ts
error_in d ts h = within (fixed OpenRound) (λ b. plainly (thrown_error b)) d ts h ∙ error_plain (d - 1) ts

-- ---- by the variant
member_any : (e : Ex) (ss : List (Access × List Ex)) → is_member (member_of e ss) ≡ true
member_any e [] = refl
member_any e (s ∷ ss) = refl

target_any : (e : Ex) (ss : List (Access × List Ex)) → is_target (member_of e ss) ≡ true
target_any e [] = refl
target_any e (s ∷ ss) = refl

pub member_seen : (e : Expr) (ss : List (Access × List Expr)) → is_member (view (ex.Member e ss)) ≡ true
member_seen e ss = rw (view_member e ss) (member_any (view e) (map (λ (l : Access × List Expr). (l.0, map view l.1)) ss))

pub target_seen : (e : Expr) (ss : List (Access × List Expr)) → is_target (view (ex.Member e ss)) ≡ true
target_seen e ss = rw (view_member e ss) (target_any (view e) (map (λ (l : Access × List Expr). (l.0, map view l.1)) ss))
