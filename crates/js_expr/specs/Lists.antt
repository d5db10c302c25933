-- Lists that the code has read so far, before what the rest gives.
use Rattle.std.specs.Prelude.{ℕ, ◌≤◌, Bool, false, List, [], ◌∷◌, Option, Some, None, Result, IfOk}
use Rattle.script_grammar.specs.Tokens.{Tok}
use Rattle.script_parser.specs.Tests.{begins_suffix}
use Rattle.js_expr.specs.declared.source.Stop.{Stop}
use Rattle.script_text.specs.declared.sign.Sign.{Sign}
use Rattle.script_grammar.specs.Trees.{Ex, Object, Elems, ThenElem, Links, NoLinks, ThenLink, Suffix, Suffixes, NoSuffixes, ThenSuffix, Prop, Props, ThenProp}
use Rattle.script_tree.specs.declared.Expr.{Expr}
use Rattle.script_tree.specs.declared.Label.{Label}
use Rattle.script_tree.specs.declared.Access.{Access}
use Rattle.script_tree.specs.View.{view, elems_of, props_of, suffix_of, prop_of}
use Rattle.script_parser.specs.Steps.{Outcome, Parser, and_then, ◌>>=◌, pure}
use Rattle.script_text.specs.declared.sign.Sign.TheVariants.{OpenBrace, CloseBrace, Colon}
use Rattle.script_parser.specs.Parser.{expect, props, prop, link, links, chain, expr, below}
use Rattle.script_parser.proofs.Accept.{under}
use Rattle.std.specs.Prelude.{map}

abbrev pub link_view : Sign × Expr → Sign × Ex
link_view l = (l.0, view l.1)

abbrev pub links_before : List (Sign × Expr) → Links → Links
links_before [] rest = rest
links_before (l ∷ ls) rest = ThenLink l.0 (view l.1) (links_before ls rest)

abbrev pub links_view : List (Sign × Expr) → Links
links_view ls = links_before ls NoLinks

abbrev pub onto_links : List (Sign × Expr) → Outcome Links → Outcome Links
onto_links found out = and_then out (λ ls. pure (links_before found ls))

abbrev pub elems_before : List Expr → Elems → Elems
elems_before [] rest = rest
elems_before (e ∷ es) rest = ThenElem (view e) (elems_before es rest)

abbrev pub onto_elems : List Expr → Outcome Elems → Outcome Elems
onto_elems found out = and_then out (λ es. pure (elems_before found es))

abbrev pub suffix_view : Access × List Expr → Access × List Ex
suffix_view s = (s.0, map view s.1)

abbrev pub suffixes_before : List (Access × List Expr) → Suffixes → Suffixes
suffixes_before [] rest = rest
suffixes_before (s ∷ ss) rest = ThenSuffix (suffix_of (suffix_view s)) (suffixes_before ss rest)

abbrev pub onto_suffixes : List (Access × List Expr) → Outcome Suffixes → Outcome Suffixes
onto_suffixes found out = and_then out (λ ss. pure (suffixes_before found ss))

abbrev pub prop_view : Label × Expr → Label × Ex
prop_view p = (p.0, view p.1)

abbrev pub props_before : List (Label × Expr) → Props → Props
props_before [] rest = rest
props_before (p ∷ ps) rest = ThenProp (prop_of (prop_view p)) (props_before ps rest)

abbrev pub onto_props : List (Label × Expr) → Outcome Props → Outcome Props
onto_props found out = and_then out (λ ps. pure (props_before found ps))

abbrev pub elems_view : List Expr × Bool → Elems
elems_view p = elems_of (map view p.0) p.1

abbrev pub props_view : List (Label × Expr) × Bool → Props
props_view p = props_of (map prop_view p.0) p.1

abbrev pub suffixes_view : List (Access × List Expr) → Suffixes
suffixes_view ss = suffixes_before ss NoSuffixes

abbrev pub one_suffix : Access × List Expr → Suffix
one_suffix s = suffix_of (suffix_view s)

abbrev pub one_prop : Label × Expr → Prop
one_prop p = prop_of (prop_view p)

-- a member or an index comes next
abbrev pub suffix_next : Option Tok → Bool
suffix_next None = false
suffix_next (Some t) = begins_suffix t

-- the place only goes on
abbrev pub Forward : {T : Type 0} → ℕ → Result (T × ℕ) Stop → Type 0
Forward at r = IfOk r (λ x. at ≤ x.1)

abbrev pub one_link : Sign × Expr → Sign × Ex
one_link l = (l.0, view l.1)

-- the rules for object literals, d levels down
unfoldable pub props_at : ℕ → Parser Props
props_at d ts = props (under d) ts

unfoldable pub prop_at : ℕ → Parser Prop
prop_at d ts = prop (under d) ts

unfoldable pub link_at : ℕ → ℕ → Parser (Sign × Ex)
link_at d k ts = link k (chain (below d) k) ts

unfoldable pub links_at : ℕ → ℕ → Parser Links
links_at d k ts = links k (chain (below d) k) ts

abbrev pub objected_at : ℕ → Parser Ex
objected_at d = expect OpenBrace >>= λ _. props_at d >>= λ ps. expect CloseBrace >>= λ _. pure (Object ps)

-- what stands behind a key
abbrev pub valued_at : ℕ → Label → Parser Prop
valued_at d key = expect Colon >>= λ _. expr (below d) >>= λ e. pure (prop_of (key, e))
