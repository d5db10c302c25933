-- Where the tokens have a fault, no other is answered.
use Rattle.std.proofs.Common.{◌≡◌, ◌≢◌, ℕ, List, Result, Err, refl, sym, ap, subst, ◌∙◌}
use Rattle.script_text.specs.declared.token.Token.{Token}
use Rattle.script_grammar.specs.Trees.{Program as Tree}
use Rattle.script_grammar.specs.Sources.{Spells, offset_of}
use Rattle.script_names.specs.declared.Cause.{Cause}
use Rattle.script_names.specs.declared.Cause.TheVariants.{UnknownName, Duplicate, ConstWrite}
use Rattle.script_names.specs.Names.{names_of}
use Rattle.script_names.specs.Scripts.{NameFaultAt}
use Rattle.js_syntax.specs.declared.fault.SyntaxFault.{SyntaxFault}
use Rattle.js_syntax.specs.declared.fault.SyntaxFault.TheVariants as syntax
use Rattle.js_syntax.specs.Faults.{IsCause}
use Rattle.js_parse.specs.declared.program.Program.{Program}
use Rattle.js_parse.specs.declared.fault.ParseFault.{ParseFault}
use Rattle.js_parse.specs.declared.fault.ParseFault.TheVariants as fault
use Rattle.js_parse.specs.Causes.{fault_of, syntax_fault}
use Rattle.js_parse.specs.Parsing.{IsFault, Answers}

-- the tokens spell the program t
pub spelled : (source : List ℕ) (tokens : List Token) (t : Tree) (r : Result Program ParseFault) → ((f : SyntaxFault) → f ≢ syntax.Memory → IsCause source tokens f → ⊥) → ((p : Tree) → Spells source tokens p → t ≡ p) → ((c : Cause) (k : ℕ) → names_of t ≡ Err (c, k) → Answers r (fault_of c (offset_of source tokens k))) → (f : ParseFault) → f ≢ fault.Memory → IsFault source tokens f → Answers r f
spelled source tokens t r none only wrong = by
  where
    named : (c : Cause) (at : ℕ) → NameFaultAt source tokens c at → Answers r (fault_of c at)
    named c at h = subst (λ (o : ℕ). Answers r (fault_of c o)) (sym h.begins) (wrong c h.token (ap names_of (only h.program h.spelled) ∙ h.first))

    by : (f : ParseFault) → f ≢ fault.Memory → IsFault source tokens f → Answers r f
    by (fault.Unexpected at) n h = absurd (none (syntax.Unexpected at) (λ e. cc) h)
    by (fault.TooNested at) n h = absurd (none (syntax.TooNested at) (λ e. cc) h)
    by (fault.UnknownName at) n h = named UnknownName at h
    by (fault.Duplicate at) n h = named Duplicate at h
    by (fault.ConstWrite at) n h = named ConstWrite at h
    by fault.Memory n h = absurd (n refl)

-- they spell no program, and the reader answered g
pub not_spelled : (source : List ℕ) (tokens : List Token) (g : SyntaxFault) (r : ParseFault) → r ≡ syntax_fault g → ((f : SyntaxFault) → f ≢ syntax.Memory → IsCause source tokens f → g ≢ syntax.Memory → g ≡ f) → ((p : Tree) → Spells source tokens p → g ≡ syntax.Memory) → (f : ParseFault) → f ≢ fault.Memory → IsFault source tokens f → r ≢ fault.Memory → r ≡ f
not_spelled source tokens g r e one only = by
  where
    some : r ≢ fault.Memory → g ≢ syntax.Memory
    some m = λ q. m (e ∙ ap syntax_fault q)

    named : (c : Cause) (at : ℕ) (f : ParseFault) → NameFaultAt source tokens c at → r ≢ fault.Memory → r ≡ f
    named c at f h m = absurd (some m (only h.program h.spelled))

    by : (f : ParseFault) → f ≢ fault.Memory → IsFault source tokens f → r ≢ fault.Memory → r ≡ f
    by (fault.Unexpected at) n h m = e ∙ ap syntax_fault (one (syntax.Unexpected at) (λ q. cc) h (some m))
    by (fault.TooNested at) n h m = e ∙ ap syntax_fault (one (syntax.TooNested at) (λ q. cc) h (some m))
    by (fault.UnknownName at) n h m = named UnknownName at _ h m
    by (fault.Duplicate at) n h m = named Duplicate at _ h m
    by (fault.ConstWrite at) n h m = named ConstWrite at _ h m
    by fault.Memory n h m = absurd (n refl)

pub caused : (source : List ℕ) (tokens : List Token) (g : SyntaxFault) (r : ParseFault) → r ≡ syntax_fault g → IsCause source tokens g → IsFault source tokens r
caused source tokens g r e h = subst (IsFault source tokens) (sym e) (by g h)
  where
    by : (g : SyntaxFault) → IsCause source tokens g → IsFault source tokens (syntax_fault g)
    by (syntax.Unexpected at) h = h
    by (syntax.TooNested at) h = h
    by syntax.Memory h = tt
