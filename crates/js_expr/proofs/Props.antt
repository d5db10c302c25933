-- One member of an object literal.
use Rattle.std.proofs.Common.{◌≡◌, ℕ, ◌+◌, true, false, List, drop, Option, Some, None, Ok, Err, refl, sym}
use Rattle.script_text.specs.declared.sign.Sign.TheVariants.{Colon}
use Rattle.script_text.specs.declared.word.Reserved.{Reserved}
use Rattle.script_text.specs.declared.token.Token.{Token}
use Rattle.script_grammar.specs.Tokens.{Tok, Name, Kept, Integer, Text, Fixed, Other, Toks}
use Rattle.script_parser.specs.Steps.{Why, Unexpected, take as read, first}
use Rattle.script_parser.specs.Tests.{name_of, text_of, is_some, sees, prop_form, NameForm, QuotedForm, WordForm}
use Rattle.script_tree.specs.declared.Name.{Name as Named}
use Rattle.script_tree.specs.declared.Label.TheVariants as label
use Rattle.script_tree.specs.declared.Expr.TheVariants as ex
use Rattle.script_tree.specs.View.{name_pair}
use Rattle.script_tree.proofs.Views.{view_name}
use Rattle.js_expr.specs.Next.{made, next_kind, reserved_kind, text_next}
use Rattle.script_grammar.specs.Sources.{toks}
use Rattle.js_expr.specs.Lists.{one_prop, prop_at, valued_at}
use Rattle.js_expr.proofs.Seen.{read_some, key_reserved, key_none}

name_first : (c : Option Tok) → is_some (made name_of c) ≡ true → prop_form c ≡ NameForm
name_first None h = absurd cc
name_first (Some (Name at bytes)) h = refl
name_first (Some (Kept r)) h = absurd cc
name_first (Some (Integer n)) h = absurd cc
name_first (Some (Text b)) h = absurd cc
name_first (Some Other) h = absurd cc
name_first (Some (Fixed s)) h = absurd cc

text_first : (c : Option Tok) (v : List ℕ) → made text_of c ≡ Some v → prop_form c ≡ QuotedForm
text_first None v h = absurd cc
text_first (Some (Name at bytes)) v h = absurd cc
text_first (Some (Kept r)) v h = absurd cc
text_first (Some (Integer n)) v h = absurd cc
text_first (Some (Text b)) v h = refl
text_first (Some Other) v h = absurd cc
text_first (Some (Fixed s)) v h = absurd cc

word_first : (c : Option Tok) → is_some (made name_of c) ≡ false → made text_of c ≡ None → prop_form c ≡ WordForm
word_first None h k = refl
word_first (Some (Name at bytes)) h k = absurd cc
word_first (Some (Kept r)) h k = refl
word_first (Some (Integer n)) h k = refl
word_first (Some (Text b)) h k = absurd cc
word_first (Some Other) h k = refl
word_first (Some (Fixed s)) h k = refl

pub prop_no_name : (d : ℕ) (ts : Toks) (x : Why × Toks) → is_some (made name_of (first ts)) ≡ true → read name_of ts ≡ Err x → prop_at d ts ≡ Err x
unfolding prop_at
prop_no_name d ts x h e = rw (name_first (first ts) h, e) refl

pub prop_named : (d : ℕ) (ts rest : Toks) (n : Named) → is_some (made name_of (first ts)) ≡ true → read name_of ts ≡ Ok (name_pair n, rest) → sees Colon (first rest) ≡ true → prop_at d ts ≡ valued_at d (label.Name n) rest
unfolding prop_at
prop_named d ts rest n h e c = rw (name_first (first ts) h, e, c) refl

pub prop_short : (d : ℕ) (ts rest : Toks) (n : Named) → is_some (made name_of (first ts)) ≡ true → read name_of ts ≡ Ok (name_pair n, rest) → sees Colon (first rest) ≡ false → prop_at d ts ≡ Ok (one_prop (label.Short, ex.Name n), rest)
unfolding prop_at
prop_short d ts rest n h e c = rw (name_first (first ts) h, e, c, view_name n) refl

pub prop_text : (d : ℕ) (bytes : List ℕ) (tokens : List Token) (at : ℕ) (v : List ℕ) → Some v ≡ text_next (toks bytes tokens at) → prop_at d (toks bytes tokens at) ≡ valued_at d (label.Quoted v) (toks bytes tokens (at + 1))
unfolding prop_at text_next
prop_text d bytes tokens at v h = rw (text_first (first (toks bytes tokens at)) v (sym h), read_some text_of bytes tokens at v (sym h)) refl

pub prop_reserved : (d : ℕ) (bytes : List ℕ) (tokens : List Token) (at : ℕ) (w : Reserved) → is_some (made name_of (first (toks bytes tokens at))) ≡ false → None ≡ text_next (toks bytes tokens at) → Some w ≡ reserved_kind (next_kind (drop at tokens))
    → prop_at d (toks bytes tokens at) ≡ valued_at d (label.Reserved w) (toks bytes tokens (at + 1))
unfolding prop_at text_next
prop_reserved d bytes tokens at w h k r = rw (word_first (first (toks bytes tokens at)) h (sym k), key_reserved bytes tokens at w r) refl

pub prop_none : (d : ℕ) (bytes : List ℕ) (tokens : List Token) (at : ℕ) → is_some (made name_of (first (toks bytes tokens at))) ≡ false → None ≡ text_next (toks bytes tokens at) → None ≡ reserved_kind (next_kind (drop at tokens))
    → prop_at d (toks bytes tokens at) ≡ Err (Unexpected, toks bytes tokens at)
unfolding prop_at text_next
prop_none d bytes tokens at h k r = rw (word_first (first (toks bytes tokens at)) h (sym k), key_none bytes tokens at h r) refl
