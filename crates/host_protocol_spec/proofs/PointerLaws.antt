-- The pointer that is printed for steps, read again.
use Rattle.std.proofs.Common.{◌≡◌, ◌≢◌, ℕ, List, [], ◌∷◌, ◌++◌, map, ap, refl, sym, ◌∙◌, Bool, true, false, ◌==◌, cond, append_assoc, append-nil, eqb-true}
use Rattle.std.specs.Prelude.{IsTrue, codes}
use Rattle.std.specs.List.{slice_split, onto_first}
use Rattle.serde_json.specs.Find.{unescape}
use Rattle.host_protocol_spec.specs.PointerTexts.{is_slash, is_escaped, is_pointer, parts_of, steps_of, replaced, escaped, pointer_text}

-- ---- a step, a byte at a time
-- a byte as a pointer spells it
abbrev spelled : ℕ → List ℕ
spelled c = cond (c == 126) (codes "~0") (cond (c == 47) (codes "~1") (c ∷ []))

replaced_append : (c : ℕ) (by xs ys : List ℕ) → replaced c by (xs ++ ys) ≡ replaced c by xs ++ replaced c by ys
replaced_append c by [] ys = refl
replaced_append c by (x ∷ xs) ys = ap (λ (l : List ℕ). cond (x == c) by (x ∷ []) ++ l) (replaced_append c by xs ys) ∙ sym (append_assoc (cond (x == c) by (x ∷ [])) (replaced c by xs) (replaced c by ys))

one_spelled : (c : ℕ) (a : Bool) → (c == 126) ≡ a → replaced 47 (codes "~1") (cond a (codes "~0") (c ∷ [])) ≡ cond a (codes "~0") (cond (c == 47) (codes "~1") (c ∷ []))
one_spelled c true e = refl
one_spelled c false e = append-nil (cond (c == 47) (codes "~1") (c ∷ []))

escaped_byte : (c : ℕ) (cs : List ℕ) → escaped (c ∷ cs) ≡ spelled c ++ escaped cs
escaped_byte c cs =
    replaced_append 47 (codes "~1") (cond (c == 126) (codes "~0") (c ∷ [])) (replaced 126 (codes "~0") cs)
    ∙ ap (λ (l : List ℕ). l ++ escaped cs) (one_spelled c (c == 126) refl)

-- ---- read again
tilde : (c : ℕ) (xs : List ℕ) (a b : Bool) → (c == 126) ≡ a → (c == 47) ≡ b → is_escaped (cond a (codes "~0") (cond b (codes "~1") (c ∷ [])) ++ xs) ≡ is_escaped xs
tilde c xs true b p q = refl
tilde c xs false true p q = refl
tilde c xs false false p q = rw p refl

pub escaped_ends : (s xs : List ℕ) → is_escaped (escaped s ++ xs) ≡ is_escaped xs
escaped_ends [] xs = refl
escaped_ends (c ∷ cs) xs = ap (λ (l : List ℕ). is_escaped (l ++ xs)) (escaped_byte c cs) ∙ ap is_escaped (append_assoc (spelled c) (escaped cs) xs) ∙ tilde c (escaped cs ++ xs) (c == 126) (c == 47) refl refl ∙ escaped_ends cs xs

texts_escaped : (ss : List (List ℕ)) → is_escaped (pointer_text ss) ≡ true
texts_escaped [] = refl
texts_escaped (s ∷ ss) = escaped_ends s (pointer_text ss) ∙ texts_escaped ss

pub is_pointer_text : (ss : List (List ℕ)) → IsTrue (is_pointer (pointer_text ss))
is_pointer_text [] = refl
is_pointer_text (s ∷ ss) = escaped_ends s (pointer_text ss) ∙ texts_escaped ss

-- reading goes past what spells a byte
plain_byte : (c : ℕ) (xs : List ℕ) → (c == 126) ≡ false → unescape (c ∷ xs) ≡ c ∷ unescape xs
unfolding unescape
plain_byte c [] e = refl
plain_byte c (x ∷ xs) e = rw e refl

read_byte : (c : ℕ) (xs : List ℕ) (a b : Bool) → (c == 126) ≡ a → (c == 47) ≡ b → unescape (cond a (codes "~0") (cond b (codes "~1") (c ∷ [])) ++ xs) ≡ c ∷ unescape xs
unfolding unescape
read_byte c xs true b p q = let same : 126 ≡ c = sym (eqb-true c 126 p) in ap (λ (x : ℕ). x ∷ unescape xs) same
read_byte c xs false true p q = let same : 47 ≡ c = sym (eqb-true c 47 q) in ap (λ (x : ℕ). x ∷ unescape xs) same
read_byte c xs false false p q = plain_byte c xs p

unescaped : (s : List ℕ) → unescape (escaped s) ≡ s
unfolding unescape
unescaped [] = refl
unescaped (c ∷ cs) = ap unescape (escaped_byte c cs) ∙ read_byte c (escaped cs) (c == 126) (c == 47) refl refl ∙ ap (λ (l : List ℕ). c ∷ l) (unescaped cs)

-- no `/` stands in what spells a byte
abbrev onto : List ℕ → List (List ℕ) → List (List ℕ)
onto [] ps = ps
onto (c ∷ cs) ps = onto_first c (onto cs ps)

split_byte : (c : ℕ) (xs : List ℕ) (a b : Bool) → (c == 126) ≡ a → (c == 47) ≡ b
    → slice_split is_slash (cond a (codes "~0") (cond b (codes "~1") (c ∷ [])) ++ xs) ≡ onto (cond a (codes "~0") (cond b (codes "~1") (c ∷ []))) (slice_split is_slash xs)
split_byte c xs true b p q = refl
split_byte c xs false true p q = refl
split_byte c xs false false p q = rw q refl

onto_append : (xs ys : List ℕ) (ps : List (List ℕ)) → onto (xs ++ ys) ps ≡ onto xs (onto ys ps)
onto_append [] ys ps = refl
onto_append (x ∷ xs) ys ps = ap (onto_first x) (onto_append xs ys ps)

onto_part : (xs p : List ℕ) (ps : List (List ℕ)) → onto xs (p ∷ ps) ≡ (xs ++ p) ∷ ps
onto_part [] p ps = refl
onto_part (x ∷ xs) p ps = ap (onto_first x) (onto_part xs p ps)

split_escaped : (s xs : List ℕ) → slice_split is_slash (escaped s ++ xs) ≡ onto (escaped s) (slice_split is_slash xs)
split_escaped [] xs = refl
split_escaped (c ∷ cs) xs =
    ap (λ (l : List ℕ). slice_split is_slash (l ++ xs)) (escaped_byte c cs) ∙ ap (slice_split is_slash) (append_assoc (spelled c) (escaped cs) xs)
    ∙ split_byte c (escaped cs ++ xs) (c == 126) (c == 47) refl refl ∙ ap (onto (spelled c)) (split_escaped cs xs)
    ∙ sym (onto_append (spelled c) (escaped cs) (slice_split is_slash xs)) ∙ ap (λ (l : List ℕ). onto l (slice_split is_slash xs)) (sym (escaped_byte c cs))

-- the first part, before the others
first_part : (s xs : List ℕ) (ps : List (List ℕ)) → slice_split is_slash xs ≡ [] ∷ ps → parts_of (escaped s ++ xs) ≡ s ∷ map unescape ps
first_part s xs ps e =
    ap (map unescape) (split_escaped s xs ∙ ap (onto (escaped s)) e ∙ onto_part (escaped s) [] ps)
    ∙ ap (λ (t : List ℕ). t ∷ map unescape ps) (ap unescape (append-nil (escaped s)) ∙ unescaped s)

parts_read : (s : List ℕ) (ss : List (List ℕ)) → parts_of (escaped s ++ pointer_text ss) ≡ s ∷ ss
parts_read s [] = first_part s [] [] refl
parts_read s (t ∷ ts) = first_part s (pointer_text (t ∷ ts)) (slice_split is_slash (escaped t ++ pointer_text ts)) refl ∙ ap (λ (ps : List (List ℕ)). s ∷ ps) (parts_read t ts)

pub steps_read_back : (ss : List (List ℕ)) → steps_of (pointer_text ss) ≡ ss
steps_read_back [] = refl
steps_read_back (s ∷ ss) = parts_read s ss
