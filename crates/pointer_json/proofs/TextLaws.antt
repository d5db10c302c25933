-- The text of a pointer, a part at a time.
use Rattle.std.proofs.Common.{◌≡◌, ◌≢◌, ℕ, suc, ◌+◌, ◌<◌, List, [], ◌∷◌, ◌++◌, map, length, get_or, Result, Ok, Err, refl, sym, ap, ◌∙◌, arith, append_assoc, append-nil, ne_eqb, eq-eqb}
use Rattle.std.specs.List.{slice_split, onto_first}
use Rattle.serde_json.specs.Find.{unescape}
use Rattle.serde_json.proofs.Paths.{Lacks}
use Rattle.value_json_spec.specs.Answers.{and_then, result_map}
use Rattle.value_json_spec.specs.declared.why.JsonWhy.{JsonWhy}
use Rattle.value_json_spec.specs.Reading.{text_from}
use Rattle.value_json.specs.Gives.{Fails}
use Rattle.value_json.specs.declared.fault.JsonFault.{JsonFault}
use Rattle.value_json.proofs.Passed.{passed_map, passed_then}
use Rattle.host_protocol_spec.specs.PointerTexts.{is_slash, parts_of, steps_of, replaced}
use Rattle.host_protocol_spec.specs.Pointers.{texts_from}

lacks_tail : (c x : ℕ) (xs : List ℕ) → Lacks c (x ∷ xs) → Lacks c xs
lacks_tail c x xs h = λ i less. h (suc i) (omega arith)

-- ---- escapes
other_byte : (x : ℕ) (xs : List ℕ) → x ≢ 126 → unescape (x ∷ xs) ≡ x ∷ unescape xs
unfolding unescape
other_byte x [] n = refl
other_byte x (y ∷ ys) n = rw (ne_eqb x 126 n) refl

-- a `~` that begins no escape
pub no_escape : (bs : List ℕ) → ((rest : List ℕ) → bs ≢ 49 ∷ rest) → ((rest : List ℕ) → bs ≢ 48 ∷ rest) → unescape (126 ∷ bs) ≡ 126 ∷ unescape bs
unfolding unescape
no_escape [] h g = refl
no_escape (d ∷ ds) h g = rw (ne_eqb d 49 (λ e. h ds (ap (λ y. y ∷ ds) e)), ne_eqb d 48 (λ e. g ds (ap (λ y. y ∷ ds) e))) refl

pub unescape_before : (xs ys : List ℕ) → Lacks 126 xs → unescape (xs ++ ys) ≡ xs ++ unescape ys
unescape_before [] ys h = refl
unescape_before (x ∷ xs) ys h = other_byte x (xs ++ ys) (h 0 (omega arith)) ∙ ap (λ l. x ∷ l) (unescape_before xs ys (lacks_tail 126 x xs h))

-- ---- replaced bytes
pub replaced_before : (c : ℕ) (by xs ys : List ℕ) → Lacks c xs → replaced c by (xs ++ ys) ≡ xs ++ replaced c by ys
replaced_before c by [] ys h = refl
replaced_before c by (x ∷ xs) ys h = rw (ne_eqb x c (h 0 (omega arith))) (ap (λ l. x ∷ l) (replaced_before c by xs ys (lacks_tail c x xs h)))

replaced_byte : (c : ℕ) (by ys : List ℕ) → replaced c by (c ∷ ys) ≡ by ++ replaced c by ys
replaced_byte c by ys = rw (eq-eqb c c refl) refl

pub replaced_next : (c : ℕ) (by xs ys : List ℕ) → Lacks c xs → replaced c by (xs ++ c ∷ ys) ≡ xs ++ (by ++ replaced c by ys)
replaced_next c by xs ys h = replaced_before c by xs (c ∷ ys) h ∙ ap (λ l. xs ++ l) (replaced_byte c by ys)

pub replaced_last : (c : ℕ) (by xs : List ℕ) → Lacks c xs → replaced c by xs ≡ xs
replaced_last c by xs h = ap (replaced c by) (sym (append-nil xs)) ∙ replaced_before c by xs [] h ∙ append-nil xs

-- ---- what is written, a part at a time
pub written : (all out one two part by rest : List ℕ) → all ≡ out ++ (part ++ (by ++ rest)) → one ≡ out ++ part → two ≡ one ++ by → all ≡ two ++ rest
written all out one two part by rest a e f =
    a ∙ sym (append_assoc out part (by ++ rest)) ∙ sym (append_assoc (out ++ part) by rest) ∙ ap (λ l. l ++ rest) (sym (f ∙ ap (λ l. l ++ by) e))

-- ---- parts
split_before : (xs ys : List ℕ) → Lacks 47 xs → slice_split is_slash (xs ++ 47 ∷ ys) ≡ xs ∷ slice_split is_slash ys
split_before [] ys h = refl
split_before (x ∷ xs) ys h = rw (ne_eqb x 47 (h 0 (omega arith))) (ap (onto_first x) (split_before xs ys (lacks_tail 47 x xs h)))

split_last : (xs : List ℕ) → Lacks 47 xs → slice_split is_slash xs ≡ xs ∷ []
split_last [] h = refl
split_last (x ∷ xs) h = rw (ne_eqb x 47 (h 0 (omega arith))) (ap (onto_first x) (split_last xs (lacks_tail 47 x xs h)))

-- the first step, before the others
abbrev with_step : List ℕ → Result (List (List ℕ)) JsonWhy → Result (List (List ℕ)) JsonWhy
with_step part rest = and_then (λ t. result_map (λ ts. t ∷ ts) rest) (text_from (unescape part))

pub parts_next : (xs ys : List ℕ) → Lacks 47 xs → texts_from (parts_of (xs ++ 47 ∷ ys)) ≡ with_step xs (texts_from (parts_of ys))
parts_next xs ys h = ap (λ ps. texts_from (map unescape ps)) (split_before xs ys h)

pub parts_last : (xs : List ℕ) → Lacks 47 xs → texts_from (parts_of xs) ≡ with_step xs (Ok [])
parts_last xs h = ap (λ ps. texts_from (map unescape ps)) (split_last xs h)

pub no_steps : (bs : List ℕ) → ((rest : List ℕ) → bs ≢ 47 ∷ rest) → steps_of bs ≡ []
no_steps [] h = refl
no_steps (c ∷ cs) h = rw (ne_eqb c 47 (λ e. h cs (ap (λ y. y ∷ cs) e))) refl

-- ---- steps that were read
abbrev pub Texts : Type 0
Texts = Result (List (List ℕ)) JsonWhy

pushed : (out : List (List ℕ)) (t : List ℕ) (r : Texts) → result_map (λ ts. out ++ ts) (result_map (λ ts. t ∷ ts) r) ≡ result_map (λ ts. (out ++ t ∷ []) ++ ts) r
pushed out t (Ok ts) = ap Ok (sym (append_assoc out (t ∷ []) ts))
pushed out t (Err w) = refl

-- one more step was read of those that the rest goes on with
pub step_read : (all rest : Texts) (out : List (List ℕ)) (part t : List ℕ) (more : Texts) → all ≡ result_map (λ ts. out ++ ts) rest → rest ≡ with_step part more → text_from (unescape part) ≡ Ok t
    → all ≡ result_map (λ ts. (out ++ t ∷ []) ++ ts) more
step_read all rest out part t more a r e =
    a ∙ ap (result_map (λ ts. out ++ ts)) (r ∙ ap (and_then (λ s. result_map (λ ts. s ∷ ts) more)) e) ∙ pushed out t more

pub step_failed : (all rest : Texts) (out : List (List ℕ)) (part : List ℕ) (more : Texts) (fault : JsonFault) → all ≡ result_map (λ ts. out ++ ts) rest → rest ≡ with_step part more → Fails fault (text_from (unescape part)) → Fails fault all
step_failed all rest out part more fault a r f =
    rw (a, r) (passed_map (λ ts. out ++ ts) fault (with_step part more) (passed_then (λ t. result_map (λ ts. t ∷ ts) more) fault (text_from (unescape part)) f))
