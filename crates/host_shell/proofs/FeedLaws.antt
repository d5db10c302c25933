-- A piece is taken line by line.
use Rattle.std.proofs.Common.{◌≡◌, ◌≤◌, ◌+◌, ℕ, List, [], ◌∷◌, ◌++◌, Option, length, take, drop, sym, ap, ◌∙◌, subst, append_assoc, append-nil, arith}
use Rattle.std.proofs.lemmas.List.{length-append}
use Rattle.host_machine.specs.Machine.{Machine}
use Rattle.host_shell.specs.At.{IsAt, IsHalted, LfAt}
use Rattle.host_shell.specs.Line.{LineState}
use Rattle.host_shell.specs.declared.status.Status.{Status}

-- the bytes of the first line, its LF, and what is behind
abbrev pub line_of : ℕ → List ℕ → List ℕ
line_of i rest = take i rest ++ 10 ∷ []

lf_split : (rest : List ℕ) (i : ℕ) → LfAt rest i → rest ≡ line_of i rest ++ drop (i + 1) rest
lf_split rest i h = h.found ∙ sym (append_assoc (take i rest) (10 ∷ []) (drop (i + 1) rest))

pub joined_line : (seen rest piece : List ℕ) (i : ℕ) → seen ++ rest ≡ piece → LfAt rest i → (seen ++ line_of i rest) ++ drop (i + 1) rest ≡ piece
joined_line seen rest piece i e h = append_assoc seen (line_of i rest) (drop (i + 1) rest) ∙ ap (λ (bs : List ℕ). seen ++ bs) (sym (lf_split rest i h)) ∙ e

pub lf_length : (rest : List ℕ) (i : ℕ) → LfAt rest i → length rest ≡ length (take i rest) + 1 + length (drop (i + 1) rest)
lf_length rest i h = ap length h.found ∙ length-append (take i rest) (10 ∷ drop (i + 1) rest) ∙ omega arith

pub at_seen : (first : Machine) (got seen more : List ℕ) (m : Machine) (line : LineState) (a b : Option (List ℕ)) → IsAt first ((got ++ seen) ++ more) m line a b → IsAt first (got ++ (seen ++ more)) m line a b
at_seen first got seen more m line a b h = subst (λ (bs : List ℕ). IsAt first bs m line a b) (append_assoc got seen more) h

pub at_none : (first : Machine) (got : List ℕ) (m : Machine) (line : LineState) (a b : Option (List ℕ)) → IsAt first got m line a b → IsAt first (got ++ []) m line a b
at_none first got m line a b h = subst (λ (bs : List ℕ). IsAt first bs m line a b) (sym (append-nil got)) h

pub at_all : (first : Machine) (got seen rest piece : List ℕ) (m : Machine) (line : LineState) (a b : Option (List ℕ)) → seen ++ rest ≡ piece → IsAt first ((got ++ seen) ++ rest) m line a b → IsAt first (got ++ piece) m line a b
at_all first got seen rest piece m line a b e h = subst (λ (bs : List ℕ). IsAt first bs m line a b) (append_assoc got seen rest ∙ ap (λ (bs : List ℕ). got ++ bs) e) h

-- a run that stopped at a line of the piece, with the rest of the piece and more behind it
pub halted_all : (first : Machine) (left got seen line rest piece more : List ℕ) (s : Status) (a b : Option (List ℕ)) → (seen ++ line) ++ rest ≡ piece → IsHalted first left (((got ++ seen) ++ line) ++ (rest ++ more)) s a b → IsHalted first left ((got ++ piece) ++ more) s a b
halted_all first left got seen line rest piece more s a b e h =
    let same : ((got ++ seen) ++ line) ++ (rest ++ more) ≡ (got ++ ((seen ++ line) ++ rest)) ++ more = simp append_assoc in
    subst (λ (bs : List ℕ). IsHalted first left bs s a b) (same ∙ ap (λ (p : List ℕ). (got ++ p) ++ more) e) h

-- or before the rest of the piece was taken
pub halted_rest : (first : Machine) (left got seen rest piece more : List ℕ) (s : Status) (a b : Option (List ℕ)) → seen ++ rest ≡ piece → IsHalted first left ((got ++ seen) ++ (rest ++ more)) s a b → IsHalted first left ((got ++ piece) ++ more) s a b
halted_rest first left got seen rest piece more s a b e h =
    let same : (got ++ seen) ++ (rest ++ more) ≡ (got ++ (seen ++ rest)) ++ more = simp append_assoc in
    subst (λ (bs : List ℕ). IsHalted first left bs s a b) (same ∙ ap (λ (p : List ℕ). (got ++ p) ++ more) e) h

pub near_rest : (seen rest piece more : List ℕ) (i : ℕ) → seen ++ rest ≡ piece → LfAt rest i → length piece + length more ≤ 65536 → length (drop (i + 1) rest ++ more) ≤ 65536
near_rest seen rest piece more i e h near = omega (arith, length-append (drop (i + 1) rest) more, lf_length rest i h, ap length e, length-append seen rest, near)
