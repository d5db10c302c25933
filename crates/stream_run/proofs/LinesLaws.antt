-- Where a stream that grows is cut.
use Rattle.std.proofs.Common.{◌≡◌, ◌≢◌, ℕ, List, [], ◌∷◌, ◌++◌, length, ap, refl, sym, ◌∙◌, append_assoc, append-nil, Bool, true, false, ◌==◌, arith, cond}
use Rattle.std.proofs.lemmas.Bool.{ne_eqb, eqb-false}
use Rattle.stream_run.specs.Lines.{Cut, HasNoLf, cut, ended, onto_line, whole_lines, rest_of, last_line, lines}

-- lines before those of a cut
abbrev pub joined : List (List ℕ) → Cut → Cut
joined ls p = record { whole = ls ++ p.whole; rest = p.rest }

onto_joined : (c : ℕ) (ls : List (List ℕ)) (r more : List ℕ) → (c == 10) ≡ false
    → onto_line c (joined ls (cut (r ++ more))).whole (cut (r ++ more)).rest ≡ joined (onto_line c ls r).whole (cut ((onto_line c ls r).rest ++ more))
unfolding cut
onto_joined c [] r more e = rw e refl
onto_joined c (l ∷ ls) r more e = refl

one_byte : (c : ℕ) (b : Bool) (cs more : List ℕ) → (c == 10) ≡ b → cut (cs ++ more) ≡ joined (cut cs).whole (cut ((cut cs).rest ++ more))
    → cond b (ended (cut (cs ++ more))) (onto_line c (cut (cs ++ more)).whole (cut (cs ++ more)).rest)
    ≡ joined (cond b (ended (cut cs)) (onto_line c (cut cs).whole (cut cs).rest)).whole (cut ((cond b (ended (cut cs)) (onto_line c (cut cs).whole (cut cs).rest)).rest ++ more))
one_byte c true cs more e ih = ap ended ih
one_byte c false cs more e ih = ap (λ (p : Cut). onto_line c p.whole p.rest) ih ∙ onto_joined c (cut cs).whole (cut cs).rest more e

-- what more bytes add: the lines that were whole stay, and the rest goes on
pub cut-append : (bytes more : List ℕ) → cut (bytes ++ more) ≡ joined (cut bytes).whole (cut ((cut bytes).rest ++ more))
unfolding cut
cut-append [] more = refl
cut-append (c ∷ cs) more = one_byte c (c == 10) cs more refl (cut-append cs more)

onto_no_lf : (c : ℕ) (ls : List (List ℕ)) (r : List ℕ) → c ≢ 10 → HasNoLf r → HasNoLf (onto_line c ls r).rest
onto_no_lf c [] r n h = (n, h)
onto_no_lf c (l ∷ ls) r n h = h

rest_byte : (c : ℕ) (b : Bool) (cs : List ℕ) → (c == 10) ≡ b → HasNoLf (cut cs).rest → HasNoLf (cond b (ended (cut cs)) (onto_line c (cut cs).whole (cut cs).rest)).rest
rest_byte c true cs e h = h
rest_byte c false cs e h = onto_no_lf c (cut cs).whole (cut cs).rest (eqb-false c 10 e) h

pub rest-no_lf : (bytes : List ℕ) → HasNoLf (rest_of bytes)
unfolding cut
rest-no_lf [] = tt
rest-no_lf (c ∷ cs) = rest_byte c (c == 10) cs refl (rest-no_lf cs)

-- a rest that goes on
cut-ended : (r : List ℕ) → HasNoLf r → cut (r ++ 10 ∷ []) ≡ record { whole = r ∷ []; rest = [] }
unfolding cut
cut-ended [] h = refl
cut-ended (c ∷ r) h = rw (ne_eqb c 10 h.0) (ap (λ (p : Cut). onto_line c p.whole p.rest) (cut-ended r h.1))

cut-longer : (r : List ℕ) (c : ℕ) → HasNoLf r → c ≢ 10 → cut (r ++ c ∷ []) ≡ record { whole = []; rest = r ++ c ∷ [] }
unfolding cut
cut-longer [] c h n = rw (ne_eqb c 10 n) refl
cut-longer (d ∷ r) c h n = rw (ne_eqb d 10 h.0) (ap (λ (p : Cut). onto_line d p.whole p.rest) (cut-longer r c h.1 n))

-- one more byte: an LF ends the line
pub cut-lf : (bytes : List ℕ) → cut (bytes ++ 10 ∷ []) ≡ record { whole = whole_lines bytes ++ rest_of bytes ∷ []; rest = [] }
cut-lf bytes = cut-append bytes (10 ∷ []) ∙ ap (joined (cut bytes).whole) (cut-ended (rest_of bytes) (rest-no_lf bytes))

-- and another goes onto the rest
pub cut-byte : (bytes : List ℕ) (c : ℕ) → c ≢ 10 → cut (bytes ++ c ∷ []) ≡ record { whole = whole_lines bytes; rest = rest_of bytes ++ c ∷ [] }
cut-byte bytes c n = cut-append bytes (c ∷ []) ∙ ap (joined (cut bytes).whole) (cut-longer (rest_of bytes) c (rest-no_lf bytes) n)
    ∙ ap (λ (ls : List (List ℕ)). let p : Cut = record { whole = ls; rest = rest_of bytes ++ c ∷ [] } in p) (append-nil (whole_lines bytes))

-- the whole lines of a front are the first lines of the stream
pub lines-front : (bytes more : List ℕ) → record { rest : List (List ℕ); joined : lines (bytes ++ more) ≡ whole_lines bytes ++ rest }
unfolding lines
lines-front bytes more = record {
  rest = lines (rest_of bytes ++ more);
  joined = ap (λ (p : Cut). p.whole ++ last_line p.rest) (cut-append bytes more) ∙ append_assoc (whole_lines bytes) (whole_lines (rest_of bytes ++ more)) (last_line (rest_of (rest_of bytes ++ more)));
}

-- a front that ends in LF has whole lines alone
pub lines-lf : (bytes : List ℕ) → lines (bytes ++ 10 ∷ []) ≡ whole_lines bytes ++ rest_of bytes ∷ []
unfolding lines
lines-lf bytes = ap (λ (p : Cut). p.whole ++ last_line p.rest) (cut-lf bytes) ∙ append-nil (whole_lines bytes ++ rest_of bytes ∷ [])

-- bytes without LF go onto the rest
cut-no_lf : (chunk : List ℕ) → HasNoLf chunk → cut chunk ≡ record { whole = []; rest = chunk }
unfolding cut
cut-no_lf [] h = refl
cut-no_lf (c ∷ cs) h = rw (ne_eqb c 10 h.0) (ap (λ (p : Cut). onto_line c p.whole p.rest) (cut-no_lf cs h.1))

no_lf-append : (r chunk : List ℕ) → HasNoLf r → HasNoLf chunk → HasNoLf (r ++ chunk)
no_lf-append [] chunk h g = g
no_lf-append (c ∷ r) chunk h g = (h.0, no_lf-append r chunk h.1 g)

pub cut-chunk : (bytes chunk : List ℕ) → HasNoLf chunk → cut (bytes ++ chunk) ≡ record { whole = whole_lines bytes; rest = rest_of bytes ++ chunk }
cut-chunk bytes chunk h = cut-append bytes chunk ∙ ap (joined (cut bytes).whole) (cut-no_lf (rest_of bytes ++ chunk) (no_lf-append (rest_of bytes) chunk (rest-no_lf bytes) h))
    ∙ ap (λ (ls : List (List ℕ)). let p : Cut = record { whole = ls; rest = rest_of bytes ++ chunk } in p) (append-nil (whole_lines bytes))

-- and with an LF behind them they end a line
pub cut-line : (bytes chunk : List ℕ) → HasNoLf chunk → cut (bytes ++ (chunk ++ 10 ∷ [])) ≡ record { whole = whole_lines bytes ++ (rest_of bytes ++ chunk) ∷ []; rest = [] }
cut-line bytes chunk h = ap cut (sym (append_assoc bytes chunk (10 ∷ []))) ∙ cut-lf (bytes ++ chunk)
    ∙ ap (λ (p : Cut). let q : Cut = record { whole = p.whole ++ p.rest ∷ []; rest = [] } in q) (cut-chunk bytes chunk h)

pub lines-line : (bytes chunk : List ℕ) → HasNoLf chunk → lines (bytes ++ (chunk ++ 10 ∷ [])) ≡ whole_lines bytes ++ (rest_of bytes ++ chunk) ∷ []
unfolding lines
lines-line bytes chunk h = ap (λ (p : Cut). p.whole ++ last_line p.rest) (cut-line bytes chunk h) ∙ append-nil (whole_lines bytes ++ (rest_of bytes ++ chunk) ∷ [])

-- what is behind the last LF is the last line, where it has bytes
pub lines-rest : (bytes : List ℕ) → (length (rest_of bytes) ≡ 0 → ⊥) → lines bytes ≡ whole_lines bytes ++ rest_of bytes ∷ []
unfolding lines
lines-rest bytes h = ap (λ (ls : List (List ℕ)). whole_lines bytes ++ ls) (last_some (rest_of bytes) h)
  where
    last_some : (r : List ℕ) → (length r ≡ 0 → ⊥) → last_line r ≡ r ∷ []
    last_some [] h = absurd (h refl)
    last_some (c ∷ cs) h = refl

pub lines-whole : (bytes : List ℕ) → length (rest_of bytes) ≡ 0 → lines bytes ≡ whole_lines bytes
unfolding lines
lines-whole bytes h = ap (λ (ls : List (List ℕ)). whole_lines bytes ++ ls) (last_none (rest_of bytes) h) ∙ append-nil (whole_lines bytes)
  where
    last_none : (r : List ℕ) → length r ≡ 0 → last_line r ≡ []
    last_none [] h = refl
    last_none (c ∷ cs) h = absurd (omega arith)

pub cut-nil : cut [] ≡ record { whole = []; rest = [] }
unfolding cut
cut-nil = refl
