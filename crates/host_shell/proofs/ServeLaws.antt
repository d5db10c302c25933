-- How a run over a whole stream ends.
use Rattle.std.proofs.Common.{◌≡◌, ◌≢◌, ◌<◌, ◌≤◌, ◌+◌, ◌-◌, ◌^◌, ℕ, zero, suc, List, [], ◌∷◌, ◌++◌, Option, Some, None, length, take, drop, refl, sym, ap, ◌∙◌, subst, append_assoc, append-nil, arith, true, false, ◌==◌}
use Rattle.std.proofs.KnownBytes.{Appends-nil, Consumes-trans, Consumes-kept}
use Rattle.std.proofs.Math.Seq.{take-append_seam}
use Rattle.std.proofs.lemmas.List.{length-append, length-drop, length-take-le, take-append-drop}
use Rattle.std.proofs.lemmas.Bool.Decides.{Decides-eqb}
use Rattle.std.specs.Io.KnownBytes.{Appends, Consumes, IsAtEnd, Keeps}
use Rattle.host_machine.specs.Machine.{Machine, Turned}
use Rattle.stream_run.specs.Lines.{whole_lines, rest_of, lines}
use Rattle.stream_run.specs.Runs.{replies}
use Rattle.stream_run.specs.Endings.{IsPrefix, Ran, IsStopped}
use Rattle.stream_run.proofs.RunsLaws.{prefix_lines}
use Rattle.host_shell.specs.At.{IsAt, IsHalted, Finishes, Overruns}
use Rattle.host_shell.specs.Ends.{Ends, StopsFor, IsAnswered, IsHeld, IsDoneOrMemory, IsWithin}
use Rattle.host_shell.specs.Line.{LineState, Holds}
use Rattle.host_shell.specs.declared.status.Status.{Status}
use Rattle.host_shell.specs.declared.status.Status.TheVariants as status
use Rattle.host_shell.proofs.AtLaws.{ran, last_answered, last_nothing, last_halted}

-- what a run took, and that it ends so
abbrev pub Ending : (List ℕ → List ℕ → List ℕ → Type 0) → List ℕ → List ℕ → Option (List ℕ) → Option (List ℕ) → Type 0
Ending E left got begun now = record { done : List ℕ; taken : Appends begun now done; ends : E left got done }

halted_ends : (s : Status) (first : Machine) (left got : List ℕ) (f f' : ℕ) (begun now : Option (List ℕ)) → StopsFor f f' s → IsHalted first left got s begun now → Ending (Ends s first) left got begun now
halted_ends status.Memory first left got f f' begun now c h = record { done = h.done; taken = h.taken; ends = h.stopped }
halted_ends status.WriteFault first left got f f' begun now c h = record { done = h.done; taken = h.taken; ends = (h.unwritten refl, h.stopped) }
halted_ends status.Done first left got f f' begun now c h = absurd c
halted_ends status.Usage first left got f f' begun now c h = absurd c
halted_ends status.ReadFault first left got f f' begun now c h = absurd c
halted_ends status.TooLong first left got f f' begun now c h = absurd c

-- ---- at the end of the stream
served : (first : Machine) (got : List ℕ) (begun now : Option (List ℕ)) → length got ≤ 2 ^ 48 → Appends begun now (replies first (lines got)) → Finishes first got begun now status.Done
served first got begun now short t = record { done = replies first (lines got); taken = t; ends = record { nothing = refl; within = short; answered = refl } }

no_rest : (line : LineState) (got : List ℕ) → Holds line (rest_of got) → (line.size == 0) ≡ true → length (rest_of got) ≡ 0
no_rest line got h e = sym h.size ∙ (Decides-eqb line.size 0).0 e

some_rest : (line : LineState) (got : List ℕ) → Holds line (rest_of got) → (line.size == 0) ≡ false → (length (rest_of got) ≡ 0 → ⊥)
some_rest line got h e z = let p : (line.size == 0) ≡ true = (Decides-eqb line.size 0).1 (h.size ∙ z) in cc

pub finishes_empty : (first : Machine) (got : List ℕ) (m : Machine) (line : LineState) (begun now : Option (List ℕ)) → length got ≤ 2 ^ 48 → IsAt first got m line begun now → (line.size == 0) ≡ true → Finishes first got begun now status.Done
finishes_empty first got m line begun now short at e = served first got begun now short (last_nothing first got m line begun now at (no_rest line got at.held e))

pub finishes_answered : (first : Machine) (got : List ℕ) (h h' : Turned) (line : LineState) (begun now now' : Option (List ℕ)) → length got ≤ 2 ^ 48 → IsAt first got h.machine line begun now → (line.size == 0) ≡ false
    → IsAnswered h h' (rest_of got) now now' → Finishes first got begun now' status.Done
finishes_answered first got h h' line begun now now' short at e a = served first got begun now' short (last_answered first got h h' line begun now now' at (some_rest line got at.held e) a)

pub finishes_halted : (s : Status) (first : Machine) (got : List ℕ) (m : Machine) (line : LineState) (f f' : ℕ) (begun now now' : Option (List ℕ)) → IsAt first got m line begun now → (line.size == 0) ≡ false
    → StopsFor f f' s → IsHeld m (rest_of got) now now' → Finishes first got begun now' s
finishes_halted s first got m line f f' begun now now' at e c held =
    let ending = halted_ends s first [] got f f' begun now' c (last_halted first got s m line begun now now' at (some_rest line got at.held e) held) in
    record { done = ending.done; taken = ending.taken; ends = ending.ends }

-- ---- each way out of the loop
at_end : (left : Option (List ℕ)) (rest : List ℕ) → left ≡ Some rest → IsAtEnd left → rest ≡ []
at_end None rest e h = absurd (cc)
at_end (Some xs) rest e h = let same : xs ≡ rest = cc in sym same ∙ h

consumes_none : (a b c : Option (List ℕ)) (got piece : List ℕ) → Consumes a b got → Consumes b c (take 0 piece) → Consumes a c got
consumes_none a b c got piece p q = subst (λ (bs : List ℕ). Consumes a c bs) (ap (λ (bs : List ℕ). got ++ bs) (take_zero piece) ∙ append-nil got) (Consumes-trans a b c got (take 0 piece) p q)
  where
    take_zero : (xs : List ℕ) → take 0 xs ≡ []
    take_zero [] = refl
    take_zero (x ∷ xs) = refl

pub ran_unread : (first : Machine) (left now left' begun taken : Option (List ℕ)) (got : List ℕ) (m : Machine) (line : LineState) → Consumes left now got → Keeps now left' → length got ≤ 2 ^ 48 → IsAt first got m line begun taken
    → Ran left left' begun taken (Ends status.ReadFault first)
ran_unread first left now left' begun taken got m line c k b at =
    ran left left' begun taken got (Ends status.ReadFault first) (Consumes-kept left now left' got c k) (omega arith)
    (λ rest e. record { done = replies first (whole_lines got); taken = at.taken; ends = (refl, prefix_lines first got rest) })

pub ran_finished : (s : Status) (first : Machine) (left now left' begun taken : Option (List ℕ)) (got piece : List ℕ) → Consumes left now got → Consumes now left' (take 0 piece) → IsAtEnd left' → length got ≤ 2 ^ 48
    → Finishes first got begun taken s → Ran left left' begun taken (Ends s first)
ran_finished s first left now left' begun taken got piece c d e b f =
    ran left left' begun taken got (Ends s first) (consumes_none left now left' got piece c d) (omega arith)
    (λ rest q. record { done = f.done; taken = f.taken; ends = subst (λ (bs : List ℕ). Ends s first bs got f.done) (sym (at_end left' rest q e)) f.ends })

pub ran_halted : (s : Status) (first : Machine) (left now left' begun taken : Option (List ℕ)) (got piece : List ℕ) (f f' : ℕ) → Consumes left now got → Consumes now left' piece → length got + length piece ≤ 2 ^ 48 → StopsFor f f' s
    → ((rest : List ℕ) → IsHalted first rest ((got ++ piece) ++ []) s begun taken) → Ran left left' begun taken (Ends s first)
ran_halted s first left now left' begun taken got piece f f' c d b stops h =
    ran left left' begun taken (got ++ piece) (Ends s first) (Consumes-trans left now left' got piece c d) (omega (arith, length-append got piece))
    (λ rest q. halted_ends s first rest (got ++ piece) f f' begun taken stops (subst (λ (bs : List ℕ). IsHalted first rest bs s begun taken) (append-nil (got ++ piece)) (h rest)))

-- ---- a stream past its limit: the last piece within it was taken, and one byte more was read
pub overruns_halted : (s : Status) (first : Machine) (got more : List ℕ) (f f' : ℕ) (begun now : Option (List ℕ)) → StopsFor f f' s → ((left : List ℕ) → IsHalted first left (got ++ more) s begun now) → Overruns first got more begun now s
overruns_halted status.Memory first got more f f' begun now c h = h
overruns_halted status.WriteFault first got more f f' begun now c h = h
overruns_halted status.Done first got more f f' begun now c h = absurd c
overruns_halted status.Usage first got more f f' begun now c h = absurd c
overruns_halted status.ReadFault first got more f f' begun now c h = absurd c
overruns_halted status.TooLong first got more f f' begun now c h = absurd c

overrun_ends : (s : Status) (first : Machine) (left got more : List ℕ) (begun now : Option (List ℕ)) → s ≢ status.Usage → s ≢ status.ReadFault → length got ≡ 2 ^ 48 → length more ≡ 1 → Overruns first got more begun now s
    → Ending (Ends s first) left (got ++ more) begun now
overrun_ends status.TooLong first left got more begun now u r e l t =
    let whole : take (2 ^ 48) ((got ++ more) ++ left) ≡ got = ap (λ n. take n ((got ++ more) ++ left)) (sym e) ∙ ap (take (length got)) (append_assoc got more left) ∙ take-append_seam got (more ++ left) in
    let longer : 2 ^ 48 < length ((got ++ more) ++ left) = omega (arith, length-append (got ++ more) left, length-append got more, e, l) in
    record {
      done = replies first (whole_lines got);
      taken = t;
      ends = (
        record { longer = longer; answered = ap (λ (bs : List ℕ). replies first (whole_lines bs)) (sym whole) },
        subst (λ (bs : List ℕ). IsPrefix (replies first (whole_lines got)) (replies first (lines bs))) (sym (append_assoc got more left)) (prefix_lines first got (more ++ left)),
      );
    }
overrun_ends status.Memory first left got more begun now u r e l h = let so = h left in record { done = so.done; taken = so.taken; ends = so.stopped }
overrun_ends status.WriteFault first left got more begun now u r e l h = let so = h left in record { done = so.done; taken = so.taken; ends = (so.unwritten refl, so.stopped) }
overrun_ends status.Done first left got more begun now u r e l h = absurd h
overrun_ends status.Usage first left got more begun now u r e l h = absurd (u refl)
overrun_ends status.ReadFault first left got more begun now u r e l h = absurd (r refl)

take_take : (j n : ℕ) (xs : List ℕ) → j ≤ n → take j (take n xs) ≡ take j xs
take_take zero zero [] h = refl
take_take zero (suc n) [] h = refl
take_take zero zero (x ∷ xs) h = refl
take_take zero (suc n) (x ∷ xs) h = refl
take_take (suc j) zero xs h = absurd (omega arith)
take_take (suc j) (suc n) [] h = refl
take_take (suc j) (suc n) (x ∷ xs) h = ap (λ (ys : List ℕ). x ∷ ys) (take_take j n xs (omega arith))

-- the bytes of a piece but for the last one, and the last one
last_byte : (n : ℕ) (piece : List ℕ) → 0 < n → n ≤ length piece → take n piece ≡ take (n - 1) piece ++ drop (n - 1) (take n piece)
last_byte n piece h l = sym (take-append-drop (n - 1) (take n piece)) ∙ ap (λ (bs : List ℕ). bs ++ drop (n - 1) (take n piece)) (take_take (n - 1) n piece (omega arith))

pub ran_overrun : (s : Status) (first : Machine) (left now left' begun taken : Option (List ℕ)) (got piece : List ℕ) (n : ℕ) → Consumes left now got → Consumes now left' (take n piece) → 0 < n → n ≤ length piece → length got + n ≡ 2 ^ 48 + 1
    → s ≢ status.Usage → s ≢ status.ReadFault → Overruns first (got ++ take (n - 1) piece) (drop (n - 1) (take n piece)) begun taken s → Ran left left' begun taken (Ends s first)
ran_overrun s first left now left' begun taken got piece n c d some within size u r o =
    let split = last_byte n piece some within in
    let front : length (take (n - 1) piece) ≡ n - 1 = length-take-le (n - 1) piece (omega arith) in
    let all : length (take n piece) ≡ n = length-take-le n piece within in
    let last : length (drop (n - 1) (take n piece)) ≡ 1 = omega (arith, length-drop (n - 1) (take n piece), all) in
    let joined : got ++ take n piece ≡ (got ++ take (n - 1) piece) ++ drop (n - 1) (take n piece) = ap (λ (bs : List ℕ). got ++ bs) split ∙ sym (append_assoc got (take (n - 1) piece) (drop (n - 1) (take n piece))) in
    ran left left' begun taken (got ++ take n piece) (Ends s first) (Consumes-trans left now left' got (take n piece) c d) (omega (arith, length-append got (take n piece), all))
    (λ rest q. subst (λ (bs : List ℕ). Ending (Ends s first) rest bs begun taken) (sym joined)
    (overrun_ends s first rest (got ++ take (n - 1) piece) (drop (n - 1) (take n piece)) begun taken u r (omega (arith, length-append got (take (n - 1) piece), front, size)) last o))

-- ---- the top call
pub ran_nothing : (left begun : Option (List ℕ)) (E : List ℕ → List ℕ → List ℕ → Type 0) → ((all : List ℕ) → E all [] []) → Ran left left begun begun E
ran_nothing None begun E h = tt
ran_nothing (Some all) begun E h = record { got = []; done = []; read = refl; bounded = omega arith; taken = Appends-nil begun; ends = h all }

pub stopped_nothing : (first : Machine) (all : List ℕ) → IsStopped first all [] []
stopped_nothing first all = record { rest = replies first (lines all); joined = refl }

within_limit : (all left got : List ℕ) → all ≡ got ++ left → length all ≤ 2 ^ 48 → 2 ^ 48 < length (got ++ left) → ⊥
within_limit all left got e h l = omega (arith, ap length e, h, l)

-- where nothing failed, all lines were answered or memory ran out
pub complete_by : (s : Status) (first : Machine) (left left' begun now : Option (List ℕ)) → Ran left left' begun now (Ends s first) → IsWithin left → (s ≡ status.ReadFault → ⊥) → (s ≡ status.WriteFault → ⊥) → s ≢ status.Usage → IsDoneOrMemory s
complete_by status.Done first left left' begun now r w nr nw nu = tt
complete_by status.Memory first left left' begun now r w nr nw nu = tt
complete_by status.Usage first left left' begun now r w nr nw nu = absurd (nu refl)
complete_by status.ReadFault first left left' begun now r w nr nw nu = absurd (nr refl)
complete_by status.WriteFault first left left' begun now r w nr nw nu = absurd (nw refl)
complete_by status.TooLong first None left' begun now r w nr nw nu = absurd w
complete_by status.TooLong first (Some all) None begun now r w nr nw nu = absurd r
complete_by status.TooLong first (Some all) (Some left) begun now r w nr nw nu = absurd (within_limit all left r.got r.read w r.ends.0.longer)
