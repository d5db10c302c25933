-- How a run goes on, and how it stops.
use Rattle.std.proofs.Common.{◌≡◌, ◌≤◌, ◌+◌, ◌^◌, ℕ, List, [], ◌∷◌, ◌++◌, length, refl, sym, ap, ◌∙◌, subst, arith, append_assoc, append-nil, Option, Some, None}
use Rattle.std.proofs.KnownBytes.{Appends-trans, Appends-nil}
use Rattle.std.specs.Io.KnownBytes.{Appends, Consumes}
use Rattle.host_machine.specs.Machine.{Machine, Turned}
use Rattle.stream_run.specs.Lines.{HasNoLf, Cut, whole_lines, rest_of, lines}
use Rattle.stream_run.specs.Runs.{line_answer, machine_after, replies, after}
use Rattle.stream_run.specs.Endings.{IsPrefix, Ran}
use Rattle.stream_run.proofs.LinesLaws.{cut-nil, cut-chunk, cut-line, lines-front, lines-line, lines-rest, lines-whole}
use Rattle.stream_run.proofs.RunsLaws.{replies-one, after-one, prefix_lines, prefix_after}
use Rattle.host_shell.specs.At.{IsAt, IsHalted}
use Rattle.host_shell.specs.Ends.{IsAnswered, IsHeld}
use Rattle.host_shell.specs.Line.{LineState, Holds}
use Rattle.host_shell.specs.declared.status.Status.{Status}
use Rattle.host_shell.specs.declared.status.Status.TheVariants as status

-- before the first byte
pub at_start : (first : Machine) (line : LineState) (before : Option (List ℕ)) → Holds line [] → IsAt first [] first line before before
unfolding replies after
at_start first line before h = record {
  machine = ap (λ (p : Cut). after first p.whole) (sym cut-nil);
  held = subst (λ (p : Cut). Holds line p.rest) (sym cut-nil) h;
  taken = subst (λ (p : Cut). Appends before before (replies first p.whole)) (sym cut-nil) (Appends-nil before);
}

-- bytes without LF
pub at_chunk : (first : Machine) (got chunk : List ℕ) (m : Machine) (line line' : LineState) (before now : Option (List ℕ)) → IsAt first got m line before now → HasNoLf chunk
    → ((text : List ℕ) → Holds line text → Holds line' (text ++ chunk)) → IsAt first (got ++ chunk) m line' before now
at_chunk first got chunk m line line' before now at n h =
    let cut_so = cut-chunk got chunk n in
    record {
      machine = at.machine ∙ ap (λ (p : Cut). after first p.whole) (sym cut_so);
      held = subst (λ (p : Cut). Holds line' p.rest) (sym cut_so) (h (rest_of got) at.held);
      taken = subst (λ (p : Cut). Appends before now (replies first p.whole)) (sym cut_so) at.taken;
    }

-- a line that was answered
pub at_line : (first : Machine) (got chunk : List ℕ) (h h' : Turned) (line next : LineState) (before now now' : Option (List ℕ)) → IsAt first got h.machine line before now → HasNoLf chunk
    → IsAnswered h h' (rest_of got ++ chunk) now now' → Holds next [] → IsAt first (got ++ (chunk ++ 10 ∷ [])) h'.machine next before now'
at_line first got chunk h h' line next before now now' at n a held =
    let text = rest_of got ++ chunk in
    let cut_so = cut-line got chunk n in
    record {
      machine = a.machine ∙ ap (λ (m : Machine). machine_after m text) at.machine ∙ sym (after-one first (whole_lines got) text) ∙ ap (λ (p : Cut). after first p.whole) (sym cut_so);
      held = subst (λ (p : Cut). Holds next p.rest) (sym cut_so) held;
      taken = subst (λ (p : Cut). Appends before now' (replies first p.whole)) (sym cut_so)
          (subst (λ (bs : List ℕ). Appends before now' bs) (ap (λ (m : Machine). replies first (whole_lines got) ++ line_answer m text) at.machine ∙ sym (replies-one first (whole_lines got) text))
          (Appends-trans before now now' (replies first (whole_lines got)) (line_answer h.machine text) at.taken a.taken));
    }

-- stopped at a line, with some bytes read behind it
pub halted_line : (first : Machine) (left got chunk behind : List ℕ) (s : Status) (m : Machine) (line : LineState) (before now now' : Option (List ℕ)) → IsAt first got m line before now → HasNoLf chunk
    → length behind ≤ 65536 → IsHeld m (rest_of got ++ chunk) now now' → IsHalted first left ((got ++ (chunk ++ 10 ∷ [])) ++ behind) s before now'
halted_line first left got chunk behind s m line before now now' at n near held =
    let text = rest_of got ++ chunk in
    let earlier = whole_lines got in
    let front = got ++ (chunk ++ 10 ∷ []) in
    let part = held.part.part in
    let answer : IsPrefix part (line_answer (after first earlier) text) = subst (λ (n : Machine). IsPrefix part (line_answer n text)) at.machine held.part.in_part in
    let ends : whole_lines front ≡ earlier ++ text ∷ [] = ap (λ (p : Cut). p.whole) (cut-line got chunk n) in
    let all = lines-front front (behind ++ left) in
    let joined : lines ((front ++ behind) ++ left) ≡ earlier ++ text ∷ all.rest =
    ap lines (append_assoc front behind left) ∙ all.joined ∙ ap (λ (ls : List (List ℕ)). ls ++ all.rest) ends ∙ append_assoc earlier (text ∷ []) all.rest in
    let prefix = prefix_lines first front (behind ++ left) in
    let told : replies first earlier ++ line_answer (after first earlier) text ≡ replies first (whole_lines front) = sym (replies-one first earlier text) ∙ ap (replies first) (sym ends) in
    record {
      done = replies first earlier ++ part;
      taken = Appends-trans before now now' (replies first earlier) part at.taken held.part.taken;
      stopped = prefix_after (replies first earlier) part (line_answer (after first earlier) text) prefix.rest (replies first (lines ((front ++ behind) ++ left))) answer
          (ap (λ (bs : List ℕ). bs ++ prefix.rest) told ∙ prefix.joined ∙ ap (λ (bs : List ℕ). replies first (lines bs)) (sym (append_assoc front behind left)));
      unwritten = λ q. record {
        earlier = earlier;
        line = text;
        later = all.rest;
        whole = joined;
        spoken = held.spoken;
        part = part;
        answered = refl;
        in_part = answer;
        front = front;
        behind = behind;
        read = refl;
        last = lines-line got chunk n;
        near = near;
      };
    }

-- stopped for want of memory, with some bytes read
pub halted_memory : (first : Machine) (left got more : List ℕ) (m : Machine) (line : LineState) (before now : Option (List ℕ)) → IsAt first got m line before now → IsHalted first left (got ++ more) status.Memory before now
halted_memory first left got more m line before now at = record {
  done = replies first (whole_lines got);
  taken = at.taken;
  stopped = subst (λ (bs : List ℕ). IsPrefix (replies first (whole_lines got)) (replies first (lines bs))) (sym (append_assoc got more left)) (prefix_lines first got (more ++ left));
  unwritten = λ q. absurd (cc);
}

-- at the end of the stream: the last line has no LF
pub last_answered : (first : Machine) (got : List ℕ) (h h' : Turned) (line : LineState) (before now now' : Option (List ℕ)) → IsAt first got h.machine line before now → (length (rest_of got) ≡ 0 → ⊥)
    → IsAnswered h h' (rest_of got) now now' → Appends before now' (replies first (lines got))
last_answered first got h h' line before now now' at some a =
    subst (λ (bs : List ℕ). Appends before now' bs)
    (ap (λ (m : Machine). replies first (whole_lines got) ++ line_answer m (rest_of got)) at.machine ∙ sym (replies-one first (whole_lines got) (rest_of got)) ∙ ap (replies first) (sym (lines-rest got some)))
    (Appends-trans before now now' (replies first (whole_lines got)) (line_answer h.machine (rest_of got)) at.taken a.taken)

pub last_nothing : (first : Machine) (got : List ℕ) (m : Machine) (line : LineState) (before now : Option (List ℕ)) → IsAt first got m line before now → length (rest_of got) ≡ 0
    → Appends before now (replies first (lines got))
last_nothing first got m line before now at none = subst (λ (ls : List (List ℕ)). Appends before now (replies first ls)) (sym (lines-whole got none)) at.taken

pub last_halted : (first : Machine) (got : List ℕ) (s : Status) (m : Machine) (line : LineState) (before now now' : Option (List ℕ)) → IsAt first got m line before now → (length (rest_of got) ≡ 0 → ⊥)
    → IsHeld m (rest_of got) now now' → IsHalted first [] got s before now'
last_halted first got s m line before now now' at some held =
    let text = rest_of got in
    let earlier = whole_lines got in
    let part = held.part.part in
    let answer : IsPrefix part (line_answer (after first earlier) text) = subst (λ (n : Machine). IsPrefix part (line_answer n text)) at.machine held.part.in_part in
    let all : lines (got ++ []) ≡ earlier ++ text ∷ [] = ap lines (append-nil got) ∙ lines-rest got some in
    record {
      done = replies first earlier ++ part;
      taken = Appends-trans before now now' (replies first earlier) part at.taken held.part.taken;
      stopped = prefix_after (replies first earlier) part (line_answer (after first earlier) text) [] (replies first (lines (got ++ []))) answer
          (append-nil (replies first earlier ++ line_answer (after first earlier) text) ∙ sym (replies-one first earlier text) ∙ ap (replies first) (sym all));
      unwritten = λ q. record {
        earlier = earlier;
        line = text;
        later = [];
        whole = all;
        spoken = held.spoken;
        part = part;
        answered = refl;
        in_part = answer;
        front = got;
        behind = [];
        read = sym (append-nil got);
        last = lines-rest got some;
        near = omega arith;
      };
    }

-- ---- the whole run
pub ran : (left left' begun now : Option (List ℕ)) (got : List ℕ) (E : List ℕ → List ℕ → List ℕ → Type 0) → Consumes left left' got → length got ≤ 2 ^ 48 + 1
    → ((rest : List ℕ) → left' ≡ Some rest → record { done : List ℕ; taken : Appends begun now done; ends : E rest got done }) → Ran left left' begun now E
ran None left' begun now got E c b h = tt
ran (Some all) None begun now got E c b h = absurd c
ran (Some all) (Some rest) begun now got E c b h = let e = h rest refl in record { got = got; done = e.done; read = c; bounded = b; taken = e.taken; ends = e.ends }
