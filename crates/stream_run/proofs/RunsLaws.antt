-- How a run goes on.
use Rattle.std.proofs.Common.{◌≡◌, ℕ, List, [], ◌∷◌, ◌++◌, ap, refl, sym, ◌∙◌, append_assoc, append-nil}
use Rattle.host_machine.specs.Machine.{Machine}
use Rattle.stream_run.specs.Lines.{whole_lines, lines}
use Rattle.stream_run.specs.Runs.{line_answer, machine_after, replies, after}
use Rattle.stream_run.specs.Endings.{IsPrefix}
use Rattle.stream_run.proofs.LinesLaws.{lines-front}

pub replies-append : (m : Machine) (ls ks : List (List ℕ)) → replies m (ls ++ ks) ≡ replies m ls ++ replies (after m ls) ks
unfolding replies after
replies-append m [] ks = refl
replies-append m (l ∷ ls) ks = ap (λ (bs : List ℕ). line_answer m l ++ bs) (replies-append (machine_after m l) ls ks) ∙ sym (append_assoc (line_answer m l) (replies (machine_after m l) ls) (replies (after (machine_after m l) ls) ks))

pub replies-one : (m : Machine) (ls : List (List ℕ)) (l : List ℕ) → replies m (ls ++ l ∷ []) ≡ replies m ls ++ line_answer (after m ls) l
unfolding replies
replies-one m ls l = replies-append m ls (l ∷ []) ∙ ap (λ (bs : List ℕ). replies m ls ++ bs) (append-nil (line_answer (after m ls) l))

pub after-one : (m : Machine) (ls : List (List ℕ)) (l : List ℕ) → after m (ls ++ l ∷ []) ≡ machine_after (after m ls) l
unfolding after
after-one m [] l = refl
after-one m (k ∷ ls) l = after-one (machine_after m k) ls l

-- the answers to the whole lines of a front are a prefix of the answers to the stream
pub prefix_lines : (m : Machine) (bytes more : List ℕ) → IsPrefix (replies m (whole_lines bytes)) (replies m (lines (bytes ++ more)))
prefix_lines m bytes more = record {
  rest = replies (after m (whole_lines bytes)) (lines-front bytes more).rest;
  joined = sym (ap (replies m) (lines-front bytes more).joined ∙ replies-append m (whole_lines bytes) (lines-front bytes more).rest);
}

-- a prefix of a part, with what stands before
pub prefix_after : (before done whole rest all : List ℕ) → IsPrefix done whole → (before ++ whole) ++ rest ≡ all → IsPrefix (before ++ done) all
prefix_after before done whole rest all f e = record {
  rest = f.rest ++ rest;
  joined = append_assoc before done (f.rest ++ rest) ∙ ap (λ (bs : List ℕ). before ++ bs) (sym (append_assoc done f.rest rest) ∙ ap (λ (bs : List ℕ). bs ++ rest) f.joined) ∙ sym (append_assoc before whole rest) ∙ e;
}
