-- What answering a line leaves.
use Rattle.std.proofs.Common.{◌≡◌, ℕ, List, [], ◌∷◌, ◌++◌, Option, refl, sym, ◌∙◌, subst, true, false}
use Rattle.std.specs.Io.KnownBytes.{Appends}
use Rattle.std.proofs.KnownBytes.{Appends-nil}
use Rattle.plain_values.specs.declared.reply.Reply.{Reply}
use Rattle.host_machine.specs.Machine.{Machine, Turned}
use Rattle.host_protocol_spec.specs.Replies.{reply_line}
use Rattle.stream_run.specs.Lines.{is_blank}
use Rattle.stream_run.specs.Runs.{answer_to, line_answer, machine_after}
use Rattle.host_shell.specs.Ends.{IsAnswered, IsHeld, TakesPart}
use Rattle.host_shell.specs.Line.{LineState, Holds}
use Rattle.host_shell.proofs.LineLaws.{answer_kept}
use Rattle.host_shell.proofs.SendLaws.{nothing_taken}

pub answered_blank : (h : Turned) (text : List ℕ) (a : Option (List ℕ)) → is_blank text ≡ true → IsAnswered h h text a a
unfolding line_answer machine_after
answered_blank h text a b = record { machine = rw b refl; taken = rw b (Appends-nil a) }

pub held_nothing : (m : Machine) (text : List ℕ) (a : Option (List ℕ)) → is_blank text ≡ false → IsHeld m text a a
held_nothing m text a b = record { spoken = b; part = nothing_taken a (line_answer m text) }

line_is : (m : Machine) (text : List ℕ) (m' : Machine) (r : Reply) → is_blank text ≡ false → answer_to m text ≡ (m', r) → reply_line r ++ 10 ∷ [] ≡ line_answer m text
unfolding line_answer
line_is m text m' r b e = rw (b, e) refl

machine_is : (m : Machine) (text : List ℕ) (m' : Machine) (r : Reply) → is_blank text ≡ false → answer_to m text ≡ (m', r) → m' ≡ machine_after m text
unfolding machine_after
machine_is m text m' r b e = rw (b, e) refl

-- what was replied to the bytes that are kept of a line is its answer
answer_is : (m : Machine) (line : LineState) (text kept : List ℕ) (m' : Machine) (r : Reply) → Holds line text → kept ≡ line.kept → (let a : Machine × Reply = (m', r) in a ≡ answer_to m kept) → answer_to m text ≡ (m', r)
answer_is m line text kept m' r h k e = sym (answer_kept m kept text (k ∙ h.kept)) ∙ sym e

pub held_part : (h : Turned) (line : LineState) (text kept : List ℕ) (m' : Machine) (r : Reply) (a b : Option (List ℕ)) → Holds line text → line.blank ≡ false → kept ≡ line.kept
    → (let p : Machine × Reply = (m', r) in p ≡ answer_to h.machine kept) → TakesPart a b (reply_line r ++ 10 ∷ []) → IsHeld h.machine text a b
held_part h line text kept m' r a b held spoken k e part =
    let quiet = sym held.blank ∙ spoken in
    record { spoken = quiet; part = subst (λ (bs : List ℕ). TakesPart a b bs) (line_is h.machine text m' r quiet (answer_is h.machine line text kept m' r held k e)) part }

pub answered_whole : (h h' : Turned) (line : LineState) (text kept : List ℕ) (r : Reply) (a b : Option (List ℕ)) → Holds line text → line.blank ≡ false → kept ≡ line.kept
    → (let p : Machine × Reply = (h'.machine, r) in p ≡ answer_to h.machine kept) → Appends a b (reply_line r ++ 10 ∷ []) → IsAnswered h h' text a b
answered_whole h h' line text kept r a b held spoken k e taken =
    let quiet = sym held.blank ∙ spoken in
    let so = answer_is h.machine line text kept h'.machine r held k e in
    record { machine = machine_is h.machine text h'.machine r quiet so; taken = subst (λ (bs : List ℕ). Appends a b bs) (line_is h.machine text h'.machine r quiet so) taken }
