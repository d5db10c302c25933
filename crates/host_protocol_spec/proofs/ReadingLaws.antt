-- Every line has one reading.
use Rattle.std.proofs.Common.{◌≡◌, ℕ, List, ap, refl, sym, ◌∙◌, subst, Bool, true, false, cond, Option, Some, None, Result, Ok, Err}
use Rattle.std.specs.Prelude.{IsTrue, codes, option_and_then}
use Rattle.std.specs.Str.{bytes_eq}
use Rattle.std.proofs.lemmas.Slice.Eq.{bytes_eq-Decides}
use Rattle.serde_json.specs.Data.{Data}
use Rattle.serde_json.specs.Find.{get}
use Rattle.plain_values.specs.declared.cause.Cause.{Cause}
use Rattle.plain_values.specs.declared.cause.Cause.TheVariants as cause
use Rattle.plain_values.specs.declared.command.Command.{Command}
use Rattle.plain_values.specs.declared.command.Command.TheVariants as command
use Rattle.plain_values.specs.declared.command.Word.{Word}
use Rattle.plain_values.specs.declared.command.Word.TheVariants as word
use Rattle.plain_values.specs.Names.{command_word, word_name}
use Rattle.value_json_spec.specs.Answers.{and_then, result_map}
use Rattle.value_json_spec.specs.Reading.{json_of}
use Rattle.host_protocol_spec.specs.Commands.{Formed, formed_by, formed_in, form_of, is_long_line, action_in, reducer_in, session_in, edit_with, finish_with, text_at, patches_at, pointers_at, grant_at, path_at, command_by, command_in, command_of}
use Rattle.host_protocol_spec.specs.Forms.{text_in, word_of, word_in, has_form}
use Rattle.host_protocol_spec.specs.Readings.{IsOfWord}

-- ---- a word's spelling
spelled_if : (s name : List ℕ) (v w : Word) (rest : Option Word) (b : Bool) → bytes_eq s name ≡ b → name ≡ word_name v → (rest ≡ Some w → s ≡ word_name w) → cond b (Some v) rest ≡ Some w → s ≡ word_name w
spelled_if s name v w rest true e n h f = let same : v ≡ w = cc in (bytes_eq-Decides s name).0 e ∙ n ∙ ap word_name same
spelled_if s name v w rest false e n h f = h f

none_spelled : (s : List ℕ) (w : Word) → (let o : Option Word = None in o ≡ Some w) → s ≡ word_name w
none_spelled s w e = absurd (cc)

word_spelled : (s : List ℕ) (w : Word) → word_of s ≡ Some w → s ≡ word_name w
word_spelled s w =
    spelled_if s (codes "dispatch") word.Dispatch w _ (bytes_eq s (codes "dispatch")) refl refl (
    spelled_if s (codes "apply") word.Apply w _ (bytes_eq s (codes "apply")) refl refl (
    spelled_if s (codes "undo") word.Undo w _ (bytes_eq s (codes "undo")) refl refl (
    spelled_if s (codes "redo") word.Redo w _ (bytes_eq s (codes "redo")) refl refl (
    spelled_if s (codes "begin") word.Begin w _ (bytes_eq s (codes "begin")) refl refl (
    spelled_if s (codes "edit") word.Edit w _ (bytes_eq s (codes "edit")) refl refl (
    spelled_if s (codes "finish") word.Finish w _ (bytes_eq s (codes "finish")) refl refl (
    spelled_if s (codes "drop") word.Drop w _ (bytes_eq s (codes "drop")) refl refl (
    spelled_if s (codes "state") word.State w _ (bytes_eq s (codes "state")) refl refl (
    spelled_if s (codes "node") word.Node w _ (bytes_eq s (codes "node")) refl refl (
    spelled_if s (codes "stat") word.Stat w _ (bytes_eq s (codes "stat")) refl refl (
    spelled_if s (codes "renew") word.Renew w _ (bytes_eq s (codes "renew")) refl refl (
    spelled_if s (codes "view") word.View w _ (bytes_eq s (codes "view")) refl refl (
    spelled_if s (codes "pointer") word.Pointer w _ (bytes_eq s (codes "pointer")) refl refl (
    none_spelled s w))))))))))))))

-- the word that a spelling is; `line` is the word of no line
found : (w : Word) (d : Data) → IsTrue (has_form w d) → word_of (word_name w) ≡ Some w
found word.Dispatch d h = refl
found word.Apply d h = refl
found word.Undo d h = refl
found word.Redo d h = refl
found word.Begin d h = refl
found word.Edit d h = refl
found word.Finish d h = refl
found word.Drop d h = refl
found word.State d h = refl
found word.Node d h = refl
found word.Stat d h = refl
found word.Renew d h = refl
found word.View d h = refl
found word.Pointer d h = refl
found word.Line d h = absurd (cc)

data_same : (line : List ℕ) (d e : Data) → json_of line ≡ Some d → json_of line ≡ Some e → d ≡ e
data_same line d e p q = let same : Some d ≡ Some e = sym p ∙ q in cc

pub one_word : (line : List ℕ) (v w : Word) → IsOfWord line v → IsOfWord line w → v ≡ w
one_word line v w r s =
    let same = data_same line r.json s.json r.read s.read in
    let spelling : Some (word_name v) ≡ Some (word_name w) = sym r.spelled ∙ ap (λ (d : Data). text_in (get (codes "do") d)) same ∙ s.spelled in
    let words : Some v ≡ Some w = sym (found v r.json r.formed) ∙ ap (option_and_then word_of) spelling ∙ found w s.json s.formed in
    cc

-- ---- the command of a word's line
mapped : {X : Type 0} (f : X → Command) (w : Word) (r : Result X Cause) (c : Command) → ((x : X) → command_word (f x) ≡ w) → result_map f r ≡ Ok c → command_word c ≡ w
mapped f w (Ok x) c h e = let same : f x ≡ c = cc in sym (ap command_word same) ∙ h x
mapped f w (Err why) c h e = absurd (cc)

chained : {X : Type 0} (f : X → Result Command Cause) (w : Word) (r : Result X Cause) (c : Command) → ((x : X) → f x ≡ Ok c → command_word c ≡ w) → and_then f r ≡ Ok c → command_word c ≡ w
chained f w (Ok x) c h e = h x e
chained f w (Err why) c h e = absurd (cc)

alone : (d c : Command) → (let r : Result Command Cause = Ok d in r ≡ Ok c) → command_word c ≡ command_word d
alone d c e = let same : d ≡ c = cc in sym (ap command_word same)

edited : (d : Data) (session : ℕ) (c : Command) → edit_with d session ≡ Ok c → command_word c ≡ word.Edit
edited d session c e = chained (λ reducer. result_map (command.Edit session reducer) (action_in d)) word.Edit (reducer_in d) c (λ reducer. mapped (command.Edit session reducer) word.Edit (action_in d) c (λ x. refl)) e

of_word : (w : Word) (d : Data) (c : Command) → command_by w d ≡ Ok c → command_word c ≡ w
of_word word.Dispatch d c e = chained (λ reducer. result_map (command.Dispatch reducer) (action_in d)) word.Dispatch (reducer_in d) c (λ reducer. mapped (command.Dispatch reducer) word.Dispatch (action_in d) c (λ x. refl)) e
of_word word.Apply d c e = mapped command.Apply word.Apply (patches_at (get (codes "patches") d)) c (λ x. refl) e
of_word word.Undo d c e = alone command.Undo c e
of_word word.Redo d c e = alone command.Redo c e
of_word word.Begin d c e = mapped command.Begin word.Begin (grant_at (get (codes "grant") d)) c (λ x. refl) e
of_word word.Edit d c e = chained (edit_with d) word.Edit (session_in d) c (λ session. edited d session c) e
of_word word.Finish d c e = mapped (finish_with d) word.Finish (session_in d) c (λ x. refl) e
of_word word.Drop d c e = mapped command.Drop word.Drop (session_in d) c (λ x. refl) e
of_word word.State d c e = mapped command.State word.State (path_at (get (codes "path") d)) c (λ x. refl) e
of_word word.Node d c e = mapped command.Node word.Node (path_at (get (codes "path") d)) c (λ x. refl) e
of_word word.Stat d c e = alone command.Stat c e
of_word word.Renew d c e = alone command.Renew c e
of_word word.View d c e = mapped command.View word.View (text_at (text_in (get (codes "name") d))) c (λ x. refl) e
of_word word.Pointer d c e = mapped command.Pointer word.Pointer (pointers_at (get (codes "patches") d)) c (λ x. refl) e
of_word word.Line d c e = absurd (cc)

-- ---- from the line on
text_spelled : (o : Option (List ℕ)) (w : Word) → option_and_then word_of o ≡ Some w → o ≡ Some (word_name w)
text_spelled None w e = absurd (cc)
text_spelled (Some s) w e = ap (λ (t : List ℕ). Some t) (word_spelled s w e)

formed_word : (line : List ℕ) (d : Data) (w : Word) (c : Command) (b : Bool) → json_of line ≡ Some d → word_in d ≡ Some w → has_form w d ≡ b
    → and_then command_in (cond b (Ok (record { word = w; json = d })) (Err cause.NotCommand)) ≡ Ok c → IsOfWord line (command_word c)
formed_word line d w c true r s f e =
    subst (λ (v : Word). IsOfWord line v) (sym (of_word w d c e)) (record { json = d; read = r; spelled = text_spelled (text_in (get (codes "do") d)) w s; formed = f })
formed_word line d w c false r s f e = absurd (cc)

word_at : (line : List ℕ) (d : Data) (c : Command) (o : Option Word) → json_of line ≡ Some d → word_in d ≡ o → and_then command_in (formed_by d o) ≡ Ok c → IsOfWord line (command_word c)
word_at line d c None r s e = absurd (cc)
word_at line d c (Some w) r s e = formed_word line d w c (has_form w d) r s refl e

json_at : (line : List ℕ) (c : Command) (o : Option Data) → json_of line ≡ o → and_then command_in (formed_in o) ≡ Ok c → IsOfWord line (command_word c)
json_at line c None r e = absurd (cc)
json_at line c (Some d) r e = word_at line d c (word_in d) r refl e

line_at : (line : List ℕ) (c : Command) (b : Bool) → and_then command_in (cond b (Err cause.LineTooLong) (formed_in (json_of line))) ≡ Ok c → IsOfWord line (command_word c)
line_at line c true e = absurd (cc)
line_at line c false e = json_at line c (json_of line) refl e

pub command_of_word : (line : List ℕ) (c : Command) → command_of line ≡ Ok c → IsOfWord line (command_word c)
unfolding command_of form_of
command_of_word line c e = line_at line c (is_long_line line) e
