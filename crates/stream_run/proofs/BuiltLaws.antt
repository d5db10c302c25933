-- The command of a line that is run has the form that is built.
use Rattle.std.proofs.Common.{◌≡◌, ℕ, List, refl, ap, subst, Bool, true, false, cond}
use Rattle.std.specs.Prelude.{IsTrue, Option, Some, None, option_and_then, Result, Ok, Err, codes}
use Rattle.serde_json.specs.Data.{Data}
use Rattle.serde_json.specs.Find.{get, as_array}
use Rattle.values.specs.declared.patch.Patch.{Patch}
use Rattle.plain_values.specs.declared.cause.Cause.{Cause}
use Rattle.plain_values.specs.declared.cause.Cause.TheVariants as cause
use Rattle.plain_values.specs.declared.command.Command.{Command}
use Rattle.plain_values.specs.declared.command.Command.TheVariants as command
use Rattle.plain_values.specs.declared.command.Word.{Word}
use Rattle.plain_values.specs.declared.command.Word.TheVariants as word
use Rattle.value_json_spec.specs.Answers.{and_then, result_map}
use Rattle.value_json_spec.specs.declared.why.JsonWhy.{JsonWhy}
use Rattle.value_json_spec.specs.Patches.{patches_from}
use Rattle.host_machine.specs.Flat.{is_built, are_flat}
use Rattle.host_protocol_spec.specs.Commands.{Formed, form_of, caused, patches_at, path_at, command_by}
use Rattle.stream_run.specs.Built.{are_flat_if, is_built_form}
use Rattle.stream_run.specs.Runs.{run_form, run_command}
use Rattle.stream_run.proofs.FlatLaws.{patches_flat}

caused_ok : {X : Type 0} (r : Result X JsonWhy) (x : X) → caused r ≡ Ok x → r ≡ Ok x
caused_ok (Ok y) x e = let same : y ≡ x = cc in ap Ok same
caused_ok (Err w) x e = absurd (cc)

mapped : {X : Type 0} (f : X → Command) (r : Result X Cause) (c : Command) → result_map f r ≡ Ok c → ((x : X) → r ≡ Ok x → IsTrue (is_built (f x))) → IsTrue (is_built c)
mapped f (Ok x) c e h = let same : f x ≡ c = cc in subst (λ (d : Command). IsTrue (is_built d)) same (h x refl)
mapped f (Err why) c e h = absurd (cc)

apply_flat : (o : Option Data) (ps : List Patch) → patches_at o ≡ Ok ps → are_flat_if (option_and_then as_array o) ≡ true → IsTrue (are_flat ps)
apply_flat None ps e h = absurd (cc)
apply_flat (Some d) ps e h = patches_flat d ps (caused_ok (patches_from d) ps e) h

stat_built : (c : Command) → Ok command.Stat ≡ (let r : Result Command Cause = Ok c in r) → IsTrue (is_built c)
stat_built c e = let same : command.Stat ≡ c = cc in subst (λ (d : Command). IsTrue (is_built d)) same refl

pub form_built : (w : Word) (d : Data) (c : Command) → is_built_form w d ≡ true → command_by w d ≡ Ok c → IsTrue (is_built c)
form_built word.Apply d c b e = mapped command.Apply (patches_at (get (codes "patches") d)) c e (λ ps q. apply_flat (get (codes "patches") d) ps q b)
form_built word.State d c b e = mapped command.State (path_at (get (codes "path") d)) c e (λ path q. refl)
form_built word.Node d c b e = mapped command.Node (path_at (get (codes "path") d)) c e (λ path q. refl)
form_built word.Stat d c b e = stat_built c e
form_built _ d c b e = absurd (cc)

chosen : (b : Bool) (w : Word) (d : Data) (c : Command) → is_built_form w d ≡ b → cond b (command_by w d) (Err cause.NotYet) ≡ Ok c → IsTrue (is_built c)
chosen true w d c b e = form_built w d c b e
chosen false w d c b e = absurd (cc)

formed : (r : Result Formed Cause) (c : Command) → and_then run_form r ≡ Ok c → IsTrue (is_built c)
formed (Ok f) c e = chosen (is_built_form f.word f.json) f.word f.json c refl e
formed (Err why) c e = absurd (cc)

pub run_built : (line : List ℕ) (c : Command) → run_command line ≡ Ok c → IsTrue (is_built c)
unfolding run_command
run_built line c e = formed (form_of line) c e
