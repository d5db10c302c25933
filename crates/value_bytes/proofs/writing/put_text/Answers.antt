use Rattle.value_bytes.proofs.Texts.{shown_text}
use Rattle.value_bytes.proofs.writing.put_text.Goals as goal

pub returns-in_err-put_count-clause-word : goal.returns-in_err-put_count-clause-word
returns-in_err-put_count-clause-word c = shown_text c.as_str-letters.result.now c.args.text.now c.as_str-letters.ensures.value c.as_str-letters.utf8 c.as_str-letters.ensures.short

pub returns-clause-word : goal.returns-clause-word
returns-clause-word c = shown_text c.as_str-letters.result.now c.args.text.now c.as_str-letters.ensures.value c.as_str-letters.utf8 c.as_str-letters.ensures.short
