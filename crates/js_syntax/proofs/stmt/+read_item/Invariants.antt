use Rattle.js_syntax.proofs.stmt.+read_item.Given as goal

abbrev pub decreases-read_item : goal.decreases-read_item
decreases-read_item l = l.depth
