use Rattle.std.proofs.Common.{◌∙◌, arith, sym, length-take}
use Rattle.host_shell.proofs.LineLaws.{holds_more, spoken_more}
use Rattle.host_shell.proofs.line.Line.extend.Goals as goal

pub invariant_of-self-2 : goal.invariant_of-self-2
invariant_of-self-2 c = (
  omega (arith, c.in_ok-extend_from_slice.ensures.len, length-take c.min-count.result c.args.chunk.now, c.min-count.ensures, c.self.invariant.0),
  λ e. spoken_more c.self.inside.blank c.self.inside.size c.args.chunk.now c.self.invariant.1 (sym c.stays_blank-self-inside.ensures ∙ e),
)

pub returns-clause-line : goal.returns-clause-line
returns-clause-line c = λ line h.
    let held = rw (← c.self.view_is) at h in
    rw (c.in_ok-extend_from_slice.ensures.items, c.stays_blank-self-inside.ensures)
    (holds_more c.self.inside.bytes.items line c.args.chunk.now c.self.inside.size c.min-count.result c.self.inside.blank held (omega (arith, c.min-count.ensures, c.len.ensures, c.self.inside.bytes.ok.0)))
