use Rattle.script_parser.proofs.Exact.{exact}
use Rattle.script_parser.proofs.parser_is_exact.Goals as goal

pub returns : goal.returns
returns c = exact
