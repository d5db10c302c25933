use Rattle.home_places.proofs.EndLaws.{listed, ascending, of_one_kind}
use Rattle.home_places.proofs.law_home_places.Goals as goal

pub returns-clause-listed : goal.returns-clause-listed
returns-clause-listed c = λ ts h v f path e. listed ts h v f e path

pub returns-clause-ascending : goal.returns-clause-ascending
returns-clause-ascending c = λ ts h v f e. ascending ts h v f e

pub returns-clause-kinds : goal.returns-clause-kinds
returns-clause-kinds c = λ ts h v f e. of_one_kind ts h v f e
