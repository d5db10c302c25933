use Rattle.current_copies.proofs.ShownLaws.{copy_read}
use Rattle.current_copies.proofs.law_copy_reads.Goals as goal

pub returns : goal.returns
returns c = λ h v f levels s copies d e le. copy_read h s copies v f d e levels le
