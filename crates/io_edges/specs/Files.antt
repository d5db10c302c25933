-- A file to read, or none.
use Rattle.std.specs.Prelude.{ℕ, List, Option, None}
use Rattle.io_edges.specs.declared.files.FileSource.{FileSource}
use Rattle.io_edges.specs.declared.files.FileSource.TheVariants.{Open, Missing}

-- the bytes left, where the reader tells them
abbrev pub left_of : {R : Type 0} → FileSource R → Option (List ℕ)
left_of (Open file) = file.bytes
left_of (Missing faults) = None

-- how many calls have failed
abbrev pub faults_of : {R : Type 0} → FileSource R → ℕ
faults_of (Open file) = file.faults
faults_of (Missing faults) = faults
