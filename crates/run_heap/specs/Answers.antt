-- How an answer in code is what the table of operations says; want of memory is never said.
use Rattle.std.specs.Prelude.{◌≡◌, ◌≢◌, Result, Ok, Err, MatchResult}
use Rattle.run_heap.specs.declared.fault.DraftFault.{DraftFault}
use Rattle.run_heap.specs.declared.fault.DraftFault.TheVariants.{Memory}
use Rattle.run_heap.specs.Heap.{Heap}

-- a call that only reads, and may want memory; one that takes none answers what is said
abbrev pub Answers : {X : Type 0} → Result X DraftFault → Result X DraftFault → Type 0
Answers r said = MatchResult r (λ v. said ≡ Ok v) (λ e. e ≢ Memory → said ≡ Err e)

-- a call that leaves the heap that is said; refused, or for want of memory, it leaves all as it was
abbrev pub Does : {X : Type 0} → Result X DraftFault → Heap → Heap → Result (Heap × X) DraftFault → Type 0
Does r old new said = MatchResult r (λ v. said ≡ Ok (new, v)) (λ e. (new ≡ old) × (e ≢ Memory → said ≡ Err e))

-- a call whose conditions rule every refusal out: it leaves this heap, or for want of memory all as it was
abbrev pub Leaves : {X E : Type 0} → Result X E → Heap → Heap → Heap → Type 0
Leaves r old new said = MatchResult r (λ _. new ≡ said) (λ _. new ≡ old)

-- the same of a call that answers a value
abbrev pub Makes : {X E : Type 0} → Result X E → Heap → Heap → Heap → X → Type 0
Makes r old new said answer = MatchResult r (λ v. (new ≡ said) × (v ≡ answer)) (λ _. new ≡ old)
