-- Facts that hold after a failed allocation; bytes that have been read are there.
use Rattle.std.proofs.Common.{◌≡◌, ℕ, ◌+◌, ◌≤◌, Bool, length, Some, Result, Ok, Err, ap, arith}
use Rattle.std.proofs.lemmas.List.{length-append}
use Rattle.oa_ndr.specs.promise.Reading.{Cursor}
use Rattle.oa_ndr.specs.Reading.{unit_at, referent_at}
use Rattle.oa_ndr.proofs.Laws.{unit_reads, referent_reads}
use Rattle.oa_wire_text.specs.declared.fault.StubFault.{StubFault}
use Rattle.oa_wire_text.specs.declared.fault.StubFault.TheVariants.{BadStub, Memory}
use Rattle.oa_wire_text.specs.Reading.{OnMemory}

pub on_memory : {A : Type 0} {P Q : Type 0} (r : Result A StubFault) → (P → Q) → OnMemory r P → OnMemory r Q
on_memory (Ok x) f h = tt
on_memory (Err BadStub) f h = tt
on_memory (Err Memory) f h = f h

-- n bytes are read, so they are there
pub unit_there : (n : ℕ) (s t : Cursor) (x : ℕ) → unit_at n s ≡ Some (x, t) → n + length t.rest ≤ length s.rest
unit_there n s t x e =
    let one = ((unit_reads n).takes s.position s.rest x t e).1 in
    omega (arith, ap length one.parts, length-append one.text t.rest, one.form.len)

pub referent_there : (s t : Cursor) (b : Bool) → referent_at s ≡ Some (b, t) → 4 + length t.rest ≤ length s.rest
referent_there s t b e =
    let one = (referent_reads.takes s.position s.rest b t e).1 in
    let front = one.form.form.first in
    omega (
      arith,
      ap length one.parts,
      length-append one.text t.rest,
      ap length one.form.form.parts,
      length-append one.form.form.front one.form.form.back,
      front.len,
    )

-- A fact that always holds also holds after a failed allocation.
pub anyhow : {A : Type 0} {P : Type 0} (r : Result A StubFault) → P → OnMemory r P
anyhow r p = on_memory r (λ _. p) (own r)
  where
    own : {A : Type 0} (r : Result A StubFault) → OnMemory r (Unit {0})
    own (Ok x) = tt
    own (Err BadStub) = tt
    own (Err Memory) = tt
