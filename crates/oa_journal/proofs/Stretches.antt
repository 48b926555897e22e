-- A snapshot that is read in stretches.
use Rattle.std.proofs.Common.{◌≡◌, ℕ, suc, ◌+◌, ◌-◌, ◌*◌, ◌<◌, ◌≤◌, IsTrue, List, Ok, arith}
use Rattle.std.specs.Int.{div_ceil}
use Rattle.std.proofs.lemmas.Grind.{div_ceil_times}
use Rattle.oa_disk.specs.declared.disk.Disk.{Ghosts}
use Rattle.oa_journal.specs.Reads.{AfterReads}
use Rattle.oa_journal.specs.Snapshots.{stretch_bytes}
use Rattle.oa_journal.proofs.ReadOn.{reads_ok, reads_then}

-- So many bytes were read in stretches, each of them by one call: but the last one, each is as long as a stretch at least.
pub record HasRead {D : Type 0} (g : Ghosts D) (old new : D) (passed left : ℕ) : Type 0 where
  pub calls : ℕ
  pub few : calls * stretch_bytes < passed + stretch_bytes
  pub full : 0 < left → calls * stretch_bytes ≤ passed
  pub after : AfterReads {T = Unit {0}} g (2 * calls) old new (Ok tt)

module _ {D : Type 0} (g : Ghosts D) where
  -- a stretch more
  pub one_read : {old mid new : D} {T : Type 0} {x : T} (passed left next to : ℕ) → HasRead g old mid passed left → 0 < left
      → AfterReads g 2 mid new (Ok x) → next < left → (0 < next → next + stretch_bytes ≤ left) → to ≡ passed + (left - next) → HasRead g old new to next
  one_read passed left next to so_far some one nearer far is =
      let before = so_far.full some in
      record {
        calls = suc so_far.calls;
        few = omega (arith, before, nearer, is);
        full = λ more. omega (arith, before, far more, is);
        after = reads_ok g (reads_then g (2 * so_far.calls) 2 (2 * suc so_far.calls) so_far.after one (omega arith));
      }

-- two bytes pay for a call, and each stretch but the last one is longer
pub fewer_stretches : (n : ℕ) → 2 ≤ n → 2 * div_ceil n stretch_bytes ≤ n
fewer_stretches n some = let calls = (div_ceil_times n stretch_bytes (omega arith)).1 in omega (arith, calls, some)
