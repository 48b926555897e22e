use Rattle.std.proofs.Common.{List, ℕ, refl, sym, subst}
use Rattle.std.proofs.lemmas.Result.{err_from_is_err_and}
use Rattle.oa_disk.specs.promise.Disk.{NothingPending}
use Rattle.oa_disk.specs.promise.Memory.{memory_contents, memory_image}
use Rattle.oa_disk.specs.declared.memory.MemoryDisk.{MemoryDisk}
use Rattle.oa_group_commit.specs.promise.Groups.{HoldsState}
use Rattle.oa_server.specs.promise.ServerMachine.{server_machine}
use Rattle.oa_history.proofs.Found.{begun_on, never_refused, serves, sits}
use Rattle.oa_history.proofs.failing.opened_through.Goals as goal

pub returns-in-Ok-clause-begins : goal.returns-in-Ok-clause-begins
returns-in-Ok-clause-begins c state kept =
    let fuse = c.new-fuse.result in
    let library = c.in_ok-library.library in
    let barrier = subst (λ (d : MemoryDisk). NothingPending memory_contents memory_image d) (sym c.new-fuse.ensures.disk) c.requires.barrier in
    let holds = subst (λ (d : MemoryDisk). HoldsState server_machine state (memory_contents d)) (sym c.new-fuse.ensures.disk) kept.holds in
    let same = c.in_ok-library.ensures.kept state kept.holds kept.begins.checked in
    let engine = c.in-Ok.server.engine in
    let host = serves fuse library state barrier (λ d. refl) holds kept.unlocked same engine.storage engine.host c.in-Ok.ensures.library c.in-Ok.ensures.bank
    c.in-Ok.ensures.opened in
    record {
      fuse = fuse;
      within = c.new-fuse.ensures.disk;
      passes = c.new-fuse.ensures.calls;
      begins = record {
        host = host;
        found = begun_on fuse library state engine.host engine.storage c.in-Ok.ensures.library host c.in-Ok.ensures.opened;
        over = sits fuse library state barrier (λ d. refl) holds kept.unlocked same c.an_opening_finds_what_was_kept.ensures.begins engine.storage
            engine.host.table c.in-Ok.ensures.opened;
      };
    }

pub returns-in-Device-clause-refused : goal.returns-in-Device-clause-refused
returns-in-Device-clause-refused c state kept image is =
    let told = c.in-Err.ensures.refused.told refl in
    let here = subst (λ (d : MemoryDisk). memory_image d image) c.into_inner.ensures is in
    let was = subst (λ (d : MemoryDisk). memory_image d image) c.new-fuse.ensures.disk (told.reads.images image here) in
    subst (λ (l : List ℕ). HoldsState server_machine state l) (sym (c.requires.barrier image was)) kept.holds

pub returns-in-Device-clause-tells : goal.returns-in-Device-clause-tells
returns-in-Device-clause-tells c state kept =
    let fuse = c.new-fuse.result in
    let same = c.in_ok-library.ensures.kept state kept.holds kept.begins.checked in
    record {
      fuse = fuse;
      within = c.new-fuse.ensures.disk;
      passes = c.new-fuse.ensures.calls;
      end = c.in-Err.back;
      handed_back = c.into_inner.ensures;
      tells = rw (← same, ← c.in-Device.is) c.in-Err.ensures.refused;
    }

pub returns-in_default : goal.returns-in_default
returns-in_default c = record {
  begins = tt;
  refused = tt;
  tells = tt;
  wanting = λ state kept r.
      let fuse = c.new-fuse.result in
      let barrier = subst (λ (d : MemoryDisk). NothingPending memory_contents memory_image d) (sym c.new-fuse.ensures.disk) c.requires.barrier in
      let holds = subst (λ (d : MemoryDisk). HoldsState server_machine state (memory_contents d)) (sym c.new-fuse.ensures.disk) kept.holds in
      never_refused fuse c.in_ok-library.library state barrier (λ d. refl) holds kept.unlocked
      (c.in_ok-library.ensures.kept state kept.holds kept.begins.checked) kept.begins _ c.in-Err.fault c.in-Err.ensures.refused r;
}

pub returns-in_err-library-clause-wanting : goal.returns-in_err-library-clause-wanting
returns-in_err-library-clause-wanting c = let p = err_from_is_err_and c.from_residual.result c.from_residual.ensures.1 in
    rw (p.1, p.2) (λ state kept. c.in_err-library.ensures.wanting state kept.holds kept.begins.checked)
