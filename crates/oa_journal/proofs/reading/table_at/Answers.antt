use Rattle.std.proofs.Common.{◌+◌, ◌-◌, ◌<◌, inr, subst, ℕ, List, arith}
use Rattle.std.proofs.lemmas.Result.{IfOk-weaker}
use Rattle.oa_journal.specs.promise.Bank.{from_place, AreGroups, body_bytes}
use Rattle.oa_journal.specs.promise.Damages.{StopsAt}
use Rattle.oa_journal.proofs.Damages.{behind_library, library_long}
use Rattle.oa_journal.proofs.ReadOn.{reads_then}
use Rattle.oa_journal.proofs.reading.table_at.Goals as goal

pub returns-clause-damaged : goal.returns-clause-damaged
returns-clause-damaged g c at e h =
    let h1 = c.read_groups.ensures.after.calls.honest h in
    let stay = (c.first_at.ensures.after.reads h1).contents_stay in
    let told = c.in_ok-told.told in
    let first = c.in_ok-told.first in
    let mid = g.D.Disk.contents c.first_at.new.disk in
    let stops = c.read_groups.ensures.damaged at e h in
    let sized = subst (λ (n : ℕ). StopsAt n (from_place c.args.body mid) (told.library + told.snapshot) first stops.0) c.body_bytes.ensures stops.2 in
    inr (
      stops.0,
      stops.1,
      inr (
        told.library,
        told.snapshot,
        first,
        c.in_ok-told.ensures.found h1,
        subst (λ (d : List ℕ). StopsAt (body_bytes c.args.shape) (from_place c.args.body d) (told.library + told.snapshot) first stops.0) stay sized,
      ),
    )

pub returns-clause-found : goal.returns-clause-found
returns-clause-found g c = IfOk-weaker c.read_groups.result _ _ (λ r rows.
    let disk = g.D.Disk.contents c.args.disk.now in
    let told = c.in_ok-told.told in
    let inside : r.1 < body_bytes c.args.shape = omega (arith, rows.inside, c.body_bytes.ensures) in
    record {
      found = λ h library has.
          let h1 = c.read_groups.ensures.after.calls.honest h in
          let stay = (c.first_at.ensures.after.reads h1).contents_stay in
          let groups = rows.found h in
          let all = subst (λ (d : List ℕ). AreGroups (from_place c.args.body d) (told.library + told.snapshot) groups.0 r.1) stay groups.1 in
          behind_library c.args.shape (from_place c.args.head disk) (from_place c.args.body disk) library told.library told.snapshot c.in_ok-told.first has
          (c.in_ok-told.ensures.found h1) r.0 groups.0 r.1 all groups.2 inside;
      stored = rows.stored;
      inside = inside;
      calls = λ h library has.
          let h1 = c.read_groups.ensures.after.calls.honest h in
          let found = c.in_ok-told.ensures.found h1 in
          omega (
            arith,
            library_long c.args.shape (from_place c.args.head disk) (from_place c.args.body disk) library told.library told.snapshot
                c.in_ok-told.first has found,
            c.in_ok-told.ensures.calls h1,
            rows.calls h,
          );
    }) c.read_groups.ensures.found

pub returns-clause-after : goal.returns-clause-after
returns-clause-after g c =
    let told = c.in_ok-told.told in
    let size = c.body_bytes.result in
    let behind = 6 + (size - (told.library + told.snapshot)) in
    let all = reads_then g.D.Disk (3 + body_bytes c.args.shape) behind (3 + body_bytes c.args.shape + behind) c.in_ok-told.ensures.after
    c.read_groups.ensures.after (omega arith) in
    record {
      reads = all.reads;
      calls = all.calls;
      device = all.device;
      cause = all.cause;
      most = λ h.
          let h1 = c.read_groups.ensures.after.calls.honest h in
          omega (arith, c.in_ok-told.ensures.known.1, c.in_ok-told.ensures.calls h1, c.body_bytes.ensures, c.read_groups.ensures.after.most h);
    }
