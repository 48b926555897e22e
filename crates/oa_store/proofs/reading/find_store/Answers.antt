use Rattle.std.proofs.Common.{rules, ◌≡◌, ◌∙◌, ◌+◌, ◌-◌, ℕ, List, length, Some, Err, false, refl, subst, sym, ap, IsTrue, arith}
use Rattle.std.proofs.lemmas.Result.{err_from_is_err_and}
use Rattle.oa_journal.specs.declared.bank.Bank.{Bank}
use Rattle.oa_journal.specs.declared.bank.BankFault.{BankFault}
use Rattle.oa_journal.specs.declared.shape.BankFormat.{BankFormat}
use Rattle.oa_journal.specs.declared.shape.BankFormat.TheVariants.{Two}
use Rattle.oa_journal.specs.Append.{IsAt}
use Rattle.oa_journal.specs.promise.Bank.{from_place, IsBank, HasHead, HasLibrary, body_bytes}
use Rattle.oa_journal.specs.Damages.{HasNoHeader, IsDamagedBank}
use Rattle.oa_store.specs.Faults.{of_bank}
use Rattle.oa_store.specs.promise.Faults.{HasWanted, IsCausedOpenFault}
use Rattle.oa_store.specs.promise.Stores.{body_place, head_place, IsStoreAt}
use Rattle.oa_store.proofs.Opened.{bank_caused, carried, other_long, says_first, says_late, spoilt, tells_late, until_body, until_late, wanted_in, within_disk}
use Rattle.oa_store.proofs.reading.find_store.Goals as goal

pub returns-in_err-found-clause-refused : goal.returns-in_err-found-clause-refused
returns-in_err-found-clause-refused g c =
    let p = err_from_is_err_and c.from_residual.result c.from_residual.ensures.1 in
    rw (p.1, p.2) (record {
      says = λ h. says_first (Some c.args.library.now) (g.D.Disk.size_of c.args.disk.now) (g.D.Disk.contents c.args.disk.now) c.in_err-found.field-0.0
          (c.in_err-found.ensures.refused.says h);
      early = search rules;
      cause = search rules;
      tells = search rules;
      calls = λ h. until_body (24 + g.D.Disk.size_of c.args.disk.now) _ _ c.in_err-found.field-0.0 (omega arith) (c.in_err-found.ensures.until h);
    })

-- a library of another length is told before it is read
pub returns-then-found-library-clause-refused : goal.returns-then-found-library-clause-refused
returns-then-found-library-clause-refused g c = record {
  says = λ h.
      let contents = g.D.Disk.contents c.args.disk.now in
      let found = c.in_ok-found.ensures.found.found h in
      let chosen = c.in_ok-found.found.chosen in
      let head = c.in_ok-found.found.head in
      let two : (size : ℕ) × (head.shape ≡ Two size) = search rules in
      other_long contents c.args.library.now chosen head.library head.snapshot two.0 c.in_ok-found.ensures.found.two found.0
      (subst (λ (s : BankFormat). HasHead s (head_place chosen) contents head.library head.snapshot) two.1 found.1)
      (λ same. omega (arith, same, c.if-found-library.true));
  early = search rules;
  cause = search rules;
  tells = search rules;
  calls = search rules;
}

pub returns-in_err-text-clause-refused : goal.returns-in_err-text-clause-refused
returns-in_err-text-clause-refused g c =
    let p = err_from_is_err_and c.from_residual-in_err-text.result c.from_residual-in_err-text.ensures.1 in
    let fault = c.in_err-text.field-0.0 in
    rw (p.1, p.2) (record {
      early = search rules;
      calls = λ h. until_late (24 + g.D.Disk.size_of c.args.disk.now) _ _ fault
          (omega (arith, c.find_room.ensures.calls (c.read_library.ensures.after.honest h), c.read_library.ensures.calls h));
      cause = subst (λ (n : ℕ). IsCausedOpenFault n (g.D.Disk.failures_of c.read_library.new.disk) (of_bank fault)) c.in_ok-found.ensures.after.unfailed
          (bank_caused _ _ fault c.in_err-text.ensures.refused.cause);
      tells = λ h.
          let h1 = c.read_library.ensures.after.honest h in
          tells_late (g.D.Disk.contents c.args.disk.now) (g.D.Disk.image c.args.disk.now) (g.D.Disk.image c.read_library.new.disk) fault
          (λ why is. (c.in_err-text.ensures.refused.device why (ap (λ (x : BankFault). Err x) is)).1)
          (λ image is. c.in_ok-found.ensures.found.synced h1 image ((c.read_library.ensures.reads h).writes_nothing.images image is));
      says = λ h.
          let h1 = c.read_library.ensures.after.honest h in
          let contents = g.D.Disk.contents c.args.disk.now in
          let found = c.in_ok-found.ensures.found.found h1 in
          let chosen = c.in_ok-found.found.chosen in
          let shape = c.in_ok-found.found.head.shape in
          says_late (Some c.args.library.now) _ contents fault (λ at is.
          let none = carried (λ s x y. HasNoHeader s x) c.bank_of-bank.result shape (head_place chosen) (body_place shape chosen) (body_bytes shape - 1) false
          (g.D.Disk.contents c.find_room.new.disk) contents c.bank_of-bank.ensures (c.in_ok-found.ensures.found.contents h1)
          ((c.in_err-text.ensures.refused.damaged at (ap (λ (x : BankFault). Err x) is)).1 h) in
          absurd (none c.in_ok-found.found.head.library c.in_ok-found.found.head.snapshot found.1.has));
    })

pub returns-in_err-table-clause-refused : goal.returns-in_err-table-clause-refused
returns-in_err-table-clause-refused g c =
    let p = err_from_is_err_and c.from_residual-in_err-table.result c.from_residual-in_err-table.ensures.1 in
    let fault = c.in_err-table.field-0.0 in
    rw (p.1, p.2) (record {
      early = search rules;
      calls = λ h.
          let h2 = c.read_table.ensures.after.honest h in
          let sizes : g.D.Disk.size_of c.read_library.new.disk ≡ g.D.Disk.size_of c.args.disk.now = c.read_library.ensures.after.size
          ∙ c.find_room.ensures.after.size in
          let shape = ap body_bytes (ap (λ (b : Bank). b.shape) c.in_ok-text.ensures.bank ∙ c.bank_of-bank.ensures.shape_is) in
          let long = within_disk c.in_ok-found.found.head.shape in
          until_late (24 + g.D.Disk.size_of c.args.disk.now) _ _ fault
          (omega (
            arith,
            sizes,
            shape,
            long,
            c.in_ok-found.ensures.found.room,
            c.find_room.ensures.calls (c.read_library.ensures.after.honest h2),
            c.read_library.ensures.calls h2,
            c.read_table.ensures.most h,
          ));
      cause = subst (λ (n : ℕ). IsCausedOpenFault n (g.D.Disk.failures_of c.read_table.new.disk) (of_bank fault))
          (c.in_ok-text.ensures.after.unfailed ∙ c.in_ok-found.ensures.after.unfailed) (bank_caused _ _ fault c.in_err-table.ensures.refused.cause);
      tells = λ h.
          let h2 = c.read_table.ensures.after.honest h in
          let h1 = c.read_library.ensures.after.honest h2 in
          tells_late (g.D.Disk.contents c.args.disk.now) (g.D.Disk.image c.args.disk.now) (g.D.Disk.image c.read_table.new.disk) fault
          (λ why is. (c.in_err-table.ensures.refused.device why (ap (λ (x : BankFault). Err x) is)).1)
          (λ image is. c.in_ok-found.ensures.found.synced h1 image
          ((c.read_library.ensures.reads h2).writes_nothing.images image ((c.read_table.ensures.reads h).writes_nothing.images image is)));
      says = λ h.
          let h2 = c.read_table.ensures.after.honest h in
          let h1 = c.read_library.ensures.after.honest h2 in
          let contents = g.D.Disk.contents c.args.disk.now in
          let found = c.in_ok-found.ensures.found.found h1 in
          let chosen = c.in_ok-found.found.chosen in
          let shape = c.in_ok-found.found.head.shape in
          let head = head_place chosen in
          let body = body_place shape chosen in
          let first = c.in_ok-found.ensures.found.contents h1 in
          let stay = (c.read_library.ensures.reads h2).contents_stay ∙ first in
          let at0 = c.bank_of-bank.ensures in
          let at1 = subst (λ (b : Bank). IsAt shape head body (body_bytes shape - 1) false b) (sym c.in_ok-text.ensures.bank) at0 in
          let text = sym c.deref.ensures.value ∙ c.if-not-same.ensures.0 refl in
          let has = carried (λ s x y. HasLibrary s x y c.in_ok-text.text.items) c.bank_of-bank.result shape head body (body_bytes shape - 1) false
          (g.D.Disk.contents c.find_room.new.disk) contents at0 first (c.in_ok-text.ensures.found h2) in
          let two : (size : ℕ) × (shape ≡ Two size) = search rules in
          let wanted = wanted_in shape two.0 two.1 (from_place head contents) (from_place body contents) c.args.library.now
          (subst (λ (l : List ℕ). HasLibrary shape (from_place head contents) (from_place body contents) l) text has) in
          says_late (Some c.args.library.now) _ contents fault (λ at e.
          let is = (c.in_err-table.ensures.refused.damaged at (ap (λ (x : BankFault). Err x) e)).1 h in
          let sized =
          subst (λ (s : BankFormat). IsDamagedBank s c.read_library.new.self.head c.read_library.new.self.body (g.D.Disk.contents c.read_library.new.disk) at)
          at1.shape_is is in
          let headed = subst (λ (k : ℕ). IsDamagedBank shape k c.read_library.new.self.body (g.D.Disk.contents c.read_library.new.disk) at) at1.head_is sized in
          let placed = subst (λ (k : ℕ). IsDamagedBank shape head k (g.D.Disk.contents c.read_library.new.disk) at) at1.body_is headed in
          spoilt (HasWanted (Some c.args.library.now)) contents chosen shape c.in_ok-found.found.head.library c.in_ok-found.found.head.snapshot at found.0
          found.1 wanted
          (subst (λ (d : List ℕ). IsDamagedBank shape head body d at) stay placed));
    })

pub returns-clause-found : goal.returns-clause-found
returns-clause-found g c =
    let contents = g.D.Disk.contents c.args.disk.now in
    let mid = g.D.Disk.contents c.read_library.new.disk in
    let chosen = c.in_ok-found.found.chosen in
    let shape = c.in_ok-found.found.head.shape in
    let head = head_place chosen in
    let body = body_place shape chosen in
    let bank = c.bank_of-bank.result in
    let items = c.in_ok-text.text.items in
    let text = sym c.deref.ensures.value ∙ c.if-not-same.ensures.0 refl in
    let at1 = subst (λ (b : Bank). IsAt shape head body (body_bytes shape - 1) false b) (sym c.in_ok-text.ensures.bank) c.bank_of-bank.ensures in
    let has = λ (h : IsTrue (g.D.Disk.is_honest c.read_table.new.disk)).
    let h2 = c.read_table.ensures.after.honest h in
    let there = subst (λ (d : List ℕ). HasLibrary bank.shape (from_place bank.head d) (from_place bank.body d) items)
    (sym (c.read_library.ensures.reads h2).contents_stay) (c.in_ok-text.ensures.found h2) in
    subst (λ (b : Bank). HasLibrary b.shape (from_place b.head mid) (from_place b.body mid) items) (sym c.in_ok-text.ensures.bank) there in
    record {
      store = λ h.
          let h2 = c.read_table.ensures.after.honest h in
          let h1 = c.read_library.ensures.after.honest h2 in
          let found = c.in_ok-found.ensures.found.found h1 in
          let stay = (c.read_library.ensures.reads h2).contents_stay ∙ c.in_ok-found.ensures.found.contents h1 in
          let its = carried (λ s x y. IsBank s x y items c.in_ok-table.table c.read_table.new.self.gate) c.read_library.new.self shape head body
          (body_bytes shape - 1) false mid contents at1 stay (c.in_ok-table.ensures.found.found h items (has h)) in
          let store : IsStoreAt shape chosen c.read_table.new.self.gate items c.in_ok-table.table
          contents = record { head = found.0; room = found.1.room; bank = its } in
          let same = subst (λ (l : List ℕ). IsStoreAt shape chosen c.read_table.new.self.gate l c.in_ok-table.table contents) text store in
          subst (λ (s : BankFormat). IsStoreAt s chosen c.read_table.new.self.gate c.args.library.now c.in_ok-table.table contents)
          (sym (c.in_ok-table.ensures.found.bank.shape_is ∙ at1.shape_is)) same;
      buffer = search rules;
      numbered = search rules;
      unlocked = search rules;
      bank = search rules;
      shape = search rules;
      two = search rules;
      room = search rules;
      synced = search rules;
      contents = search rules;
      calls = λ h.
          let h2 = c.read_table.ensures.after.honest h in
          omega (
            arith,
            ap length text,
            c.in_ok-found.ensures.calls (c.read_library.ensures.after.honest h2),
            c.in_ok-text.ensures.calls h2,
            c.in_ok-table.ensures.found.calls h items (has h),
          );
    }
