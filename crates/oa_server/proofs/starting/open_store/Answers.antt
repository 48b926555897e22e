use Rattle.std.proofs.Common.{rules, arith, ◌+◌, ◌≤◌, List, length, ℕ, inl, inr, refl, subst, sym, true≢false}
use Rattle.std.proofs.lemmas.Result.{err_from_is_err_and}
use Rattle.oa_printer.specs.promise.Canonical.{canonical}
use Rattle.oa_journal.specs.promise.Bank.{body_bytes}
use Rattle.oa_journal.specs.declared.shape.BankFormat.{BankFormat}
use Rattle.oa_store.specs.promise.Stores.{IsStoreAt, IsStoreIn}
use Rattle.oa_turn.specs.promise.Beginnings.{CanServe}
use Rattle.oa_server.proofs.FoundIsKept.{same_library}
use Rattle.oa_server.proofs.Opened.{differs_told, differs_unfit, finds_one, gate_within, is_two, of_library, of_text, refuses_one, refuses_unfit, says_library}
use Rattle.oa_turn.proofs.Texts.{is_read}
use Rattle.oa_server.proofs.starting.open_store.Goals as goal

pub returns-then-can_serve-clause-opened : goal.returns-then-can_serve-clause-opened
returns-then-can_serve-clause-opened g c =
    let disk = c.args.disk in
    let contents = g.D.Disk.contents disk in
    let library = c.args.library.now in
    let store = c.in_ok-store.store in
    let table = c.in_ok-store.table in
    let shape = store.bank.shape in
    let two = is_two shape store.is_new in
    record {
      serves = search rules;
      numbered = search rules;
      unlocked = search rules;
      shape = two;
      text = search rules;
      goes_on = search rules;
      size = c.in_ok-store.ensures.after.size;
      unfailed = c.in_ok-store.ensures.after.unfailed;
      calls = λ h. subst (λ (text : List ℕ). g.D.Disk.moment store.disk + length text ≤ g.D.Disk.moment disk + (20 + store.bank.gate)) c.text_of.ensures.text
          (c.in_ok-store.ensures.found.calls h);
      found = λ h.
          let honest = c.in_ok-store.ensures.after.honest h in
          let there = of_text library c.text_of.result.now contents c.text_of.ensures.text shape table
          (store.chosen, store.bank.gate, c.in_ok-store.ensures.found.contents h) in
          record {
            honest = honest;
            reads = c.in_ok-store.ensures.reads h;
            each = λ image is. subst (λ (text : List ℕ). IsStoreAt shape store.chosen store.bank.gate text table image) (sym c.in_ok-store.ensures.starts.has)
                (c.in_ok-store.ensures.found.found h image is);
            contents = there;
            one = finds_one (g.D.Disk.image disk) contents (g.met.D.Disk.contents_is_image disk honest) (body_bytes shape) library table
                (subst (λ (s : BankFormat). IsStoreIn s contents (canonical library) table) two there);
            formatted = search rules;
          };
    }

pub returns-else-can_serve-clause-refused : goal.returns-else-can_serve-clause-refused
returns-else-can_serve-clause-refused g c =
    let disk = c.args.disk in
    let contents = g.D.Disk.contents disk in
    let library = c.args.library.now in
    let store = c.in_ok-store.store in
    let table = c.in_ok-store.table in
    let shape = store.bank.shape in
    let bank = body_bytes shape in
    rw c.into_disk.ensures (record {
      size = c.in_ok-store.ensures.after.size;
      cause = c.in_ok-store.ensures.after.unfailed;
      calls = λ h.
          let long = g.met.D.Disk.images_have_size disk contents (c.in_ok-store.ensures.after.honest h)
          (g.met.D.Disk.contents_is_image disk (c.in_ok-store.ensures.after.honest h)) in
          let within = gate_within shape store.chosen store.bank.gate c.text_of.result.now contents table store.is_new
          (c.in_ok-store.ensures.found.contents h) in
          let some = c.in_ok-store.ensures.found.calls h in
          omega (arith, long, within, some);
      told = λ h.
          let honest = c.in_ok-store.ensures.after.honest h in
          let there = subst (λ (s : BankFormat). IsStoreIn s contents (canonical library) table) (is_two shape store.is_new)
          (of_text library c.text_of.result.now contents c.text_of.ensures.text shape table
          (store.chosen, store.bank.gate, c.in_ok-store.ensures.found.contents h)) in
          let cannot = λ (serves : CanServe bank library table). true≢false
          (sym (c.if-can_serve.ensures.1 (subst (λ (n : ℕ). CanServe n library table) (sym c.bank_size.ensures) serves))) in
          record {
            honest = honest;
            reads = c.in_ok-store.ensures.reads h;
            says = inr (record { told = refl; bank = bank; table = table; holds = there; cannot = cannot });
            early = search rules;
            differs = λ state other r. absurd (differs_unfit contents library bank table there state other);
            late = λ r. refuses_unfit (same_library c.one_tree.ensures (is_read c.marked_is_read.ensures)) library c.is_checked.ensures
                (g.D.Disk.image disk) contents
                (g.met.D.Disk.contents_is_image disk honest) bank table there cannot _;
            tells = tt;
          };
    })

pub returns-in_err-store-clause-refused : goal.returns-in_err-store-clause-refused
returns-in_err-store-clause-refused g c =
    let p = err_from_is_err_and c.from_residual.result c.from_residual.ensures.1 in
    let disk = c.args.disk in
    let contents = g.D.Disk.contents disk in
    let library = c.args.library.now in
    let text = c.text_of.result.now in
    let refused = c.in_err-store.ensures.refused in
    rw (p.1, p.2) (record {
      size = c.in_err-store.ensures.after_err.size;
      cause = refused.refusal.cause;
      calls = refused.refusal.calls;
      told = λ h.
          let honest = c.in_err-store.ensures.after_err.honest h in
          let is = g.met.D.Disk.contents_is_image disk honest in
          let long = g.met.D.Disk.images_have_size disk contents honest is in
          let says = says_library library text contents c.text_of.ensures.text (g.D.Disk.size_of disk) _ (refused.refusal.says h) in
          record {
            honest = honest;
            reads = c.in_err-store.ensures.reads_err h;
            says = inl says;
            early = refused.refusal.early h;
            differs = λ state other r. differs_told contents (g.D.Disk.size_of disk) long library _ says state other r;
            late = λ r. refuses_one (same_library c.one_tree.ensures (is_read c.marked_is_read.ensures)) library c.is_checked.ensures contents
                (g.D.Disk.size_of disk) long _ r says
                (λ table store. refused.refused r h table (of_library library text contents c.text_of.ensures.text table store)) (g.D.Disk.image disk) is;
            tells = refused.refusal.tells h;
          };
    })
