use Rattle.std.proofs.Common.{ℕ, List, refl, subst, arith}
use Rattle.oa_disk.specs.promise.Memory.{memory_contents, memory_history}
use Rattle.oa_disk.specs.Memory.{memory_image_since}
use Rattle.oa_disk.specs.Replaying.{only_now}
use Rattle.oa_journal.specs.declared.shape.BankFormat.TheVariants.{Two}
use Rattle.oa_store.specs.promise.Stores.{IsStoreIn}
use Rattle.oa_table.specs.Tables.{first_table}
use Rattle.oa_history.proofs.reopening.begun.Goals as goal

pub returns-clause-kept : goal.returns-clause-kept
returns-clause-kept c =
    let old = c.format.new.disk in
    let disk = c.in_ok-crash.field-0 in
    let left = subst (λ (n : ℕ). memory_image_since old n (memory_contents disk)) c.moments.ensures c.in_ok-crash.ensures.left in
    let is = c.in_default.ensures.done refl (memory_contents disk) (only_now (memory_history old) (memory_contents disk) left) in
    record {
      holds = subst (λ (l : List ℕ). IsStoreIn (Two c.args.bank) (memory_contents disk) l first_table) c.text.ensures.text (0, _, is);
      begins = c.what_was_served_is_served_again.ensures.first c.args.bank c.args.library.now c.is_checked.ensures (omega (arith, c.requires.least));
      unlocked = refl;
    }
