use Rattle.std.proofs.Common.{◌≡◌, ◌*◌, ◌≤◌, ⊎_elim, inl, inr, ℕ, List, min, refl, subst, arith}
use Rattle.oa_disk.specs.promise.Disk.{Torn}
use Rattle.oa_disk.specs.promise.Memory.{IsTornAt, memory_contents, memory_history, moments_of, memory_image}
use Rattle.oa_disk.specs.Memory.{memory_image_since}
use Rattle.oa_disk.specs.Replaying.{only_now, since_falls}
use Rattle.oa_journal.specs.declared.shape.BankFormat.TheVariants.{Two}
use Rattle.oa_store.specs.Calls.{format_calls}
use Rattle.oa_store.specs.Changes.{IsFormatting}
use Rattle.oa_store.specs.promise.Stores.{IsStoreIn}
use Rattle.oa_table.specs.Tables.{first_table}
use Rattle.oa_history.proofs.formatting.formatted.Goals as goal

pub returns-clause-formatted : goal.returns-clause-formatted
returns-clause-formatted c =
    let old = c.args.disk in
    let disk = c.format.new.disk in
    let image = memory_contents c.in_ok-left.left in
    let from : moments_of old ≤ c.min.result = omega (arith, c.requires.fresh.start) in
    let since = since_falls (memory_history disk) (moments_of old) c.min.result image from c.in_ok-left.ensures.left in
    let either : IsFormatting c.args.bank (memory_image old) c.text.result.now image = (c.in_default.ensures.any_moment refl).each image since in
    record {
      either = rw (← c.text.ensures.text) (⊎_elim
          (λ was. inl (subst (λ (l : List ℕ). Torn 0 1 l image) (c.requires.fresh.barrier was.0 was.1) was.2))
          (λ none. inr none)
          either);
      torn = subst (λ (n : ℕ). IsTornAt disk c.args.tear (min c.args.moment n) image) c.moments.ensures
          (subst (λ (n : ℕ). IsTornAt disk c.args.tear n image) c.min.ensures c.in_ok-left.ensures.torn);
      calls = subst (λ (text : List ℕ). moments_of disk ≤ 2 * format_calls text) c.text.ensures.text
          (let made = c.in_default.ensures.after.calls refl in omega (arith, c.requires.fresh.start, made));
    }

pub returns-clause-kept : goal.returns-clause-kept
returns-clause-kept c behind =
    let old = c.format.new.disk in
    let disk = c.in_ok-left.left in
    let last : c.min.result ≡ moments_of old = omega (arith, c.min.ensures, c.moments.ensures, behind) in
    let left = subst (λ (n : ℕ). memory_image_since old n (memory_contents disk)) last c.in_ok-left.ensures.left in
    let is = c.in_default.ensures.done refl (memory_contents disk) (only_now (memory_history old) (memory_contents disk) left) in
    record {
      holds = subst (λ (l : List ℕ). IsStoreIn (Two c.args.bank) (memory_contents disk) l first_table) c.text.ensures.text (0, _, is);
      begins = c.what_was_served_is_served_again.ensures.first c.args.bank c.args.library.now c.is_checked.ensures (omega (arith, c.requires.least));
      unlocked = refl;
    }
