use Rattle.std.proofs.Common.{List, ℕ, refl, sym, subst}
use Rattle.oa_disk.specs.promise.Memory.{memory_contents, memory_history}
use Rattle.oa_disk.specs.Replaying.{contents_size}
use Rattle.oa_group_commit.specs.promise.Groups.{HoldsState}
use Rattle.oa_printer.specs.promise.Canonical.{canonical}
use Rattle.oa_journal.specs.declared.shape.BankFormat.TheVariants.{Two}
use Rattle.oa_turn.specs.promise.Events.{held_of}
use Rattle.oa_server.specs.promise.ServerMachine.{server_machine}
use Rattle.oa_store.specs.promise.Stores.{IsStore}
use Rattle.oa_history.proofs.Reading.{shown_to_all}
use Rattle.oa_history.proofs.reopening.shown.Goals as goal

pub returns-in-Ok-clause-shown : goal.returns-in-Ok-clause-shown
returns-in-Ok-clause-shown c = subst (λ (l : List ℕ). IsStore l c.in-Ok.shown.0.items c.in-Ok.shown.1) c.in_ok-copy.ensures.contents
    (c.in-Ok.ensures.found.contents refl)

pub returns-clause-wanting : goal.returns-clause-wanting
returns-clause-wanting c state holds r =
    let copy = c.in_ok-copy.copy in
    let here = subst (λ (l : List ℕ). HoldsState server_machine state l) (sym c.in_ok-copy.ensures.contents) holds in
    shown_to_all copy.first.size (memory_contents copy) (Two state.bank) (canonical state.library) (held_of state)
    (contents_size copy.first.size (memory_history copy) copy.whole) here c.in-Err.fault r (c.in-Err.ensures.refused.says refl)
