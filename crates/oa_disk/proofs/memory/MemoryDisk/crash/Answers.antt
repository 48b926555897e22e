use Rattle.std.proofs.Common.{◌≤◌, ◌∷◌, ℕ, IfOk, length, sym, subst, arith, rules}
use Rattle.std.proofs.lemmas.Result.{IfOk-weaker}
use Rattle.oa_disk.specs.promise.CallLog.{laid}
use Rattle.oa_disk.specs.promise.Memory.{IsTornAt, memory_contents, memory_history}
use Rattle.oa_disk.specs.Replay.{AllInside, states}
use Rattle.oa_disk.specs.promise.Disk.{count_all, synced}
use Rattle.oa_disk.specs.Replaying.{contents_bytes}
use Rattle.oa_disk.proofs.Calls.{since_state}
use Rattle.oa_disk.proofs.Tearing.{torn_at}
use Rattle.oa_disk.proofs.memory.MemoryDisk.crash.Goals as goal

pub returns-clause-image : goal.returns-clause-image
returns-clause-image c =
    let self = c.args.self.now in
    let torn : IfOk c.over.result (λ disk. IsTornAt self c.args.tear c.args.moment (memory_contents disk)) = search rules in
    let inside = subst (λ (n : ℕ). AllInside n self.ledger.calls.items) (sym self.whole.size_of_first) self.whole.inside in
    let fits : count_all self.ledger.calls.items ≤ length self.ledger.written.items = omega (arith, self.whole.count_of_all) in
    IfOk-weaker c.over.result _ _ (λ disk is. torn_at c.args.tear (laid self.first) self.ledger.calls.items self.ledger.written.items c.args.moment
    (memory_contents disk) c.requires inside fits is (contents_bytes disk.first.size (memory_history disk) disk.whole)) torn

pub returns-clause-left : goal.returns-clause-left
returns-clause-left c =
    let self = c.args.self.now in
    let torn : IfOk c.over.result (λ disk. IsTornAt self c.args.tear c.args.moment (memory_contents disk)) = search rules in
    let inside = subst (λ (n : ℕ). AllInside n self.ledger.calls.items) (sym self.whole.size_of_first) self.whole.inside in
    let fits : count_all self.ledger.calls.items ≤ length self.ledger.written.items = omega (arith, self.whole.count_of_all) in
    IfOk-weaker c.over.result _ _ (λ disk is.
    let at = torn_at c.args.tear (laid self.first) self.ledger.calls.items self.ledger.written.items c.args.moment
    (memory_contents disk) c.requires inside fits is (contents_bytes disk.first.size (memory_history disk) disk.whole) in
    since_state (synced (laid self.first) ∷ states (synced (laid self.first)) self.ledger.calls.items self.ledger.written.items) c.args.moment at.0
    (memory_contents disk) at.1 at.2) torn
