use Rattle.std.proofs.Common.{rules, arith, ap, refl, sym, ◌∙◌, true≢false, None}
use Rattle.oa_journal.specs.promise.Bank.{first_gate, body_bytes}
use Rattle.oa_model.specs.promise.Codes.{s_ok}
use Rattle.oa_record.specs.promise.Asks.{tag_at}
use Rattle.oa_table.specs.promise.Tables.{unlocked_table}
use Rattle.oa_decision.specs.promise.States.{state_of}
use Rattle.oa_decision.specs.promise.Decided.{refusal}
use Rattle.oa_printer.specs.promise.Canonical.{canonical}
use Rattle.oa_store.proofs.Counted.{within}
use Rattle.oa_server.proofs.Replacing.{as_many_calls, at_last, meanwhile, still}
use Rattle.oa_turn.proofs.Replacing.{replaces}
use Rattle.oa_server.proofs.replacement.replace_over.Goals as goal

pub returns-in-Answered-clause-replaced : goal.returns-in-Answered-clause-replaced
returns-in-Answered-clause-replaced g c = record {
  same = search rules;
  any_moment = still {g = g.D.Disk} (λ d f honest since. g.met.D.Disk.only_now d f honest since) c.args.store.now c.args.host.now c.args.host.now
      c.args.store.now.disk refl;
  each = λ going all. all;
  calls = λ honest. omega arith;
  once = λ honest. omega arith;
  goes = search rules;
}

pub returns-in-Ok-clause-replaced : goal.returns-in-Ok-clause-replaced
returns-in-Ok-clause-replaced g c =
    let before = c.args.host.now in
    let after = state_of before.bank c.in-Replaced.library before.table in
    let table = c.table.result.now in
    let text = c.text_of.result.now in
    let held = ap unlocked_table c.table.ensures.table in
    rw c.replace_library.ensures (record {
      same = refl;
      any_moment = meanwhile {g = g.D.Disk} c.args.store.now c.checkpoint_with.new.self before after text (first_gate text table)
          (unlocked_table table) c.text_of.ensures.text held held refl c.checkpoint_with.ensures.leaves.any_moment;
      each = λ going. at_last {g = g.D.Disk} c.args.store.now c.checkpoint_with.new.self before after text (first_gate text table)
          (unlocked_table table) c.text_of.ensures.text held held refl
          c.checkpoint_with.ensures.goes.shape c.in-Ok.ensures.switches.chosen c.in-Ok.ensures.switches.gate c.in-Ok.ensures.switches.library
          c.checkpoint_with.ensures.goes.honest c.in-Ok.ensures.leaves.done;
      calls = λ honest. as_many_calls text (canonical c.in-Replaced.library) table before.table (g.D.Disk.moment c.checkpoint_with.new.self.disk)
          (g.D.Disk.moment c.args.store.now.disk) c.text_of.ensures.text c.table.ensures.table (c.checkpoint_with.ensures.calls honest);
      once = λ honest. within (body_bytes c.args.store.now.bank.shape) text table (g.D.Disk.moment c.checkpoint_with.new.self.disk)
          (g.D.Disk.moment c.args.store.now.disk) c.text_of.ensures.short (search rules) (c.checkpoint_with.ensures.calls honest);
      goes = c.checkpoint_with.ensures.goes;
    })

pub returns-in-Err-Device : goal.returns-in-Err-Device
returns-in-Err-Device g c =
    let before = c.args.host.now in
    let after = state_of before.bank c.in-Replaced.library before.table in
    let table = c.table.result.now in
    let text = c.text_of.result.now in
    let held = ap unlocked_table c.table.ensures.table in
    let stopped = c.in-Err-Device.ensures.stops.stops in
    record {
      turn = tt;
      failed = (
        refusal (tag_at c.args.body.now) s_ok None,
        rw c.replace_library-in-Err-Device.ensures
            (replaces before c.args.body.now (refusal (tag_at c.args.body.now) s_ok None) c.in-Replaced.library after c.in-Replaced.ensures refl refl),
        refl,
      );
      replaced = record {
        same = rw c.replace_library-in-Err-Device.ensures refl;
        any_moment =
            rw c.replace_library-in-Err-Device.ensures
            (meanwhile {g = g.D.Disk} c.args.store.now c.checkpoint_with.new.self before after text (first_gate text table)
            (unlocked_table table) c.text_of.ensures.text held held refl c.checkpoint_with.ensures.leaves.any_moment);
        each = λ going. absurd (true≢false (sym stopped ∙ going));
        calls =
            rw c.replace_library-in-Err-Device.ensures
            (λ honest. as_many_calls text (canonical c.in-Replaced.library) table before.table (g.D.Disk.moment c.checkpoint_with.new.self.disk)
            (g.D.Disk.moment c.args.store.now.disk) c.text_of.ensures.text c.table.ensures.table (c.checkpoint_with.ensures.calls honest));
        once = λ honest. within (body_bytes c.args.store.now.bank.shape) text table (g.D.Disk.moment c.checkpoint_with.new.self.disk)
            (g.D.Disk.moment c.args.store.now.disk) c.text_of.ensures.short (search rules) (c.checkpoint_with.ensures.calls honest);
        goes = c.checkpoint_with.ensures.goes;
      };
      quiet = tt;
      going = tt;
      stops = stopped;
      banks = search rules;
    }
