use Rattle.std.proofs.Common.{sym, subst, rules}
use Rattle.oa_disk.specs.declared.record.Record.{Record}
use Rattle.oa_disk.specs.Record.{recorded_history}
use Rattle.oa_disk.specs.History.{IsHistory}
use Rattle.oa_disk.proofs.Noted.{beginning_whole, beginning_settled}
use Rattle.oa_disk.proofs.file.FileDisk.begin.Goals as goal

pub invariant_of-result-clause-whole : goal.invariant_of-result-clause-whole
invariant_of-result-clause-whole g c = subst (λ (r : Record). IsHistory c.args.size (recorded_history r)) (sym c.beginning-history.ensures)
    (beginning_whole g.held c.args.size)

pub returns-clause-begins : goal.returns-clause-begins
returns-clause-begins g c = record {
  honest = search rules;
  failures = search rules;
  settled = beginning_settled g.held c.args.size _ c.beginning-history.ensures;
}
