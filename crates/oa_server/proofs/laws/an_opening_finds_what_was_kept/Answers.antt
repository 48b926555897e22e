use Rattle.oa_server.proofs.FoundIsKept.{begun_for_many, found_again, opening_joins, session_begun}
use Rattle.oa_turn.proofs.Texts.{is_read}
use Rattle.oa_server.proofs.laws.an_opening_finds_what_was_kept.Goals as goal

pub returns-clause-begins : goal.returns-clause-begins
returns-clause-begins g c disk library store table opened honest barrier = session_begun {g = g.D.Disk} disk library store table opened honest barrier

pub returns-clause-begins_for_many : goal.returns-clause-begins_for_many
returns-clause-begins_for_many g c disk library store table opened honest barrier = begun_for_many {g = g.D.Disk} disk library store table opened honest barrier

pub returns-clause-kept : goal.returns-clause-kept
returns-clause-kept g c = found_again c.one_tree.ensures (is_read c.marked_is_read.ensures)

pub returns-clause-joins : goal.returns-clause-joins
returns-clause-joins g c = opening_joins {g = g.D.Disk} (λ d t f honest le is. g.met.D.Disk.counts_now d t f honest le is)
    (λ d f honest left. g.met.D.Disk.only_now d f honest left) (λ d honest. g.met.D.Disk.contents_is_image d honest)
