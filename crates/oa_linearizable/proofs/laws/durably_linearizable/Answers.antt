use Rattle.oa_linearizable.proofs.Durable.{all_eras}
use Rattle.oa_linearizable.proofs.laws.durably_linearizable.Goals as goal

pub returns : goal.returns
returns g c = all_eras c.what_was_served_is_served_again.ensures.turn c.an_opening_finds_what_was_kept.ensures.kept
    c.what_was_served_is_served_again.ensures.opened {g = g.D.Disk} c.each_era_is_linearizable.ensures
