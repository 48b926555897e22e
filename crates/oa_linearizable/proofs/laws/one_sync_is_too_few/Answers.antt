use Rattle.oa_linearizable.proofs.laws.one_sync_is_too_few.Goals as goal

pub returns : goal.returns
returns g c recover old new at n own other is reaches mine theirs before after =
    (other, reaches (g.D.Disk.contents old) other is theirs, before, after)
