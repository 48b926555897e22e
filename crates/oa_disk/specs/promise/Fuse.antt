-- The members of the trait for a FuseDisk.
use Rattle.std.specs.Prelude.{ℕ}
use Rattle.oa_disk.specs.declared.fuse.FuseDisk.{FuseDisk}

-- the inner disk, to which calls are passed on
abbrev pub inner_of : {D : Type 0} → FuseDisk D → D
inner_of f = f.disk

-- how many calls it still passes on
abbrev pub calls_left_of : {D : Type 0} → FuseDisk D → ℕ
calls_left_of f = f.calls_left
