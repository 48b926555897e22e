-- Definitions for contracts and proofs, beside promise/Limits.
use Rattle.std.specs.Prelude.{ℕ}

-- The largest number of scalars of a key.
abbrev pub max_key_scalars : ℕ
max_key_scalars = 65535

-- The largest number of indices of an index list outside of a record; one in a record has at most one for each
-- dimension.
abbrev pub max_index_list : ℕ
max_index_list = 65535

-- The largest number of requests of a group.
abbrev pub max_group : ℕ
max_group = 1024
