-- Definitions for contracts and proofs, beside promise/Lengths.
use Rattle.std.specs.Prelude.{ℕ, ◌+◌, ◌*◌}
use Rattle.oa_model.specs.promise.Limits.{max_cells, max_dimensions, max_text_bytes}

-- ---- at most

-- a content: a text after its length
abbrev pub max_content_bytes : ℕ
max_content_bytes = max_text_bytes + 4

-- a scalar: its type and its content
abbrev pub max_scalar_bytes : ℕ
max_scalar_bytes = max_text_bytes + 6

-- a value: an array of the most bounds and elements
abbrev pub max_value_image : ℕ
max_value_image = 4 + 8 * max_dimensions + max_scalar_bytes * max_cells
