-- Definitions for contracts and proofs, beside promise/Values.
use Rattle.std.specs.Prelude.{⊤}
use Rattle.oa_formats.specs.promise.Values.{text_header, text_of_size, text, vt, scalar_format}

-- ---- what a proof opens of texts, and of scalars

unfoldable pub texts : ⊤
unfolding text_header text_of_size text
texts = tt

unfoldable pub scalar_parts : ⊤
unfolding vt scalar_format
scalar_parts = tt
