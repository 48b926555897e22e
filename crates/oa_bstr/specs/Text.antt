-- Definitions for contracts and proofs, beside promise/Text.
use Rattle.std.specs.Prelude.{ℕ, ◌+◌, ◌*◌, List, get_or}
use Rattle.std.specs.Cmp.{IsTotalOrder}
use Rattle.std.specs.Cmp.Lexicographic.{options_total}
use Rattle.std.proofs.lemmas.Cmp.{nat_list_cmp_total}
use Rattle.oa_bstr.specs.promise.Text.{text_cmp}

-- The 16-bit unit at the index i, low byte first; a missing byte counts as zero.
abbrev pub unit_of : List ℕ → ℕ → ℕ
unit_of bytes i = get_or bytes (2 * i) 0 + 256 * get_or bytes (2 * i + 1) 0

pub texts_total : IsTotalOrder text_cmp
texts_total = options_total nat_list_cmp_total
