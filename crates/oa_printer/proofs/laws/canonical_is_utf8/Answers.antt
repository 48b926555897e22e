use Rattle.oa_printer.proofs.Ascii.{canonical_is_utf8}
use Rattle.oa_printer.proofs.laws.canonical_is_utf8.Goals as goal

pub returns : goal.returns
returns c = canonical_is_utf8
