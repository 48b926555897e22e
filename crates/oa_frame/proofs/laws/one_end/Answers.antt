use Rattle.oa_frame.specs.declared.framing.Framing.{Framing}
use Rattle.oa_frame.specs.declared.framing.Framing.TheVariants.{HexLines, Records}
use Rattle.oa_frame.specs.promise.Framings.{frames}
use Rattle.oa_frame.proofs.OneReading.{IsDecided, one_end}
use Rattle.oa_frame.proofs.OneLines.{lines_decided}
use Rattle.oa_frame.proofs.OneRecords.{records_decided}
use Rattle.oa_frame.proofs.laws.one_end.Goals as goal

decided : (framing : Framing) → IsDecided (frames framing)
decided HexLines = lines_decided
decided Records = records_decided

pub returns : goal.returns
returns c = λ framing. one_end (frames framing) (decided framing)
