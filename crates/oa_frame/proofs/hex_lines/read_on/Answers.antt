use Rattle.std.proofs.Common.{inr}
use Rattle.oa_frame.proofs.Judged.{judged, judged_sound, judged_hands}
use Rattle.oa_frame.proofs.hex_lines.read_on.Goals as goal

pub returns-in-Line-clause-input : goal.returns-in-Line-clause-input
returns-in-Line-clause-input g c = judged c.judge.result _ _ _ _ _ _ c.judge.ensures.says (rw c.deref.ensures.value c.in-Line.ensures.found)

pub returns-in-Line-clause-paced : goal.returns-in-Line-clause-paced
returns-in-Line-clause-paced g c = rw (judged_sound c.judge.result _ _ _ c.judge.ensures.says) c.in-Line.ensures.paced

pub returns-in-Line-clause-output : goal.returns-in-Line-clause-output
returns-in-Line-clause-output g c =
    judged_hands c.judge.result _ _ _ _ _ _ _ c.judge.ensures.says (record { keeps = c.in-Ok.ensures.0; first = inr c.in-Ok.ensures.1 })
