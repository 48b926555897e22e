use Rattle.std.proofs.Common.{take, refl, inl}
use Rattle.oa_stream.specs.BufferedSource.{read_ahead}
use Rattle.oa_frame.proofs.Sessions.{writes_none}
use Rattle.oa_frame.proofs.Judged.{judged, judged_sound, judged_hands, line_ahead, paced_ahead}
use Rattle.oa_frame.proofs.hex_lines.read_hex.Goals as goal

pub returns-in-Some-clause-input : goal.returns-in-Some-clause-input
returns-in-Some-clause-input g c =
    judged c.judge-read.result _ _ _ _ _ _ c.judge-read.ensures.says
    (line_ahead (read_ahead c.args.reader.now) (take c.in-Some.place (read_ahead c.args.reader.now)) _ _ _ c.in-Some.place
    (rw c.buffered.ensures at c.in-Some.ensures) refl (rw c.buffered-in-Some.ensures at c.trimmed.ensures) c.advance.ensures.taken)

pub returns-in-Some-clause-paced : goal.returns-in-Some-clause-paced
returns-in-Some-clause-paced g c = paced_ahead _ _ _ _ (judged_sound c.judge-read.result _ _ _ c.judge-read.ensures.says) c.requires.unbroken.reader
    c.advance.ensures.taken

pub returns-in-Some-clause-output : goal.returns-in-Some-clause-output
returns-in-Some-clause-output g c =
    judged_hands c.judge-read.result _ _ _ _ _ _ _ c.judge-read.ensures.says
    (record { keeps = writes_none _ c.requires.unbroken.writer; first = inl c.advance.ensures.taken.clock })
