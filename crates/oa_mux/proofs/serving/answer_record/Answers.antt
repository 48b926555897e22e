use Rattle.oa_mux.proofs.RecordFrames.{record_stops, some_front}
use Rattle.oa_mux.proofs.Talks.{goes_taken, loses_before, loses_taken, lost_before, lost_then}
use Rattle.oa_mux.proofs.serving.answer_record.Goals as goal

pub returns-in-Ok-clause-progresses : goal.returns-in-Ok-clause-progresses
returns-in-Ok-clause-progresses g c =
    let a = c.in-Ok.ensures.answers in
    let told = rw c.buffered.ensures at a in
    goes_taken g.S.SharedResponder.barrier g.S.SharedResponder.turn _ _ _ _ _ _ _ _ _ _ _ _ c.requires.unbroken.reader
    (some_front _ _ _ _ c.requires.brings) c.advance.ensures.taken c.requires.brings.apart (record_stops _ _ _ _ c.requires.brings) told

pub returns-in-Err-Answered-clause-progresses : goal.returns-in-Err-Answered-clause-progresses
returns-in-Err-Answered-clause-progresses g c =
    let a = c.in-Err-Answered.ensures.answers in
    let lost = rw c.buffered.ensures at a in
    loses_taken g.S.SharedResponder.barrier g.S.SharedResponder.turn _ _ _ _ _ _ _ _ _ _ c.requires.unbroken.reader c.advance-in-Err-Answered.ensures.taken
    c.requires.brings.apart (record_stops _ _ _ _ c.requires.brings)
    (lost_then g.S.SharedResponder.barrier g.S.SharedResponder.turn _ _ _ _ _ _ c.in-Err-Answered.field-0-is lost)

pub returns-in-Err-Undone-clause-progresses : goal.returns-in-Err-Undone-clause-progresses
returns-in-Err-Undone-clause-progresses g c = loses_before g.S.SharedResponder.barrier g.S.SharedResponder.turn _ _ _ _ _ _ c.requires.unbroken.reader
    (lost_before g.S.SharedResponder.barrier g.S.SharedResponder.turn _ _ _ _ _ _ c.in-Err-Undone.field-0-is c.in-Err-Undone.ensures.answers)
