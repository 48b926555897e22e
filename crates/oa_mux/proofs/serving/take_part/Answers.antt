use Rattle.oa_mux.proofs.Talks.{goes_taken, loses_before, loses_taken, lost_before, lost_then, over_memory, some_first}
use Rattle.oa_mux.proofs.serving.take_part.Goals as goal

pub returns-in_default-clause-progresses : goal.returns-in_default-clause-progresses
returns-in_default-clause-progresses g c = over_memory g.S.SharedResponder.barrier g.S.SharedResponder.turn _ _ _ _ _ _ c.requires.unbroken.writer
    c.requires.unbroken.reader c.in_default.ensures.err c.in_default.ensures.within

pub returns-in-Ok-answer-clause-progresses : goal.returns-in-Ok-answer-clause-progresses
returns-in-Ok-answer-clause-progresses g c =
    let a = c.in-Ok.ensures.asks in
    let asks = rw c.buffered.ensures at a in
    let some = c.in-Ok.ensures.taken in
    let n = rw c.buffered.ensures at some in
    let u = c.in-Ok.ensures.unknown in
    let unknown = rw c.buffered.ensures at u in
    goes_taken g.S.SharedResponder.barrier g.S.SharedResponder.turn _ _ _ _ _ _ _ _ _ _ _ _ c.requires.unbroken.reader
    (some_first g.S.SharedResponder.barrier g.S.SharedResponder.turn _ _ n) c.advance.ensures.taken asks
    (unknown.stops c.requires.open) c.in-Ok-answer.ensures.answers

pub returns-in-Err-Answered-clause-progresses : goal.returns-in-Err-Answered-clause-progresses
returns-in-Err-Answered-clause-progresses g c =
    let a = c.in-Ok.ensures.asks in
    let asks = rw c.buffered.ensures at a in
    let u = c.in-Ok.ensures.unknown in
    let unknown = rw c.buffered.ensures at u in
    loses_taken g.S.SharedResponder.barrier g.S.SharedResponder.turn _ _ _ _ _ _ _ _ _ _ c.requires.unbroken.reader c.advance-in-Err-Answered.ensures.taken asks
    (unknown.stops c.requires.open) (lost_then g.S.SharedResponder.barrier g.S.SharedResponder.turn _ _ _ _ _ _ c.in-Err-Answered.field-0-is
    c.in-Err-Answered.ensures.answers)

pub returns-in-Err-Undone-clause-progresses : goal.returns-in-Err-Undone-clause-progresses
returns-in-Err-Undone-clause-progresses g c = loses_before g.S.SharedResponder.barrier g.S.SharedResponder.turn _ _ _ _ _ _ c.requires.unbroken.reader
    (lost_before g.S.SharedResponder.barrier g.S.SharedResponder.turn _ _ _ _ _ _ c.in-Err-Undone.field-0-is c.in-Err-Undone.ensures.answers)
