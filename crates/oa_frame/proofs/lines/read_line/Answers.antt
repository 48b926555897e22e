use Rattle.std.proofs.Common.{rules, ◌∙◌, inl, ◌+◌}
use Rattle.std.proofs.KnownBytes.{Consumes-kept}
use Rattle.oa_frame.proofs.Splits.{taken_whole, taken_long, taken_part, free_part, known_end, known_part}
use Rattle.oa_frame.proofs.Seeks.{paced, later_more, pace_more, keeps_no_loss}
use Rattle.oa_frame.proofs.lines.read_line.Goals.{in-Some+in-Part-take_piece, in-Again}
use Rattle.oa_frame.proofs.lines.read_line.Goals as goal

pub returns-in-TooLong-clause-found : goal.returns-in-TooLong-clause-found
returns-in-TooLong-clause-found g c = taken_long _ _ _ _ c.clear.new.self.items _ _ (rw c.clear.ensures.items (search rules))
    (rw c.clear.ensures.items (search rules)) c.in-TooLong.ensures.piece

pub returns-in-Whole-take_piece-clause-found : goal.returns-in-Whole-take_piece-clause-found
returns-in-Whole-take_piece-clause-found g c =
    let taken = Consumes-kept _ _ _ c.calls.line.items c.calls.invariant.taken c.more.ensures.kept in
    rw c.whole-in-Whole-take_piece.ensures.found
    (taken_whole _ _ _ _ c.calls.line.items _ _ _ c.calls.invariant.free taken c.in-Whole-take_piece.ensures.piece c.whole-in-Whole-take_piece.ensures.line)

pub returns-in-Whole-take_piece-clause-paced : goal.returns-in-Whole-take_piece-clause-paced
returns-in-Whole-take_piece-clause-paced g c =
    let p = c.in-Whole-take_piece.ensures.piece in
    rw c.whole-in-Whole-take_piece.ensures.found
    (paced _ _ (c.calls.counter + 1) (search rules) (p.clock ∙ later_more c.calls.counter _ _ _ c.calls.invariant.clock c.more.ensures.clock)
    (p.fault ∙ (rw c.in-Some.is at c.more.ensures.fault)) (λ s. p.steady ∙ c.more.ensures.steady (c.calls.invariant.steady s)))

pub returns-in-TooLong-take_piece-clause-found : goal.returns-in-TooLong-take_piece-clause-found
returns-in-TooLong-take_piece-clause-found g c =
    let taken = Consumes-kept _ _ _ c.calls.line.items c.calls.invariant.taken c.more.ensures.kept in
    taken_long _ _ _ _ c.calls.line.items _ _ c.calls.invariant.free taken c.in-TooLong-take_piece.ensures.piece

pub returns-in-TooLong-take_piece-clause-paced : goal.returns-in-TooLong-take_piece-clause-paced
returns-in-TooLong-take_piece-clause-paced g c =
    let p = c.in-TooLong-take_piece.ensures.piece in
    paced _ _ (c.calls.counter + 1) (search rules) (p.clock ∙ later_more c.calls.counter _ _ _ c.calls.invariant.clock c.more.ensures.clock)
    (p.fault ∙ (rw c.in-Some.is at c.more.ensures.fault)) (λ s. p.steady ∙ c.more.ensures.steady (c.calls.invariant.steady s))

pub returns-in-End-clause-found : goal.returns-in-End-clause-found
returns-in-End-clause-found g c =
    let taken = Consumes-kept _ _ _ c.calls.line.items c.calls.invariant.taken c.more.ensures.kept in
    known_end c.ended.result _ _ c.calls.line.items (rw c.deref.ensures.value at c.ended.ensures) c.calls.invariant.free taken
    (rw c.in-End.is at c.more.ensures.brings).1

pub returns-in-End-clause-paced : goal.returns-in-End-clause-paced
returns-in-End-clause-paced g c =
    rw (keeps_no_loss c.ended.result _ c.ended.ensures)
    (paced _ _ (c.calls.counter + 1) (search rules) (later_more c.calls.counter _ _ _ c.calls.invariant.clock c.more.ensures.clock)
    (rw c.in-End.is at c.more.ensures.fault) (λ s. c.more.ensures.steady (c.calls.invariant.steady s)))

pub returns-in-Fault-clause-found : goal.returns-in-Fault-clause-found
returns-in-Fault-clause-found g c = known_part _ _ c.calls.line.items c.calls.line.items c.calls.invariant.free
    (Consumes-kept _ _ _ c.calls.line.items c.calls.invariant.taken c.more.ensures.kept)

pub returns-in-Fault-clause-paced : goal.returns-in-Fault-clause-paced
returns-in-Fault-clause-paced g c = record {
  tries = c.calls.counter + 1;
  most = search rules;
  clock = later_more c.calls.counter _ _ _ c.calls.invariant.clock c.more.ensures.clock;
  cause = inl (rw c.in-Fault.is at c.more.ensures.fault);
  on = λ s. absurd (rw c.in-Fault.is at (c.more.ensures.on (c.calls.invariant.steady s)));
}

pub calls-preserved : goal.calls-preserved
calls-preserved g c =
    let clock = later_more c.calls.counter _ _ _ c.calls.invariant.clock c.more.ensures.clock in
    let taken = Consumes-kept _ _ _ c.calls.line.items c.calls.invariant.taken c.more.ensures.kept in
    elim c.match-more.branch [
      | in-Some+in-Part-take_piece w ↦ let p = w.in-Part-take_piece.ensures.piece in record {
        room = rw w.line-is (search rules);
        grown = rw w.line-is (search rules);
        short = rw w.line-is w.in-Part-take_piece.ensures.short;
        free = rw w.line-is (free_part _ _ _ _ _ _ c.calls.invariant.free p);
        taken = rw (w.line-is, w.reader-is) (taken_part _ _ _ _ _ _ _ taken p);
        none = rw w.reader-is p.has.3;
        unbroken = rw w.reader-is (p.fault ∙ (rw w.in-Some.is at c.more.ensures.fault));
        clock = rw w.reader-is (p.clock ∙ clock);
        steady = λ s. rw w.reader-is (p.steady ∙ c.more.ensures.steady (c.calls.invariant.steady s));
        pace = λ s. rw w.line-is (pace_more _ _ _ _ _ _ c.calls.counter (rw w.in-Some.is at c.more.ensures.brings) (c.calls.invariant.pace s) p);
      }
      | in-Again w ↦ record {
        room = rw w.line-is c.calls.invariant.room;
        grown = rw w.line-is c.calls.invariant.grown;
        short = rw w.line-is c.calls.invariant.short;
        free = rw w.line-is c.calls.invariant.free;
        taken = rw (w.line-is, w.reader-is) taken;
        none = rw w.reader-is (rw w.in-Again.is at c.more.ensures.brings);
        unbroken = rw w.reader-is (rw w.in-Again.is at c.more.ensures.fault);
        clock = rw w.reader-is clock;
        steady = λ s. rw w.reader-is (c.more.ensures.steady (c.calls.invariant.steady s));
        pace = λ s. absurd (rw w.in-Again.is at (c.more.ensures.on (c.calls.invariant.steady s)));
      }
    ]

pub returns-clause-found : goal.returns-clause-found
returns-clause-found g c = known_part _ _ c.calls.line.items c.calls.line.items c.calls.invariant.free c.calls.invariant.taken
