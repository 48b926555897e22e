use Rattle.std.proofs.Common.{refl, inl}
use Rattle.oa_stream.specs.BufferedSource.{passed, read_ahead}
use Rattle.oa_frame.proofs.Judged.{paced_ahead}
use Rattle.oa_frame.proofs.Sessions.{writes_none}
use Rattle.oa_frame.proofs.Raws.{record_ahead, record_fits}
use Rattle.oa_frame.proofs.records.read_record.Goals as goal

pub returns-in-Some-clause-paced : goal.returns-in-Some-clause-paced
returns-in-Some-clause-paced g c = paced_ahead _ _ _ _ refl c.requires.unbroken.reader c.advance.ensures.taken

pub returns-in-Some-clause-within : goal.returns-in-Some-clause-within
returns-in-Some-clause-within g c = record_fits (read_ahead c.args.reader.now) (passed c.args.reader.now) (passed c.advance.new.self) c.in-Some.n
    (rw c.buffered.ensures at c.in-Some.ensures.within.2) c.advance.ensures.passed

pub returns-in-Some-clause-input : goal.returns-in-Some-clause-input
returns-in-Some-clause-input g c = λ number.
    record_ahead _ _ (read_ahead c.args.reader.now) (passed c.args.reader.now) (passed c.advance.new.self) c.in-Some.n
    (rw c.buffered.ensures at c.in-Some.ensures.says) c.in-Some.ensures.within.0 c.in-Some.ensures.within.1
    (rw c.buffered.ensures at c.in-Some.ensures.within.2) c.advance.ensures.passed c.advance.ensures.taken.taken

pub returns-in-Some-clause-output : goal.returns-in-Some-clause-output
returns-in-Some-clause-output g c = record { keeps = writes_none _ c.requires.unbroken.writer; first = inl c.advance.ensures.taken.clock }
