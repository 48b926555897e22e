use Rattle.std.proofs.Common.{length, ap, arith}
use Rattle.oa_stream.specs.BufferedSource.{read_ahead}
use Rattle.oa_frame.proofs.Seeks.{piece_whole, piece_long, piece_part}
use Rattle.oa_frame.proofs.lines.take_piece.Goals as goal

pub returns-else-place-len-clause-piece : goal.returns-else-place-len-clause-piece
returns-else-place-len-clause-piece g c =
    piece_whole _ _ (read_ahead c.args.reader.now) _ _ _ c.in-Some.place (rw c.buffered-front.ensures at c.in-Some.ensures) c.advance-in-Some.ensures.taken
    (rw c.buffered-front.ensures at c.push.ensures.items)

pub returns-else-len-clause-piece : goal.returns-else-len-clause-piece
returns-else-len-clause-piece g c =
    piece_part _ _ (read_ahead c.args.reader.now) _ _ _ (length c.buffered-front.result.now) (ap length c.buffered-front.ensures)
    (rw c.buffered-front.ensures at c.in-None.ensures) c.advance-in-None.ensures.taken (rw c.buffered-front.ensures at c.push-in-None.ensures.items)
    c.advance-in-None.ensures.held

pub returns-then-place-len-clause-piece : goal.returns-then-place-len-clause-piece
returns-then-place-len-clause-piece g c =
    piece_long _ _ (read_ahead c.args.reader.now) _ _ _ c.in-Some.place (rw c.buffered-front.ensures at c.in-Some.ensures) c.advance.ensures.taken (omega arith)
