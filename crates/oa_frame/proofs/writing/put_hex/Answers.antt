use Rattle.std.proofs.Common.{rules, arith}
use Rattle.std.proofs.lemmas.Result.{err_from_is_err_and}
use Rattle.oa_frame.proofs.HexDigits.{hex_start, hex_more, hex_breaks}
use Rattle.oa_frame.proofs.writing.put_hex.Goals as goal

pub pieces-init : goal.pieces-init
pieces-init g c = record { within = omega arith; written = hex_start _ c.args.bytes.now c.requires.unbroken }

pub returns-in_err-put_piece : goal.returns-in_err-put_piece
returns-in_err-put_piece g c =
    let p = err_from_is_err_and c.from_residual.result c.from_residual.ensures.1 in
    rw p.1 (hex_breaks _ _ _ c.args.bytes.now c.pieces.at c.min.result c.pieces.invariant.written c.in_err-put_piece.ensures)

pub pieces-preserved : goal.pieces-preserved
pieces-preserved g c = record {
  within = search rules;
  written = hex_more _ _ _ c.args.bytes.now c.pieces.at c.min.result c.pieces.invariant.written c.in_ok-put_piece.ensures;
}
