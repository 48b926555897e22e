use Rattle.std.proofs.Common.{rules, ◌≤◌, ◌+◌, ◌-◌, length, arith, ◌∙◌}
use Rattle.std.proofs.lemmas.Slice.{drop-put_mid}
use Rattle.oa_formats.proofs.Adding.{behind}
use Rattle.oa_formats.proofs.window.lay.Goals as goal

pub returns-then-bytes-out-clause-room : goal.returns-then-bytes-out-clause-room
returns-then-bytes-out-clause-room c =
    let bytes = c.args.bytes.now in
    let out = c.args.out.now in
    let inside : c.args.at ≤ length out = omega (arith, c.if-at-out.false) in
    drop-put_mid c.args.at (c.args.at + length bytes - c.args.at) out c.copy_from_slice.new.self (c.args.at + length bytes) (omega arith) inside (search rules)
    ∙ behind c.args.at (length bytes) bytes out inside (omega (arith, c.if-bytes-out.true))

pub returns-clause-room : goal.returns-clause-room
returns-clause-room c =
    let bytes = c.args.bytes.now in
    let out = c.args.out.now in
    let n = length out - c.args.at in
    let inside : c.args.at ≤ length out = omega (arith, c.if-at-out.false) in
    drop-put_mid c.args.at (c.args.at + n - c.args.at) out c.copy_from_slice-2.new.self (c.args.at + n) (omega arith) inside (search rules)
    ∙ behind c.args.at n bytes out inside (omega (arith, c.if-bytes-out.false))
