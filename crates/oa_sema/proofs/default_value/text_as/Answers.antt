use Rattle.std.proofs.Common.{ap, arith, length, Err}
use Rattle.oa_sema.proofs.Units.{length-wide}
use Rattle.oa_sema.proofs.default_value.text_as.Goals as goal

pub returns-in-Err-TooLong : goal.returns-in-Err-TooLong
returns-in-Err-TooLong c =
    let long = c.in-Err-TooLong.ensures.too_long.0 (ap (λ e. Err e) c.in-Err-TooLong.field-0-is) in
    absurd (omega (
      arith,
      long,
      ap length c.as_slice.ensures.value,
      ap length c.in_ok-bytes.ensures,
      length-wide c.as_bytes-2.result.now,
      c.if-as_bytes-gt-MAX_CHARACTERS.false,
      ap length c.as_bytes.ensures,
      ap length c.as_bytes-2.ensures,
    ))
