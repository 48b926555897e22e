-- The sizes of bodies, and that a head tells its format.
use Rattle.std.proofs.Common.{◌≡◌, ◌≤◌, refl, ap, arith}
use Rattle.oa_journal.specs.declared.shape.BankFormat.{BankFormat}
use Rattle.oa_journal.specs.declared.shape.BankFormat.TheVariants.{One, Two}
use Rattle.oa_journal.specs.promise.Bank.{IsShape, body_bytes, format_of, most_bank_bytes, told_size}

pub body_small : (shape : BankFormat) → IsShape shape → body_bytes shape ≤ most_bank_bytes
body_small One is = omega arith
body_small (Two size) is = is.1

pub told_small : (shape : BankFormat) → IsShape shape → told_size shape ≤ most_bank_bytes
told_small One is = omega arith
told_small (Two size) is = is.1

-- a head tells its format
pub one_shape : (a b : BankFormat) → format_of a ≡ format_of b → told_size a ≡ told_size b → a ≡ b
one_shape One One format size = refl
one_shape One (Two n) format size = absurd cc
one_shape (Two m) One format size = absurd cc
one_shape (Two m) (Two n) format size = ap Two size
