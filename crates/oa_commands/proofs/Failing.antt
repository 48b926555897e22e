-- Each status tells of a failure.
use Rattle.std.proofs.Common.{◌≤◌, arith}
use Rattle.oa_idl.specs.declared.stop.ParseError.{ParseError}
use Rattle.oa_idl.specs.declared.stop.ParseError.TheVariants as parsing
use Rattle.oa_sema.specs.declared.fault.CheckError.{CheckError}
use Rattle.oa_sema.specs.declared.fault.CheckError.TheVariants as checking
use Rattle.oa_commands.specs.declared.fault.Fault.{Fault}
use Rattle.oa_commands.specs.declared.fault.Fault.TheVariants as faults
use Rattle.oa_commands.specs.Statuses.{status_of, status_of_text, status_of_tree}

text_fails : (error : ParseError) → 1 ≤ status_of_text error
text_fails (parsing.Syntax at) = omega arith
text_fails (parsing.Limit limit) = omega arith
text_fails parsing.Memory = omega arith

tree_fails : (error : CheckError) → 1 ≤ status_of_tree error
tree_fails (checking.DuplicateName name) = omega arith
tree_fails (checking.DuplicateId name) = omega arith
tree_fails (checking.DuplicateGuid guid) = omega arith
tree_fails (checking.UnknownInterface name) = omega arith
tree_fails (checking.GetPutDisagree name) = omega arith
tree_fails (checking.ArrayParameter name) = omega arith
tree_fails (checking.BadDefault name) = omega arith
tree_fails checking.TextTooLong = omega arith
tree_fails checking.Memory = omega arith

pub fails : (fault : Fault) → 1 ≤ status_of fault
fails faults.Words = omega arith
fails faults.TwoInputs = omega arith
fails (faults.CannotRead name reason) = omega arith
fails (faults.CannotWrite name reason) = omega arith
fails (faults.InUse name) = omega arith
fails faults.NotUtf8 = omega arith
fails (faults.Parse error) = text_fails error
fails (faults.At error place) = omega arith
fails (faults.Check error) = tree_fails error
fails faults.TooSmall = omega arith
fails faults.NotAStore = omega arith
fails faults.OldFormat = omega arith
fails faults.AlreadyNew = omega arith
fails faults.LibraryDiffers = omega arith
fails (faults.Damaged byte) = omega arith
fails faults.DeviceWrite = omega arith
fails faults.DeviceRead = omega arith
fails faults.Cut = omega arith
fails faults.TooLong = omega arith
fails (faults.BadHex line) = omega arith
fails faults.FrameCut = omega arith
fails faults.UnknownFrame = omega arith
fails faults.Read = omega arith
fails faults.Write = omega arith
fails faults.Memory = omega arith
