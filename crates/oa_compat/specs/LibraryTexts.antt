-- Definitions for contracts and proofs, beside promise/LibraryTexts.
use Rattle.std.specs.Prelude.{◌≡◌, ℕ, List, None, Result, Ok, Err}
use Rattle.oa_idl.specs.promise.Trees.{TreeValue}
use Rattle.oa_idl.specs.declared.stop.ParseError.{ParseError}
use Rattle.oa_idl.specs.declared.stop.ParseError.TheVariants as parses
use Rattle.oa_sema.specs.promise.Breaches.{first_breach}
use Rattle.oa_sema.specs.promise.Libraries.{marked}
use Rattle.oa_sema.specs.declared.fault.CheckError.{CheckError}
use Rattle.oa_sema.specs.declared.fault.CheckError.TheVariants as checks
use Rattle.oa_compat.specs.declared.library_text.TextError.{TextError}
use Rattle.oa_compat.specs.declared.library_text.TextError.TheVariants.{NoLibrary, Memory}
use Rattle.oa_compat.specs.promise.LibraryTexts.{StandsFor, MayBeLibrary}

-- out of memory implies only that there is a text to be read
abbrev pub IsTextOf : List ℕ → Result TreeValue TextError → Type 0
IsTextOf bytes (Ok library) = StandsFor bytes library
IsTextOf bytes (Err NoLibrary) = (library : TreeValue) → StandsFor bytes library → ⊥
IsTextOf bytes (Err Memory) = MayBeLibrary bytes

-- the same for the tree of a text
abbrev pub IsMade : TreeValue → Result TreeValue TextError → Type 0
IsMade tree (Ok library) = (first_breach tree ≡ None) × (library ≡ marked tree)
IsMade tree (Err NoLibrary) = first_breach tree ≡ None → ⊥
IsMade tree (Err Memory) = Unit {0}

abbrev pub parse_fault : ParseError → TextError
parse_fault (parses.Syntax place) = NoLibrary
parse_fault (parses.Limit which) = NoLibrary
parse_fault parses.Memory = Memory

abbrev pub check_fault : CheckError → TextError
check_fault (checks.DuplicateName n) = NoLibrary
check_fault (checks.DuplicateId n) = NoLibrary
check_fault (checks.DuplicateGuid g) = NoLibrary
check_fault (checks.UnknownInterface n) = NoLibrary
check_fault (checks.GetPutDisagree n) = NoLibrary
check_fault (checks.ArrayParameter n) = NoLibrary
check_fault (checks.BadDefault n) = NoLibrary
check_fault checks.TextTooLong = NoLibrary
check_fault checks.Memory = Memory
