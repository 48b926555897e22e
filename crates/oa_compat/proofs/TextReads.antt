-- What reading the text of a library answers, from what parsing and checking answer.
use Rattle.std.proofs.Common.{◌≡◌, ℕ, List, None, Result, Ok, Err, subst}
use Rattle.std.specs.Str.{IsUtf8}
use Rattle.oa_idl.specs.IsTree.{AnswersText, AnswersTree}
use Rattle.oa_idl.specs.promise.IsTree.{IsTree}
use Rattle.oa_idl.specs.promise.Trees.{TreeValue}
use Rattle.oa_idl.specs.declared.stop.ParseError.{ParseError}
use Rattle.oa_idl.specs.declared.stop.ParseError.TheVariants as parses
use Rattle.oa_sema.specs.promise.Breaches.{first_breach}
use Rattle.oa_compat.specs.LibraryTexts.{IsMade, IsTextOf, parse_fault}
use Rattle.oa_compat.specs.declared.library_text.TextError.{TextError}
use Rattle.oa_compat.specs.declared.library_text.TextError.TheVariants.{NoLibrary, Memory}

-- where a text stands for one tree, the library of the tree is that of the text
pub made_read : (bytes : List ℕ) (tree : TreeValue) (r : Result TreeValue TextError) → IsUtf8 bytes → IsTree bytes tree
    → ((text : List ℕ) (s t : TreeValue) → IsTree text s → IsTree text t → s ≡ t) → IsMade tree r → IsTextOf bytes r
made_read bytes tree (Ok library) utf stands one h = (utf, record { tree = tree; stands = stands; unbroken = h.0; says = h.1 })
made_read bytes tree (Err NoLibrary) utf stands one h =
    λ library is. h (subst (λ (t : TreeValue). first_breach t ≡ None) (one bytes is.1.tree tree is.1.stands stands) is.1.unbroken)
made_read bytes tree (Err Memory) utf stands one h = (utf, stands.short)

pub parse_read : (bytes : List ℕ) (e : ParseError) → IsUtf8 bytes → AnswersText bytes (Err e) → ((t : TreeValue) → IsTree bytes t → AnswersTree t (Err e))
    → IsTextOf bytes (Err (parse_fault e))
parse_read bytes (parses.Syntax place) utf exact found = λ library is. found is.1.tree is.1.stands
parse_read bytes (parses.Limit which) utf exact found = λ library is. found is.1.tree is.1.stands
parse_read bytes parses.Memory utf exact found = (utf, exact)
