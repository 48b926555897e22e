-- What a disk shows of a bank without groups.
use Rattle.std.proofs.Common.{◌≡◌, ℕ, ◌+◌, ◌<◌, List, [], ◌∷◌, ◌++◌, length, get_or, refl, sym, ◌∙◌, ap, arith}
use Rattle.oa_disk.specs.Disk.{HasBytesAt}
use Rattle.oa_disk.proofs.Ranges.{Holds-front, Holds-behind, Holds-next}
use Rattle.oa_journal.specs.promise.Bank.{from_place, Shows, IsLaidOut, start_of}
use Rattle.oa_journal.specs.Fronts.{front_of}

-- bytes that a disk holds are shown from the place of the head or of the body on
pub held : (place at to : ℕ) (disk bytes : List ℕ) → to ≡ place + at → HasBytesAt disk to bytes → Shows (from_place place disk) at bytes
held place at to disk bytes is holds i lt = ap (λ (k : ℕ). get_or disk k 0) (there i) ∙ holds.each i lt
  where
    there : (i : ℕ) → place + (at + i) ≡ to + i
    there i = omega (arith, is)

pub front_parts : (size place : ℕ) (disk library snapshot : List ℕ) → start_of library snapshot < size
    → HasBytesAt disk place (front_of library snapshot)
    → IsLaidOut size (from_place place disk) library snapshot [] (start_of library snapshot)
front_parts size place disk library snapshot fits holds =
    let second = Holds-front disk place library (snapshot ++ 0 ∷ []) holds in
    let behind_library = Holds-behind disk place library (snapshot ++ 0 ∷ []) holds in
    let third = Holds-front disk (place + length library) snapshot (0 ∷ []) behind_library in
    let last : get_or disk (place + length library + length snapshot) 0 ≡ 0 =
    Holds-next disk (place + length library) snapshot 0 [] behind_library in
    let there : place + length library + length snapshot ≡ place + (length library + length snapshot) = omega arith in
    let shut : get_or disk (place + (length library + length snapshot)) 0 ≡ 0 = ap (λ (k : ℕ). get_or disk k 0) (sym there) ∙ last in
    record {
      text = held place 0 place disk library (omega arith) second;
      image = held place (length library) (place + length library) disk snapshot (omega arith) third;
      behind = (refl, λ is_one. absurd (cc (shut, is_one)));
      inside = fits;
    }
