-- A writer adds to the bytes that have been written, and removes none.
use Rattle.std.proofs.Common.{◌≡◌, ◌≤◌, List, ℕ, [], ◌++◌, length, take, drop, Result, Ok, Err, OnOk, OnErr, refl, sym, ap, ◌∙◌}
use Rattle.std.proofs.Common.{append_assoc}
use Rattle.std.proofs.lemmas.List.{append-nil, take-append-le, drop-append-le}
use Rattle.std.proofs.Math.Seq.{take-append_seam}
use Rattle.oa_ndr.specs.Writing.{FieldOutput, StillHas, TakesNothingBack, in_field}

-- a vector with a field from some place on
abbrev pub from : ℕ → List ℕ → FieldOutput
from start items = record { before = take start items; field = drop start items }

pub has_itself : (o : FieldOutput) → StillHas o o
unfolding StillHas
has_itself o = (refl, [], sym (append-nil o.field))

-- back to its first bytes
pub taken_back : (was o : FieldOutput) → StillHas was o → in_field (take (length was.field)) o ≡ was
unfolding StillHas
taken_back was o h = rw (h.0, h.2, take-append_seam was.field h.1) refl

-- With more bytes after them.
pub has_more : (was o : FieldOutput) (text : List ℕ) → StillHas was o → StillHas was (in_field (λ out. out ++ text) o)
unfolding StillHas
has_more was o text h = (h.0, h.1 ++ text, ap (λ (xs : List ℕ). xs ++ text) h.2 ∙ append_assoc was.field h.1 text)

pub keeps_more : (old new : FieldOutput) (text : List ℕ) → new ≡ in_field (λ out. out ++ text) old → TakesNothingBack old new
keeps_more old new text is was h = rw is (has_more was old text h)

-- of a vector to which a call added something, or nothing
pub keeps_added : {X E : Type 0} (r : Result X E) (start : ℕ) (old new text : List ℕ) → start ≤ length old → OnOk r (new ≡ old ++ text) → OnErr r (new ≡ old)
    → TakesNothingBack (from start old) (from start new)
keeps_added (Ok x) start old new text in_it ok err =
    keeps_more (from start old) (from start new) text (rw (ok, take-append-le start old text in_it, drop-append-le start old text in_it) refl)
keeps_added (Err e) start old new text in_it ok err = λ was h. rw err h

-- Truncation to the bytes that were there when the call began.
pub back_to : (old new o : FieldOutput) (n : ℕ) → TakesNothingBack old new → n ≡ length old.field → o ≡ in_field (take n) new → o ≡ old
back_to old new o n kept at is = is ∙ ap (λ (i : ℕ). in_field (take i) new) at ∙ taken_back old new (kept old (has_itself old))
