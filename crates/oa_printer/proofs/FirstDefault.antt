-- The first entry of a coclass as its default.
use Rattle.std.proofs.Common.{◌≡◌, Bool, true, false, List, [], ◌∷◌, refl}
use Rattle.std.specs.Prelude.{◌||◌, ◌&&◌, not}
use Rattle.std.specs.List.{list_any}
use Rattle.oa_idl.specs.declared.parts.Entry.{Entry}
use Rattle.oa_idl.specs.declared.seen.EntriesSeen.{EntriesSeen}
use Rattle.oa_idl.specs.promise.Grammar.{no_entry}
use Rattle.oa_printer.specs.promise.Marked.{mark}
use Rattle.oa_printer.specs.Printable.{AreEntries}

-- neither of two
neither : (a b : Bool) → (a || b) ≡ false → (a ≡ false) × (b ≡ false)
neither true b e = absurd cc
neither false b e = (refl, e)

abbrev some_seen : Bool → EntriesSeen
some_seen d = record { some = true; default = d }

unmarked_may : (d m : Bool) → m ≡ false → not (m && d) ≡ true
unmarked_may d m e = rw e refl

-- Entries that are no default may follow any others.
unmarked : (d f : Bool) (es : List Entry) → list_any (λ e. e.is_default) es ≡ false → AreEntries (some_seen d) es
    → AreEntries (some_seen f) es
unmarked d f [] e h = refl
unmarked d f (x ∷ es) e h =
    let parts = neither x.is_default (list_any (λ e. e.is_default) es) e in
    (unmarked_may f x.is_default parts.0, h.1, unmarked (d || x.is_default) (f || x.is_default) es parts.1 h.2)

pub first_default : (e : Entry) (es : List Entry) → list_any (λ e. e.is_default) (e ∷ es) ≡ false → AreEntries no_entry (e ∷ es)
    → AreEntries no_entry (mark e ∷ es)
first_default e es none h =
    let parts = neither e.is_default (list_any (λ e. e.is_default) es) none in
    (refl, h.1, unmarked (false || e.is_default) true es parts.1 h.2)
