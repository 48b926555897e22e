-- The stream of one client.
use Rattle.std.proofs.Common.{◌≡◌, inl, inr, ℕ, Bool, true, false, if◌then◌else◌, List, [], ◌∷◌, ◌++◌, refl, sym, ap, ◌∙◌, subst, append_assoc}
use Rattle.std.specs.Prelude.{◌==◌}
use Rattle.std.proofs.lemmas.List.{append-nil}
use Rattle.oa_mux.specs.promise.Marks.{StreamPiece, Byte, Last}
use Rattle.oa_mux.specs.Marks.{pieces}
use Rattle.oa_gateway.specs.Places.{Closes, Deed, Hears, HearsEnd, Leaves, MayDo, Number, Sends, after_deed, puts, stands}
use Rattle.oa_gateway.specs.Traces.{AllMayBeDone, IsItsStream, IsWholeStream, StaysPresent, StaysThere, after_deeds, sent, sent_by, stream}
use Rattle.oa_gateway.specs.declared.place.Standing.{Standing}
use Rattle.oa_gateway.specs.declared.place.Standing.TheVariants.{Absent, Present, Ending, Over}

pieces_append : (xs ys : List ℕ) → pieces (xs ++ ys) ≡ pieces xs ++ pieces ys
unfolding pieces
pieces_append [] ys = refl
pieces_append (x ∷ xs) ys = ap (λ l. Byte x ∷ l) (pieces_append xs ys)

still : (s : Standing) (bytes : List ℕ) (all : List StreamPiece) → IsItsStream s bytes all → IsItsStream s (bytes ++ []) (all ++ [])
still s bytes all h = subst (λ l. IsItsStream s (bytes ++ []) l) (sym (append-nil all)) (subst (λ l. IsItsStream s l all) (sym (append-nil bytes)) h)

none : (bytes b : List ℕ) → bytes ≡ [] → bytes ++ b ≡ b
none bytes b e = ap (λ l. l ++ b) e

none_all : (all p : List StreamPiece) → all ≡ [] → all ++ p ≡ p
none_all all p e = ap (λ l. l ++ p) e

ended : (bytes : List ℕ) (all : List StreamPiece) → all ≡ pieces bytes → all ++ Last ∷ [] ≡ pieces (bytes ++ []) ++ Last ∷ []
ended bytes all h = ap (λ l. l ++ Last ∷ []) (h ∙ ap pieces (sym (append-nil bytes)))

answered : (b : Bool) (bytes : List ℕ) (all : List StreamPiece) → all ≡ pieces bytes ++ Last ∷ [] → IsItsStream (if b then Over else Ending) bytes all
answered true bytes all h = inr h
answered false bytes all h = h

goes : (s : Standing) (owed : ℕ) (deed : Deed) (bytes : List ℕ) (all : List StreamPiece) → StaysPresent deed → MayDo (record { standing = s; owed = owed }) deed
    → IsItsStream s bytes all
    → IsItsStream (stands owed s deed) (bytes ++ sent_by deed) (all ++ puts s deed)
goes Absent owed (Sends b) bytes all there may h = none_all all (pieces b) h.1 ∙ ap pieces (sym (none bytes b h.0))
goes Absent owed Closes bytes all there may h = inl (still Absent bytes all h)
goes Absent owed Leaves bytes all there may h = absurd there
goes Absent owed (Hears b) bytes all there may h = still Absent bytes all h
goes Absent owed HearsEnd bytes all there may h = still Absent bytes all h
goes Present owed (Sends b) bytes all there may h = ap (λ l. l ++ pieces b) h ∙ sym (pieces_append bytes b)
goes Present owed Closes bytes all there may h = ended bytes all h
goes Present owed Leaves bytes all there may h = absurd there
goes Present owed (Hears b) bytes all there may h = still Present bytes all h
goes Present owed HearsEnd bytes all there may h = still Present bytes all h
goes Ending owed (Sends b) bytes all there (inl e) h = cc
goes Ending owed (Sends b) bytes all there (inr e) h = cc
goes Ending owed Closes bytes all there may h = still Ending bytes all h
goes Ending owed Leaves bytes all there may h = absurd there
goes Ending owed (Hears b) bytes all there may h = still Ending bytes all h
goes Ending owed HearsEnd bytes all there may h = answered (owed == 0) (bytes ++ []) (all ++ []) (still Ending bytes all h)
goes Over owed (Sends b) bytes all there (inl e) h = cc
goes Over owed (Sends b) bytes all there (inr e) h = cc
goes Over owed Closes bytes all there may h = still Over bytes all h
goes Over owed Leaves bytes all there may h = absurd there
goes Over owed (Hears b) bytes all there may h = still Over bytes all h
goes Over owed HearsEnd bytes all there may h = still Over bytes all h

all_go : (n : Number) (deeds : List Deed) (bytes : List ℕ) (all : List StreamPiece) → IsItsStream n.standing bytes all → StaysThere deeds → AllMayBeDone n deeds
    → IsItsStream (after_deeds n deeds).standing (bytes ++ sent deeds) (all ++ stream n deeds)
unfolding after_deeds sent stream StaysThere AllMayBeDone
all_go n [] bytes all h there may = still n.standing bytes all h
all_go n (deed ∷ deeds) bytes all h there may =
    let one = goes n.standing n.owed deed bytes all there.0 may.0 h in
    let more = all_go (after_deed n deed) deeds (bytes ++ sent_by deed) (all ++ puts n.standing deed) one there.1 may.1 in
    subst (λ l. IsItsStream (after_deeds (after_deed n deed) deeds).standing l (all ++ (puts n.standing deed ++ stream (after_deed n deed) deeds)))
    (append_assoc bytes (sent_by deed) (sent deeds))
    (subst (λ l. IsItsStream (after_deeds (after_deed n deed) deeds).standing ((bytes ++ sent_by deed) ++ sent deeds) l)
    (append_assoc all (puts n.standing deed) (stream (after_deed n deed) deeds)) more)

starts : (s : Standing) → s ≡ Absent → IsItsStream s [] []
starts s e = subst (λ (t : Standing). IsItsStream t [] []) (sym e) (refl, refl)

pub there : (n : Number) (deeds : List Deed) → n.standing ≡ Absent → StaysThere deeds → AllMayBeDone n deeds
    → IsItsStream (after_deeds n deeds).standing (sent deeds) (stream n deeds)
there n deeds e stays may = all_go n deeds [] [] (starts n.standing e) stays may

stream_last : (n : Number) (deeds : List Deed) (deed : Deed) → stream n (deeds ++ deed ∷ []) ≡ stream n deeds ++ puts (after_deeds n deeds).standing deed
unfolding after_deeds stream
stream_last n [] deed = append-nil (puts n.standing deed)
stream_last n (one ∷ deeds) deed =
    ap (λ l. puts n.standing one ++ l) (stream_last (after_deed n one) deeds deed)
    ∙ sym (append_assoc (puts n.standing one) (stream (after_deed n one) deeds) (puts (after_deeds (after_deed n one) deeds).standing deed))

leaves : (s : Standing) (bytes : List ℕ) (all : List StreamPiece) → IsItsStream s bytes all → IsWholeStream bytes (all ++ puts s Leaves)
leaves Absent bytes all h = inl (h.0, append-nil all ∙ h.1)
leaves Present bytes all h = inr (ap (λ l. l ++ Last ∷ []) h)
leaves Ending bytes all h = inr (append-nil all ∙ h)
leaves Over bytes all (inl h) = inl (h.0, append-nil all ∙ h.1)
leaves Over bytes all (inr h) = inr (append-nil all ∙ h)

pub gone : (n : Number) (deeds : List Deed) → n.standing ≡ Absent → StaysThere deeds → AllMayBeDone n deeds
    → IsWholeStream (sent deeds) (stream n (deeds ++ Leaves ∷ []))
gone n deeds e stays may =
    subst (IsWholeStream (sent deeds)) (sym (stream_last n deeds Leaves))
    (leaves (after_deeds n deeds).standing (sent deeds) (stream n deeds) (there n deeds e stays may))
