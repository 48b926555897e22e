-- What is done with one number, among all.
use Rattle.std.proofs.Common.{◌≡◌, ◌≢◌, ℕ, Bool, true, false, if◌then◌else◌, List, [], ◌∷◌, ◌++◌, refl, sym, ap, ◌∙◌, eqb, append_assoc}
use Rattle.std.proofs.lemmas.Bool.{eqb-true}
use Rattle.oa_mux.specs.promise.Frames.{InHead, pieces_in}
use Rattle.oa_mux.specs.promise.Marks.{StreamPiece, Tagged, Of, Flush, States, tag_all, with_state_at}
use Rattle.oa_mux.specs.Marks.{if_own, own}
use Rattle.oa_gateway.specs.Frames.{gateway_number}
use Rattle.oa_gateway.specs.Places.{Deed, Number, after_deed, puts}
use Rattle.oa_gateway.specs.Traces.{Says, stream, streams}

own_named_same : {X : Type 0} (c d : ℕ) (xs : List X) → eqb d c ≡ true → own c (tag_all d xs) ≡ xs
unfolding own tag_all
own_named_same c d [] e = refl
own_named_same c d (x ∷ xs) e = rw (e, own_named_same c d xs e) refl

own_named_other : {X : Type 0} (c d : ℕ) (xs : List X) → eqb d c ≡ false → own c (tag_all d xs) ≡ []
unfolding own tag_all
own_named_other c d [] e = refl
own_named_other c d (x ∷ xs) e = rw (e, own_named_other c d xs e) refl

cons_if : {X : Type 0} (b : Bool) (x : X) (xs ys : List X) → if_own b x (xs ++ ys) ≡ if_own b x xs ++ ys
cons_if true x xs ys = refl
cons_if false x xs ys = refl

own_append : {X : Type 0} (c : ℕ) (xs ys : List (Tagged X)) → own c (xs ++ ys) ≡ own c xs ++ own c ys
unfolding own
own_append c [] ys = refl
own_append c (Of d x ∷ xs) ys = ap (if_own (eqb d c) x) (own_append c xs ys) ∙ cons_if (eqb d c) x (own c xs) (own c ys)
own_append c (Flush ∷ xs) ys = own_append c xs ys

not_gateway : (b : Bool) (c : ℕ) → eqb gateway_number c ≡ b → c ≢ gateway_number → b ≡ false
not_gateway true c e ne = absurd (ne (sym (eqb-true gateway_number c e)))
not_gateway false c e ne = refl

one_step : (at other : Number) (deed : Deed) (d c : ℕ) (rest : List Deed) (b : Bool) → eqb d c ≡ b → (b ≡ true → other ≡ at)
    → own c (tag_all d (puts at.standing deed)) ++ stream (if b then after_deed at deed else other) rest ≡ stream other (if_own b deed rest)
unfolding stream
one_step at other deed d c rest true e s = rw (own_named_same c d (puts at.standing deed) e, s refl) refl
one_step at other deed d c rest false e s = rw (own_named_other c d (puts at.standing deed) e) refl

pub each_number : (numbers : States Number) (deeds : List (Tagged Deed)) (c : ℕ) → c ≢ gateway_number → own c (streams numbers deeds) ≡ stream (numbers c)
    (own c deeds)
unfolding streams own stream
each_number numbers [] c ne = refl
each_number numbers (Of d deed ∷ rest) c ne =
    own_append c (tag_all d (puts (numbers d).standing deed)) (streams (with_state_at d (after_deed (numbers d) deed) numbers) rest)
    ∙ ap (λ l. own c (tag_all d (puts (numbers d).standing deed)) ++ l) (each_number (with_state_at d (after_deed (numbers d) deed) numbers) rest c ne)
    ∙ one_step (numbers d) (numbers c) deed d c (own c rest) (eqb d c) refl (λ e. ap numbers (sym (eqb-true d c e)))
each_number numbers (Flush ∷ rest) c ne =
    let e : eqb gateway_number c ≡ false = not_gateway (eqb gateway_number c) c refl ne in
    rw e (each_number numbers rest c ne)

pub in_turn : (front back : List ℕ) (before behind : List (Tagged StreamPiece)) → Says front before → Says back behind → Says (front ++ back) (before ++ behind)
in_turn front back before behind f b rest =
    ap (pieces_in (InHead [])) (append_assoc front back rest)
    ∙ f (back ++ rest)
    ∙ ap (λ l. before ++ l) (b rest)
    ∙ sym (append_assoc before behind (pieces_in (InHead []) rest))
