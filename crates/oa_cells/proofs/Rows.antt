-- What the walks of src/raw.rt know of a row of places. Assumes `Logic`.
--     start_had, start_made, mark_had, mark_made   a `Start` is one word, and the other parts take no bytes
--     value_out, value_in, value_seen              what a place holds is one machine value, with what it owns
--     take_place, put_place                        one place is taken out of the row, and put back
--     fresh_row, row_to_room                       new room is a row of empty places, and any row is room again
--     first_lent                                   a `&` to the places shows the values at its begin as a slice
use denote.Struct.Declared as Declared
use Rattle.oa_cells.proofs.Steps.{◌≡◌, refl, sym, ap, subst, ◌∙◌, ℕ, zero, suc, ◌+◌, ◌*◌, ◌<◌, arith, List, [], ◌∷◌, ◌++◌, map, length}
use Rattle.oa_cells.proofs.Steps.{take, set, get_or, replicate, Ura, full_share, ent, sep, emp, ex, guard, id⊢, mono_r, Fml, Lft, fsep, fat}
use Rattle.oa_cells.proofs.Steps.{froom, Ty, ty_array, Val, vstruct, vcons, vnil, of_list, Logic, sem, Item, Goal, Seq, Step, step, ‵, ◌⊛◌}
use Rattle.oa_cells.proofs.Steps.{some, given, learn, pick, show, check, ◌$◌, ◌∵◌, !, qed, by, move, keep, drop, use1, use2, split, rewrite}
use Rattle.oa_cells.proofs.Steps.{frame, fsplit, fjoin, fpick, fpack, feq_i, feq_l, done, RattleType, Valss, Typed, Is, shows, part_at}
use Rattle.oa_cells.proofs.Steps.{param, layout, Laws, param_laws, Ptr, RawPtr, ptr_val, elements_shared, makes_shadow, nothing, peeks}
use Rattle.oa_cells.proofs.Steps.{Shape, Struct, within, shape, Tuple, tuple_type, part_in, part_out, Option, Some, None, type_size, El, R}
use Rattle.oa_cells.proofs.Steps.{el_x, elτ, Good, word}
use native.Mathlib.Nat.{zero-mul, suc-mul}
use lib.ListN.{take-append-drop, drop as rest_of}
use Rattle.oa_cells.specs.Ownership.{place_owned, row_owned, row_without, place_lent, row_lent}
use Rattle.oa_cells.specs.contracts.raw.Places as P-type
use Rattle.oa_cells.specs.contracts.raw.Start as S-type

module _ (E : El) where
  abbrev pub Pl : RattleType
  Pl = P-type.the_row (R E)

  abbrev pub St : RattleType
  St = S-type.the_row (R E)

  -- the one field of `Places`
  abbrev pub Mark : RattleType
  Mark = Struct (shape (P-type.the_type (R E)))

  abbrev pub size : ℕ
  size = type_size (R E)

  abbrev pub Slot : Type 0
  Slot = Option (el_x E)

-- ---- how the parts are stored

abbrev pub mark : Val
mark = vstruct (vcons (vstruct vnil) vnil)

-- a struct of one raw pointer
abbrev pointer_alone : Shape
pointer_alone = record { name = []; args = []; types = []; fields = RawPtr ∷ [] }

abbrev pub Word : RattleType
Word = Struct pointer_alone

pub mark_made : (E : El) {M : Type 1} {𝓤 : Ura M} (𝓛 : Logic 𝓤) → ent 𝓤 (emp 𝓤) (sem 𝓛 ((Mark E).own_val (tt, tt) (mark ∷ [])))
mark_made E 𝓛 = makes_shadow 𝓛 ((Mark E).own_val (tt, tt) (mark ∷ [])) (λ vss. (tt, ((λ uss. (tt, tt)), tt)))
    ((vstruct vnil ∷ [], tt), (refl, ((tt, (refl, tt)), tt)))

module _ {M : Type 1} {𝓤 : Ura M} {𝓛 : Logic 𝓤} {K : Type 0} {Γ : List (Item 𝓤)} {G : Goal 𝓤 𝓛.H} where
  pub mark_had : K → (E : El) (vs : List Val) → (vs ≡ mark ∷ [] → Seq K 𝓛 Γ G) → Seq K 𝓛 (‵ ((Mark E).own_val (tt, tt) vs) ∷ Γ) G
  mark_had t E vs on =
      let Alone = λ (us : List Val). vs ≡ vstruct (of_list (us ++ [])) ∷ [] in
      fpick t (λ inner. fsplit t $ feq_l t (λ outer. fsplit t $ fpick t (λ unused. fsplit t $ feq_l t (λ e. drop t $ drop t $ on (subst Alone e outer)))))

  pub start_had : K → (at : Ptr) (vs : List Val) → (vs ≡ word at ∷ [] → Seq K 𝓛 Γ G) → Seq K 𝓛 (‵ (Word.own_val (at, tt) vs) ∷ Γ) G
  start_had t at vs on =
      let Alone = λ (us : List Val). vs ≡ vstruct (of_list (us ++ [])) ∷ [] in
      fpick t (λ inner. fsplit t $ feq_l t (λ outer. fsplit t $ feq_l t (λ e. drop t $ on (subst Alone e outer))))

  pub start_made : K → (at : Ptr) → Step K 𝓛 (‵ (Word.own_val (at, tt) (word at ∷ [])) ∷ Γ) G Γ G
  start_made t at = step (λ on.
      let inner = ptr_val at ∷ [] in let outer = word at ∷ [] in
      nothing t $ feq_i t (List Val) inner inner refl $ fjoin t $ feq_i t (List Val) outer outer refl $ fjoin t $
      fpack t (Valss (RawPtr ∷ [])) (within pointer_alone (at, tt) outer) (inner, tt) $ on)

-- ---- a tuple of three values that are one machine value each

abbrev pub triple : Val → Val → Val → Val
triple u v w = vstruct (vcons u (vcons v (vcons w vnil)))

pub triple_made : {M : Type 1} {𝓤 : Ura M} (𝓛 : Logic 𝓤) (X Y Z : RattleType) (x : X.Denot) (y : Y.Denot) (z : Z.Denot) (u v w : Val)
    → ent 𝓤 (sep 𝓤 (sem 𝓛 (X.own_val x (u ∷ []))) (sep 𝓤 (sem 𝓛 (Y.own_val y (v ∷ []))) (sem 𝓛 (Z.own_val z (w ∷ [])))))
    (sem 𝓛 ((Tuple (X ∷ Y ∷ Z ∷ [])).own_val (x, y, z) (triple u v w ∷ [])))
triple_made 𝓛 X Y Z x y z u v w =
    let all = triple u v w ∷ [] in
    qed 𝓛 (‵ (X.own_val x (u ∷ [])) ∷ ‵ (Y.own_val y (v ∷ [])) ∷ ‵ (Z.own_val z (w ∷ [])) ∷ []) ∵
    nothing ! $ move ! (3 ∷ 0 ∷ []) $ fjoin ! $ move ! (2 ∷ 0 ∷ []) $ fjoin ! $ move ! (1 ∷ 0 ∷ []) $ fjoin ! $ feq_i ! (List Val) all all refl $ fjoin ! $
    fpack ! (Valss (X ∷ Y ∷ Z ∷ [])) (within (Declared.shape (tuple_type (X ∷ Y ∷ Z ∷ []))) (x, (y, (z, tt))) all) (u ∷ [], (v ∷ [], (w ∷ [], tt))) $ done !

-- ---- one value

only_one : (τ : Ty) (vs : List Val) → Typed (τ ∷ []) vs → (v : Val) × ((vs ≡ v ∷ []) × Good τ v)
only_one τ [] typed = absurd typed
only_one τ (v ∷ []) typed = (v, (refl, typed.0))
only_one τ (v ∷ w ∷ vs) typed = absurd typed.1

module _ (Y : RattleType) (L : Laws Y) {M : Type 1} {𝓤 : Ura M} where
  module _ (𝓛 : Logic 𝓤) where
    open 𝓛 use {H}

    pub value_out : (x : Y.Denot) (b o : ℕ) → ent 𝓤 (sem 𝓛 (part_at (param 0 Y) full_share x b o))
        (ex 𝓤 (λ (v : Val). guard 𝓤 (Good (layout Y) v) (sep 𝓤 (H.at full_share (layout Y) b o v) (sem 𝓛 (Y.own_val x (v ∷ []))))))
    value_out x b o =
        qed 𝓛 (‵ (part_at (param 0 Y) full_share x b o) ∷ []) ∵
        use1 𝓛 (some (λ (v : Val). ‵ (fat full_share (layout Y) b o v) ⊛ ‵ (Y.own_val x (v ∷ [])))) (part_out 𝓛 (param 0 Y) refl full_share x b o) $ pick !
        (λ v. split ! $ move ! (1 ∷ []) $
        peeks ! (param 0 Y) (Is (param 0 Y)) (shows 𝓛 (param 0 Y)) x (v ∷ []) (λ known.
        let typed = ((param_laws 0 Y L).lawful 𝓛).typed x (v ∷ []) known in
        show ! (λ (w : Val). guard 𝓤 (Good (layout Y) w) (sep 𝓤 (H.at full_share (layout Y) b o w) (sem 𝓛 (Y.own_val x (w ∷ []))))) v $ check ! typed.0 $ move !
        (1 ∷ 0 ∷ []) $ done !))

    pub value_in : (x : Y.Denot) (b o : ℕ) (v : Val) → ent 𝓤 (sep 𝓤 (H.at full_share (layout Y) b o v) (sem 𝓛 (Y.own_val x (v ∷ []))))
        (sem 𝓛 (part_at (param 0 Y) full_share x b o))
    value_in x b o v = part_in 𝓛 (param 0 Y) refl full_share x b o v

  module _ {𝓛 : Logic 𝓤} {K : Type 0} {Γ : List (Item 𝓤)} {G : Goal 𝓤 𝓛.H} where
    pub value_seen : K → (x : Y.Denot) (vs : List Val)
        → ((v : Val) → vs ≡ v ∷ [] → Good (layout Y) v → Seq K 𝓛 (‵ (Y.own_val x (v ∷ [])) ∷ Γ) G) → Seq K 𝓛 (‵ (Y.own_val x vs) ∷ Γ) G
    value_seen t x vs on = peeks t (param 0 Y) (Is (param 0 Y)) (shows 𝓛 (param 0 Y)) x vs (λ known.
        let one = only_one (layout Y) vs (((param_laws 0 Y L).lawful 𝓛).typed x vs known) in
        rewrite t 0 (λ (us : List Val). ‵ (Y.own_val x us)) one.1.0 refl $ on one.0 one.1.0 one.1.1)

-- ---- the row

pub value_within : {X : Type 0} (slots : List (Option X)) (i : ℕ) (x : X) → get_or slots i None ≡ Some x → i < length slots
value_within [] i x e = cc
value_within (slot ∷ slots) zero x e = omega arith
value_within (slot ∷ slots) (suc i) x e = omega (arith, value_within slots i x e)

module _ (E : El) {M : Type 1} {𝓤 : Ura M} (𝓛 : Logic 𝓤) (b : ℕ) where
  open 𝓛 use {H}

  abbrev s : ℕ
  s = size E

  abbrev Place : ℕ → Slot E → Fml
  Place = place_owned (R E) b

  abbrev Row : ℕ → List (Slot E) → Fml
  Row = row_owned (R E) b

  abbrev pub Without : ℕ → ℕ → List (Slot E) → Fml
  Without = row_without (R E) b

  pub take_place : (slots : List (Slot E)) (i o at : ℕ) → i < length slots → at ≡ i * s + o
      → ent 𝓤 (sem 𝓛 (Row o slots)) (sep 𝓤 (sem 𝓛 (Place at (get_or slots i None))) (sem 𝓛 (Without i o slots)))
  take_place [] i o at lt e = absurd (omega (arith, lt))
  take_place (slot ∷ slots) zero o at lt e =
      let same : o ≡ at = omega (arith, e, zero-mul s) in
      subst (λ k. ent 𝓤 (sem 𝓛 (Row o (slot ∷ slots))) (sep 𝓤 (sem 𝓛 (Place k slot)) (sem 𝓛 (Row (o + s) slots)))) same (id⊢ 𝓤 (sem 𝓛 (Row o (slot ∷ slots))))
  take_place (slot ∷ slots) (suc i) o at lt e =
      let Taken = Place at (get_or slots i None) in let Left = Without i (o + s) slots in
      qed 𝓛 (‵ (Row o (slot ∷ slots)) ∷ []) ∵ fsplit ! $ move ! (1 ∷ []) $
      use1 𝓛 (‵ Taken ⊛ ‵ Left) (take_place slots i (o + s) at (omega (arith, lt)) (omega (arith, e, suc-mul i s))) $ split ! $
      move ! (2 ∷ 1 ∷ []) $ fjoin ! $ move ! (1 ∷ []) $ done !

  pub put_place : (slots : List (Slot E)) (i o at : ℕ) → i < length slots → at ≡ i * s + o → (new : Slot E)
      → ent 𝓤 (sep 𝓤 (sem 𝓛 (Place at new)) (sem 𝓛 (Without i o slots))) (sem 𝓛 (Row o (set slots i new)))
  put_place [] i o at lt e new = absurd (omega (arith, lt))
  put_place (slot ∷ slots) zero o at lt e new =
      let same : o ≡ at = omega (arith, e, zero-mul s) in
      subst (λ k. ent 𝓤 (sep 𝓤 (sem 𝓛 (Place k new)) (sem 𝓛 (Row (o + s) slots))) (sem 𝓛 (Row o (new ∷ slots)))) same (id⊢ 𝓤 (sem 𝓛 (Row o (new ∷ slots))))
  put_place (slot ∷ slots) (suc i) o at lt e new =
      qed 𝓛 (‵ (Place at new) ∷ ‵ (fsep (Place o slot) (Without i (o + s) slots)) ∷ []) ∵ move ! (1 ∷ []) $ fsplit ! $ move ! (2 ∷ 1 ∷ []) $
      use2 𝓛 (‵ (Row (o + s) (set slots i new))) (put_place slots i (o + s) at (omega (arith, lt)) (omega (arith, e, suc-mul i s)) new) $
      move ! (1 ∷ 0 ∷ []) $ fjoin ! $ done !

  pub fresh_row : (n o : ℕ) → ent 𝓤 (H.room (ty_array (elτ E) n) b o) (sem 𝓛 (Row o (replicate n None)))
  fresh_row zero o = qed 𝓛 (‵ (froom (ty_array (elτ E) 0) b o) ∷ []) ∵ keep ! [] $ done !
  fresh_row (suc n) o =
      qed 𝓛 (‵ (froom (ty_array (elτ E) (suc n)) b o) ∷ []) ∵
      use1 𝓛 (‵ (froom (elτ E) b o) ⊛ ‵ (froom (ty_array (elτ E) n) b (o + s))) (𝓛.laws.room_uncons (elτ E) n b o) $ split ! $
      use1 𝓛 (‵ (Place o None)) (𝓛.laws.room-raw (elτ E) b o) $ frame ! $ by ! (fresh_row n (o + s))

  -- a value that is forgotten leaves its place as room
  place_to_room : (slot : Slot E) (o : ℕ) → ent 𝓤 (sem 𝓛 (Place o slot)) (H.room (elτ E) b o)
  place_to_room None o = 𝓛.laws.raw-room (elτ E) b o
  place_to_room (Some x) o =
      qed 𝓛 (‵ (Place o (Some x)) ∷ []) ∵
      use1 𝓛 (some (λ (v : Val). given (Good (elτ E) v) (‵ (fat full_share (elτ E) b o v) ⊛ ‵ (E.row.own_val x (v ∷ []))))) (value_out E.row E.laws 𝓛 x b o) $
      pick ! (λ v. learn ! (λ good. split ! $ use1 𝓛 (‵ (froom (elτ E) b o)) (𝓛.laws.at_room (elτ E) b o v) $ keep ! (0 ∷ []) $ done !))

  pub row_to_room : (slots : List (Slot E)) (o : ℕ) → ent 𝓤 (sem 𝓛 (Row o slots)) (H.room (ty_array (elτ E) (length slots)) b o)
  row_to_room [] o = 𝓛.laws.room_nil (elτ E) b o
  row_to_room (slot ∷ slots) o =
      qed 𝓛 (‵ (Place o slot) ∷ ‵ (Row (o + s) slots) ∷ []) ∵
      use1 𝓛 (‵ (froom (elτ E) b o)) (place_to_room slot o) $ move ! (1 ∷ []) $
      use1 𝓛 (‵ (froom (ty_array (elτ E) (length slots)) b (o + s))) (row_to_room slots (o + s)) $ move ! (1 ∷ []) $ by !
      (𝓛.laws.room_cons (elτ E) (length slots) b o)

  module _ (κ : Lft) where
    values_lent : (xs : List (el_x E)) (rest : List (Slot E)) (o : ℕ)
        → ent 𝓤 (sem 𝓛 (row_lent (R E) b o (map Some xs ++ rest) κ)) (sem 𝓛 (elements_shared (R E) xs b o κ))
    values_lent [] rest o = qed 𝓛 (‵ (row_lent (R E) b o rest κ) ∷ []) ∵ keep ! [] $ done !
    values_lent (x ∷ xs) rest o = mono_r 𝓤 (sem 𝓛 (place_lent (R E) b o (Some x) κ)) (values_lent xs rest (o + s))

    pub first_lent : (slots : List (Slot E)) (n o : ℕ) (xs : List (el_x E)) → take n slots ≡ map Some xs
        → ent 𝓤 (sem 𝓛 (row_lent (R E) b o slots κ)) (sem 𝓛 (elements_shared (R E) xs b o κ))
    first_lent slots n o xs e =
        let rest = rest_of n slots in let apart : map Some xs ++ rest ≡ slots = ap (λ front. front ++ rest) (sym e) ∙ take-append-drop n slots in
        subst (λ row. ent 𝓤 (sem 𝓛 (row_lent (R E) b o row κ)) (sem 𝓛 (elements_shared (R E) xs b o κ))) apart (values_lent xs rest o)
